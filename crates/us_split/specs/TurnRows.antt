-- Inside the crate: turns by the places of their channels, and plans by these.
use Rattle.std.specs.Prelude.{◌≡◌, ℕ, zero, suc, ◌+◌, ◌-◌, ◌<◌, ◌≤◌, ◌==◌, nat_lt, min, Bool, false, ◌||◌, if◌then◌else◌, List, [], ◌∷◌, ◌++◌, length, map, position, set, sum, slice_get, slice_index, slice_index_or, zip, Option, Some, None, option_map}
use Rattle.std.specs.List.{AllByRecursion}
use Rattle.us_slots.specs.Bursts.{ChannelBursts}
use Rattle.us_slots.specs.Capacities.{capacity_of}
use Rattle.us_flows.specs.declared.channels.Channel.{Channel}
use Rattle.us_flows.specs.Tables.{Tables}
use Rattle.us_flows.specs.Clusters.{Turn, turns_of}
use Rattle.us_flows.specs.Lawful.{AreTables}
use Rattle.us_split.specs.declared.turn_rows.Seat.{Seat}
use Rattle.us_split.specs.Divisions.{divided}
use Rattle.us_slots.specs.Lists.{added}
use Rattle.us_split.specs.Plans.{weight, at_most, minus, max_burst_bytes}
use Rattle.us_split.specs.PartialPlans.{Asker, ChannelPlan, PartialPlan, asker_of, budget_in, returned, taken, with_share}

-- what minislots carry on a channel, by their number: some are in a table
pub record IsTable (b : ChannelBursts) (table : List ℕ) : Type 0 where
  pub each : (slots : ℕ) → slots < length table → slice_index table slots ≡ capacity_of b.time b.long slots
  pub bursts : (slots : ℕ) → slice_index table slots ≤ max_burst_bytes

-- a turn: who asks, whether its flow has a minimum rate, and where its cluster has its SIDs, a seat for each channel of its
-- flow
pub record TurnRow : Type 0 where
  pub asker : Asker
  pub has_min_rate : Bool
  pub seats : List Seat

abbrev pub place_or_first : Option ℕ → ℕ
place_or_first None = 0
place_or_first (Some place) = place

-- where the channel with this id stands; each flow has channels of the table alone
unfoldable pub place_of : List Channel → ℕ → ℕ
place_of channels id = place_or_first (position (λ c. c.id == id) channels)

-- the seats on channels with these ids, from a position on
abbrev pub seats_from : List Channel → ℕ → List ℕ → List ℕ → List Seat
seats_from channels position [] sids = []
seats_from channels position (id ∷ ids) sids =
    record { place = place_of channels id; sid = slice_index sids position } ∷ seats_from channels (position + 1) ids sids

-- a turn that has this place among the turns of a round
abbrev pub row_of : List Channel → ℕ → Turn → TurnRow
row_of channels place turn = record {
  asker = asker_of place turn;
  has_min_rate = nat_lt 0 turn.cluster.flow.min_rate;
  seats = seats_from channels 0 turn.cluster.flow.channels turn.cluster.sids;
}

-- turns, of which the first has this place
abbrev pub rows_from : List Channel → ℕ → List Turn → List TurnRow
rows_from channels place [] = []
rows_from channels place (turn ∷ turns) = row_of channels place turn ∷ rows_from channels (place + 1) turns

-- what a planner keeps of the tables
pub record IsPlanning (t : Tables) (rows : List TurnRow) (channels : List ChannelPlan) : Type 0 where
  pub lawful : AreTables t
  pub turns : rows ≡ rows_from t.channels 0 (turns_of t)
  pub own : map (λ c. c.channel) channels ≡ t.channels

-- channels with so many idle minislots, and no claims
abbrev pub cleared : List ChannelPlan → List ℕ → List ChannelPlan
cleared channels idle =
    map (λ (pair : ChannelPlan × ℕ). record pair.0 { slots = pair.1; claims = [] }) (zip channels idle)

-- the most bytes that the channel at a place can carry behind a header
abbrev pub weight_at : ℕ → List ChannelPlan → ℕ → ℕ
weight_at header channels place = weight header (option_map budget_in (slice_get channels place))

-- a change of the channel at a place
abbrev pub changed : (ChannelPlan → ChannelPlan) → List ChannelPlan → ℕ → List ChannelPlan
changed f [] place = []
changed f (c ∷ channels) zero = f c ∷ channels
changed f (c ∷ channels) (suc place) = c ∷ changed f channels place

-- shares at these seats, from a position on
abbrev pub put_from : Asker → ℕ → List Seat → List ℕ → List ChannelPlan → List ChannelPlan
put_from asker position [] shares channels = channels
put_from asker position (seat ∷ seats) shares channels =
    put_from asker (position + 1) seats shares
    (changed (with_share asker position seat.sid (slice_index shares position)) channels seat.place)

-- bytes, divided over the channels of a turn
abbrev pub shares_at : TurnRow → ℕ → List ChannelPlan → List ℕ
shares_at row bytes channels =
    divided bytes (map (λ seat. weight_at row.asker.header channels seat.place) row.seats)

-- the shares of a turn of so many outstanding bytes,
abbrev pub shares_in : TurnRow → ℕ → PartialPlan → List ℕ
shares_in row bytes partial =
    shares_at row (at_most (slice_index_or partial.allowances row.asker.claimant.place None) bytes) partial.channels

-- and what is planned then
abbrev pub with_shares : TurnRow → List ℕ → PartialPlan → PartialPlan
with_shares row shares partial = record {
  channels = put_from row.asker 0 row.seats shares partial.channels;
  allowances = set partial.allowances row.asker.claimant.place
      (option_map (λ most. most - sum shares) (slice_index_or partial.allowances row.asker.claimant.place None));
}

unfoldable pub with_row : TurnRow → ℕ → PartialPlan → PartialPlan
with_row row bytes partial = with_shares row (shares_in row bytes partial) partial

-- the same of a turn by its place, of the bytes that are outstanding of each word,
abbrev pub with_row_if : Option TurnRow → List ℕ → PartialPlan → PartialPlan
with_row_if None outstanding partial = partial
with_row_if (Some row) outstanding partial =
    with_row row (slice_index outstanding row.asker.claimant.cluster) partial

-- and of turns, one after another
abbrev pub with_rows : List TurnRow → List ℕ → List ℕ → PartialPlan → PartialPlan
with_rows rows outstanding [] partial = partial
with_rows rows outstanding (place ∷ places) partial =
    with_rows rows outstanding places (with_row_if (slice_get rows place) outstanding partial)

-- a plan of these channels and allowances
abbrev pub partial_of : List ChannelPlan → List (Option ℕ) → PartialPlan
partial_of channels allowances = record { channels = channels; allowances = allowances }

-- Two passes.

-- a change of the channels at seats, from a position on
abbrev pub at_seats : (ℕ → ChannelPlan → ChannelPlan) → ℕ → List Seat → List ChannelPlan → List ChannelPlan
at_seats f position [] channels = channels
at_seats f position (seat ∷ seats) channels =
    at_seats f (position + 1) seats (changed (f position) channels seat.place)

-- what these shares cost is taken off, or given back
abbrev pub taken_at : ℕ → List ℕ → List Seat → List ChannelPlan → List ChannelPlan
taken_at header shares seats channels = at_seats (λ k. taken header (slice_index shares k)) 0 seats channels

abbrev pub returned_at : ℕ → List ℕ → List Seat → List ChannelPlan → List ChannelPlan
returned_at header shares seats channels = at_seats (λ k. returned header (slice_index shares k)) 0 seats channels

-- a first pass: what it leaves to plan with, and of reserves; and the first shares of its turns so far
pub record FirstPass : Type 0 where
  pub partial : PartialPlan
  pub reserves : List ℕ
  pub firsts : List (List ℕ)

abbrev pub pass_of : List ChannelPlan → List (Option ℕ) → List ℕ → List (List ℕ) → FirstPass
pass_of channels allowances reserves firsts =
    record { partial = partial_of channels allowances; reserves = reserves; firsts = firsts }

-- what is reserved for a turn: nothing where its flow has no minimum rate
abbrev pub reserve_for : TurnRow → List ℕ → ℕ
reserve_for row reserves = if row.has_min_rate then slice_index reserves row.asker.claimant.place else 0

-- the first shares of a turn of so many outstanding bytes,
abbrev pub first_in : TurnRow → ℕ → PartialPlan → List ℕ → List ℕ
first_in row bytes partial reserves =
    shares_at row
    (min (at_most (slice_index_or partial.allowances row.asker.claimant.place None) bytes) (reserve_for row reserves))
    partial.channels

-- and what they leave
abbrev pub with_first : TurnRow → List ℕ → FirstPass → FirstPass
with_first row shares pass = record {
  partial = record {
    channels = taken_at row.asker.header shares row.seats pass.partial.channels;
    allowances = set pass.partial.allowances row.asker.claimant.place
        (option_map (λ most. most - sum shares) (slice_index_or pass.partial.allowances row.asker.claimant.place None));
  };
  reserves = set pass.reserves row.asker.claimant.place
      (slice_index pass.reserves row.asker.claimant.place - sum shares);
  firsts = pass.firsts ++ shares ∷ [];
}

abbrev pub with_first_row : TurnRow → ℕ → FirstPass → FirstPass
with_first_row row bytes pass = with_first row (first_in row bytes pass.partial pass.reserves) pass

-- the same of a turn by its place, and of turns, one after another
abbrev pub with_first_if : Option TurnRow → List ℕ → FirstPass → FirstPass
with_first_if None outstanding pass = pass
with_first_if (Some row) outstanding pass =
    with_first_row row (slice_index outstanding row.asker.claimant.cluster) pass

abbrev pub with_firsts : List TurnRow → List ℕ → List ℕ → FirstPass → FirstPass
with_firsts rows outstanding [] pass = pass
with_firsts rows outstanding (place ∷ places) pass =
    with_firsts rows outstanding places (with_first_if (slice_get rows place) outstanding pass)

-- before the first turn
abbrev pub no_firsts : PartialPlan → List ℕ → FirstPass
no_firsts partial reserves = record { partial = partial; reserves = reserves; firsts = [] }

-- what a turn of so many outstanding bytes gets beside its first shares, once its channels have their cost back,
abbrev pub more_at : TurnRow → ℕ → List ℕ → List ChannelPlan → List ℕ
more_at row bytes first channels =
    divided bytes (minus (map (λ seat. weight_at row.asker.header channels seat.place) row.seats) first)

abbrev pub more_in : TurnRow → ℕ → List ℕ → PartialPlan → List ℕ
more_in row bytes first partial =
    more_at row (at_most (slice_index_or partial.allowances row.asker.claimant.place None) (bytes - sum first)) first
    (returned_at row.asker.header first row.seats partial.channels)

-- and what is planned then
abbrev pub with_both : TurnRow → List ℕ → List ℕ → PartialPlan → PartialPlan
with_both row first more partial = record {
  channels =
      put_from row.asker 0 row.seats (added first more)
      (returned_at row.asker.header first row.seats partial.channels);
  allowances = set partial.allowances row.asker.claimant.place
      (option_map (λ most. most - sum more) (slice_index_or partial.allowances row.asker.claimant.place None));
}

abbrev pub with_second_row : TurnRow → ℕ → List ℕ → PartialPlan → PartialPlan
with_second_row row bytes first partial = with_both row first (more_in row bytes first partial) partial

-- the same of a turn by its place, and of turns, one after another
abbrev pub with_second_if : Option TurnRow → List ℕ → List ℕ → PartialPlan → PartialPlan
with_second_if None outstanding first partial = partial
with_second_if (Some row) outstanding first partial =
    with_second_row row (slice_index outstanding row.asker.claimant.cluster) first partial

abbrev pub with_seconds : List TurnRow → List ℕ → List ℕ → List (List ℕ) → PartialPlan → PartialPlan
with_seconds rows outstanding [] firsts partial = partial
with_seconds rows outstanding (place ∷ places) [] partial = partial
with_seconds rows outstanding (place ∷ places) (first ∷ firsts) partial =
    with_seconds rows outstanding places firsts (with_second_if (slice_get rows place) outstanding first partial)

-- whether something is reserved for one of these turns
abbrev pub is_reserved : Option TurnRow → List ℕ → Bool
is_reserved None reserves = false
is_reserved (Some row) reserves = nat_lt 0 (reserve_for row reserves)

abbrev pub some_reserved : List TurnRow → List ℕ → List ℕ → Bool
some_reserved rows reserves [] = false
some_reserved rows reserves (place ∷ places) =
    is_reserved (slice_get rows place) reserves || some_reserved rows reserves places

-- the pass that comes first, and what both come to: there is one pass where nothing is reserved
abbrev pub first_pass : List TurnRow → List ℕ → List ℕ → PartialPlan → List ℕ → FirstPass
first_pass rows outstanding places partial reserves =
    if some_reserved rows reserves places then with_firsts rows outstanding places (no_firsts partial reserves)
    else no_firsts partial reserves

abbrev pub last_pass : List TurnRow → List ℕ → List ℕ → PartialPlan → List ℕ → PartialPlan
last_pass rows outstanding places partial reserves =
    if some_reserved rows reserves places then
    with_seconds rows outstanding places (first_pass rows outstanding places partial reserves).firsts
    (first_pass rows outstanding places partial reserves).partial
    else with_rows rows outstanding places partial

-- a row leads to a flow and to channels
pub record IsRowWithin (flows channels : ℕ) (row : TurnRow) : Type 0 where
  pub flow : row.asker.claimant.place < flows
  pub inside : AllByRecursion (λ seat. seat.place < channels) row.seats
  pub header : row.asker.header ≤ 8

-- shares of a row: one for each seat, and each with the header is a burst
pub record FitsRow (row : TurnRow) (shares : List ℕ) : Type 0 where
  pub one_each : length shares ≡ length row.seats
  pub bursts : (k : ℕ) → slice_index shares k + row.asker.header ≤ max_burst_bytes

abbrev pub FitsIf : Option TurnRow → List ℕ → Type 0
FitsIf None shares = Unit {0}
FitsIf (Some row) shares = FitsRow row shares

-- and so of first shares of turns at places
abbrev pub AreFirsts : List TurnRow → List ℕ → List (List ℕ) → Type 0
AreFirsts rows places firsts = (i : ℕ) → i < length firsts →
    FitsIf (slice_get rows (slice_index places i)) (slice_index_or firsts i [])
