-- The numbers of a schedule's lines have 64 bits.
use Rattle.std.proofs.Common.{◌≡◌, ℕ, zero, suc, ◌+◌, ◌*◌, ◌^◌, ◌<◌, ◌≤◌, ◌==◌, nat_le, nat_lt, ◌&&◌, ◌||◌, Bool, true, false, if◌then◌else◌, List, [], ◌∷◌, ◌++◌, length, map, Contains, Option, Some, None, IfSome, slice_get, refl, sym, ap, subst, ◌∙◌, inl, inr, arith}
use Rattle.std.specs.Prelude.{filter, flat_map, not, option_and_then, slice_index, sum_by, zip}
use Rattle.std.specs.List.{AllByRecursion, range_with_len}
use Rattle.std.proofs.lemmas.Bool.{cases_Bool, cases_lt, and_parts, or_cases, leb-true, ltb-true, eqb-true}
use Rattle.std.proofs.lemmas.List.{length-replicate}
use Rattle.std.proofs.lemmas.List.Sums.{sum_by-cons}
use Rattle.std.proofs.lemmas.Nat.{mul-le}
use Rattle.std.proofs.lemmas.Option.{slice_get_within}
use Rattle.us_slots.specs.Bursts.{ChannelBursts, IsChannelBursts, grant_cost}
use Rattle.us_flows.specs.declared.channels.Channel.{Channel}
use Rattle.us_flows.specs.Ranges.{max_id}
use Rattle.us_flows.specs.Tables.{FlowTable, Tables, header_bytes, map_len, max_run_ticks, rounds_fit}
use Rattle.us_flows.specs.Clusters.{IsTurnIn, Turn, Word, is_of_cluster, table_order, words_of}
use Rattle.us_flows.specs.Lawful.{AreTables, IsChannel, IsFlow}
use Rattle.us_flows.proofs.TurnLaws.{table_order-turns}
use Rattle.us_bucket.specs.Levels.{Level, IsLevel, bytes_in, full, refilled, reserve_in, spent, units_in}
use Rattle.us_bucket.proofs.LevelLemmas.{refilled-burst, refilled-capped, spent-burst, spent-falls}
use Rattle.us_requests.specs.declared.asks.Counts.{Counts}
use Rattle.us_holes.specs.Boards.{Assignment, Board, AllFit, assign, empty_board}
use Rattle.us_holes.proofs.LawLemmas.{fit, fit_length}
use Rattle.us_calendar.specs.Entries.{Entry, entries, entry_of_flow, entry_of_station, rank_of}
use Rattle.us_calendar.specs.Occurrences.{end_of, ideal, window_end}
use Rattle.us_calendar.specs.Calendars.{Calendar, pace_of}
use Rattle.us_calendar.specs.Laws.{IsLawfulEntry}
use Rattle.us_calendar.specs.Runs.{IsOccurrence, IsRight, Round, assignments_of, board_at_turn, grants, is_name, misses}
use Rattle.us_calendar.specs.declared.settled.Settled.{Settled}
use Rattle.us_calendar.specs.declared.settled.Settled.TheVariants as settled
use Rattle.us_calendar.proofs.EntryLaws.{entries_are_lawful}
use Rattle.us_calendar.proofs.IdealLemmas.{HasWindows, number-below}
use Rattle.us_calendar.proofs.OnceLemmas.{not_yet}
use Rattle.us_calendar.proofs.OrderLemmas.{flow_made, station_made}
use Rattle.us_calendar.proofs.SortedLemmas.{entries_all}
use Rattle.us_split.specs.Requested.{requested_in}
use Rattle.us_split.specs.Claims.{AreClaims, Claim, IsClaimOn, claims_on}
use Rattle.us_split.specs.Plans.{Planned}
use Rattle.us_split.proofs.ClaimLemmas.{plan_for-claims}
use Rattle.us_channel.specs.Channels.{Built, Filled, fill}
use Rattle.us_channel.specs.Laws.{AreGrantsFor, placed_on, reserve_assignments}
use Rattle.us_channel.specs.Placements.{PlacedClaim, assignments, grants_of}
use Rattle.us_channel.proofs.BoardLaws.{grants_are_of_claims}
use Rattle.us_channel.proofs.GrantLaws.{cost_usage}
use Rattle.us_round.specs.Rounds.{State, opening, build_planned, builds_of, ended, fills_of, final, idle, round_plan, schedule}
use Rattle.us_round.specs.FinalRows.{activity_of, final_rows}
use Rattle.us_round.specs.ScheduleLaws.{AreCuts, asked_of}
use Rattle.us_round.proofs.ByteLaws.{bytes_are_kept}
use Rattle.us_round.proofs.CreditLaws.{claims_some}
use Rattle.us_round.proofs.ScheduleLaws.{schedule_is_of_begun_rounds, state_idle}
use Rattle.us_output.specs.declared.rows.EntryWord.{EntryWord}
use Rattle.us_output.specs.declared.rows.Row.{Row}
use Rattle.us_output.specs.Lines.{HasFields}
use Rattle.us_output.specs.Outputs.{RoundOut, Scheduled, activity_rows, entry_word, final_row, grant_row, granted_rows, in_order, is_granted, missed_rows, out_of, rows_on, settled_row, start_of}
use Rattle.us_output.proofs.OwnerLemmas.{HaveOwners, IsOwnedPart}
use Rattle.us_output.proofs.PartLemmas.{all_append, all_both, all_filtered, all_flat, all_found, all_mapped, all_weaker}
use Rattle.us_lawful.specs.CalendarLines.{is_named, is_word, names, round_quarters, speaks_in}
use Rattle.us_lawful.specs.Finals.{level_left}
use Rattle.us_lawful.specs.Output.{all_rows, counts_row, output_of, run_of}
use Rattle.us_lawful.specs.Laws.{AreSmall, LinesHaveFields}
use Rattle.us_lawful.proofs.RoundLemmas.{IsRoundOf, final_tables, last_rows, round_at, rounds_are, rounds_of}
use Rattle.us_lawful.proofs.GrantLemmas.{HasClaims, IsTurnGrant, builds_claimed, grants_of_turns}
use Rattle.us_lawful.proofs.RegionLaws.{placed_round, settled_have}
use Rattle.us_lawful.proofs.ChannelRegionLemmas.{IsPlacedRound}
use Rattle.us_lawful.proofs.NameLemmas.{row_names}
use Rattle.us_lawful.proofs.WindowLemmas.{rounds_end}
use Rattle.us_lawful.proofs.CalendarLineLemmas.{IsBuiltAt, IsListed, all_among, all_by_places, channel_lawful, found_has, listed_once, occurrences_built}
use Rattle.us_lawful.proofs.TimesLemmas.{rounds_built}
use Rattle.us_lawful.proofs.BucketLemmas.{flow_bytes, flow_left}

-- Lists.

all_front : {X : Type 0} (P : X → Type 0) (xs ys : List X) → AllByRecursion P (xs ++ ys) → AllByRecursion P xs
all_front P [] ys all = tt
all_front P (x ∷ xs) ys all = (all.0, all_front P xs ys all.1)

all_behind : {X : Type 0} (P : X → Type 0) (xs ys : List X) → AllByRecursion P (xs ++ ys) → AllByRecursion P ys
all_behind P [] ys all = all
all_behind P (x ∷ xs) ys all = all_behind P xs ys all.1

-- What is placed lies inside.

all_within : (board : Board) (placed : List Assignment) → AllFit board placed →
    AllByRecursion (λ a. a.start + a.slots ≤ length board.cells) placed
unfolding AllFit
all_within board [] all = tt
all_within board (a ∷ placed) all =
    let next : Board = assign board a.start a.slots a.owner in
    let same : length next.cells ≡ length board.cells = fit_length board a.start a.slots a.owner all.0 in (
      (fit board a.slots a.start all.0).inside,
      subst (λ n. AllByRecursion (λ a. a.start + a.slots ≤ n) placed) same (all_within next placed all.1),
    )

-- minislots, and whose they are
record IsSmallPart (a : Assignment) : Type 0 where
  pub sid : a.owner.sid < 2 ^ 14
  pub iuc : a.owner.iuc < 16
  pub inside : a.start + a.slots ≤ 4096

-- Grants of requests.

-- a grant credits no more than a burst, to a SID
abbrev IsSmallGrant : PlacedClaim → Type 0
IsSmallGrant g = (g.credit ≤ 98304) × (g.assignment.owner.sid < 2 ^ 14)

grants_small : (bursts : ChannelBursts) (claims : List Claim) (gs : List PlacedClaim) →
    AllByRecursion (λ claim. (claim.share ≤ 98304) × (claim.sid < 2 ^ 14)) claims → AreGrantsFor bursts claims gs →
    AllByRecursion IsSmallGrant gs
unfolding AreGrantsFor
grants_small bursts [] [] small are = tt
grants_small bursts [] (g ∷ gs) small are = absurd are
grants_small bursts (claim ∷ claims) [] small are = tt
grants_small bursts (claim ∷ claims) (g ∷ gs) small are = elim are [
  | inl both ↦ (
    (omega (arith, both.0.few, small.0.0), omega (arith, both.0.sid, small.0.1)),
    grants_small bursts claims gs small.1 both.1,
  )
  | inr later ↦ grants_small bursts claims (g ∷ gs) small.1 later
]

built_small : (plan : List Planned) (f : Filled) → IsChannelBursts f.channel.bursts →
    AllByRecursion (IsClaimOn f.channel) (claims_on f.channel plan) → AllByRecursion IsSmallGrant (build_planned plan f).grants
unfolding build_planned
built_small plan f bursts are =
    let claims : List Claim = claims_on f.channel plan in
    grants_small f.channel.bursts claims (grants_of f.channel.bursts f.board claims)
    (all_weaker (IsClaimOn f.channel) (λ claim. (claim.share ≤ 98304) × (claim.sid < 2 ^ 14))
    (λ claim is. (omega (arith, is.burst), is.sid)) claims are)
    (grants_are_of_claims f.channel.bursts f.board claims bursts (claims_some f.channel plan))

channels_small : (t : Tables) (round : ℕ) (plan : List Planned) (channels : List Channel) (cs : List Calendar) →
    AllByRecursion (IsChannel t) channels →
    AllByRecursion (λ c. AllByRecursion (IsClaimOn c) (claims_on c plan)) channels →
    AllByRecursion (λ b. AllByRecursion IsSmallGrant b.grants)
    (map (build_planned plan) (map (λ (pair : Channel × Calendar). fill t round pair.0 pair.1) (zip channels cs)))
channels_small t round plan [] cs lawful claims = tt
channels_small t round plan (c ∷ channels) [] lawful claims = tt
channels_small t round plan (c ∷ channels) (calendar ∷ cs) lawful claims = (
  built_small plan (fill t round c calendar) lawful.0.bursts claims.0,
  channels_small t round plan channels cs lawful.1 claims.1,
)

builds_small : (t : Tables) (end : ℕ) (s : State) → AreTables t → IsRoundOf t end s →
    AllByRecursion (λ b. AllByRecursion IsSmallGrant b.grants) (builds_of s)
unfolding builds_of
builds_small t end s lawful is =
    let own : AreTables s.tables = subst AreTables (sym is.tables) lawful in
    let claims : AreClaims s.tables (round_plan s) =
    plan_for-claims s.tables s.outstanding (map bytes_in s.buckets) (map reserve_in s.reserves) (idle (fills_of s)) own
    (state_idle s own is.state) in
    channels_small s.tables s.round (round_plan s) s.tables.channels s.calendars own.channels claims.each

-- Entries.

if_weaker : (P Q : Entry → Type 0) (o : Option Entry) → ((e : Entry) → P e → Q e) → IfSome o P → IfSome o Q
if_weaker P Q None weaker is = tt
if_weaker P Q (Some e) weaker is = weaker e is

ids_small : (t : Tables) (c : Channel) → AreTables t → AllByRecursion (λ e. e.id ≤ max_id) (entries t c)
ids_small t c lawful =
    entries_all t c lawful (λ e. e.id ≤ max_id)
    (λ f is. if_weaker (λ e. (e.id ≡ f.flow.id) × (rank_of e.kind ≤ 3)) (λ e. e.id ≤ max_id) (entry_of_flow c f)
    (λ e own. omega (arith, own.0, is.id.1)) (flow_made c f))
    (λ s is. if_weaker (λ e. (e.id ≡ s.id) × (rank_of e.kind ≡ 4)) (λ e. e.id ≤ max_id) (entry_of_station c s)
    (λ e own. omega (arith, own.0, is.id.1)) (station_made c s))

-- the name of an occurrence of a small number
name_small : (e : Entry) (n : ℕ) (word : EntryWord) (id i k : ℕ) → is_named e n word id i k ≡ true → 1 ≤ e.grants →
    e.grants ≤ 127 → e.id ≤ max_id → n < 2 ^ 64 → (id < 2 ^ 64) × (i < 2 ^ 64) × (k < 2 ^ 64)
name_small e n word id i k named some few own small =
    let behind_word = (and_parts (is_word e.kind word) ((id == e.id) && (nat_lt k e.grants && (i * e.grants + k == n))) named).1 in
    let ids = and_parts (id == e.id) (nat_lt k e.grants && (i * e.grants + k == n)) behind_word in
    let places = and_parts (nat_lt k e.grants) (i * e.grants + k == n) ids.1 in
    let number : i * e.grants + k ≡ n = eqb-true (i * e.grants + k) n places.1 in
    let least : i * 1 ≤ i * e.grants = mul-le i 1 i e.grants (omega arith) some in (
      omega (arith, eqb-true id e.id ids.0, own),
      omega (arith, number, least, small),
      omega (arith, ltb-true k e.grants places.0, few),
    )

abbrev IsSmallName : Settled → Type 0
IsSmallName (settled.Granted kind id i k start slots owner) = (id < 2 ^ 64) × (i < 2 ^ 64) × (k < 2 ^ 64)
IsSmallName (settled.Missed kind id i k) = (id < 2 ^ 64) × (i < 2 ^ 64) × (k < 2 ^ 64)

-- Lines.

-- of a channel's round, in their order
lines_on : (round : ℕ) (b : Built) → AllByRecursion (λ s. HasFields (settled_row round b.channel s)) b.settled →
    AllByRecursion (λ g. HasFields (grant_row round b.channel g)) b.grants → AllByRecursion HasFields (rows_on round b)
unfolding rows_on in_order
lines_on round b told granted =
    let line : Settled → Row = settled_row round b.channel in
    let all : List Row = granted_rows round b in
    let has : AllByRecursion HasFields all =
    all_append HasFields (map line (filter is_granted b.settled)) (map (grant_row round b.channel) b.grants)
    (all_mapped HasFields line (filter is_granted b.settled)
    (all_filtered (λ s. HasFields (line s)) is_granted b.settled told))
    (all_mapped HasFields (grant_row round b.channel) b.grants granted) in
    all_append HasFields (in_order start_of (length b.board.cells) all) (missed_rows round b)
    (all_flat HasFields (λ start. filter (λ row. start_of row == start) all) (range_with_len 0 (length b.board.cells))
    (each all has (range_with_len 0 (length b.board.cells))))
    (all_mapped HasFields line (filter (λ s. not (is_granted s)) b.settled)
    (all_filtered (λ s. HasFields (line s)) (λ s. not (is_granted s)) b.settled told))
  where
    each : (all : List Row) → AllByRecursion HasFields all → (starts : List ℕ) →
        AllByRecursion (λ start. AllByRecursion HasFields (filter (λ row. start_of row == start) all)) starts
    each all has [] = tt
    each all has (start ∷ starts) =
        (all_filtered HasFields (λ row. start_of row == start) all has, each all has starts)

module _ (t : Tables) (cuts : List (List ℕ)) (counts : Counts) (lawful : AreTables t) (long : AreCuts t cuts)
    (fitting : rounds_fit t (length cuts) ≡ true) where
  -- Rounds.

  run_small : length cuts * t.round_ticks ≤ max_run_ticks
  run_small =
      leb-true (length cuts * t.round_ticks) max_run_ticks
      (and_parts (nat_le 1 (length cuts)) (nat_le (length cuts * t.round_ticks) max_run_ticks) fitting).1

  round_small : (r : ℕ) → r < length cuts → r < 2 ^ 64
  round_small r before =
      let whole : length cuts * 1 ≤ length cuts * t.round_ticks =
      mul-le (length cuts) 1 (length cuts) t.round_ticks (omega arith) lawful.round_ticks.0 in
      omega (arith, before, whole, run_small)

  end_small : (c : Channel) (r : ℕ) → IsChannel t c → r < length cuts → end_of (pace_of t c) r ≤ 1677721600
  end_small c r is before =
      let end : end_of (pace_of t c) r ≡ (r + 1) * round_quarters t = rounds_end t c (r + 1) is in
      let product : (r + 1) * (25 * t.round_ticks) ≡ 25 * ((r + 1) * t.round_ticks) = grind arith in
      let inside : (r + 1) * t.round_ticks ≤ length cuts * t.round_ticks =
      mul-le (r + 1) t.round_ticks (length cuts) t.round_ticks (omega (arith, before)) (omega arith) in
      omega (arith, end, product, inside, run_small)

  -- Occurrences.

  -- one that is ideal before a round ends has a small number,
  due_small : (c : Channel) (e : Entry) (n r : ℕ) → IsChannel t c → IsLawfulEntry t c e → r < length cuts →
      ideal e n < end_of (pace_of t c) r → n < 2 ^ 64
  due_small c e n r is own before due =
      let windows : HasWindows e = record { grants = own.entry.grants; jitter = own.entry.jitter } in
      let product : end_of (pace_of t c) r * e.grants ≤ 1677721600 * 127 =
      mul-le (end_of (pace_of t c) r) e.grants 1677721600 127 (end_small c r is before) own.entry.few_grants in
      omega (arith, number-below e n (end_of (pace_of t c) r) windows due, product)

  -- and so has one that a round settles, since it is due in it
  settled_due : (c : Channel) (e : Entry) (n r : ℕ) (active : Bool) (board : Board) (s : Settled) →
      (grants e n s || misses e n s) ≡ true → IsRight (pace_of t c) r e active n board s →
      ideal e n < end_of (pace_of t c) r
  settled_due c e n r active board (settled.Granted kind id i k start slots owner) named right =
      let own : is_name e n (rank_of kind) id i k ≡ true =
      elim (or_cases (is_name e n (rank_of kind) id i k) false named) [ inl own ↦ own | inr never ↦ absurd (cc never) ] in
      elim (cases_lt (ideal e n) (end_of (pace_of t c) r)) [
        | inl due ↦ due
        | inr late ↦
            let never : None ≡ Some start = sym (not_yet (pace_of t c) r e active n board late) ∙ (right own).5 in absurd cc
      ]
  settled_due c e n r active board (settled.Missed kind id i k) named right =
      let over : window_end e n < end_of (pace_of t c) r = (right named).1 in
      omega (arith, over)

  -- what the line of a listed occurrence names is small
  named_small : (c : Channel) (e : Entry) (n r : ℕ) (s : Settled) → IsLawfulEntry t c e → e.id ≤ max_id → n < 2 ^ 64 →
      names e n (settled_row r c s) ≡ true → IsSmallName s
  named_small c e n r (settled.Granted kind id i k start slots owner) own id_small small named =
      name_small e n (entry_word kind) id i k named own.entry.grants own.entry.few_grants id_small small
  named_small c e n r (settled.Missed kind id i k) own id_small small named =
      name_small e n (entry_word kind) id i k named own.entry.grants own.entry.few_grants id_small small

  occurrence_small : (place r : ℕ) (c : Channel) (e : Entry) (n : ℕ) (active : Bool) (board : Board) (s : Settled) →
      IsListed t place c e → r < length cuts → (grants e n s || misses e n s) ≡ true →
      IsRight (pace_of t c) r e active n board s → IsSmallName s
  occurrence_small place r c e n active board s is before named right =
      let own : IsLawfulEntry t c e =
      all_among (IsLawfulEntry t c) (entries t c) e (entries_are_lawful t lawful c (found_has t.channels place c is.at))
      is.among in
      named_small c e n r s own (all_among (λ e. e.id ≤ max_id) (entries t c) e (ids_small t c lawful) is.among)
      (due_small c e n r (channel_lawful t place c lawful is.at) own before
      (settled_due c e n r active board s named right))
      (row_names e n r c s own.entry.grants ∙ named)

  -- Lines of what a calendar settled.

  settled_fields : (r : ℕ) (c : Channel) (all : List Settled) → r < length cuts → c.id ≤ 255 →
      AllByRecursion IsSmallName all → AllByRecursion IsSmallPart (flat_map assignments_of all) →
      AllByRecursion (λ s. HasFields (settled_row r c s)) all
  settled_fields r c [] before id named parts = tt
  settled_fields r c (settled.Granted kind e i k start slots owner ∷ all) before id named parts =
      let round : r < 2 ^ 64 = round_small r before in
      let first = parts.0 in (
        (
          round,
          (
            omega (arith, id),
            (
              named.0.0,
              (
                named.0.1,
                (
                  named.0.2,
                  (
                    omega (arith, first.sid),
                    (
                      omega (arith, first.iuc),
                      (omega (arith, first.inside), (omega (arith, first.inside), (omega arith, tt))),
                    ),
                  ),
                ),
              ),
            ),
          ),
        ),
        settled_fields r c all before id named.1 parts.1,
      )
  settled_fields r c (settled.Missed kind e i k ∷ all) before id named parts = (
    (round_small r before, (omega (arith, id), (named.0.0, (named.0.1, (named.0.2, tt))))),
    settled_fields r c all before id named.1 parts,
  )

  -- what a channel's round settled
  names_small : (place r : ℕ) (c : Channel) (round : Round) (all : List Settled) → slice_get t.channels place ≡ Some c →
      r < length cuts → AllByRecursion (IsOccurrence (entries t c)) all →
      ((e : Entry) (n : ℕ) → Contains (entries t c) e → AllByRecursion
      (IsRight (pace_of t c) r e (speaks_in (run_of t cuts counts) e (ideal e n)) n (board_at_turn e n round)) all) →
      AllByRecursion IsSmallName all
  names_small place r c round [] at before of right = tt
  names_small place r c round (s ∷ all) at before of right =
      let e : Entry = of.0.entry in
      let n : ℕ = of.0.number in (
        occurrence_small place r c e n (speaks_in (run_of t cuts counts) e (ideal e n)) (board_at_turn e n round) s
            (record { at = at; among = of.0.among }) before of.0.named (right e n of.0.among).0,
        names_small place r c round all at before of.1 (λ e n among. (right e n among).1),
      )

  -- Lines of grants.

  grant_fields : (r : ℕ) (c : Channel) (gs : List PlacedClaim) → r < length cuts → c.id ≤ 255 →
      AllByRecursion (IsTurnGrant t c) gs → AllByRecursion IsSmallGrant gs →
      AllByRecursion (λ a. a.start + a.slots ≤ 4096) (assignments gs) →
      AllByRecursion (λ g. HasFields (grant_row r c g)) gs
  grant_fields r c [] before id of small inside = tt
  grant_fields r c (g ∷ gs) before id of small inside =
      let turn : Turn = of.0.turn in
      let flow : IsFlow t turn.cluster.flow =
      all_found (IsFlow t) t.flows turn.place turn.cluster.flow lawful.flows of.0.known.flow in
      let flow_is : g.claimant.flow ≡ turn.cluster.flow.id = ap (λ claimant. claimant.flow) of.0.claimant in
      let list_is : g.claimant.list ≡ turn.cluster.list = ap (λ claimant. claimant.list) of.0.claimant in
      let list : turn.cluster.list < length turn.cluster.flow.clusters =
      slice_get_within turn.cluster.flow.clusters turn.cluster.list turn.cluster.sids of.0.known.sids in
      let bytes : ℕ = g.credit + header_bytes turn.cluster.flow in
      let usage : g.assignment.owner.iuc ≡ (grant_cost c.bursts bytes).1 = ap (λ (cost : ℕ × ℕ). cost.1) of.0.cost in
      let iuc : g.assignment.owner.iuc ≤ 10 = elim (cost_usage c.bursts bytes) [
        | inl short ↦ omega (arith, usage, short)
        | inr long ↦ omega (arith, usage, long)
      ] in (
        (
          round_small r before,
          (
            omega (arith, id),
            (
              omega (arith, flow_is, flow.id.1),
              (
                omega (arith, list_is, list, flow.some_clusters.1),
                (
                  omega arith,
                  (
                    omega (arith, small.0.1),
                    (
                      omega (arith, iuc),
                      (omega (arith, inside.0), (omega (arith, inside.0), (omega (arith, small.0.0), tt))),
                    ),
                  ),
                ),
              ),
            ),
          ),
        ),
        grant_fields r c gs before id of.1 small.1 inside.1,
      )

  -- One channel of a round.

  build_fields : (r place : ℕ) (s : State) (b : Built) → slice_get (rounds_of t cuts) r ≡ Some s →
      slice_get (builds_of s) place ≡ Some b → AllByRecursion HasFields (rows_on s.round b)
  build_fields r place s b at there =
      let is : IsRoundOf t (length cuts) s =
      all_found (IsRoundOf t (length cuts)) (rounds_of t cuts) r s (rounds_are t cuts lawful long) at in
      let number : s.round ≡ r = round_at t cuts r s at in
      let before : r < length cuts = omega (arith, number, is.before) in
      let built : IsBuiltAt t cuts r place b = rounds_built t cuts r s lawful long at place b there in
      let c : Channel = b.channel in
      let channel : IsChannel t c = channel_lawful t place c lawful built.channel in
      let placed : IsPlacedRound t s.round (ended s (builds_of s)).scheduled.pending b =
      placed_round t cuts lawful long fitting r place c s b built.channel at there in
      let len : length (empty_board (map_len t c)).cells ≡ map_len t c = length-replicate (map_len t c) None in
      let reserved : List Assignment = reserve_assignments c (map_len t c) s.round in
      let told : List Assignment = flat_map assignments_of b.settled in
      let inside : AllByRecursion (λ a. a.start + a.slots ≤ 4096) (placed_on t s.round b) =
      all_weaker (λ a. a.start + a.slots ≤ length (empty_board (map_len t c)).cells) (λ a. a.start + a.slots ≤ 4096)
      (λ a within. omega (arith, within, len, channel.len.1)) (placed_on t s.round b)
      (all_within (empty_board (map_len t c)) (placed_on t s.round b) placed.made.fit) in
      let owned : HaveOwners told = settled_have t cuts lawful r place c s b built.channel at there in
      let parts : AllByRecursion IsSmallPart told =
      all_weaker (λ a. IsOwnedPart a × (a.start + a.slots ≤ 4096)) IsSmallPart
      (λ a both. record { sid = both.0.0.sid; iuc = both.0.0.usage; inside = both.1 }) told
      (all_both IsOwnedPart (λ a. a.start + a.slots ≤ 4096) told owned
      (all_behind (λ a. a.start + a.slots ≤ 4096) reserved told
      (all_front (λ a. a.start + a.slots ≤ 4096) (reserved ++ told) (assignments b.grants) inside))) in
      let right : (e : Entry) (n : ℕ) → Contains (entries t c) e → AllByRecursion
      (IsRight (pace_of t c) r e (speaks_in (run_of t cuts counts) e (ideal e n)) n (board_at_turn e n built.round)) b.settled =
      λ e n among.
      let once = listed_once t cuts counts place c e n lawful (record { at = built.channel; among = among }) in
      subst (AllByRecursion
      (IsRight (pace_of t c) r e (speaks_in (run_of t cuts counts) e (ideal e n)) n (board_at_turn e n built.round)))
      built.settled (once.right r built.round built.at) in
      let named : AllByRecursion IsSmallName b.settled =
      names_small place r c built.round b.settled built.channel before (occurrences_built t cuts r place b built) right in
      let claims : HasClaims t b =
      all_found (HasClaims t) (builds_of s) place b (builds_claimed t (length cuts) s lawful is) there in
      let small : AllByRecursion IsSmallGrant b.grants =
      all_found (λ b. AllByRecursion IsSmallGrant b.grants) (builds_of s) place b (builds_small t (length cuts) s lawful is)
      there in
      subst (λ n. AllByRecursion HasFields (rows_on n b)) (sym number)
      (lines_on r b (settled_fields r c b.settled before channel.id.1 named parts)
      (grant_fields r c b.grants before channel.id.1 (grants_of_turns t b claims) small
      (all_behind (λ a. a.start + a.slots ≤ 4096) (reserved ++ told) (assignments b.grants) inside)))

  -- All rounds.

  round_fields : (r : ℕ) (s : State) → slice_get (rounds_of t cuts) r ≡ Some s →
      AllByRecursion HasFields (out_of t (ended s (builds_of s)).scheduled).rows
  unfolding out_of
  round_fields r s at =
      all_flat HasFields (rows_on s.round) (builds_of s)
      (all_by_places (λ b. AllByRecursion HasFields (rows_on s.round b)) (builds_of s)
      (λ place b there. build_fields r place s b at there))

  rounds_fields : AllByRecursion HasFields (all_rows (map (out_of t) (schedule (opening t) cuts)))
  rounds_fields =
      let Has : Scheduled → Type 0 = λ one. AllByRecursion HasFields (out_of t one).rows in
      all_flat HasFields (λ (out : RoundOut). out.rows) (map (out_of t) (schedule (opening t) cuts))
      (all_mapped (λ (out : RoundOut). AllByRecursion HasFields out.rows) (out_of t) (schedule (opening t) cuts)
      (subst (AllByRecursion Has) (sym (schedule_is_of_begun_rounds (opening t) cuts))
      (all_mapped Has (λ s. (ended s (builds_of s)).scheduled) (rounds_of t cuts)
      (all_by_places (λ s. Has (ended s (builds_of s)).scheduled) (rounds_of t cuts) round_fields))))

-- The last lines.

-- a bucket never has more than a burst
left_level : (ticks : ℕ) (bytes : List ℕ) (l : Level) → IsLevel l →
    IsLevel (level_left ticks bytes l) × ((level_left ticks bytes l).burst ≡ l.burst)
unfolding level_left
left_level ticks [] l is = (is, refl)
left_level ticks (bytes ∷ []) l is = (omega (arith, spent-falls bytes l, spent-burst bytes l, is), spent-burst bytes l)
left_level ticks (bytes ∷ next ∷ more) l is =
    let less : Level = spent bytes l in
    let grown : Level = refilled ticks less in
    let rest = left_level ticks (next ∷ more) grown (omega (arith, refilled-capped ticks less, refilled-burst ticks less)) in
    (rest.0, rest.1 ∙ refilled-burst ticks less ∙ spent-burst bytes l)

units_small : (l : Level) → IsLevel l → l.burst ≤ 16777216 → IfSome (units_in l) (λ units. units < 2 ^ 64)
unfolding units_in
units_small l is few = elim (cases_Bool (l.rate == 0)) [
  | inl none ↦ rw none tt
  | inr some ↦ rw some (omega (arith, is, few))
]

-- no more is requested of a word than was cut
requested_few : (words : List Word) (cut : List ℕ) (number : ℕ) →
    slice_index (requested_in words cut) number ≤ slice_index cut number
requested_few [] cut number = omega arith
requested_few (word ∷ words) [] number = omega arith
requested_few (word ∷ words) (bytes ∷ cut) zero = elim (cases_Bool (is_of_cluster word)) [
  | inl is ↦ rw is (omega arith)
  | inr other ↦ rw other (omega arith)
]
requested_few (word ∷ words) (bytes ∷ cut) (suc number) = requested_few words cut number

asked_few : (t : Tables) (number : ℕ) (cuts : List (List ℕ)) →
    asked_of t number cuts ≤ sum_by (λ cut. slice_index cut number) cuts
asked_few t number [] = omega arith
asked_few t number (cut ∷ cuts) =
    omega (
      arith,
      requested_few (words_of t) cut number,
      asked_few t number cuts,
      sum_by-cons (λ cut. slice_index (requested_in (words_of t) cut) number) cut cuts,
      sum_by-cons (λ cut. slice_index cut number) cut cuts,
    )

activities_fields : (t : Tables) (flows : List FlowTable) (active : List (Option Bool)) → AllByRecursion (IsFlow t) flows →
    AllByRecursion HasFields (activity_rows flows active)
activities_fields t [] active are = tt
activities_fields t (flow ∷ flows) [] are = tt
activities_fields t (flow ∷ flows) (None ∷ active) are = activities_fields t flows active are.1
activities_fields t (flow ∷ flows) (Some is ∷ active) are =
    ((omega (arith, are.0.id.1), (bit is, tt)), activities_fields t flows active are.1)
  where
    bit : (is : Bool) → (if is then 1 else 0) < 2 ^ 64
    bit true = omega arith
    bit false = omega arith

module _ (t : Tables) (cuts : List (List ℕ)) (counts : Counts) (lawful : AreTables t) (long : AreCuts t cuts)
    (small : AreSmall cuts counts) where
  abbrev end : State
  end = final (opening t) cuts

  final_fields : (turns : List Turn) → AllByRecursion (IsTurnIn t) turns →
      AllByRecursion HasFields (map (final_row end.outstanding end.buckets) turns)
  final_fields [] are = tt
  final_fields (turn ∷ turns) are =
      let flow : FlowTable = turn.cluster.flow in
      let known : IsFlow t flow = all_found (IsFlow t) t.flows turn.place flow lawful.flows are.0.flow in
      let list : turn.cluster.list < length flow.clusters =
      slice_get_within flow.clusters turn.cluster.list turn.cluster.sids are.0.sids in
      let first : Level = full flow.rate flow.burst in
      let bytes : List ℕ = map (flow_bytes turn.place) (rounds_of t cuts) in
      let left = flow_left t cuts turn.place flow are.0.flow in
      let level = left_level t.round_ticks bytes first (omega arith) in
      let units : IfSome (option_and_then units_in (slice_get end.buckets turn.place)) (λ units. units < 2 ^ 64) =
      subst (λ o. IfSome (option_and_then units_in o) (λ units. units < 2 ^ 64)) (sym left)
      (units_small (level_left t.round_ticks bytes first) level.0 (omega (arith, level.1, known.burst))) in (
        (
          (
            omega (arith, known.id.1),
            (
              omega (arith, list, known.some_clusters.1),
              (
                omega (arith, bytes_are_kept t cuts turn.number lawful long, asked_few t turn.number cuts, small.asked turn.number),
                tt,
              ),
            ),
          ),
          units,
        ),
        final_fields turns are.1,
      )

  last_fields : AllByRecursion HasFields (last_rows t cuts counts)
  unfolding final_rows
  last_fields =
      let same : end.tables ≡ t = final_tables (opening t) cuts in
      let finals : AllByRecursion HasFields (map (final_row end.outstanding end.buckets) (table_order end.tables)) =
      subst (λ (u : Tables). AllByRecursion HasFields (map (final_row end.outstanding end.buckets) (table_order u))) (sym same)
      (final_fields (table_order t) (table_order-turns t)) in
      let active : AllByRecursion HasFields (activity_rows end.tables.flows (map (activity_of end) end.tables.flows)) =
      activities_fields t end.tables.flows (map (activity_of end) end.tables.flows)
      (subst (λ (u : Tables). AllByRecursion (IsFlow t) u.flows) (sym same) lawful.flows) in
      all_append HasFields (map (final_row end.outstanding end.buckets) (table_order end.tables)
      ++ activity_rows end.tables.flows (map (activity_of end) end.tables.flows)) (counts_row counts ∷ [])
      (all_append HasFields (map (final_row end.outstanding end.buckets) (table_order end.tables))
      (activity_rows end.tables.flows (map (activity_of end) end.tables.flows)) finals active)
      ((small.unknown, (small.not_requestable, (small.late, tt))), tt)

pub lines_have_fields : LinesHaveFields
unfolding output_of
lines_have_fields t cuts counts lawful long fitting small =
    all_append HasFields (all_rows (map (out_of t) (schedule (opening t) cuts))) (last_rows t cuts counts)
    (rounds_fields t cuts counts lawful long fitting) (last_fields t cuts counts lawful long small)
