-- The rounds of a run, and their lines: a sum over all lines of a report goes round by round and channel by channel.
use Rattle.std.proofs.Common.{◌≡◌, ◌≢◌, ℕ, zero, suc, ◌+◌, ◌<◌, ◌==◌, ◌⊎◌, ne_eqb, Bool, true, false, List, [], ◌∷◌, ◌++◌, length, map, Option, Some, None, refl, sym, ap, subst, ◌∙◌, arith, inl, inr}
use Rattle.std.specs.Prelude.{◌&&◌, not, if◌then◌else◌, filter, flat_map, slice_get, slice_index, sum_by, option_map, option_and_then}
use Rattle.std.specs.List.{AllByRecursion, range_with_len}
use Rattle.std.proofs.lemmas.Bool.{cases_Bool}
use Rattle.std.proofs.lemmas.List.{length-map}
use Rattle.std.proofs.lemmas.List.Sums.{sum_by-cons}
use Rattle.std.proofs.lemmas.Option.{slice_get-map}
use Rattle.us_flows.specs.declared.channels.Channel.{Channel}
use Rattle.us_flows.specs.Tables.{FlowTable, Tables}
use Rattle.us_flows.specs.Clusters.{Turn, table_order}
use Rattle.us_flows.specs.Lawful.{AreApart, AreTables}
use Rattle.us_bucket.specs.Levels.{Level, units_in}
use Rattle.us_requests.specs.declared.asks.Counts.{Counts}
use Rattle.us_calendar.specs.declared.settled.Settled.{Settled}
use Rattle.us_calendar.specs.declared.settled.Settled.TheVariants as settled
use Rattle.us_channel.specs.Placements.{PlacedClaim}
use Rattle.us_channel.specs.Channels.{Built}
use Rattle.us_output.specs.declared.rows.FinalActivity.{FinalActivity}
use Rattle.us_output.specs.declared.rows.FinalState.{FinalState}
use Rattle.us_output.specs.declared.rows.Row.{Row}
use Rattle.us_output.specs.declared.rows.Row.TheVariants as rows
use Rattle.us_round.specs.Rounds.{State, opening, builds_of, ended, round_from, round_of, schedule, final}
use Rattle.us_output.specs.Outputs.{Scheduled, RoundOut, is_granted, settled_row, grant_row, in_order, start_of, granted_rows, missed_rows, rows_on, activity_rows, final_row, out_of}
use Rattle.us_round.specs.States.{IsState, AreSound}
use Rattle.us_round.specs.FinalRows.{activity_of, final_rows}
use Rattle.us_output.specs.Leftovers.{AreInside}
use Rattle.us_round.specs.ScheduleLaws.{begun_rounds, AreCuts}
use Rattle.us_output.proofs.PartLemmas.{all_append, all_found, all_weaker}
use Rattle.us_output.proofs.LineLemmas.{granted_inside}
use Rattle.us_output.proofs.OutputLaws.{by_start_moves}
use Rattle.us_round.proofs.ChannelRunLaws.{channels_stay}
use Rattle.us_round.proofs.ScheduleLaws.{IsBegunIn, opening_begun, rounds_are_numbered, schedule_is_of_begun_rounds, state_sound}
use Rattle.us_lawful.specs.Output.{counts_row, output_of, all_rows, judged_of}
use Rattle.us_lawful.specs.Places.{is_told_at}
use Rattle.us_lawful.proofs.SameLemmas.{same_moved, sum_append, sum_flat_map, sum_map}
use Rattle.us_lawful.proofs.SumLemmas.{sum_none, sum_same, sum_single}

-- Rounds.

-- the rounds of a run as they begin, once what is newly asked for is in
abbrev pub rounds_of : Tables → List (List ℕ) → List State
rounds_of t cuts = begun_rounds (opening t) cuts

-- what holds of each
pub record IsRoundOf (t : Tables) (end : ℕ) (s : State) : Type 0 where
  pub tables : s.tables ≡ t
  pub state : IsState s
  pub before : s.round < end
  pub sound : AreSound s (builds_of s)

pub rounds_are : (t : Tables) (cuts : List (List ℕ)) → AreTables t → AreCuts t cuts →
    AllByRecursion (IsRoundOf t (length cuts)) (rounds_of t cuts)
rounds_are t cuts lawful long =
    let end : 0 + length cuts ≡ length cuts = omega arith in
    all_weaker (IsBegunIn t (0 + length cuts)) (IsRoundOf t (length cuts))
    (λ s is. record {
      tables = is.tables;
      state = is.state;
      before = subst (λ n. s.round < n) end is.before;
      sound = state_sound s (subst AreTables (sym is.tables) lawful) is.state;
    }) (rounds_of t cuts) (opening_begun t cuts long)

pub rounds_long : (t : Tables) (cuts : List (List ℕ)) → length (rounds_of t cuts) ≡ length cuts
rounds_long t cuts =
    sym (length-map (rounds_of t cuts) (λ s. s.round)) ∙ ap length (rounds_are_numbered (opening t) cuts)
    ∙ range_long 0 (length cuts)
  where
    range_long : (from n : ℕ) → length (range_with_len from n) ≡ n
    range_long from zero = refl
    range_long from (suc n) = ap suc (range_long (from + 1) n)

-- a schedule keeps its tables
pub final_tables : (s : State) (cuts : List (List ℕ)) → (final s cuts).tables ≡ s.tables
unfolding final round_of round_from
final_tables s [] = refl
final_tables s (cut ∷ cuts) = final_tables (round_of s cut).state cuts

-- an item that is there, of a list of what others are made into
pub found_made : {X Y : Type 0} (f : X → Y) (xs : List X) (place : ℕ) (y : Y) → slice_get (map f xs) place ≡ Some y →
    (x : X) × (slice_get xs place ≡ Some x) × (f x ≡ y)
found_made f [] place y at = absurd (cc at)
found_made f (x ∷ xs) zero y at = (x, refl, cc)
found_made f (x ∷ xs) (suc place) y at = found_made f xs place y at

pub found_inside : {X : Type 0} (xs : List X) (place : ℕ) → place < length xs → (x : X) × (slice_get xs place ≡ Some x)
found_inside [] place inside = absurd (omega (arith, inside))
found_inside (x ∷ xs) zero inside = (x, refl)
found_inside (x ∷ xs) (suc place) inside = found_inside xs place (omega (arith, inside))

pub range_at : (from n place : ℕ) (x : ℕ) → slice_get (range_with_len from n) place ≡ Some x → x ≡ from + place
range_at from zero place x at = absurd (cc at)
range_at from (suc n) zero x at =
    let same : from ≡ x = cc in
    omega (arith, same)
range_at from (suc n) (suc place) x at = omega (arith, range_at (from + 1) n place x at)

-- the round at a place has this number
pub round_at : (t : Tables) (cuts : List (List ℕ)) (r : ℕ) (s : State) → slice_get (rounds_of t cuts) r ≡ Some s →
    s.round ≡ r
round_at t cuts r s at =
    let told : slice_get (range_with_len 0 (length cuts)) r ≡ Some s.round =
    ap (λ numbers. slice_get numbers r) (sym (rounds_are_numbered (opening t) cuts))
    ∙ slice_get-map (λ (s : State). s.round) (rounds_of t cuts) r ∙ ap (option_map (λ (s : State). s.round)) at in
    omega (arith, range_at 0 (length cuts) r s.round told)

range_apart : (from n : ℕ) → AreApart (range_with_len from n)
range_apart from zero = tt
range_apart from (suc n) = (later from (from + 1) n (omega arith), range_apart (from + 1) n)
  where
    later : (low from n : ℕ) → low < from → AllByRecursion (λ k. low ≢ k) (range_with_len from n)
    later low from zero less = tt
    later low from (suc n) less = ((λ same. omega (arith, same, less)), later low (from + 1) n (omega (arith, less)))

pub rounds_apart : (t : Tables) (cuts : List (List ℕ)) → AreApart (map (λ s. s.round) (rounds_of t cuts))
rounds_apart t cuts =
    subst AreApart (sym (rounds_are_numbered (opening t) cuts)) (range_apart 0 (length cuts))

-- Channels.

-- the channel of a round at a place of the table
pub built_at : (t : Tables) (end : ℕ) (s : State) (place : ℕ) (c : Channel) → IsRoundOf t end s →
    slice_get t.channels place ≡ Some c → (b : Built) × (slice_get (builds_of s) place ≡ Some b) × (b.channel ≡ c)
built_at t end s place c is at =
    found_made (λ (b : Built). b.channel) (builds_of s) place c
    (ap (λ cs. slice_get cs place) (channels_stay s is.state ∙ ap (λ (u : Tables). u.channels) is.tables) ∙ at)

builds_apart : (t : Tables) (end : ℕ) (s : State) → AreTables t → IsRoundOf t end s →
    AreApart (map (λ b. b.channel.id) (builds_of s))
builds_apart t end s lawful is =
    subst AreApart
    (ap (map (λ c. c.id)) (sym (channels_stay s is.state ∙ ap (λ (u : Tables). u.channels) is.tables)) ∙ twice (builds_of s))
    lawful.channels_apart
  where
    twice : (bs : List Built) → map (λ c. c.id) (map (λ b. b.channel) bs) ≡ map (λ b. b.channel.id) bs
    twice [] = refl
    twice (b ∷ bs) = ap (λ more. b.channel.id ∷ more) (twice bs)

-- Rows.

-- those of a channel's round, in whatever order: of what its calendar settled, and of its grants
abbrev pub rows_in : ℕ → Built → List Row
rows_in round b = map (settled_row round b.channel) b.settled ++ map (grant_row round b.channel) b.grants

-- and those of a round
abbrev pub round_rows : State → List Row
round_rows s = flat_map (rows_in s.round) (builds_of s)

-- at the end of a report
abbrev pub last_rows : Tables → List (List ℕ) → Counts → List Row
last_rows t cuts counts = final_rows (final (opening t) cuts) ++ counts_row counts ∷ []

-- what holds of lines of these three kinds holds of them
pub last_all : (P : Row → Type 0) (t : Tables) (cuts : List (List ℕ)) (counts : Counts) →
    ((state : FinalState) → P (rows.Final state)) → ((activity : FinalActivity) → P (rows.Activity activity)) →
    P (counts_row counts) → AllByRecursion P (last_rows t cuts counts)
unfolding final_rows
last_all P t cuts counts states activities told =
    let end : State = final (opening t) cuts in
    let finals : List Row = map (final_row end.outstanding end.buckets) (table_order end.tables) in
    let active : List (Option Bool) = map (activity_of end) end.tables.flows in
    all_append P (finals ++ activity_rows end.tables.flows active) (counts_row counts ∷ [])
    (all_append P finals (activity_rows end.tables.flows active)
    (each_state end.outstanding end.buckets (table_order end.tables)) (each_activity end.tables.flows active)) (told, tt)
  where
    each_state : (outstanding : List ℕ) (buckets : List Level) (turns : List Turn) →
        AllByRecursion P (map (final_row outstanding buckets) turns)
    each_state outstanding buckets [] = tt
    each_state outstanding buckets (turn ∷ turns) = (
      states (record {
        flow = turn.cluster.flow.id;
        cluster = turn.cluster.list;
        outstanding = slice_index outstanding turn.number;
        units = option_and_then units_in (slice_get buckets turn.place);
      }),
      each_state outstanding buckets turns,
    )

    each_activity : (flows : List FlowTable) (active : List (Option Bool)) → AllByRecursion P (activity_rows flows active)
    each_activity [] active = tt
    each_activity (flow ∷ flows) [] = tt
    each_activity (flow ∷ flows) (None ∷ active) = each_activity flows active
    each_activity (flow ∷ flows) (Some is ∷ active) =
        (activities (record { flow = flow.id; active = if is then 1 else 0 }), each_activity flows active)

-- what passes and what doesn't is all
parted : {X : Type 0} (f : X → ℕ) (p : X → Bool) (xs : List X) →
    sum_by f (filter p xs) + sum_by f (filter (λ x. not (p x)) xs) ≡ sum_by f xs
parted f p [] = refl
parted f p (x ∷ xs) = elim (cases_Bool (p x)) [
  | inl is ↦ rw is (omega (arith, sum_by-cons f x (filter p xs), sum_by-cons f x xs, parted f p xs))
  | inr out ↦ rw out
      (omega (arith, sum_by-cons f x (filter (λ x. not (p x)) xs), sum_by-cons f x xs, parted f p xs))
]

-- the lines of a channel's round, in any order
sum_on : (f : Row → ℕ) (round : ℕ) (b : Built) → AreInside b → sum_by f (rows_on round b) ≡ sum_by f (rows_in round b)
unfolding rows_on
sum_on f round b inside =
    let len : ℕ = length b.board.cells in
    let line : Settled → Row = settled_row round b.channel in
    let granted : List Settled = filter is_granted b.settled in
    let missed : List Settled = filter (λ s. not (is_granted s)) b.settled in
    let requested : List Row = map (grant_row round b.channel) b.grants in
    let moved : sum_by f (granted_rows round b) ≡ sum_by f (in_order start_of len (granted_rows round b)) =
    same_moved (granted_rows round b) (in_order start_of len (granted_rows round b))
    (by_start_moves len (granted_rows round b) (granted_inside round b inside)) f in
    omega (
      arith,
      moved,
      sum_append f (in_order start_of len (granted_rows round b)) (missed_rows round b),
      sum_append f (map line granted) requested,
      sum_append f (map line b.settled) requested,
      sum_map f line granted,
      sum_map f line missed,
      sum_map f line b.settled,
      parted (λ s. f (line s)) is_granted b.settled,
    )

sum_round : (f : Row → ℕ) (round : ℕ) (bs : List Built) → AllByRecursion AreInside bs →
    sum_by f (flat_map (rows_on round) bs) ≡ sum_by f (flat_map (rows_in round) bs)
sum_round f round bs inside =
    sum_flat_map f (rows_on round) bs
    ∙ sum_same (λ b. sum_by f (rows_on round b)) (λ b. sum_by f (rows_in round b)) bs
    (all_weaker AreInside (λ b. sum_by f (rows_on round b) ≡ sum_by f (rows_in round b)) (sum_on f round) bs inside)
    ∙ sym (sum_flat_map f (rows_in round) bs)

-- the lines of all rounds
sum_rounds : (f : Row → ℕ) (t : Tables) (cuts : List (List ℕ)) → AreTables t → AreCuts t cuts →
    sum_by f (all_rows (map (out_of t) (schedule (opening t) cuts)))
    ≡ sum_by (λ s. sum_by f (round_rows s)) (rounds_of t cuts)
unfolding out_of
sum_rounds f t cuts lawful long =
    let rounds : List State = rounds_of t cuts in
    let over : Scheduled → ℕ = λ one. sum_by f (out_of t one).rows in
    sum_flat_map f (λ (out : RoundOut). out.rows) (map (out_of t) (schedule (opening t) cuts))
    ∙ sum_map (λ (out : RoundOut). sum_by f out.rows) (out_of t) (schedule (opening t) cuts)
    ∙ ap (sum_by over) (schedule_is_of_begun_rounds (opening t) cuts)
    ∙ sum_map over (λ s. (ended s (builds_of s)).scheduled) rounds
    ∙ sum_same (λ s. over (ended s (builds_of s)).scheduled) (λ s. sum_by f (round_rows s)) rounds
    (all_weaker (IsRoundOf t (length cuts)) (λ s. over (ended s (builds_of s)).scheduled ≡ sum_by f (round_rows s))
    (λ s is. sum_round f s.round (builds_of s) is.sound.inside) rounds (rounds_are t cuts lawful long))

-- A sum over all lines of a report goes round by round.
pub sum_lines : (f : Row → ℕ) (t : Tables) (cuts : List (List ℕ)) (counts : Counts) → AreTables t → AreCuts t cuts →
    sum_by f (judged_of (output_of t cuts counts)).lines
    ≡ sum_by (λ s. sum_by f (round_rows s)) (rounds_of t cuts) + sum_by f (last_rows t cuts counts)
unfolding output_of
sum_lines f t cuts counts lawful long =
    omega (
      arith,
      sum_append f (all_rows (map (out_of t) (schedule (opening t) cuts))) (last_rows t cuts counts),
      sum_rounds f t cuts lawful long,
    )

-- Lines of one round and channel.

elsewhere : (round r channel id : ℕ) → (round ≢ r) ⊎ (channel ≢ id) → ((round == r) && (channel == id)) ≡ false
elsewhere round r channel id (inl other) = rw (ne_eqb round r other) refl
elsewhere round r channel id (inr other) = rw (ne_eqb channel id other) (nothing (round == r))
  where
    nothing : (b : Bool) → (b && false) ≡ false
    nothing true = refl
    nothing false = refl

settled_elsewhere : (round r id : ℕ) (c : Channel) (all : List Settled) → (round ≢ r) ⊎ (c.id ≢ id) →
    AllByRecursion (λ row. is_told_at r id row ≡ false) (map (settled_row round c) all)
settled_elsewhere round r id c [] other = tt
settled_elsewhere round r id c (settled.Granted kind e i k start slots owner ∷ all) other =
    (elsewhere round r c.id id other, settled_elsewhere round r id c all other)
settled_elsewhere round r id c (settled.Missed kind e i k ∷ all) other =
    (elsewhere round r c.id id other, settled_elsewhere round r id c all other)

grants_elsewhere : (round r id : ℕ) (c : Channel) (all : List PlacedClaim) → (round ≢ r) ⊎ (c.id ≢ id) →
    AllByRecursion (λ row. is_told_at r id row ≡ false) (map (grant_row round c) all)
grants_elsewhere round r id c [] other = tt
grants_elsewhere round r id c (g ∷ all) other =
    (elsewhere round r c.id id other, grants_elsewhere round r id c all other)

-- the rows of another round or channel aren't told there
pub rows_elsewhere : (round r id : ℕ) (b : Built) → (round ≢ r) ⊎ (b.channel.id ≢ id) →
    AllByRecursion (λ row. is_told_at r id row ≡ false) (rows_in round b)
rows_elsewhere round r id b other =
    all_append (λ row. is_told_at r id row ≡ false) (map (settled_row round b.channel) b.settled)
    (map (grant_row round b.channel) b.grants)
    (settled_elsewhere round r id b.channel b.settled other) (grants_elsewhere round r id b.channel b.grants other)

-- nor are those at the end of a report
pub last_elsewhere : (r id : ℕ) (t : Tables) (cuts : List (List ℕ)) (counts : Counts) →
    AllByRecursion (λ row. is_told_at r id row ≡ false) (last_rows t cuts counts)
last_elsewhere r id t cuts counts =
    last_all (λ row. is_told_at r id row ≡ false) t cuts counts (λ state. refl) (λ activity. refl) refl

-- a sum of what is told at one round and channel counts nothing else
abbrev pub CountsAt : ℕ → ℕ → (Row → ℕ) → Type 0
CountsAt r id f = (row : Row) → is_told_at r id row ≡ false → f row ≡ 0

nothing_in : (r id : ℕ) (f : Row → ℕ) (all : List Row) → CountsAt r id f →
    AllByRecursion (λ row. is_told_at r id row ≡ false) all → sum_by f all ≡ 0
nothing_in r id f all counts none =
    sum_none f all (all_weaker (λ row. is_told_at r id row ≡ false) (λ row. f row ≡ 0) counts all none)

round_nothing : (r id : ℕ) (f : Row → ℕ) (s : State) → CountsAt r id f → s.round ≢ r → sum_by f (round_rows s) ≡ 0
round_nothing r id f s counts other =
    sum_flat_map f (rows_in s.round) (builds_of s)
    ∙ sum_none (λ b. sum_by f (rows_in s.round b)) (builds_of s) (each (builds_of s))
  where
    each : (bs : List Built) → AllByRecursion (λ b. sum_by f (rows_in s.round b) ≡ 0) bs
    each [] = tt
    each (b ∷ bs) = (
      nothing_in r id f (rows_in s.round b) counts (rows_elsewhere s.round r id b (inl other)),
      each bs,
    )

-- it is that over the rows of this round's channel
pub sum_at : (f : Row → ℕ) (t : Tables) (cuts : List (List ℕ)) (counts : Counts) → AreTables t → AreCuts t cuts →
    (r place : ℕ) (s : State) (b : Built) → slice_get (rounds_of t cuts) r ≡ Some s →
    slice_get (builds_of s) place ≡ Some b → CountsAt r b.channel.id f →
    sum_by f (judged_of (output_of t cuts counts)).lines ≡ sum_by f (rows_in r b)
sum_at f t cuts counts lawful long r place s b at there only =
    let id : ℕ = b.channel.id in
    let rounds : List State = rounds_of t cuts in
    let is : IsRoundOf t (length cuts) s =
    all_found (IsRoundOf t (length cuts)) rounds r s (rounds_are t cuts lawful long) at in
    let number : s.round ≡ r = round_at t cuts r s at in
    let of_round : sum_by (λ s. sum_by f (round_rows s)) rounds ≡ sum_by f (round_rows s) =
    sum_single (λ (s : State). s.round) (λ s. sum_by f (round_rows s)) rounds r s (rounds_apart t cuts) at
    (λ other apart. round_nothing r id f other only (λ same. apart (same ∙ sym number))) in
    let of_channel : sum_by (λ b. sum_by f (rows_in s.round b)) (builds_of s) ≡ sum_by f (rows_in s.round b) =
    sum_single (λ (b : Built). b.channel.id) (λ b. sum_by f (rows_in s.round b)) (builds_of s) place b
    (builds_apart t (length cuts) s lawful is) there
    (λ other apart. nothing_in r id f (rows_in s.round other) only (rows_elsewhere s.round r id other (inr apart))) in
    let ends : sum_by f (last_rows t cuts counts) ≡ 0 =
    nothing_in r id f (last_rows t cuts counts) only (last_elsewhere r id t cuts counts) in
    let all : sum_by f (judged_of (output_of t cuts counts)).lines ≡ sum_by f (rows_in s.round b) =
    omega (
      arith,
      sum_lines f t cuts counts lawful long,
      of_round,
      sum_flat_map f (rows_in s.round) (builds_of s),
      of_channel,
      ends,
    ) in
    all ∙ ap (λ n. sum_by f (rows_in n b)) number
