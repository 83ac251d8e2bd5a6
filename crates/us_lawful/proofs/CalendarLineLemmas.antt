-- How many lines name an occurrence: as many as its channel's calendar settles.
use Rattle.std.proofs.Common.{◌≡◌, ℕ, zero, suc, ◌≤◌, ◌||◌, false, cond, List, [], ◌∷◌, length, map, sum_by, count_by, flat_map, slice_get, Some, Contains, refl, ap, subst, ◌∙◌, arith, inl, inr}
use Rattle.std.specs.List.{AllByRecursion}
use Rattle.std.proofs.lemmas.Bool.{cases_Bool}
use Rattle.std.proofs.lemmas.List.Elements.{All-contains, All-from_recursion}
use Rattle.std.proofs.lemmas.List.Sums.{sum_by-cons}
use Rattle.std.proofs.lemmas.Option.{slice_get_within, get_or_from_slice_get}
use Rattle.us_flows.specs.declared.channels.Channel.{Channel}
use Rattle.us_flows.specs.Tables.{Tables}
use Rattle.us_flows.specs.Lawful.{AreTables, IsChannel}
use Rattle.us_flows.proofs.KeyLaws.{place_of_key}
use Rattle.us_requests.specs.declared.asks.Counts.{Counts}
use Rattle.us_calendar.specs.declared.settled.Settled.{Settled}
use Rattle.us_calendar.specs.Activity.{speaks_by}
use Rattle.us_calendar.specs.Entries.{Entry, entries}
use Rattle.us_calendar.specs.Calendars.{pace_of, opening}
use Rattle.us_calendar.specs.Runs.{Round, IsOccurrence, IsSettledOnce, grants, misses}
use Rattle.us_calendar.specs.Laws.{IsLawfulEntry}
use Rattle.us_calendar.proofs.EntryLaws.{entries_are_apart, entries_are_lawful}
use Rattle.us_calendar.proofs.NameLaws.{opening_states, rounds_told}
use Rattle.us_calendar.proofs.OnceLaws.{settled_once}
use Rattle.us_calendar.proofs.SortedLemmas.{entries_ordered, entries_windows}
use Rattle.us_channel.specs.Channels.{Built}
use Rattle.us_channel.specs.Placements.{PlacedClaim}
use Rattle.us_output.specs.Outputs.{settled_row, grant_row}
use Rattle.us_round.specs.ScheduleLaws.{boards_of}
use Rattle.us_output.proofs.PartLemmas.{all_found}
use Rattle.us_lawful.specs.Output.{run_of}
use Rattle.us_lawful.specs.CalendarLines.{names, speaks_in}
use Rattle.us_lawful.proofs.SameLemmas.{sum_append, sum_flat_map, sum_map}
use Rattle.us_lawful.proofs.SumLemmas.{sum_none, sum_same}
use Rattle.us_lawful.proofs.RoundLemmas.{rows_in}
use Rattle.us_lawful.proofs.NameLemmas.{row_names, request_names, same_told}
use Rattle.us_lawful.proofs.WindowLemmas.{rounds_for, speaks_alike}

-- Lists by places.

-- an item at a place is there,
pub found_has : {X : Type 0} (xs : List X) (place : ℕ) (x : X) → slice_get xs place ≡ Some x → Contains xs x
found_has xs place x at = (place, slice_get_within xs place x at, get_or_from_slice_get xs place x x at)

-- what holds of all holds of an item that is there,
pub all_among : {X : Type 0} (P : X → Type 0) (xs : List X) (x : X) → AllByRecursion P xs → Contains xs x → P x
all_among P xs x all has = All-contains P xs x (All-from_recursion P xs all) has

-- and what holds of the item at each place holds of all
pub all_by_places : {X : Type 0} (P : X → Type 0) (xs : List X) →
    ((place : ℕ) (x : X) → slice_get xs place ≡ Some x → P x) → AllByRecursion P xs
all_by_places P [] each = tt
all_by_places P (x ∷ xs) each = (each zero x refl, all_by_places P xs (λ place. each (suc place)))

-- a sum to which one place alone adds
pub sum_place : {X : Type 0} (g : X → ℕ) (xs : List X) (place : ℕ) (x : X) → slice_get xs place ≡ Some x →
    ((other : ℕ) (y : X) → slice_get xs other ≡ Some y → (other ≡ place → ⊥) → g y ≡ 0) → sum_by g xs ≡ g x
sum_place g [] place x at none = absurd (cc at)
sum_place g (y ∷ xs) zero x at none =
    let same : y ≡ x = cc in
    let others : sum_by g xs ≡ 0 =
    sum_none g xs (all_by_places (λ z. g z ≡ 0) xs (λ place z there. none (suc place) z there (λ is. omega (arith, is)))) in
    omega (arith, sum_by-cons g y xs, others, ap g same)
sum_place g (y ∷ xs) (suc place) x at none =
    let first : g y ≡ 0 = none zero y refl (λ is. omega (arith, is)) in
    let rest : sum_by g xs ≡ g x =
    sum_place g xs place x at (λ other z there apart. none (suc other) z there (λ same. apart (omega (arith, same)))) in
    omega (arith, sum_by-cons g y xs, first, rest)

-- sums of lists that agree place by place
pub sum_beside : {X Y : Type 0} (f : X → ℕ) (g : Y → ℕ) (xs : List X) (ys : List Y) → length xs ≡ length ys →
    ((place : ℕ) (x : X) (y : Y) → slice_get xs place ≡ Some x → slice_get ys place ≡ Some y → f x ≡ g y) →
    sum_by f xs ≡ sum_by g ys
sum_beside f g [] [] long same = refl
sum_beside f g [] (y ∷ ys) long same = absurd (omega (arith, long))
sum_beside f g (x ∷ xs) [] long same = absurd (omega (arith, long))
sum_beside f g (x ∷ xs) (y ∷ ys) long same =
    let rest : sum_by f xs ≡ sum_by g ys =
    sum_beside f g xs ys (omega (arith, long)) (λ place. same (suc place)) in
    omega (arith, sum_by-cons f x xs, sum_by-cons g y ys, same zero x y refl refl, rest)

-- Entries of a channel of the table.

-- an entry of the channel at a place of the table
pub record IsListed (t : Tables) (place : ℕ) (c : Channel) (e : Entry) : Type 0 where
  pub at : slice_get t.channels place ≡ Some c
  pub among : Contains (entries t c) e

-- whose channel is lawful,
pub channel_lawful : (t : Tables) (place : ℕ) (c : Channel) → AreTables t → slice_get t.channels place ≡ Some c →
    IsChannel t c
channel_lawful t place c lawful at = all_found (IsChannel t) t.channels place c lawful.channels at

-- and which have a grant at least in each interval
pub some_grants : (t : Tables) (place : ℕ) (c : Channel) (e : Entry) → AreTables t → IsListed t place c e → 1 ≤ e.grants
some_grants t place c e lawful is =
    (all_among (IsLawfulEntry t c) (entries t c) e (entries_are_lawful t lawful c (found_has t.channels place c is.at))
    is.among).entry.grants

-- each of its occurrences that is there is settled once
pub listed_once : (t : Tables) (cuts : List (List ℕ)) (counts : Counts) (place : ℕ) (c : Channel) (e : Entry) (n : ℕ) →
    AreTables t → IsListed t place c e →
    IsSettledOnce (pace_of t c) (speaks_in (run_of t cuts counts) e) (rounds_for t c cuts) e n
listed_once t cuts counts place c e n lawful is =
    subst (λ speaks. IsSettledOnce (pace_of t c) speaks (rounds_for t c cuts) e n)
    (speaks_alike t c cuts e (channel_lawful t place c lawful is.at))
    (all_among (λ e. (n : ℕ) → IsSettledOnce (pace_of t c) (speaks_by (pace_of t c) cuts e) (rounds_for t c cuts) e n)
    (entries t c) e
    (settled_once (pace_of t c) (entries t c) cuts (boards_of t c (length cuts)) (entries_ordered t c lawful)
    (entries_windows t c lawful)) is.among n)

-- what names an occurrence of an entry on another channel names none of it
stranger : (t : Tables) (place other : ℕ) (c d : Channel) (e : Entry) (n : ℕ) (s : Settled) → AreTables t →
    IsListed t place c e → slice_get t.channels other ≡ Some d → (other ≡ place → ⊥) → IsOccurrence (entries t d) s →
    (grants e n s || misses e n s) ≡ false
stranger t place other c d e n s lawful is there apart of =
    elim (cases_Bool (grants e n s || misses e n s)) [
      | inr none ↦ none
      | inl named ↦
          let alike = same_told of.entry e of.number n s of.named named in
          let one = entries_are_apart t lawful d c (found_has t.channels other d there) (found_has t.channels place c is.at)
          of.entry e of.among is.among alike.0 alike.1 in
          absurd (apart (place_of_key (λ (c : Channel). c.id) t.channels other place d c lawful.channels_apart there is.at
          (ap (λ (c : Channel). c.id) one.0)))
    ]

-- Rounds.

-- a channel's round settled what the calendar of the channel at this place settles in round `r` of a run
pub record IsBuiltAt (t : Tables) (cuts : List (List ℕ)) (r place : ℕ) (b : Built) : Type 0 where
  pub channel : slice_get t.channels place ≡ Some b.channel
  pub round : Round
  pub at : slice_get (rounds_for t b.channel cuts) r ≡ Some round
  pub settled : round.settled ≡ b.settled

abbrev pub AreBuilt : Tables → List (List ℕ) → ℕ → List Built → Type 0
AreBuilt t cuts r bs = (place : ℕ) (b : Built) → slice_get bs place ≡ Some b → IsBuiltAt t cuts r place b

-- which are occurrences of entries of this channel
pub occurrences_built : (t : Tables) (cuts : List (List ℕ)) (r place : ℕ) (b : Built) → IsBuiltAt t cuts r place b →
    AllByRecursion (IsOccurrence (entries t b.channel)) b.settled
occurrences_built t cuts r place b is =
    let c : Channel = b.channel in
    let told : AllByRecursion (IsOccurrence (entries t c)) is.round.settled =
    all_found (λ (round : Round). AllByRecursion (IsOccurrence (entries t c)) round.settled) (rounds_for t c cuts) r
    is.round (rounds_told (entries t c) (opening t c) cuts (boards_of t c (length cuts)) (opening_states (entries t c)))
    is.at in
    rw is.settled at told

-- Lines.

-- lines of what is settled name an occurrence as often as it is granted or missed,
settled_counted : (e : Entry) (n round : ℕ) (c : Channel) (all : List Settled) → 1 ≤ e.grants →
    count_by (names e n) (map (settled_row round c) all) ≡ count_by (λ s. grants e n s || misses e n s) all
settled_counted e n round c all some =
    sum_map (λ row. cond (names e n row) 1 0) (settled_row round c) all
    ∙ sum_same (λ s. cond (names e n (settled_row round c s)) 1 0) (λ s. cond (grants e n s || misses e n s) 1 0) all
    (each all)
  where
    each : (all : List Settled) → AllByRecursion (λ s. cond {A = ℕ} (names e n (settled_row round c s)) 1 0
        ≡ cond {A = ℕ} (grants e n s || misses e n s) 1 0) all
    each [] = tt
    each (s ∷ all) = (ap (λ named. cond named 1 0) (row_names e n round c s some), each all)

-- and those of requests never
requests_counted : (e : Entry) (n round : ℕ) (c : Channel) (all : List PlacedClaim) →
    count_by (names e n) (map (grant_row round c) all) ≡ 0
requests_counted e n round c all =
    sum_map (λ row. cond (names e n row) 1 0) (grant_row round c) all
    ∙ sum_none (λ g. cond (names e n (grant_row round c g)) 1 0) all (each all)
  where
    each : (all : List PlacedClaim) → AllByRecursion (λ g. cond {A = ℕ} (names e n (grant_row round c g)) 1 0 ≡ 0) all
    each [] = tt
    each (g ∷ all) = (ap (λ named. cond named 1 0) (request_names e n round c g), each all)

-- of the lines of a channel's round those name an occurrence that tell it as settled
build_counted : (e : Entry) (n round : ℕ) (b : Built) → 1 ≤ e.grants →
    count_by (names e n) (rows_in round b) ≡ count_by (λ s. grants e n s || misses e n s) b.settled
build_counted e n round b some =
    omega (
      arith,
      sum_append (λ row. cond (names e n row) 1 0) (map (settled_row round b.channel) b.settled)
          (map (grant_row round b.channel) b.grants),
      settled_counted e n round b.channel b.settled some,
      requests_counted e n round b.channel b.grants,
    )

-- and of those of a round's other channels none
other_counted : (t : Tables) (cuts : List (List ℕ)) (r place other : ℕ) (c : Channel) (e : Entry) (n round : ℕ) (b : Built) → AreTables t →
    IsListed t place c e → (other ≡ place → ⊥) → IsBuiltAt t cuts r other b →
    count_by (names e n) (rows_in round b) ≡ 0
other_counted t cuts r place other c e n round b lawful is apart built =
    build_counted e n round b (some_grants t place c e lawful is)
    ∙ sum_none (λ s. cond (grants e n s || misses e n s) 1 0) b.settled
    (each b.settled (occurrences_built t cuts r other b built))
  where
    each : (all : List Settled) → AllByRecursion (IsOccurrence (entries t b.channel)) all →
        AllByRecursion (λ s. cond {A = ℕ} (grants e n s || misses e n s) 1 0 ≡ 0) all
    each [] of = tt
    each (s ∷ all) of = (
      ap (λ named. cond named 1 0)
          (stranger t place other c b.channel e n s lawful is built.channel apart of.0),
      each all of.1,
    )

-- The lines of a round name it as often as the calendar of its entry's channel settled it.
pub round_counted : (t : Tables) (cuts : List (List ℕ)) (r place : ℕ) (c : Channel) (e : Entry) (n round : ℕ) (bs : List Built)
    (b : Built) →
    AreTables t → IsListed t place c e → AreBuilt t cuts r bs → slice_get bs place ≡ Some b →
    count_by (names e n) (flat_map (rows_in round) bs) ≡ count_by (λ s. grants e n s || misses e n s) b.settled
round_counted t cuts r place c e n round bs b lawful is built at =
    sum_flat_map (λ row. cond (names e n row) 1 0) (rows_in round) bs
    ∙ sum_place (λ b. count_by (names e n) (rows_in round b)) bs place b at
    (λ other d there apart. other_counted t cuts r place other c e n round d lawful is apart (built other d there))
    ∙ build_counted e n round b (some_grants t place c e lawful is)
