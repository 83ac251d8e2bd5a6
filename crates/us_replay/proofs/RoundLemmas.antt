-- Rounds: what is outstanding was asked for, and what a round gives is never nothing.
use Rattle.std.proofs.Common.{◌≡◌, ℕ, ◌+◌, ◌-◌, ◌<◌, ◌≤◌, List, [], ◌∷◌, length, map, flat_map, sum, refl, ◌∙◌, inl, inr, arith, length-append}
use Rattle.std.specs.List.{AllByRecursion, zip}
use Rattle.std.proofs.lemmas.Bool.{cases_Bool}
use Rattle.std.proofs.lemmas.List.{length-map}
use Rattle.std.proofs.lemmas.List.Sums.{sum_by-cons}
use Rattle.us_codec.specs.Bodies.{MapBody, spelling}
use Rattle.us_codec.specs.MapsFiles.{Piece, record_bytes, maps_file}
use Rattle.us_flows.specs.Tables.{Tables}
use Rattle.us_flows.specs.Clusters as words
use Rattle.us_flows.specs.Clusters.{Word, words_of}
use Rattle.us_calendar.specs.Calendars as calendars
use Rattle.us_split.specs.Requested.{requested_by, requested_in, with_cut}
use Rattle.us_channel.specs.Placements.{PlacedClaim, credits}
use Rattle.us_round.specs.Rounds.{State, all_grants, begun, build_planned, builds_of, fills_of, is_of_cluster, uncredited, opening, round_from, round_of, round_plan}
use Rattle.us_round.proofs.PhaseLemmas.{zip_long}
use Rattle.us_output.specs.Outputs.{RoundOut, built_map, out_of}
use Rattle.us_output.specs.Files.{records}

-- Sums of two lists side by side.

sum-cons : (x : ℕ) (xs : List ℕ) → sum (x ∷ xs) ≡ x + sum xs
sum-cons x xs = sum_by-cons (λ y. y) x xs

abbrev added : List ℕ → List ℕ → List ℕ
added xs ys = map (λ pair. pair.0 + pair.1) (zip xs ys)

sum-added : (xs ys : List ℕ) → sum (added xs ys) ≤ sum xs + sum ys
sum-added [] ys = omega arith
sum-added (x ∷ xs) [] = omega arith
sum-added (x ∷ xs) (y ∷ ys) =
    omega (arith, sum-cons (x + y) (added xs ys), sum-cons x xs, sum-cons y ys, sum-added xs ys)

-- numbers whose sums together are below a bound are below it one by one
pub added-below : (bound : ℕ) (xs ys : List ℕ) → sum xs + sum ys < bound →
    AllByRecursion (λ pair. pair.0 + pair.1 < bound) (zip xs ys)
added-below bound [] ys h = tt
added-below bound (x ∷ xs) [] h = tt
added-below bound (x ∷ xs) (y ∷ ys) h =
    (omega (arith, sum-cons x xs, sum-cons y ys, h), added-below bound xs ys (omega (arith, sum-cons x xs, sum-cons y ys, h)))

-- States.

sum-left : (grants : List PlacedClaim) (number : ℕ) (xs : List ℕ) → sum (uncredited grants number xs) ≤ sum xs
sum-left grants number [] = omega arith
sum-left grants number (x ∷ xs) =
    omega (
      arith,
      sum-cons (x - credits (is_of_cluster number) grants) (uncredited grants (number + 1) xs),
      sum-cons x xs,
      sum-left grants (number + 1) xs,
    )

-- no more is requested of a cut than it has
requested-few : (word : Word) (bytes : ℕ) → requested_by word bytes ≤ bytes
requested-few word bytes = elim (cases_Bool (words.is_of_cluster word)) [
  | inl own ↦ rw own (omega arith)
  | inr other ↦ rw other (omega arith)
]

sum-requested : (words : List Word) (cut : List ℕ) → sum (requested_in words cut) ≤ sum cut
sum-requested [] cut = omega arith
sum-requested (word ∷ words) [] = omega arith
sum-requested (word ∷ words) (bytes ∷ cut) =
    omega (
      arith,
      sum-cons (requested_by word bytes) (requested_in words cut),
      sum-cons bytes cut,
      requested-few word bytes,
      sum-requested words cut,
    )

-- a round, as far as the next one needs it
pub record After (state : State) (cut : List ℕ) (next : State) : Type 0 where
  pub tables_are : next.tables ≡ state.tables
  pub round_is : next.round ≡ state.round + 1
  pub asked_for : sum next.outstanding ≤ sum state.outstanding + sum cut

pub after : (state : State) (cut : List ℕ) → After state cut (round_of state cut).state
unfolding round_of round_from
after state cut =
    let now : List ℕ = with_cut state.tables state.outstanding cut in
    let grants : List PlacedClaim = all_grants (builds_of (begun state cut)) in
    record {
      tables_are = refl;
      round_is = refl;
      asked_for = omega (
        arith,
        sum-left grants 0 now,
        sum-added state.outstanding (requested_in (words_of state.tables) cut),
        sum-requested (words_of state.tables) cut,
      );
    }

-- Records.

-- a state has a calendar for each channel
abbrev pub HasCalendars : State → Type 0
HasCalendars state = length state.calendars ≡ length state.tables.channels

pub opening-calendars : (t : Tables) → HasCalendars (opening t)
opening-calendars t = length-map t.channels (calendars.opening t)

-- so a round builds each channel
length-builds : (state : State) (cut : List ℕ) → HasCalendars state →
    length (builds_of (begun state cut)) ≡ length state.tables.channels
unfolding builds_of
length-builds state cut has =
    length-map (fills_of (begun state cut)) (build_planned (round_plan (begun state cut))) ∙
    length-map (zip state.tables.channels (map (calendars.heard_by cut) state.calendars)) _ ∙
    zip_long state.tables.channels (map (calendars.heard_by cut) state.calendars)
    (omega (arith, length-map state.calendars (calendars.heard_by cut), has)) ∙
    length-map state.calendars (calendars.heard_by cut) ∙ has

pub next-calendars : (state : State) (cut : List ℕ) → HasCalendars state → HasCalendars (round_of state cut).state
unfolding round_of round_from
next-calendars state cut has =
    length-map (builds_of (begun state cut)) (λ b. b.calendar) ∙ length-builds state cut has

-- and has a MAP for each channel
length-maps : (state : State) (cut : List ℕ) → HasCalendars state →
    length (out_of state.tables (round_of state cut).scheduled).maps ≡ length state.tables.channels
unfolding round_of round_from out_of
length-maps state cut has =
    length-map (builds_of (begun state cut)) (built_map state.tables state.round (round_of state cut).scheduled.pending) ∙
    length-builds state cut has

length-record : (p : Piece) → 6 ≤ length (record_bytes p)
unfolding record_bytes
length-record p = omega arith

some-file : (round : ℕ) (maps : List MapBody) → 0 < length maps →
    0 < length (maps_file (map (λ body. record { round = round; body = spelling body }) maps))
unfolding maps_file
some-file round [] h = h
some-file round (body ∷ maps) h =
    let first : Piece = record { round = round; body = spelling body } in
    let rest : List Piece = map (λ body. record { round = round; body = spelling body }) maps in
    omega (arith, length-append (record_bytes first) (flat_map record_bytes rest), length-record first)

-- so its records have bytes
pub some-records : (state : State) (cut : List ℕ) → HasCalendars state → 1 ≤ length state.tables.channels →
    0 < length (records (out_of state.tables (round_of state cut).scheduled))
unfolding records
some-records state cut calendars some =
    let out : RoundOut = out_of state.tables (round_of state cut).scheduled in
    some-file out.round out.maps (omega (arith, length-maps state cut calendars, some))
