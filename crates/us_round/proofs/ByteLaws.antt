-- Bytes that are asked for are credited or outstanding.
use Rattle.std.proofs.Common.{◌≡◌, ℕ, zero, suc, ◌+◌, ◌-◌, ◌≤◌, List, [], ◌∷◌, length, map, zip, slice_index, replicate, ap, ◌∙◌, arith}
use Rattle.std.proofs.lemmas.List.Sums.{sum_by-cons}
use Rattle.us_flows.specs.Tables.{Tables}
use Rattle.us_flows.specs.Lawful.{AreTables}
use Rattle.us_flows.specs.Clusters.{words_of}
use Rattle.us_split.specs.Requested.{requested_in, with_cut}
use Rattle.us_split.proofs.RequestedLemmas.{requested-length}
use Rattle.us_channel.specs.Placements.{PlacedClaim, credits}
use Rattle.us_round.specs.Rounds.{State, opening, begun, builds_of, all_grants, is_of_cluster, uncredited, round_from, round_of, schedule, final}
use Rattle.us_output.specs.Outputs.{Scheduled}
use Rattle.us_round.specs.States.{IsState}
use Rattle.us_round.specs.ScheduleLaws.{AreCuts, BytesAreKept, asked_of, credited_of}
use Rattle.us_round.proofs.PendingLemmas.{left-index}
use Rattle.us_round.proofs.CalendarLemmas.{opening_state}
use Rattle.us_round.proofs.ScheduleLaws.{begun_state, next_state, state_sound}

sum_index : (outstanding asked : List ℕ) (number : ℕ) → length asked ≡ length outstanding →
    slice_index (map (λ pair. pair.0 + pair.1) (zip outstanding asked)) number
    ≡ slice_index outstanding number + slice_index asked number
sum_index [] [] number long = omega arith
sum_index [] (newly ∷ asked) number long = absurd (omega (arith, long))
sum_index (bytes ∷ more) [] number long = absurd (omega (arith, long))
sum_index (bytes ∷ more) (newly ∷ asked) zero long = omega arith
sum_index (bytes ∷ more) (newly ∷ asked) (suc number) long = sum_index more asked number (omega (arith, long))

-- what is requested is added
cut_index : (t : Tables) (outstanding cut : List ℕ) (number : ℕ) → length outstanding ≡ length (words_of t) →
    length cut ≡ length (words_of t) → slice_index (with_cut t outstanding cut) number
    ≡ slice_index outstanding number + slice_index (requested_in (words_of t) cut) number
cut_index t outstanding cut number long also =
    sum_index outstanding (requested_in (words_of t) cut) number
    (omega (arith, long, also, requested-length (words_of t) cut also))

-- one round
round_kept : (s : State) (cut : List ℕ) (number : ℕ) → AreTables s.tables → IsState s →
    length cut ≡ length (words_of s.tables) →
    slice_index (round_of s cut).state.outstanding number
    + credits (is_of_cluster number) (all_grants (round_of s cut).scheduled.channels)
    ≡ slice_index s.outstanding number + slice_index (requested_in (words_of s.tables) cut) number
unfolding round_of round_from
round_kept s cut number lawful is long =
    let now : State = begun s cut in
    let grants : List PlacedClaim = all_grants (builds_of now) in
    let own : 0 + number ≡ number = omega arith in
    let left : slice_index (uncredited grants 0 now.outstanding) number
    ≡ slice_index now.outstanding number - credits (is_of_cluster number) grants =
    left-index grants 0 now.outstanding number
    ∙ ap (λ n. slice_index now.outstanding number - credits (is_of_cluster n) grants) own in
    let few : credits (is_of_cluster number) grants ≤ slice_index now.outstanding number =
    (state_sound now lawful (begun_state s cut is long)).covers.asked number in
    omega (arith, left, few, cut_index s.tables s.outstanding cut number is.words long)

kept_from : (s : State) (cuts : List (List ℕ)) (number : ℕ) → AreTables s.tables → IsState s → AreCuts s.tables cuts →
    slice_index (final s cuts).outstanding number + credited_of number (schedule s cuts)
    ≡ slice_index s.outstanding number + asked_of s.tables number cuts
unfolding schedule final round_of round_from
kept_from s [] number lawful is long = omega arith
kept_from s (cut ∷ cuts) number lawful is long =
    let next : State = (round_of s cut).state in
    let one : Scheduled = (round_of s cut).scheduled in
    let rest : slice_index (final next cuts).outstanding number + credited_of number (schedule next cuts)
    ≡ slice_index next.outstanding number + asked_of s.tables number cuts =
    kept_from next cuts number lawful (next_state (begun s cut) (begun_state s cut is long.0)) long.1 in
    omega (
      arith,
      rest,
      round_kept s cut number lawful is long.0,
      sum_by-cons (λ s. credits (is_of_cluster number) (all_grants s.channels)) one (schedule next cuts),
      sum_by-cons (λ cut. slice_index (requested_in (words_of s.tables) cut) number) cut cuts,
    )

none_before : (count number : ℕ) → slice_index (replicate count 0) number ≡ 0
none_before zero number = omega arith
none_before (suc count) zero = omega arith
none_before (suc count) (suc number) = none_before count number

pub bytes_are_kept : BytesAreKept
bytes_are_kept t cuts number lawful long =
    omega (
      arith,
      kept_from (opening t) cuts number lawful (opening_state t) long,
      none_before (length (words_of t)) number,
    )
