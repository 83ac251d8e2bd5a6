-- Each line of a schedule is of a round and a channel of its run.
use Rattle.std.proofs.Common.{◌≡◌, ◌≢◌, ℕ, ◌<◌, ◌≤◌, ◌==◌, ◌⊎◌, eq-eqb, ltb-false, Bool, true, false, List, [], ◌∷◌, length, map, cond, refl, sym, ap, ◌∙◌, arith, inl, inr}
use Rattle.std.specs.Prelude.{◌||◌, not, nat_lt, sum_by}
use Rattle.std.specs.List.{AllByRecursion, list_any}
use Rattle.std.proofs.lemmas.Bool.{and_cases, cases_Bool, false≢true, or_left, or_parts, or_right}
use Rattle.std.proofs.lemmas.List.Sums.{sum_by-cons}
use Rattle.us_flows.specs.Tables.{Tables, has_channel, rounds_fit}
use Rattle.us_flows.specs.Lawful.{AreTables}
use Rattle.us_requests.specs.declared.asks.Counts.{Counts}
use Rattle.us_channel.specs.Channels.{Built}
use Rattle.us_round.specs.Rounds.{State, builds_of}
use Rattle.us_round.specs.ScheduleLaws.{AreCuts}
use Rattle.us_output.specs.declared.rows.Row.{Row}
use Rattle.us_output.proofs.PartLemmas.{all_weaker}
use Rattle.us_round.proofs.ChannelRunLaws.{channels_stay}
use Rattle.us_reports.specs.declared.place.Place.{Place}
use Rattle.us_lawful.specs.Output.{output_of, judged_of, run_of}
use Rattle.us_lawful.specs.Places.{is_told_at, has_place, places_hold}
use Rattle.us_lawful.proofs.SameLemmas.{sum_flat_map}
use Rattle.us_lawful.proofs.SumLemmas.{sum_none}
use Rattle.us_lawful.proofs.RoundLemmas.{IsRoundOf, last_elsewhere, last_rows, round_rows, rounds_are, rounds_of, rows_elsewhere, rows_in, sum_lines}

-- Lines that aren't told at a place.

abbrev one_if : (Row → Bool) → Row → ℕ
one_if p row = cond (p row) 1 0

none_passes : (p : Row → Bool) (lines : List Row) → sum_by (one_if p) lines ≡ 0 → list_any p lines ≡ false
none_passes p [] none = refl
none_passes p (row ∷ lines) none = elim (cases_Bool (p row)) [
  | inl is ↦
      let one : one_if p row ≡ 1 = rw is refl in
      absurd (omega (arith, one, none, sum_by-cons (one_if p) row lines))
  | inr out ↦ rw out (none_passes p lines (omega (arith, none, sum_by-cons (one_if p) row lines)))
]

sum_failing : (p : Row → Bool) (lines : List Row) → AllByRecursion (λ row. p row ≡ false) lines →
    sum_by (one_if p) lines ≡ 0
sum_failing p lines fail =
    sum_none (one_if p) lines
    (all_weaker (λ row. p row ≡ false) (λ row. one_if p row ≡ 0) (λ row out. rw out refl) lines fail)

-- a channel of a round, where the round or the channel is another one
abbrev IsElsewhere : ℕ → ℕ → State → Built → Type 0
IsElsewhere r id s b = (s.round ≢ r) ⊎ (b.channel.id ≢ id)

round_elsewhere : (r id : ℕ) (s : State) → AllByRecursion (IsElsewhere r id s) (builds_of s) →
    sum_by (one_if (is_told_at r id)) (round_rows s) ≡ 0
round_elsewhere r id s other =
    sum_flat_map (one_if (is_told_at r id)) (rows_in s.round) (builds_of s)
    ∙ sum_none (λ b. sum_by (one_if (is_told_at r id)) (rows_in s.round b)) (builds_of s)
    (all_weaker (IsElsewhere r id s) (λ b. sum_by (one_if (is_told_at r id)) (rows_in s.round b) ≡ 0)
    (λ b other. sum_failing (is_told_at r id) (rows_in s.round b) (rows_elsewhere s.round r id b other)) (builds_of s) other)

-- no line is told at a place where no channel of a round is
nothing_told : (t : Tables) (cuts : List (List ℕ)) (counts : Counts) → AreTables t → AreCuts t cuts → (r id : ℕ) →
    ((s : State) → IsRoundOf t (length cuts) s → AllByRecursion (IsElsewhere r id s) (builds_of s)) →
    list_any (is_told_at r id) (judged_of (output_of t cuts counts)).lines ≡ false
nothing_told t cuts counts lawful long r id other =
    let told : Row → ℕ = one_if (is_told_at r id) in
    let rounds : sum_by (λ s. sum_by told (round_rows s)) (rounds_of t cuts) ≡ 0 =
    sum_none (λ s. sum_by told (round_rows s)) (rounds_of t cuts)
    (all_weaker (IsRoundOf t (length cuts)) (λ s. sum_by told (round_rows s) ≡ 0)
    (λ s is. round_elsewhere r id s (other s is)) (rounds_of t cuts) (rounds_are t cuts lawful long)) in
    let ends : sum_by told (last_rows t cuts counts) ≡ 0 =
    sum_failing (is_told_at r id) (last_rows t cuts counts) (last_elsewhere r id t cuts counts) in
    none_passes (is_told_at r id) (judged_of (output_of t cuts counts)).lines
    (omega (arith, sum_lines told t cuts counts lawful long, rounds, ends))

-- Places that a run lacks.

past_end : (r id end : ℕ) (s : State) (bs : List Built) → s.round < end → end ≤ r → AllByRecursion (IsElsewhere r id s) bs
past_end r id end s [] before past = tt
past_end r id end s (b ∷ bs) before past =
    (inl (λ same. omega (arith, same, before, past)), past_end r id end s bs before past)

no_channel : (r id : ℕ) (s : State) (bs : List Built) →
    has_channel (map (λ b. b.channel) bs) id ≡ false → AllByRecursion (IsElsewhere r id s) bs
no_channel r id s [] none = tt
no_channel r id s (b ∷ bs) none =
    let parts = or_parts (b.channel.id == id) (has_channel (map (λ b. b.channel) bs) id) none in
    (inr (λ same. false≢true (sym parts.0 ∙ eq-eqb b.channel.id id same)), no_channel r id s bs parts.1)

lacking : (t : Tables) (cuts : List (List ℕ)) (r id : ℕ) →
    (nat_lt r (length cuts) ≡ false) ⊎ (has_channel t.channels id ≡ false) → (s : State) → IsRoundOf t (length cuts) s →
    AllByRecursion (IsElsewhere r id s) (builds_of s)
lacking t cuts r id (inl past) s is =
    past_end r id (length cuts) s (builds_of s) is.before (ltb-false r (length cuts) past)
lacking t cuts r id (inr none) s is =
    no_channel r id s (builds_of s)
    (ap (λ channels. has_channel channels id) (channels_stay s is.state ∙ ap (λ (u : Tables). u.channels) is.tables) ∙ none)

-- At each place that a run lacks a schedule has no line.
pub places_are_lawful : (t : Tables) (cuts : List (List ℕ)) (counts : Counts) → AreTables t → AreCuts t cuts →
    rounds_fit t (length cuts) ≡ true → (p : Place) →
    places_hold (run_of t cuts counts) (judged_of (output_of t cuts counts)) p ≡ true
places_are_lawful t cuts counts lawful long fits p =
    let has : Bool = has_place (run_of t cuts counts) p.round p.channel in
    let told : Bool = list_any (is_told_at p.round p.channel) (judged_of (output_of t cuts counts)).lines in
    or_right (not (p.third == 0)) (has || not told) (elim (cases_Bool has) [
      | inl is ↦ or_left has (not told) is
      | inr lacks ↦ or_right has (not told)
          (ap not (nothing_told t cuts counts lawful long p.round p.channel
          (lacking t cuts p.round p.channel
          (and_cases (nat_lt p.round (length cuts)) (has_channel t.channels p.channel) lacks))))
    ])
