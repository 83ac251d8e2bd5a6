-- The first so many rounds of a run: they are those of its first cuts.
use Rattle.std.proofs.Common.{◌≡◌, ℕ, zero, suc, ◌+◌, ◌≤◌, List, [], ◌∷◌, take, cond, refl, ap, ◌∙◌, arith}
use Rattle.std.specs.Prelude.{nat_lt, sum_by}
use Rattle.std.proofs.lemmas.Bool.{le-ltb, lt-ltb}
use Rattle.std.proofs.lemmas.List.Sums.{sum_by-cons}
use Rattle.us_channel.specs.Placements.{credits}
use Rattle.us_round.specs.Rounds.{State, begun, builds_of, ended, all_grants, is_of_cluster, round_from, round_of, schedule}
use Rattle.us_output.specs.Outputs.{Scheduled}
use Rattle.us_round.specs.ScheduleLaws.{begun_rounds, credited_of}
use Rattle.us_round.proofs.ScheduleLaws.{schedule_is_of_begun_rounds}
use Rattle.us_lawful.proofs.SameLemmas.{sum_map}

-- rounds behind them add nothing
later_add_nothing : (w : State → ℕ) (s : State) (cuts : List (List ℕ)) (rounds : ℕ) → rounds ≤ s.round →
    sum_by (λ (s : State). cond (nat_lt s.round rounds) (w s) 0) (begun_rounds s cuts) ≡ 0
unfolding begun_rounds round_of round_from
later_add_nothing w s [] rounds late = refl
later_add_nothing w s (cut ∷ cuts) rounds late =
    let next : State = (round_of s cut).state in
    let out : cond {A = ℕ} (nat_lt s.round rounds) (w (begun s cut)) 0 ≡ 0 =
    ap (λ b. cond {A = ℕ} b (w (begun s cut)) 0) (le-ltb s.round rounds late) in
    omega (
      arith,
      out,
      sum_by-cons (λ (s : State). cond (nat_lt s.round rounds) (w s) 0) (begun s cut) (begun_rounds next cuts),
      later_add_nothing w next cuts rounds (omega (arith, late)),
    )

-- so that a sum over them is one over the rounds of the first cuts
pub sum_within : (w : State → ℕ) (s : State) (cuts : List (List ℕ)) (rounds more : ℕ) → more + s.round ≡ rounds →
    sum_by (λ (s : State). cond (nat_lt s.round rounds) (w s) 0) (begun_rounds s cuts)
    ≡ sum_by w (begun_rounds s (take more cuts))
unfolding begun_rounds round_of round_from
sum_within w s [] rounds zero end = refl
sum_within w s [] rounds (suc more) end = refl
sum_within w s (cut ∷ cuts) rounds zero end = later_add_nothing w s (cut ∷ cuts) rounds (omega (arith, end))
sum_within w s (cut ∷ cuts) rounds (suc more) end =
    let next : State = (round_of s cut).state in
    let counts : cond {A = ℕ} (nat_lt s.round rounds) (w (begun s cut)) 0 ≡ w (begun s cut) =
    ap (λ b. cond {A = ℕ} b (w (begun s cut)) 0) (lt-ltb s.round rounds (omega (arith, end))) in
    omega (
      arith,
      counts,
      sum_by-cons (λ (s : State). cond (nat_lt s.round rounds) (w s) 0) (begun s cut) (begun_rounds next cuts),
      sum_by-cons w (begun s cut) (begun_rounds next (take more cuts)),
      sum_within w next cuts rounds more (omega (arith, end)),
    )

-- what the rounds of a schedule credit
pub credited_is : (number : ℕ) (s : State) (cuts : List (List ℕ)) →
    credited_of number (schedule s cuts)
    ≡ sum_by (λ s. credits (is_of_cluster number) (all_grants (builds_of s))) (begun_rounds s cuts)
credited_is number s cuts =
    let over : Scheduled → ℕ = λ one. credits (is_of_cluster number) (all_grants one.channels) in
    ap (sum_by over) (schedule_is_of_begun_rounds s cuts)
    ∙ sum_map over (λ s. (ended s (builds_of s)).scheduled) (begun_rounds s cuts)
