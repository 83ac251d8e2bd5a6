-- What the lines of a flow credit in a round.
use Rattle.std.proofs.Common.{◌≡◌, ℕ, ◌<◌, ◌==◌, Bool, true, false, List, [], ◌∷◌, cond, refl, sym, ◌∙◌, inl, inr, arith}
use Rattle.std.specs.Prelude.{◌&&◌, nat_lt, filter, sum_by}
use Rattle.std.proofs.lemmas.Bool.{cases_eq, lt-ltb, ne_eqb}
use Rattle.std.proofs.lemmas.List.Sums.{sum_by-cons}
use Rattle.us_output.specs.declared.rows.Grant.{Grant}
use Rattle.us_output.specs.declared.rows.Row.{Row}
use Rattle.us_lawful.specs.Runs.{requested_in}
use Rattle.us_lawful.specs.Rates.{flow_credit}
use Rattle.us_lawful.proofs.SameLemmas.{sum_filter}
use Rattle.us_credit_rules.proofs.WalkLemmas.{credit_in}

pub sum_pointwise : {X : Type 0} (f g : X → ℕ) → ((x : X) → f x ≡ g x) → (xs : List X) → sum_by f xs ≡ sum_by g xs
sum_pointwise f g same [] = refl
sum_pointwise f g same (x ∷ xs) =
    omega (arith, sum_by-cons f x xs, sum_by-cons g x xs, same x, sum_pointwise f g same xs)

-- those of a flow in the rounds of a run
abbrev pub own_lines : ℕ → ℕ → List Grant → List Grant
own_lines rounds id grants = filter (λ g. (g.id == id) && nat_lt g.round rounds) grants

credit_sum : (lines : List Grant) (round : ℕ) →
    credit_in lines round ≡ sum_by (λ g. cond (g.round == round) g.credit 0) lines
credit_sum [] round = refl
credit_sum (g ∷ lines) round =
    omega (arith, credit_sum lines round, sum_by-cons (λ (g : Grant). cond (g.round == round) g.credit 0) g lines)

pub flow_credit_is : (rounds id round : ℕ) (lines : List Row) → round < rounds →
    flow_credit lines id round ≡ credit_in (own_lines rounds id (requested_in lines)) round
flow_credit_is rounds id round lines within =
    let grants : List Grant = requested_in lines in
    let now : Grant → ℕ = λ g. cond (g.round == round) g.credit 0 in
    sum_filter (λ (g : Grant). g.credit) (λ g. (g.id == id) && (g.round == round)) grants
    ∙ sum_pointwise (λ (g : Grant). cond ((g.id == id) && (g.round == round)) g.credit 0)
    (λ g. cond ((g.id == id) && nat_lt g.round rounds) (now g) 0) (λ g. one (g.id == id) g) grants
    ∙ sym (sum_filter now (λ (g : Grant). (g.id == id) && nat_lt g.round rounds) grants)
    ∙ sym (credit_sum (own_lines rounds id grants) round)
  where
    nothing : (b : Bool) → 0 ≡ cond {A = ℕ} b 0 0
    nothing true = refl
    nothing false = refl

    one : (own : Bool) (g : Grant) →
        cond {A = ℕ} (own && (g.round == round)) g.credit 0
        ≡ cond (own && nat_lt g.round rounds) (cond (g.round == round) g.credit 0) 0
    one false g = refl
    one true g = elim (cases_eq g.round round) [
      | inl here ↦ rw (lt-ltb g.round rounds (omega (arith, here, within))) refl
      | inr other ↦ rw (ne_eqb g.round round other) (nothing (nat_lt g.round rounds))
    ]
