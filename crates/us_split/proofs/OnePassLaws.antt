-- Where nothing is reserved, one pass does: first shares of no bytes change nothing.
use Rattle.std.proofs.Common.{◌≡◌, ℕ, zero, suc, ◌+◌, ◌-◌, ◌<◌, List, [], ◌∷◌, length, map, Option, Some, None, refl, sym, ap, ap₂, ◌∙◌, subst, inl, inr, arith}
use Rattle.std.specs.Prelude.{sum, slice_index, slice_index_or}
use Rattle.std.specs.List.{AllByRecursion}
use Rattle.std.proofs.lemmas.Bool.{cases_lt}
use Rattle.std.proofs.lemmas.List.{get_or_past}
use Rattle.std.proofs.lemmas.List.Elements.{All-from_recursion}
use Rattle.std.proofs.lemmas.Option.{slice_get_within}
use Rattle.us_flows.specs.Tables.{FlowTable}
use Rattle.us_flows.specs.Clusters.{Turn, IsTurnIn, turns_of}
use Rattle.us_flows.proofs.TurnLaws.{turns_of-turns}
use Rattle.us_split.specs.Divisions.{divided}
use Rattle.us_slots.specs.Lists.{added}
use Rattle.us_split.specs.Plans.{Budget, Ledger, Planned, at_most, weights, shares_of, cost_on, lowered, allowed_less, after_turn, after_plan, plan_of, plan_for, ledger_of, min_rate_reserves, first_limits, first_of, given_back, minus, more_shares, with_more, after_both, second_of, two_passes}
use Rattle.us_split.specs.Laws.{OnePassDoes}
use Rattle.us_split.proofs.DivisionLemmas.{sum-cons}
use Rattle.us_split.proofs.MinRateLemmas.{reserved_within}
use Rattle.us_split.proofs.PartialPlanLemmas.{no_cost, none_less}
use Rattle.us_split.proofs.PlanLawLemmas.{at_most-le, plan_of-turns, planned_of, shares_of-allowed}
use Rattle.us_split.proofs.SecondPassLemmas.{HasOneEach, more-length}
use Rattle.us_split.proofs.ShareLemmas.{shares_of-length}

-- What a turn without a byte leaves as it was.

pub budgets_stay : (planned : Planned) (budgets : List Budget) → sum planned.shares ≡ 0 → lowered planned budgets ≡ budgets
budgets_stay planned [] none = refl
budgets_stay planned (b ∷ budgets) none =
    let slots : b.slots - cost_on b.channel planned ≡ b.slots = omega (arith, no_cost planned b.channel none) in
    ap₂ (λ n rest. record { channel = b.channel; slots = n } ∷ rest) slots (budgets_stay planned budgets none)

pub nothing_returned : (first : Planned) (budgets : List Budget) → sum first.shares ≡ 0 → given_back first budgets ≡ budgets
nothing_returned first [] none = refl
nothing_returned first (b ∷ budgets) none =
    let slots : b.slots + cost_on b.channel first ≡ b.slots = omega (arith, no_cost first b.channel none) in
    ap₂ (λ n rest. record { channel = b.channel; slots = n } ∷ rest) slots (nothing_returned first budgets none)

pub ledger_stays : (planned : Planned) (ledger : Ledger) → sum planned.shares ≡ 0 → after_turn ledger planned ≡ ledger
unfolding after_turn
ledger_stays planned ledger none =
    ap₂ (λ budgets allowances. let l : Ledger = record { budgets = budgets; allowances = allowances } in l)
    (budgets_stay planned ledger.budgets none) (none_less planned ledger.allowances none)

pub minus-none : (xs ys : List ℕ) → sum ys ≡ 0 → minus xs ys ≡ xs
minus-none [] ys none = refl
minus-none (x ∷ xs) [] none = refl
minus-none (x ∷ xs) (y ∷ ys) none =
    let first : x - y ≡ x = omega (arith, sum-cons y ys, none) in
    ap₂ (λ n ns. n ∷ ns) first (minus-none xs ys (omega (arith, sum-cons y ys, none)))

added-none : (xs ys : List ℕ) → sum xs ≡ 0 → length xs ≡ length ys → added xs ys ≡ ys
added-none [] ys none same = refl
added-none (x ∷ xs) [] none same = absurd (omega (arith, same))
added-none (x ∷ xs) (y ∷ ys) none same =
    let first : x + y ≡ y = omega (arith, sum-cons x xs, none) in
    ap₂ (λ n ns. n ∷ ns) first (added-none xs ys (omega (arith, sum-cons x xs, none)) (omega (arith, same)))

-- First shares of no bytes.

pub record IsNone (first : Planned) : Type 0 where
  pub bytes : sum first.shares ≡ 0
  pub one_each : HasOneEach first

-- what a turn gets beside them is what it gets in one pass,
pub more-none : (outstanding : List ℕ) (ledger : Ledger) (first : Planned) → sum first.shares ≡ 0 →
    more_shares outstanding ledger first ≡ shares_of outstanding ledger first.turn
unfolding more_shares shares_of
more-none outstanding ledger first none =
    let flow : FlowTable = first.turn.cluster.flow in
    let bytes : ℕ = slice_index outstanding first.turn.number in
    let all : bytes - sum first.shares ≡ bytes = omega (arith, none) in
    ap₂ divided (ap (at_most (slice_index_or ledger.allowances first.turn.place None)) all)
    (minus-none (weights flow (given_back first ledger.budgets)) first.shares none ∙
    ap (weights flow) (nothing_returned first ledger.budgets none))

with_more-none : (outstanding : List ℕ) (ledger : Ledger) (first : Planned) → IsNone first →
    with_more first (more_shares outstanding ledger first) ≡ planned_of outstanding ledger first.turn
with_more-none outstanding ledger first is =
    let more : List ℕ = more_shares outstanding ledger first in
    ap (λ shares. let p : Planned = record { turn = first.turn; shares = shares } in p)
    (added-none first.shares more is.bytes (is.one_each ∙ sym (more-length outstanding ledger first)) ∙
    more-none outstanding ledger first is.bytes)

-- and so is what it leaves
after_both-none : (outstanding : List ℕ) (ledger : Ledger) (first : Planned) → IsNone first →
    after_both ledger first (more_shares outstanding ledger first) ≡
    after_turn ledger (planned_of outstanding ledger first.turn)
unfolding after_both after_turn
after_both-none outstanding ledger first is =
    ap₂ (λ budgets allowances. let l : Ledger = record { budgets = budgets; allowances = allowances } in l)
    (ap₂ lowered (with_more-none outstanding ledger first is) (nothing_returned first ledger.budgets is.bytes))
    (ap (λ shares. allowed_less (record { turn = first.turn; shares = shares }) ledger.allowances)
    (more-none outstanding ledger first is.bytes))

second-none : (outstanding : List ℕ) (ledger : Ledger) (plan : List Planned) → AllByRecursion IsNone plan →
    second_of outstanding ledger plan ≡ plan_of outstanding ledger (map (λ planned. planned.turn) plan)
unfolding second_of plan_of
second-none outstanding ledger [] all = refl
second-none outstanding ledger (first ∷ plan) all =
    let turns : List Turn = map (λ planned. planned.turn) plan in
    let planned : Planned = planned_of outstanding ledger first.turn in
    let both : Planned = with_more first (more_shares outstanding ledger first) in
    ap (λ p. p ∷ second_of outstanding (after_both ledger first (more_shares outstanding ledger first)) plan)
    (with_more-none outstanding ledger first all.0) ∙
    ap (λ l. planned ∷ second_of outstanding l plan) (after_both-none outstanding ledger first all.0) ∙
    ap (λ rest. planned ∷ rest) (second-none outstanding (after_turn ledger planned) plan all.1)

-- The first pass.

pub nothing_taken : (ledger : Ledger) (plan : List Planned) → AllByRecursion IsNone plan → after_plan ledger plan ≡ ledger
unfolding after_plan
nothing_taken ledger [] all = refl
nothing_taken ledger (planned ∷ plan) all =
    ap (λ l. after_plan l plan) (ledger_stays planned ledger all.0.bytes) ∙ nothing_taken ledger plan all.1

-- of flows that are allowed nothing
first-none : (outstanding : List ℕ) (ledger : Ledger) (turns : List Turn) →
    AllByRecursion (λ turn. slice_index_or ledger.allowances turn.place None ≡ Some 0) turns →
    AllByRecursion IsNone (plan_of outstanding ledger turns)
unfolding plan_of
first-none outstanding ledger [] all = tt
first-none outstanding ledger (turn ∷ turns) all =
    let planned : Planned = planned_of outstanding ledger turn in
    let none : sum planned.shares ≡ 0 = omega (arith, shares_of-allowed outstanding ledger turn 0 all.0) in (
      record { bytes = none; one_each = shares_of-length outstanding ledger turn },
      subst (λ l. AllByRecursion IsNone (plan_of outstanding l turns)) (sym (ledger_stays planned ledger none))
          (first-none outstanding ledger turns all.1),
    )

-- what the first pass may give to a flow
pub limit-at : (allowances : List (Option ℕ)) (reserves : List ℕ) (place : ℕ) → place < length allowances →
    slice_index_or (first_limits allowances reserves) place None ≡
    Some (at_most (slice_index_or allowances place None) (slice_index reserves place))
limit-at [] reserves place within = absurd (omega (arith, within))
limit-at (allowance ∷ allowances) [] zero within =
    let none : 0 ≡ at_most allowance 0 = omega (arith, at_most-le allowance 0) in ap Some none
limit-at (allowance ∷ allowances) [] (suc place) within = limit-at allowances [] place (omega (arith, within))
limit-at (allowance ∷ allowances) (reserve ∷ reserves) zero within = refl
limit-at (allowance ∷ allowances) (reserve ∷ reserves) (suc place) within =
    limit-at allowances reserves place (omega (arith, within))

pub limits-length : (allowances : List (Option ℕ)) (reserves : List ℕ) → length (first_limits allowances reserves) ≡ length allowances
limits-length [] reserves = refl
limits-length (allowance ∷ allowances) [] = ap suc (limits-length allowances [])
limits-length (allowance ∷ allowances) (reserve ∷ reserves) = ap suc (limits-length allowances reserves)

none_reserved : (reserves : List ℕ) (place : ℕ) → AllByRecursion (λ reserve. reserve ≡ 0) reserves → slice_index reserves place ≡ 0
none_reserved reserves place all = elim (cases_lt place (length reserves)) [
  | inl within ↦ All-from_recursion (λ reserve. reserve ≡ 0) reserves all place 0 within
  | inr past ↦ get_or_past reserves place 0 past
]

-- the first pass may give nothing to the flows of turns
abbrev pub NothingFirst : List (Option ℕ) → List ℕ → List Turn → Type 0
NothingFirst allowances reserves turns =
    AllByRecursion (λ turn. slice_index_or (first_limits allowances reserves) turn.place None ≡ Some 0) turns

pub none_in_first : (outstanding : List ℕ) (ledger : Ledger) (reserves : List ℕ) (turns : List Turn) →
    NothingFirst ledger.allowances reserves turns → AllByRecursion IsNone (first_of outstanding ledger reserves turns)
none_in_first outstanding ledger reserves turns none =
    first-none outstanding (record { budgets = ledger.budgets; allowances = first_limits ledger.allowances reserves }) turns none

pub one_pass : (outstanding : List ℕ) (ledger : Ledger) (reserves : List ℕ) (turns : List Turn) →
    NothingFirst ledger.allowances reserves turns →
    two_passes outstanding ledger reserves turns ≡ plan_of outstanding ledger turns
unfolding two_passes
one_pass outstanding ledger reserves turns none =
    let limited : Ledger = record { budgets = ledger.budgets; allowances = first_limits ledger.allowances reserves } in
    let first : List Planned = first_of outstanding ledger reserves turns in
    let all : AllByRecursion IsNone first = none_in_first outstanding ledger reserves turns none in
    ap (λ l. second_of outstanding l first) (nothing_taken ledger first all) ∙
    second-none outstanding ledger first all ∙
    ap (plan_of outstanding ledger) (plan_of-turns outstanding limited turns)

-- where nothing is reserved for a flow, the first pass gives it nothing
pub nothing_first : (allowances : List (Option ℕ)) (reserves : List ℕ) (place : ℕ) → place < length allowances →
    slice_index reserves place ≡ 0 → slice_index_or (first_limits allowances reserves) place None ≡ Some 0
nothing_first allowances reserves place within none =
    let limit : at_most (slice_index_or allowances place None) (slice_index reserves place) ≡ 0 =
    omega (arith, at_most-le (slice_index_or allowances place None) (slice_index reserves place), none) in
    limit-at allowances reserves place within ∙ ap Some limit

pub one_pass_does : OnePassDoes
unfolding plan_for
one_pass_does t outstanding allowances reserves idle flows none =
    one_pass outstanding (ledger_of t allowances idle) (min_rate_reserves t.flows reserves) (turns_of t)
    (limits (turns_of t) (turns_of-turns t))
  where
    none_at : (place : ℕ) → slice_index (min_rate_reserves t.flows reserves) place ≡ 0
    none_at place = omega (arith, reserved_within t.flows reserves place, none_reserved reserves place none)

    limits : (turns : List Turn) → AllByRecursion (IsTurnIn t) turns →
        NothingFirst allowances (min_rate_reserves t.flows reserves) turns
    limits [] all = tt
    limits (turn ∷ turns) all =
        let within = slice_get_within t.flows turn.place turn.cluster.flow all.0.flow in (
          nothing_first allowances (min_rate_reserves t.flows reserves) turn.place (omega (arith, flows, within))
              (none_at turn.place),
          limits turns all.1,
        )
