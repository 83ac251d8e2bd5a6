-- Where no channel carries a byte: no turn gets one, and nothing changes. Of plans, and of turns by their places.
use Rattle.std.proofs.Common.{◌≡◌, ℕ, zero, suc, ◌+◌, ◌-◌, ◌==◌, min, List, [], ◌∷◌, map, Option, Some, None, slice_get, refl, sym, ap, ap₂, ◌∙◌, subst, inl, inr, arith}
use Rattle.std.specs.Prelude.{sum, slice_index, slice_index_or}
use Rattle.std.specs.List.{All, AllByRecursion}
use Rattle.std.proofs.lemmas.Bool.{cases_Bool}
use Rattle.std.proofs.lemmas.List.Elements.{recursion_from_All}
use Rattle.us_flows.specs.Tables.{header_bytes}
use Rattle.us_flows.specs.Clusters.{Turn}
use Rattle.us_slots.specs.Lists.{added}
use Rattle.us_split.specs.declared.turn_rows.Seat.{Seat}
use Rattle.us_split.specs.Divisions.{divided}
use Rattle.us_split.specs.Plans.{Budget, Ledger, at_most, budget_of, demand, plan_of, shares_of, weight, weights}
use Rattle.us_split.specs.Laws.{CarryNothing, FullGiveNothing}
use Rattle.us_split.specs.PartialPlans.{ChannelPlan, IsFull, most_slots, returned}
use Rattle.us_split.specs.TurnRows.{TurnRow, more_in, partial_of, put_from, returned_at, shares_at, weight_at, with_row_if, with_rows, with_second_row}
use Rattle.us_split.proofs.DivisionLemmas.{divided-sum, sum-cons}
use Rattle.us_split.proofs.OnePassLaws.{ledger_stays, minus-none, more-none}
use Rattle.us_split.proofs.PartialPlanLemmas.{share-le-sum}
use Rattle.us_split.proofs.PlanLawLemmas.{planned_of}
use Rattle.us_split.proofs.RowPassLemmas.{none_at_seats}
use Rattle.us_split.proofs.RowPlanLemmas.{none_put, none_spent, nothing_planned}
use Rattle.us_split.proofs.SecondPassLemmas.{added-sum}

all_none : {X : Type 0} (f : X → ℕ) (xs : List X) → ((x : X) → f x ≡ 0) → sum (map f xs) ≡ 0
all_none f [] none = refl
all_none f (x ∷ xs) none = omega (arith, sum-cons (f x) (map f xs), none x, all_none f xs none)

-- Plans.

no_weight : (header id : ℕ) (budgets : List Budget) → CarryNothing budgets → weight header (budget_of budgets id) ≡ 0
no_weight header id [] full = refl
no_weight header id (b ∷ budgets) full = elim (cases_Bool (b.channel.id == id)) [
  | inl t ↦ rw t (omega (arith, full.0))
  | inr f ↦ rw f (no_weight header id budgets full.1)
]

none_shared : (outstanding : List ℕ) (ledger : Ledger) (turn : Turn) → CarryNothing ledger.budgets →
    sum (shares_of outstanding ledger turn) ≡ 0
unfolding shares_of weights
none_shared outstanding ledger turn full =
    let header : ℕ = header_bytes turn.cluster.flow in
    let none = all_none (λ id. weight header (budget_of ledger.budgets id)) turn.cluster.flow.channels
    (λ id. no_weight header id ledger.budgets full) in
    omega (arith, divided-sum (demand outstanding ledger turn) (weights turn.cluster.flow ledger.budgets), none)

none_planned : (outstanding : List ℕ) (ledger : Ledger) (turns : List Turn) → CarryNothing ledger.budgets →
    AllByRecursion (λ planned. sum planned.shares ≡ 0) (plan_of outstanding ledger turns)
unfolding plan_of
none_planned outstanding ledger [] full = tt
none_planned outstanding ledger (turn ∷ turns) full =
    let none : sum (shares_of outstanding ledger turn) ≡ 0 = none_shared outstanding ledger turn full in (
      none,
      subst (λ l. AllByRecursion (λ planned. sum planned.shares ≡ 0) (plan_of outstanding l turns))
          (sym (ledger_stays (planned_of outstanding ledger turn) ledger none)) (none_planned outstanding ledger turns full),
    )

pub full_give_nothing : FullGiveNothing
full_give_nothing outstanding ledger full = (
  λ turns. none_planned outstanding ledger turns full,
  λ first none. ap sum (more-none outstanding ledger first none) ∙ none_shared outstanding ledger first.turn full,
)

-- Turns by their places.

no_weight_at : (header : ℕ) (cs : List ChannelPlan) (place : ℕ) → AllByRecursion IsFull cs → weight_at header cs place ≡ 0
no_weight_at header [] place full = refl
no_weight_at header (c ∷ cs) zero full = omega (arith, full.0.carries)
no_weight_at header (c ∷ cs) (suc place) full = no_weight_at header cs place full.1

pub none_shared_at : (row : TurnRow) (bytes : ℕ) (cs : List ChannelPlan) → All IsFull cs →
    sum (shares_at row bytes cs) ≡ 0
none_shared_at row bytes cs full =
    let none = all_none (λ (seat : Seat). weight_at row.asker.header cs seat.place) row.seats
    (λ seat. no_weight_at row.asker.header cs seat.place (recursion_from_All IsFull cs full)) in
    omega (arith, divided-sum bytes (map (λ (seat : Seat). weight_at row.asker.header cs seat.place) row.seats), none)

-- no turn changes anything
pub none_further : (rows : List TurnRow) (outstanding places : List ℕ) (cs : List ChannelPlan) (allowances : List (Option ℕ)) →
    All IsFull cs → partial_of cs allowances ≡ with_rows rows outstanding places (partial_of cs allowances)
none_further rows outstanding [] cs allowances full = refl
none_further rows outstanding (place ∷ places) cs allowances full =
    none_further rows outstanding places cs allowances full ∙
    ap (with_rows rows outstanding places) (one (slice_get rows place))
  where
    one : (found : Option TurnRow) → partial_of cs allowances ≡ with_row_if found outstanding (partial_of cs allowances)
    one None = refl
    one (Some row) = nothing_planned row _ cs allowances (none_shared_at row _ cs full)

none_returned : (header share : ℕ) (cs : List ChannelPlan) → AllByRecursion IsFull cs → share ≡ 0 →
    AllByRecursion (λ c. c ≡ returned header share c) cs
none_returned header share [] full none = tt
none_returned header share (c ∷ cs) full none =
    let slots : c.slots ≡ min (c.slots + 0) (most_slots c.channel) = omega (arith, full.0.within) in
    let own : c ≡ returned header 0 c =
    ap (λ n. let c : ChannelPlan = record { channel = c.channel; slots = n; claims = c.claims } in c) slots in
    (own ∙ ap (λ n. returned header n c) (sym none), none_returned header share cs full.1 none)

-- nor does one in a second pass, where it has no first shares
pub no_second : (row : TurnRow) (bytes : ℕ) (first : List ℕ) (cs : List ChannelPlan) (allowances : List (Option ℕ)) →
    All IsFull cs → sum first ≡ 0 →
    partial_of cs allowances ≡ with_second_row row bytes first (partial_of cs allowances)
no_second row bytes first cs allowances full none =
    let header : ℕ = row.asker.header in
    let more : List ℕ = more_in row bytes first (partial_of cs allowances) in
    let same : cs ≡ returned_at header first row.seats cs =
    none_at_seats (λ k. returned header (slice_index first k)) 0 row.seats cs
    (λ k. none_returned header (slice_index first k) cs (recursion_from_All IsFull cs full) (omega (arith, share-le-sum first k, none))) in
    let asked : ℕ = at_most (slice_index_or allowances row.asker.claimant.place None) (bytes - sum first) in
    let ws : List ChannelPlan → List ℕ = λ cs. map (λ (seat : Seat). weight_at header cs seat.place) row.seats in
    let empty : sum more ≡ 0 =
    ap (λ ns. sum (divided asked ns)) (minus-none (ws (returned_at header first row.seats cs)) first none ∙ ap ws (sym same)) ∙
    none_shared_at row asked cs full in
    ap₂ partial_of
    (none_put row.asker 0 row.seats (added first more) cs (omega (arith, added-sum first more, none, empty)) ∙
    ap (put_from row.asker 0 row.seats (added first more)) same)
    (none_spent allowances row.asker.claimant.place (sum more) empty)
