-- The second pass of a plan: what a turn gets beside its first shares, what both cost, and what is left then.
use Rattle.std.proofs.Common.{◌≡◌, ◌≢◌, ◌⊎◌, ℕ, zero, suc, ◌+◌, ◌-◌, ◌*◌, ◌==◌, ◌<◌, ◌≤◌, List, [], ◌∷◌, ◌++◌, length, map, set, take, filter, Option, Some, None, option_map, refl, sym, ap, ◌∙◌, subst, inl, inr, eqb-true, eq-eqb, ne_eqb, get_or-set_other, arith}
use Rattle.std.specs.Prelude.{sum, sum_by, position, slice_index, slice_index_or}
use Rattle.std.specs.List.{AllByRecursion}
use Rattle.std.proofs.lemmas.Bool.{cases_Bool, cases_eq, cases_lt}
use Rattle.std.proofs.lemmas.Nat.{mul-le}
use Rattle.std.proofs.lemmas.List.{length-map, get_or-map, get_or_default}
use Rattle.std.proofs.lemmas.List.Elements.{All-from_recursion, recursion_from_All}
use Rattle.std.proofs.lemmas.List.Quantifiers.{position-Some}
use Rattle.std.proofs.lemmas.List.Sums.{sum_by-cons}
use Rattle.us_slots.specs.Times.{minislot_ticks}
use Rattle.us_flows.specs.Tables.{FlowTable, header_bytes}
use Rattle.us_slots.specs.Lists.{added}
use Rattle.us_split.specs.Plans.{Budget, Ledger, Planned, budget_of, weight, weights, at_most, share_at, share_cost, cost_on, lowered, after_turn, after_plan, flow_bytes, given_back, minus, more_shares, with_more, after_both, second_of}
use Rattle.us_split.specs.PlanLaws.{AreBursts}
use Rattle.us_split.proofs.DivisionLemmas.{divided-sum, divided-within, divided-length, sum-cons}
use Rattle.us_split.proofs.ShareLemmas.{IsBudget, found_budget, fits_burst, fits_budget}
use Rattle.us_split.proofs.PlanLawLemmas.{at_most-le, at_most-within, same_place}

-- Numbers, place by place.

pub added-sum : (xs ys : List ℕ) → sum (added xs ys) ≡ sum xs + sum ys
added-sum [] ys = omega arith
added-sum (x ∷ xs) [] = omega arith
added-sum (x ∷ xs) (y ∷ ys) =
    omega (arith, sum-cons (x + y) (added xs ys), sum-cons x xs, sum-cons y ys, added-sum xs ys)

pub added-at : (xs ys : List ℕ) (k : ℕ) → slice_index (added xs ys) k ≡ slice_index xs k + slice_index ys k
added-at [] ys k = omega arith
added-at (x ∷ xs) [] k = omega arith
added-at (x ∷ xs) (y ∷ ys) zero = refl
added-at (x ∷ xs) (y ∷ ys) (suc k) = added-at xs ys k

pub minus-at : (xs ys : List ℕ) (k : ℕ) → slice_index (minus xs ys) k ≡ slice_index xs k - slice_index ys k
minus-at [] ys k = omega arith
minus-at (x ∷ xs) [] k = omega arith
minus-at (x ∷ xs) (y ∷ ys) zero = refl
minus-at (x ∷ xs) (y ∷ ys) (suc k) = minus-at xs ys k

pub added-length : (xs ys : List ℕ) → length xs ≡ length ys → length (added xs ys) ≡ length ys
added-length [] ys same = refl
added-length (x ∷ xs) [] same = same
added-length (x ∷ xs) (y ∷ ys) same = ap suc (added-length xs ys (omega (arith, same)))

pub minus-length : (xs ys : List ℕ) → length (minus xs ys) ≡ length xs
minus-length [] ys = refl
minus-length (x ∷ xs) [] = refl
minus-length (x ∷ xs) (y ∷ ys) = ap suc (minus-length xs ys)

-- one place more
pub minus-more : (xs ys : List ℕ) (i : ℕ) → i < length xs → i < length ys →
    minus (take i xs) (take i ys) ++ (slice_index xs i - slice_index ys i) ∷ [] ≡ minus (take (suc i) xs) (take (suc i) ys)
minus-more [] ys i within inside = absurd (omega (arith, within))
minus-more (x ∷ xs) [] i within inside = absurd (omega (arith, inside))
minus-more (x ∷ xs) (y ∷ ys) zero within inside = refl
minus-more (x ∷ xs) (y ∷ ys) (suc i) within inside =
    ap (λ ns. (x - y) ∷ ns) (minus-more xs ys i (omega (arith, within)) (omega (arith, inside)))

pub added-more : (xs ys : List ℕ) (i : ℕ) → i < length xs → i < length ys →
    added (take i xs) (take i ys) ++ (slice_index xs i + slice_index ys i) ∷ [] ≡ added (take (suc i) xs) (take (suc i) ys)
added-more [] ys i within inside = absurd (omega (arith, within))
added-more (x ∷ xs) [] i within inside = absurd (omega (arith, inside))
added-more (x ∷ xs) (y ∷ ys) zero within inside = refl
added-more (x ∷ xs) (y ∷ ys) (suc i) within inside =
    ap (λ ns. (x + y) ∷ ns) (added-more xs ys i (omega (arith, within)) (omega (arith, inside)))

-- Budgets.

-- a budget with fewer minislots is one
pub fewer_slots : (b : Budget) (slots : ℕ) → IsBudget b → slots ≤ b.slots →
    IsBudget (record { channel = b.channel; slots = slots })
fewer_slots b slots is less =
    let ticks : ℕ = minislot_ticks b.channel.bursts.time in
    let fewer : slots * ticks ≤ b.slots * ticks = mul-le slots ticks b.slots ticks less (omega arith) in
    record { bursts = is.bursts; ticks = omega (arith, is.ticks, fewer) }

-- the minislots of a budget are changed
abbrev pub with_slots : (Budget → ℕ) → Budget → Budget
with_slots slots b = record { channel = b.channel; slots = slots b }

-- so are those of the one of a channel
pub slots-found : (slots : Budget → ℕ) (budgets : List Budget) (id : ℕ) →
    budget_of (map (with_slots slots) budgets) id ≡ option_map (with_slots slots) (budget_of budgets id)
slots-found slots [] id = refl
slots-found slots (x ∷ xs) id = elim (cases_Bool (x.channel.id == id)) [
  | inl t ↦ rw t refl
  | inr f ↦ rw f (slots-found slots xs id)
]

-- a budget that still is one when it gets back what these turns cost
abbrev pub IsHeld : List Planned → Budget → Type 0
IsHeld plan b = IsBudget (record { channel = b.channel; slots = b.slots + sum_by (λ planned. cost_on b.channel planned) plan })

pub held-given : (first : Planned) (plan : List Planned) (budgets : List Budget) →
    AllByRecursion (IsHeld (first ∷ plan)) budgets → AllByRecursion IsBudget (given_back first budgets)
held-given first plan [] all = tt
held-given first plan (b ∷ budgets) all =
    let sums = sum_by-cons (λ planned. cost_on b.channel planned) first plan in (
      fewer_slots
          (record { channel = b.channel; slots = b.slots + sum_by (λ planned. cost_on b.channel planned) (first ∷ plan) })
          (b.slots + cost_on b.channel first) all.0 (omega (arith, sums)),
      held-given first plan budgets all.1,
    )

pub held-after : (first : Planned) (more : List ℕ) (plan : List Planned) (budgets : List Budget) →
    AllByRecursion (IsHeld (first ∷ plan)) budgets →
    AllByRecursion (IsHeld plan) (lowered (with_more first more) (given_back first budgets))
held-after first more plan [] all = tt
held-after first more plan (b ∷ budgets) all =
    let sums = sum_by-cons (λ planned. cost_on b.channel planned) first plan in (
      fewer_slots
          (record { channel = b.channel; slots = b.slots + sum_by (λ planned. cost_on b.channel planned) (first ∷ plan) })
          (b.slots + cost_on b.channel first - cost_on b.channel (with_more first more)
          + sum_by (λ planned. cost_on b.channel planned) plan)
          all.0 (omega (arith, sums)),
      held-after first more plan budgets all.1,
    )

-- One turn.

module _ (outstanding : List ℕ) (ledger : Ledger) (first : Planned) where
  abbrev flow : FlowTable
  flow = first.turn.cluster.flow

  abbrev more : List ℕ
  more = more_shares outstanding ledger first

  abbrev both : Planned
  both = with_more first more

  abbrev returned : List Budget
  returned = given_back first ledger.budgets

  -- what it still asks for, and what its channels still carry
  abbrev asked : ℕ
  asked =
      at_most (slice_index_or ledger.allowances first.turn.place None)
      (slice_index outstanding first.turn.number - sum first.shares)

  abbrev carried : List ℕ
  carried = minus (weights flow returned) first.shares

  pub more-length : length more ≡ length flow.channels
  unfolding more_shares weights
  more-length =
      divided-length asked carried ∙ minus-length (weights flow returned) first.shares ∙
      length-map flow.channels (λ id. weight (header_bytes flow) (budget_of returned id))

  pub both-length : length first.shares ≡ length flow.channels → length both.shares ≡ length flow.channels
  both-length same = added-length first.shares more (same ∙ sym more-length) ∙ more-length

  pub more-sum : sum more ≤ asked
  unfolding more_shares
  more-sum = omega (arith, divided-sum asked carried)

  pub more-within : (k : ℕ) → k < length flow.channels →
      slice_index more k ≤
      weight (header_bytes flow) (budget_of returned (slice_index flow.channels k)) - slice_index first.shares k
  unfolding more_shares weights
  more-within k within =
      let one = get_or-map (λ id. weight (header_bytes flow) (budget_of returned id)) flow.channels k 0 0 within in
      omega (arith, one, minus-at (weights flow returned) first.shares k, divided-within asked carried k)

  -- all its shares are within what is outstanding, where the first ones are,
  pub both-asked : sum first.shares ≤ slice_index outstanding first.turn.number →
      sum both.shares ≤ slice_index outstanding first.turn.number
  both-asked within =
      omega (arith, added-sum first.shares more, more-sum, at_most-le (slice_index_or ledger.allowances first.turn.place None) (slice_index outstanding first.turn.number - sum first.shares), within)

  abbrev IsBurst : ℕ → Type 0
  IsBurst share = (share ≡ 0) ⊎ (share + header_bytes flow ≤ 98304)

  burst_found : (share rest id : ℕ) (found : Option Budget) → AllByRecursion IsBudget returned →
      budget_of returned id ≡ found → 0 < rest → rest ≤ weight (header_bytes flow) found - share → IsBurst (share + rest)
  burst_found share rest id None all at some within = absurd (omega (arith, some, within))
  burst_found share rest id (Some b) all at some within =
      fits_burst b (header_bytes flow) (share + rest) (found_budget returned id b all at) (omega (arith, some, within))

  burst_at : (k : ℕ) → AllByRecursion IsBudget returned → AreBursts first → length first.shares ≡ length flow.channels →
      k < length flow.channels → IsBurst (slice_index both.shares k)
  burst_at k all bursts same within = elim (cases_lt 0 (slice_index more k)) [
    | inr none ↦
        let whole : slice_index first.shares k ≡ slice_index both.shares k = omega (arith, added-at first.shares more k, none) in
        subst IsBurst whole (All-from_recursion IsBurst first.shares bursts k 0 (omega (arith, same, within)))
    | inl some ↦
        let id : ℕ = slice_index flow.channels k in
        subst IsBurst (sym (added-at first.shares more k))
        (burst_found (slice_index first.shares k) (slice_index more k) id (budget_of returned id) all refl some (more-within k within))
  ]

  -- each of them and the header are a burst,
  pub both-bursts : AllByRecursion IsBudget returned → AreBursts first → length first.shares ≡ length flow.channels →
      AreBursts both
  both-bursts all bursts same =
      recursion_from_All IsBurst both.shares (λ k d within. subst IsBurst (get_or_default both.shares k 0 d within)
      (burst_at k all bursts same (omega (arith, within, both-length same))))

  cost_found : (b : Budget) (found : Option ℕ) → IsBudget (record { channel = b.channel; slots = b.slots + cost_on b.channel first }) →
      budget_of returned b.channel.id ≡ Some (record { channel = b.channel; slots = b.slots + cost_on b.channel first }) →
      position (λ id. id == b.channel.id) flow.channels ≡ found →
      share_cost b.channel (header_bytes flow) (share_at first.shares found) ≤ cost_on b.channel first →
      share_cost b.channel (header_bytes flow) (share_at both.shares found) ≤ b.slots + cost_on b.channel first
  cost_found b None is at none first_cost = omega arith
  cost_found b (Some k) is at here first_cost =
      let raised : Budget = record { channel = b.channel; slots = b.slots + cost_on b.channel first } in
      let place = position-Some (λ id. id == b.channel.id) flow.channels k 0 here in
      let id : slice_index flow.channels k ≡ b.channel.id = eqb-true (slice_index flow.channels k) b.channel.id place.1 in
      let budget : budget_of returned (slice_index flow.channels k) ≡ Some raised = ap (budget_of returned) id ∙ at in
      let rest : slice_index more k ≤ weight (header_bytes flow) (Some raised) - slice_index first.shares k =
      rw budget at (more-within k place.0) in
      let share = added-at first.shares more k in
      elim (cases_lt 0 (slice_index more k)) [
        | inr none ↦
            let whole : slice_index both.shares k ≡ slice_index first.shares k = omega (arith, share, none) in
            subst (λ n. share_cost b.channel (header_bytes flow) n ≤ b.slots + cost_on b.channel first) (sym whole)
            (omega (arith, first_cost))
        | inl some ↦
            fits_budget raised (header_bytes flow) (slice_index both.shares k) is (omega (arith, share, some, rest))
      ]

  -- and all that it plans on a channel costs no more than the budget there, once that has the first cost back
  pub both-within : (b : Budget) → IsBudget (record { channel = b.channel; slots = b.slots + cost_on b.channel first }) →
      budget_of ledger.budgets b.channel.id ≡ Some b → cost_on b.channel both ≤ b.slots + cost_on b.channel first
  unfolding cost_on
  both-within b is at =
      cost_found b (position (λ id. id == b.channel.id) flow.channels) is
      (slots-found (λ x. x.slots + cost_on x.channel first) ledger.budgets b.channel.id ∙
      ap (option_map (with_slots (λ x. x.slots + cost_on x.channel first))) at)
      refl (omega arith)

-- All turns.

pub second_of-turns : (outstanding : List ℕ) (ledger : Ledger) (plan : List Planned) →
    map (λ planned. planned.turn) (second_of outstanding ledger plan) ≡ map (λ planned. planned.turn) plan
unfolding second_of
second_of-turns outstanding ledger [] = refl
second_of-turns outstanding ledger (first ∷ plan) =
    ap (λ turns. first.turn ∷ turns)
    (second_of-turns outstanding (after_both ledger first (more_shares outstanding ledger first)) plan)

-- a share for each channel of a turn's flow
abbrev pub HasOneEach : Planned → Type 0
HasOneEach planned = length planned.shares ≡ length planned.turn.cluster.flow.channels

pub second_of-one_each : (outstanding : List ℕ) (ledger : Ledger) (plan : List Planned) → AllByRecursion HasOneEach plan →
    AllByRecursion HasOneEach (second_of outstanding ledger plan)
unfolding second_of
second_of-one_each outstanding ledger [] all = tt
second_of-one_each outstanding ledger (first ∷ plan) all = (
  both-length outstanding ledger first all.0,
  second_of-one_each outstanding (after_both ledger first (more_shares outstanding ledger first)) plan all.1,
)

-- no more than is outstanding of its cluster
abbrev pub IsAsked : List ℕ → Planned → Type 0
IsAsked outstanding planned = sum planned.shares ≤ slice_index outstanding planned.turn.number

pub second_of-asked : (outstanding : List ℕ) (ledger : Ledger) (plan : List Planned) → AllByRecursion (IsAsked outstanding) plan →
    AllByRecursion (IsAsked outstanding) (second_of outstanding ledger plan)
unfolding second_of
second_of-asked outstanding ledger [] all = tt
second_of-asked outstanding ledger (first ∷ plan) all = (
  both-asked outstanding ledger first all.0,
  second_of-asked outstanding (after_both ledger first (more_shares outstanding ledger first)) plan all.1,
)

pub second_of-bursts : (outstanding : List ℕ) (ledger : Ledger) (plan : List Planned) →
    AllByRecursion (IsHeld plan) ledger.budgets → AllByRecursion AreBursts plan → AllByRecursion HasOneEach plan →
    AllByRecursion AreBursts (second_of outstanding ledger plan)
unfolding second_of after_both
second_of-bursts outstanding ledger [] held bursts long = tt
second_of-bursts outstanding ledger (first ∷ plan) held bursts long =
    let more : List ℕ = more_shares outstanding ledger first in (
      both-bursts outstanding ledger first (held-given first plan ledger.budgets held) bursts.0 long.0,
      second_of-bursts outstanding (after_both ledger first more) plan (held-after first more plan ledger.budgets held)
          bursts.1 long.1,
    )

-- What all of them cost on a channel is within its budget and what the first shares cost.
pub second_of-room : (outstanding : List ℕ) (ledger : Ledger) (plan : List Planned) (b : Budget) → IsHeld plan b →
    budget_of ledger.budgets b.channel.id ≡ Some b →
    sum_by (λ planned. cost_on b.channel planned) (second_of outstanding ledger plan) ≤
    b.slots + sum_by (λ planned. cost_on b.channel planned) plan
unfolding second_of after_both
second_of-room outstanding ledger [] b is at = omega arith
second_of-room outstanding ledger (first ∷ plan) b is at =
    let more : List ℕ = more_shares outstanding ledger first in
    let both : Planned = with_more first more in
    let next : Ledger = after_both ledger first more in
    let sums = sum_by-cons (λ planned. cost_on b.channel planned) first plan in
    let all : Budget = record {
      channel = b.channel;
      slots = b.slots + sum_by (λ planned. cost_on b.channel planned) (first ∷ plan);
    } in
    let raised : IsBudget (record { channel = b.channel; slots = b.slots + cost_on b.channel first }) =
    fewer_slots all (b.slots + cost_on b.channel first) is (omega (arith, sums)) in
    let left : Budget = record {
      channel = b.channel;
      slots = b.slots + cost_on b.channel first - cost_on b.channel both;
    } in
    let held : IsHeld plan left =
    fewer_slots all (left.slots + sum_by (λ planned. cost_on b.channel planned) plan) is (omega (arith, sums)) in
    let found : budget_of next.budgets b.channel.id ≡ Some left =
    slots-found (λ x. x.slots - cost_on x.channel both) (given_back first ledger.budgets) b.channel.id ∙
    ap (option_map (with_slots (λ x. x.slots - cost_on x.channel both)))
    (slots-found (λ x. x.slots + cost_on x.channel first) ledger.budgets b.channel.id ∙
    ap (option_map (with_slots (λ x. x.slots + cost_on x.channel first))) at) in
    omega (
      arith,
      sum_by-cons (λ planned. cost_on b.channel planned) both (second_of outstanding next plan),
      second_of-room outstanding next plan left held found,
      both-within outstanding ledger first b raised at,
      sums,
    )

-- The shares of a flow are within its first ones and what is left of its allowance.
pub second_of-allowed : (outstanding : List ℕ) (ledger : Ledger) (plan : List Planned) (place left : ℕ) →
    slice_index_or ledger.allowances place None ≡ Some left →
    flow_bytes (second_of outstanding ledger plan) place ≤ flow_bytes plan place + left
unfolding second_of after_both
second_of-allowed outstanding ledger [] place left at = omega arith
second_of-allowed outstanding ledger (first ∷ plan) place left at =
    let more : List ℕ = more_shares outstanding ledger first in
    let both : Planned = with_more first more in
    let next : Ledger = after_both ledger first more in
    let own : List Planned → List Planned = λ plan. filter (λ planned. planned.turn.place == place) plan in
    let less : Option ℕ = option_map (λ most. most - sum more) (slice_index_or ledger.allowances first.turn.place None) in
    elim (cases_eq first.turn.place place) [
      | inl same ↦
          let here : slice_index_or ledger.allowances first.turn.place None ≡ Some left =
          ap (λ p. slice_index_or ledger.allowances p None) same ∙ at in
          let within : sum more ≤ left =
          omega (arith, more-sum outstanding ledger first, at_most-within (slice_index_or ledger.allowances first.turn.place None) left (slice_index outstanding first.turn.number - sum first.shares) here) in
          let later : slice_index_or next.allowances place None ≡ Some (left - sum more) =
          ap (λ p. slice_index_or (set ledger.allowances p less) place None) same ∙
          same_place ledger.allowances place left less at ∙ ap (option_map (λ most. most - sum more)) here in
          rw (eq-eqb first.turn.place place same)
          (omega (
            arith,
            sum_by-cons (λ (p : Planned). sum p.shares) both (own (second_of outstanding next plan)),
            sum_by-cons (λ (p : Planned). sum p.shares) first (own plan),
            added-sum first.shares more,
            second_of-allowed outstanding next plan place (left - sum more) later,
            within,
          ))
      | inr other ↦
          let apart : place ≢ first.turn.place = λ same. other (sym same) in
          let kept : slice_index_or next.allowances place None ≡ Some left =
          get_or-set_other ledger.allowances first.turn.place place less None apart ∙ at in
          rw (ne_eqb first.turn.place place other) (second_of-allowed outstanding next plan place left kept)
    ]

-- What is left after a plan.

-- each budget falls by all that is planned there,
pub after_plan-budgets : (ledger : Ledger) (plan : List Planned) →
    (after_plan ledger plan).budgets ≡
    map (with_slots (λ b. b.slots - sum_by (λ planned. cost_on b.channel planned) plan)) ledger.budgets
unfolding after_plan after_turn
after_plan-budgets ledger [] = all ledger.budgets
  where
    all : (budgets : List Budget) →
        budgets ≡ map (with_slots (λ b. b.slots - sum_by (λ planned. cost_on b.channel planned) [])) budgets
    all [] = refl
    all (b ∷ budgets) =
        let slots : b.slots ≡ b.slots - 0 = omega arith in
        ap (λ n. record { channel = b.channel; slots = n } ∷ budgets) slots ∙
        ap (λ bs. record { channel = b.channel; slots = b.slots - 0 } ∷ bs) (all budgets)
after_plan-budgets ledger (planned ∷ plan) =
    after_plan-budgets (after_turn ledger planned) plan ∙ all ledger.budgets
  where
    all : (budgets : List Budget) →
        map (with_slots (λ b. b.slots - sum_by (λ planned. cost_on b.channel planned) plan)) (lowered planned budgets) ≡
        map (with_slots (λ b. b.slots - sum_by (λ planned. cost_on b.channel planned) (planned ∷ plan))) budgets
    all [] = refl
    all (b ∷ budgets) =
        let rest : ℕ = sum_by (λ planned. cost_on b.channel planned) plan in
        let whole : ℕ = sum_by (λ planned. cost_on b.channel planned) (planned ∷ plan) in
        let slots : b.slots - cost_on b.channel planned - rest ≡ b.slots - whole =
        omega (arith, sum_by-cons (λ planned. cost_on b.channel planned) planned plan) in
        ap (λ n. record { channel = b.channel; slots = n } ∷ map (with_slots (λ b. b.slots - sum_by (λ planned. cost_on b.channel planned) plan)) (lowered planned budgets)) slots ∙
        ap (λ bs. record { channel = b.channel; slots = b.slots - whole } ∷ bs) (all budgets)

-- and each allowance by all shares of its flow
pub after_plan-allowed : (ledger : Ledger) (plan : List Planned) (place most : ℕ) →
    slice_index_or ledger.allowances place None ≡ Some most →
    slice_index_or (after_plan ledger plan).allowances place None ≡ Some (most - flow_bytes plan place)
unfolding after_plan after_turn
after_plan-allowed ledger [] place most at = let all : most ≡ most - 0 = omega arith in at ∙ ap Some all
after_plan-allowed ledger (planned ∷ plan) place most at =
    let next : Ledger = after_turn ledger planned in
    let own : List Planned = filter (λ planned. planned.turn.place == place) plan in
    let less : Option ℕ = option_map (λ most. most - sum planned.shares) (slice_index_or ledger.allowances planned.turn.place None) in
    elim (cases_eq planned.turn.place place) [
      | inl same ↦
          let here : slice_index_or ledger.allowances planned.turn.place None ≡ Some most =
          ap (λ p. slice_index_or ledger.allowances p None) same ∙ at in
          let later : slice_index_or next.allowances place None ≡ Some (most - sum planned.shares) =
          ap (λ p. slice_index_or (set ledger.allowances p less) place None) same ∙
          same_place ledger.allowances place most less at ∙ ap (option_map (λ most. most - sum planned.shares)) here in
          let both : most - sum planned.shares - flow_bytes plan place ≡
          most - sum_by (λ (p : Planned). sum p.shares) (planned ∷ own) =
          omega (arith, sum_by-cons (λ (p : Planned). sum p.shares) planned own) in
          rw (eq-eqb planned.turn.place place same)
          (after_plan-allowed next plan place (most - sum planned.shares) later ∙ ap Some both)
      | inr other ↦
          let apart : place ≢ planned.turn.place = λ same. other (sym same) in
          let kept : slice_index_or next.allowances place None ≡ Some most =
          get_or-set_other ledger.allowances planned.turn.place place less None apart ∙ at in
          rw (ne_eqb planned.turn.place place other) (after_plan-allowed next plan place most kept)
    ]
