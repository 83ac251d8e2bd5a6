-- What holds of every plan of a round.
use Rattle.std.proofs.Common.{◌≡◌, ◌≢◌, ℕ, ◌+◌, ◌-◌, ◌*◌, ◌==◌, ◌<◌, ◌≤◌, List, [], ◌∷◌, length, map, filter, count_by, Option, Some, None, slice_get, option_map, refl, sym, ap, ◌∙◌, subst, eq-eqb, ne_eqb, arith}
use Rattle.std.specs.Prelude.{sum, sum_by, slice_index, slice_index_or}
use Rattle.std.specs.List.{AllByRecursion}
use Rattle.std.proofs.lemmas.Nat.{mul-le}
use Rattle.std.proofs.lemmas.Option.{get_or_from_slice_get, slice_get_within}
use Rattle.us_flows.specs.declared.channels.Channel.{Channel}
use Rattle.us_flows.specs.Tables.{Tables}
use Rattle.us_flows.specs.Clusters.{Turn, turns_of}
use Rattle.us_flows.specs.Lawful.{AreApart, AreTables}
use Rattle.us_flows.proofs.TurnLaws.{turns_of-once}
use Rattle.us_split.specs.Plans.{IsIdle, Budget, Ledger, Planned, at_most, budget_of, cost_on, after_turn, after_plan, plan_of, plan_for, ledger_of, min_rate_reserves, first_limits, first_of, two_passes, flow_bytes, reserved_for}
use Rattle.us_split.specs.PlanLaws.{AreBursts, Within, AreWithinReserves, IsLawfulPlan, planned_bytes}
use Rattle.us_split.proofs.OnePassLaws.{limit-at}
use Rattle.us_split.proofs.PlanLawLemmas.{asked_by_cluster, at_most-le, at_most-within, idle_budgets, idle-budgets, idle-found, plan_of-allowed, plan_of-asked, plan_of-bursts, plan_of-room, plan_of-turns, planned_of}
use Rattle.us_split.proofs.SecondPassLemmas.{HasOneEach, IsHeld, after_plan-allowed, after_plan-budgets, fewer_slots, second_of-allowed, second_of-asked, second_of-bursts, second_of-one_each, second_of-room, second_of-turns, slots-found, with_slots}
use Rattle.us_split.proofs.ShareLemmas.{IsBudget, found_budget, shares_of-length}

-- Where ids are apart, each budget is the one of its channel.

own_found : (budgets : List Budget) → AreApart (map (λ b. b.channel.id) budgets) →
    AllByRecursion (λ b. budget_of budgets b.channel.id ≡ Some b) budgets
own_found [] apart = tt
own_found (x ∷ xs) apart =
    (rw (eq-eqb x.channel.id x.channel.id refl) refl, later xs apart.0 (own_found xs apart.1))
  where
    later : (ys : List Budget) → AllByRecursion (λ other. x.channel.id ≢ other) (map (λ b. b.channel.id) ys) →
        AllByRecursion (λ b. budget_of xs b.channel.id ≡ Some b) ys →
        AllByRecursion (λ b. budget_of (x ∷ xs) b.channel.id ≡ Some b) ys
    later [] others all = tt
    later (y ∷ ys) others all = (rw (ne_eqb x.channel.id y.channel.id others.0) all.0, later ys others.1 all.1)

pub idle_ids : (channels : List Channel) (idle : List ℕ) → length idle ≡ length channels →
    map (λ b. b.channel.id) (idle_budgets channels idle) ≡ map (λ c. c.id) channels
idle_ids [] idle same = refl
idle_ids (c ∷ channels) [] same = absurd (omega (arith, same))
idle_ids (c ∷ channels) (slots ∷ idle) same =
    ap (λ ids. c.id ∷ ids) (idle_ids channels idle (omega (arith, same)))

-- Both passes.

pub one_each : (outstanding : List ℕ) (ledger : Ledger) (turns : List Turn) →
    AllByRecursion HasOneEach (plan_of outstanding ledger turns)
unfolding plan_of
one_each outstanding ledger [] = tt
one_each outstanding ledger (turn ∷ turns) =
    (shares_of-length outstanding ledger turn, one_each outstanding (after_turn ledger (planned_of outstanding ledger turn)) turns)

module _ (outstanding : List ℕ) (ledger : Ledger) (reserves : List ℕ) (turns : List Turn) where
  -- what turns may plan with in the first pass
  abbrev limited : Ledger
  limited = record { budgets = ledger.budgets; allowances = first_limits ledger.allowances reserves }

  abbrev first : List Planned
  first = first_of outstanding ledger reserves turns

  abbrev plan : List Planned
  plan = two_passes outstanding ledger reserves turns

  pub two_passes-turns : map (λ planned. planned.turn) plan ≡ turns
  unfolding two_passes
  two_passes-turns =
      second_of-turns outstanding (after_plan ledger first) first ∙ plan_of-turns outstanding limited turns

  pub two_passes-one_each : AllByRecursion HasOneEach plan
  unfolding two_passes
  two_passes-one_each =
      second_of-one_each outstanding (after_plan ledger first) first (one_each outstanding limited turns)

  -- what the first pass leaves of the budget of a channel
  abbrev left_of : Budget → Budget
  left_of = with_slots (λ b. b.slots - sum_by (λ planned. cost_on b.channel planned) first)

  first_within : (b : Budget) → IsBudget b → budget_of ledger.budgets b.channel.id ≡ Some b →
      sum_by (λ planned. cost_on b.channel planned) first ≤ b.slots
  first_within b is at = plan_of-room outstanding limited turns b.channel b is refl at

  held_left : (b : Budget) → IsBudget b → budget_of ledger.budgets b.channel.id ≡ Some b → IsHeld first (left_of b)
  held_left b is at =
      fewer_slots b ((left_of b).slots + sum_by (λ planned. cost_on b.channel planned) first) is
      (omega (arith, first_within b is at))

  -- What a plan costs on a channel is within its budget.
  pub two_passes-room : (b : Budget) → IsBudget b → budget_of ledger.budgets b.channel.id ≡ Some b →
      sum_by (λ planned. cost_on b.channel planned) plan ≤ b.slots
  unfolding two_passes
  two_passes-room b is at =
      let found : budget_of (after_plan ledger first).budgets b.channel.id ≡ Some (left_of b) =
      ap (λ budgets. budget_of budgets b.channel.id) (after_plan-budgets ledger first) ∙
      slots-found (λ b. b.slots - sum_by (λ planned. cost_on b.channel planned) first) ledger.budgets b.channel.id ∙
      ap (option_map left_of) at in
      omega (arith, second_of-room outstanding (after_plan ledger first) first (left_of b) (held_left b is at) found, first_within b is at)

  -- The shares of a turn are within its outstanding bytes.
  pub two_passes-asked : AllByRecursion (λ planned. sum planned.shares ≤ slice_index outstanding planned.turn.number) plan
  unfolding two_passes
  two_passes-asked =
      second_of-asked outstanding (after_plan ledger first) first (plan_of-asked outstanding limited turns)

  -- Those of a flow are within its allowance,
  pub two_passes-allowed : (place most : ℕ) → place < length ledger.allowances →
      slice_index_or ledger.allowances place None ≡ Some most → flow_bytes plan place ≤ most
  unfolding two_passes
  two_passes-allowed place most within at =
      let allowance : Option ℕ = slice_index_or ledger.allowances place None in
      let before : flow_bytes first place ≤ at_most allowance (slice_index reserves place) =
      plan_of-allowed outstanding limited turns place (at_most allowance (slice_index reserves place))
      (limit-at ledger.allowances reserves place within) in
      let left = after_plan-allowed ledger first place most at in
      omega (
        arith,
        second_of-allowed outstanding (after_plan ledger first) first place (most - flow_bytes first place) left,
        before,
        at_most-within allowance most (slice_index reserves place) at,
      )

  -- and the first ones within its reserve.
  pub first-reserved : (place : ℕ) → place < length ledger.allowances → flow_bytes first place ≤ slice_index reserves place
  first-reserved place within =
      let allowance : Option ℕ = slice_index_or ledger.allowances place None in
      omega (
        arith,
        plan_of-allowed outstanding limited turns place (at_most allowance (slice_index reserves place))
            (limit-at ledger.allowances reserves place within),
        at_most-le allowance (slice_index reserves place),
      )

  held_budgets : (budgets : List Budget) → AllByRecursion IsBudget budgets →
      AllByRecursion (λ b. budget_of ledger.budgets b.channel.id ≡ Some b) budgets →
      AllByRecursion (IsHeld first) (map left_of budgets)
  held_budgets [] all own = tt
  held_budgets (b ∷ budgets) all own = (held_left b all.0 own.0, held_budgets budgets all.1 own.1)

  pub held_after : AllByRecursion IsBudget ledger.budgets → AreApart (map (λ b. b.channel.id) ledger.budgets) →
      AllByRecursion (IsHeld first) (after_plan ledger first).budgets
  held_after all apart =
      subst (AllByRecursion (IsHeld first)) (sym (after_plan-budgets ledger first))
      (held_budgets ledger.budgets all (own_found ledger.budgets apart))

  -- Each share and its header are a burst.
  pub two_passes-bursts : AllByRecursion IsBudget ledger.budgets → AreApart (map (λ b. b.channel.id) ledger.budgets) →
      AllByRecursion AreBursts plan
  unfolding two_passes
  two_passes-bursts all apart =
      second_of-bursts outstanding (after_plan ledger first) first (held_after all apart)
      (plan_of-bursts outstanding limited turns all) (one_each outstanding limited turns)

-- all laws of the plan of a round
pub plan_for-lawful : (t : Tables) (outstanding : List ℕ) (allowances : List (Option ℕ)) (reserves idle : List ℕ) → AreTables t →
    IsIdle t idle → IsLawfulPlan t outstanding allowances idle (plan_for t outstanding allowances reserves idle)
unfolding plan_for
plan_for-lawful t outstanding allowances reserves idle lawful is = record {
  room = λ place c at.
      let b : Budget = record { channel = c; slots = slice_index idle place } in
      let budget = idle-found t.channels idle place c is.one_each lawful.channels_apart at in
      two_passes-room outstanding (ledger_of t allowances idle) (min_rate_reserves t.flows reserves) (turns_of t) b (found_budget (ledger_of t allowances idle).budgets c.id b budgets budget) budget;
  asked = λ n.
      let plan : List Planned = two_passes outstanding (ledger_of t allowances idle) (min_rate_reserves t.flows reserves) (turns_of t) in
      let count : ℕ = count_by (λ turn. turn.number == n) (turns_of t) in
      let once : count ≤ 1 = turns_of-once t n in
      let product : slice_index outstanding n * count ≤ slice_index outstanding n * 1 =
      mul-le (slice_index outstanding n) count (slice_index outstanding n) 1 (omega arith) once in
      let same : count_by (λ turn. turn.number == n) (map (λ planned. planned.turn) plan) ≡ count =
      ap (λ turns. count_by (λ turn. turn.number == n) turns)
      (two_passes-turns outstanding (ledger_of t allowances idle) (min_rate_reserves t.flows reserves) (turns_of t)) in
      let within : planned_bytes (filter (λ planned. planned.turn.number == n) plan) ≤ slice_index outstanding n * count =
      subst (λ times. planned_bytes (filter (λ planned. planned.turn.number == n) plan) ≤ slice_index outstanding n * times) same
      (asked_by_cluster outstanding plan n (two_passes-asked outstanding (ledger_of t allowances idle) (min_rate_reserves t.flows reserves) (turns_of t))) in
      omega (arith, within, product);
  allowed = λ place allowance at. allowed place allowance at;
  bursts = two_passes-bursts outstanding (ledger_of t allowances idle) (min_rate_reserves t.flows reserves) (turns_of t) budgets
      (subst AreApart (sym (idle_ids t.channels idle is.one_each)) lawful.channels_apart);
}
  where
    budgets : AllByRecursion IsBudget (ledger_of t allowances idle).budgets
    budgets = idle-budgets t t.channels idle lawful.round_ticks.1 lawful.channels is.within

    allowed : (place : ℕ) (allowance : Option ℕ) → slice_get allowances place ≡ Some allowance →
        Within allowance (flow_bytes (two_passes outstanding (ledger_of t allowances idle) (min_rate_reserves t.flows reserves) (turns_of t)) place)
    allowed place None at = tt
    allowed place (Some most) at =
        two_passes-allowed outstanding (ledger_of t allowances idle) (min_rate_reserves t.flows reserves) (turns_of t) place most (slice_get_within allowances place (Some most) at)
        (get_or_from_slice_get allowances place (Some most) None at)

-- and no more of a flow is taken in the first pass than is reserved, nothing of one without a minimum rate
pub reserved-within : (t : Tables) (outstanding : List ℕ) (allowances : List (Option ℕ)) (reserves idle : List ℕ) →
    AreWithinReserves t outstanding allowances reserves idle
unfolding reserved_for
reserved-within t outstanding allowances reserves idle place within =
    first-reserved outstanding (ledger_of t allowances idle) (min_rate_reserves t.flows reserves) (turns_of t) place within

-- the turns of a plan are those of the round,
pub plan_for-turns : (t : Tables) (outstanding : List ℕ) (allowances : List (Option ℕ)) (reserves idle : List ℕ) →
    map (λ planned. planned.turn) (plan_for t outstanding allowances reserves idle) ≡ turns_of t
unfolding plan_for
plan_for-turns t outstanding allowances reserves idle =
    two_passes-turns outstanding (ledger_of t allowances idle) (min_rate_reserves t.flows reserves) (turns_of t)

-- and each has a share for each channel of its flow
pub plan_for-one_each : (t : Tables) (outstanding : List ℕ) (allowances : List (Option ℕ)) (reserves idle : List ℕ) →
    AllByRecursion HasOneEach (plan_for t outstanding allowances reserves idle)
unfolding plan_for
plan_for-one_each t outstanding allowances reserves idle =
    two_passes-one_each outstanding (ledger_of t allowances idle) (min_rate_reserves t.flows reserves) (turns_of t)

-- what the proof of `plan` rests on
pub ruleset plan_facts = (plan_for-lawful, reserved-within)
