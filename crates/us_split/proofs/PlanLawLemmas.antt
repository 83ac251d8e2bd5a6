-- What holds of every plan of one pass, of any ledger and any turns; and the ledger of a round.
use Rattle.std.proofs.Common.{◌≡◌, ◌≢◌, ℕ, zero, suc, ◌+◌, ◌-◌, ◌*◌, ◌==◌, ◌≤◌, cond, List, [], ◌∷◌, length, map, zip, filter, set, count_by, Option, Some, None, slice_get, option_map, refl, sym, ap, ◌∙◌, subst, inl, inr, eqb-true, eq-eqb, ne_eqb, get_or-set_same, get_or-set_other, arith}
use Rattle.std.specs.Prelude.{sum, sum_by, slice_index, slice_index_or}
use Rattle.std.specs.List.{AllByRecursion}
use Rattle.std.proofs.lemmas.Bool.{cases_Bool, cases_eq, cases_lt}
use Rattle.std.proofs.lemmas.Nat.{mul-le}
use Rattle.std.proofs.lemmas.List.{get_or_past}
use Rattle.std.proofs.lemmas.List.Sums.{sum_by-cons}
use Rattle.us_slots.specs.Times.{minislot_ticks}
use Rattle.us_flows.specs.declared.channels.Channel.{Channel}
use Rattle.us_flows.specs.Tables.{Tables, map_len}
use Rattle.us_flows.specs.Clusters.{Turn}
use Rattle.us_flows.specs.Lawful.{AreApart, IsChannel}
use Rattle.us_split.specs.Plans.{Budget, Ledger, Planned, budget_of, at_most, shares_of, cost_on, lowered, after_turn, plan_of}
use Rattle.us_split.specs.PlanLaws.{planned_bytes, AreBursts}
use Rattle.us_split.proofs.ShareLemmas.{IsBudget, shares_of-sum, shares_of-bursts, cost-within}

-- the turns of a plan are those that it is made for
pub plan_of-turns : (outstanding : List ℕ) (ledger : Ledger) (turns : List Turn) →
    map (λ planned. planned.turn) (plan_of outstanding ledger turns) ≡ turns
unfolding plan_of
plan_of-turns outstanding ledger [] = refl
plan_of-turns outstanding ledger (turn ∷ turns) =
    let planned : Planned = record { turn = turn; shares = shares_of outstanding ledger turn } in
    ap (λ more. turn ∷ more) (plan_of-turns outstanding (after_turn ledger planned) turns)

-- a turn of a plan and its shares
abbrev pub planned_of : List ℕ → Ledger → Turn → Planned
planned_of outstanding ledger turn = record { turn = turn; shares = shares_of outstanding ledger turn }

-- budgets stay budgets

pub lowered-budgets : (planned : Planned) (budgets : List Budget) → AllByRecursion IsBudget budgets →
    AllByRecursion IsBudget (lowered planned budgets)
lowered-budgets planned [] all = tt
lowered-budgets planned (b ∷ budgets) all =
    let ticks : ℕ = minislot_ticks b.channel.bursts.time in
    let fewer : (b.slots - cost_on b.channel planned) * ticks ≤ b.slots * ticks =
    mul-le (b.slots - cost_on b.channel planned) ticks b.slots ticks (omega arith) (omega arith) in
    (record { bursts = all.0.bursts; ticks = omega (arith, all.0.ticks, fewer) }, lowered-budgets planned budgets all.1)

-- and the one of a channel is lowered as all are
pub lowered-found : (planned : Planned) (budgets : List Budget) (id : ℕ) (b : Budget) → budget_of budgets id ≡ Some b →
    budget_of (lowered planned budgets) id ≡
    Some (record { channel = b.channel; slots = b.slots - cost_on b.channel planned })
lowered-found planned [] id b at = let no : None ≡ Some b = at in cc
lowered-found planned (x ∷ budgets) id b at = elim (cases_Bool (x.channel.id == id)) [
  | inl t ↦
      let found : Some x ≡ Some b = rw t at at in
      let same : x ≡ b = cc in
      rw t (ap (λ b. Some (record { channel = b.channel; slots = b.slots - cost_on b.channel planned })) same)
  | inr f ↦ let rest : budget_of budgets id ≡ Some b = rw f at at in rw f (lowered-found planned budgets id b rest)
]

-- What a plan costs on a channel is within its budget.
pub plan_of-room : (outstanding : List ℕ) (ledger : Ledger) (turns : List Turn) (c : Channel) (b : Budget) →
    IsBudget b → b.channel ≡ c → budget_of ledger.budgets c.id ≡ Some b →
    sum_by (λ planned. cost_on c planned) (plan_of outstanding ledger turns) ≤ b.slots
unfolding plan_of after_turn
plan_of-room outstanding ledger [] c b is own at = omega arith
plan_of-room outstanding ledger (turn ∷ turns) c b is own at =
    let planned : Planned = planned_of outstanding ledger turn in
    let next : Ledger = after_turn ledger planned in
    let left : Budget = record { channel = b.channel; slots = b.slots - cost_on b.channel planned } in
    let ticks : ℕ = minislot_ticks b.channel.bursts.time in
    let fewer : left.slots * ticks ≤ b.slots * ticks = mul-le left.slots ticks b.slots ticks (omega arith) (omega arith) in
    let is_left : IsBudget left = record { bursts = is.bursts; ticks = omega (arith, is.ticks, fewer) } in
    let rest : sum_by (λ planned. cost_on c planned) (plan_of outstanding next turns) ≤ left.slots =
    plan_of-room outstanding next turns c left is_left own (lowered-found planned ledger.budgets c.id b at) in
    let here : cost_on c planned ≤ b.slots = cost-within outstanding ledger turn c b is own at in
    let same : cost_on b.channel planned ≡ cost_on c planned = ap (λ c. cost_on c planned) own in
    omega (arith, sum_by-cons (λ planned. cost_on c planned) planned (plan_of outstanding next turns), rest, here, same)

-- Each planned share and its header are a burst.
pub plan_of-bursts : (outstanding : List ℕ) (ledger : Ledger) (turns : List Turn) →
    AllByRecursion IsBudget ledger.budgets → AllByRecursion AreBursts (plan_of outstanding ledger turns)
unfolding plan_of after_turn
plan_of-bursts outstanding ledger [] all = tt
plan_of-bursts outstanding ledger (turn ∷ turns) all =
    let planned : Planned = planned_of outstanding ledger turn in (
      shares_of-bursts outstanding ledger turn all,
      plan_of-bursts outstanding (after_turn ledger planned) turns (lowered-budgets planned ledger.budgets all),
    )

-- a turn gets no more than what is outstanding of its cluster,
pub at_most-le : (allowance : Option ℕ) (bytes : ℕ) → at_most allowance bytes ≤ bytes
at_most-le None bytes = omega arith
at_most-le (Some most) bytes = omega arith

pub shares_of-asked : (outstanding : List ℕ) (ledger : Ledger) (turn : Turn) →
    sum (shares_of outstanding ledger turn) ≤ slice_index outstanding turn.number
shares_of-asked outstanding ledger turn =
    omega (arith, shares_of-sum outstanding ledger turn, at_most-le (slice_index_or ledger.allowances turn.place None) (slice_index outstanding turn.number))

-- and than what its flow's bucket still allows
pub at_most-within : (allowance : Option ℕ) (most bytes : ℕ) → allowance ≡ Some most → at_most allowance bytes ≤ most
at_most-within None most bytes is = let no : None ≡ Some most = is in cc
at_most-within (Some limit) most bytes is =
    let found : Some limit ≡ Some most = is in let same : limit ≡ most = cc in omega arith

pub shares_of-allowed : (outstanding : List ℕ) (ledger : Ledger) (turn : Turn) (most : ℕ) →
    slice_index_or ledger.allowances turn.place None ≡ Some most → sum (shares_of outstanding ledger turn) ≤ most
shares_of-allowed outstanding ledger turn most is =
    omega (arith, shares_of-sum outstanding ledger turn, at_most-within (slice_index_or ledger.allowances turn.place None) most (slice_index outstanding turn.number) is)

-- So does each turn,
pub plan_of-asked : (outstanding : List ℕ) (ledger : Ledger) (turns : List Turn) →
    AllByRecursion (λ planned. sum planned.shares ≤ slice_index outstanding planned.turn.number) (plan_of outstanding ledger turns)
unfolding plan_of
plan_of-asked outstanding ledger [] = tt
plan_of-asked outstanding ledger (turn ∷ turns) = (
  shares_of-asked outstanding ledger turn,
  plan_of-asked outstanding (after_turn ledger (planned_of outstanding ledger turn)) turns,
)

-- and then the shares of a cluster's turns are at most so many times its outstanding bytes.
pub asked_by_cluster : (outstanding : List ℕ) (plan : List Planned) (n : ℕ) →
    AllByRecursion (λ planned. sum planned.shares ≤ slice_index outstanding planned.turn.number) plan →
    planned_bytes (filter (λ planned. planned.turn.number == n) plan) ≤
    slice_index outstanding n * count_by (λ turn. turn.number == n) (map (λ planned. planned.turn) plan)
asked_by_cluster outstanding [] n all = omega arith
asked_by_cluster outstanding (planned ∷ rest) n all =
    let turns : List Turn = map (λ planned. planned.turn) rest in
    let own : List Planned = filter (λ planned. planned.turn.number == n) rest in
    let more = asked_by_cluster outstanding rest n all.1 in
    let count = sum_by-cons (λ (turn : Turn). cond (turn.number == n) 1 0) planned.turn turns in
    let within : ℕ → Type 0 = λ times. planned_bytes (filter (λ planned. planned.turn.number == n) (planned ∷ rest)) ≤
    slice_index outstanding n * times in
    elim (cases_Bool (planned.turn.number == n)) [
      | inl t ↦
          let same : planned.turn.number ≡ n = eqb-true planned.turn.number n t in
          let bytes : slice_index outstanding planned.turn.number ≡ slice_index outstanding n = ap (slice_index outstanding) same in
          let one : count_by (λ turn. turn.number == n) (planned.turn ∷ turns) ≡ 1 + count_by (λ turn. turn.number == n) turns =
          count ∙ ap (λ b. cond b 1 0 + count_by (λ turn. turn.number == n) turns) t in
          subst within (sym one) (rw t (omega (arith, sum_by-cons (λ (p : Planned). sum p.shares) planned own, more, all.0, bytes)))
      | inr f ↦
          let none : count_by (λ turn. turn.number == n) (planned.turn ∷ turns) ≡ 0 + count_by (λ turn. turn.number == n) turns =
          count ∙ ap (λ b. cond b 1 0 + count_by (λ turn. turn.number == n) turns) f in
          subst within (sym none) (rw f (omega (arith, more)))
    ]

-- The shares of a flow's turns are at most its allowance.

pub same_place : (allowances : List (Option ℕ)) (place most : ℕ) (left : Option ℕ) →
    slice_index_or allowances place None ≡ Some most → slice_index_or (set allowances place left) place None ≡ left
same_place allowances place most left at = elim (cases_lt place (length allowances)) [
  | inl within ↦ get_or-set_same allowances place left None within
  | inr past ↦ let no : None ≡ Some most = sym (get_or_past allowances place None past) ∙ at in cc
]

pub plan_of-allowed : (outstanding : List ℕ) (ledger : Ledger) (turns : List Turn) (place most : ℕ) →
    slice_index_or ledger.allowances place None ≡ Some most →
    planned_bytes (filter (λ planned. planned.turn.place == place) (plan_of outstanding ledger turns)) ≤ most
unfolding plan_of after_turn
plan_of-allowed outstanding ledger [] place most at = omega arith
plan_of-allowed outstanding ledger (turn ∷ turns) place most at =
    let planned : Planned = planned_of outstanding ledger turn in
    let next : Ledger = after_turn ledger planned in
    let rest : List Planned = plan_of outstanding next turns in
    let own : List Planned = filter (λ planned. planned.turn.place == place) rest in
    let left : Option ℕ = option_map (λ most. most - sum planned.shares) (slice_index_or ledger.allowances turn.place None) in
    elim (cases_eq turn.place place) [
      | inl same ↦
          let here : slice_index_or ledger.allowances turn.place None ≡ Some most =
          ap (λ p. slice_index_or ledger.allowances p None) same ∙ at in
          let allowed = shares_of-allowed outstanding ledger turn most here in
          let less : slice_index_or next.allowances place None ≡ Some (most - sum planned.shares) =
          ap (λ p. slice_index_or (set ledger.allowances p left) place None) same ∙
          same_place ledger.allowances place most left at ∙ ap (option_map (λ most. most - sum planned.shares)) here in
          rw (eq-eqb turn.place place same)
          (omega (arith, sum_by-cons (λ (p : Planned). sum p.shares) planned own, plan_of-allowed outstanding next turns place (most - sum planned.shares) less, allowed))
      | inr other ↦
          let apart : place ≢ turn.place = λ same. other (sym same) in
          let kept : slice_index_or next.allowances place None ≡ Some most =
          get_or-set_other ledger.allowances turn.place place left None apart ∙ at in
          rw (ne_eqb turn.place place other) (plan_of-allowed outstanding next turns place most kept)
    ]

-- the ledger before the first turn

abbrev pub idle_budgets : List Channel → List ℕ → List Budget
idle_budgets channels idle = map (λ pair. record { channel = pair.0; slots = pair.1 }) (zip channels idle)

pub idle-budgets : (t : Tables) (channels : List Channel) (idle : List ℕ) → t.round_ticks ≤ 4096 →
    AllByRecursion (IsChannel t) channels →
    ((place : ℕ) (c : Channel) → slice_get channels place ≡ Some c → slice_index idle place ≤ map_len t c) →
    AllByRecursion IsBudget (idle_budgets channels idle)
idle-budgets t [] idle short all within = tt
idle-budgets t (c ∷ channels) [] short all within = tt
idle-budgets t (c ∷ channels) (slots ∷ idle) short all within =
    let ticks : ℕ = minislot_ticks c.bursts.time in
    let few : slots ≤ map_len t c = within 0 c refl in
    let product : slots * ticks ≤ map_len t c * ticks = mul-le slots ticks (map_len t c) ticks few (omega arith) in (
      record { bursts = all.0.bursts; ticks = omega (arith, product, all.0.whole, short) },
      idle-budgets t channels idle short all.1 (λ place. within (suc place)),
    )

no_such : (id : ℕ) (channels : List Channel) (place : ℕ) (c : Channel) →
    AllByRecursion (λ other. id ≢ other) (map (λ c. c.id) channels) → slice_get channels place ≡ Some c → id ≢ c.id
no_such id [] place c apart at = let no : None ≡ Some c = at in cc
no_such id (x ∷ xs) zero c apart at =
    let found : Some x ≡ Some c = at in
    let same : x ≡ c = cc in
    λ equal. apart.0 (equal ∙ sym (ap (λ c. c.id) same))
no_such id (x ∷ xs) (suc place) c apart at = no_such id xs place c apart.1 at

pub idle-found : (channels : List Channel) (idle : List ℕ) (place : ℕ) (c : Channel) → length idle ≡ length channels →
    AreApart (map (λ c. c.id) channels) → slice_get channels place ≡ Some c →
    budget_of (idle_budgets channels idle) c.id ≡ Some (record { channel = c; slots = slice_index idle place })
idle-found [] idle place c same apart at = let no : None ≡ Some c = at in cc
idle-found (x ∷ xs) [] place c same apart at = absurd (omega (arith, same))
idle-found (x ∷ xs) (slots ∷ idle) zero c same apart at =
    let found : Some x ≡ Some c = at in
    let equal : x ≡ c = cc in
    rw (eq-eqb x.id c.id (ap (λ c. c.id) equal)) (ap (λ c. Some (record { channel = c; slots = slots })) equal)
idle-found (x ∷ xs) (slots ∷ idle) (suc place) c same apart at =
    rw (ne_eqb x.id c.id (no_such x.id xs place c apart.0 at)) (idle-found xs idle place c (omega (arith, same)) apart.1 at)
