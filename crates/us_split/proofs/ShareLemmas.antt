-- One turn: its shares are what its channels can carry, and no more than it asks for.
use Rattle.std.proofs.Common.{◌≡◌, ◌⊎◌, ℕ, zero, suc, ◌+◌, ◌*◌, ◌/◌, ◌==◌, ◌<◌, ◌≤◌, nat_le, Bool, false, List, [], ◌∷◌, length, Option, Some, None, refl, ap, ◌∙◌, subst, inl, inr, arith}
use Rattle.std.specs.Prelude.{sum, position, slice_index}
use Rattle.std.specs.List.{AllByRecursion}
use Rattle.std.proofs.lemmas.Bool.{cases_Bool, cases_lt, eqb-true}
use Rattle.std.proofs.lemmas.List.{length-map, get_or-map, get_or_default}
use Rattle.std.proofs.lemmas.List.Elements.{recursion_from_All}
use Rattle.std.proofs.lemmas.List.Quantifiers.{position-Some}
use Rattle.us_slots.specs.Times.{Timing, IsTiming, minislot_ticks, symbols_per_minislot}
use Rattle.us_slots.specs.Bursts.{BurstProfile, IsBurstProfile, IsChannelBursts, burst_cost}
use Rattle.us_slots.specs.Capacities.{greatest_up_to, capacity_of}
use Rattle.us_slots.proofs.CapacityLemmas.{symbols_most, room_most}
use Rattle.us_slots.proofs.CostLaws.{carried_bytes_fit}
use Rattle.us_flows.specs.declared.channels.Channel.{Channel}
use Rattle.us_flows.specs.Tables.{FlowTable, header_bytes}
use Rattle.us_flows.specs.Clusters.{Turn}
use Rattle.us_split.specs.Plans.{Budget, Ledger, budget_of, weight, weights, demand, shares_of, share_at, share_cost, cost_on}
use Rattle.us_split.specs.PlanLaws.{AreBursts}
use Rattle.us_split.proofs.DivisionLemmas.{divided-sum, divided-within, divided-length}

-- capacity, by its definition

greatest-le : (passes : ℕ → Bool) (limit : ℕ) → greatest_up_to passes limit ≤ limit
unfolding greatest_up_to
greatest-le passes zero = omega arith
greatest-le passes (suc limit) = elim (cases_Bool (passes (suc limit))) [
  | inl t ↦ rw t (omega arith)
  | inr f ↦ rw f (omega (arith, greatest-le passes limit))
]

-- it is within the most bytes of a burst
capacity-most : (t : Timing) (p : BurstProfile) (slots : ℕ) → IsTiming t → IsBurstProfile p →
    slots * minislot_ticks t ≤ 4096 → capacity_of t p slots ≤ 98304
unfolding capacity_of
capacity-most t p slots timing profile ticks =
    let symbols : slots * symbols_per_minislot t ≤ 131072 =
    symbols_most t slots (symbols_per_minislot t) timing ticks refl in
    omega (arith, greatest-le (λ bytes. nat_le (burst_cost t p bytes) slots) (slots * symbols_per_minislot t * p.bits / 8), (room_most (slots * symbols_per_minislot t) p.bits symbols profile.most_bits).1)

-- a budget as a round has it: the minislots of a channel, no more than a MAP has
pub record IsBudget (b : Budget) : Type 0 where
  pub bursts : IsChannelBursts b.channel.bursts
  pub ticks : b.slots * minislot_ticks b.channel.bursts.time ≤ 4096

-- a share within the weight fits into a burst,
pub fits_burst : (b : Budget) (header share : ℕ) → IsBudget b → share ≤ weight header (Some b) →
    (share ≡ 0) ⊎ (share + header ≤ 98304)
fits_burst b header share is within = elim (cases_lt 0 share) [
  | inr none ↦ inl (omega arith)
  | inl some ↦
      let most = capacity-most b.channel.bursts.time b.channel.bursts.long b.slots is.bursts.time is.bursts.long is.ticks in
      inr (omega arith)
]

-- and costs no more than the minislots
pub fits_budget : (b : Budget) (header share : ℕ) → IsBudget b → share ≤ weight header (Some b) →
    share_cost b.channel header share ≤ b.slots
fits_budget b header share is within = elim (cases_Bool (share == 0)) [
  | inl none ↦ rw none (omega arith)
  | inr some ↦
      rw some (elim (cases_lt 0 share) [
        | inr none ↦ absurd (omega (arith, zero-test share some none))
        | inl more ↦
            carried_bytes_fit b.channel.bursts b.slots (share + header) is.bursts (omega arith) (omega arith)
      ])
]
  where
    zero-test : (n : ℕ) → (n == 0) ≡ false → n ≤ 0 → 0 < 0
    zero-test n test none = let zero : n ≡ 0 = omega arith in let no : (0 == 0) ≡ false = rw zero at test in cc

-- what holds of all budgets holds of one that is found
pub found_budget : (budgets : List Budget) (id : ℕ) (b : Budget) → AllByRecursion IsBudget budgets →
    budget_of budgets id ≡ Some b → IsBudget b
found_budget [] id b all at = let no : None ≡ Some b = at in cc
found_budget (x ∷ xs) id b all at = elim (cases_Bool (x.channel.id == id)) [
  | inl t ↦ let found : Some x ≡ Some b = rw t at at in let same : x ≡ b = cc in subst IsBudget same all.0
  | inr f ↦ let rest : budget_of xs id ≡ Some b = rw f at at in found_budget xs id b all.1 rest
]

-- the shares of a turn

pub shares_of-length : (outstanding : List ℕ) (ledger : Ledger) (turn : Turn) →
    length (shares_of outstanding ledger turn) ≡ length turn.cluster.flow.channels
unfolding shares_of weights
shares_of-length outstanding ledger turn =
    let flow : FlowTable = turn.cluster.flow in
    divided-length (demand outstanding ledger turn) (weights flow ledger.budgets) ∙
    length-map flow.channels (λ id. weight (header_bytes flow) (budget_of ledger.budgets id))

-- a turn gets no more than it asks for: what is outstanding of its cluster, and what its flow's bucket still allows
pub shares_of-sum : (outstanding : List ℕ) (ledger : Ledger) (turn : Turn) →
    sum (shares_of outstanding ledger turn) ≤ demand outstanding ledger turn
unfolding shares_of
shares_of-sum outstanding ledger turn =
    omega (arith, divided-sum (demand outstanding ledger turn) (weights turn.cluster.flow ledger.budgets))

-- each share is within what its channel can carry
pub shares_of-within : (outstanding : List ℕ) (ledger : Ledger) (turn : Turn) (k : ℕ) → k < length turn.cluster.flow.channels →
    slice_index (shares_of outstanding ledger turn) k ≤
    weight (header_bytes turn.cluster.flow) (budget_of ledger.budgets (slice_index turn.cluster.flow.channels k))
unfolding shares_of weights
shares_of-within outstanding ledger turn k within =
    let flow : FlowTable = turn.cluster.flow in
    let one = get_or-map (λ id. weight (header_bytes flow) (budget_of ledger.budgets id)) flow.channels k 0 0 within in
    omega (arith, one, divided-within (demand outstanding ledger turn) (weights flow ledger.budgets) k)

module _ (outstanding : List ℕ) (ledger : Ledger) (turn : Turn) where
  abbrev flow : FlowTable
  flow = turn.cluster.flow

  abbrev shares : List ℕ
  shares = shares_of outstanding ledger turn

  abbrev IsBurst : ℕ → Type 0
  IsBurst share = (share ≡ 0) ⊎ (share + header_bytes flow ≤ 98304)

  burst_found : (share id : ℕ) (b : Option Budget) → AllByRecursion IsBudget ledger.budgets →
      budget_of ledger.budgets id ≡ b → share ≤ weight (header_bytes flow) b → IsBurst share
  burst_found share id None all at within = inl (omega arith)
  burst_found share id (Some b) all at within =
      fits_burst b (header_bytes flow) share (found_budget ledger.budgets id b all at) within

  burst_at : (k : ℕ) → AllByRecursion IsBudget ledger.budgets → k < length flow.channels → IsBurst (slice_index shares k)
  burst_at k all within =
      let id : ℕ = slice_index flow.channels k in
      burst_found (slice_index shares k) id (budget_of ledger.budgets id) all refl
      (shares_of-within outstanding ledger turn k within)

  -- each share and the header are a burst,
  pub shares_of-bursts : AllByRecursion IsBudget ledger.budgets → AreBursts (record { turn = turn; shares = shares })
  shares_of-bursts all =
      recursion_from_All IsBurst shares (λ k d within. subst IsBurst (get_or_default shares k 0 d within)
      (burst_at k all (omega (arith, within, shares_of-length outstanding ledger turn))))

  cost_found : (c : Channel) (b : Budget) (found : Option ℕ) → IsBudget b → b.channel ≡ c →
      budget_of ledger.budgets c.id ≡ Some b → position (λ id. id == c.id) flow.channels ≡ found →
      share_cost c (header_bytes flow) (share_at shares found) ≤ b.slots
  cost_found c b None is own at none = omega arith
  cost_found c b (Some k) is own at here =
      let place = position-Some (λ id. id == c.id) flow.channels k 0 here in
      let id : slice_index flow.channels k ≡ c.id = eqb-true (slice_index flow.channels k) c.id place.1 in
      let budget : budget_of ledger.budgets (slice_index flow.channels k) ≡ Some b =
      ap (budget_of ledger.budgets) id ∙ at in
      let share = rw budget at (shares_of-within outstanding ledger turn k place.0) in
      subst (λ c. share_cost c (header_bytes flow) (slice_index shares k) ≤ b.slots) own
      (fits_budget b (header_bytes flow) (slice_index shares k) is share)

  -- and all that a turn plans on a channel costs no more than its budget
  pub cost-within : (c : Channel) (b : Budget) → IsBudget b → b.channel ≡ c →
      budget_of ledger.budgets c.id ≡ Some b → cost_on c (record { turn = turn; shares = shares }) ≤ b.slots
  unfolding cost_on
  cost-within c b is own at = cost_found c b (position (λ id. id == c.id) flow.channels) is own at refl
