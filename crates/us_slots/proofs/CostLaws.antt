-- What a data grant takes: no more than the minislots that carry its bytes, and some where there is a byte.
use Rattle.std.proofs.Common.{◌≡◌, ℕ, zero, suc, ◌*◌, ◌/◌, ◌<◌, ◌≤◌, nat_le, ◌&&◌, Bool, true, arith, inl, inr}
use Rattle.std.proofs.lemmas.Bool.{cases_Bool, and_parts, leb-true}
use Rattle.us_slots.specs.Times.{Timing, symbols_per_minislot}
use Rattle.us_slots.specs.Bursts.{BurstProfile, ChannelBursts, burst_cost, grant_cost}
use Rattle.us_slots.specs.Capacities.{greatest_up_to, capacity_of}
use Rattle.us_slots.specs.Laws.{CarriedBytesFit, BytesCostMinislots}
use Rattle.us_slots.proofs.CostLemmas.{burst_cost-some, burst_cost-mono}

-- a grant costs no more than a long one
pub within_long : (b : ChannelBursts) (bytes : ℕ) → (grant_cost b bytes).0 ≤ burst_cost b.time b.long bytes
within_long b bytes =
    let short : ℕ = burst_cost b.time b.short bytes in
    let long : ℕ = burst_cost b.time b.long bytes in
    elim (cases_Bool (nat_le short b.short_max && nat_le short long)) [
      | inl is ↦ rw is (leb-true short long (and_parts (nat_le short b.short_max) (nat_le short long) is).1)
      | inr not ↦ rw not (omega arith)
    ]

greatest_passes : (passes : ℕ → Bool) (limit : ℕ) → 0 < greatest_up_to passes limit →
    passes (greatest_up_to passes limit) ≡ true
unfolding greatest_up_to
greatest_passes passes zero some = absurd (omega arith)
greatest_passes passes (suc limit) some = elim (cases_Bool (passes (suc limit))) [
  | inl is ↦ rw is is
  | inr not ↦ rw not (greatest_passes passes limit (rw not at some))
]

-- a capacity that isn't 0 fits into its minislots
pub capacity_fits : (t : Timing) (p : BurstProfile) (slots : ℕ) → 0 < capacity_of t p slots →
    burst_cost t p (capacity_of t p slots) ≤ slots
unfolding capacity_of
capacity_fits t p slots some =
    leb-true (burst_cost t p (greatest_up_to (λ bytes. nat_le (burst_cost t p bytes) slots) (slots * symbols_per_minislot t * p.bits / 8))) slots
    (greatest_passes (λ bytes. nat_le (burst_cost t p bytes) slots) (slots * symbols_per_minislot t * p.bits / 8) some)

pub carried_bytes_fit : CarriedBytesFit
carried_bytes_fit b slots bytes is some within =
    let most : ℕ = capacity_of b.time b.long slots in
    omega (
      arith,
      within_long b bytes,
      burst_cost-mono b.time b.long bytes most is.long within,
      capacity_fits b.time b.long slots some,
    )

pub bytes_cost_minislots : BytesCostMinislots
bytes_cost_minislots b bytes is some =
    elim (cases_Bool (nat_le (burst_cost b.time b.short bytes) b.short_max
    && nat_le (burst_cost b.time b.short bytes) (burst_cost b.time b.long bytes))) [
      | inl short ↦ rw short (burst_cost-some b.time b.short bytes is.short some)
      | inr long ↦ rw long (burst_cost-some b.time b.long bytes is.long some)
    ]
