-- Buckets of minimum rates of which none has one: they reserve nothing, and nothing leaves them.
use Rattle.std.proofs.Common.{◌≡◌, ℕ, zero, suc, ◌+◌, ◌-◌, ◌==◌, if◌then◌else◌, List, [], ◌∷◌, length, map, set, refl, ap, sym, subst, ◌∙◌, inl, inr, arith, eq-eqb}
use Rattle.std.specs.Prelude.{slice_index, slice_index_or}
use Rattle.std.specs.List.{AllByRecursion}
use Rattle.std.proofs.lemmas.Bool.{cases_Bool}
use Rattle.std.proofs.lemmas.List.{get_or_past, length-map, set-get_or}
use Rattle.us_flows.specs.Tables.{FlowTable}
use Rattle.us_flows.specs.declared.turns.Turn as places
use Rattle.us_bucket.specs.Levels.{Level, bytes_in, full, refilled, reserve_in, spent}
use Rattle.us_round.specs.Cores.{AreReserved, IsRoom, NoRates, flow_at, left_at}
use Rattle.us_round.specs.Rounds.{unreserved}

pub none_full : (flows : List FlowTable) → AllByRecursion (λ (flow : FlowTable). flow.min_rate ≡ 0) flows →
    NoRates (map (λ (flow : FlowTable). full flow.min_rate flow.burst) flows)
none_full [] none = tt
none_full (flow ∷ flows) none = (none.0, none_full flows none.1)

pub none_refilled : (ticks : ℕ) (levels : List Level) → NoRates levels → NoRates (map (refilled ticks) levels)
unfolding refilled
none_refilled ticks [] none = tt
none_refilled ticks (l ∷ levels) none = (none.0, none_refilled ticks levels none.1)

pub none_left : (reserved : ℕ → ℕ) (place : ℕ) (levels : List Level) → NoRates levels →
    NoRates (unreserved reserved place levels)
unfolding spent
none_left reserved place [] none = tt
none_left reserved place (l ∷ levels) none = (none.0, none_left reserved (place + 1) levels none.1)

-- so none reserves anything
pub none_reserved : (levels : List Level) → NoRates levels → AllByRecursion (λ reserve. reserve ≡ 0) (map reserve_in levels)
unfolding reserve_in bytes_in
none_reserved [] none = tt
none_reserved (l ∷ levels) none = (rw (eq-eqb l.rate 0 none.0) refl, none_reserved levels none.1)

-- Without room.

none_at : (reserves : List ℕ) (flow : ℕ) → AllByRecursion (λ reserve. reserve ≡ 0) reserves → slice_index reserves flow ≡ 0
none_at [] flow none = refl
none_at (reserve ∷ reserves) zero none = none.0
none_at (reserve ∷ reserves) (suc flow) none = none_at reserves flow none.1

-- nothing is noted of any flow, and that is right,
pub none_noted : (turns : List places.Turn) (levels : List Level) (reserves these : List ℕ) → IsRoom levels reserves →
    length reserves ≡ 0 → AreReserved turns levels reserves these
none_noted turns levels reserves [] room empty = tt
none_noted turns levels reserves (place ∷ these) room empty = (
  get_or_past reserves (flow_at turns place) 0 (omega (arith, empty))
      ∙ sym (none_at (map reserve_in levels) (flow_at turns place) (none_reserved levels (room.none empty))),
  none_noted turns levels reserves these room empty,
)

rate_at : (levels : List Level) (flow : ℕ) → NoRates levels → (slice_index_or levels flow (full 0 0)).rate ≡ 0
rate_at [] flow none = refl
rate_at (l ∷ levels) zero none = none.0
rate_at (l ∷ levels) (suc flow) none = rate_at levels flow none.1

nothing_spent : (bytes : ℕ) (l : Level) → l.rate ≡ 0 → spent bytes l ≡ l
unfolding spent
nothing_spent bytes l none = rw (eq-eqb l.rate 0 none) refl

-- and nothing leaves the buckets
pub none_leaves : (turns : List places.Turn) (left these : List ℕ) (levels : List Level) → NoRates levels →
    left_at turns left these levels ≡ levels
none_leaves turns left [] levels none = refl
none_leaves turns left (place ∷ these) levels none =
    let flow : ℕ = flow_at turns place in
    let was : Level = slice_index_or levels flow (full 0 0) in
    ap (left_at turns left these)
    (ap (set levels flow) (nothing_spent (reserve_in was - slice_index left flow) was (rate_at levels flow none))
    ∙ set-get_or levels flow (full 0 0))
    ∙ none_leaves turns left these levels none

-- Room stays room from round to round.

pub begun_room : (round ticks : ℕ) (levels : List Level) (noted : List ℕ) → IsRoom levels noted →
    IsRoom (if round == 0 then levels else map (refilled ticks) levels) noted
begun_room round ticks levels noted room = elim (cases_Bool (round == 0)) [
  | inl first ↦ rw first room
  | inr later ↦
      rw later (record {
        none = λ empty. none_refilled ticks levels (room.none empty);
        long = λ some. room.long some ∙ sym (length-map levels (refilled ticks));
      })
]

pub left_room : (turns : List places.Turn) (left these : List ℕ) (levels : List Level) (noted rest : List ℕ) →
    length (left_at turns left these levels) ≡ length levels → length rest ≡ length noted → IsRoom levels noted →
    IsRoom (left_at turns left these levels) rest
left_room turns left these levels noted rest long same room = record {
  none = λ empty.
      let none : NoRates levels = room.none (omega (arith, same, empty)) in
      subst NoRates (sym (none_leaves turns left these levels none)) none;
  long = λ some. same ∙ room.long (omega (arith, same, some)) ∙ sym long;
}

pub as_long : (levels : List Level) (noted rest : List ℕ) → length rest ≡ length noted → IsRoom levels noted → IsRoom levels rest
as_long levels noted rest same room = record {
  none = λ empty. room.none (omega (arith, same, empty));
  long = λ some. same ∙ room.long (omega (arith, same, some));
}
