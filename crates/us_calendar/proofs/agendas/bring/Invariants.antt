use Rattle.std.proofs.Common.{◌≡◌, ℕ, ◌%◌, ◌||◌, length}
use Rattle.us_calendar.specs.Agendas.{is_near, is_far, AreInside, IsLate}
use Rattle.us_calendar.proofs.agendas.bring.Given as goal

abbrev pub invariant-loop-place : goal.invariant-loop-place
invariant-loop-place l = record {
  late : IsLate l.far l.round;
  inside : AreInside l.far (length l.near);
  here : (place : ℕ) → (is_near l.near l.round place || is_far l.far l.round place) ≡ is_far l.fn.far l.round place;
  others : (other place : ℕ) → (other % 64 ≡ l.round % 64 → ⊥) → is_near l.near other place ≡ is_near l.fn.near other place;
  far_others : (other place : ℕ) → (other ≡ l.round → ⊥) → is_far l.far other place ≡ is_far l.fn.far other place;
  many : length l.near ≡ length l.fn.near;
}

abbrev pub decreases-loop-place : goal.decreases-loop-place
decreases-loop-place l = length l.far.keys
