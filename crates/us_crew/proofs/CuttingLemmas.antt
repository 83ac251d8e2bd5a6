-- Workers are halved fewer times than there are workers.
use Rattle.std.proofs.Common.{◌≡◌, ℕ, zero, suc, ◌-◌, ◌/◌, ◌≤◌, ◌<◌, Bool, true, false, List, [], ◌∷◌, ◌++◌, refl, ap₂, inl, inr, ◌⊎◌, arith}
use Rattle.std.specs.Prelude.{nat_lt, ◌||◌, if◌then◌else◌}
use Rattle.std.proofs.Math.Bool.{or-true}
use Rattle.std.proofs.lemmas.Bool.{lt-ltb, le-ltb, ltb-false, or_parts}
use Rattle.us_crew.specs.Cutting.{halved, halved_parts}

-- one list where something holds, and where it doesn't one of two that are the same then
either : (b : Bool) (one left right : List ℕ) → (b ≡ false → left ≡ right) →
    (if b then one else left) ≡ (if b then one else right)
either true one left right same = refl
either false one left right same = same refl

pub enough : (t u workers items : ℕ) → workers ≤ t → workers ≤ u → halved t workers items ≡ halved u workers items
enough zero zero workers items few many = refl
enough zero (suc u) zero items few many = refl
enough zero (suc u) (suc workers) items few many = absurd (omega arith)
enough (suc t) zero zero items few many = refl
enough (suc t) zero (suc workers) items few many = absurd (omega arith)
enough (suc t) (suc u) workers items few many =
    either (nat_lt workers 2 || nat_lt items 2) (items ∷ []) _ _ (λ is.
    let some : 2 ≤ workers = ltb-false workers 2 (or_parts (nat_lt workers 2) (nat_lt items 2) is).0 in
    ap₂ (λ front back. front ++ back)
    (enough t u (workers / 2) (items / 2) (omega arith) (omega arith))
    (enough t u (workers - workers / 2) (items - items / 2) (omega arith) (omega arith)))

-- one worker or one item is one part
pub whole : (workers items : ℕ) → 1 ≤ workers → (workers < 2) ⊎ (items < 2) → halved_parts workers items ≡ items ∷ []
whole zero items some few = absurd (omega arith)
whole (suc workers) items some (inl few) = rw (lt-ltb (suc workers) 2 few) refl
whole (suc workers) items some (inr few) = rw (lt-ltb items 2 few, or-true (nat_lt (suc workers) 2)) refl

-- others are halved
pub cut : (workers items : ℕ) → 2 ≤ workers → 2 ≤ items →
    halved_parts workers items ≡ halved_parts (workers / 2) (items / 2) ++ halved_parts (workers - workers / 2) (items - items / 2)
cut zero items some many = absurd (omega arith)
cut (suc workers) items some many =
    rw (le-ltb (suc workers) 2 some, le-ltb items 2 many)
    (ap₂ (λ front back. front ++ back)
    (enough workers (suc workers / 2) (suc workers / 2) (items / 2) (omega arith) (omega arith))
    (enough workers (suc workers - suc workers / 2) (suc workers - suc workers / 2) (items - items / 2) (omega arith) (omega arith)))
