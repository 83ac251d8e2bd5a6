-- Of all MAPs in which a grant could start, it is enough to look at the first three.
use Rattle.std.proofs.Common.{◌≡◌, ℕ, ◌+◌, ◌*◌, ◌/◌, ◌%◌, ◌<◌, ◌≤◌, ◌==◌, true, false, refl, ap, subst, sym, ◌∙◌, inl, inr, arith}
use Rattle.std.specs.Prelude.{if◌then◌else◌}
use Rattle.std.proofs.lemmas.Bool.{cases_Bool, cases_lt, cases_eq, eqb-true, eq-eqb}
use Rattle.std.proofs.lemmas.Nat.{mul-le, mod_below, div-add-mod'}
use Rattle.std.proofs.Math.Nat.{add-mul-mod_self_left, div-add-mod, mod-eq_of_lt, mod-one}
use Rattle.us_slots.specs.Times.{Timing}
use Rattle.us_slots.specs.Windows.{StartsWithin, AreEnds}
use Rattle.us_lint.specs.Windows.{EmptyMaps, AreMaps, reserve_of, HasRoom, CanBeGranted}

-- MAPs follow one another
later : (a b len : ℕ) → a < b → a * len + len ≤ b * len
later a b len h =
    let product : (a + 1) * len ≤ b * len = mul-le (a + 1) len b len (omega arith) (omega arith) in
    grind (arith, product)

-- a quotient, and what it leaves
quotient_low : (x len : ℕ) → x / len * len ≤ x
quotient_low x len = omega (arith, div-add-mod' x len)

quotient_high : (x len : ℕ) → 1 ≤ len → x < x / len * len + len
quotient_high x len some = omega (arith, div-add-mod' x len, mod_below x len some)

-- behind a MAP with a reserve at its start stands one without, where not each has one
next_has_none : (n every : ℕ) → 1 < every → n % every ≡ 0 → (n + 1) % every ≡ 1
next_has_none n every some e =
    let whole : 1 + every * (n / every) ≡ n + 1 = omega (arith, div-add-mod n every, e) in
    subst (λ k. k % every ≡ 1) whole (add-mul-mod_self_left 1 every (n / every) ∙ mod-eq_of_lt some)

without : (m : EmptyMaps) (map : ℕ) → (map % m.maintenance_every == 0) ≡ false → reserve_of m map ≡ 0
without m map e = ap (λ b. if b then m.maintenance else 0) e

with_reserve : (m : EmptyMaps) (map : ℕ) → (map % m.maintenance_every == 0) ≡ true → reserve_of m map ≡ m.maintenance
with_reserve m map e = ap (λ b. if b then m.maintenance else 0) e

most : (m : EmptyMaps) (map : ℕ) → reserve_of m map ≤ m.maintenance
most m map = elim (cases_Bool (map % m.maintenance_every == 0)) [
  | inl t ↦ omega (arith, with_reserve m map t)
  | inr f ↦ omega (arith, without m map f)
]

module _ (m : EmptyMaps) (are : AreMaps m) (slots first last : ℕ) (some : 1 ≤ slots) (start end : ℕ)
    (start_is : start ≡ first / m.len) (end_is : end ≡ last / m.len) where
  before_first : start * m.len ≤ first
  before_first = rw start_is (quotient_low first m.len)

  behind_first : first < start * m.len + m.len
  behind_first = rw start_is (quotient_high first m.len are.some)

  before_last : end * m.len ≤ last
  before_last = rw end_is (quotient_low last m.len)

  behind_last : last < end * m.len + m.len
  behind_last = rw end_is (quotient_high last m.len are.some)

  -- a MAP that lies whole in the window has room where the grant fits beside its reserves
  whole : (n : ℕ) → start < n → n < end → reserve_of m n + slots + m.contention ≤ m.len → HasRoom m n slots first last
  whole n above below room =
      let before = later start n m.len above in
      let behind = later n end m.len below in
      let low = behind_first in
      let high = before_last in
      let few = most m n in
      record {
        minislot = n * m.len + reserve_of m n;
        from = omega (arith, before, low);
        to = omega (arith, behind, high, few, are.reserves);
        fits = record { behind = omega arith; before = omega (arith, room) };
      }

  -- of the two MAPs behind the first one has room, if one behind both has
  of_two : (n : ℕ) → start + 2 < n → n ≤ end → HasRoom m n slots first last → (HasRoom m (start + 1) slots first last → ⊥) →
      HasRoom m (start + 2) slots first last
  of_two n above below found none =
      let room : reserve_of m n + slots + m.contention ≤ m.len = omega (arith, found.fits.behind, found.fits.before) in
      elim (cases_Bool ((start + 1) % m.maintenance_every == 0)) [
        | inr f ↦ absurd (none (whole (start + 1) (omega arith) (omega (arith, above, below))
            (omega (arith, without m (start + 1) f, room))))
        | inl t ↦ elim (cases_lt 1 m.maintenance_every) [
          | inr one ↦
              let every : m.maintenance_every ≡ 1 = omega (arith, one, are.every) in
              let same : (n % m.maintenance_every == 0) ≡ true =
              eq-eqb (n % m.maintenance_every) 0 (subst (λ k. n % k ≡ 0) (sym every) (mod-one n)) in
              absurd (none (whole (start + 1) (omega arith) (omega (arith, above, below))
              (omega (arith, with_reserve m (start + 1) t, with_reserve m n same, room))))
          | inl more ↦
              let after : (start + 2) % m.maintenance_every ≡ 1 =
              subst (λ k. k % m.maintenance_every ≡ 1) (omega arith)
              (next_has_none (start + 1) m.maintenance_every more (eqb-true ((start + 1) % m.maintenance_every) 0 t)) in
              let no : (((start + 2) % m.maintenance_every) == 0) ≡ false = rw after refl in
              whole (start + 2) (omega arith) (omega (arith, above, below)) (omega (arith, without m (start + 2) no, room))
        ]
      ]

  pub room_in_third : (HasRoom m start slots first last → ⊥) → (HasRoom m (start + 1) slots first last → ⊥) →
      (n : ℕ) → HasRoom m n slots first last → HasRoom m (start + 2) slots first last
  room_in_third no_first no_second n found =
      let inside : found.minislot < n * m.len + m.len = omega (arith, found.fits.before, some) in
      elim (cases_eq n start) [
        | inl e ↦ absurd (no_first (subst (λ k. HasRoom m k slots first last) e found))
        | inr other ↦ elim (cases_eq n (start + 1)) [
          | inl e ↦ absurd (no_second (subst (λ k. HasRoom m k slots first last) e found))
          | inr another ↦ elim (cases_eq n (start + 2)) [
            | inl e ↦ subst (λ k. HasRoom m k slots first last) e found
            | inr last_one ↦ elim (cases_lt n start) [
              | inl low ↦ absurd (omega (arith, later n start m.len low, before_first, found.from, inside))
              | inr high ↦ elim (cases_lt end n) [
                | inl above ↦ absurd (omega (arith, later end n m.len above, behind_last, found.to, found.fits.behind))
                | inr below ↦
                    of_two n (omega (arith, high, other, another, last_one)) (omega (arith, below)) found no_second
              ]
            ]
          ]
        ]
      ]

-- a window from whose minislots on no MAP has room is never granted
pub never_granted : (m : EmptyMaps) (time : Timing) (slots ideal jitter : ℕ) (ends : ℕ × ℕ) →
    AreEnds (StartsWithin time ideal jitter) ends → (((map : ℕ) × HasRoom m map slots ends.0 ends.1) → ⊥) →
    CanBeGranted m time slots ideal jitter → ⊥
never_granted m time slots ideal jitter ends are none granted = none (
  granted.0,
  record {
    minislot = granted.1;
    from = are.least granted.1 granted.2;
    to = are.greatest granted.1 granted.2;
    fits = granted.3;
  },
)

-- and neither is one in which no minislot begins
pub never_begun : (m : EmptyMaps) (time : Timing) (slots ideal jitter : ℕ) →
    ((minislot : ℕ) → StartsWithin time ideal jitter minislot → ⊥) → CanBeGranted m time slots ideal jitter → ⊥
never_begun m time slots ideal jitter none granted = none granted.1 granted.2
