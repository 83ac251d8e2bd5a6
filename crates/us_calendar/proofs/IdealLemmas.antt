-- When occurrences are ideal: never earlier than those before them, and an interval later in another interval.
use Rattle.std.proofs.Common.{◌≡◌, ℕ, ◌+◌, ◌*◌, ◌/◌, ◌%◌, ◌<◌, ◌≤◌, ◌⊎◌, inl, inr, ap, arith}
use Rattle.std.proofs.lemmas.Nat.{mul-le, le-div}
use Rattle.std.proofs.Math.Nat.{div-mul-le_self}
use Rattle.std.proofs.lemmas.Bool.{cases_lt}
use Rattle.us_calendar.specs.Entries.{Entry, IsEntry}
use Rattle.us_calendar.specs.Occurrences.{ideal}

-- an interval that begins no earlier has no lower number
div-rises : (n m k : ℕ) → 0 < k → n ≤ m → n / k ≤ m / k
div-rises n m k some h = le-div (n / k) m k some (omega (arith, div-mul-le_self n k))

-- an interval has a grant, and ends behind its window
pub record HasWindows (e : Entry) : Type 0 where
  pub grants : 1 ≤ e.grants
  pub jitter : e.jitter < e.interval

pub windows : (e : Entry) → IsEntry e → HasWindows e
windows e is = record { grants = is.grants; jitter = is.jitter }

pub ideal-apart : (e : Entry) (n m : ℕ) → HasWindows e → n ≤ m →
    (ideal e m ≡ ideal e n) ⊎ (ideal e n + e.interval ≤ ideal e m)
ideal-apart e n m is h =
    let rises : n / e.grants ≤ m / e.grants = div-rises n m e.grants (omega (arith, is.grants)) h in
    elim (cases_lt (n / e.grants) (m / e.grants)) [
      | inl less ↦
          let product : (n / e.grants + 1) * e.interval ≤ m / e.grants * e.interval =
          mul-le (n / e.grants + 1) e.interval (m / e.grants) e.interval (omega arith) (omega arith) in
          inr (grind arith)
      | inr other ↦
          let same : m / e.grants ≡ n / e.grants = omega arith in
          inl (ap (λ i. e.start + i * e.interval) same)
    ]

pub ideal-rises : (e : Entry) (n m : ℕ) → HasWindows e → n ≤ m → ideal e n ≤ ideal e m
ideal-rises e n m is h = elim (ideal-apart e n m is h) [
  | inl same ↦ omega (arith, same)
  | inr later ↦ omega (arith, later)
]

-- an occurrence that is ideal before `end` is in one of the first `end` intervals
pub interval-below : (e : Entry) (n end : ℕ) → HasWindows e → ideal e n < end → n / e.grants < end
interval-below e n end is h =
    let product : n / e.grants * 1 ≤ n / e.grants * e.interval =
    mul-le (n / e.grants) 1 (n / e.grants) e.interval (omega arith) (omega (arith, is.jitter)) in
    omega arith

pub number-below : (e : Entry) (n end : ℕ) → HasWindows e → ideal e n < end → n < end * e.grants
number-below e n end is h =
    let inside = interval-below e n end is h in
    let low : n / e.grants + 1 ≤ end = omega arith in
    let product : (n / e.grants + 1) * e.grants ≤ end * e.grants =
    mul-le (n / e.grants + 1) e.grants end e.grants low (omega arith) in
    let whole : e.grants * (n / e.grants) + n % e.grants ≡ n = omega (arith, is.grants) in
    let rest : n % e.grants < e.grants = omega (arith, is.grants) in
    grind arith
