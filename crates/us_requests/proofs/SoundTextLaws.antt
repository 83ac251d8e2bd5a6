-- A text without a fault tells no more requests than a trace may have, each of a number of units that a request can tell.
use Rattle.std.proofs.Common.{◌≡◌, ℕ, ◌+◌, ◌≤◌, Bool, true, false, List, [], ◌∷◌, length, map, drop, Option, Some, None, refl, inl, inr, arith}
use Rattle.std.specs.Prelude.{not, ◌==◌, nat_le, nat_lt, ◌&&◌, ◌||◌}
use Rattle.std.specs.List.{AllByRecursion, list_all}
use Rattle.std.specs.Option.{option_or}
use Rattle.std.proofs.lemmas.Bool.{cases_Bool, and_parts, leb-true, ltb-false}
use Rattle.std.proofs.lemmas.List.{length-map}
use Rattle.us_requests.specs.declared.faults.TraceFault.{TraceFault}
use Rattle.us_requests.specs.declared.faults.TraceFault.TheVariants as fault
use Rattle.us_slots.specs.Lists.{first_of}
use Rattle.us_requests.specs.Texts.{Record, records_of, max_records, field_in, number_of, is_digit, is_number, is_kind, is_header, are_four_numbers, are_numbers, request_of, record_checks, fault_from, records_fault, trace_fault, requests_of}
use Rattle.us_requests.specs.Readings.{AreRequests}

-- no check of three finds a fault
none_finds : (a b c : Bool) (x y z : TraceFault) → first_of ((a, x) ∷ (b, y) ∷ (c, z) ∷ []) ≡ None →
    (a ≡ false) × (b ≡ false) × (c ≡ false)
none_finds true b c x y z none = let never : Some x ≡ None = none in absurd cc
none_finds false true c x y z none = let never : Some y ≡ None = none in absurd cc
none_finds false false true x y z none = let never : Some z ≡ None = none in absurd cc
none_finds false false false x y z none = (refl, refl, refl)

neither : (first later : Option TraceFault) → option_or first later ≡ None → (first ≡ None) × (later ≡ None)
neither None later none = (refl, none)
neither (Some f) later none = let never : Some f ≡ None = none in absurd cc

not_false : (b : Bool) → not b ≡ false → b ≡ true
not_false true is = refl
not_false false is = let never : true ≡ false = is in absurd cc

-- the units of a record whose numbers are right
units_small : (fields : Record) → are_numbers fields ≡ true → number_of (field_in fields 3) ≤ 65535
unfolding are_four_numbers
units_small fields right =
    let four = (and_parts (are_four_numbers fields)
    (length fields == 4 || is_kind (number_of (field_in fields 3)) (field_in fields 4)) right).0 in
    let behind_tick = (and_parts (is_number 4294967295 (field_in fields 0)) (is_number 255 (field_in fields 1)
    && (is_number 16383 (field_in fields 2) && is_number 65535 (field_in fields 3))) four).1 in
    let behind_channel = (and_parts (is_number 255 (field_in fields 1))
    (is_number 16383 (field_in fields 2) && is_number 65535 (field_in fields 3)) behind_tick).1 in
    let units = (and_parts (is_number 16383 (field_in fields 2)) (is_number 65535 (field_in fields 3)) behind_channel).1 in
    let digits = (and_parts
    (nat_le 1 (length (field_in fields 3)) && nat_le (length (field_in fields 3)) 10)
    (list_all is_digit (field_in fields 3) && nat_le (number_of (field_in fields 3)) 65535) units).1 in
    leb-true (number_of (field_in fields 3)) 65535
    (and_parts (list_all is_digit (field_in fields 3)) (nat_le (number_of (field_in fields 3)) 65535) digits).1

-- records behind the header, the first of which has this number
sound_from : (columns number : ℕ) (rest : List Record) → number ≤ max_records + 1 → fault_from columns number rest ≡ None →
    (number + length rest ≤ max_records + 1) × AllByRecursion (λ q. q.units ≤ 65535) (map request_of rest)
unfolding fault_from
sound_from columns number [] start none = (omega (arith, start), tt)
sound_from columns number (fields ∷ rest) start none =
    let both = neither (first_of (record_checks columns number fields)) (fault_from columns (number + 1) rest) none in
    let checks = none_finds (nat_lt max_records number) (not (length fields == columns)) (not (are_numbers fields))
    fault.TooLarge (fault.Fields number) (fault.Number number) both.0 in
    let low : number ≤ max_records = ltb-false max_records number checks.0 in
    let more = sound_from columns (number + 1) rest (omega (arith, low)) both.1 in
    (omega (arith, more.0), (units_small fields (not_false (are_numbers fields) checks.2), more.1))

records_sound : (records : List Record) → records_fault records ≡ None → AreRequests (map request_of (drop 1 records))
records_sound [] none = let never : Some fault.Header ≡ None = none in absurd cc
records_sound (header ∷ rest) none = elim (cases_Bool (is_header header)) [
  | inl is ↦
      let from : fault_from (length header) 2 rest ≡ None = rw is at none in
      let all = sound_from (length header) 2 rest (omega arith) from in
      let many : length (map request_of rest) ≡ length rest = length-map rest request_of in
      record { few = omega (arith, all.0, many); small = all.1 }
  | inr other ↦ let never : Some fault.Header ≡ None = rw other at none in absurd cc
]

pub sound_text : (text : List ℕ) → trace_fault text ≡ None → AreRequests (requests_of text)
unfolding trace_fault requests_of
sound_text text none = records_sound (records_of text) none
