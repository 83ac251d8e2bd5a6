-- Fields: the one at a place, as `csv` finds it, and none behind the last.
use Rattle.std.proofs.Common.{◌≡◌, ℕ, zero, suc, ◌≤◌, List, [], ◌∷◌, length, Option, Some, None, ap, refl, arith}
use Rattle.csv.specs.Records.{field_at}
use Rattle.us_requests.specs.declared.requests.Kind.TheVariants as kinds
use Rattle.us_requests.specs.Texts.{field_in, kind_of, number_of, number_from, Record}

abbrev pub or_nothing : Option (List ℕ) → List ℕ
or_nothing None = []
or_nothing (Some bytes) = bytes

pub field-found : (fields : Record) (place : ℕ) → field_in fields place ≡ or_nothing (field_at fields place)
unfolding field_at
field-found [] place = refl
field-found (field ∷ fields) zero = refl
field-found (field ∷ fields) (suc place) = field-found fields place

pub ruleset fielded = (field-found)

field-past : (fields : Record) (place : ℕ) → length fields ≤ place → field_in fields place ≡ []
field-past [] place past = refl
field-past (field ∷ fields) zero past = absurd (omega (arith, past))
field-past (field ∷ fields) (suc place) past = field-past fields place (omega (arith, past))

-- four fields tell a request
pub kind-of-four : (fields : Record) → length fields ≡ 4 → kind_of (number_of (field_in fields 4)) ≡ kinds.Request
unfolding number_from
kind-of-four fields four = ap (λ field. kind_of (number_of field)) (field-past fields 4 (omega (arith, four)))

pub ruleset kinded = (kind-of-four)
