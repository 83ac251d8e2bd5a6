-- The text of a trace, record by record: what is left gives what all of it gives.
use Rattle.std.proofs.Common.{◌≡◌, ℕ, ◌+◌, ◌≤◌, Bool, true, false, List, [], ◌∷◌, ◌++◌, length, map, Option, Some, None, Vec, Global, refl, ap, sym, ◌∙◌, append_assoc, append-nil, arith}
use Rattle.std.specs.Prelude.{Result, Ok, Err, IsErrAnd, nat_lt, not, ◌==◌, if◌then◌else◌}
use Rattle.std.specs.List.{AllByRecursion}
use Rattle.std.specs.Option.{option_or}
use Rattle.std.proofs.lemmas.List.{length-append}
use Rattle.us_requests.specs.declared.faults.TraceFault.{TraceFault}
use Rattle.us_requests.specs.declared.faults.TraceFault.TheVariants as fault
use Rattle.us_requests.specs.Asks.{Request}
use Rattle.us_requests.specs.Records.{TakesRecord}
use Rattle.us_slots.specs.Lists.{first_of}
use Rattle.us_requests.specs.Texts.{max_records, are_numbers, request_of, record_checks, fault_from, Record}
use Rattle.us_requests.specs.Readings.{AreRequests, Tells, IsFirst}

-- of these records behind a header of so many columns, such requests were read and these records are left, the first of
-- which has this number
pub record IsPartRead (all : List Record) (columns number : ℕ) (requests : List Request) (left : List Record) : Type 0 where
  pub first : fault_from columns number left ≡ fault_from columns 2 all
  pub told : requests ++ map request_of left ≡ map request_of all
  pub count : length requests + 2 ≡ number
  pub small : AllByRecursion (λ q. q.units ≤ 65535) requests

pub requests-start : (all : List Record) (columns : ℕ) → IsPartRead all columns 2 [] all
requests-start all columns = record { first = refl; told = refl; count = refl; small = tt }

small-more : (requests : List Request) (q : Request) → AllByRecursion (λ q. q.units ≤ 65535) requests →
    q.units ≤ 65535 →
    AllByRecursion (λ q. q.units ≤ 65535) (requests ++ q ∷ [])
small-more [] q all small = (small, tt)
small-more (r ∷ rest) q all small = (all.0, small-more rest q all.1 small)

-- a record in its place
at-record : (columns number : ℕ) (old left : List Record) (fields : Record) (f : Option TraceFault) →
    TakesRecord old left fields true → first_of (record_checks columns number fields) ≡ f →
    fault_from columns number old ≡ option_or f (fault_from columns (number + 1) left)
unfolding fault_from
at-record columns number old left fields f takes found =
    ap (λ rs. fault_from columns number rs) takes ∙ ap (λ o. option_or o (fault_from columns (number + 1) left)) found

pub record-read : (all : List Record) (columns number : ℕ) (requests : List Request) (old left : List Record)
    (fields : Record) (q : Request) →
    IsPartRead all columns number requests old → TakesRecord old left fields true →
    first_of (record_checks columns number fields) ≡ None → q ≡ request_of fields → q.units ≤ 65535 →
    IsPartRead all columns (number + 1) (requests ++ q ∷ []) left
record-read all columns number requests old left fields q is takes sound told small = record {
  first = sym (at-record columns number old left fields None takes sound) ∙ is.first;
  told = append_assoc requests (q ∷ []) (map request_of left) ∙ ap (λ q. requests ++ q ∷ map request_of left) told ∙
      ap (λ rs. requests ++ map request_of rs) (sym takes) ∙ is.told;
  count = omega (arith, length-append requests (q ∷ []), is.count);
  small = small-more requests q is.small small;
}

-- a record's fault is never that of the source
not-read : (a b c : Bool) (number : ℕ) (f : TraceFault) →
    (if a then Some fault.TooLarge else if b then Some (fault.Fields number) else if c then Some
    (fault.Number number) else None) ≡ Some f →
    f ≡ fault.Read → ⊥
not-read true b c number f found is = cc
not-read false true c number f found is = cc
not-read false false true number f found is = cc
not-read false false false number f found is = cc

is-first : (first : Option TraceFault) (f : TraceFault) → first ≡ Some f → (f ≡ fault.Read → ⊥) → IsFirst first f
is-first first fault.Header found other = found
is-first first (fault.Fields n) found other = found
is-first first (fault.Number n) found other = found
is-first first fault.TooLarge found other = found
is-first first fault.Read found other = other refl
is-first first fault.NoMemory found other = tt

pub record-fault : (all : List Record) (columns number : ℕ) (requests : List Request) (old left : List Record)
    (fields : Record) (f : TraceFault) →
    IsPartRead all columns number requests old → TakesRecord old left fields true →
    first_of (record_checks columns number fields) ≡ Some f → IsFirst (fault_from columns 2 all) f
record-fault all columns number requests old left fields f is takes found =
    is-first (fault_from columns 2 all) f (sym is.first ∙ at-record columns number old left fields (Some f) takes found)
    (not-read (nat_lt max_records number) (not (length fields == columns)) (not (are_numbers fields)) number f found)

pub too-many : (all : List Record) (columns : ℕ) (requests : List Request) (old left : List Record) (fields : Record) →
    IsPartRead all columns (max_records + 1) requests old → TakesRecord old left fields true →
    fault_from columns 2 all ≡ Some fault.TooLarge
too-many all columns requests old left fields is takes =
    sym is.first ∙ at-record columns (max_records + 1) old left fields (Some fault.TooLarge) takes refl

pub all-read : (all : List Record) (columns number : ℕ) (requests : List Request) (old left : List Record)
    (fields : Record) → IsPartRead all columns number requests old → TakesRecord old left fields false →
    number ≤ max_records + 1 →
    (fault_from columns 2 all ≡ None) × (requests ≡ map request_of all) × AreRequests requests
unfolding fault_from
all-read all columns number requests old left fields is takes few = (
  sym is.first ∙ ap (λ rs. fault_from columns number rs) takes,
  sym (append-nil requests) ∙ ap (λ rs. requests ++ map request_of rs) (sym takes) ∙ is.told,
  record { few = omega (arith, is.count, few); small = is.small },
)

pub ruleset telling = (requests-start, record-read, record-fault, too-many, all-read)

-- a fault that is handed on
pub passed : (r : Result (Vec Request Global) TraceFault) (f : TraceFault) (first : Option TraceFault)
    (told : List Request) →
    IsErrAnd r (λ given. given ≡ f) → IsFirst first f → Tells first told r
passed (Ok v) f first told given is = absurd given
passed (Err g) f first told given is = rw given is
