-- The first of the errors that are found, record by record.
use Rattle.std.proofs.Common.{◌≡◌, ℕ, ◌+◌, ◌<◌, true, false, List, [], ◌∷◌, ◌++◌, length, Option, Some, None, IsSome, refl, ap, sym, ◌∙◌, subst, lt-ltb, arith}
use Rattle.std.specs.Prelude.{nat_lt}
use Rattle.std.specs.Option.{option_or}
use Rattle.us_requests.specs.declared.faults.TraceFault.{TraceFault}
use Rattle.us_requests.specs.declared.faults.TraceFault.TheVariants as fault
use Rattle.us_requests.specs.Records.{TakesRecord}
use Rattle.us_requests.specs.Texts.{Record, fault_from, record_checks, max_records}
use Rattle.us_slots.specs.Lists.{first_of}
use Rattle.us_findings.specs.declared.findings.Finding.{Finding}
use Rattle.us_findings.specs.declared.findings.What.{What}
use Rattle.us_findings.specs.declared.findings.What.TheVariants as what
use Rattle.us_findings.specs.Found.{behind, first_what}

-- one more is the first where there was none
pub first-added : (findings : List Finding) (f : Finding) (fault : TraceFault) → f.what ≡ what.Trace fault →
    first_what (findings ++ f ∷ []) ≡ behind (first_what findings) (Some fault)
first-added [] f fault is = ap Some is
first-added (g ∷ rest) f fault is = refl

-- and where many are told already, the first stays
pub first-kept : (findings : List Finding) (fault : Option TraceFault) → 0 < length findings →
    first_what findings ≡ behind (first_what findings) fault
first-kept [] fault some = absurd (omega arith)
first-kept (g ∷ rest) fault some = refl

pub ruleset adding = (first-added, first-kept)

-- of these records behind a header of so many columns, the first errors were found, and these records are left, the first of
-- which has this number
pub record IsPartFound (all : List Record) (columns number : ℕ) (before now : Option What) (left : List Record) : Type 0 where
  pub same : behind now (fault_from columns number left) ≡ behind before (fault_from columns 2 all)
  pub full : max_records + 1 < number → IsSome now

pub found-start : (all : List Record) (columns : ℕ) (before : Option What) →
    IsPartFound all columns 2 before before all
found-start all columns before = record { same = refl; full = λ h. absurd (omega arith) }

-- no fault changes nothing
pub none-added : (now : Option What) → now ≡ behind now None
none-added None = refl
none-added (Some x) = refl

-- a fault behind others
behind-two : (now : Option What) (f g : Option TraceFault) → behind (behind now f) g ≡ behind now (option_or f g)
behind-two (Some x) f g = refl
behind-two None None g = refl
behind-two None (Some x) g = refl

is-some : (now : Option What) (f : TraceFault) → IsSome (behind now (Some f))
is-some None f = refl
is-some (Some x) f = refl

-- a record too many has a fault
too-many : (columns number : ℕ) (fields : Record) → max_records < number →
    first_of (record_checks columns number fields) ≡ Some fault.TooLarge
too-many columns number fields many = let h : nat_lt max_records number ≡ true = lt-ltb max_records number many in rw h refl

-- behind one more record
pub found-more : (all : List Record) (columns number : ℕ) (before now after : Option What) (old left : List Record)
    (fields : Record) (f : Option TraceFault) → IsPartFound all columns number before now old →
    TakesRecord old left fields true → f ≡ first_of (record_checks columns number fields) → after ≡ behind now f →
    IsPartFound all columns (number + 1) before after left
unfolding fault_from
found-more all columns number before now after old left fields f is takes found added = record {
  same = ap (λ w. behind w later) added ∙ behind-two now f later ∙ sym (ap (behind now) at) ∙ is.same;
  full = λ many. subst IsSome (sym (added ∙ ap (behind now) (found ∙ too-many columns number fields (omega (arith, many)))))
      (is-some now fault.TooLarge);
}
  where
    later : Option TraceFault
    later = fault_from columns (number + 1) left

    at : fault_from columns number old ≡ option_or f later
    at = ap (fault_from columns number) takes ∙ ap (λ o. option_or o later) (sym found)

-- at the end of the records
pub found-end : (all : List Record) (columns number : ℕ) (before now : Option What) (old left : List Record)
    (fields : Record) → IsPartFound all columns number before now old → TakesRecord old left fields false →
    now ≡ behind before (fault_from columns 2 all)
unfolding fault_from
found-end all columns number before now old left fields is takes =
    none-added now ∙ sym (ap (λ rs. behind now (fault_from columns number rs)) takes) ∙ is.same

-- and behind the last that a trace may have
pub found-full : (all : List Record) (columns number : ℕ) (before now : Option What) (left : List Record) →
    IsPartFound all columns number before now left → max_records + 1 < number →
    now ≡ behind before (fault_from columns 2 all)
found-full all columns number before now left is many =
    kept now (fault_from columns number left) (is.full many) ∙ is.same
  where
    kept : (now : Option What) (f : Option TraceFault) → IsSome now → now ≡ behind now f
    kept None f some = absurd cc
    kept (Some x) f some = refl

pub ruleset finding = (found-start, none-added, found-more, found-end, found-full)
