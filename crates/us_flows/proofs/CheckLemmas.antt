-- No first fault: no check finds one.
use Rattle.std.proofs.Common.{◌≡◌, false, List, [], ◌∷◌, Option, Some, None, refl, inl, inr}
use Rattle.std.proofs.lemmas.Bool.{cases_Bool}
use Rattle.std.specs.Option.{option_or}
use Rattle.us_flows.specs.declared.faults.ConfigFault.{ConfigFault}
use Rattle.us_slots.specs.Lists.{first_of}
use Rattle.us_flows.specs.Checks.{Check}

pub or_else_none : (a b : Option ConfigFault) → option_or a b ≡ None → (a ≡ None) × (b ≡ None)
or_else_none None b h = (refl, h)
or_else_none (Some f) b h = let no : Some f ≡ None = h in cc

abbrev pub NoneFinds : List Check → Type 0
NoneFinds [] = Unit {0}
NoneFinds (check ∷ checks) = (check.0 ≡ false) × NoneFinds checks

pub none_finds : (checks : List Check) → first_of checks ≡ None → NoneFinds checks
none_finds [] h = tt
none_finds (check ∷ checks) h = elim (cases_Bool check.0) [
  | inl t ↦ let no : Some check.1 ≡ None = rw t at h in cc
  | inr f ↦ (f, none_finds checks (rw f at h))
]
