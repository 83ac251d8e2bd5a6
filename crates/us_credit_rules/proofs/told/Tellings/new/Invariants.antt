use Rattle.std.proofs.Common.{◌≡◌, replicate}
use Rattle.us_credit_rules.specs.declared.told.Told.TheVariants.{Nothing}
use Rattle.us_credit_rules.proofs.told.Tellings.new.Given as goal

abbrev pub invariant-loop-thing : goal.invariant-loop-thing
invariant-loop-thing g l = l.told.items ≡ replicate l._thing Nothing
