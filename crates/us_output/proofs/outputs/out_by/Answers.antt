use Rattle.std.proofs.Common.{refl, ◌∙◌}
use Rattle.us_output.specs.Outputs.{out_of}
use Rattle.us_output.proofs.outputs.out_by.Goals as goal

pub returns-clause-out : goal.returns-clause-out
unfolding out_of
returns-clause-out c =
    c.new.ensures ∙ rw (c.in_ok-maps.ensures.value, c.in_ok-rows.ensures) refl
