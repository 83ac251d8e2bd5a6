use Rattle.std.proofs.Common.{◌∙◌, arith}
use Rattle.std.proofs.lemmas.List.{length-set}
use Rattle.us_output.proofs.PendingLemmas.{none_dealt, one_cleared}
use Rattle.us_output.proofs.dealing.clear.Goals as goal

pub loop-at-preserved : goal.loop-at-preserved
loop-at-preserved c =
    let lists = c.loop-at.lists in
    record {
      empty = rw c.clear.ensures
          (one_cleared lists c.loop-at.at (omega (arith, c.loop-at-test.true)) c.loop-at.invariant.empty);
      len = length-set lists c.loop-at.at _ ∙ c.loop-at.invariant.len;
    }

pub returns-clause-dealt : goal.returns-clause-dealt
returns-clause-dealt c = none_dealt c.loop-at.lists (λ id inside. c.loop-at.invariant.empty id (omega (arith, inside)))
