use Rattle.std.proofs.Common.{length, inl, inr, sym, ◌∙◌}
use Rattle.std.proofs.lemmas.Bool.{eqb-true}
use Rattle.us_output.proofs.PendingLemmas.{no_pair}
use Rattle.us_output.proofs.pendings.sid_of.Goals.{then-is_empty-via-then-is_empty, then-is_empty-via-else-is_empty+then-is_empty-2}
use Rattle.us_output.proofs.pendings.sid_of.Goals as goal

pub returns-then-is_empty : goal.returns-then-is_empty
returns-then-is_empty c =
    sym (no_pair c.args.channels.now c.args.sids.now (elim c.then-is_empty.branch [
      | then-is_empty-via-then-is_empty w ↦
          inl (eqb-true (length c.args.channels.now) 0 (sym c.is_empty.ensures ∙ w.if-is_empty.true))
      | then-is_empty-via-else-is_empty+then-is_empty-2 w ↦
          inr (eqb-true (length c.args.sids.now) 0 (sym w.is_empty-else-is_empty.ensures ∙ w.if-is_empty-2.true))
    ]))
