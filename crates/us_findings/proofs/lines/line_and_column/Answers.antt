use Rattle.std.proofs.Common.{refl, ne_eqb, arith}
use Rattle.us_findings.proofs.LineLemmas.{behind-line, behind-byte, same-column}
use Rattle.us_findings.proofs.lines.line_and_column.Goals as goal
use Rattle.us_findings.proofs.lines.line_and_column.Goals.{then-byte-eq10, else-byte-eq10+then-byte-ne2, else-byte-eq10+else-byte-ne2}

pub loop-byte-preserved : goal.loop-byte-preserved
loop-byte-preserved c =
    let l = c.loop-byte in
    elim c.if-byte-eq10.branch [
      | then-byte-eq10 w ↦ rw (w.line-is, w.column-is)
          (behind-line _ _ _ _ c.loop-byte-test.true (rw w.if-byte-eq10.true refl) l.invariant)
      | else-byte-eq10+then-byte-ne2 w ↦ rw (w.line-is, w.column-is)
          (behind-byte _ _ _ _ 1 c.loop-byte-test.true (ne_eqb _ _ w.if-byte-eq10.false) (rw (ne_eqb _ _ w.if-byte-ne2.true) refl)
          (omega arith) l.invariant)
      | else-byte-eq10+else-byte-ne2 w ↦ rw (w.line-is, w.column-is)
          (same-column _ _ _ _ (behind-byte _ _ _ _ 0 c.loop-byte-test.true (ne_eqb _ _ w.if-byte-eq10.false) (rw w.if-byte-ne2.false refl)
          (omega arith) l.invariant))
    ]
