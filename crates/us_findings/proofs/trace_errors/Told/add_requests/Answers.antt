use Rattle.std.proofs.Common.{Some, None, sym}
use Rattle.us_findings.proofs.FoundLemmas.{found-more, found-end, none-added}
use Rattle.us_findings.proofs.trace_errors.Told.add_requests.Goals as goal
use Rattle.us_findings.proofs.trace_errors.Told.add_requests.Goals.{in-Ok, in-Err+in_ok-add-in-Err}

pub returns-then-not-branch : goal.returns-then-not-branch
returns-then-not-branch g c =
    let l = c.loop-number in
    let ended = rw c.if-not-branch.true at c.in_ok-read.ensures in
    found-end _ _ l.number _ _ l.rows.left c.read.new.self.left c.read.new.self.fields l.invariant ended

pub loop-number-preserved : goal.loop-number-preserved
loop-number-preserved g c =
    let l = c.loop-number in
    let took = rw c.if-not-branch.false at c.in_ok-read.ensures in
    let fault = rw c.fields.ensures at c.request_of.ensures.fault in
    let none = rw c.fields.ensures at c.request_of.ensures.none in
    elim c.match-request_of.branch [
      | in-Ok w ↦ rw w.self-is
          (found-more _ _ l.number _ _ _ l.rows.left c.read.new.self.left c.read.new.self.fields None l.invariant took
          (sym (rw w.in-Ok.is at none)) (none-added _))
      | in-Err+in_ok-add-in-Err w ↦ rw w.self-is
          (found-more _ _ l.number _ _ _ l.rows.left c.read.new.self.left c.read.new.self.fields (Some w.in-Err.fault) l.invariant took
          (sym (rw w.in-Err.is at fault)) w.in_ok-add-in-Err.ensures)
    ]
