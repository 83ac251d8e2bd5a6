use Rattle.std.proofs.Common.{◌*◌, arith}
use Rattle.us_slots.proofs.WindowLemmas.{window_ends}
use Rattle.us_slots.proofs.windows.window.Goals as goal

pub returns-then-first-last-clause-some : goal.returns-then-first-last-clause-some
returns-then-first-last-clause-some c =
    window_ends c.args.time.now c.args.start_q c.args.jitter_q (25 * c.from-minislot_q.result) c.div_ceil-first.result (omega arith) c.div_ceil-first.ensures c.if-first-last.true
