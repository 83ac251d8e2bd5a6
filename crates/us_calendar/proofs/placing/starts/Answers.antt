use Rattle.std.proofs.Common.{ap, arith}
use Rattle.us_calendar.proofs.SpotLemmas.{window_in, window_none, window_past}
use Rattle.us_calendar.proofs.placing.starts.Goals as goal

pub returns-then-from-to-clause-some : goal.returns-then-from-to-clause-some
returns-then-from-to-clause-some c = (
  c.if-from-to.true,
  omega (arith, c.min-to.ensures, c.args.span.now.lasts, c.args.span.now.known.len),
  window_in c.args.span.now.pace c.args.span.now.round c.args.span.now.begin c.args.span.now.minislot
      c.args.entry.now c.args.next c.requires.timed c.args.span.now.begins c.args.span.now.minislots
      c.args.span.now.len c.entry.inside.jitter c.saturating_sub-behind.result c.div_ceil-from.result c.min-to.result
      c.args.span.now.lasts (ap (λ e. e.jitter) c.entry.view_is) (omega (arith, c.if-last-span.false))
      c.saturating_sub-behind.ensures c.div_ceil-from.ensures c.min-to.ensures,
)

pub returns-else-from-to-clause-none : goal.returns-else-from-to-clause-none
returns-else-from-to-clause-none c =
    window_none c.args.span.now.pace c.args.span.now.round c.args.span.now.begin c.args.span.now.minislot c.args.entry.now
    c.args.next c.requires.timed c.args.span.now.begins c.args.span.now.minislots c.args.span.now.len
    c.entry.inside.jitter c.saturating_sub-behind.result c.div_ceil-from.result c.min-to.result c.args.span.now.lasts
    (ap (λ e. e.jitter) c.entry.view_is) (omega (arith, c.if-last-span.false)) c.saturating_sub-behind.ensures
    c.div_ceil-from.ensures c.min-to.ensures (omega (arith, c.if-from-to.false))

pub returns-then-last-span-clause-none : goal.returns-then-last-span-clause-none
returns-then-last-span-clause-none c = λ at _.
    window_past c.args.span.now.pace c.args.span.now.round c.args.span.now.begin c.args.entry.now c.args.next
    c.entry.inside.jitter c.requires.timed c.args.span.now.begins (ap (λ e. e.jitter) c.entry.view_is) c.if-last-span.true at
