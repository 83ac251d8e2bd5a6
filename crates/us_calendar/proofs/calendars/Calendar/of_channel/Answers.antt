use Rattle.std.proofs.Common.{◌*◌, ◌≤◌, map, ap, subst, ◌∙◌, arith}
use Rattle.us_slots.specs.Times.{minislot_ticks}
use Rattle.us_calendar.specs.Settling.{opening_state}
use Rattle.us_calendar.specs.Kept.{AreHeard}
use Rattle.us_calendar.proofs.RunLaws.{opening_kept}
use Rattle.us_calendar.proofs.calendars.Calendar.of_channel.Goals as goal

pub invariant_of-result : goal.invariant_of-result
invariant_of-result c =
    let time = c.time.ensures.value in
    let ticks : c.map_len.result * minislot_ticks c.time.result.now ≤ 4096 =
    omega (arith, c.map_len.ensures.ticks, ap (λ t. c.map_len.result * minislot_ticks t) time) in
    opening_kept (record { time = c.time.result.now; len = c.map_len.result }) c.in_ok-states.states.items
    c.in_ok-entries.entries.items c.in_ok-states.agenda c.of-heard.result.from
    c.of-heard.result.to c.map_len.ensures.some ticks
    (c.in_ok-states.ensures.states ∙ ap (map opening_state) c.deref.ensures.value) c.in_ok-entries.ensures.few
    c.in_ok-states.ensures.known
    (subst (λ states. AreHeard states c.of-heard.result.from c.of-heard.result.to) c.deref-2.ensures.value c.of-heard.ensures)
    (rw c.new.ensures.pace at c.in_ok-states.ensures.agenda)
