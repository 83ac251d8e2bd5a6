use Rattle.std.proofs.Common.{◌∙◌, map, ap}
use Rattle.us_calendar.specs.Settling.{heard}
use Rattle.us_calendar.proofs.RunLaws.{hear_kept}
use Rattle.us_calendar.proofs.calendars.Calendar.hear.Goals as goal

pub invariant_of-self : goal.invariant_of-self
invariant_of-self c =
    hear_kept (record {
      pace = c.self.inside.pace;
      next_round = c.self.inside.agenda.round;
      states = c.self.inside.states.items;
    }) c.args.cut.now c.hear_all.new.states c.self.inside.states.len c.self.inside.heard.from c.self.inside.heard.to
    c.self.inside.agenda c.self.invariant
    (c.hear_all.ensures.states ∙ ap (map (heard c.args.cut.now)) c.deref_mut.ensures.value)
    c.hear_all.ensures.known c.self.inside.states.ok.0
