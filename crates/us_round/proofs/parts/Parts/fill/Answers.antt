use Rattle.std.proofs.Common.{ap₂, map, sym, subst, ◌∙◌}
use Rattle.std.specs.List.{AllByRecursion}
use Rattle.us_channel.specs.Channels.{fill, ungranted}
use Rattle.us_round.specs.Cores.{IsReady}
use Rattle.us_round.proofs.PhaseLemmas.{accepted, values_are}
use Rattle.us_round.proofs.StageLemmas.{parts_ready}
use Rattle.us_round.proofs.parts.Parts.fill.Goals as goal

pub fill-requires-clause-known : goal.fill-requires-clause-known
fill-requires-clause-known g c = rw c.config.ensures.value c.requires.hands

pub fill-requires-clause-ready : goal.fill-requires-clause-ready
fill-requires-clause-ready g c =
    accepted _ (IsReady c.config.result.now c.round.result) c.args.self.channels.items
    (subst (λ t. AllByRecursion (IsReady t c.round.result) c.args.self.channels.items) (sym c.config.ensures.value)
    (subst (λ n. AllByRecursion (IsReady c.args.self.core.tables n) c.args.self.channels.items) (sym c.round.ensures)
    (parts_ready c.args.self.core c.args.self.channels.items c.requires.known c.requires.time)))

pub returns-clause-channels : goal.returns-clause-channels
returns-clause-channels g c =
    c.in_ok-channels.ensures.value
    ∙ values_are (λ b. ungranted (fill c.config.result.now c.round.result b.channel b.calendar)) 0 c.args.self.channels.items
    ∙ ap₂ (λ t n. map (λ b. ungranted (fill t n b.channel b.calendar)) c.args.self.channels.items)
    c.config.ensures.value c.round.ensures
