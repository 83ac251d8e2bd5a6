use Rattle.std.proofs.Common.{ap, sym, ◌∙◌}
use Rattle.std.specs.Prelude.{option_and_then}
use Rattle.us_flows.specs.Clusters.{turns_of}
use Rattle.us_output.specs.Outputs.{first_sid}
use Rattle.us_round.proofs.AskingLemmas.{no_turn, turn_found}
use Rattle.us_round.proofs.cores.pending.first_sid_at.Goals as goal

pub returns-in-Some : goal.returns-in-Some
returns-in-Some c =
    let t = c.args.config.now in
    let h = c.in-Some.ensures.lookup in
    c.first_sid_of.ensures ∙ ap (option_and_then first_sid) (sym (turn_found t c.turns.result.now (turns_of t) c.args.place
    c.in-Some.turn.now c.turns.ensures.value h.3.0 h.1))

pub returns-in-None : goal.returns-in-None
returns-in-None c =
    let t = c.args.config.now in
    let h = c.in-None.ensures.lookup in
    ap (option_and_then first_sid) (sym (no_turn t c.turns.result.now (turns_of t) c.args.place c.turns.ensures.value h.3))
