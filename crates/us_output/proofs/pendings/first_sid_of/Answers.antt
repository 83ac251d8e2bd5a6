use Rattle.us_output.proofs.PendingLemmas.{flow_found, known_sids}
use Rattle.us_output.proofs.pendings.first_sid_of.Goals as goal

pub first_sid-requires : goal.first_sid-requires
first_sid-requires c =
    let h = c.in-Some.ensures.lookup in
    let found = flow_found c.flows.result.now c.args.config.now.flows c.args.turn.now.flow c.in-Some.flow.now
    c.flows.ensures.value h.3.0 h.1 in
    known_sids c.args.config.now c.args.turn.now.flow c.in-Some.flow.now c.flows.ensures.lawful found
