use Rattle.std.proofs.Common.{is_some, ap, ◌∙◌}
use Rattle.std.specs.Map.{lookup, values_of}
use Rattle.us_flows.specs.Checks.{is_taken, same_sid}
use Rattle.us_flows.proofs.IndexLemmas.{taken-asked}
use Rattle.us_flows.proofs.listed.flows.Flows.has_sid.Goals as goal

pub returns : goal.returns
returns c =
    let asked = ap (λ index. is_some (lookup (same_sid (c.args.channel, c.args.sid)) index)) c.self.invariant.sids in
    c.contains_key.ensures ∙ asked ∙ taken-asked c.args.channel c.args.sid (values_of c.self.inside.map.entries) ∙ ap
    (λ flows. is_taken flows (c.args.channel, c.args.sid)) c.self.view_is
