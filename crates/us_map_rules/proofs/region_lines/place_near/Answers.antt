use Rattle.std.proofs.Common.{◌≡◌, Some, sym, subst, ◌∙◌}
use Rattle.us_reports.specs.Order.{place_of}
use Rattle.us_map_rules.proofs.TableLemmas.{place_here}
use Rattle.us_map_rules.proofs.region_lines.place_near.Goals as goal

pub returns-then-from-id-clause-value : goal.returns-then-from-id-clause-value
returns-then-from-id-clause-value c =
    let channels = c.args.channels.now in
    let here = c.index-channels-near.result in
    subst (λ id. Some c.args.near ≡ place_of channels id)
    (sym c.from.ensures ∙ c.if-from-id.true)
    (sym (place_here channels c.requires c.args.near here c.if-near-channels.true))
