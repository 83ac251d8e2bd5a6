use Rattle.std.proofs.Common.{length, ap, sym, ◌∙◌}
use Rattle.std.proofs.lemmas.List.{length-map}
use Rattle.us_flows.specs.Clusters.{makes_requests}
use Rattle.us_flows.proofs.WordLemmas.{length-words}
use Rattle.us_flows.proofs.flows.Flow.words.Goals as goal

pub returns-then-makes_requests : goal.returns-then-makes_requests
returns-then-makes_requests c =
    let requests = sym (ap (λ flow. makes_requests flow.kind) c.self.view_is) ∙ sym c.makes_requests.ensures.value ∙
    c.if-makes_requests.true in
    let kept = c.self.inside.clusters.ok.0 ∙ sym (length-map c.self.inside.clusters.items (λ sids. sids.items)) ∙ ap (λ flow. length flow.clusters) c.self.view_is in
    record { value = c.len.ensures ∙ kept ∙ sym (length-words c.args.self.now requests) }
