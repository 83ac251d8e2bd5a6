use Rattle.std.proofs.Common.{◌≡◌, ◌==◌, [], ap, sym, ◌∙◌, inl, inr, zip}
use Rattle.std.specs.Prelude.{◌&&◌}
use Rattle.std.specs.List.{list_any}
use Rattle.us_flows.proofs.SidLemmas.{zip-none}
use Rattle.us_credit_rules.proofs.repeats.has_sid.Goals as goal

none_left : (c : goal.In-None) → zip c.loop-id.id-iterator.a.rest.now c.loop-id.id-iterator.b.rest.now ≡ []
none_left c = zip-none _ _ (elim c.in-None.ensures.steps [
  | inl a ↦ inl a.1.0
  | inr b ↦ inr b.1.0
])

pub returns : goal.returns
returns c =
    sym (ap (list_any (λ pair. (pair.0 == c.args.channel) && (pair.1 == c.args.sid))) (none_left c)) ∙ c.loop-id.invariant
