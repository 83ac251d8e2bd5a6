use Rattle.std.proofs.Common.{[], slice_index_or, ap, sym, subst, ◌∙◌}
use Rattle.std.specs.List.{AllByRecursion}
use Rattle.us_split.specs.Claims.{IsClaimOn}
use Rattle.us_round.specs.Parts.{built_by}
use Rattle.us_round.proofs.parts.Parts.build.Goals as goal

pub build-requires-clause-known : goal.build-requires-clause-known
build-requires-clause-known g c = (_, c.requires.hands)

pub build-requires-clause-claims : goal.build-requires-clause-claims
build-requires-clause-claims g c =
    λ place b at entered. subst (λ plan. AllByRecursion (IsClaimOn b.channel) (slice_index_or plan place []))
    (sym c.planner.ensures) (c.requires.claims place b at)

pub returns-clause-channels : goal.returns-clause-channels
returns-clause-channels g c =
    c.in_ok-channels.ensures.value ∙ ap (λ plan. built_by plan c.args.self.channels.items) c.planner.ensures
