use Rattle.std.proofs.Common.{◌≡◌, ◌≤◌, length, subst, ◌∙◌}
use Rattle.us_codec.specs.Bodies.{IsMapBody}
use Rattle.us_channel.proofs.MapLemmas.{few_bytes}
use Rattle.us_output.specs.Leftovers.{AreDealt}
use Rattle.us_output.specs.Outputs.{built_map, pendings_on}
use Rattle.us_output.proofs.mapping.built_map.Goals as goal

pub returns-clause-value : goal.returns-clause-value
unfolding AreDealt
returns-clause-value c = λ pendings dealt.
    let sids : c.on-sids.result.now ≡ pendings_on c.args.part.now.channel.id pendings =
    rw c.channel.ensures at c.on-sids.ensures.value ∙ dealt c.args.part.now.channel.id in
    rw (c.channel-2.ensures, c.board.ensures, sids) at c.in_ok-map.ensures.value

pub returns-clause-limits : goal.returns-clause-limits
unfolding AreDealt
returns-clause-limits c = λ pendings dealt.
    let b = c.args.part.now in
    let sids : c.on-sids.result.now ≡ pendings_on b.channel.id pendings =
    rw c.channel.ensures at c.on-sids.ensures.value ∙ dealt b.channel.id in
    let is : c.in_ok-map.map ≡ built_map c.args.config.now c.args.round pendings b =
    rw (c.channel-2.ensures, c.board.ensures, sids) at c.in_ok-map.ensures.value in
    let body : IsMapBody (built_map c.args.config.now c.args.round pendings b) = subst IsMapBody is c.in_ok-map.ensures.grammar in
    record {
      assignments = rw c.board.ensures at c.in_ok-map.ensures.standing;
      pendings = subst (λ these. length these ≤ 38) sids c.on-sids.ensures.few;
      elements = body.few;
      bytes = few_bytes (built_map c.args.config.now c.args.round pendings b) body;
    }
