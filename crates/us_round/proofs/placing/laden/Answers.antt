use Rattle.std.proofs.Common.{◌≡◌, [], length, sym, ap, subst, ◌∙◌, rules, arith}
use Rattle.std.specs.Prelude.{slice_index_or}
use Rattle.std.specs.Vec.Iter.{into_iter_items}
use Rattle.us_round.specs.Placing.{CanPlace, placed}
use Rattle.us_round.proofs.PlacingLemmas.{none-made, next-made, made-ready}
use Rattle.us_round.proofs.placing.laden.Goals as goal

pub loop-channel-init : goal.loop-channel-init
loop-channel-init c =
    let rest = c.into_iter-rest.ensures.rest in
    let made = c.in_ok-all.ensures.items in
    rw (rest, made) (search rules, none-made _ _ _ _ c.args.channels.items, search rules)

pub loop-channel-preserved : goal.loop-channel-preserved
loop-channel-preserved c =
    let at : c.in_ok-claims.claims.items ≡ slice_index_or c.args.work.now.planner.now.claims (length c.loop-channel.all.items) [] =
    c.in_ok-claims.ensures ∙ c.claims.ensures ∙
    ap (λ n. slice_index_or c.args.work.now.planner.now.claims n []) (c.len-in-Some.ensures ∙ c.loop-channel.all.ok.0) in
    let shorter = ap length c.in-Some.ensures.items in (
      omega (arith, shorter, c.in-Some.ensures.len, c.loop-channel.invariant.0),
      next-made _ _ _ _ c.loop-channel.all.items c.push_reserved.new.self.items (c.in-Some.channel, c.in_ok-claims.claims)
          c.in-Some.channel _ (into_iter_items c.next.new.self) c.args.channels.items c.push_reserved.ensures.items
          c.in-Some.ensures.items c.loop-channel.invariant.1 (ap (placed c.in-Some.channel) at)
          (λ can. subst (CanPlace c.in-Some.channel) (sym at) can),
      omega (
        arith,
        shorter,
        c.push_reserved.ensures.len,
        c.push_reserved.ensures.capacity,
        c.loop-channel.invariant.2,
      ),
    )

pub returns-clause-ready : goal.returns-clause-ready
returns-clause-ready c = made-ready _ _ _ _ c.loop-channel.all.items _ _ c.loop-channel.invariant.1
