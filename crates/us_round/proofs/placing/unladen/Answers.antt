use Rattle.std.proofs.Common.{◌++◌, length, ap, ◌∙◌, rules, arith}
use Rattle.std.specs.Vec.Iter.{into_iter_items}
use Rattle.us_round.proofs.PlacingLemmas.{firsts_of, next-first}
use Rattle.us_round.proofs.placing.unladen.Goals as goal

pub loop-channel-init : goal.loop-channel-init
loop-channel-init c =
    let rest = c.into_iter-rest.ensures.rest in
    let made = c.in_ok-channels.ensures.items in (
      search rules,
      ap (λ l. l ++ firsts_of (into_iter_items c.into_iter-rest.result)) made ∙ ap (λ l. firsts_of l) rest,
      search rules,
    )

pub loop-channel-preserved : goal.loop-channel-preserved
loop-channel-preserved c =
    let shorter = ap length c.in-Some.ensures.items in (
      omega (arith, shorter, c.in-Some.ensures.len, c.loop-channel.invariant.0),
      next-first c.loop-channel.channels.items c.push_reserved.new.self.items c.in-Some.channel c.in-Some.claims _
          (into_iter_items c.next.new.self) c.args.all.items c.push_reserved.ensures.items c.in-Some.ensures.items
          c.loop-channel.invariant.1,
      omega (
        arith,
        shorter,
        c.push_reserved.ensures.len,
        c.push_reserved.ensures.capacity,
        c.loop-channel.invariant.2,
      ),
    )
