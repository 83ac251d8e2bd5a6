use Rattle.std.proofs.Common.{◌≡◌, ◌-◌, ◌<◌, ◌∙◌, ap, arith}
use Rattle.us_slots.specs.Bursts.{burst_cost}
use Rattle.us_slots.specs.Capacities.{IsCapacity}
use Rattle.us_channel.proofs.PlaceLemmas.{carried_fits, carried_less}
use Rattle.us_channel.proofs.placing.carried.Goals as goal

pub returns-else-credit-eq0-clause-few : goal.returns-else-credit-eq0-clause-few
returns-else-credit-eq0-clause-few c =
    let carries : IsCapacity (burst_cost c.args.bursts.now.time c.args.bursts.now.long) c.in_ok-start.slots c.capacity.result =
    rw (c.time.ensures.value, c.long.ensures.value) at c.capacity.ensures.greatest in
    let credit : c.saturating_sub-credit.result ≡ c.capacity.result - c.args.claim.now.header =
    c.saturating_sub-credit.ensures ∙ ap (λ n. c.capacity.result - n) (c.from.ensures ∙ ap (λ claim. claim.header) c.claim.view_is) in
    let some : 0 < c.capacity.result - c.args.claim.now.header = omega (arith, credit) in
    rw credit (carried_less c.args.bursts.now c.args.board.now c.in_ok-start.start c.in_ok-start.slots c.capacity.result
    c.args.claim.now.header c.args.claim.now.share c.time.ensures.in_range c.requires.room c.in_ok-start.ensures.longest
    carries some)

pub returns-else-credit-eq0-clause-fits : goal.returns-else-credit-eq0-clause-fits
returns-else-credit-eq0-clause-fits c =
    let carries : IsCapacity (burst_cost c.args.bursts.now.time c.args.bursts.now.long) c.in_ok-start.slots c.capacity.result =
    rw (c.time.ensures.value, c.long.ensures.value) at c.capacity.ensures.greatest in
    let credit : c.saturating_sub-credit.result ≡ c.capacity.result - c.args.claim.now.header =
    c.saturating_sub-credit.ensures ∙ ap (λ n. c.capacity.result - n) (c.from.ensures ∙ ap (λ claim. claim.header) c.claim.view_is) in
    let some : 0 < c.capacity.result - c.args.claim.now.header = omega (arith, credit) in
    rw credit (carried_fits c.args.bursts.now c.args.board.now c.in_ok-start.start c.in_ok-start.slots c.capacity.result
    c.args.claim.now.header _ c.requires.room c.in_ok-start.ensures.longest carries some)
