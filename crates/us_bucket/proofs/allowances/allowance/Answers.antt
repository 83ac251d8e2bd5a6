use Rattle.std.proofs.Common.{ℕ, refl}
use Rattle.std.proofs.lemmas.List.{drop_all}
use Rattle.us_bucket.specs.Allowances.{Limit}
use Rattle.us_bucket.proofs.AllowanceLemmas.{lawful-has-each, has-each-lawful, next-had, is-allowance}
use Rattle.us_bucket.proofs.allowances.allowance.Goals as goal

abbrev limit_of : ℕ → ℕ → ℕ → Limit
limit_of rate burst round_ticks = record { rate = rate; burst = burst; round_ticks = round_ticks }

pub returns-then-not-has-clause-lawful : goal.returns-then-not-has-clause-lawful
returns-then-not-has-clause-lawful c =
    let l = c.loop-event in
    let events = c.args.events.now in
    let limit = limit_of c.args.rate c.args.burst c.args.round_ticks in (
      λ never. absurd (cc),
      λ lawful.
          let rest = l.invariant.has.0 (lawful-has-each limit events lawful) in
          let had = next-had c.args.round_ticks events l.event-index c.in-Credit.bytes l.bucket c.loop-event-test.true
          c.in-Credit.is rest in
          c.if-not-has.ensures.1 had,
    )

pub returns-clause-lawful : goal.returns-clause-lawful
returns-clause-lawful c =
    let l = c.loop-event in
    let events = c.args.events.now in
    let limit = limit_of c.args.rate c.args.burst c.args.round_ticks in
    let each = rw (drop_all l.event-index events c.loop-event-test.false) at l.invariant.has in
    (λ _. has-each-lawful limit events (each.1 tt), λ _. refl)

pub returns-clause-allowed : goal.returns-clause-allowed
returns-clause-allowed c =
    let l = c.loop-event in
    let events = c.args.events.now in
    let limit = limit_of c.args.rate c.args.burst c.args.round_ticks in
    let each = rw (drop_all l.event-index events c.loop-event-test.false) at l.invariant.has in
    let ends = rw (drop_all l.event-index events c.loop-event-test.false) at l.invariant.ends in
    let holds = is-allowance limit events (has-each-lawful limit events (each.1 tt)) in
    rw (c.bytes.ensures, ends) holds
