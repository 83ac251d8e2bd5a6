use Rattle.std.proofs.Common.{ℕ, List, length, map, ap, sym, subst, ◌≤◌, ◌∙◌, arith, Vec, slice_index}
use Rattle.std.specs.Global.{Global}
use Rattle.us_live.specs.Lives.{Live, logged}
use Rattle.us_live.proofs.LiveLemmas.{running, running-took, running-time, inside-made, next-made}
use Rattle.us_live.proofs.LogLemmas.{feeds-made, feeds-left}
use Rattle.us_live.proofs.lives.Live.next_round.Goals as goal

abbrev entries : List (Vec ℕ Global) → List (List ℕ)
entries log = map (λ cut. cut.items) log

pub make_round-requires-clause-took : goal.make_round-requires-clause-took
make_round-requires-clause-took g c κs within =
    let i = c.self.inside in
    let taken = c.args.seat.now.taken in
    let is = running _ _ _ _ _ _ c.self.invariant.running c.take.ensures.value c.in-Some.is in
    running-took i.clusters i.rounds (entries i.log.items) c.in-Some.state taken is
    (subst (λ (l : Live). (cluster : ℕ) → logged l.log cluster ≤ slice_index taken cluster) (sym c.self.view_is)
    c.requires.took)

pub make_round-requires-clause-time : goal.make_round-requires-clause-time
make_round-requires-clause-time g c κs within =
    let i = c.self.inside in
    let is = running _ _ _ _ _ _ c.self.invariant.running c.take.ensures.value c.in-Some.is in
    running-time i.clusters i.rounds (entries i.log.items) c.in-Some.state is
    (omega (
      arith,
      c.in_ok-check.ensures.fine.0,
      ap (λ (l : Live). length l.log) c.self.view_is,
      ap (λ (l : Live). l.rounds) c.self.view_is,
    ))

pub returns-in_err-state-clause-feeds : goal.returns-in_err-state-clause-feeds
returns-in_err-state-clause-feeds g c =
    feeds-left c.args.self.now _ c.args.intake.now c.args.seat.now c.make_round.new.seat c.requires
    c.in_err-state.ensures.cut (ap (λ (l : Live). l.clusters) c.self.view_is)
    (ap entries c.in_err-state.ensures.same ∙ ap (λ (l : Live). l.log) c.self.view_is)

pub invariant_of-self-2 : goal.invariant_of-self-2
invariant_of-self-2 g c =
    let i = c.self.inside in
    let is = running _ _ _ _ _ _ c.self.invariant.running c.take.ensures.value c.in-Some.is in
    let made = c.in_ok-state.ensures.made in
    inside-made i.clusters i.rounds (entries i.log.items) (entries c.make_round.new.log.items) c.in-Some.state
    c.in_ok-state.state made.0 c.in_ok-state.out is
    (omega (
      arith,
      c.in_ok-check.ensures.fine.0,
      ap (λ (l : Live). length l.log) c.self.view_is,
      ap (λ (l : Live). l.rounds) c.self.view_is,
    ))
    made.2

pub returns-clause-next : goal.returns-clause-next
returns-clause-next g c =
    let i = c.self.inside in
    let is = running _ _ _ _ _ _ c.self.invariant.running c.take.ensures.value c.in-Some.is in
    let made = c.in_ok-state.ensures.made in (
      made.0,
      next-made i.clusters i.rounds (entries i.log.items) (entries c.make_round.new.log.items) i.state
          c.in-Some.state c.in_ok-state.state c.args.self.now c.args.seat.now c.make_round.new.seat made.0 c.in_ok-state.out
          c.self.view_is (sym c.take.ensures.value ∙ c.in-Some.is) is made.1 made.2,
    )

pub returns-clause-feeds : goal.returns-clause-feeds
returns-clause-feeds g c =
    let i = c.self.inside in
    let is = running _ _ _ _ _ _ c.self.invariant.running c.take.ensures.value c.in-Some.is in
    let made = c.in_ok-state.ensures.made in
    let next = next-made i.clusters i.rounds (entries i.log.items) (entries c.make_round.new.log.items) i.state
    c.in-Some.state c.in_ok-state.state c.args.self.now c.args.seat.now c.make_round.new.seat made.0 c.in_ok-state.out
    c.self.view_is (sym c.take.ensures.value ∙ c.in-Some.is) is made.1 made.2 in
    feeds-made c.args.self.now _ c.args.intake.now c.args.seat.now c.make_round.new.seat made.0 c.requires next.cut_is
    next.logs
