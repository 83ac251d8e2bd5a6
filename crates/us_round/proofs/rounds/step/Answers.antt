use Rattle.std.proofs.Common.{◌≡◌, ◌+◌, ◌*◌, ◌≤◌, ap, sym, subst}
use Rattle.std.proofs.lemmas.Result.{IfOk-weaker}
use Rattle.us_flows.specs.Tables.{max_run_ticks}
use Rattle.us_round.specs.Rounds.{State, begun}
use Rattle.us_round.specs.States.{IsMade}
use Rattle.us_round.specs.Parts.{done_of}
use Rattle.us_round.proofs.StageLemmas.{built_in_stages, few_as, room_as, sound_as, stage_built, stage_claims, stepped_as}
use Rattle.us_round.proofs.rounds.step.Goals as goal

pub fill-requires-clause-time : goal.fill-requires-clause-time
fill-requires-clause-time g c =
    subst (λ s. (s.round + 1) * s.tables.round_ticks ≤ max_run_ticks) (sym c.begin-begun.ensures.value) c.requires.ready.time

pub fill-requires-clause-hands : goal.fill-requires-clause-hands
fill-requires-clause-hands g c =
    let same : c.begin-begun.result.core.tables ≡ c.args.state.tables =
    ap (λ (s : State). s.tables) c.begin-begun.ensures.value in
    rw same c.requires.hands

pub plan-requires : goal.plan-requires
plan-requires g c =
    record {
      room = rw (c.in_ok-filled.ensures.core, c.in_ok-filled.ensures.channels)
          (room_as c.begin-begun.result.core c.begin-begun.result.channels.items c.begin-begun.ensures.known);
    }

pub build-requires-clause-claims : goal.build-requires-clause-claims
build-requires-clause-claims g c =
    stage_claims c.begin-begun.result.core c.in_ok-filled.filled.core c.plan.new.self.core
    c.begin-begun.result.channels.items c.in_ok-filled.filled.channels.items c.plan.new.self.channels.items
    c.begin-begun.ensures.known c.in_ok-filled.ensures.core c.in_ok-filled.ensures.channels c.in_ok-plan.ensures.core
    c.plan.ensures.channels

pub build-requires-clause-hands : goal.build-requires-clause-hands
build-requires-clause-hands g c =
    let same : c.begin-begun.result.core.tables ≡ c.args.state.tables =
    ap (λ (s : State). s.tables) c.begin-begun.ensures.value in
    rw (c.in_ok-plan.ensures.core, c.in_ok-filled.ensures.core) (c.fill.ensures.same c.begin-begun.result.core.tables (rw same c.requires.hands))

pub close-requires : goal.close-requires
close-requires g c =
    record {
      built = stage_built c.begin-begun.result.core c.in_ok-built.built.core c.begin-begun.result.channels.items
          c.in_ok-built.built.channels.items c.begin-begun.ensures.known
          (subst (λ s. (s.round + 1) * s.tables.round_ticks ≤ max_run_ticks) (sym c.begin-begun.ensures.value) c.requires.ready.time)
          (built_in_stages c.begin-begun.result.core c.in_ok-filled.filled.core c.plan.new.self.core c.in_ok-built.built.core
          c.begin-begun.result.channels.items c.in_ok-filled.filled.channels.items c.plan.new.self.channels.items
          c.in_ok-built.built.channels.items c.begin-begun.ensures.known c.in_ok-filled.ensures.core
          c.in_ok-filled.ensures.channels c.in_ok-plan.ensures.core c.plan.ensures.channels c.in_ok-built.ensures.core
          c.in_ok-built.ensures.channels);
    }

pub returns-clause-made : goal.returns-clause-made
returns-clause-made g c =
    let built = built_in_stages c.begin-begun.result.core c.in_ok-filled.filled.core c.plan.new.self.core c.in_ok-built.built.core
    c.begin-begun.result.channels.items c.in_ok-filled.filled.channels.items c.plan.new.self.channels.items
    c.in_ok-built.built.channels.items c.begin-begun.ensures.known c.in_ok-filled.ensures.core
    c.in_ok-filled.ensures.channels c.in_ok-plan.ensures.core c.plan.ensures.channels c.in_ok-built.ensures.core
    c.in_ok-built.ensures.channels in
    IfOk-weaker c.close.result (λ done. done ≡ done_of c.in_ok-built.built.core c.in_ok-built.built.channels.items)
    (IsMade c.args.state c.args.cuts.now)
    (λ done is.
    let value = stepped_as c.args.state c.args.cuts.now c.begin-begun.result.core c.in_ok-built.built.core
    c.begin-begun.result.channels.items c.in_ok-built.built.channels.items done c.begin-begun.ensures.known
    c.begin-begun.ensures.value built is in
    record {
      value = value;
      sound = sound_as (begun c.args.state c.args.cuts.now) c.begin-begun.result.core c.begin-begun.result.channels.items
          c.begin-begun.ensures.known c.begin-begun.ensures.value;
      few = few_as c.args.state c.args.cuts.now c.begin-begun.result.core c.begin-begun.result.channels.items done
          c.begin-begun.ensures.known c.begin-begun.ensures.value value;
    })
    c.close.ensures

pub returns-clause-same : goal.returns-clause-same
returns-clause-same g c = λ t knows. c.build.ensures.same t (c.fill.ensures.same t knows)
