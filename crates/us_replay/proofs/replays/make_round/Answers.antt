use Rattle.std.proofs.Common.{◌^◌, ◌<◌, length, ap, rules, sym, ◌∙◌}
use Rattle.us_replay.proofs.LoopLemmas.{pairs-room}
use Rattle.us_replay.proofs.MadeLemmas.{is-made, room-for}
use Rattle.us_replay.proofs.CutLemmas.{length-cut}
use Rattle.us_replay.proofs.replays.make_round.Goals as goal

pub step-requires-clause-ready : goal.step-requires-clause-ready
step-requires-clause-ready g c =
    let cut = c.cut.ensures ∙ ap (λ p. p.cut) c.in_ok-take_asks.ensures.collected in record {
      words = ap length cut ∙ length-cut (length c.args.progress.now.cut) c.args.asks.now ∙ c.requires.ready.clusters;
      room = pairs-room c.args.state.outstanding c.cut.result.now (length c.args.progress.now.cut) c.args.asks.now cut
          c.requires.ready.asked;
      time = c.requires.ready.time;
    }

pub step-requires-clause-hands : goal.step-requires-clause-hands
step-requires-clause-hands g c = c.take_asks.ensures.same c.args.state.tables c.requires.doers

pub take_round-requires : goal.take_round-requires
take_round-requires g c =
    let below : c.next_round.result < 2 ^ 32 = search rules in
    let rounds : c.in_ok-made.made.state.round < 2 ^ 32 = rw (sym c.next_round.ensures.value) below in
    room-for c.args.state c.cut.result.now c.in_ok-made.made c.in_ok-made.ensures.made.value c.args.progress.now
    c.take_asks.new.self c.args.asks.now c.requires.ready c.in_ok-take_asks.ensures.collected c.in_ok-made.ensures.made.few rounds
    c.next_round.ensures.few

pub returns-clause-made : goal.returns-clause-made
returns-clause-made g c =
    is-made c.args.state c.cut.result.now c.in_ok-made.made c.in_ok-made.ensures.made.value c.args.progress.now
    c.take_asks.new.self c.take_round.new.self c.args.asks.now c.into_state.result c.requires.ready
    c.in_ok-take_asks.ensures.collected c.cut.ensures c.in_ok-made.ensures.made.few c.in_ok-take_round.ensures.progress
    c.in_ok-take_round.ensures.limits c.in_ok-take_round.ensures.fields c.into_state.ensures
