use Rattle.us_replay.proofs.ReplayLemmas.{replayed, wrote-lawful}
use Rattle.us_replay.proofs.replays.replay.Goals as goal

pub returns-clause-replayed : goal.returns-clause-replayed
returns-clause-replayed g c =
    replayed c.args.config.now c.args.rounds (g.R.Source.remaining c.args.trace.now) c.in_ok-trace.trace _ _ _ c.run.result
    c.in_ok-check_run.ensures.fine.0 c.in_ok-trace.ensures.read c.run.ensures.0

pub returns-clause-lawful : goal.returns-clause-lawful
returns-clause-lawful g c =
    wrote-lawful c.args.config.now c.args.rounds (g.R.Source.remaining c.args.trace.now) c.in_ok-trace.trace _ _ _ c.run.result
    c.in_ok-trace.ensures.read c.run.ensures.0 c.run.ensures.1
