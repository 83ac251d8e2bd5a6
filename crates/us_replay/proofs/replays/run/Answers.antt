use Rattle.std.proofs.Common.{false, rules}
use Rattle.us_replay.proofs.LoopLemmas.{ends-at-once}
use Rattle.us_replay.proofs.replays.run.Goals as goal

pub returns-in_default : goal.returns-in_default
returns-in_default g c = (ends-at-once c.args.config.now c.args.trace.now _ _ false c.clusters.ensures.lawful, tt, search rules)

pub returns-in_default-opening : goal.returns-in_default-opening
returns-in_default-opening g c = (ends-at-once c.args.config.now c.args.trace.now _ _ false c.clusters.ensures.lawful, tt, search rules)
