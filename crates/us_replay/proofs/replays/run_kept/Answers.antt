use Rattle.std.proofs.Common.{false, rules}
use denote.Param.Send.{sendable}
use Rattle.us_replay.proofs.SendLemmas.{run_mail_sync}
use Rattle.us_replay.proofs.LoopLemmas.{ends-at-once}
use Rattle.us_replay.proofs.replays.run_kept.Goals as goal

pub with_crew-ended-requires-sync-M : goal.with_crew-ended-requires-sync-M
with_crew-ended-requires-sync-M g c κs within = search (run_mail_sync, sendable, rules)

pub returns-in_default : goal.returns-in_default
returns-in_default g c = (ends-at-once c.args.config.now c.args.trace.now _ _ false c.requires.lawful, tt, search rules)
