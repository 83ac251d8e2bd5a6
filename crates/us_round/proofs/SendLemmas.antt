-- The mail of a round may be shared by threads, and a state may go from one to another.
use denote.RattleType.{RattleType}
use denote.Ref.{NamedLft}
use denote.Param.Send.{IsSend, IsSync, sendable}
use Rattle.std.proofs.Crossing.{crosses}
use Rattle.us_slots.proofs.memory.NoMemory.TheSendSync.{the_send as no_memory_send}
use Rattle.us_flows.proofs.config.Config.TheSendSync.{the_send as config_send, the_sync as config_sync}
use Rattle.us_split.proofs.claims.Claim.TheSendSync.{the_send as claim_send}
use Rattle.us_split.proofs.channel_plans.ChannelPlan.TheSendSync.{the_send as plan_send}
use Rattle.us_split.proofs.shares.Shares.TheSendSync.{the_send as shares_send}
use Rattle.us_split.proofs.turn_rows.TurnRow.TheSendSync.{the_send as row_send}
use Rattle.us_split.specs.contracts.asking.Askers as askers
use Rattle.us_split.specs.contracts.planner.Planner as planner
use Rattle.us_output.proofs.channels_with_text.ChannelWithText.TheSendSync.{the_send as channel_send}
use Rattle.us_output.proofs.pendings.PendingSid.TheSendSync.{the_send as pending_send}
use Rattle.us_crew.specs.declared.gates.Gate as gate
use Rattle.us_crew.proofs.SendLemmas.{mailboxes_sync}
use Rattle.us_round.specs.contracts.round_mail.RoundMail as round_mail
use Rattle.us_round.specs.contracts.cores.Kept as kept
use Rattle.us_round.specs.contracts.cores.Core as core
use Rattle.us_round.specs.contracts.states.State as state
use Rattle.us_round.proofs.buckets.Buckets.TheSendSync.{the_send as buckets_send}
use Rattle.us_round.proofs.hands.Filling.TheSendSync.{the_send as filling_send}
use Rattle.us_round.proofs.placing.Placing.TheSendSync.{the_send as placing_send}

pub round_mail_sync : (a m : NamedLft) (G : RattleType) (k : gate.Ghosts G.Denot) → IsSend G → IsSync (round_mail.the_row a m G k)
round_mail_sync a m G k g =
    search (mailboxes_sync, filling_send, placing_send, channel_send, claim_send, no_memory_send, sendable, crosses) depth 30

askers_send : IsSend askers.the_row
askers_send = search (sendable, crosses) depth 30

planner_send : IsSend planner.the_row
planner_send = search (row_send, plan_send, shares_send, sendable, crosses) depth 30

kept_send : IsSend kept.the_row
kept_send = search (config_send, config_sync, askers_send, planner_send, buckets_send, sendable, crosses) depth 30

core_send : IsSend core.the_row
core_send = search (kept_send, sendable, crosses) depth 30

pub state_send : IsSend state.the_row
state_send = search (core_send, channel_send, pending_send, sendable, crosses) depth 40
