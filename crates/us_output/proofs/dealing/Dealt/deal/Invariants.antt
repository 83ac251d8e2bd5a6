use Rattle.std.proofs.Common.{take}
use Rattle.us_output.specs.Leftovers.{AreDealt}
use Rattle.us_output.proofs.dealing.Dealt.deal.Given as goal

abbrev pub invariant-loop-pending : goal.invariant-loop-pending
invariant-loop-pending l = AreDealt (take l.pending-index l.pendings) l.lists.items
