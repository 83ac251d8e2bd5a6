use Rattle.std.proofs.Common.{ℕ, List, ◌≤◌, length}
use Rattle.us_output.specs.Leftovers.{AreDealt}
use Rattle.us_output.proofs.dealing.make_room.Given as goal

abbrev pub invariant-loop-list : goal.invariant-loop-list
invariant-loop-list l = record {
  same : (pendings : List (ℕ × ℕ)) → AreDealt pendings l.fn.lists.items → AreDealt pendings l.lists.items;
  long : l._list ≤ length l.lists.items;
}
