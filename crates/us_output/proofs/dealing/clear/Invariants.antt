use Rattle.std.proofs.Common.{◌≡◌, ℕ, ◌<◌, [], length, get_or}
use Rattle.us_output.proofs.dealing.clear.Given as goal

-- the lists that were cleared have none
abbrev pub invariant-loop-at : goal.invariant-loop-at
invariant-loop-at l = record {
  empty : (id : ℕ) → id < l.at → get_or l.lists id [] ≡ [];
  len : length l.lists ≡ length l.fn.lists;
}
