use Rattle.std.proofs.Common.{◌≡◌, ◌≤◌, ◌++◌, length, drop, vec_len, vec_capacity}
use Rattle.us_holes.specs.Boards.{assign_all, max_assignments}
use Rattle.us_channel.specs.Placements.{grants_of, assignments}
use Rattle.us_channel.proofs.granting.grant_each.Given as goal

-- the other claims are still to be granted
abbrev pub invariant-loop-claim : goal.invariant-loop-claim
invariant-loop-claim l = record {
  grants : l.grants.items ++ grants_of l.channel.bursts l.board (drop l.claim-index l.claims)
      ≡ grants_of l.channel.bursts l.initial.board l.claims;
  board : assign_all l.board (assignments (grants_of l.channel.bursts l.board (drop l.claim-index l.claims)))
      ≡ assign_all l.initial.board (assignments (grants_of l.channel.bursts l.initial.board l.claims));
  len : length l.board.cells ≡ length l.initial.board.cells;
  among : vec_len l.grants ≤ l.board.standing;
  room : max_assignments ≤ vec_capacity l.grants;
}
