use Rattle.std.proofs.Common.{◌≡◌, ◌≤◌, map, take, length, vec_len, vec_capacity}
use Rattle.us_split.proofs.asking.cluster_turns.numbers_of.Given as goal

abbrev pub invariant-loop-turn : goal.invariant-loop-turn
invariant-loop-turn l = record {
  items : l.numbers.items ≡ map (λ turn. turn.cluster) (take l.turn-index l.turns);
  len : vec_len l.numbers ≡ l.turn-index;
  capacity : length l.turns ≤ vec_capacity l.numbers;
}
