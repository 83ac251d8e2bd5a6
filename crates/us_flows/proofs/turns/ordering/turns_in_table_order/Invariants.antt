use Rattle.std.proofs.Common.{◌≡◌, ◌++◌, length, drop, take, flat_map}
use Rattle.us_flows.specs.Clusters.{words_in}
use Rattle.us_flows.specs.Ranks.{table_turns}
use Rattle.us_flows.proofs.turns.ordering.turns_in_table_order.Given as goal

-- the words so far are counted, and what is left to put in leads to the same
pub record Puts (l : goal.Live-loop-place) : Type 0 where
  pub number : l.number ≡ length (flat_map words_in (take l.place l.flows))
  pub rest : l.turns.items ++ table_turns l.place l.number (drop l.place l.flows) ≡ table_turns 0 0 l.flows

abbrev pub invariant-loop-place : goal.invariant-loop-place
invariant-loop-place l = Puts l
