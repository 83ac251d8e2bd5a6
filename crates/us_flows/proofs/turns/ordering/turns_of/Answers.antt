use Rattle.std.proofs.Common.{rules, IsPermutation, subst}
use Rattle.std.proofs.lemmas.Fn.{always_returns_same}
use Rattle.us_flows.specs.Ranks.{rank_of, table_turns}
use Rattle.us_flows.proofs.OrderLemmas.{turns_of-is}
use Rattle.us_flows.proofs.turns.ordering.turns_of.Goals as goal

pub returns : goal.returns
returns c =
    let moved : IsPermutation (table_turns 0 0 c.args.flows.now) c.sort_unstable_by_key.new.self.items =
    subst (λ turns. IsPermutation turns c.sort_unstable_by_key.new.self.items) c.in_ok-turns.ensures
    c.sort_unstable_by_key.ensures.permutation in
    let sorted = c.sort_unstable_by_key.ensures.sorted (rank_of c.args.flows.now)
    (always_returns_same _ _ _ (λ a r f' call. search rules)) in
    turns_of-is c.args.flows.now c.sort_unstable_by_key.new.self.items c.requires.ranges c.requires.apart moved sorted
