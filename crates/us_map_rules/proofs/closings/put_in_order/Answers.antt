use Rattle.std.proofs.lemmas.List.Sorted.{IsNonDecreasingBy-from_sort, non_decreasing_from_is_sorted}
use Rattle.us_map_rules.proofs.closings.put_in_order.Goals as goal

pub returns-then-not-is_sorted-clause-rising : goal.returns-then-not-is_sorted-clause-rising
returns-then-not-is_sorted-clause-rising c =
    IsNonDecreasingBy-from_sort (λ m. m) c.sort_unstable.new.self.items c.sort_unstable.ensures.sorted

pub returns-else-not-is_sorted-clause-rising : goal.returns-else-not-is_sorted-clause-rising
returns-else-not-is_sorted-clause-rising c =
    rw (c.if-not-is_sorted.false, c.deref.ensures.value) at
    (non_decreasing_from_is_sorted c.deref.result.now c.is_sorted.result c.is_sorted.ensures.cases)
