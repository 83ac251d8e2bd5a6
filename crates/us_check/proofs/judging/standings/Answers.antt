use Rattle.std.proofs.Common.{rules}
use Rattle.std.proofs.ByRecursion.{all_shuffled}
use Rattle.std.proofs.lemmas.List.Sorted.{IsNonDecreasingBy-from_sort_by_key}
use Rattle.us_check.specs.Judges.{IsStanding}
use Rattle.us_check.proofs.judging.standings.Goals as goal

pub returns : goal.returns
returns c =
    let read = c.in_ok-standings.ensures in
    record {
      read = c.in_ok-standings.standings.items;
      moved = c.sort_unstable_by_key.ensures.permutation;
      lines = read.0;
      each = all_shuffled (IsStanding c.args.config.now c.args.trace.now.rounds c.args.report.now) c.in_ok-standings.standings.items _
          c.sort_unstable_by_key.ensures.permutation read.1;
      rising = IsNonDecreasingBy-from_sort_by_key (λ s. s.map) _ c.sort_unstable_by_key.ensures.sorted (λ a r q k. search rules);
    }
