use Rattle.std.proofs.Common.{◌≡◌, ◌≤◌, ◌*◌, ◌++◌, drop}
use Rattle.std.specs.List.{filter_map}
use Rattle.us_calendar.specs.Entries.{entry_of_flow, with_words}
use Rattle.us_calendar.proofs.listing.push_flows.Given as goal

-- what is left to put in leads to the same, and no flow has more than two words
abbrev pub invariant-loop-flow : goal.invariant-loop-flow
invariant-loop-flow l = record {
  left :
      l.entries.items ++ filter_map (entry_of_flow l.channel) (with_words l.word (drop l.flow-index l.flows)) ≡
      l.fn.entries.items ++ filter_map (entry_of_flow l.channel) (with_words 0 l.flows);
  few : l.word ≤ 2 * l.flow-index;
}
