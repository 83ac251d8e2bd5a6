use Rattle.std.proofs.Common.{◌≡◌, ◌++◌, map, take}
use Rattle.us_flows.specs.Clusters.{words_in}
use Rattle.us_activity.specs.Kept.{is_silent}
use Rattle.us_activity.proofs.silent_words.push_flow.Given as goal

abbrev pub invariant-loop-place : goal.invariant-loop-place
invariant-loop-place l = l.silent.items ≡ l.fn.silent.items ++ map is_silent (take l.place (words_in l.flow))
