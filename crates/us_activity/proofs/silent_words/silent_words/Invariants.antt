use Rattle.std.proofs.Common.{◌≡◌, map, flat_map, take}
use Rattle.us_flows.specs.Clusters.{words_in}
use Rattle.us_activity.specs.Kept.{is_silent}
use Rattle.us_activity.proofs.silent_words.silent_words.Given as goal

abbrev pub invariant-loop-flow : goal.invariant-loop-flow
invariant-loop-flow l = l.silent.items ≡ map is_silent (flat_map words_in (take l.flow-index l.config.flows))
