use Rattle.std.proofs.Common.{◌≡◌, ◌≢◌, ◌<◌, ◌^◌, ◌++◌, map, drop}
use Rattle.std.specs.List.{AllByRecursion}
use Rattle.us_slots.specs.UsageCodes as codes
use Rattle.us_codec.specs.Elements.{IsMapElement}
use Rattle.us_channel.specs.Maps.{run_element}
use Rattle.us_channel.proofs.mapping.elements_in.Given as goal

abbrev pub invariant-loop-run : goal.invariant-loop-run
invariant-loop-run l =
    (l.elements.items ++ map (run_element l.channel) (drop l.run-index l.runs) ≡ map (run_element l.channel) l.runs)
    × AllByRecursion (λ run. run.start < 2 ^ 14) (drop l.run-index l.runs)
    × AllByRecursion (λ e. e.iuc ≢ codes.null) l.elements.items
    × AllByRecursion IsMapElement l.elements.items
