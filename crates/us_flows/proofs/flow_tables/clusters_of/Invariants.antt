use Rattle.std.proofs.Common.{◌≡◌, ◌++◌, drop, map, true}
use Rattle.toml.specs.View.{items_view}
use Rattle.us_flows.specs.Ranges.{max_unicast_sid}
use Rattle.us_flows.specs.Documents.{lists_of}
use Rattle.us_flows.specs.Shapes.{all_items, is_number_list}
use Rattle.us_flows.proofs.flow_tables.clusters_of.Given as goal

-- what is read, and what is left to read
abbrev pub invariant-loop-value : goal.invariant-loop-value
invariant-loop-value l =
    (map (λ sids. sids.items) l.clusters.items ++ lists_of (items_view (drop l.value-index l.items)) ≡
    lists_of (items_view l.items)) ×
    (all_items (is_number_list 1 max_unicast_sid) (items_view (drop l.value-index l.items)) ≡ true)
