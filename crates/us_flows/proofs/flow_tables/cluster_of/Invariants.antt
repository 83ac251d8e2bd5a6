use Rattle.std.proofs.Common.{◌≡◌, ◌++◌, drop, true}
use Rattle.toml.specs.View.{items_view}
use Rattle.us_flows.specs.Ranges.{max_unicast_sid}
use Rattle.us_flows.specs.Documents.{numbers_of}
use Rattle.us_flows.specs.Shapes.{all_items, is_number}
use Rattle.us_flows.proofs.flow_tables.cluster_of.Given as goal

-- what is read, and what is left to read
abbrev pub invariant-loop-value : goal.invariant-loop-value
invariant-loop-value l =
    (l.sids.items ++ numbers_of (items_view (drop l.value-index l.items)) ≡ numbers_of (items_view l.items)) ×
    (all_items (is_number 1 max_unicast_sid) (items_view (drop l.value-index l.items)) ≡ true)
