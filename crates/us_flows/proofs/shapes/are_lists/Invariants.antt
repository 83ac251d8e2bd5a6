use Rattle.std.proofs.Common.{◌≡◌, drop}
use Rattle.toml.specs.View.{items_view}
use Rattle.us_flows.specs.Shapes.{all_items, is_number_list}
use Rattle.us_flows.proofs.shapes.are_lists.Given as goal

abbrev pub invariant-loop-value : goal.invariant-loop-value
invariant-loop-value l = all_items (is_number_list l.least l.most) (items_view (drop l.value-index l.items)) ≡
    all_items (is_number_list l.least l.most) (items_view l.items)
