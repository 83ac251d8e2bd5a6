use Rattle.std.proofs.Common.{◌≡◌, ◌++◌, [], drop, length}
use Rattle.toml.specs.View.{items_view}
use Rattle.us_flows.specs.Checks.{in_turn, channel_fault}
use Rattle.us_flows.specs.Reading.{all_of, channel_of}
use Rattle.us_flows.proofs.channel_tables.channels_of.Given as goal

-- what is found of all items is found of those that are left
abbrev pub invariant-loop-value : goal.invariant-loop-value
invariant-loop-value l =
    (in_turn channel_of (channel_fault l.round_ticks) l.channels (items_view (drop l.value-index l.items)) ≡
    in_turn channel_of (channel_fault l.round_ticks) [] (items_view l.items)) ×
    (l.channels ++ all_of channel_of (items_view (drop l.value-index l.items)) ≡
    all_of channel_of (items_view l.items)) ×
    (length l.channels ≡ l.value-index)
