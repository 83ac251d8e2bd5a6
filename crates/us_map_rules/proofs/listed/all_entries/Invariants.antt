use Rattle.std.proofs.Common.{◌≡◌, ◌*◌, ◌≤◌, ◌++◌, length, map, flat_map, drop}
use Rattle.us_calendar.specs.Entries.{entries}
use Rattle.us_map_rules.proofs.listed.all_entries.Given as goal

-- what is left to put in leads to the same
abbrev pub invariant-loop-channel : goal.invariant-loop-channel
invariant-loop-channel l = record {
  same : l.entries.items
      ++ flat_map (λ c. map (λ e. record { channel = c; entry = e }) (entries l.config c))
      (drop l.channel-index l.channel-items)
      ≡ flat_map (λ c. map (λ e. record { channel = c; entry = e }) (entries l.config c)) l.channel-items;
  few : length l.entries.items ≤ l.channel-index * 1280;
}
