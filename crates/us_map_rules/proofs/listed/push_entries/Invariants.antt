use Rattle.std.proofs.Common.{◌≡◌, ◌++◌, map, drop}
use Rattle.us_map_rules.proofs.listed.push_entries.Given as goal

-- what is left to put in leads to the same
abbrev pub invariant-loop-entry : goal.invariant-loop-entry
invariant-loop-entry l =
    l.entries.items ++ map (λ e. record { channel = l.channel; entry = e }) (drop l.entry-index l.entry-items) ≡
    l.fn.entries.items ++ map (λ e. record { channel = l.channel; entry = e }) l.entry-items
