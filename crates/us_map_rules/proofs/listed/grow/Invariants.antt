use Rattle.std.proofs.Common.{◌≡◌, ◌≤◌, ℕ, None, length, get_or}
use Rattle.us_map_rules.proofs.listed.grow.Given as goal

abbrev pub invariant-loop-key : goal.invariant-loop-key
invariant-loop-key l = record {
  same : (key : ℕ) → get_or l.places.items key None ≡ get_or l.fn.places.items key None;
  long : l._key ≤ length l.places.items;
}
