use Rattle.std.proofs.Common.{◌≡◌, ◌≤◌, ◌++◌, drop, length, vec_len, vec_capacity}
use Rattle.us_split.specs.Asking.{asking, asks, places_from}
use Rattle.us_split.proofs.asking.places_asking.Given as goal

-- the other turns are still to come, and there is room for them
abbrev pub invariant-loop-place : goal.invariant-loop-place
invariant-loop-place l = record {
  items : l.places.items ++ places_from (asks l.outstanding) l.place (drop l.place l.numbers) ≡
      asking l.outstanding l.numbers;
  len : vec_len l.places ≤ l.place;
  capacity : length l.numbers ≤ vec_capacity l.places;
}
