use Rattle.std.proofs.Common.{◌≡◌, vec_capacity}
use Rattle.std.specs.Prelude.{slice_index}
use Rattle.std.proofs.lemmas.List.Filters.{FiltersInPlace}
use Rattle.us_split.specs.Asking.{asks}
use Rattle.us_split.proofs.asking.listing.drop_answered.Given as goal

abbrev pub invariant-loop-at : goal.invariant-loop-at
invariant-loop-at l = record {
  filtered : FiltersInPlace (λ place. asks l.left (slice_index l.numbers place)) l.fn.list.items l.list.items l.kept l.at;
  capacity : vec_capacity l.list ≡ vec_capacity l.fn.list;
}
