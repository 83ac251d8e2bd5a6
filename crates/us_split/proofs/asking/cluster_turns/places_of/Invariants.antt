use Rattle.std.proofs.Common.{◌≡◌, ℕ, ◌<◌, None, length}
use Rattle.std.specs.Prelude.{slice_index_or}
use Rattle.us_split.proofs.PlaceLemmas.{IsPlaceSoFar}
use Rattle.us_split.proofs.asking.cluster_turns.places_of.Given as goal

abbrev pub invariant-loop-place : goal.invariant-loop-place
invariant-loop-place l = record {
  one_each : length l.places.items ≡ l.words;
  found : (n : ℕ) → n < l.words → IsPlaceSoFar l.numbers l.place n (slice_index_or l.places.items n None);
}
