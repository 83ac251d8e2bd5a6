use Rattle.std.proofs.Common.{◌≡◌, ◌+◌, ◌-◌, ◌^◌, ◌<◌, ◌≤◌, length, drop, zip}
use Rattle.std.specs.List.{AllByRecursion}
use Rattle.us_flows.specs.Clusters.{words_of}
use Rattle.us_split.specs.Requested.{requested_in, with_cut}
use Rattle.us_split.proofs.AskerStepLemmas.{walked}
use Rattle.us_split.proofs.asking.Askers.add_all.Given as goal

-- the bytes of the other words are still to come
abbrev pub invariant-loop-word : goal.invariant-loop-word
invariant-loop-word l = record {
  tables : l.self.tables ≡ l.fn.self.tables;
  pending : l.self.pending ≡ l.fn.self.pending;
  outstanding : walked l.word l.self.outstanding (requested_in (words_of l.fn.self.tables) l.cuts) ≡
      with_cut l.fn.self.tables l.fn.self.outstanding l.cuts;
  left : walked l.word l.self.left (requested_in (words_of l.fn.self.tables) l.cuts) ≡
      with_cut l.fn.self.tables l.fn.self.left l.cuts;
  one_each : length l.self.outstanding ≡ length l.cuts;
  left_each : length l.self.left ≡ length l.cuts;
  inside : l.word ≤ length l.cuts;
  room : AllByRecursion (λ pair. pair.0 + pair.1 < 2 ^ 62) (zip (drop l.word l.self.outstanding) (drop l.word l.cuts));
}

abbrev pub decreases-loop-word : goal.decreases-loop-word
decreases-loop-word l = length l.cuts - l.word
