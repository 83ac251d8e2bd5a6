-- Tallies: a number of bytes for each cluster of an intake, in the order of the clusters' numbers (ours).
use Rattle.std.specs.Prelude.{ℕ, ◌+◌, List, replicate, slice_index, slice_set}

-- none of any cluster
abbrev pub empty_tally : ℕ → List ℕ
empty_tally clusters = replicate clusters 0

-- so many bytes more of one cluster
abbrev pub raised : List ℕ → ℕ → ℕ → List ℕ
raised tally cluster bytes = slice_set tally cluster (slice_index tally cluster + bytes)
