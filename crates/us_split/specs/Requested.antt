-- What is requested: of the bytes that a round's cut has by word those of clusters. They are added to what is outstanding.
use Rattle.std.specs.Prelude.{◌≡◌, ℕ, ◌+◌, ◌<◌, if◌then◌else◌, List, length, map, zip, slice_get, slice_index, Some}
use Rattle.std.specs.Option.{option_map_or}
use Rattle.us_flows.specs.Tables.{Tables}
use Rattle.us_flows.specs.Clusters.{Word, is_of_cluster, words_of}

-- of the bytes that a word has in a round: all where it is a cluster's; that a flow is silent or active requests none
abbrev pub requested_by : Word → ℕ → ℕ
requested_by word bytes = if is_of_cluster word then bytes else 0

-- of a cut, word by word
abbrev pub requested_in : List Word → List ℕ → List ℕ
requested_in words cut = map (λ pair. requested_by pair.0 pair.1) (zip words cut)

-- of so many bytes that the word with this number has
abbrev pub requested_at : List Word → ℕ → ℕ → ℕ
requested_at words number bytes = option_map_or (λ word. requested_by word bytes) (slice_get words number) 0

-- each cluster asks for the bytes that a cut has of its word
abbrev pub with_cut : Tables → List ℕ → List ℕ → List ℕ
with_cut t counts cut = map (λ pair. pair.0 + pair.1) (zip counts (requested_in (words_of t) cut))

-- A cut adds to what is outstanding of each cluster's word, and leaves that of other words as it is.
abbrev pub CutsAreOfClusters : Type 0
CutsAreOfClusters = (t : Tables) (counts cut : List ℕ) (number : ℕ) (word : Word) →
    slice_get (words_of t) number ≡ Some word → number < length counts → number < length cut →
    slice_index (with_cut t counts cut) number ≡
    slice_index counts number + requested_by word (slice_index cut number)
