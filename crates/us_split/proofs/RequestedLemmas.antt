-- What of a cut is requested, and what stays requested as more is, or as some is granted.
use Rattle.std.proofs.Common.{◌≡◌, ℕ, zero, suc, ◌+◌, ◌<◌, ◌≤◌, List, [], ◌∷◌, length, map, zip, replicate, Some, None, slice_get, refl, ap, ap₂, ◌∙◌, inl, inr, arith}
use Rattle.std.specs.Prelude.{slice_index}
use Rattle.std.specs.Option.{option_map_or}
use Rattle.std.proofs.lemmas.Bool.{cases_Bool}
use Rattle.us_flows.specs.Clusters.{Word, is_of_cluster, words_of}
use Rattle.us_split.specs.Asking.{more_of}
use Rattle.us_split.specs.Requested.{CutsAreOfClusters, requested_at, requested_by, requested_in}

-- One word.

requested-zero : (word : Word) (bytes : ℕ) → bytes ≡ 0 → requested_by word bytes ≡ 0
requested-zero word bytes none = elim (cases_Bool (is_of_cluster word)) [
  | inl t ↦ rw t none
  | inr f ↦ rw f refl
]

requested-plus : (word : Word) (before bytes : ℕ) → requested_by word before ≡ before → requested_by word bytes ≡ bytes →
    requested_by word (before + bytes) ≡ before + bytes
requested-plus word before bytes own more = elim (cases_Bool (is_of_cluster word)) [
  | inl t ↦ rw t refl
  | inr f ↦ rw f (omega (arith, rw f at own, rw f at more))
]

requested-less : (word : Word) (before bytes : ℕ) → requested_by word before ≡ before → bytes ≤ before →
    requested_by word bytes ≡ bytes
requested-less word before bytes own within = elim (cases_Bool (is_of_cluster word)) [
  | inl t ↦ rw t refl
  | inr f ↦ rw f (omega (arith, rw f at own, within))
]

-- A cut, word by word.

pub requested-length : (words : List Word) (cut : List ℕ) → length cut ≡ length words →
    length (requested_in words cut) ≡ length cut
requested-length [] [] long = refl
requested-length [] (c ∷ cut) long = absurd (omega (arith, long))
requested-length (word ∷ words) [] long = refl
requested-length (word ∷ words) (c ∷ cut) long = ap suc (requested-length words cut (omega (arith, long)))

pub requested-at : (words : List Word) (cut : List ℕ) (n : ℕ) → n < length cut →
    slice_index (requested_in words cut) n ≡ requested_at words n (slice_index cut n)
requested-at words [] n below = absurd (omega (arith, below))
requested-at [] (c ∷ cut) n below = refl
requested-at (word ∷ words) (c ∷ cut) zero below = refl
requested-at (word ∷ words) (c ∷ cut) (suc n) below = requested-at words cut n (omega (arith, below))

pub requested-idle : (words : List Word) (cut : List ℕ) (n : ℕ) → slice_index cut n ≡ 0 →
    slice_index (requested_in words cut) n ≡ 0
requested-idle [] cut n none = refl
requested-idle (word ∷ words) [] n none = refl
requested-idle (word ∷ words) (c ∷ cut) zero none = requested-zero word c none
requested-idle (word ∷ words) (c ∷ cut) (suc n) none = requested-idle words cut n none

-- What is outstanding was requested: at first, when there is nothing,

pub requested-nothing : (words : List Word) → requested_in words (replicate (length words) 0) ≡ replicate (length words) 0
requested-nothing [] = refl
requested-nothing (word ∷ words) = ap₂ (λ x xs. x ∷ xs) (requested-zero word 0 refl) (requested-nothing words)

-- with more that is requested,
pub requested-more : (words : List Word) (counts : List ℕ) (n bytes : ℕ) → requested_in words counts ≡ counts →
    requested_at words n bytes ≡ bytes → requested_in words (more_of n bytes counts) ≡ more_of n bytes counts
requested-more [] [] n bytes all own = refl
requested-more [] (c ∷ counts) n bytes all own = let no : [] ≡ c ∷ counts = all in cc
requested-more (word ∷ words) [] n bytes all own = refl
requested-more (word ∷ words) (c ∷ counts) zero bytes all own =
    let both : requested_by word c ∷ requested_in words counts ≡ c ∷ counts = all in
    let here : requested_by word c ≡ c = cc in
    let rest : requested_in words counts ≡ counts = cc in
    ap₂ (λ x xs. x ∷ xs) (requested-plus word c bytes here own) rest
requested-more (word ∷ words) (c ∷ counts) (suc n) bytes all own =
    let both : requested_by word c ∷ requested_in words counts ≡ c ∷ counts = all in
    let here : requested_by word c ≡ c = cc in
    let rest : requested_in words counts ≡ counts = cc in
    ap₂ (λ x xs. x ∷ xs) here (requested-more words counts n bytes rest own)

-- and where no more is left
pub requested-left : (words : List Word) (counts left : List ℕ) → requested_in words counts ≡ counts →
    length left ≡ length counts → ((n : ℕ) → slice_index left n ≤ slice_index counts n) → requested_in words left ≡ left
requested-left words counts [] all long within = none words
  where
    none : (words : List Word) → requested_in words [] ≡ []
    none [] = refl
    none (word ∷ words) = refl
requested-left words [] (l ∷ left) all long within = absurd (omega (arith, long))
requested-left [] (c ∷ counts) (l ∷ left) all long within = let no : [] ≡ c ∷ counts = all in cc
requested-left (word ∷ words) (c ∷ counts) (l ∷ left) all long within =
    let both : requested_by word c ∷ requested_in words counts ≡ c ∷ counts = all in
    let here : requested_by word c ≡ c = cc in
    let rest : requested_in words counts ≡ counts = cc in
    ap₂ (λ x xs. x ∷ xs) (requested-less word c l here (within 0))
    (requested-left words counts left rest (omega (arith, long)) (λ n. within (suc n)))

-- The law.

sums-at : (counts cut : List ℕ) (n : ℕ) → n < length counts → n < length cut →
    slice_index (map (λ pair. pair.0 + pair.1) (zip counts cut)) n ≡ slice_index counts n + slice_index cut n
sums-at [] cut n inside below = absurd (omega (arith, inside))
sums-at (c ∷ counts) [] n inside below = absurd (omega (arith, below))
sums-at (c ∷ counts) (b ∷ cut) zero inside below = refl
sums-at (c ∷ counts) (b ∷ cut) (suc n) inside below = sums-at counts cut n (omega (arith, inside)) (omega (arith, below))

requested-reaches : (words : List Word) (cut : List ℕ) (n : ℕ) (word : Word) → slice_get words n ≡ Some word →
    n < length cut → n < length (requested_in words cut)
requested-reaches [] cut n word at below = let no : None ≡ Some word = at in cc
requested-reaches (w ∷ words) [] n word at below = absurd (omega (arith, below))
requested-reaches (w ∷ words) (c ∷ cut) zero word at below = omega arith
requested-reaches (w ∷ words) (c ∷ cut) (suc n) word at below =
    omega (arith, requested-reaches words cut n word at (omega (arith, below)))

pub cuts_are_of_clusters : CutsAreOfClusters
cuts_are_of_clusters t counts cut number word at inside below =
    let own : slice_index (requested_in (words_of t) cut) number ≡ requested_by word (slice_index cut number) =
    requested-at (words_of t) cut number below ∙
    ap (λ found. option_map_or (λ word. requested_by word (slice_index cut number)) found 0) at in
    sums-at counts (requested_in (words_of t) cut) number inside
    (requested-reaches (words_of t) cut number word at below) ∙
    ap (λ bytes. slice_index counts number + bytes) own
