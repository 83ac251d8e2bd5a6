-- Tallies: their bytes by cluster, and in all.
use Rattle.std.proofs.Common.{◌≡◌, ◌≢◌, ℕ, zero, suc, ◌+◌, ◌<◌, ◌≤◌, ◌||◌, Bool, true, false, cond, eqb, List, [], ◌∷◌, length, set, replicate, sum, sum_by, slice_index, refl, ap, sym, ◌∙◌, take, add-one, inl, inr, arith, eq-eqb, ne_eqb, get_or-set_same, get_or-set_other}
use Rattle.std.proofs.lemmas.Bool.{cases_eq, true≢false, false≢true}
use Rattle.std.proofs.lemmas.List.{length-replicate, set-get_or}
use Rattle.std.proofs.lemmas.List.Sums.{sum_by-cons, sum_by-set}
use Rattle.us_slots.specs.Lists.{added}
use Rattle.us_intake.specs.Tallies.{empty_tally, raised}

-- what a cluster has more, where the cluster `at` has so many bytes more
abbrev pub more : ℕ → ℕ → ℕ → ℕ
more at bytes cluster = cond (eqb cluster at) bytes 0

pub more-here : (at bytes cluster : ℕ) → cluster ≡ at → more at bytes cluster ≡ bytes
more-here at bytes cluster e = rw (eq-eqb cluster at e) refl

pub more-else : (at bytes cluster : ℕ) → cluster ≢ at → more at bytes cluster ≡ 0
more-else at bytes cluster n = rw (ne_eqb cluster at n) refl

pub index-raised : (tally : List ℕ) (at bytes cluster : ℕ) → at < length tally →
    slice_index (raised tally at bytes) cluster ≡ slice_index tally cluster + more at bytes cluster
index-raised tally at bytes cluster lt =
    elim (cases_eq cluster at) [
      | inl e ↦ rw e (omega (
        arith,
        get_or-set_same tally at (slice_index tally at + bytes) 0 lt,
        more-here at bytes at refl,
      ))
      | inr n ↦ omega (
        arith,
        get_or-set_other tally at cluster (slice_index tally at + bytes) 0 n,
        more-else at bytes cluster n,
      )
    ]

pub index-cleared : (tally : List ℕ) (at cluster : ℕ) → at < length tally →
    slice_index (set tally at 0) cluster + more at (slice_index tally at) cluster ≡ slice_index tally cluster
index-cleared tally at cluster lt =
    elim (cases_eq cluster at) [
      | inl e ↦ rw e (omega (arith, get_or-set_same tally at 0 0 lt, more-here at (slice_index tally at) at refl))
      | inr n ↦ omega (arith, get_or-set_other tally at cluster 0 0 n, more-else at (slice_index tally at) cluster n)
    ]

pub sum-raised : (tally : List ℕ) (at bytes : ℕ) → at < length tally → sum (raised tally at bytes) ≡ sum tally + bytes
sum-raised tally at bytes lt = omega (arith, sum_by-set (λ (x : ℕ). x) tally at (slice_index tally at + bytes) 0 lt)

pub index-empty : (clusters cluster : ℕ) → slice_index (empty_tally clusters) cluster ≡ 0
index-empty zero cluster = refl
index-empty (suc clusters) zero = refl
index-empty (suc clusters) (suc cluster) = index-empty clusters cluster

pub sum-empty : (clusters : ℕ) → sum (empty_tally clusters) ≡ 0
sum-empty zero = refl
sum-empty (suc clusters) = omega (arith, sum_by-cons (λ (x : ℕ). x) 0 (replicate clusters 0), sum-empty clusters)

pub length-empty : (clusters : ℕ) → length (empty_tally clusters) ≡ clusters
length-empty clusters = length-replicate clusters 0

pub index-added : (one other : List ℕ) (cluster : ℕ) →
    slice_index (added one other) cluster ≡ slice_index one cluster + slice_index other cluster
index-added [] other cluster = omega arith
index-added (x ∷ one) [] zero = omega arith
index-added (x ∷ one) [] (suc cluster) = omega arith
index-added (x ∷ one) (y ∷ other) zero = refl
index-added (x ∷ one) (y ∷ other) (suc cluster) = index-added one other cluster

pub sum-added : (one other : List ℕ) → sum (added one other) ≡ sum one + sum other
sum-added [] other = omega arith
sum-added (x ∷ one) [] = omega arith
sum-added (x ∷ one) (y ∷ other) =
    omega (
      arith,
      sum_by-cons (λ (n : ℕ). n) (x + y) (added one other),
      sum_by-cons (λ (n : ℕ). n) x one,
      sum_by-cons (λ (n : ℕ). n) y other,
      sum-added one other,
    )

pub length-added : (one other : List ℕ) → length one ≡ length other → length (added one other) ≡ length one
length-added [] [] e = refl
length-added [] (y ∷ other) e = absurd (omega arith)
length-added (x ∷ one) [] e = refl
length-added (x ∷ one) (y ∷ other) e = ap suc (length-added one other (omega arith))

pub added-nil : (tally : List ℕ) → added tally [] ≡ tally
added-nil [] = refl
added-nil (x ∷ tally) = refl

-- one cluster more of a tally is added, which is put in its place there
pub raised-added : (one other : List ℕ) (at bytes : ℕ) → at < length one → at < length other →
    raised (added one (take at other)) at bytes ≡ added one (take (suc at) (set other at bytes))
raised-added [] other at bytes lt in_other = absurd (omega arith)
raised-added (x ∷ one) [] at bytes lt in_other = absurd (omega arith)
raised-added (x ∷ one) (y ∷ other) zero bytes lt in_other = ap (λ l. (x + bytes) ∷ l) (sym (added-nil one))
raised-added (x ∷ one) (y ∷ other) (suc at) bytes lt in_other =
    ap (λ l. (x + y) ∷ l) (raised-added one other at bytes (omega arith) (omega arith))

-- the same where it stands there
pub raised-next : (one other : List ℕ) (at : ℕ) → at < length one → at < length other →
    raised (added one (take at other)) at (slice_index other at) ≡ added one (take (at + 1) other)
raised-next one other at lt in_other =
    raised-added one other at (slice_index other at) lt in_other
    ∙ ap (λ l. added one (take (suc at) l)) (set-get_or other at 0)
    ∙ ap (λ n. added one (take n other)) (sym (add-one at))

pub index-past : (tally : List ℕ) (cluster : ℕ) → length tally ≤ cluster → slice_index tally cluster ≡ 0
index-past [] cluster le = refl
index-past (x ∷ tally) zero le = absurd (omega arith)
index-past (x ∷ tally) (suc cluster) le = index-past tally cluster (omega arith)

pub index_le_sum : (tally : List ℕ) (cluster : ℕ) → slice_index tally cluster ≤ sum tally
index_le_sum [] cluster = omega arith
index_le_sum (x ∷ tally) zero = omega (arith, sum_by-cons (λ (n : ℕ). n) x tally)
index_le_sum (x ∷ tally) (suc cluster) = omega (arith, sum_by-cons (λ (n : ℕ). n) x tally, index_le_sum tally cluster)

-- of each cluster no more, so in all no more
pub tally_le : (one other : List ℕ) → ((cluster : ℕ) → slice_index one cluster ≤ slice_index other cluster) →
    sum one ≤ sum other
tally_le [] other h = omega arith
tally_le (x ∷ one) [] h =
    omega (arith, sum_by-cons (λ (n : ℕ). n) x one, h 0, tally_le one [] (λ cluster. h (suc cluster)))
tally_le (x ∷ one) (y ∷ other) h =
    omega (
      arith,
      sum_by-cons (λ (n : ℕ). n) x one,
      sum_by-cons (λ (n : ℕ). n) y other,
      h 0,
      tally_le one other (λ cluster. h (suc cluster)),
    )

-- tallies of items, added up
module _ {A : Type 0} (f : A → List ℕ) where
  abbrev pub gathered : List A → List ℕ
  gathered [] = []
  gathered (x ∷ xs) = added (f x) (gathered xs)

  pub index-gathered : (xs : List A) (cluster : ℕ) →
      slice_index (gathered xs) cluster ≡ sum_by (λ x. slice_index (f x) cluster) xs
  index-gathered [] cluster = refl
  index-gathered (x ∷ xs) cluster =
      omega (
        arith,
        index-added (f x) (gathered xs) cluster,
        sum_by-cons (λ y. slice_index (f y) cluster) x xs,
        index-gathered xs cluster,
      )

  pub sum-gathered : (xs : List A) → sum (gathered xs) ≡ sum_by (λ x. sum (f x)) xs
  sum-gathered [] = refl
  sum-gathered (x ∷ xs) =
      omega (arith, sum-added (f x) (gathered xs), sum_by-cons (λ y. sum (f y)) x xs, sum-gathered xs)

-- equal cluster by cluster
pub same_tally : (one other : List ℕ) → length one ≡ length other →
    ((cluster : ℕ) → cluster < length one → slice_index one cluster ≡ slice_index other cluster) → one ≡ other
same_tally [] [] len h = refl
same_tally [] (y ∷ other) len h = absurd (omega arith)
same_tally (x ∷ one) [] len h = absurd (omega arith)
same_tally (x ∷ one) (y ∷ other) len h =
    ap (λ n. n ∷ one) (h 0 (omega arith))
    ∙ ap (λ l. y ∷ l) (same_tally one other (omega arith) (λ cluster lt. h (suc cluster) (omega arith)))

-- where nothing is added, nothing changes
pub nothing-added : (one other : List ℕ) → length one ≡ length other →
    ((cluster : ℕ) → slice_index other cluster ≡ 0) → one ≡ added one other
nothing-added one other same none =
    same_tally one (added one other) (sym (length-added one other same))
    (λ cluster lt. omega (arith, index-added one other cluster, none cluster))

-- in either order the same
pub added-turned : (one other : List ℕ) → length one ≡ length other → added one other ≡ added other one
added-turned one other same =
    same_tally (added one other) (added other one)
    (omega (arith, length-added one other same, length-added other one (sym same), same))
    (λ cluster lt. omega (arith, index-added one other cluster, index-added other one cluster))

pub empty-added : (clusters : ℕ) (tally : List ℕ) → length tally ≡ clusters → added (empty_tally clusters) tally ≡ tally
empty-added clusters tally same =
    added-turned (empty_tally clusters) tally (omega (arith, length-empty clusters, same))
    ∙ sym (nothing-added tally (empty_tally clusters) (omega (arith, length-empty clusters, same))
    (index-empty clusters))

-- What two seats took, as the lists that those of them keep that take.
pub joined_taken : (takes its_takes : Bool) (taken its_taken all one other : List ℕ) → length one ≡ length other →
    (takes ≡ true → taken ≡ one) → (takes ≡ false → taken ≡ []) →
    (takes ≡ false → (cluster : ℕ) → slice_index one cluster ≡ 0) →
    (its_takes ≡ true → its_taken ≡ other) → (its_takes ≡ false → (cluster : ℕ) → slice_index other cluster ≡ 0) →
    (its_takes ≡ true → all ≡ added its_taken taken) → (its_takes ≡ false → all ≡ taken) →
    (takes || its_takes ≡ true → all ≡ added one other) × (takes || its_takes ≡ false → all ≡ [])
joined_taken true true taken its_taken all one other same keeps none idle its its_idle both alone = (
  λ e. both refl ∙ ap (λ l. added l taken) (its refl) ∙ ap (λ l. added other l) (keeps refl)
      ∙ added-turned other one (sym same),
  λ e. absurd (true≢false e),
)
joined_taken true false taken its_taken all one other same keeps none idle its its_idle both alone = (
  λ e. alone refl ∙ keeps refl ∙ nothing-added one other same (its_idle refl),
  λ e. absurd (true≢false e),
)
joined_taken false true taken its_taken all one other same keeps none idle its its_idle both alone = (
  λ e. both refl ∙ ap (λ l. added l taken) (its refl) ∙ ap (λ l. added other l) (none refl) ∙ added-nil other
      ∙ nothing-added other one (sym same) (idle refl) ∙ added-turned other one (sym same),
  λ e. absurd (true≢false e),
)
joined_taken false false taken its_taken all one other same keeps none idle its its_idle both alone =
    (λ e. absurd (false≢true e), λ e. alone refl ∙ none refl)

past-take : (tally : List ℕ) (at : ℕ) → slice_index (take at tally) at ≡ 0
past-take [] zero = refl
past-take [] (suc at) = refl
past-take (x ∷ tally) zero = refl
past-take (x ∷ tally) (suc at) = past-take tally at

-- the sum of two numbers in one place is no more than both tallies
pub next_le : (one other : List ℕ) (at : ℕ) →
    slice_index (added one (take at other)) at + slice_index other at ≤ sum one + sum other
next_le one other at =
    omega (arith, index-added one (take at other) at, past-take other at, index_le_sum one at, index_le_sum other at)

-- a tally that is copied place by place
pub copied : (tally items : List ℕ) (at bytes : ℕ) → ((k : ℕ) → k < at → slice_index tally k ≡ slice_index items k) →
    at < length tally → slice_index items at ≡ bytes →
    (k : ℕ) → k < at + 1 → slice_index (set tally at bytes) k ≡ slice_index items k
copied tally items at bytes before lt here k next =
    elim (cases_eq k at) [
      | inl e ↦ rw e (get_or-set_same tally at bytes 0 lt ∙ sym here)
      | inr n ↦ get_or-set_other tally at k bytes 0 n ∙ before k (omega arith)
    ]
