-- What an account says of one seat and of the others.
use Rattle.std.proofs.Common.{◌≡◌, ◌≢◌, ℕ, ◌+◌, ◌≤◌, Bool, true, false, cond, true≢false, List, sum, sum_by, slice_index, slice_get, Some, refl, ap, sym, subst, ◌∙◌, inl, inr, ⊎_elim, arith}
use Rattle.std.proofs.lemmas.Bool.{cases_Bool}
use Rattle.us_intake.specs.Accounts.{Terms, Part, spent_part, Stands, Account}
use Rattle.us_intake.specs.Parts.{Known, Covers}
use Rattle.us_intake.proofs.SumLemmas.{term_le, terms_le, alone, sum_le}
use Rattle.us_intake.proofs.TallyLemmas.{index_le_sum, tally_le, gathered, index-gathered, sum-gathered}

abbrev pub one_if : Bool → ℕ
one_if b = cond b 1 0

abbrev pub quota_of : Part → ℕ
quota_of part = part.quota

abbrev pub turn_of : Part → ℕ
turn_of part = one_if part.takes

abbrev pub taken_at : ℕ → Part → ℕ
taken_at cluster part = slice_index part.taken cluster

abbrev pub submitted_at : ℕ → Part → ℕ
submitted_at cluster part = slice_index part.submitted cluster

module _ (terms : Terms) (words : List ℕ) (parts : List Part) (a : Account terms words parts) where
  pub standing : (seat : ℕ) (part : Part) → slice_get parts seat ≡ Some part → 1 ≤ part.quota → Stands terms part
  standing seat part at some =
      ⊎_elim (λ spent. absurd (omega (arith, ap quota_of spent))) (λ stands. stands) (a.seats seat part at)

  pub taker_stands : (seat : ℕ) (part : Part) → slice_get parts seat ≡ Some part → part.takes ≡ true → Stands terms part
  taker_stands seat part at takes =
      ⊎_elim (λ spent. absurd (true≢false (sym takes ∙ ap (λ (p : Part). p.takes) spent))) (λ stands. stands)
      (a.seats seat part at)

  pub keeps_quota : (seat : ℕ) (part : Part) → slice_get parts seat ≡ Some part → sum part.submitted ≤ part.quota
  keeps_quota seat part at =
      ⊎_elim (λ spent. subst (λ (p : Part). sum p.submitted ≤ p.quota) (sym spent) (omega arith)) (λ stands.
      stands.within) (a.seats seat part at)

  pub idle_part : (seat : ℕ) (part : Part) → slice_get parts seat ≡ Some part → part.takes ≡ false →
      (cluster : ℕ) → slice_index part.taken cluster ≡ 0
  idle_part seat part at idle cluster =
      ⊎_elim (λ spent. subst (λ (p : Part). slice_index p.taken cluster ≡ 0) (sym spent) refl) (λ stands. stands.idle
      idle cluster) (a.seats seat part at)

  -- what was submitted of a cluster is no more than the quota
  pub submitted_le : (cluster : ℕ) → sum_by (submitted_at cluster) parts ≤ terms.quota
  submitted_le cluster =
      omega (
        arith,
        sum_le (submitted_at cluster) quota_of parts (λ k u e. omega (
          arith,
          index_le_sum u.submitted cluster,
          keeps_quota k u e,
        )),
        a.quotas,
      )

  pub word_le : (cluster : ℕ) → slice_index words cluster ≤ terms.quota
  word_le cluster = omega (arith, a.balanced cluster, submitted_le cluster)

  -- what a seat took is no more than the quota, of all clusters together
  pub taken_le : (seat : ℕ) (part : Part) → slice_get parts seat ≡ Some part → sum part.taken ≤ terms.quota
  taken_le seat part at =
      let rows : List ℕ = gathered (λ (p : Part). p.submitted) parts in
      let each : sum part.taken ≤ sum rows =
      tally_le part.taken rows (λ cluster. omega (
        arith,
        term_le (taken_at cluster) parts seat part at,
        a.balanced cluster,
        index-gathered (λ (p : Part). p.submitted) parts cluster,
      )) in
      let all : sum_by (λ (p : Part). sum p.submitted) parts ≤ sum_by quota_of parts =
      sum_le (λ (p : Part). sum p.submitted) quota_of parts (λ k u e. keeps_quota k u e) in
      omega (arith, each, sum-gathered (λ (p : Part). p.submitted) parts, all, a.quotas)

  -- with the whole quota, no other seat stands
  pub others_spent : (seat : ℕ) (part : Part) → slice_get parts seat ≡ Some part → part.quota ≡ terms.quota →
      (k : ℕ) (u : Part) → k ≢ seat → slice_get parts k ≡ Some u → u ≡ spent_part
  others_spent seat part at whole k u n e =
      ⊎_elim (λ spent. spent) (λ stands. absurd (omega (
        arith,
        stands.some,
        terms_le quota_of parts seat k part u n at e,
        whole,
        a.quotas,
      ))) (a.seats k u e)

  pub whole_takes : (seat : ℕ) (part : Part) → slice_get parts seat ≡ Some part → part.quota ≡ terms.quota →
      part.takes ≡ true
  whole_takes seat part at whole =
      elim (cases_Bool part.takes) [
        | inl takes ↦ takes
        | inr idle ↦ absurd (omega (
          arith,
          alone turn_of parts seat part at (λ k u n e. ap turn_of (others_spent seat
              part at whole k u n e)),
          ap one_if idle,
          a.takers,
        ))
      ]

  pub whole_submitted : (seat : ℕ) (part : Part) → slice_get parts seat ≡ Some part → part.quota ≡ terms.quota →
      (cluster : ℕ) → sum_by (submitted_at cluster) parts ≡ slice_index part.submitted cluster
  whole_submitted seat part at whole cluster =
      alone (submitted_at cluster) parts seat part at (λ k u n e. ap (submitted_at cluster) (others_spent seat part
      at whole k u n e))

  -- where one seat takes, no other does, so all that was taken is in its part
  pub others_idle : (seat : ℕ) (part : Part) → slice_get parts seat ≡ Some part → part.takes ≡ true →
      (k : ℕ) (u : Part) → k ≢ seat → slice_get parts k ≡ Some u → u.takes ≡ false
  others_idle seat part at takes k u n e =
      elim (cases_Bool u.takes) [
        | inl also ↦ absurd (omega (
          arith,
          terms_le turn_of parts seat k part u n at e,
          ap one_if takes,
          ap one_if also,
          a.takers,
        ))
        | inr idle ↦ idle
      ]

  pub taker_took : (seat : ℕ) (part : Part) → slice_get parts seat ≡ Some part → part.takes ≡ true →
      (cluster : ℕ) → sum_by (taken_at cluster) parts ≡ slice_index part.taken cluster
  taker_took seat part at takes cluster =
      alone (taken_at cluster) parts seat part at (λ k u n e. idle_part k u e (others_idle seat part at takes k u n
      e) cluster)

  pub whole_balances : (seat : ℕ) (part : Part) → slice_get parts seat ≡ Some part → part.quota ≡ terms.quota →
      (cluster : ℕ) → slice_index words cluster + slice_index part.taken cluster ≡ slice_index part.submitted cluster
  whole_balances seat part at whole cluster =
      omega (
        arith,
        a.balanced cluster,
        whole_submitted seat part at whole cluster,
        taker_took seat part at (whole_takes seat part at whole) cluster,
      )

  pub known : (seat : ℕ) (part : Part) → slice_get parts seat ≡ Some part → 1 ≤ part.quota → Known part
  known seat part at some =
      let stands : Stands terms part = standing seat part at some in
      record {
        small = omega (arith, stands.whole, a.small);
        of_whole = omega (arith, stands.whole, term_le quota_of parts seat part at, a.quotas);
        within = stands.within;
        taken_within = omega (arith, stands.whole, taken_le seat part at);
        idle = stands.idle;
        no_swap = stands.no_swap;
        whole_takes = λ all. whole_takes seat part at (all ∙ stands.whole);
      }

  -- at a swap, which leaves nothing in the word
  pub covers : (seat : ℕ) (part : Part) (cluster : ℕ) → slice_get parts seat ≡ Some part → part.takes ≡ true →
      slice_index words cluster ≡ 0 → Covers part cluster
  covers seat part cluster at takes none =
      let stands : Stands terms part = taker_stands seat part at takes in
      let took : sum_by (taken_at cluster) parts ≡ slice_index part.taken cluster =
      taker_took seat part at takes cluster in
      record {
        least = omega (arith, term_le (submitted_at cluster) parts seat part at, a.balanced cluster, took, none);
        whole = λ all. omega (arith, whole_balances seat part at (all ∙ stands.whole) cluster, none);
      }
