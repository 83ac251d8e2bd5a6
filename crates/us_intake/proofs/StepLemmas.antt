-- Each step keeps the account.
use Rattle.std.proofs.Common.{◌≡◌, ◌≢◌, ℕ, zero, suc, ◌+◌, ◌^◌, ◌<◌, ◌≤◌, ◌⊎◌, ◌||◌, Bool, true, false, true≢false, List, [], ◌∷◌, ◌++◌, length, set, sum, slice_index, slice_get, Some, refl, ap, sym, subst, ◌∙◌, inl, inr, ⊎_elim, arith, length-set}
use Rattle.std.proofs.lemmas.Option.{none-some, same_Some}
use Rattle.std.proofs.lemmas.List.Sums.{sum_by-append}
use Rattle.us_intake.specs.Tallies.{empty_tally, raised}
use Rattle.us_intake.specs.Accounts.{Terms, Part, spent_part, Stands, Account, first_part, part_after_submit, part_after_swap, part_after_split, new_part, joined_part, part_after_look}
use Rattle.us_intake.proofs.SumLemmas.{set_item, set_other, snoc_item, sum-set, terms_le}
use Rattle.us_intake.proofs.TallyLemmas.{index-raised, index-cleared, sum-raised, index-empty, sum-empty, length-empty, index-added, sum-added}
use Rattle.us_intake.proofs.AccountLemmas.{one_if, quota_of, turn_of, taken_at, submitted_at, taker_stands}

-- a step that changes one seat's part and the words alike
pub moved : (terms : Terms) (words after : List ℕ) (parts : List Part) (seat : ℕ) (part its : Part) →
    Account terms words parts →
    slice_get parts seat ≡ Some part → length after ≡ length words → its.quota ≡ part.quota → its.takes ≡ part.takes →
    Stands terms its →
    ((cluster : ℕ) → slice_index after cluster + slice_index its.taken cluster + slice_index part.submitted cluster
    ≡ slice_index words cluster + slice_index part.taken cluster + slice_index its.submitted cluster) →
    Account terms after (set parts seat its)
moved terms words after parts seat part its a at len quota takes stands balance =
    record {
      small = a.small;
      row = len ∙ a.row;
      quotas = omega (arith, sum-set quota_of parts seat part its at, quota, a.quotas);
      takers = omega (arith, sum-set turn_of parts seat part its at, ap one_if takes, a.takers);
      balanced = λ cluster. omega (
        arith,
        sum-set (taken_at cluster) parts seat part its at,
        sum-set (submitted_at cluster) parts seat part its at,
        balance cluster,
        a.balanced cluster,
      );
      seats = λ k u e. ⊎_elim (λ here. inr (subst (λ (p : Part). Stands terms p) here.1 stands)) (λ there. a.seats k
          u there.1) (set_item parts seat k its u e);
    }

pub submits : (terms : Terms) (words : List ℕ) (parts : List Part) (seat : ℕ) (part : Part) (cluster bytes : ℕ) →
    Account terms words parts → slice_get parts seat ≡ Some part → Stands terms part → cluster < terms.clusters →
    cluster < length part.submitted → sum part.submitted + bytes ≤ part.quota →
    Account terms (raised words cluster bytes) (set parts seat (part_after_submit part cluster bytes))
submits terms words parts seat part cluster bytes a at stands there row within =
    let inside : cluster < length words = omega (arith, there, a.row) in
    moved terms words (raised words cluster bytes) parts seat part (part_after_submit part cluster bytes) a at
    (length-set words cluster (slice_index words cluster + bytes)) refl refl
    (record {
      whole = stands.whole;
      some = stands.some;
      within = omega (arith, sum-raised part.submitted cluster bytes row, within);
      idle = stands.idle;
      no_swap = stands.no_swap;
    })
    (λ k. omega (arith, index-raised words cluster bytes k inside, index-raised part.submitted cluster bytes k row))

pub swaps : (terms : Terms) (words : List ℕ) (parts : List Part) (seat : ℕ) (part : Part) (cluster : ℕ) →
    Account terms words parts → slice_get parts seat ≡ Some part → part.takes ≡ true → cluster < terms.clusters →
    cluster < length part.taken →
    Account terms (set words cluster 0) (set parts seat (part_after_swap part cluster (slice_index words cluster)))
swaps terms words parts seat part cluster a at takes there row =
    let inside : cluster < length words = omega (arith, there, a.row) in
    let found : ℕ = slice_index words cluster in
    let stands : Stands terms part = taker_stands terms words parts a seat part at takes in
    moved terms words (set words cluster 0) parts seat part (part_after_swap part cluster found) a at
    (length-set words cluster 0) refl refl
    (record {
      whole = stands.whole;
      some = stands.some;
      within = stands.within;
      idle = λ idle. absurd (true≢false (sym takes ∙ idle));
      no_swap = λ idle. absurd (true≢false (sym takes ∙ idle));
    })
    (λ k. omega (arith, index-cleared words cluster k inside, index-raised part.taken cluster found k row))

pub splits : (terms : Terms) (words : List ℕ) (parts : List Part) (seat : ℕ) (part : Part) (quota : ℕ) →
    Account terms words parts → slice_get parts seat ≡ Some part → Stands terms part → 1 ≤ quota → quota < part.quota →
    sum part.submitted + quota ≤ part.quota →
    Account terms words (set parts seat (part_after_split part quota) ++ new_part part quota ∷ [])
splits terms words parts seat part quota a at stands some less within =
    let left : Part = part_after_split part quota in
    let right : Part = new_part part quota in
    let lefts : List Part = set parts seat left in
    let left_stands : Stands terms left =
    record {
      whole = stands.whole;
      some = omega arith;
      within = omega (arith, within);
      idle = stands.idle;
      no_swap = stands.no_swap;
    } in
    let right_stands : Stands terms right =
    record {
      whole = stands.whole;
      some = some;
      within = omega (arith, sum-empty (length part.submitted));
      idle = λ idle cluster. index-empty (length part.submitted) cluster;
      no_swap = λ idle. refl;
    } in
    record {
      small = a.small;
      row = a.row;
      quotas = omega (
        arith,
        sum_by-append quota_of lefts (right ∷ []),
        sum-set quota_of parts seat part left at,
        a.quotas,
      );
      takers = omega (
        arith,
        sum_by-append turn_of lefts (right ∷ []),
        sum-set turn_of parts seat part left at,
        a.takers,
      );
      balanced = λ cluster. omega (
        arith,
        sum_by-append (taken_at cluster) lefts (right ∷ []),
        sum-set (taken_at cluster) parts seat part left at,
        sum_by-append (submitted_at cluster) lefts (right ∷ []),
        sum-set (submitted_at cluster) parts seat part left at,
        index-empty (length part.submitted) cluster,
        a.balanced cluster,
      );
      seats = λ k u e. ⊎_elim
          (λ before. ⊎_elim (λ here. inr (subst (λ (p : Part). Stands terms p) here.1 left_stands)) (λ there. a.seats k
          u there.1) (set_item parts seat k left u before))
          (λ new. inr (subst (λ (p : Part). Stands terms p) new right_stands))
          (snoc_item lefts right u k e);
    }

neither : (one other : Bool) → (one || other) ≡ false → (one ≡ false) × (other ≡ false)
neither true other e = absurd (true≢false e)
neither false other e = (refl, e)

one_of_two : (one other : Bool) → one_if one + one_if other ≤ 1 → one_if (one || other) ≡ one_if one + one_if other
one_of_two true true h = absurd (omega arith)
one_of_two true false h = refl
one_of_two false true h = refl
one_of_two false false h = refl

pub joins : (terms : Terms) (words : List ℕ) (parts : List Part) (seat other : ℕ) (part its : Part) →
    Account terms words parts → other ≢ seat → slice_get parts seat ≡ Some part → slice_get parts other ≡ Some its →
    Stands terms part → Stands terms its →
    Account terms words (set (set parts seat (joined_part part its)) other spent_part)
joins terms words parts seat other part its a apart at at_other stands its_stands =
    let both : Part = joined_part part its in
    let first : List Part = set parts seat both in
    let at_next : slice_get first other ≡ Some its = set_other parts seat other both apart ∙ at_other in
    let one_takes : one_if part.takes + one_if its.takes ≤ 1 = omega (
      arith,
      terms_le turn_of parts seat other part its apart at at_other,
      a.takers,
    ) in
    let both_stand : Stands terms both =
    record {
      whole = stands.whole;
      some = omega (arith, stands.some);
      within = omega (arith, sum-added part.submitted its.submitted, stands.within, its_stands.within);
      idle = λ idle cluster.
          let none = neither part.takes its.takes idle in
          omega (
            arith,
            index-added part.taken its.taken cluster,
            stands.idle none.0 cluster,
            its_stands.idle none.1 cluster,
          );
      no_swap = λ idle.
          let none = neither part.takes its.takes idle in
          ap (λ l. l ++ its.swapped) (stands.no_swap none.0) ∙ its_stands.no_swap none.1;
    } in
    record {
      small = a.small;
      row = a.row;
      quotas = omega (
        arith,
        sum-set quota_of parts seat part both at,
        sum-set quota_of first other its spent_part at_next,
        a.quotas,
      );
      takers = omega (
        arith,
        sum-set turn_of parts seat part both at,
        sum-set turn_of first other its spent_part at_next,
        one_of_two part.takes its.takes one_takes,
        a.takers,
      );
      balanced = λ cluster. omega (
        arith,
        sum-set (taken_at cluster) parts seat part both at,
        sum-set (taken_at cluster) first other its spent_part at_next,
        index-added part.taken its.taken cluster,
        sum-set (submitted_at cluster) parts seat part both at,
        sum-set (submitted_at cluster) first other its
            spent_part at_next,
        index-added part.submitted its.submitted cluster,
        a.balanced cluster,
      );
      seats = λ k u e. ⊎_elim
          (λ gone. inl (sym gone.1))
          (λ left. ⊎_elim (λ here. inr (subst (λ (p : Part). Stands terms p) here.1 both_stand)) (λ there. a.seats k u
          there.1) (set_item parts seat k both u left.1))
          (set_item first other k spent_part u e);
    }

pub looks : (terms : Terms) (words : List ℕ) (parts : List Part) (seat : ℕ) (part : Part) → Account terms words parts →
    slice_get parts seat ≡ Some part → Stands terms part → Account terms words (set parts seat (part_after_look part))
looks terms words parts seat part a at stands =
    moved terms words words parts seat part (part_after_look part) a at refl refl refl
    (record {
      whole = stands.whole;
      some = stands.some;
      within = stands.within;
      idle = stands.idle;
      no_swap = stands.no_swap;
    }) (λ k. refl)

only_item : (terms : Terms) (part u : Part) (k : ℕ) → slice_get (part ∷ []) k ≡ Some u → Stands terms part →
    (u ≡ spent_part) ⊎ Stands terms u
only_item terms part u zero e stands = inr (subst (λ (p : Part). Stands terms p) (same_Some part u e) stands)
only_item terms part u (suc k) e stands = absurd (none-some u e)

pub opens : (terms : Terms) → 1 ≤ terms.quota → terms.quota < 2 ^ 62 →
    Account terms (empty_tally terms.clusters) (first_part terms ∷ [])
opens terms some small =
    let part : Part = first_part terms in
    let stands : Stands terms part =
    record {
      whole = refl;
      some = some;
      within = omega (arith, sum-empty terms.clusters);
      idle = λ idle. absurd (true≢false idle);
      no_swap = λ idle. refl;
    } in
    record {
      small = small;
      row = length-empty terms.clusters;
      quotas = omega arith;
      takers = refl;
      balanced = λ cluster. omega (arith, index-empty terms.clusters cluster);
      seats = λ k u e. only_item terms part u k e stands;
    }
