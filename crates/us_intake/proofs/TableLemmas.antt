-- What the table asks of each step, from the account.
use Rattle.std.proofs.Common.{◌≡◌, ℕ, ◌+◌, ◌%◌, ◌^◌, ◌<◌, ◌≤◌, true, List, [], length, set, sum, slice_index, slice_get, Some, ap, sym, subst, ◌∙◌, arith, mod-eq_of_lt}
use Rattle.atomic_table.specs.Table.{State, Me, keeps, Allows, Splits, Joins}
use Rattle.us_intake.specs.Tallies.{raised}
use Rattle.us_intake.specs.Accounts.{Terms, Part, spent_part, Stands, Account, part_after_submit, part_after_swap, part_after_split, new_part, joined_part, part_after_look}
use Rattle.us_intake.specs.Parts.{Known, Covers}
use Rattle.us_intake.proofs.SumLemmas.{item_at, set_here, set_other}
use Rattle.us_intake.proofs.AccountLemmas.{standing, taker_stands, word_le, known, covers}
use Rattle.us_intake.proofs.StepLemmas.{submits, swaps, splits, joins, looks}
use Rattle.std.proofs.lemmas.List.{get_or-set_same, set-get_or}

module _ {S : Type 0} (terms : Terms) where
  abbrev holds : State S Part → Type 0
  holds s = Account terms s.words s.views

  pub submit_step : (slots seat cluster bytes : ℕ) (me : Me S Part) → me.1 ≡ [] → cluster < terms.clusters →
      cluster < length me.0.submitted → 1 ≤ me.0.quota → sum me.0.submitted + bytes ≤ me.0.quota →
      Allows holds slots seat me cluster (λ n. (n + bytes) % 2 ^ 64) (λ n after. after ≡ (
        part_after_submit me.0
            cluster bytes,
        [],
      ))
  submit_step slots seat cluster bytes me bare there row has within s kept homes at lt =
      let part : Part = part_after_submit me.0 cluster bytes in
      let item : slice_get s.views seat ≡ Some me.0 = item_at s.views seat me.0 at in
      let stands : Stands terms me.0 = standing terms s.words s.views kept seat me.0 item has in
      let after : Account terms (raised s.words cluster bytes) (set s.views seat part) =
      submits terms s.words s.views seat me.0 cluster bytes kept item stands there row within in
      let inside : cluster < length s.words = omega (arith, there, kept.row) in
      let small : slice_index s.words cluster + bytes < 2 ^ 64 =
      omega (
        arith,
        word_le terms (raised s.words cluster bytes) (set s.views seat part) after cluster,
        get_or-set_same s.words cluster (slice_index s.words cluster + bytes) 0 inside,
        kept.small,
      ) in (
        part,
        keeps,
        tt,
        subst (λ (n : ℕ). Account terms (set s.words cluster n) (set s.views seat part)) (sym (mod-eq_of_lt small))
            after,
        ap (λ l. (part, l)) bare,
      )

  pub swap_step : (slots seat cluster : ℕ) (me : Me S Part) → me.1 ≡ [] → cluster < terms.clusters →
      cluster < length me.0.taken → me.0.takes ≡ true →
      Allows holds slots seat me cluster (λ n. 0) (λ n after. (after ≡ (part_after_swap me.0 cluster n, []))
      × Known after.0 × Covers after.0 cluster)
  swap_step slots seat cluster me bare there row takes s kept homes at lt =
      let found : ℕ = slice_index s.words cluster in
      let part : Part = part_after_swap me.0 cluster found in
      let item : slice_get s.views seat ≡ Some me.0 = item_at s.views seat me.0 at in
      let after : Account terms (set s.words cluster 0) (set s.views seat part) =
      swaps terms s.words s.views seat me.0 cluster kept item takes there row in
      let here : slice_get (set s.views seat part) seat ≡ Some part = set_here s.views seat me.0 part item in
      let inside : cluster < length s.words = omega (arith, there, kept.row) in
      let stands : Stands terms part = taker_stands terms (set s.words cluster 0) (set s.views seat part) after seat
      part here takes in (
        part,
        keeps,
        tt,
        after,
        (
          ap (λ l. (part, l)) bare,
          known terms (set s.words cluster 0) (set s.views seat part) after seat part here stands.some,
          covers terms (set s.words cluster 0) (set s.views seat part) after seat part cluster here takes
              (get_or-set_same s.words cluster 0 0 inside),
        ),
      )

  pub look_step : (slots seat cluster : ℕ) (me : Me S Part) → me.1 ≡ [] → me.0.looks ≡ true → 1 ≤ me.0.quota →
      Allows holds slots seat me cluster (λ n. n) (λ n after. (me.0.looks ≡ true)
      × (after ≡ (part_after_look me.0, [])) × Known after.0)
  look_step slots seat cluster me bare owed has s kept homes at lt =
      let part : Part = part_after_look me.0 in
      let item : slice_get s.views seat ≡ Some me.0 = item_at s.views seat me.0 at in
      let after : Account terms s.words (set s.views seat part) =
      looks terms s.words s.views seat me.0 kept item (standing terms s.words s.views kept seat me.0 item has) in
      let here : slice_get (set s.views seat part) seat ≡ Some part = set_here s.views seat me.0 part item in (
        part,
        keeps,
        tt,
        subst (λ (words : List ℕ). Account terms words (set s.views seat part)) (sym (set-get_or s.words cluster 0))
            after,
        (
          owed,
          ap (λ l. (part, l)) bare,
          known terms s.words (set s.views seat part) after seat part here has,
        ),
      )

  pub split_step : (seat quota : ℕ) (part : Part) → 1 ≤ quota → quota < part.quota →
      sum part.submitted + quota ≤ part.quota →
      Splits holds seat part (part_after_split part quota) (new_part part quota)
  split_step seat quota part has less within s kept at =
      let item : slice_get s.views seat ≡ Some part = item_at s.views seat part at in
      splits terms s.words s.views seat part quota kept item (standing terms s.words s.views kept seat part item
      (omega arith)) has less within

  pub join_step : (seat other : ℕ) (part its : Part) → 1 ≤ part.quota → 1 ≤ its.quota →
      Joins holds seat part other its (joined_part part its) spent_part
  join_step seat other part its has its_has s kept at apart at_other =
      let item : slice_get s.views seat ≡ Some part = item_at s.views seat part at in
      let second : slice_get s.views other ≡ Some its =
      sym (set_other s.views seat other (joined_part part its) apart)
      ∙ item_at (set s.views seat (joined_part part its)) other its at_other in
      joins terms s.words s.views seat other part its kept apart item second
      (standing terms s.words s.views kept seat part item has) (standing terms s.words s.views kept other its second
      its_has)
