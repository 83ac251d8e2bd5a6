-- What is known of a seat, from its part in the account.
use Rattle.std.proofs.Common.{◌≡◌, ℕ, ◌+◌, ◌^◌, ◌<◌, ◌||◌, Bool, true, false, List, [], length, sum, slice_index, ap, sym, subst, ◌∙◌, arith}
use Rattle.atomic_table.specs.Seated.{TableId}
use Rattle.atomic_table.specs.Table.{Me, State, Final, Seen}
use Rattle.us_slots.specs.Lists.{added}
use Rattle.us_intake.specs.Seats.{IsIntake, IsWhole}
use Rattle.us_intake.specs.Accounts.{Terms, Part, Account, joined_part, part_after_look}
use Rattle.us_intake.specs.Parts.{Known}
use Rattle.us_intake.specs.Insides.{seat_at, IsInside}
use Rattle.us_intake.proofs.SumLemmas.{item_at}
use Rattle.us_intake.proofs.TallyLemmas.{length-added, sum-added, index-added, same_tally, joined_taken}
use Rattle.us_intake.proofs.AccountLemmas.{whole_balances}

-- a seat whose part is the sum of two
pub inside_joined : {S : Type 0} (id one_id other_id : TableId) (me one other : Me S Part)
    (quota spent its_quota its_spent : ℕ) (takes its_takes : Bool) (taken its_taken all_taken : List ℕ) →
    IsInside one_id one quota spent takes taken →
    IsInside other_id other its_quota its_spent its_takes its_taken →
    id ≡ one_id → other_id.words ≡ one_id.words →
    me ≡ (part_after_look (joined_part one.0 other.0), []) → Known me.0 →
    (its_takes ≡ true → all_taken ≡ added its_taken taken) → (its_takes ≡ false → all_taken ≡ taken) →
    IsInside id me (quota + its_quota) (spent + its_spent) (takes || its_takes) all_taken
inside_joined {S} id one_id other_id me one other quota spent its_quota its_spent takes its_takes taken its_taken
    all_taken first second same words is known both alone =
    let part : me.0 ≡ part_after_look (joined_part one.0 other.0) = ap (λ (m : Me S Part). m.0) is in
    let rows : length (added one.0.submitted other.0.submitted) ≡ length one.0.submitted =
    length-added one.0.submitted other.0.submitted (omega (
      arith,
      first.known.submitted_row,
      second.known.submitted_row,
      words,
    )) in
    let taken_rows : length (added one.0.taken other.0.taken) ≡ length one.0.taken =
    length-added one.0.taken other.0.taken (omega (arith, first.known.taken_row, second.known.taken_row, words)) in
    let took = joined_taken takes its_takes taken its_taken all_taken one.0.taken other.0.taken
    (omega (arith, first.known.taken_row, second.known.taken_row, words)) first.same_taken first.no_taken
    (λ e. first.known.idle (sym first.same_takes ∙ e)) second.same_taken
    (λ e. second.known.idle (sym second.same_takes ∙ e)) both alone in
    let id_words : id.words ≡ one_id.words = ap (λ (i : TableId). i.words) same in
    let whole : me.0.whole ≡ one.0.whole = ap (λ (p : Part). p.whole) part in
    let intake : IsIntake (seat_at id me.0).intake =
    record {
      some_clusters = omega (arith, first.known.intake.some_clusters, id_words);
      few_clusters = omega (arith, first.known.intake.few_clusters, id_words);
      some = omega (arith, first.known.intake.some, whole);
      small = known.small;
    } in
    record {
      bare = ap (λ (m : Me S Part). m.1) is;
      same_quota = omega (arith, first.same_quota, second.same_quota, ap (λ (p : Part). p.quota) part);
      same_spent = omega (
        arith,
        first.same_spent,
        second.same_spent,
        ap (λ (p : Part). sum p.submitted) part,
        sum-added one.0.submitted other.0.submitted,
      );
      same_takes = ap (λ b. b || its_takes) first.same_takes ∙ ap (λ b. one.0.takes || b) second.same_takes
          ∙ sym (ap (λ (p : Part). p.takes) part);
      same_taken = λ e. took.0 e ∙ sym (ap (λ (p : Part). p.taken) part);
      no_taken = took.1;
      looked = ap (λ (p : Part). p.looks) part;
      known = record {
        intake = intake;
        submitted_row = omega (
          arith,
          ap (λ (p : Part). length p.submitted) part,
          rows,
          first.known.submitted_row,
          id_words,
        );
        taken_row = omega (arith, ap (λ (p : Part). length p.taken) part, taken_rows, first.known.taken_row, id_words);
        some = omega (arith, first.known.some, ap (λ (p : Part). p.quota) part);
        of_whole = known.of_whole;
        within = known.within;
        taken_within = known.taken_within;
        idle = known.idle;
        no_swap = known.no_swap;
        whole_takes = known.whole_takes;
      };
    }

-- when a table is closed by a seat with the whole quota
pub closing_balances : {S : Type 0} (terms : Terms) (seat : ℕ) (part : Part) (words : List ℕ) (slots : List S) →
    Final (Seen (λ (s : State S Part). Account terms s.words s.views) seat part) words slots →
    part.quota ≡ terms.quota →
    length part.submitted ≡ terms.clusters → length part.taken ≡ terms.clusters →
    (part.submitted ≡ added part.taken words) × (length words ≡ terms.clusters)
closing_balances terms seat part words slots final whole submitted_row taken_row =
    let s = final.0 in
    let kept : Account terms s.words s.views = final.1.0 in
    let item = item_at s.views seat part final.1.1 in
    let row : length words ≡ terms.clusters = ap length (sym final.2) ∙ kept.row in (
      same_tally part.submitted (added part.taken words)
          (omega (arith, length-added part.taken words (omega (arith, taken_row, row)), submitted_row, taken_row))
          (λ k lt. subst (λ l. slice_index part.submitted k ≡ slice_index (added part.taken l) k) final.2
          (omega (
            arith,
            index-added part.taken s.words k,
            whole_balances terms s.words s.views kept seat part item
                whole k,
          ))),
      row,
    )

-- so that what was submitted is what the seat keeps as taken and what is left, and two such numbers add up in a word
pub closed : {S : Type 0} (terms : Terms) (id : TableId) (seat : ℕ) (me : Me S Part) (words : List ℕ) (slots : List S)
    (quota spent : ℕ) (takes : Bool) (taken left : List ℕ) → IsInside id me quota spent takes taken →
    Final (Seen (λ (s : State S Part). Account terms s.words s.views) seat me.0) words slots →
    IsWhole (seat_at id me.0) → me.0.whole ≡ terms.quota → id.words ≡ terms.clusters → left ≡ words →
    (me.0.submitted ≡ added taken left) × (sum taken + sum left < 2 ^ 64)
closed terms id seat me words slots quota spent takes taken left inside final whole same clusters is_left =
    let keeps : taken ≡ me.0.taken = inside.same_taken (inside.same_takes ∙ inside.known.whole_takes whole) in
    let balance = (closing_balances terms seat me.0 words slots final (omega (arith, whole, same))
    (omega (arith, inside.known.submitted_row, clusters)) (omega (arith, inside.known.taken_row, clusters))).0
    ∙ ap (λ l. added l words) (sym keeps) ∙ ap (λ l. added taken l) (sym is_left) in (
      balance,
      omega (
        arith,
        ap (λ l. sum l) balance,
        sum-added taken left,
        inside.known.within,
        inside.known.of_whole,
        inside.known.intake.small,
      ),
    )
