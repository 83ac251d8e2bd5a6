-- What the machine cuts of each word, and what it leaves there.
use Rattle.std.proofs.Common.{◌≡◌, ℕ, ◌+◌, ◌<◌, ◌==◌, Bool, true, false, not, ◌&&◌, ◌||◌, if◌then◌else◌, List, [], ◌∷◌, length, set, get_or, slice_index, slice_get, slice_set, Option, Some, None, refl, ap, sym, subst, ◌∙◌, inl, inr, arith}
use Rattle.std.specs.Prelude.{option_and_then}
use Rattle.std.proofs.lemmas.Bool.{cases_Bool, eqb-true, eqb-false}
use Rattle.std.proofs.lemmas.List.{length-set, get_or-set_same, get_or-set_other}
use Rattle.us_requests.specs.declared.asks.Ask.{Ask}
use Rattle.us_steps.specs.declared.steps.Step.{Step}
use Rattle.us_steps.specs.declared.steps.Step.TheVariants as step
use Rattle.us_steps.specs.Steps.{bytes_in, added_by, takes, ahead, behind}
use Rattle.us_steps.specs.Machines.{raised, are_set}
use Rattle.us_steps.specs.Tallies.{Tally, with_row, without_word, with_open, with_built, after, is_done, run, IsSized, unadded}
use Rattle.us_steps.proofs.CountLemmas.{total}
use Rattle.us_steps.proofs.TallyLemmas.{placed, neither, raised-in, raised-length, balance, balance_after, sized_after}
use Rattle.us_steps.proofs.StepLemmas.{found-true}
use Rattle.us_steps.proofs.FlagLemmas.{unset-full, set-none, clear-inside, set-other}

-- what the steps to come bring into the cut of a word, and what they leave in it
abbrev pub cut_to : List Ask → Tally → List Step → ℕ → ℕ
cut_to asks l steps q =
    slice_index l.cut q
    + (if get_or l.taken q true then 0 else slice_index l.words q + total (added_by asks q) (ahead (takes q) steps))

abbrev pub left_to : List Ask → Tally → List Step → ℕ → ℕ
left_to asks l steps q =
    if get_or l.taken q true then slice_index l.words q + total (added_by asks q) steps
    else total (added_by asks q) (behind (takes q) steps)

-- A step changes neither.

row_to : (asks : List Ask) (l : Tally) (row seat q : ℕ) (steps : List Step) → IsSized asks l →
    (cut_to asks (with_row asks l row) steps q ≡ cut_to asks l (step.Add row seat ∷ steps) q)
    × (left_to asks (with_row asks l row) steps q ≡ left_to asks l (step.Add row seat ∷ steps) q)
row_to asks l row seat q steps ready =
    let more : slice_index (raised l.words (slice_get asks row)) q ≡ slice_index l.words q + bytes_in q (slice_get asks row) =
    raised-in l.words asks row q ready.clusters in
    elim (cases_Bool (get_or l.taken q true)) [
      | inl full ↦ rw full (refl, omega (arith, more))
      | inr clear ↦ rw clear (omega (arith, more), refl)
    ]

word_to : (asks : List Ask) (l : Tally) (word seat q : ℕ) (steps : List Step) → IsSized asks l →
    get_or l.taken word true ≡ false →
    (cut_to asks (without_word l word) steps q ≡ cut_to asks l (step.Take word seat ∷ steps) q)
    × (left_to asks (without_word l word) steps q ≡ left_to asks l (step.Take word seat ∷ steps) q)
word_to asks l word seat q steps ready clear =
    let inside : word < length l.words = omega (arith, clear-inside l.taken word clear, ready.taken) in
    let all : ℕ = slice_index l.cut word + slice_index l.words word in
    elim (cases_Bool (word == q)) [
      | inl same ↦
          let at : word ≡ q = eqb-true word q same in
          let was : get_or l.taken q true ≡ false = ap (λ n. get_or l.taken n true) (sym at) ∙ clear in
          let now : get_or (slice_set l.taken word true) q true ≡ true =
          ap (λ n. get_or (set l.taken word true) n true) (sym at)
          ∙ get_or-set_same l.taken word true true (clear-inside l.taken word clear) in
          let cut : slice_index (slice_set l.cut word all) q ≡ slice_index l.cut q + slice_index l.words q =
          ap (λ n. get_or (set l.cut word all) n 0) (sym at)
          ∙ get_or-set_same l.cut word all 0 (omega (arith, inside, ready.cut))
          ∙ ap (λ n. slice_index l.cut n + slice_index l.words n) at in
          let left : slice_index (slice_set l.words word 0) q ≡ 0 =
          ap (λ n. get_or (set l.words word 0) n 0) (sym at) ∙ get_or-set_same l.words word 0 0 inside in
          rw (was, now, same) (omega (arith, cut), omega (arith, left))
      | inr other ↦
          let apart : q ≡ word → ⊥ = λ at. eqb-false word q other (sym at) in
          let flag : get_or (slice_set l.taken word true) q true ≡ get_or l.taken q true = set-other l.taken word q true apart in
          let cut : slice_index (slice_set l.cut word all) q ≡ slice_index l.cut q = get_or-set_other l.cut word q all 0 apart in
          let left : slice_index (slice_set l.words word 0) q ≡ slice_index l.words q = get_or-set_other l.words word q 0 0 apart in
          rw (flag, cut, left, other) (elim (cases_Bool (get_or l.taken q true)) [
            | inl full ↦ rw full (refl, omega arith)
            | inr free ↦ rw free (omega arith, refl)
          ])
    ]

abbrev IsKept : List Ask → Tally → Tally → Step → List Step → ℕ → Type 0
IsKept asks l next s steps q =
    (cut_to asks next steps q ≡ cut_to asks l (s ∷ steps) q) × (left_to asks next steps q ≡ left_to asks l (s ∷ steps) q)

open_to : (asks : List Ask) (l : Tally) (channel q : ℕ) (steps : List Step) →
    IsKept asks l (with_open l channel) (step.Open channel) steps q
open_to asks l channel q steps = elim (cases_Bool (get_or l.taken q true)) [
  | inl full ↦ rw full (refl, omega arith)
  | inr free ↦ rw free (omega arith, refl)
]

built_to : (asks : List Ask) (l : Tally) (channel q : ℕ) (steps : List Step) →
    IsKept asks l (with_built l channel) (step.Built channel) steps q
built_to asks l channel q steps = elim (cases_Bool (get_or l.taken q true)) [
  | inl full ↦ rw full (refl, omega arith)
  | inr free ↦ rw free (omega arith, refl)
]

kept_to : (asks : List Ask) (l next : Tally) (s : Step) (q : ℕ) (steps : List Step) → IsSized asks l →
    after asks l s ≡ Some next → IsKept asks l next s steps q
unfolding after
kept_to asks l next (step.Add row seat) q steps ready to =
    let at = placed (get_or l.added row true) (with_row asks l row) next to in
    subst (λ n. IsKept asks l n (step.Add row seat) steps q) at.1 (row_to asks l row seat q steps ready)
kept_to asks l next (step.Take word seat) q steps ready to =
    let at = placed (l.settled || get_or l.taken word true) (without_word l word) next to in
    subst (λ n. IsKept asks l n (step.Take word seat) steps q) at.1
    (word_to asks l word seat q steps ready (neither l.settled (get_or l.taken word true) at.0).1)
kept_to asks l next (step.Open channel) q steps ready to =
    let at = placed (get_or l.opened channel true) (with_open l channel) next to in
    subst (λ n. IsKept asks l n (step.Open channel) steps q) at.1 (open_to asks l channel q steps)
kept_to asks l next (step.Built channel) q steps ready to =
    let at = placed (not (get_or l.opened channel false) || get_or l.built channel true) (with_built l channel) next to in
    subst (λ n. IsKept asks l n (step.Built channel) steps q) at.1 (built_to asks l channel q steps)

-- All steps.

-- what the machine has in the end
pub record IsEnd (asks : List Ask) (l end : Tally) (steps : List Step) : Type 0 where
  pub cut : (q : ℕ) → slice_index end.cut q ≡ cut_to asks l steps q
  pub words : (q : ℕ) → slice_index end.words q ≡ left_to asks l steps q
  pub balance : (q : ℕ) → slice_index end.cut q + slice_index end.words q ≡ balance asks l q
  pub long : length end.cut ≡ length end.words
  pub same : length end.words ≡ length l.words

set-true : (flags : List Bool) → are_set flags ≡ true → (q : ℕ) → get_or flags q true ≡ true
set-true flags all q = unset-full flags q (set-none flags all q)

pub first-two : (a b c : Bool) → (a && (b && c)) ≡ true → (a ≡ true) × (b ≡ true)
first-two true true c is = (refl, refl)
first-two true false c is = absurd (cc is)
first-two false b c is = absurd (cc is)

pub none-unadded : (q : ℕ) (asks : List Ask) (flags : List Bool) → are_set flags ≡ true → unadded q asks flags ≡ 0
none-unadded q [] flags all = refl
none-unadded q (ask ∷ asks) [] all = refl
none-unadded q (ask ∷ asks) (true ∷ flags) all = omega (arith, none-unadded q asks flags all)
none-unadded q (ask ∷ asks) (false ∷ flags) all = absurd (cc all)

words-long : (asks : List Ask) (l next : Tally) (s : Step) → after asks l s ≡ Some next → length next.words ≡ length l.words
unfolding after
words-long asks l next (step.Add row seat) to =
    let at = placed (get_or l.added row true) (with_row asks l row) next to in
    ap (λ n. length n.words) (sym at.1) ∙ raised-length l.words (slice_get asks row)
words-long asks l next (step.Take word seat) to =
    let at = placed (l.settled || get_or l.taken word true) (without_word l word) next to in
    ap (λ n. length n.words) (sym at.1) ∙ length-set l.words word 0
words-long asks l next (step.Open channel) to =
    let at = placed (get_or l.opened channel true) (with_open l channel) next to in
    ap (λ n. length n.words) (sym at.1)
words-long asks l next (step.Built channel) to =
    let at = placed (not (get_or l.opened channel false) || get_or l.built channel true) (with_built l channel) next to in
    ap (λ n. length n.words) (sym at.1)

done-end : (asks : List Ask) (l : Tally) → IsSized asks l → is_done l ≡ true → IsEnd asks l l []
done-end asks l ready done =
    let both = first-two (are_set l.added) (are_set l.taken) (are_set l.opened && are_set l.built) done in
    record {
      cut = λ q. rw (set-true l.taken both.1 q) (omega arith);
      words = λ q. rw (set-true l.taken both.1 q) (omega arith);
      balance = λ q. omega (arith, none-unadded q asks l.added both.0);
      long = ready.cut;
      same = refl;
    }

pub run_end_is : (asks : List Ask) (l end : Tally) (steps : List Step) → IsSized asks l → run asks l steps ≡ Some end →
    IsEnd asks l end steps
unfolding run
run_end_is asks l end [] ready to =
    let is = found-true (is_done l) l end to in
    subst (λ e. IsEnd asks l e []) is.1 (done-end asks l ready is.0)
run_end_is asks l end (s ∷ steps) ready to =
    by (after asks l s) refl (λ next. run_end_is asks next end steps)
  where
    by : (found : Option Tally) → after asks l s ≡ found →
        ((next : Tally) → IsSized asks next → run asks next steps ≡ Some end → IsEnd asks next end steps) →
        IsEnd asks l end (s ∷ steps)
    by None none rest = absurd (cc (ap (λ o. option_and_then (λ n. run asks n steps) o) (sym none) ∙ to))
    by (Some next) made rest =
        let more : IsEnd asks next end steps =
        rest next (sized_after asks l next s ready made)
        (ap (λ o. option_and_then (λ n. run asks n steps) o) (sym made) ∙ to) in
        record {
          cut = λ q. more.cut q ∙ (kept_to asks l next s q steps ready made).0;
          words = λ q. more.words q ∙ (kept_to asks l next s q steps ready made).1;
          balance = λ q. more.balance q ∙ balance_after asks l next s q ready made;
          long = more.long;
          same = more.same ∙ words-long asks l next s made;
        }
