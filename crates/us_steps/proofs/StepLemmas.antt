-- That a tally goes through a list of steps where the list is complete, and nowhere else.
use Rattle.std.proofs.Common.{◌≡◌, ℕ, zero, suc, ◌<◌, ◌==◌, Bool, true, false, not, ◌&&◌, ◌||◌, if◌then◌else◌, List, [], ◌∷◌, length, replicate, get_or, slice_set, Option, Some, None, refl, ap, sym, subst, ◌∙◌, inl, inr, arith}
use Rattle.std.specs.Prelude.{option_and_then}
use Rattle.std.specs.List.{AllByRecursion}
use Rattle.std.proofs.lemmas.Bool.{cases_Bool, eqb-true, eqb-false}
use Rattle.std.proofs.lemmas.List.{length-set, get_or-replicate, length-replicate, get_or_default}
use Rattle.us_requests.specs.declared.asks.Ask.{Ask}
use Rattle.us_steps.specs.declared.steps.Step.{Step}
use Rattle.us_steps.specs.declared.steps.Step.TheVariants as step
use Rattle.us_steps.specs.Steps.{behind, adds, takes, opens, builds, takes_one, opens_one, IsThere, IsComplete}
use Rattle.us_steps.specs.Machines.{are_set}
use Rattle.us_steps.specs.Tallies.{Tally, opening_tally, with_row, without_word, with_open, with_built, after, is_done, run}
use Rattle.us_round.proofs.StateLemmas.{eqb-self}
use Rattle.us_steps.proofs.TallyLemmas.{placed, unplaced, neither, not-false}
use Rattle.us_steps.proofs.CountLemmas.{count, IsCounted, complete-counted, counted-complete}
use Rattle.us_steps.proofs.FlagLemmas.{unset, unset-few, unset-full, clear-inside, set-same, set-other, set-counted, counted-set, set-over, set-none, none-set, unset-fresh, behind-few}

-- How many steps take a word too late, and how many tell that an opened channel is built: the ones behind its opening, all
-- of them where it is open already.

abbrev pub late_takes : Bool → List Step → ℕ
late_takes settled steps = if settled then count takes_one steps else count takes_one (behind opens_one steps)

abbrev pub late_builds : ℕ → Bool → List Step → ℕ
late_builds c opened steps = if opened then count (builds c) steps else count (builds c) (behind (opens c) steps)

-- there are as many flags as rows, words and channels
pub record IsFor (rows words channels : ℕ) (l : Tally) : Type 0 where
  pub added : length l.added ≡ rows
  pub taken : length l.taken ≡ words
  pub opened : length l.opened ≡ channels
  pub built : length l.built ≡ channels

-- the steps to come do all that isn't done yet
pub record Completes (rows words channels : ℕ) (l : Tally) (steps : List Step) : Type 0 where
  pub there : AllByRecursion (IsThere rows words channels) steps
  pub added : (r : ℕ) → r < rows → count (adds r) steps ≡ unset l.added r
  pub taken : (q : ℕ) → q < words → count (takes q) steps ≡ unset l.taken q
  pub opened : (c : ℕ) → c < channels → count (opens c) steps ≡ unset l.opened c
  pub built : (c : ℕ) → c < channels → count (builds c) steps ≡ unset l.built c
  pub settled : late_takes l.settled steps ≡ 0
  pub later : (c : ℕ) → c < channels → late_builds c (get_or l.opened c true) steps ≡ unset l.built c

-- A step that is none of these counts for nothing.

takes-add : (settled : Bool) (row seat : ℕ) (steps : List Step) →
    late_takes settled (step.Add row seat ∷ steps) ≡ late_takes settled steps
takes-add true row seat steps = refl
takes-add false row seat steps = refl

takes-built : (settled : Bool) (channel : ℕ) (steps : List Step) →
    late_takes settled (step.Built channel ∷ steps) ≡ late_takes settled steps
takes-built true channel steps = refl
takes-built false channel steps = refl

takes-open : (settled : Bool) (channel : ℕ) (steps : List Step) →
    late_takes settled (step.Open channel ∷ steps) ≡ count takes_one steps
takes-open true channel steps = refl
takes-open false channel steps = refl

builds-add : (c : ℕ) (opened : Bool) (row seat : ℕ) (steps : List Step) →
    late_builds c opened (step.Add row seat ∷ steps) ≡ late_builds c opened steps
builds-add c true row seat steps = refl
builds-add c false row seat steps = refl

builds-take : (c : ℕ) (opened : Bool) (word seat : ℕ) (steps : List Step) →
    late_builds c opened (step.Take word seat ∷ steps) ≡ late_builds c opened steps
builds-take c true word seat steps = refl
builds-take c false word seat steps = refl

-- once a channel is opened, all steps behind it may tell that it is built
builds-open : (c channel : ℕ) (flags : List Bool) (steps : List Step) → get_or flags channel true ≡ false →
    late_builds c (get_or flags c true) (step.Open channel ∷ steps)
    ≡ late_builds c (get_or (slice_set flags channel true) c true) steps
builds-open c channel flags steps clear = elim (cases_Bool (channel == c)) [
  | inl same ↦
      let at : channel ≡ c = eqb-true channel c same in
      let was : get_or flags c true ≡ false = ap (λ n. get_or flags n true) (sym at) ∙ clear in
      let none : unset (slice_set flags channel true) c ≡ 0 = set-same flags channel c clear (sym at) in
      let now : get_or (slice_set flags channel true) c true ≡ true = unset-full (slice_set flags channel true) c none in
      rw (was, now, same) refl
  | inr other ↦
      let now : get_or (slice_set flags channel true) c true ≡ get_or flags c true =
      set-other flags channel c true (λ at. eqb-false channel c other (sym at)) in
      rw now (apart (get_or flags c true) other)
]
  where
    apart : (opened : Bool) → (channel == c) ≡ false →
        late_builds c opened (step.Open channel ∷ steps) ≡ late_builds c opened steps
    apart true other = refl
    apart false other = rw other refl

builds-built : (c channel : ℕ) (opened : Bool) (steps : List Step) → (channel ≡ c → opened ≡ true) →
    late_builds c opened (step.Built channel ∷ steps)
    ≡ (if channel == c then suc (late_builds c opened steps) else late_builds c opened steps)
builds-built c channel true steps begun = refl
builds-built c channel false steps begun = elim (cases_Bool (channel == c)) [
  | inl same ↦ absurd (cc (begun (eqb-true channel c same)))
  | inr other ↦ rw other refl
]

-- One step.

for-after : (asks : List Ask) (rows words channels : ℕ) (l next : Tally) (s : Step) → IsFor rows words channels l →
    after asks l s ≡ Some next → IsFor rows words channels next
unfolding after
for-after asks rows words channels l next (step.Add row seat) is to =
    let at = placed (get_or l.added row true) (with_row asks l row) next to in
    subst (λ n. IsFor rows words channels n) at.1 (record {
      added = length-set l.added row true ∙ is.added;
      taken = is.taken;
      opened = is.opened;
      built = is.built;
    })
for-after asks rows words channels l next (step.Take word seat) is to =
    let at = placed (l.settled || get_or l.taken word true) (without_word l word) next to in
    subst (λ n. IsFor rows words channels n) at.1 (record {
      added = is.added;
      taken = length-set l.taken word true ∙ is.taken;
      opened = is.opened;
      built = is.built;
    })
for-after asks rows words channels l next (step.Open channel) is to =
    let at = placed (get_or l.opened channel true) (with_open l channel) next to in
    subst (λ n. IsFor rows words channels n) at.1 (record {
      added = is.added;
      taken = is.taken;
      opened = length-set l.opened channel true ∙ is.opened;
      built = is.built;
    })
for-after asks rows words channels l next (step.Built channel) is to =
    let at = placed (not (get_or l.opened channel false) || get_or l.built channel true) (with_built l channel) next to in
    subst (λ n. IsFor rows words channels n) at.1 (record {
      added = is.added;
      taken = is.taken;
      opened = is.opened;
      built = length-set l.built channel true ∙ is.built;
    })

-- a channel that is open is open by either reading
opened-true : (flags : List Bool) (i : ℕ) → get_or flags i false ≡ true → get_or flags i true ≡ true
opened-true [] i is = refl
opened-true (flag ∷ flags) zero is = is
opened-true (flag ∷ flags) (suc i) is = opened-true flags i is

-- what completes a tally completes it behind a step,
completes-after : (asks : List Ask) (rows words channels : ℕ) (l next : Tally) (s : Step) (steps : List Step) →
    after asks l s ≡ Some next → Completes rows words channels l (s ∷ steps) → Completes rows words channels next steps
unfolding after
completes-after asks rows words channels l next (step.Add row seat) steps to all =
    let at = placed (get_or l.added row true) (with_row asks l row) next to in
    subst (λ n. Completes rows words channels n steps) at.1 (record {
      there = all.there.1;
      added = λ r below. set-counted l.added row r (count (adds r) steps) at.0 (all.added r below);
      taken = all.taken;
      opened = all.opened;
      built = all.built;
      settled = sym (takes-add l.settled row seat steps) ∙ all.settled;
      later = λ c below. sym (builds-add c (get_or l.opened c true) row seat steps) ∙ all.later c below;
    })
completes-after asks rows words channels l next (step.Take word seat) steps to all =
    let at = placed (l.settled || get_or l.taken word true) (without_word l word) next to in
    let clear = neither l.settled (get_or l.taken word true) at.0 in
    let late : late_takes l.settled steps ≡ 0 = rw clear.0 (rw clear.0 at all.settled) in
    subst (λ n. Completes rows words channels n steps) at.1 (record {
      there = all.there.1;
      added = all.added;
      taken = λ q below. set-counted l.taken word q (count (takes q) steps) clear.1 (all.taken q below);
      opened = all.opened;
      built = all.built;
      settled = late;
      later = λ c below. sym (builds-take c (get_or l.opened c true) word seat steps) ∙ all.later c below;
    })
completes-after asks rows words channels l next (step.Open channel) steps to all =
    let at = placed (get_or l.opened channel true) (with_open l channel) next to in
    subst (λ n. Completes rows words channels n steps) at.1 (record {
      there = all.there.1;
      added = all.added;
      taken = all.taken;
      opened = λ c below. set-counted l.opened channel c (count (opens c) steps) at.0 (all.opened c below);
      built = all.built;
      settled = sym (takes-open l.settled channel steps) ∙ all.settled;
      later = λ c below. sym (builds-open c channel l.opened steps at.0) ∙ all.later c below;
    })
completes-after asks rows words channels l next (step.Built channel) steps to all =
    let at = placed (not (get_or l.opened channel false) || get_or l.built channel true) (with_built l channel) next to in
    let both = neither (not (get_or l.opened channel false)) (get_or l.built channel true) at.0 in
    let begun : get_or l.opened channel true ≡ true = opened-true l.opened channel (not-false (get_or l.opened channel false) both.0) in
    subst (λ n. Completes rows words channels n steps) at.1 (record {
      there = all.there.1;
      added = all.added;
      taken = all.taken;
      opened = all.opened;
      built = λ c below. set-counted l.built channel c (count (builds c) steps) both.1 (all.built c below);
      settled = sym (takes-built l.settled channel steps) ∙ all.settled;
      later = λ c below. set-counted l.built channel c (late_builds c (get_or l.opened c true) steps) both.1
          (sym (builds-built c channel (get_or l.opened c true) steps (λ same. ap (λ n. get_or l.opened n true) (sym same) ∙ begun))
          ∙ all.later c below);
    })

-- and with the step before it,
completes-before : (asks : List Ask) (rows words channels : ℕ) (l next : Tally) (s : Step) (steps : List Step) →
    IsFor rows words channels l → after asks l s ≡ Some next → Completes rows words channels next steps →
    Completes rows words channels l (s ∷ steps)
unfolding after
completes-before asks rows words channels l next (step.Add row seat) steps is to more =
    let at = placed (get_or l.added row true) (with_row asks l row) next to in
    let all : Completes rows words channels (with_row asks l row) steps =
    subst (λ n. Completes rows words channels n steps) (sym at.1) more in
    record {
      there = (omega (arith, clear-inside l.added row at.0, is.added), all.there);
      added = λ r below. counted-set l.added row r (count (adds r) steps) at.0 (all.added r below);
      taken = all.taken;
      opened = all.opened;
      built = all.built;
      settled = takes-add l.settled row seat steps ∙ all.settled;
      later = λ c below. builds-add c (get_or l.opened c true) row seat steps ∙ all.later c below;
    }
completes-before asks rows words channels l next (step.Take word seat) steps is to more =
    let at = placed (l.settled || get_or l.taken word true) (without_word l word) next to in
    let clear = neither l.settled (get_or l.taken word true) at.0 in
    let all : Completes rows words channels (without_word l word) steps =
    subst (λ n. Completes rows words channels n steps) (sym at.1) more in
    let late : late_takes l.settled (step.Take word seat ∷ steps) ≡ 0 = rw clear.0 (rw clear.0 at all.settled) in
    record {
      there = (omega (arith, clear-inside l.taken word clear.1, is.taken), all.there);
      added = all.added;
      taken = λ q below. counted-set l.taken word q (count (takes q) steps) clear.1 (all.taken q below);
      opened = all.opened;
      built = all.built;
      settled = late;
      later = λ c below. builds-take c (get_or l.opened c true) word seat steps ∙ all.later c below;
    }
completes-before asks rows words channels l next (step.Open channel) steps is to more =
    let at = placed (get_or l.opened channel true) (with_open l channel) next to in
    let all : Completes rows words channels (with_open l channel) steps =
    subst (λ n. Completes rows words channels n steps) (sym at.1) more in
    record {
      there = (omega (arith, clear-inside l.opened channel at.0, is.opened), all.there);
      added = all.added;
      taken = all.taken;
      opened = λ c below. counted-set l.opened channel c (count (opens c) steps) at.0 (all.opened c below);
      built = all.built;
      settled = takes-open l.settled channel steps ∙ all.settled;
      later = λ c below. builds-open c channel l.opened steps at.0 ∙ all.later c below;
    }
completes-before asks rows words channels l next (step.Built channel) steps is to more =
    let at = placed (not (get_or l.opened channel false) || get_or l.built channel true) (with_built l channel) next to in
    let both = neither (not (get_or l.opened channel false)) (get_or l.built channel true) at.0 in
    let begun : get_or l.opened channel true ≡ true = opened-true l.opened channel (not-false (get_or l.opened channel false) both.0) in
    let all : Completes rows words channels (with_built l channel) steps =
    subst (λ n. Completes rows words channels n steps) (sym at.1) more in
    record {
      there = (omega (arith, clear-inside l.built channel both.1, is.built), all.there);
      added = all.added;
      taken = all.taken;
      opened = all.opened;
      built = λ c below. counted-set l.built channel c (count (builds c) steps) both.1 (all.built c below);
      settled = takes-built l.settled channel steps ∙ all.settled;
      later = λ c below.
          builds-built c channel (get_or l.opened c true) steps (λ same. ap (λ n. get_or l.opened n true) (sym same) ∙ begun)
          ∙ counted-set l.built channel c (late_builds c (get_or l.opened c true) steps) both.1 (all.later c below);
    }

-- and nothing completes it that begins with a step without a place there
counted-here : (flags : List Bool) (i n : ℕ) → (if i == i then suc n else n) ≡ unset flags i → suc n ≡ unset flags i
counted-here flags i n is = rw (eqb-self i i refl) at is

refused : (asks : List Ask) (rows words channels : ℕ) (l : Tally) (s : Step) (steps : List Step) →
    IsFor rows words channels l → after asks l s ≡ None → Completes rows words channels l (s ∷ steps) → ⊥
unfolding after
refused asks rows words channels l (step.Add row seat) steps is none all =
    set-over l.added row (count (adds row) steps) (unplaced (get_or l.added row true) (with_row asks l row) none)
    (all.added row all.there.0)
refused asks rows words channels l (step.Take word seat) steps is none all = elim (cases_Bool l.settled) [
  | inl late ↦ absurd (cc (rw late at all.settled))
  | inr early ↦
      let full : get_or l.taken word true ≡ true =
      rw early at (unplaced (l.settled || get_or l.taken word true) (without_word l word) none) in
      set-over l.taken word (count (takes word) steps) full (all.taken word all.there.0)
]
refused asks rows words channels l (step.Open channel) steps is none all =
    set-over l.opened channel (count (opens channel) steps)
    (unplaced (get_or l.opened channel true) (with_open l channel) none) (all.opened channel all.there.0)
refused asks rows words channels l (step.Built channel) steps is none all = elim (cases_Bool (get_or l.opened channel true)) [
  | inl begun ↦
      let out : get_or l.opened channel false ≡ true =
      get_or_default l.opened channel false true (omega (arith, is.opened, all.there.0)) ∙ begun in
      let full : get_or l.built channel true ≡ true =
      rw out at (unplaced (not (get_or l.opened channel false) || get_or l.built channel true) (with_built l channel) none) in
      set-over l.built channel (count (builds channel) steps) full (all.built channel all.there.0)
  | inr home ↦
      let one : suc (count (builds channel) steps) ≡ unset l.built channel =
      counted-here l.built channel (count (builds channel) steps) (all.built channel all.there.0) in
      let later : count (builds channel) (behind (opens channel) steps) ≡ unset l.built channel =
      rw home at (all.later channel all.there.0) in
      omega (arith, one, later, unset-few l.built channel, behind-few (builds channel) (opens channel) steps)
]

-- All steps.

pub found-true : {X : Type 0} (b : Bool) (x y : X) → (if b then Some x else None) ≡ Some y → (b ≡ true) × (x ≡ y)
found-true true x y is = (refl, cc)
found-true false x y is = absurd (cc is)

pub last-three : (a b c : Bool) → (a && (b && c)) ≡ true → c ≡ true
last-three true true c is = is
last-three true false c is = absurd (cc is)
last-three false b c is = absurd (cc is)

all-four : (a b c d : Bool) → a ≡ true → b ≡ true → c ≡ true → d ≡ true → (a && (b && (c && d))) ≡ true
all-four a b c d i j k h = rw (i, j, k, h) refl

each-four : (a b c d : Bool) → (a && (b && (c && d))) ≡ true → (a ≡ true) × (b ≡ true) × (c ≡ true) × (d ≡ true)
each-four true true true true is = (refl, refl, refl, refl)
each-four true true true false is = absurd (cc is)
each-four true true false d is = absurd (cc is)
each-four true false c d is = absurd (cc is)
each-four false b c d is = absurd (cc is)

-- where nothing is to be done any more, no step completes a tally that is done, and none other
done-none : (rows words channels : ℕ) (l : Tally) → IsFor rows words channels l → Completes rows words channels l [] →
    is_done l ≡ true
done-none rows words channels l is all =
    all-four (are_set l.added) (are_set l.taken) (are_set l.opened) (are_set l.built)
    (none-set l.added (λ i below. all.added i (omega (arith, below, is.added))))
    (none-set l.taken (λ i below. all.taken i (omega (arith, below, is.taken))))
    (none-set l.opened (λ i below. all.opened i (omega (arith, below, is.opened))))
    (none-set l.built (λ i below. all.built i (omega (arith, below, is.built))))

none-done : (rows words channels : ℕ) (l : Tally) → is_done l ≡ true → Completes rows words channels l []
none-done rows words channels l done =
    let each = each-four (are_set l.added) (are_set l.taken) (are_set l.opened) (are_set l.built) done in
    record {
      there = tt;
      added = λ r below. sym (set-none l.added each.0 r);
      taken = λ q below. sym (set-none l.taken each.1 q);
      opened = λ c below. sym (set-none l.opened each.2 c);
      built = λ c below. sym (set-none l.built each.3 c);
      settled = no-takes l.settled;
      later = λ c below. no-builds c (get_or l.opened c true) ∙ sym (set-none l.built each.3 c);
    }
  where
    no-takes : (settled : Bool) → late_takes settled [] ≡ 0
    no-takes true = refl
    no-takes false = refl

    no-builds : (c : ℕ) (opened : Bool) → late_builds c opened [] ≡ 0
    no-builds c true = refl
    no-builds c false = refl

-- the machine goes through the steps that complete its tally,
pub complete_runs : (asks : List Ask) (rows words channels : ℕ) (l : Tally) (steps : List Step) →
    IsFor rows words channels l → Completes rows words channels l steps → run asks l steps ≡ None → ⊥
unfolding run
complete_runs asks rows words channels l [] is all none =
    absurd (cc (rw (done-none rows words channels l is all) at none))
complete_runs asks rows words channels l (s ∷ steps) is all none =
    by (after asks l s) refl (λ next. complete_runs asks rows words channels next steps)
  where
    by : (found : Option Tally) → after asks l s ≡ found →
        ((next : Tally) → IsFor rows words channels next → Completes rows words channels next steps →
        run asks next steps ≡ None → ⊥) → ⊥
    by None to rest = refused asks rows words channels l s steps is to all
    by (Some next) to rest =
        rest next (for-after asks rows words channels l next s is to)
        (completes-after asks rows words channels l next s steps to all)
        (ap (λ o. option_and_then (λ n. run asks n steps) o) (sym to) ∙ none)

-- and through no others
pub runs_complete : (asks : List Ask) (rows words channels : ℕ) (l end : Tally) (steps : List Step) →
    IsFor rows words channels l → run asks l steps ≡ Some end → Completes rows words channels l steps
unfolding run
runs_complete asks rows words channels l end [] is to =
    none-done rows words channels l (found-true (is_done l) l end to).0
runs_complete asks rows words channels l end (s ∷ steps) is to =
    by (after asks l s) refl (λ next. runs_complete asks rows words channels next end steps)
  where
    by : (found : Option Tally) → after asks l s ≡ found →
        ((next : Tally) → IsFor rows words channels next → run asks next steps ≡ Some end →
        Completes rows words channels next steps) → Completes rows words channels l (s ∷ steps)
    by None none rest = absurd (cc (ap (λ o. option_and_then (λ n. run asks n steps) o) (sym none) ∙ to))
    by (Some next) made rest =
        completes-before asks rows words channels l next s steps is made
        (rest next (for-after asks rows words channels l next s is made)
        (ap (λ o. option_and_then (λ n. run asks n steps) o) (sym made) ∙ to))

-- From the opening.

opening-for : (words : List ℕ) (rows channels : ℕ) →
    IsFor rows (length words) channels (opening_tally words rows channels)
opening-for words rows channels = record {
  added = length-replicate rows false;
  taken = length-replicate (length words) false;
  opened = length-replicate channels false;
  built = length-replicate channels false;
}

fresh : (n i : ℕ) → i < n → get_or (replicate n false) i true ≡ false
fresh n i below = get_or-replicate n i false true below

opening-completes : (words : List ℕ) (rows channels : ℕ) (steps : List Step) →
    IsCounted rows (length words) channels steps →
    Completes rows (length words) channels (opening_tally words rows channels) steps
opening-completes words rows channels steps all = record {
  there = all.there;
  added = λ r below. all.added r below ∙ sym (unset-fresh rows r below);
  taken = λ q below. all.taken q below ∙ sym (unset-fresh (length words) q below);
  opened = λ c below. all.opened c below ∙ sym (unset-fresh channels c below);
  built = λ c below. all.built c below ∙ sym (unset-fresh channels c below);
  settled = all.settled;
  later = λ c below.
      ap (λ b. late_builds c b steps) (fresh channels c below) ∙ all.later c below ∙ sym (unset-fresh channels c below);
}

completes-opening : (words : List ℕ) (rows channels : ℕ) (steps : List Step) →
    Completes rows (length words) channels (opening_tally words rows channels) steps →
    IsCounted rows (length words) channels steps
completes-opening words rows channels steps all = record {
  there = all.there;
  added = λ r below. all.added r below ∙ unset-fresh rows r below;
  taken = λ q below. all.taken q below ∙ unset-fresh (length words) q below;
  opened = λ c below. all.opened c below ∙ unset-fresh channels c below;
  built = λ c below. all.built c below ∙ unset-fresh channels c below;
  settled = all.settled;
  later = λ c below.
      ap (λ b. late_builds c b steps) (sym (fresh channels c below)) ∙ all.later c below ∙ unset-fresh channels c below;
}

-- the machine goes through complete lists, and through no others
pub complete : (asks : List Ask) (words : List ℕ) (channels : ℕ) (end : Tally) (steps : List Step) →
    run asks (opening_tally words (length asks) channels) steps ≡ Some end →
    IsComplete (length asks) (length words) channels steps
complete asks words channels end steps to =
    counted-complete (completes-opening words (length asks) channels steps
    (runs_complete asks (length asks) (length words) channels (opening_tally words (length asks) channels) end steps
    (opening-for words (length asks) channels) to))

pub incomplete : (asks : List Ask) (words : List ℕ) (channels : ℕ) (steps : List Step) →
    run asks (opening_tally words (length asks) channels) steps ≡ None →
    IsComplete (length asks) (length words) channels steps → ⊥
incomplete asks words channels steps none all =
    complete_runs asks (length asks) (length words) channels (opening_tally words (length asks) channels) steps
    (opening-for words (length asks) channels) (opening-completes words (length asks) channels steps (complete-counted all)) none
