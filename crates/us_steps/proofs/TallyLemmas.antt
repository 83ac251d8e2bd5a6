-- What a tally keeps from step to step: nothing is lost, and no number grows too large.
use Rattle.std.proofs.Common.{◌≡◌, ℕ, zero, suc, ◌+◌, ◌^◌, ◌<◌, ◌≤◌, ◌==◌, Bool, true, false, not, ◌||◌, if◌then◌else◌, List, [], ◌∷◌, length, drop, set, get_or, slice_index, slice_get, slice_set, Option, Some, None, refl, ap, sym, subst, ◌∙◌, inl, inr, arith}
use Rattle.std.specs.Prelude.{option_and_then}
use Rattle.std.specs.List.{AllByRecursion}
use Rattle.std.proofs.lemmas.Bool.{cases_Bool, eqb-true, eqb-false}
use Rattle.std.proofs.lemmas.List.{length-set, get_or-set_same, get_or-set_other, drop_more, drop_all}
use Rattle.std.proofs.lemmas.Option.{slice_get-get_or}
use Rattle.us_requests.specs.declared.asks.Ask.{Ask}
use Rattle.us_steps.specs.declared.steps.Step.{Step}
use Rattle.us_steps.specs.declared.steps.Step.TheVariants as step
use Rattle.us_steps.specs.Steps.{bytes_for, bytes_in}
use Rattle.us_steps.specs.Machines.{raised}
use Rattle.us_steps.specs.Tallies.{Tally, with_row, without_word, with_open, with_built, after, is_done, run, IsReady, IsSized, unadded}
use Rattle.us_output.proofs.PartLemmas.{all_found}
use Rattle.us_round.proofs.StateLemmas.{eqb-self}
use Rattle.us_steps.proofs.FlagLemmas.{clear-inside}

-- What a step that has a place there tells.

pub placed : {X : Type 0} (refused : Bool) (x y : X) → (if refused then None else Some x) ≡ Some y →
    (refused ≡ false) × (x ≡ y)
placed true x y is = absurd (cc is)
placed false x y is = (refl, cc)

pub unplaced : {X : Type 0} (refused : Bool) (x : X) → (if refused then None else Some x) ≡ None → refused ≡ true
unplaced true x is = refl
unplaced false x is = absurd (cc is)

pub neither : (a b : Bool) → (a || b) ≡ false → (a ≡ false) × (b ≡ false)
neither true b is = absurd (cc is)
neither false b is = (refl, is)

pub not-false : (a : Bool) → not a ≡ false → a ≡ true
not-false true is = refl
not-false false is = absurd (cc is)

pub not-true : (a : Bool) → not a ≡ true → a ≡ false
not-true true is = absurd (cc is)
not-true false is = refl

-- Rows that aren't added yet.

pub unadded-set : (q : ℕ) (rows : List Ask) (flags : List Bool) (row : ℕ) → length flags ≡ length rows →
    get_or flags row true ≡ false →
    unadded q rows (slice_set flags row true) + bytes_in q (slice_get rows row) ≡ unadded q rows flags
unadded-set q [] flags row long clear = absurd (omega (arith, long, clear-inside flags row clear))
unadded-set q (ask ∷ rows) [] row long clear = absurd (cc clear)
unadded-set q (ask ∷ rows) (true ∷ flags) zero long clear = absurd (cc clear)
unadded-set q (ask ∷ rows) (false ∷ flags) zero long clear = omega arith
unadded-set q (ask ∷ rows) (flag ∷ flags) (suc row) long clear =
    omega (arith, unadded-set q rows flags row (omega (arith, long)) clear)

-- a word with the bytes of an ask
pub raised-at : (words : List ℕ) (ask : Ask) (q : ℕ) → ask.cluster < length words →
    slice_index (raised words (Some ask)) q ≡ slice_index words q + bytes_for q ask
raised-at words ask q inside = elim (cases_Bool (ask.cluster == q)) [
  | inl same ↦
      let at : ask.cluster ≡ q = eqb-true ask.cluster q same in
      let now : slice_index (raised words (Some ask)) q ≡ slice_index words ask.cluster + ask.bytes =
      ap (λ n. get_or (raised words (Some ask)) n 0) (sym at)
      ∙ get_or-set_same words ask.cluster (slice_index words ask.cluster + ask.bytes) 0 inside in
      rw same (now ∙ ap (λ n. slice_index words n + ask.bytes) at)
  | inr other ↦
      let now : slice_index (raised words (Some ask)) q ≡ slice_index words q =
      get_or-set_other words ask.cluster q (slice_index words ask.cluster + ask.bytes) 0 (λ at. eqb-false ask.cluster q other (sym at)) in
      rw other (omega (arith, now))
]

pub raised-in : (words : List ℕ) (rows : List Ask) (row q : ℕ) →
    AllByRecursion (λ ask. ask.cluster < length words) rows →
    slice_index (raised words (slice_get rows row)) q ≡ slice_index words q + bytes_in q (slice_get rows row)
raised-in words rows row q all = by (slice_get rows row) refl
  where
    by : (found : Option Ask) → slice_get rows row ≡ found →
        slice_index (raised words found) q ≡ slice_index words q + bytes_in q found
    by None is = omega arith
    by (Some ask) is = raised-at words ask q (all_found (λ a. a.cluster < length words) rows row ask all is)

pub raised-length : (words : List ℕ) (found : Option Ask) → length (raised words found) ≡ length words
raised-length words None = refl
raised-length words (Some ask) = length-set words ask.cluster (slice_index words ask.cluster + ask.bytes)

-- what a word has moves into the cut
pub moved : (cut words : List ℕ) (w q : ℕ) → w < length words → length cut ≡ length words →
    slice_index (slice_set cut w (slice_index cut w + slice_index words w)) q + slice_index (slice_set words w 0) q
    ≡ slice_index cut q + slice_index words q
moved cut words w q inside long = elim (cases_Bool (w == q)) [
  | inl same ↦
      let at : w ≡ q = eqb-true w q same in
      let first : slice_index (slice_set cut w (slice_index cut w + slice_index words w)) q ≡ slice_index cut w + slice_index words w =
      ap (λ n. get_or (set cut w (slice_index cut w + slice_index words w)) n 0) (sym at)
      ∙ get_or-set_same cut w (slice_index cut w + slice_index words w) 0 (omega (arith, inside, long)) in
      let after_it : slice_index (slice_set words w 0) q ≡ 0 =
      ap (λ n. get_or (set words w 0) n 0) (sym at) ∙ get_or-set_same words w 0 0 inside in
      let whole : slice_index cut w + slice_index words w ≡ slice_index cut q + slice_index words q =
      ap (λ n. slice_index cut n + slice_index words n) at in
      omega (arith, first, after_it, whole)
  | inr other ↦
      let first : slice_index (slice_set cut w (slice_index cut w + slice_index words w)) q ≡ slice_index cut q =
      get_or-set_other cut w q (slice_index cut w + slice_index words w) 0 (λ at. eqb-false w q other (sym at)) in
      let after_it : slice_index (slice_set words w 0) q ≡ slice_index words q =
      get_or-set_other words w q 0 0 (λ at. eqb-false w q other (sym at)) in
      omega (arith, first, after_it)
]

-- the bytes of a cluster in all places: its cut, its word, and its rows that aren't added yet
abbrev pub balance : List Ask → Tally → ℕ → ℕ
balance rows l q = slice_index l.cut q + (slice_index l.words q + unadded q rows l.added)

pub row_balance : (rows : List Ask) (l : Tally) (row q : ℕ) → IsSized rows l → get_or l.added row true ≡ false →
    balance rows (with_row rows l row) q ≡ balance rows l q
row_balance rows l row q ready clear =
    omega (arith, raised-in l.words rows row q ready.clusters, unadded-set q rows l.added row ready.added clear)

pub word_balance : (rows : List Ask) (l : Tally) (word q : ℕ) → IsSized rows l → get_or l.taken word true ≡ false →
    balance rows (without_word l word) q ≡ balance rows l q
word_balance rows l word q ready clear =
    let inside : word < length l.words = omega (arith, clear-inside l.taken word clear, ready.taken) in
    omega (arith, moved l.cut l.words word q inside ready.cut)

sized_row : (rows : List Ask) (l : Tally) (row : ℕ) → IsSized rows l → get_or l.added row true ≡ false →
    IsSized rows (with_row rows l row)
sized_row rows l row ready clear =
    let long : length (raised l.words (slice_get rows row)) ≡ length l.words = raised-length l.words (slice_get rows row) in
    record {
      added = length-set l.added row true ∙ ready.added;
      clusters = subst (λ n. AllByRecursion (λ ask. ask.cluster < n) rows) (sym long) ready.clusters;
      cut = ready.cut ∙ sym long;
      taken = ready.taken ∙ sym long;
      built = ready.built;
    }

sized_word : (rows : List Ask) (l : Tally) (word : ℕ) → IsSized rows l → get_or l.taken word true ≡ false →
    IsSized rows (without_word l word)
sized_word rows l word ready clear =
    let long : length (slice_set l.words word 0) ≡ length l.words = length-set l.words word 0 in
    record {
      added = ready.added;
      clusters = subst (λ n. AllByRecursion (λ ask. ask.cluster < n) rows) (sym long) ready.clusters;
      cut = length-set l.cut word (slice_index l.cut word + slice_index l.words word) ∙ ready.cut ∙ sym long;
      taken = length-set l.taken word true ∙ ready.taken ∙ sym long;
      built = ready.built;
    }

sized_open : (rows : List Ask) (l : Tally) (channel : ℕ) → IsSized rows l → IsSized rows (with_open l channel)
sized_open rows l channel ready = record {
  added = ready.added;
  clusters = ready.clusters;
  cut = ready.cut;
  taken = ready.taken;
  built = ready.built ∙ sym (length-set l.opened channel true);
}

sized_built : (rows : List Ask) (l : Tally) (channel : ℕ) → IsSized rows l → IsSized rows (with_built l channel)
sized_built rows l channel ready = record {
  added = ready.added;
  clusters = ready.clusters;
  cut = ready.cut;
  taken = ready.taken;
  built = length-set l.built channel true ∙ ready.built;
}

-- no step changes how many there are,
pub sized_after : (rows : List Ask) (l next : Tally) (s : Step) → IsSized rows l → after rows l s ≡ Some next →
    IsSized rows next
unfolding after
sized_after rows l next (step.Add row seat) ready is =
    let at = placed (get_or l.added row true) (with_row rows l row) next is in
    subst (λ n. IsSized rows n) at.1 (sized_row rows l row ready at.0)
sized_after rows l next (step.Take word seat) ready is =
    let at = placed (l.settled || get_or l.taken word true) (without_word l word) next is in
    subst (λ n. IsSized rows n) at.1 (sized_word rows l word ready (neither l.settled (get_or l.taken word true) at.0).1)
sized_after rows l next (step.Open channel) ready is =
    let at = placed (get_or l.opened channel true) (with_open l channel) next is in
    subst (λ n. IsSized rows n) at.1 (sized_open rows l channel ready)
sized_after rows l next (step.Built channel) ready is =
    let at = placed (not (get_or l.opened channel false) || get_or l.built channel true) (with_built l channel) next is in
    subst (λ n. IsSized rows n) at.1 (sized_built rows l channel ready)

-- and no byte is lost
pub balance_after : (rows : List Ask) (l next : Tally) (s : Step) (q : ℕ) → IsSized rows l → after rows l s ≡ Some next →
    balance rows next q ≡ balance rows l q
unfolding after
balance_after rows l next (step.Add row seat) q ready is =
    let at = placed (get_or l.added row true) (with_row rows l row) next is in
    ap (λ n. balance rows n q) (sym at.1) ∙ row_balance rows l row q ready at.0
balance_after rows l next (step.Take word seat) q ready is =
    let at = placed (l.settled || get_or l.taken word true) (without_word l word) next is in
    ap (λ n. balance rows n q) (sym at.1)
    ∙ word_balance rows l word q ready (neither l.settled (get_or l.taken word true) at.0).1
balance_after rows l next (step.Open channel) q ready is =
    let at = placed (get_or l.opened channel true) (with_open l channel) next is in
    ap (λ n. balance rows n q) (sym at.1)
balance_after rows l next (step.Built channel) q ready is =
    let at = placed (not (get_or l.opened channel false) || get_or l.built channel true) (with_built l channel) next is in
    ap (λ n. balance rows n q) (sym at.1)

-- so there is room still
pub ready_after : (rows : List Ask) (l next : Tally) (s : Step) → IsReady rows l → after rows l s ≡ Some next →
    IsReady rows next
ready_after rows l next s ready is = record {
  sized = sized_after rows l next s ready.sized is;
  room = λ q. omega (arith, ready.room q, balance_after rows l next s q ready.sized is);
}

-- a row's bytes have room in its word
pub row_room : (rows : List Ask) (l : Tally) (row : ℕ) (d : Ask) → IsReady rows l → get_or l.added row true ≡ false →
    slice_index l.words (get_or rows row d).cluster + (get_or rows row d).bytes < 2 ^ 62
row_room rows l row d ready clear =
    let ask : Ask = get_or rows row d in
    let inside : row < length rows = omega (arith, clear-inside l.added row clear, ready.sized.added) in
    let own : bytes_in ask.cluster (slice_get rows row) ≡ ask.bytes =
    ap (λ found. bytes_in ask.cluster found) (slice_get-get_or rows row d inside)
    ∙ ap (λ b. if b then ask.bytes else 0) (eqb-self ask.cluster ask.cluster refl) in
    omega (arith, ready.room ask.cluster, unadded-set ask.cluster rows l.added row ready.sized.added clear, own)

-- what adding a row leaves
pub row_added : (rows : List Ask) (l m : Tally) (row : ℕ) (d : Ask) (words : List ℕ) (added : List Bool) → m ≡ l →
    length l.added ≡ length rows → get_or l.added row true ≡ false →
    words ≡ raised m.words (Some (get_or rows row d)) → added ≡ slice_set m.added row true →
    (if get_or l.added row true then None else Some (with_row rows l row)) ≡ Some (record {
      words = words;
      cut = m.cut;
      added = added;
      taken = m.taken;
      opened = m.opened;
      built = m.built;
      settled = m.settled;
    })
row_added rows l m row d words added same long clear more flag =
    let inside : row < length rows = omega (arith, clear-inside l.added row clear, long) in
    rw (clear, more, flag, same) (ap (λ found. Some (record {
      words = raised l.words found;
      cut = l.cut;
      added = slice_set l.added row true;
      taken = l.taken;
      opened = l.opened;
      built = l.built;
      settled = l.settled;
    })) (slice_get-get_or rows row d inside))

-- All steps.

-- the first of them, and then the others,
pub run_first : (rows : List Ask) (l : Tally) (steps : List Step) (i : ℕ) (d : Step) (next : Option Tally) →
    i < length steps → after rows l (get_or steps i d) ≡ next →
    run rows l (drop i steps) ≡ option_and_then (λ n. run rows n (drop (i + 1) steps)) next
unfolding run
run_first rows l steps i d next below to =
    ap (λ rest. run rows l rest) (drop_more steps i d below)
    ∙ ap (λ n. option_and_then (λ m. run rows m (drop (i + 1) steps)) n) to

-- and behind the last
pub run_end : (rows : List Ask) (l : Tally) (steps : List Step) (i : ℕ) → length steps ≤ i →
    run rows l (drop i steps) ≡ (if is_done l then Some l else None)
unfolding run
run_end rows l steps i past = ap (λ rest. run rows l rest) (drop_all i steps past)
