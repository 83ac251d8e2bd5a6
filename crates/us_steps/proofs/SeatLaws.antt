-- What seats added and took: it balances with words and cut, and changes nothing of them.
use Rattle.std.proofs.Common.{◌≡◌, ℕ, suc, ◌+◌, ◌<◌, ◌==◌, Bool, true, false, ◌&&◌, ◌||◌, if◌then◌else◌, List, [], ◌∷◌, length, map, set, get_or, slice_index, slice_get, slice_set, Option, Some, None, refl, ap, sym, subst, ◌∙◌, inl, inr, arith}
use Rattle.std.specs.Prelude.{option_map, option_and_then}
use Rattle.std.specs.List.{AllByRecursion, sum_by, count_by}
use Rattle.std.proofs.lemmas.Bool.{cases_Bool, eqb-true, eqb-false}
use Rattle.std.proofs.lemmas.List.{get_or-set_same, get_or-set_other}
use Rattle.us_requests.specs.declared.asks.Ask.{Ask}
use Rattle.us_round.specs.Rounds.{State, begun, fills_of}
use Rattle.us_steps.specs.declared.steps.Step.{Step}
use Rattle.us_steps.specs.declared.steps.Step.TheVariants as step
use Rattle.us_steps.specs.Steps.{bytes_for, bytes_in}
use Rattle.us_steps.specs.Machines.{Stand, Seats, Machine, no_seats, opening_machine, with_row, without_word, with_channel, opened, built, any_open, after_step, are_set, is_built, is_done, run}
use Rattle.us_steps.specs.Tallies.{IsSized, unadded, tally_of, after}
use Rattle.us_steps.specs.Laws.{IsSeated, all_added, all_took, Balances, unseated, with_seats, SeatsChangeNothing}
use Rattle.us_steps.proofs.CountLemmas.{count, counted, total, totalled}
use Rattle.us_steps.proofs.TallyLemmas.{placed, neither, unadded-set, sized_after}
use Rattle.us_steps.proofs.FlagLemmas.{clear-inside}
use Rattle.us_steps.proofs.StepLemmas.{found-true}
use Rattle.us_steps.proofs.CutLemmas.{IsEnd, none-unadded, first-two}
use Rattle.us_steps.proofs.PlayLemmas.{opening-sized, unadded-fresh, asked-total, zeros}
use Rattle.us_steps.proofs.MachineLemmas.{step-tally, opening-is}

-- Sums over seats.

-- nothing is added where a seat doesn't stand,
raised-nowhere : (f g : ℕ → ℕ) (by n : ℕ) (seats : List ℕ) →
    ((seat : ℕ) → g seat ≡ (if seat == by then f seat + n else f seat)) → count (λ seat. seat == by) seats ≡ 0 →
    total g seats ≡ total f seats
raised-nowhere f g by n [] each none = refl
raised-nowhere f g by n (seat ∷ seats) each none = elim (cases_Bool (seat == by)) [
  | inl same ↦ absurd (cc (rw same at none))
  | inr other ↦
      let here : g seat ≡ f seat = rw other at (each seat) in
      omega (arith, here, raised-nowhere f g by n seats each (rw other at none))
]

-- and what is added at one that stands once is added to the sum
raised-once : (f g : ℕ → ℕ) (by n : ℕ) (seats : List ℕ) →
    ((seat : ℕ) → g seat ≡ (if seat == by then f seat + n else f seat)) → count (λ seat. seat == by) seats ≡ 1 →
    total g seats ≡ total f seats + n
raised-once f g by n [] each once = absurd (omega (arith, once))
raised-once f g by n (seat ∷ seats) each once = elim (cases_Bool (seat == by)) [
  | inl same ↦
      let here : g seat ≡ f seat + n = rw same at (each seat) in
      let more : suc (count (λ s. s == by) seats) ≡ 1 = rw same at once in
      omega (arith, here, raised-nowhere f g by n seats each (omega (arith, more)))
  | inr other ↦
      let here : g seat ≡ f seat = rw other at (each seat) in
      omega (arith, here, raised-once f g by n seats each (rw other at once))
]

raised : (f g : ℕ → ℕ) (by n : ℕ) (seats : List ℕ) →
    ((seat : ℕ) → g seat ≡ (if seat == by then f seat + n else f seat)) → count_by (λ seat. seat == by) seats ≡ 1 →
    sum_by g seats ≡ sum_by f seats + n
raised f g by n seats each once =
    let sum = raised-once f g by n seats each (sym (counted (λ seat. seat == by) seats) ∙ once) in
    omega (arith, sum, totalled f seats, totalled g seats)

-- One step.

-- what a word has, where it is the one that is taken
abbrev taken_here : List ℕ → ℕ → ℕ → ℕ
taken_here words word q = if q == word then slice_index words q else 0

raised-both : (a b : Bool) (x n : ℕ) → (if a && b then x + n else x) ≡ (if a then x + (if b then n else 0) else x)
raised-both true true x n = refl
raised-both true false x n = omega arith
raised-both false b x n = refl

here-taken : (words : List ℕ) (word q : ℕ) → (if q == word then slice_index words word else 0) ≡ taken_here words word q
here-taken words word q = elim (cases_Bool (q == word)) [
  | inl same ↦ let at : q ≡ word = eqb-true q word same in rw same (ap (λ n. slice_index words n) (sym at))
  | inr other ↦ rw other refl
]

cut-more : (cut words : List ℕ) (word q : ℕ) → word < length cut →
    slice_index (slice_set cut word (slice_index cut word + slice_index words word)) q
    ≡ slice_index cut q + taken_here words word q
cut-more cut words word q inside = elim (cases_Bool (q == word)) [
  | inl same ↦
      let at : word ≡ q = sym (eqb-true q word same) in
      let now : slice_index (slice_set cut word (slice_index cut word + slice_index words word)) q
      ≡ slice_index cut word + slice_index words word =
      ap (λ n. get_or (set cut word (slice_index cut word + slice_index words word)) n 0) (sym at)
      ∙ get_or-set_same cut word (slice_index cut word + slice_index words word) 0 inside in
      rw same (now ∙ ap (λ n. slice_index cut n + slice_index words n) at)
  | inr other ↦
      let now : slice_index (slice_set cut word (slice_index cut word + slice_index words word)) q ≡ slice_index cut q =
      get_or-set_other cut word q (slice_index cut word + slice_index words word) 0 (λ at. eqb-false q word other at) in
      rw other (omega (arith, now))
]

-- what seats added goes on by the rows that are added, and what they took by the cut
pub record Goes (asks : List Ask) (seats : List ℕ) (q : ℕ) (m next : Machine) : Type 0 where
  pub added : all_added seats next q + unadded q asks next.added ≡ all_added seats m q + unadded q asks m.added
  pub took : all_took seats next q + slice_index m.cut q ≡ all_took seats m q + slice_index next.cut q

-- a step of a channel is none of a seat
stands-still : (asks : List Ask) (seats : List ℕ) (q : ℕ) (m next : Machine) (channel : ℕ) (found : Option Stand) →
    option_map (with_channel m channel) found ≡ Some next → Goes asks seats q m next
stands-still asks seats q m next channel None to = absurd (cc to)
stands-still asks seats q m next channel (Some stand) to =
    let same : with_channel m channel stand ≡ next = cc in
    subst (λ n. Goes asks seats q m n) same (record { added = refl; took = refl })

goes-after : (s : State) (asks : List Ask) (seats : List ℕ) (q : ℕ) (m next : Machine) (one : Step) →
    IsSized asks (tally_of m) → IsSeated seats one → after_step s asks m one ≡ Some next → Goes asks seats q m next
unfolding after_step
goes-after s asks seats q m next (step.Add row by) ready once to =
    let at = placed (get_or m.added row true) (with_row asks m row by) next to in
    let sum = raised (λ seat. m.seats.added seat q) (λ seat. (with_row asks m row by).seats.added seat q)
    by (bytes_in q (slice_get asks row)) seats (λ seat. refl) once in
    subst (λ n. Goes asks seats q m n) at.1 (record {
      added = omega (arith, sum, unadded-set q asks m.added row ready.added at.0);
      took = refl;
    })
goes-after s asks seats q m next (step.Take word by) ready once to =
    let at = placed (any_open m.channels || get_or m.taken word true) (without_word m word by) next to in
    let clear : get_or m.taken word true ≡ false = (neither (any_open m.channels) (get_or m.taken word true) at.0).1 in
    let inside : word < length m.cut = omega (arith, clear-inside m.taken word clear, ready.taken, ready.cut) in
    let sum = raised (λ seat. m.seats.took seat q) (λ seat. (without_word m word by).seats.took seat q)
    by (taken_here m.words word q) seats
    (λ seat. raised-both (seat == by) (q == word) (m.seats.took seat q) (slice_index m.words word)
    ∙ ap (λ n. if seat == by then m.seats.took seat q + n else m.seats.took seat q) (here-taken m.words word q)) once in
    subst (λ n. Goes asks seats q m n) at.1 (record {
      added = refl;
      took = omega (arith, sum, cut-more m.cut m.words word q inside);
    })
goes-after s asks seats q m next (step.Open channel) ready once to =
    stands-still asks seats q m next channel (option_and_then (opened s m.cut) (slice_get m.channels channel)) to
goes-after s asks seats q m next (step.Built channel) ready once to =
    stands-still asks seats q m next channel (option_and_then (built (begun s m.cut)) (slice_get m.channels channel)) to

-- All steps.

-- what seats have in the end
pub record HasAll (asks : List Ask) (seats : List ℕ) (q : ℕ) (m end : Machine) : Type 0 where
  pub added : all_added seats end q ≡ all_added seats m q + unadded q asks m.added
  pub took : all_took seats end q + slice_index m.cut q ≡ all_took seats m q + slice_index end.cut q

has-all : (s : State) (asks : List Ask) (seats : List ℕ) (q : ℕ) (m end : Machine) (steps : List Step) →
    IsSized asks (tally_of m) → AllByRecursion (IsSeated seats) steps → run s asks m steps ≡ Some end →
    HasAll asks seats q m end
unfolding run
has-all s asks seats q m end [] ready seated to =
    let is = found-true (is_done m) m end to in
    let done = first-two (are_set m.added) (are_set m.taken) (are_set (map is_built m.channels)) is.0 in
    subst (λ e. HasAll asks seats q m e) is.1 (record {
      added = omega (arith, none-unadded q asks m.added done.0);
      took = refl;
    })
has-all s asks seats q m end (one ∷ steps) ready seated to =
    by (after_step s asks m one) refl (λ next. has-all s asks seats q next end steps)
  where
    by : (found : Option Machine) → after_step s asks m one ≡ found →
        ((next : Machine) → IsSized asks (tally_of next) → AllByRecursion (IsSeated seats) steps →
        run s asks next steps ≡ Some end → HasAll asks seats q next end) → HasAll asks seats q m end
    by None none rest = absurd (cc (ap (λ o. option_and_then (λ n. run s asks n steps) o) (sym none) ∙ to))
    by (Some next) made rest =
        let tallied : after asks (tally_of m) one ≡ Some (tally_of next) =
        sym (step-tally s asks m one) ∙ ap (λ o. option_map tally_of o) made in
        let more : HasAll asks seats q next end =
        rest next (sized_after asks (tally_of m) (tally_of next) one ready tallied) seated.1
        (ap (λ o. option_and_then (λ n. run s asks n steps) o) (sym made) ∙ to) in
        let one_step : Goes asks seats q m next = goes-after s asks seats q m next one ready seated.0 made in
        record {
          added = omega (arith, more.added, one_step.added);
          took = omega (arith, more.took, one_step.took);
        }

-- From the opening.

nothing-yet : (seats : List ℕ) → sum_by (λ seat. 0) seats ≡ 0
nothing-yet [] = refl
nothing-yet (seat ∷ seats) = nothing-yet seats

pub balances : (s : State) (words : List ℕ) (rows : List Ask) (steps : List Step) (end : Machine) (seats : List ℕ) (q : ℕ) →
    AllByRecursion (λ ask. ask.cluster < length words) rows → AllByRecursion (IsSeated seats) steps →
    run s rows (opening_machine s words (length rows)) steps ≡ Some end →
    IsEnd rows (tally_of (opening_machine s words (length rows))) (tally_of end) steps → Balances words rows seats end q
balances s words rows steps end seats q known seated ran is =
    let m : Machine = opening_machine s words (length rows) in
    let ready : IsSized rows (tally_of m) =
    subst (λ t. IsSized rows t) (sym (opening-is s words (length rows)))
    (opening-sized words rows (length (fills_of s)) known) in
    let has : HasAll rows seats q m end = has-all s rows seats q m end steps ready seated ran in
    let added : all_added seats end q ≡ total (bytes_for q) rows =
    omega (arith, has.added, nothing-yet seats, unadded-fresh q rows) in
    let took : all_took seats end q ≡ slice_index end.cut q =
    omega (arith, has.took, nothing-yet seats, zeros (length words) q) in
    record {
      whole = omega (arith, added, took, is.balance q, unadded-fresh q rows, zeros (length words) q);
      added = omega (arith, added, asked-total rows q);
      took = took;
    }

-- Seats change nothing.

abbrev bare : Machine → Machine
bare m = with_seats no_seats m

-- a step is made of whichever seats are told
abbrev SameEnds : State → List Ask → List Step → Type 0
SameEnds s rows steps = (m : Machine) (seats : Seats) →
    option_map bare (run s rows (with_seats seats m) (map unseated steps)) ≡ option_map bare (run s rows m steps)

one-row : (s : State) (rows : List Ask) (m : Machine) (seats : Seats) (steps : List Step) (row by : ℕ) (refused : Bool) →
    SameEnds s rows steps →
    option_map bare (option_and_then (λ n. run s rows n (map unseated steps))
    (if refused then None else Some (with_row rows (with_seats seats m) row 0)))
    ≡ option_map bare (option_and_then (λ n. run s rows n steps) (if refused then None else Some (with_row rows m row by)))
one-row s rows m seats steps row by true rest = refl
one-row s rows m seats steps row by false rest =
    rest (with_row rows m row by) (with_row rows (with_seats seats m) row 0).seats

one-word : (s : State) (rows : List Ask) (m : Machine) (seats : Seats) (steps : List Step) (word by : ℕ) (refused : Bool) →
    SameEnds s rows steps →
    option_map bare (option_and_then (λ n. run s rows n (map unseated steps))
    (if refused then None else Some (without_word (with_seats seats m) word 0)))
    ≡ option_map bare (option_and_then (λ n. run s rows n steps) (if refused then None else Some (without_word m word by)))
one-word s rows m seats steps word by true rest = refl
one-word s rows m seats steps word by false rest =
    rest (without_word m word by) (without_word (with_seats seats m) word 0).seats

one-channel : (s : State) (rows : List Ask) (m : Machine) (seats : Seats) (steps : List Step) (channel : ℕ)
    (found : Option Stand) → SameEnds s rows steps →
    option_map bare (option_and_then (λ n. run s rows n (map unseated steps))
    (option_map (with_channel (with_seats seats m) channel) found))
    ≡ option_map bare (option_and_then (λ n. run s rows n steps) (option_map (with_channel m channel) found))
one-channel s rows m seats steps channel None rest = refl
one-channel s rows m seats steps channel (Some stand) rest = rest (with_channel m channel stand) seats

same-ends : (s : State) (rows : List Ask) (steps : List Step) → SameEnds s rows steps
unfolding run after_step
same-ends s rows [] m seats = by (is_done m)
  where
    by : (done : Bool) →
        option_map bare (if done then Some (with_seats seats m) else None) ≡ option_map bare (if done then Some m else None)
    by true = refl
    by false = refl
same-ends s rows (step.Add row by ∷ steps) m seats =
    one-row s rows m seats steps row by (get_or m.added row true) (same-ends s rows steps)
same-ends s rows (step.Take word by ∷ steps) m seats =
    one-word s rows m seats steps word by (any_open m.channels || get_or m.taken word true) (same-ends s rows steps)
same-ends s rows (step.Open channel ∷ steps) m seats =
    one-channel s rows m seats steps channel (option_and_then (opened s m.cut) (slice_get m.channels channel)) (same-ends s rows steps)
same-ends s rows (step.Built channel ∷ steps) m seats =
    one-channel s rows m seats steps channel (option_and_then (built (begun s m.cut)) (slice_get m.channels channel))
    (same-ends s rows steps)

pub seats_change_nothing : SeatsChangeNothing
seats_change_nothing s rows m seats steps = same-ends s rows steps m seats
