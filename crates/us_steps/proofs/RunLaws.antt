-- The law of the machine's runs: play after play it makes the rounds of the schedule.
use Rattle.std.proofs.Common.{◌≡◌, ℕ, ◌+◌, ◌<◌, ◌≤◌, List, [], ◌∷◌, length, map, slice_index, Option, Some, None, refl, ap, sym, subst, ◌∙◌, inl, inr, arith}
use Rattle.std.specs.Prelude.{option_map, option_and_then}
use Rattle.std.specs.List.{AllByRecursion, sum_by}
use Rattle.std.proofs.lemmas.Bool.{cases_lt}
use Rattle.std.proofs.lemmas.List.{length-map, get_or_past}
use Rattle.std.proofs.lemmas.List.Sums.{sum_by-cons}
use Rattle.us_flows.specs.Tables.{Tables}
use Rattle.us_requests.specs.declared.asks.Ask.{Ask}
use Rattle.us_requests.specs.Cuts as requests
use Rattle.us_calendar.specs.Calendars as calendars
use Rattle.us_calendar.specs.Calendars.{heard_by}
use Rattle.us_channel.specs.Channels.{fill}
use Rattle.us_round.specs.Rounds.{State, RoundResult, opening, begun, build_planned, round_plan, fills_of, builds_of, round_of, round_from, schedule, final}
use Rattle.us_output.specs.Outputs.{out_of}
use Rattle.us_steps.specs.Steps.{IsComplete, cut_of, left_of}
use Rattle.us_steps.specs.Machines.{Machine, opening_machine, run}
use Rattle.us_steps.specs.Plays.{Play, run_of, state_after, cuts_of, words_after}
use Rattle.us_steps.specs.Laws.{GoesThrough, IsPlayed}
use Rattle.us_steps.specs.MachinePlays.{MachineRun, result_of, with_round, run_plays, AreAllComplete, RunsThrough, MachineRunsAreSchedules}
use Rattle.us_steps.proofs.PlayLemmas.{asked-total, none-past, cut-long, left-long}
use Rattle.us_steps.proofs.ChannelLemmas.{each-long}
use Rattle.us_steps.proofs.PlayLaws.{machine_makes_rounds, plays_are_rounds, nothing_is_lost}

-- States of these tables, with a calendar for each channel.

abbrev Fits : Tables → State → Type 0
Fits t s = (s.tables ≡ t) × (length s.calendars ≡ length t.channels)

fits-opening : (t : Tables) → Fits t (opening t)
fits-opening t = (refl, length-map t.channels (calendars.opening t))

-- each channel is filled,
all-filled : (t : Tables) (s : State) → Fits t s → length (fills_of s) ≡ length t.channels
all-filled t s fits =
    let channels : length s.tables.channels ≡ length t.channels = ap (λ (u : Tables). length u.channels) fits.0 in
    each-long (λ pair. fill s.tables s.round pair.0 pair.1) s.tables.channels s.calendars (fits.1 ∙ sym channels) ∙ channels

-- and so it is after a round
fits-next : (t : Tables) (s : State) (cut : List ℕ) → Fits t s → Fits t (round_of s cut).state
unfolding round_of round_from builds_of
fits-next t s cut fits =
    let heard : Fits t (begun s cut) = (fits.0, length-map s.calendars (heard_by cut) ∙ fits.1) in (
      fits.0,
      length-map (builds_of (begun s cut)) (λ b. b.calendar)
          ∙ length-map (fills_of (begun s cut)) (build_planned (round_plan (begun s cut)))
          ∙ all-filled t (begun s cut) heard,
    )

-- What the machine comes to, as plays tell it.

abbrev told : State → List ℕ → List Play → MachineRun
told s words plays = record {
  cuts = cuts_of words plays;
  outs = run_of s words plays;
  words = words_after words plays;
  state = state_after s words plays;
}

abbrev Goes : Tables → State → ℕ → List ℕ → List Play → Option MachineRun → Type 0
Goes t s n words plays None = AreAllComplete n (length t.channels) plays → ⊥
Goes t s n words plays (Some ran) = AreAllComplete n (length t.channels) plays × (ran ≡ told s words plays)

-- one play, where the others go on from what it leaves
goes-on : (t : Tables) (s : State) (n : ℕ) (words : List ℕ) (p : Play) (plays : List Play) → Fits t s → length words ≡ n →
    AllByRecursion (λ ask. ask.cluster < n) p.rows →
    Goes t (round_of s (cut_of words p.rows p.steps)).state n (left_of words p.rows p.steps) plays
    (run_plays (round_of s (cut_of words p.rows p.steps)).state (left_of words p.rows p.steps) plays) →
    Goes t s n words (p ∷ plays) (run_plays s words (p ∷ plays))
unfolding run_plays run_of state_after cuts_of words_after
goes-on t s n words p plays fits long known rest = by (run s p.rows (opening_machine s words (length p.rows)) p.steps) refl
  where
    cut : List ℕ
    cut = cut_of words p.rows p.steps

    left : List ℕ
    left = left_of words p.rows p.steps

    next : State
    next = (round_of s cut).state

    one : GoesThrough s words p.rows p.steps (run s p.rows (opening_machine s words (length p.rows)) p.steps)
    one =
        machine_makes_rounds s words p.rows p.steps
        (subst (λ m. AllByRecursion (λ (ask : Ask). ask.cluster < m) p.rows) (sym long) known)

    -- complete for the machine's words and channels, and for those of the tables
    here : IsComplete (length p.rows) n (length t.channels) p.steps →
        IsComplete (length p.rows) (length words) (length (fills_of s)) p.steps
    here is =
        subst (λ c. IsComplete (length p.rows) (length words) c p.steps) (sym (all-filled t s fits))
        (subst (λ m. IsComplete (length p.rows) m (length t.channels) p.steps) (sym long) is)

    there : IsComplete (length p.rows) (length words) (length (fills_of s)) p.steps →
        IsComplete (length p.rows) n (length t.channels) p.steps
    there is =
        subst (λ c. IsComplete (length p.rows) n c p.steps) (all-filled t s fits)
        (subst (λ m. IsComplete (length p.rows) m (length (fills_of s)) p.steps) long is)

    more : (end : Machine) → IsPlayed s words p.rows p.steps end → (found : Option MachineRun) →
        Goes t next n left plays found →
        Goes t s n words (p ∷ plays) (option_map (with_round s end.cut (result_of s end)) found)
    more end is None not = λ all. not all.1
    more end is (Some ran) goes_on = (
      (there is.complete, goes_on.0),
      ap (λ c. with_round s c (result_of s end) ran) is.cut
          ∙ ap (λ (r : RoundResult). with_round s cut r ran) is.round
          ∙ ap (λ (others : MachineRun). with_round s cut (round_of s cut) others) goes_on.1,
    )

    by : (found : Option Machine) → run s p.rows (opening_machine s words (length p.rows)) p.steps ≡ found →
        Goes t s n words (p ∷ plays)
        (option_and_then
        (λ (end : Machine). option_map (with_round s end.cut (result_of s end)) (run_plays (result_of s end).state end.words plays))
        found)
    by None none =
        let stops : IsComplete (length p.rows) (length words) (length (fills_of s)) p.steps → ⊥ =
        subst (λ o. GoesThrough s words p.rows p.steps o) none one in
        λ all. stops (here all.0)
    by (Some end) made =
        let is : IsPlayed s words p.rows p.steps end = subst (λ o. GoesThrough s words p.rows p.steps o) made one in
        let again : run_plays (result_of s end).state end.words plays ≡ run_plays next left plays =
        ap (λ (r : RoundResult). run_plays r.state end.words plays) is.round
        ∙ ap (λ ws. run_plays next ws plays) is.left in
        more end is (run_plays (result_of s end).state end.words plays)
        (subst (λ o. Goes t next n left plays o) (sym again) rest)

goes : (t : Tables) (s : State) (n : ℕ) (words : List ℕ) (plays : List Play) → Fits t s → length words ≡ n →
    AllByRecursion (λ (p : Play). AllByRecursion (λ ask. ask.cluster < n) p.rows) plays →
    Goes t s n words plays (run_plays s words plays)
unfolding run_plays run_of state_after cuts_of words_after
goes t s n words [] fits long known = (tt, refl)
goes t s n words (p ∷ plays) fits long known =
    let cut : List ℕ = cut_of words p.rows p.steps in
    goes-on t s n words p plays fits long known.0
    (goes t (round_of s cut).state n (left_of words p.rows p.steps) plays (fits-next t s cut fits)
    (left-long p.rows words p.steps ∙ long) known.1)

-- Of a word that isn't there nothing is cut or left, and no row is.

cuts-past : (words : List ℕ) (plays : List Play) (q : ℕ) → length words ≤ q →
    sum_by (λ cut. slice_index cut q) (cuts_of words plays) ≡ 0
unfolding cuts_of
cuts-past words [] q past = refl
cuts-past words (p ∷ plays) q past =
    let beyond : length (cut_of words p.rows p.steps) ≤ q = omega (arith, past, cut-long p.rows words p.steps) in
    let none : slice_index (cut_of words p.rows p.steps) q ≡ 0 = get_or_past (cut_of words p.rows p.steps) q 0 beyond in
    omega (
      arith,
      none,
      cuts-past (left_of words p.rows p.steps) plays q (omega (arith, past, left-long p.rows words p.steps)),
      sum_by-cons (λ cut. slice_index cut q) (cut_of words p.rows p.steps) (cuts_of (left_of words p.rows p.steps) plays),
    )

words-past : (words : List ℕ) (plays : List Play) (q : ℕ) → length words ≤ q → slice_index (words_after words plays) q ≡ 0
unfolding words_after
words-past words [] q past = get_or_past words q 0 past
words-past words (p ∷ plays) q past =
    words-past (left_of words p.rows p.steps) plays q (omega (arith, past, left-long p.rows words p.steps))

rows-past : (n : ℕ) (plays : List Play) (q : ℕ) → n ≤ q →
    AllByRecursion (λ (p : Play). AllByRecursion (λ ask. ask.cluster < n) p.rows) plays →
    sum_by (λ (p : Play). requests.asked p.rows q) plays ≡ 0
rows-past n [] q past known = refl
rows-past n (p ∷ plays) q past known =
    omega (
      arith,
      asked-total p.rows q,
      none-past q n p.rows known.0 past,
      rows-past n plays q past known.1,
      sum_by-cons (λ (p : Play). requests.asked p.rows q) p plays,
    )

all-kept : (t : Tables) (words : List ℕ) (plays : List Play) (q : ℕ) →
    AreAllComplete (length words) (length t.channels) plays →
    AllByRecursion (λ (p : Play). AllByRecursion (λ ask. ask.cluster < length words) p.rows) plays →
    sum_by (λ cut. slice_index cut q) (cuts_of words plays) + slice_index (words_after words plays) q
    ≡ slice_index words q + sum_by (λ (p : Play). requests.asked p.rows q) plays
all-kept t words plays q complete known = elim (cases_lt q (length words)) [
  | inl below ↦ nothing_is_lost (length t.channels) words plays q complete below
  | inr past ↦
      let none : slice_index words q ≡ 0 = get_or_past words q 0 past in
      omega (
        arith,
        none,
        cuts-past words plays q past,
        words-past words plays q past,
        rows-past (length words) plays q past known,
      )
]

pub machine_runs_are_schedules : MachineRunsAreSchedules
machine_runs_are_schedules t words plays known =
    to (run_plays (opening t) words plays) (goes t (opening t) (length words) words plays (fits-opening t) refl known)
  where
    rounds : (run_of (opening t) words plays ≡ map (out_of t) (schedule (opening t) (cuts_of words plays)))
        × (state_after (opening t) words plays ≡ final (opening t) (cuts_of words plays))
    rounds = plays_are_rounds t words plays

    to : (found : Option MachineRun) → Goes t (opening t) (length words) words plays found → RunsThrough t words plays found
    to None not = not
    to (Some ran) is =
        let cuts : ran.cuts ≡ cuts_of words plays = ap (λ (r : MachineRun). r.cuts) is.1 in
        let left : ran.words ≡ words_after words plays = ap (λ (r : MachineRun). r.words) is.1 in
        record {
          complete = is.0;
          cuts = cuts;
          left = left;
          outs = ap (λ (r : MachineRun). r.outs) is.1 ∙ rounds.0
              ∙ sym (ap (λ cs. map (out_of t) (schedule (opening t) cs)) cuts);
          state = ap (λ (r : MachineRun). r.state) is.1 ∙ rounds.1 ∙ sym (ap (λ cs. final (opening t) cs) cuts);
          kept = λ q. omega (
            arith,
            all-kept t words plays q is.0 known,
            ap (λ (cs : List (List ℕ)). sum_by (λ cut. slice_index cut q) cs) cuts,
            ap (λ ws. slice_index ws q) left,
          );
        }
