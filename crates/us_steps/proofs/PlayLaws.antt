-- The laws of the machine and of plays.
use Rattle.std.proofs.Common.{◌≡◌, ℕ, ◌+◌, ◌<◌, List, [], ◌∷◌, length, map, slice_index, Option, Some, None, refl, ap, sym, subst, ◌∙◌, arith}
use Rattle.std.specs.Prelude.{option_map}
use Rattle.std.specs.List.{AllByRecursion, sum_by}
use Rattle.std.proofs.lemmas.List.Sums.{sum_by-cons}
use Rattle.us_flows.specs.Tables.{Tables}
use Rattle.us_requests.specs.Cuts as requests
use Rattle.us_round.specs.Rounds.{State, opening, begun, fills_of, builds_of, ended, round_of, round_from, schedule, final}
use Rattle.us_output.specs.Outputs.{out_of}
use Rattle.us_steps.specs.Steps.{IsComplete, cut_of, left_of}
use Rattle.us_steps.specs.Machines.{Stand, Machine, Done, opening_machine, run, builds_in}
use Rattle.us_steps.specs.Tallies as tallies
use Rattle.us_steps.specs.Tallies.{Tally, tally_of, opening_tally}
use Rattle.us_steps.specs.Plays.{Play, run_of, state_after, cuts_of, words_after}
use Rattle.us_steps.specs.Laws.{PlaysAreRounds, NothingIsLost, GoesThrough, MachineMakesRounds}
use Rattle.us_steps.proofs.StepLemmas.{complete, incomplete}
use Rattle.us_steps.proofs.CutLemmas.{IsEnd, run_end_is}
use Rattle.us_steps.proofs.PlayLemmas.{opening-sized, end-cut, end-words, conserved, left-long}
use Rattle.us_steps.proofs.MachineLemmas.{run-tally, opening-is}
use Rattle.us_steps.proofs.ChannelLemmas.{end-channels, builds-in}
use Rattle.us_steps.proofs.SeatLaws.{balances}

-- a round keeps the tables
tables-kept : (s : State) (cut : List ℕ) → (round_of s cut).state.tables ≡ s.tables
unfolding round_of round_from
tables-kept s cut = refl

outs-are : (t : Tables) (s : State) (words : List ℕ) (plays : List Play) → s.tables ≡ t →
    run_of s words plays ≡ map (out_of t) (schedule s (cuts_of words plays))
unfolding run_of schedule cuts_of
outs-are t s words [] same = refl
outs-are t s words (p ∷ plays) same =
    let cut : List ℕ = cut_of words p.rows p.steps in
    let rest = outs-are t (round_of s cut).state (left_of words p.rows p.steps) plays (tables-kept s cut ∙ same) in
    ap (λ u. out_of u (round_of s cut).scheduled ∷ run_of (round_of s cut).state (left_of words p.rows p.steps) plays) same
    ∙ ap (λ outs. out_of t (round_of s cut).scheduled ∷ outs) rest

states-are : (s : State) (words : List ℕ) (plays : List Play) →
    state_after s words plays ≡ final s (cuts_of words plays)
unfolding state_after final cuts_of
states-are s words [] = refl
states-are s words (p ∷ plays) =
    states-are (round_of s (cut_of words p.rows p.steps)).state (left_of words p.rows p.steps) plays

pub plays_are_rounds : PlaysAreRounds
plays_are_rounds t words plays = (outs-are t (opening t) words plays refl, states-are (opening t) words plays)

lost-none : (channels n : ℕ) (words : List ℕ) (plays : List Play) (q : ℕ) → length words ≡ n →
    AllByRecursion (λ (p : Play). IsComplete (length p.rows) n channels p.steps) plays → q < n →
    sum_by (λ cut. slice_index cut q) (cuts_of words plays) + slice_index (words_after words plays) q
    ≡ slice_index words q + sum_by (λ (p : Play). requests.asked p.rows q) plays
unfolding cuts_of words_after
lost-none channels n words [] q long all below = omega arith
lost-none channels n words (p ∷ plays) q long all below =
    let left : List ℕ = left_of words p.rows p.steps in
    let first = conserved p.rows words channels p.steps q
    (subst (λ m. IsComplete (length p.rows) m channels p.steps) (sym long) all.0) (omega (arith, below, long)) in
    omega (
      arith,
      first,
      lost-none channels n left plays q (left-long p.rows words p.steps ∙ long) all.1 below,
      sum_by-cons (λ cut. slice_index cut q) (cut_of words p.rows p.steps) (cuts_of left plays),
      sum_by-cons (λ (p : Play). requests.asked p.rows q) p plays,
    )

pub nothing_is_lost : NothingIsLost
nothing_is_lost channels words plays q all below = lost-none channels (length words) words plays q refl all below

-- what channels that are done come to is the round of their cut
round-is : (s : State) (cut end : List ℕ) (channels : List Stand) → end ≡ cut →
    channels ≡ map (λ b. Done b) (builds_of (begun s cut)) →
    ended (begun s end) (builds_in channels) ≡ round_of s cut
unfolding round_of round_from
round-is s cut end channels same are =
    ap (λ c. ended (begun s c) (builds_in channels)) same
    ∙ ap (λ bs. ended (begun s cut) bs) (ap builds_in are ∙ builds-in (builds_of (begun s cut)))

pub machine_makes_rounds : MachineMakesRounds
machine_makes_rounds s words rows steps known = by (run s rows m steps) refl
  where
    m : Machine
    m = opening_machine s words (length rows)

    n : ℕ
    n = length (fills_of s)

    first : Tally
    first = opening_tally words (length rows) n

    tallied : (found : Option Machine) → run s rows m steps ≡ found →
        tallies.run rows first steps ≡ option_map tally_of found
    tallied found is =
        ap (λ t. tallies.run rows t steps) (sym (opening-is s words (length rows)))
        ∙ sym (run-tally s rows m steps) ∙ ap (λ o. option_map tally_of o) is

    by : (found : Option Machine) → run s rows m steps ≡ found → GoesThrough s words rows steps found
    by None none = incomplete rows words n steps (tallied None none)
    by (Some end) made =
        let ran : tallies.run rows first steps ≡ Some (tally_of end) = tallied (Some end) made in
        let is : IsEnd rows first (tally_of end) steps =
        run_end_is rows first (tally_of end) steps (opening-sized words rows n known) ran in
        let cut : end.cut ≡ cut_of words rows steps = end-cut rows words n (tally_of end) steps is in
        let channels : end.channels ≡ map (λ b. Done b) (builds_of (begun s (cut_of words rows steps))) =
        end-channels s rows words end steps made ∙ ap (λ c. map (λ b. Done b) (builds_of (begun s c))) cut in
        record {
          complete = complete rows words n (tally_of end) steps ran;
          left = end-words rows words n (tally_of end) steps is;
          cut = cut;
          channels = channels;
          round = round-is s (cut_of words rows steps) end.cut end.channels cut channels;
          seats = λ seats seated q. balances s words rows steps end seats q known seated made
              (subst (λ t. IsEnd rows t (tally_of end) steps) (sym (opening-is s words (length rows))) is);
        }
