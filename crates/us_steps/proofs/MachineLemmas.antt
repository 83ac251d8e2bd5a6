-- That a machine and its tally go through the same steps.
use Rattle.std.proofs.Common.{◌≡◌, ℕ, zero, suc, Bool, true, false, not, ◌&&◌, ◌||◌, if◌then◌else◌, List, [], ◌∷◌, length, map, replicate, get_or, slice_set, Option, Some, None, refl, ap, sym, ◌∙◌}
use Rattle.std.specs.Prelude.{slice_get, zip, option_map, option_and_then}
use Rattle.std.proofs.lemmas.List.{length-map}
use Rattle.us_requests.specs.declared.asks.Ask.{Ask}
use Rattle.us_flows.specs.declared.channels.Channel.{Channel}
use Rattle.us_calendar.specs.Calendars.{Calendar}
use Rattle.us_channel.specs.Channels.{fill}
use Rattle.us_round.specs.Rounds.{State, begun, fills_of}
use Rattle.us_steps.specs.declared.steps.Step.{Step}
use Rattle.us_steps.specs.declared.steps.Step.TheVariants as step
use Rattle.us_steps.specs.Machines.{Stand, Home, Out, Done, Machine, opening_machine, with_row, without_word, with_channel, filled_by, placed, opened, built, was_opened, is_built, any_open, after_step, are_set, is_done, run}
use Rattle.us_steps.specs.Tallies as tallies
use Rattle.us_steps.specs.Tallies.{Tally, tally_of, opening_tally, after}

-- Flags of channels.

found-flag : (g : Stand → Bool) (channels : List Stand) (n : ℕ) (d : Bool) (was : Stand) →
    slice_get channels n ≡ Some was → get_or (map g channels) n d ≡ g was
found-flag g [] n d was is = absurd (cc is)
found-flag g (c ∷ channels) zero d was is =
    let same : c ≡ was = cc in
    ap g same
found-flag g (c ∷ channels) (suc n) d was is = found-flag g channels n d was is

no-flag : (g : Stand → Bool) (channels : List Stand) (n : ℕ) (d : Bool) → slice_get channels n ≡ None →
    get_or (map g channels) n d ≡ d
no-flag g [] n d is = refl
no-flag g (c ∷ channels) zero d is = absurd (cc is)
no-flag g (c ∷ channels) (suc n) d is = no-flag g channels n d is

set-flag : (g : Stand → Bool) (channels : List Stand) (n : ℕ) (now : Stand) →
    map g (slice_set channels n now) ≡ slice_set (map g channels) n (g now)
set-flag g [] n now = refl
set-flag g (c ∷ channels) zero now = refl
set-flag g (c ∷ channels) (suc n) now = ap (λ flags. g c ∷ flags) (set-flag g channels n now)

kept-flag : (g : Stand → Bool) (channels : List Stand) (n : ℕ) (was now : Stand) → slice_get channels n ≡ Some was →
    g was ≡ g now → map g (slice_set channels n now) ≡ map g channels
kept-flag g [] n was now is same = refl
kept-flag g (c ∷ channels) zero was now is same =
    let first : c ≡ was = cc in
    ap (λ flag. flag ∷ map g channels) (sym same ∙ ap g (sym first))
kept-flag g (c ∷ channels) (suc n) was now is same =
    ap (λ flags. g c ∷ flags) (kept-flag g channels n was now is same)

or-true : (b : Bool) → (b || true) ≡ true
or-true true = refl
or-true false = refl

now-open : (channels : List Stand) (n : ℕ) (was now : Stand) → slice_get channels n ≡ Some was → was_opened now ≡ true →
    any_open (slice_set channels n now) ≡ true
now-open [] n was now is opens = absurd (cc is)
now-open (c ∷ channels) zero was now is opens = ap (λ b. b || any_open channels) opens
now-open (c ∷ channels) (suc n) was now is opens =
    ap (λ b. was_opened c || b) (now-open channels n was now is opens) ∙ or-true (was_opened c)

found-open : (channels : List Stand) (n : ℕ) (was : Stand) → slice_get channels n ≡ Some was → was_opened was ≡ true →
    any_open channels ≡ true
found-open [] n was is opens = absurd (cc is)
found-open (c ∷ channels) zero was is opens =
    let same : c ≡ was = cc in
    ap (λ b. b || any_open channels) (ap was_opened same ∙ opens)
found-open (c ∷ channels) (suc n) was is opens =
    ap (λ b. was_opened c || b) (found-open channels n was is opens) ∙ or-true (was_opened c)

-- One step.

open-tally : (s : State) (rows : List Ask) (m : Machine) (channel : ℕ) →
    option_map tally_of (after_step s rows m (step.Open channel)) ≡ after rows (tally_of m) (step.Open channel)
unfolding after_step after
open-tally s rows m channel = by (slice_get m.channels channel) refl
  where
    by : (found : Option Stand) → slice_get m.channels channel ≡ found →
        option_map tally_of (option_map (with_channel m channel) (option_and_then (opened s m.cut) found))
        ≡ (if get_or (map was_opened m.channels) channel true then None else Some (tallies.with_open (tally_of m) channel))
    by None is = rw (no-flag was_opened m.channels channel true is) refl
    by (Some (Home c calendar)) is =
        let out : Stand = Out (filled_by s m.cut c calendar) in
        rw (
          found-flag was_opened m.channels channel true (Home c calendar) is,
          set-flag was_opened m.channels channel out,
          kept-flag is_built m.channels channel (Home c calendar) out is refl,
          now-open m.channels channel (Home c calendar) out is refl,
        ) refl
    by (Some (Out f)) is = rw (found-flag was_opened m.channels channel true (Out f) is) refl
    by (Some (Done b)) is = rw (found-flag was_opened m.channels channel true (Done b) is) refl

built-tally : (s : State) (rows : List Ask) (m : Machine) (channel : ℕ) →
    option_map tally_of (after_step s rows m (step.Built channel)) ≡ after rows (tally_of m) (step.Built channel)
unfolding after_step after
built-tally s rows m channel = by (slice_get m.channels channel) refl
  where
    by : (found : Option Stand) → slice_get m.channels channel ≡ found →
        option_map tally_of (option_map (with_channel m channel) (option_and_then (built (begun s m.cut)) found))
        ≡ (if not (get_or (map was_opened m.channels) channel false) || get_or (map is_built m.channels) channel true
        then None else Some (tallies.with_built (tally_of m) channel))
    by None is = rw (no-flag was_opened m.channels channel false is) refl
    by (Some (Home c calendar)) is = rw (found-flag was_opened m.channels channel false (Home c calendar) is) refl
    by (Some (Out f)) is =
        let done : Stand = Done (placed (begun s m.cut) f) in
        rw (
          found-flag was_opened m.channels channel false (Out f) is,
          found-flag is_built m.channels channel true (Out f) is,
          kept-flag was_opened m.channels channel (Out f) done is refl,
          set-flag is_built m.channels channel done,
          now-open m.channels channel (Out f) done is refl,
          found-open m.channels channel (Out f) is refl,
        ) refl
    by (Some (Done b)) is =
        rw (
          found-flag was_opened m.channels channel false (Done b) is,
          found-flag is_built m.channels channel true (Done b) is,
        ) refl

pub step-tally : (s : State) (rows : List Ask) (m : Machine) (next : Step) →
    option_map tally_of (after_step s rows m next) ≡ after rows (tally_of m) next
unfolding after_step after
step-tally s rows m (step.Add row seat) = by (get_or m.added row true)
  where
    by : (refused : Bool) →
        option_map tally_of (if refused then None else Some (with_row rows m row seat))
        ≡ (if refused then None else Some (tallies.with_row rows (tally_of m) row))
    by true = refl
    by false = refl
step-tally s rows m (step.Take word seat) = by (any_open m.channels || get_or m.taken word true)
  where
    by : (refused : Bool) →
        option_map tally_of (if refused then None else Some (without_word m word seat))
        ≡ (if refused then None else Some (tallies.without_word (tally_of m) word))
    by true = refl
    by false = refl
step-tally s rows m (step.Open channel) = open-tally s rows m channel
step-tally s rows m (step.Built channel) = built-tally s rows m channel

-- All steps.

and-false : (b : Bool) → (b && false) ≡ false
and-false true = refl
and-false false = refl

-- what is done was opened
both-set : (channels : List Stand) →
    (are_set (map was_opened channels) && are_set (map is_built channels)) ≡ are_set (map is_built channels)
both-set [] = refl
both-set (Home c calendar ∷ channels) = refl
both-set (Out f ∷ channels) = and-false (are_set (map was_opened channels))
both-set (Done b ∷ channels) = both-set channels

done-tally : (m : Machine) → tallies.is_done (tally_of m) ≡ is_done m
done-tally m = ap (λ b. are_set m.added && (are_set m.taken && b)) (both-set m.channels)

pub run-tally : (s : State) (rows : List Ask) (m : Machine) (steps : List Step) →
    option_map tally_of (run s rows m steps) ≡ tallies.run rows (tally_of m) steps
unfolding run tallies.run
run-tally s rows m [] = rw (done-tally m) (by (is_done m))
  where
    by : (done : Bool) →
        option_map tally_of (if done then Some m else None) ≡ (if done then Some (tally_of m) else None)
    by true = refl
    by false = refl
run-tally s rows m (next ∷ steps) = by (after_step s rows m next) refl (λ after. run-tally s rows after steps)
  where
    by : (found : Option Machine) → after_step s rows m next ≡ found →
        ((after : Machine) → option_map tally_of (run s rows after steps) ≡ tallies.run rows (tally_of after) steps) →
        option_map tally_of (option_and_then (λ after. run s rows after steps) found)
        ≡ option_and_then (λ t. tallies.run rows t steps) (after rows (tally_of m) next)
    by None is rest =
        ap (λ o. option_and_then (λ t. tallies.run rows t steps) o)
        (ap (λ o. option_map tally_of o) (sym is) ∙ step-tally s rows m next)
    by (Some found) is rest =
        rest found ∙ ap (λ o. option_and_then (λ t. tallies.run rows t steps) o)
        (ap (λ o. option_map tally_of o) (sym is) ∙ step-tally s rows m next)

-- The beginning.

fresh-flags : (g : Stand → Bool) (pairs : List (Channel × Calendar)) →
    ((c : Channel) (calendar : Calendar) → g (Home c calendar) ≡ false) →
    map g (map (λ pair. Home pair.0 pair.1) pairs) ≡ replicate (length pairs) false
fresh-flags g [] each = refl
fresh-flags g (pair ∷ pairs) each =
    ap (λ flag. flag ∷ map g (map (λ pair. Home pair.0 pair.1) pairs)) (each pair.0 pair.1)
    ∙ ap (λ flags. false ∷ flags) (fresh-flags g pairs each)

none-open : (pairs : List (Channel × Calendar)) → any_open (map (λ pair. Home pair.0 pair.1) pairs) ≡ false
none-open [] = refl
none-open (pair ∷ pairs) = none-open pairs

pub opening-is : (s : State) (words : List ℕ) (rows : ℕ) →
    tally_of (opening_machine s words rows) ≡ opening_tally words rows (length (fills_of s))
opening-is s words rows =
    let pairs : List (Channel × Calendar) = zip s.tables.channels s.calendars in
    rw (
      fresh-flags was_opened pairs (λ c calendar. refl),
      fresh-flags is_built pairs (λ c calendar. refl),
      none-open pairs,
      length-map pairs (λ pair. fill s.tables s.round pair.0 pair.1),
    ) refl
