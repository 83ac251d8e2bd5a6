-- What a round's cut changes of a state: what is outstanding, and what calendars know of activity. All else stays.
use Rattle.std.proofs.Common.{◌≡◌, ℕ, ◌+◌, List, [], ◌∷◌, length, map, zip, refl, ap, ◌∙◌, arith}
use Rattle.std.specs.Prelude.{sum_by}
use Rattle.std.specs.List.{AllByRecursion}
use Rattle.std.proofs.lemmas.List.{length-map}
use Rattle.std.proofs.lemmas.List.Sums.{sum_by-cons}
use Rattle.us_flows.specs.Tables.{Tables}
use Rattle.us_flows.specs.Clusters.{words_of}
use Rattle.us_calendar.specs.Settling as calendar
use Rattle.us_calendar.specs.Settling.{EntryState}
use Rattle.us_calendar.specs.Calendars.{Calendar, heard_by, settled_in}
use Rattle.us_split.specs.Requested.{requested_in, with_cut}
use Rattle.us_split.proofs.RequestedLemmas.{requested-length}
use Rattle.us_channel.specs.Channels.{Built, heard}
use Rattle.us_round.proofs.PhaseLemmas.{zip_long}

-- there is still a number for each word
pub asked_long : (t : Tables) (outstanding cut : List ℕ) → length outstanding ≡ length (words_of t) →
    length cut ≡ length (words_of t) → length (with_cut t outstanding cut) ≡ length (words_of t)
asked_long t outstanding cut long also =
    let asked : List ℕ = requested_in (words_of t) cut in
    let many : length asked ≡ length cut = requested-length (words_of t) cut also in
    length-map (zip outstanding asked) (λ (pair : ℕ × ℕ). pair.0 + pair.1)
    ∙ zip_long outstanding asked (omega (arith, many, long, also)) ∙ many ∙ also

-- Calendars.

pub paces_heard : (cut : List ℕ) (cs : List Calendar) →
    map (λ calendar. calendar.pace) (map (heard_by cut) cs) ≡ map (λ calendar. calendar.pace) cs
paces_heard cut [] = refl
paces_heard cut (calendar ∷ cs) = ap (λ more. calendar.pace ∷ more) (paces_heard cut cs)

pub rounds_heard : (cut : List ℕ) (round : ℕ) (cs : List Calendar) →
    AllByRecursion (λ calendar. calendar.next_round ≡ round) cs →
    AllByRecursion (λ calendar. calendar.next_round ≡ round) (map (heard_by cut) cs)
rounds_heard cut round [] are = tt
rounds_heard cut round (calendar ∷ cs) are = (are.0, rounds_heard cut round cs are.1)

settled_states : (cut : List ℕ) (states : List EntryState) →
    sum_by (λ state. length state.settled) (map (calendar.heard cut) states) ≡ sum_by (λ state. length state.settled) states
settled_states cut [] = refl
settled_states cut (state ∷ states) =
    omega (
      arith,
      sum_by-cons (λ state. length state.settled) (calendar.heard cut state) (map (calendar.heard cut) states),
      sum_by-cons (λ state. length state.settled) state states,
      settled_states cut states,
    )

-- hearing settles nothing
pub settled_heard : (cut : List ℕ) (cs : List Calendar) → sum_by settled_in (map (heard_by cut) cs) ≡ sum_by settled_in cs
settled_heard cut [] = refl
settled_heard cut (calendar ∷ cs) =
    omega (
      arith,
      sum_by-cons settled_in (heard_by cut calendar) (map (heard_by cut) cs),
      sum_by-cons settled_in calendar cs,
      settled_states cut calendar.states,
      settled_heard cut cs,
    )

-- Channels.

pub channels_heard : (cut : List ℕ) (bs : List Built) → map (λ b. b.channel) (map (heard cut) bs) ≡ map (λ b. b.channel) bs
channels_heard cut [] = refl
channels_heard cut (b ∷ bs) = ap (λ more. b.channel ∷ more) (channels_heard cut bs)

pub calendars_heard : (cut : List ℕ) (bs : List Built) →
    map (λ b. b.calendar) (map (heard cut) bs) ≡ map (heard_by cut) (map (λ b. b.calendar) bs)
calendars_heard cut [] = refl
calendars_heard cut (b ∷ bs) = ap (λ more. heard_by cut b.calendar ∷ more) (calendars_heard cut bs)
