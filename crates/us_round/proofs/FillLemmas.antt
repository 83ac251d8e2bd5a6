-- The channels of a round after reserves and calendars: they are the table's, and they have no more idle minislots than
-- minislots.
use Rattle.std.proofs.Common.{◌≡◌, ℕ, zero, suc, ◌≤◌, List, [], ◌∷◌, map, length, Option, Some, None, refl, ap, sym, ◌∙◌, arith}
use Rattle.std.specs.Prelude.{slice_get, slice_index, is_none, zip}
use Rattle.std.specs.List.{AllByRecursion}
use Rattle.std.proofs.lemmas.List.{length-map}
use Rattle.std.proofs.lemmas.List.Sums.{count_by-le-length}
use Rattle.us_flows.specs.declared.channels.Channel.{Channel}
use Rattle.us_flows.specs.Tables.{Tables, map_len}
use Rattle.us_flows.specs.Lawful.{AreApart, AreTables}
use Rattle.us_holes.specs.Boards.{Holder, free_count}
use Rattle.us_split.specs.Plans.{IsIdle}
use Rattle.us_calendar.specs.Calendars.{Calendar, pace_of}
use Rattle.us_channel.specs.Channels.{Filled, fill}
use Rattle.us_round.specs.Rounds.{filled, idle}
use Rattle.us_round.specs.Cores.{AreCalendars, IsFilledFor}

-- a calendar for each channel
pub calendars_long : (t : Tables) (round : ℕ) (cs : List Calendar) → AreCalendars t round cs →
    length cs ≡ length t.channels
calendars_long t round cs are =
    sym (length-map cs (λ calendar. calendar.pace)) ∙ ap (λ paces. length paces) are.paces
    ∙ length-map t.channels (pace_of t)

fill_channels : (t : Tables) (round : ℕ) (channels : List Channel) (cs : List Calendar) →
    length cs ≡ length channels →
    map (λ (f : Filled). f.channel) (map (λ (pair : Channel × Calendar). fill t round pair.0 pair.1) (zip channels cs))
    ≡ channels
fill_channels t round [] cs is = refl
fill_channels t round (c ∷ channels) [] is = absurd (omega (arith, is))
fill_channels t round (c ∷ channels) (calendar ∷ cs) is =
    ap (λ more. c ∷ more) (fill_channels t round channels cs (omega (arith, is)))

pub filled_channels : (t : Tables) (round : ℕ) (cs : List Calendar) → AreCalendars t round cs →
    map (λ f. f.channel) (filled t round cs) ≡ t.channels
filled_channels t round cs are = fill_channels t round t.channels cs (calendars_long t round cs are)

pub filled_apart : (t : Tables) (round : ℕ) (cs : List Calendar) → AreCalendars t round cs → AreTables t →
    AreApart (map (λ c. c.id) (map (λ f. f.channel) (filled t round cs)))
filled_apart t round cs are lawful = rw (filled_channels t round cs are) lawful.channels_apart

channels_in : (P : Channel → Type 0) (fs : List Filled) → AllByRecursion P (map (λ f. f.channel) fs) →
    AllByRecursion (λ f. P f.channel) fs
channels_in P [] h = tt
channels_in P (f ∷ fs) h = (h.0, channels_in P fs h.1)

-- what is known of channels is known of those whose calendars ran
pub filled_all : (P : Channel → Type 0) (t : Tables) (round : ℕ) (cs : List Calendar) → AreCalendars t round cs →
    AllByRecursion P t.channels → AllByRecursion (λ f. P f.channel) (filled t round cs)
filled_all P t round cs are h = channels_in P (filled t round cs) (rw (filled_channels t round cs are) h)

free_few : (cells : List (Option Holder)) → free_count cells ≤ length cells
free_few cells = count_by-le-length is_none cells

idle_few : (t : Tables) (fs : List Filled) (place : ℕ) (c : Channel) → AllByRecursion (IsFilledFor t) fs →
    slice_get (map (λ f. f.channel) fs) place ≡ Some c → slice_index (idle fs) place ≤ map_len t c
idle_few t [] zero c lens is = let no : None ≡ Some c = is in absurd cc
idle_few t [] (suc place) c lens is = let no : None ≡ Some c = is in absurd cc
idle_few t (f ∷ fs) zero c lens is =
    let here : Some f.channel ≡ Some c = is in
    let same : f.channel ≡ c = cc in
    rw (sym same) (omega (arith, free_few f.board.cells, lens.0.len))
idle_few t (f ∷ fs) (suc place) c lens is = idle_few t fs place c lens.1 is

pub filled_idle : (t : Tables) (round : ℕ) (cs : List Calendar) (fs : List Filled) → AreCalendars t round cs →
    fs ≡ filled t round cs → AllByRecursion (IsFilledFor t) fs →
    IsIdle t (idle fs)
filled_idle t round cs fs are is lens =
    let same : map (λ f. f.channel) fs ≡ t.channels =
    ap (λ fs. map (λ f. f.channel) fs) is ∙ filled_channels t round cs are in
    record {
      one_each = length-map fs (λ f. free_count f.board.cells) ∙ sym (length-map fs (λ f. f.channel))
          ∙ ap (λ channels. length channels) same;
      within = λ place c at. idle_few t fs place c lens (rw same at);
    }
