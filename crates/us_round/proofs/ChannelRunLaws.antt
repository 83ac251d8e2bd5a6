-- One channel from round to round: it stays, and its calendar goes over the boards of its reserves.
use Rattle.std.proofs.Common.{◌≡◌, ℕ, zero, suc, List, [], ◌∷◌, length, map, Some, option_map, slice_get, slice_index_or, refl, ap, ap₂, ◌∙◌}
use Rattle.std.specs.Prelude.{zip}
use Rattle.std.specs.List.{range_with_len}
use Rattle.std.proofs.lemmas.Option.{slice_get-map, get_or_from_slice_get}
use Rattle.us_flows.specs.declared.channels.Channel.{Channel}
use Rattle.us_flows.specs.Tables.{map_len}
use Rattle.us_holes.specs.Boards.{Board}
use Rattle.us_calendar.specs.Calendars as calendars
use Rattle.us_calendar.specs.Calendars.{Calendar, after, heard_by, ran}
use Rattle.us_calendar.specs.Runs.{rounds_on}
use Rattle.us_split.specs.Plans.{Planned}
use Rattle.us_channel.specs.Reserves.{reserves}
use Rattle.us_channel.specs.Channels.{Filled, Built, fill}
use Rattle.us_round.specs.Rounds.{State, opening, begun, fills_of, round_plan, build_planned, builds_of, round_from, round_of, schedule}
use Rattle.us_round.specs.ScheduleLaws.{ChannelsStay, CalendarsRun, settled_at}
use Rattle.us_round.proofs.FillLemmas.{filled_channels}
use Rattle.us_round.proofs.ScheduleLaws.{calendars_in}

-- Channels.

built_channels : (plan : List Planned) (fs : List Filled) →
    map (λ b. b.channel) (map (build_planned plan) fs) ≡ map (λ f. f.channel) fs
unfolding build_planned
built_channels plan [] = refl
built_channels plan (f ∷ fs) = ap (λ more. f.channel ∷ more) (built_channels plan fs)

pub channels_stay : ChannelsStay
unfolding builds_of
channels_stay s is =
    built_channels (round_plan s) (fills_of s) ∙ filled_channels s.tables s.round s.calendars (calendars_in s is)

-- Calendars.

zip_at : {X Y : Type 0} (xs : List X) (ys : List Y) (place : ℕ) (x : X) (y : Y) → slice_get xs place ≡ Some x →
    slice_get ys place ≡ Some y → slice_get (zip xs ys) place ≡ Some (x, y)
zip_at [] ys place x y at there = absurd (cc at)
zip_at (z ∷ xs) [] place x y at there = absurd (cc there)
zip_at (z ∷ xs) (w ∷ ys) zero x y at there =
    let first : z ≡ x = cc in
    let other : w ≡ y = cc in
    ap₂ (λ z w. Some (z, w)) first other
zip_at (z ∷ xs) (w ∷ ys) (suc place) x y at there = zip_at xs ys place x y at there

-- the channel at a place of a round, with the calendar at that place
built_at : (s : State) (place : ℕ) (c : Channel) (calendar : Calendar) → slice_get s.tables.channels place ≡ Some c →
    slice_get s.calendars place ≡ Some calendar →
    slice_get (builds_of s) place ≡ Some (build_planned (round_plan s) (fill s.tables s.round c calendar))
unfolding builds_of
built_at s place c calendar at there =
    let pairs : List (Channel × Calendar) = zip s.tables.channels s.calendars in
    let own : Channel × Calendar → Filled = λ pair. fill s.tables s.round pair.0 pair.1 in
    let filled : slice_get (fills_of s) place ≡ Some (fill s.tables s.round c calendar) =
    slice_get-map own pairs place ∙ ap (option_map own) (zip_at s.tables.channels s.calendars place c calendar at there) in
    slice_get-map (build_planned (round_plan s)) (fills_of s) place ∙ ap (option_map (build_planned (round_plan s))) filled

runs_from : (s : State) (cuts : List (List ℕ)) (place : ℕ) (c : Channel) (calendar : Calendar) →
    slice_get s.tables.channels place ≡ Some c → slice_get s.calendars place ≡ Some calendar →
    map (settled_at place) (schedule s cuts)
    ≡ map (λ round. round.settled)
    (rounds_on calendar cuts (map (reserves c (map_len s.tables c)) (range_with_len s.round (length cuts))))
unfolding schedule round_of round_from build_planned
runs_from s [] place c calendar at there = refl
runs_from s (cut ∷ cuts) place c calendar at there =
    let now : State = begun s cut in
    let next : State = (round_of s cut).state in
    let board : Board = reserves c (map_len s.tables c) s.round in
    let knows : slice_get now.calendars place ≡ Some (heard_by cut calendar) =
    slice_get-map (heard_by cut) s.calendars place ∙ ap (option_map (heard_by cut)) there in
    let built : Built = build_planned (round_plan now) (fill s.tables s.round c (heard_by cut calendar)) in
    let here : slice_get (builds_of now) place ≡ Some built = built_at now place c (heard_by cut calendar) at knows in
    let settled : slice_index_or (map (λ b. b.settled) (builds_of now)) place [] ≡ (ran calendar cut board).settled =
    get_or_from_slice_get (map (λ b. b.settled) (builds_of now)) place (ran calendar cut board).settled []
    (slice_get-map (λ b. b.settled) (builds_of now) place ∙ ap (option_map (λ b. b.settled)) here) in
    let left : slice_get (map (λ b. b.calendar) (builds_of now)) place ≡ Some (after calendar cut board) =
    slice_get-map (λ b. b.calendar) (builds_of now) place ∙ ap (option_map (λ b. b.calendar)) here in
    ap₂ (λ x xs. x ∷ xs) settled (runs_from next cuts place c (after calendar cut board) at left)

pub calendars_run : CalendarsRun
calendars_run t cuts place c at =
    runs_from (opening t) cuts place c (calendars.opening t c) at
    (slice_get-map (calendars.opening t) t.channels place ∙ ap (option_map (calendars.opening t)) at)
