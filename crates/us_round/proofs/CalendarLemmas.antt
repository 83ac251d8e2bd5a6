-- The calendars that a round leaves: one for each channel still, at the next round, and none has settled too much.
use Rattle.std.proofs.Common.{◌≡◌, ℕ, zero, suc, ◌+◌, ◌*◌, ◌<◌, ◌≤◌, ◌++◌, take, List, [], ◌∷◌, length, map, refl, ap, sym, subst, ◌∙◌, arith}
use Rattle.std.specs.Prelude.{zip, sum_by, slice_get, IfSome}
use Rattle.std.specs.List.{AllByRecursion}
use Rattle.std.proofs.lemmas.List.{length-map, length-replicate}
use Rattle.std.proofs.lemmas.List.Sums.{sum_by-cons}
use Rattle.us_flows.specs.declared.channels.Channel.{Channel}
use Rattle.us_flows.specs.Tables.{Tables}
use Rattle.us_flows.specs.Lawful.{AreTables}
use Rattle.us_calendar.specs.Calendars.{Calendar, IsCalendar, opening, pace_of, settled_in, max_settled}
use Rattle.us_calendar.specs.Entries.{Entry, entries}
use Rattle.us_calendar.specs.Settling as calendar
use Rattle.us_calendar.specs.Settling.{EntryState}
use Rattle.us_bucket.specs.Levels.{full}
use Rattle.us_flows.specs.Clusters.{words_of}
use Rattle.us_split.specs.Plans.{Planned}
use Rattle.us_channel.specs.Channels as channel
use Rattle.us_channel.specs.Channels.{Filled, Built, IsBuilt, fill}
use Rattle.us_round.specs.Rounds as rounds
use Rattle.us_round.specs.Rounds.{State, build_planned, round_plan, builds_of}
use Rattle.us_round.specs.Cores.{Core, IsCore, opening_core, AreCalendars, AreCounted, settled_now, settled_then, with_calendars, credited_core}
use Rattle.us_round.specs.States.{IsState, max_settled_by}
use Rattle.us_round.specs.Parts.{ArePartsOfState, state_of}
use Rattle.us_round.proofs.FillLemmas.{calendars_long}
use Rattle.us_round.proofs.StateLemmas.{left-length, spent-length}

-- the channels of a round, built
abbrev built_on : Tables → ℕ → List Planned → List Channel → List Calendar → List Built
built_on t round plan channels cs =
    map (build_planned plan) (map (λ (pair : Channel × Calendar). fill t round pair.0 pair.1) (zip channels cs))

paces_kept : (t : Tables) (round : ℕ) (plan : List Planned) (channels : List Channel) (cs : List Calendar) →
    length cs ≡ length channels →
    map (λ calendar. calendar.pace) (map (λ b. b.calendar) (built_on t round plan channels cs))
    ≡ map (λ calendar. calendar.pace) cs
unfolding build_planned
paces_kept t round plan [] [] is = refl
paces_kept t round plan [] (calendar ∷ cs) is = absurd (omega (arith, is))
paces_kept t round plan (c ∷ channels) [] is = absurd (omega (arith, is))
paces_kept t round plan (c ∷ channels) (calendar ∷ cs) is =
    ap (λ more. calendar.pace ∷ more) (paces_kept t round plan channels cs (omega (arith, is)))

rounds_next : (t : Tables) (round : ℕ) (plan : List Planned) (channels : List Channel) (cs : List Calendar) →
    AllByRecursion (λ calendar. calendar.next_round ≡ round) cs →
    AllByRecursion (λ calendar. calendar.next_round ≡ round + 1) (map (λ b. b.calendar) (built_on t round plan channels cs))
unfolding build_planned
rounds_next t round plan [] cs are = tt
rounds_next t round plan (c ∷ channels) [] are = tt
rounds_next t round plan (c ∷ channels) (calendar ∷ cs) are =
    (ap (λ n. n + 1) are.0, rounds_next t round plan channels cs are.1)

built_long : (t : Tables) (round : ℕ) (plan : List Planned) (channels : List Channel) (cs : List Calendar) →
    length cs ≡ length channels → length (built_on t round plan channels cs) ≡ length channels
built_long t round plan [] cs is = refl
built_long t round plan (c ∷ channels) [] is = absurd (omega (arith, is))
built_long t round plan (c ∷ channels) (calendar ∷ cs) is =
    ap (λ n. suc n) (built_long t round plan channels cs (omega (arith, is)))

-- there are as many channels as the table has
pub builds_long : (s : State) → AreCalendars s.tables s.round s.calendars → length (builds_of s) ≡ length s.tables.channels
unfolding builds_of
builds_long s are =
    built_long s.tables s.round (round_plan s) s.tables.channels s.calendars
    (calendars_long s.tables s.round s.calendars are)

-- what a round leaves is a state's
pub state_next : (core : Core) (cs : List Calendar) (built : List Built) → IsCore core →
    AreCalendars core.tables core.round cs → built ≡ builds_of (with_calendars core cs) →
    IsState (with_calendars (credited_core core built) (map (λ b. b.calendar) built))
unfolding builds_of
state_next core cs built known are is =
    let t : Tables = core.tables in
    let plan : List Planned = round_plan (with_calendars core cs) in
    rw is (record {
      words = left-length _ 0 core.outstanding ∙ known.words;
      flows = spent-length _ 0 core.buckets ∙ known.flows;
      reserves = known.reserves;
      paces = paces_kept t core.round plan t.channels cs (calendars_long t core.round cs are) ∙ are.paces;
      rounds = rounds_next t core.round plan t.channels cs are.rounds;
    })

pub calendars_sum : (bs : List Built) →
    sum_by settled_in (map (λ b. b.calendar) bs) ≡ sum_by (λ b. settled_in b.calendar) bs
calendars_sum [] = refl
calendars_sum (b ∷ bs) =
    omega (
      arith,
      sum_by-cons settled_in b.calendar (map (λ b. b.calendar) bs),
      sum_by-cons (λ b. settled_in b.calendar) b bs,
      calendars_sum bs,
    )

sum_few : (cs : List Calendar) → AllByRecursion IsCalendar cs → sum_by settled_in cs ≤ length cs * max_settled
sum_few [] all = omega arith
sum_few (calendar ∷ cs) all =
    let one : settled_in calendar ≤ max_settled = all.0.settled in
    omega (arith, one, sum_few cs all.1, sum_by-cons settled_in calendar cs)

-- all calendars together have settled no more than may be
pub settled_few : (t : Tables) (bs : List Built) → AreTables t → map (λ b. b.channel) bs ≡ t.channels →
    AllByRecursion IsBuilt bs → sum_by settled_in (map (λ b. b.calendar) bs) ≤ max_settled_by
settled_few t bs lawful are known =
    let long : length (map (λ (b : Built). b.calendar) bs) ≡ length t.channels =
    length-map bs (λ (b : Built). b.calendar) ∙ sym (length-map bs (λ (b : Built). b.channel))
    ∙ ap (λ cs. length cs) are in
    let channels : length t.channels ≤ 16 = lawful.some_channels.1 in
    omega (arith, sum_few (map (λ (b : Built). b.calendar) bs) (calendars_known bs known), long, channels)
  where
    calendars_known : (bs : List Built) → AllByRecursion IsBuilt bs →
        AllByRecursion IsCalendar (map (λ (b : Built). b.calendar) bs)
    calendars_known [] known = tt
    calendars_known (b ∷ bs) known = (known.0.calendar, calendars_known bs known.1)

-- What built channels tell of their calendars is what the filled ones do.
now_kept : (plan : List Planned) (fs : List Filled) →
    sum_by (λ b. length b.settled) (map (build_planned plan) fs) ≡ settled_now fs
unfolding build_planned
now_kept plan [] = refl
now_kept plan (f ∷ fs) =
    omega (
      arith,
      sum_by-cons (λ b. length b.settled) (build_planned plan f) (map (build_planned plan) fs),
      sum_by-cons (λ f. length f.settled) f fs,
      now_kept plan fs,
    )

then_kept : (plan : List Planned) (fs : List Filled) →
    sum_by (λ b. settled_in b.calendar) (map (build_planned plan) fs) ≡ settled_then fs
unfolding build_planned
then_kept plan [] = refl
then_kept plan (f ∷ fs) =
    omega (
      arith,
      sum_by-cons (λ b. settled_in b.calendar) (build_planned plan f) (map (build_planned plan) fs),
      sum_by-cons (λ f. settled_in f.calendar) f fs,
      then_kept plan fs,
    )

pub counted : (plan : List Planned) (fs : List Filled) (cs : List Calendar) →
    settled_now fs + sum_by settled_in cs ≤ settled_then fs → AreCounted cs (map (build_planned plan) fs)
counted plan fs cs counts = omega (arith, counts, now_kept plan fs, then_kept plan fs)

-- Before round 0.

-- one more channel, where so many of them are made
pub mapped_more : {X Y : Type 0} (f : X → Y) (xs : List X) (n : ℕ) (y : Y) → n < length xs →
    IfSome (slice_get xs n) (λ x. y ≡ f x) → map f (take n xs) ++ y ∷ [] ≡ map f (take (n + 1) xs)
mapped_more f [] n y inside is = absurd (omega (arith, inside))
mapped_more f (x ∷ xs) zero y inside is = ap (λ y. y ∷ []) is
mapped_more f (x ∷ xs) (suc n) y inside is =
    let next : suc n + 1 ≡ suc (n + 1) = omega arith in
    rw next (ap (λ more. f x ∷ more) (mapped_more f xs n y (omega (arith, inside)) is))

opening_paces : (t : Tables) (channels : List Channel) →
    map (λ calendar. calendar.pace) (map (opening t) channels) ≡ map (pace_of t) channels
opening_paces t [] = refl
opening_paces t (c ∷ channels) = ap (λ more. pace_of t c ∷ more) (opening_paces t channels)

opening_rounds : (t : Tables) (channels : List Channel) →
    AllByRecursion (λ calendar. calendar.next_round ≡ 0) (map (opening t) channels)
opening_rounds t [] = tt
opening_rounds t (c ∷ channels) = (refl, opening_rounds t channels)

none_settled : (es : List Entry) →
    sum_by (λ (state : EntryState). length state.settled) (map calendar.opening_state es) ≡ 0
none_settled [] = refl
none_settled (e ∷ es) = none_settled es

none_by : (t : Tables) (channels : List Channel) → sum_by settled_in (map (opening t) channels) ≡ 0
none_by t [] = refl
none_by t (c ∷ channels) =
    omega (
      arith,
      sum_by-cons settled_in (opening t c) (map (opening t) channels),
      none_settled (entries t c),
      none_by t channels,
    )

pub opening_state : (t : Tables) → IsState (with_calendars (opening_core t) (map (opening t) t.channels))
opening_state t = record {
  words = length-replicate (length (words_of t)) 0;
  flows = length-map t.flows (λ flow. full flow.rate flow.burst);
  reserves = length-map t.flows (λ flow. full flow.min_rate flow.burst);
  paces = opening_paces t t.channels;
  rounds = opening_rounds t t.channels;
}

opening_few : (t : Tables) → sum_by settled_in (map (opening t) t.channels) ≤ max_settled_by
opening_few t = omega (arith, none_by t t.channels)

-- the channels before round 0 have these calendars, and are the table's
opening_calendars : (t : Tables) (channels : List Channel) →
    map (λ b. b.calendar) (map (channel.opening t) channels) ≡ map (opening t) channels
opening_calendars t [] = refl
opening_calendars t (c ∷ channels) = ap (λ more. opening t c ∷ more) (opening_calendars t channels)

opening_channels : (t : Tables) (channels : List Channel) →
    map (λ b. b.channel) (map (channel.opening t) channels) ≡ channels
opening_channels t [] = refl
opening_channels t (c ∷ channels) = ap (λ more. c ∷ more) (opening_channels t channels)

-- so they are parts of a state, the opening
pub opening_parts : (t : Tables) → ArePartsOfState (opening_core t) (map (channel.opening t) t.channels)
opening_parts t =
    let cs = opening_calendars t t.channels in
    record {
      state = subst (λ cs. IsState (with_calendars (opening_core t) cs)) (sym cs) (opening_state t);
      few = subst (λ cs. sum_by settled_in cs ≤ max_settled_by) (sym cs) (opening_few t);
      told = refl;
      channels = opening_channels t t.channels;
    }

pub opening_value : (t : Tables) → state_of (opening_core t) (map (channel.opening t) t.channels) ≡ rounds.opening t
opening_value t = ap (λ cs. with_calendars (opening_core t) cs) (opening_calendars t t.channels)
