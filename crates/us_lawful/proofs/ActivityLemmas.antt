-- What the calendars of a schedule know of the activity of flows: what its cuts say.
use Rattle.std.proofs.Common.{◌≡◌, ℕ, zero, suc, ◌==◌, eq-eqb, eqb-true, Bool, true, false, List, [], ◌∷◌, ◌++◌, length, map, Contains, Option, Some, None, IfSome, refl, sym, ap, ap₂, ◌∙◌, arith, inl, inr}
use Rattle.std.specs.Prelude.{◌&&◌, if◌then◌else◌, find, is_some, option_and_then, option_map, slice_get, slice_index, zip, fold}
use Rattle.std.specs.List.{AllByRecursion}
use Rattle.std.proofs.lemmas.Bool.{cases_Bool, false≢true}
use Rattle.std.proofs.lemmas.List.{length-map}
use Rattle.std.proofs.lemmas.List.Elements.{Contains-append_left}
use Rattle.std.proofs.lemmas.List.Sorted.{Contains-permutation}
use Rattle.std.proofs.lemmas.Option.{slice_get-map, slice_get-get_or}
use Rattle.std.proofs.lemmas.Simd.{map-map}
use Rattle.us_flows.specs.declared.channels.Channel.{Channel}
use Rattle.us_flows.specs.declared.stations.Station.{Station}
use Rattle.us_flows.specs.declared.flows.SchedulingType.{SchedulingType}
use Rattle.us_flows.specs.declared.flows.SchedulingType.TheVariants.{BestEffort, NonRealTimePolling, RealTimePolling, ActivityDetection, UnsolicitedGrant}
use Rattle.us_flows.specs.Tables.{FlowTable, Tables, channel_with, first_channel, map_len}
use Rattle.us_flows.specs.Clusters.{tells_activity}
use Rattle.us_flows.specs.Lawful.{AreTables, Fits, IsFlow, IsScheduled}
use Rattle.us_flows.proofs.KeyLaws.{item_of_key}
use Rattle.us_holes.specs.Boards.{Board}
use Rattle.us_calendar.specs.declared.silences.Silence.{Silence}
use Rattle.us_calendar.specs.Activity.{activity, hears}
use Rattle.us_calendar.specs.Entries.{Entry, WordedFlow, entries, entry_of_flow, entry_of_station, scheduled, with_words}
use Rattle.us_calendar.specs.Occurrences.{Pace}
use Rattle.us_calendar.specs.Settling.{EntryState, heard, opening_state, settle_state}
use Rattle.us_calendar.specs.Calendars as calendars
use Rattle.us_calendar.specs.Calendars.{Calendar, activity_in, heard_by, is_heard_as, run_entries}
use Rattle.us_calendar.proofs.OrderLemmas.{flows_first, stations_then, worded_all, worded_apart}
use Rattle.us_calendar.proofs.SortedLemmas.{entries_moved}
use Rattle.us_split.specs.Plans.{Planned}
use Rattle.us_channel.specs.Channels.{Built, fill}
use Rattle.us_channel.specs.Reserves.{reserves}
use Rattle.us_round.specs.Rounds.{State, opening, begun, round_plan, build_planned, builds_of, round_from, round_of, final}
use Rattle.us_round.specs.FinalRows as finals
use Rattle.us_output.proofs.PartLemmas.{all_append, all_found}
use Rattle.us_lawful.proofs.RoundLemmas.{final_tables, found_made}
use Rattle.us_lawful.proofs.ItemLemmas.{all_made, any_placed, find_some, made_there, moved_all}
use Rattle.us_lawful.proofs.CalendarLineLemmas.{all_by_places}

-- Round by round.

-- entries, each with whether its flow is active
abbrev known_in : List EntryState → List (Entry × Bool)
known_in states = map (λ state. (state.entry, state.active)) states

-- behind these cuts
abbrev known_after : List (List ℕ) → Entry × Bool → Entry × Bool
known_after cuts one = (one.0, activity one.0.silence one.1 cuts)

-- hearing a cut says so, and settling changes nothing of it
heard_knows : (cut : List ℕ) (states : List EntryState) →
    known_in (map (heard cut) states) ≡ map (known_after (cut ∷ [])) (known_in states)
heard_knows cut [] = refl
heard_knows cut (state ∷ states) =
    ap (λ more. known_after (cut ∷ []) (state.entry, state.active) ∷ more) (heard_knows cut states)

run_knows : (pace : Pace) (round : ℕ) (states : List EntryState) (board : Board) →
    known_in (run_entries pace round states board).states ≡ known_in states
unfolding run_entries
run_knows pace round [] board = refl
run_knows pace round (state ∷ states) board =
    ap (λ more. (state.entry, state.active) ∷ more)
    (run_knows pace round states (settle_state pace round state board).board)

-- the calendars of a round
round_knows : (t : Tables) (round : ℕ) (plan : List Planned) (cut : List ℕ) (channels : List Channel)
    (cs : List Calendar) → length cs ≡ length channels →
    map (λ (b : Built). known_in b.calendar.states) (map (build_planned plan)
    (map (λ (pair : Channel × Calendar). fill t round pair.0 pair.1) (zip channels (map (heard_by cut) cs))))
    ≡ map (λ (c : Calendar). map (known_after (cut ∷ [])) (known_in c.states)) cs
unfolding build_planned
round_knows t round plan cut [] [] many = refl
round_knows t round plan cut [] (calendar ∷ cs) many = absurd (omega (arith, many))
round_knows t round plan cut (c ∷ channels) [] many = refl
round_knows t round plan cut (c ∷ channels) (calendar ∷ cs) many =
    ap₂ (λ one more. one ∷ more)
    (run_knows calendar.pace calendar.next_round (map (heard cut) calendar.states) (reserves c (map_len t c) round)
    ∙ heard_knows cut calendar.states)
    (round_knows t round plan cut channels cs (omega (arith, many)))

unheard : (all : List (Entry × Bool)) → map (known_after []) all ≡ all
unheard [] = refl
unheard (one ∷ all) = ap (λ more. one ∷ more) (unheard all)

-- and those that all rounds leave
final_knows : (s : State) (cuts : List (List ℕ)) → length s.calendars ≡ length s.tables.channels →
    map (λ (c : Calendar). known_in c.states) (final s cuts).calendars
    ≡ map (λ (c : Calendar). map (known_after cuts) (known_in c.states)) s.calendars
unfolding final round_of round_from builds_of
final_knows s [] many = λ i. map (λ (c : Calendar). sym (unheard (known_in c.states)) i) s.calendars
final_knows s (cut ∷ cuts) many =
    let now : State = begun s cut in
    let next : State = (round_of s cut).state in
    let later : List (Entry × Bool) → List (Entry × Bool) = map (known_after cuts) in
    let known : Built → List (Entry × Bool) = λ b. known_in b.calendar.states in
    let one : map known (builds_of now)
    ≡ map (λ (c : Calendar). map (known_after (cut ∷ [])) (known_in c.states)) s.calendars =
    round_knows s.tables s.round (round_plan now) cut s.tables.channels s.calendars many in
    let long : length next.calendars ≡ length s.tables.channels =
    omega (
      arith,
      many,
      ap length one,
      length-map (builds_of now) known,
      length-map (builds_of now) (λ (b : Built). b.calendar),
      length-map s.calendars (λ (c : Calendar). map (known_after (cut ∷ [])) (known_in c.states)),
    ) in
    final_knows next cuts long
    ∙ map-map (λ (c : Calendar). later (known_in c.states)) (λ (b : Built). b.calendar) (builds_of now)
    ∙ sym (map-map later known (builds_of now)) ∙ ap (map later) one
    ∙ map-map later (λ (c : Calendar). map (known_after (cut ∷ [])) (known_in c.states)) s.calendars
    ∙ (λ i. map (λ (c : Calendar). map-map (known_after cuts) (known_after (cut ∷ [])) (known_in c.states) i) s.calendars)

-- before round 0 each flow is active
opened : (cuts : List (List ℕ)) (es : List Entry) →
    map (known_after cuts) (known_in (map opening_state es)) ≡ map (λ e. (e, activity e.silence true cuts)) es
opened cuts [] = refl
opened cuts (e ∷ es) = ap (λ more. (e, activity e.silence true cuts) ∷ more) (opened cuts es)

-- the calendar that the rounds of these cuts leave of a channel
record IsLeft (t : Tables) (cuts : List (List ℕ)) (place : ℕ) (c : Channel) : Type 0 where
  pub calendar : Calendar
  pub at : slice_get (final (opening t) cuts).calendars place ≡ Some calendar
  pub known : known_in calendar.states ≡ map (λ e. (e, activity e.silence true cuts)) (entries t c)

calendar_left : (t : Tables) (cuts : List (List ℕ)) (place : ℕ) (c : Channel) → slice_get t.channels place ≡ Some c →
    IsLeft t cuts place c
calendar_left t cuts place c at =
    let first : List Calendar = map (calendars.opening t) t.channels in
    let after : Calendar → List (Entry × Bool) = λ calendar. map (known_after cuts) (known_in calendar.states) in
    let found = found_made (λ (calendar : Calendar). known_in calendar.states) (final (opening t) cuts).calendars place
    (after (calendars.opening t c))
    (ap (λ all. slice_get all place) (final_knows (opening t) cuts (length-map t.channels (calendars.opening t)))
    ∙ slice_get-map after first place
    ∙ ap (option_map after)
    (slice_get-map (calendars.opening t) t.channels place ∙ ap (option_map (calendars.opening t)) at)) in
    record { calendar = found.0; at = found.1; known = found.2 ∙ opened cuts (entries t c) }

-- Entries.

-- an entry of the flow with this id, whose activity is detected
abbrev is_heard : ℕ → Entry → Bool
is_heard id e = is_some e.silence && (e.id == id)

-- a calendar that knows this of its entries tells it
told_in : (id : ℕ) (active : Entry → Bool) (states : List EntryState) (es : List Entry) →
    known_in states ≡ map (λ e. (e, active e)) es →
    option_map (λ (state : EntryState). state.active) (find (is_heard_as id) states) ≡ option_map active (find (is_heard id) es)
told_in id active [] [] same = refl
told_in id active [] (e ∷ es) same = absurd (cc same)
told_in id active (state ∷ states) [] same = absurd (cc same)
told_in id active (state ∷ states) (e ∷ es) same =
    let both : (state.entry, state.active) ∷ known_in states ≡ (e, active e) ∷ map (λ e. (e, active e)) es = same in
    let first : ◌≡◌ {A = Entry × Bool} (state.entry, state.active) (e, active e) = cc in
    let rest : known_in states ≡ map (λ e. (e, active e)) es = cc in
    let test : is_heard id state.entry ≡ is_heard id e = ap (λ (one : Entry × Bool). is_heard id one.0) first in
    elim (cases_Bool (is_heard id e)) [
      | inl is ↦ rw (test, is) (ap (λ (one : Entry × Bool). Some one.1) first)
      | inr out ↦ rw (test, out) (told_in id active states es rest)
    ]

-- the channel that is found by its id, and with it the calendar beside it
record IsBeside (key : ℕ) (channels : List Channel) (cs : List Calendar) (c : Channel) : Type 0 where
  pub place : ℕ
  pub at : slice_get channels place ≡ Some c
  pub id : c.id ≡ key
  pub both : (calendar : Calendar) → slice_get cs place ≡ Some calendar →
      find (λ (pair : Channel × Calendar). pair.0.id == key) (zip channels cs) ≡ Some (c, calendar)

beside : (id : ℕ) (channels : List Channel) (cs : List Calendar) (c : Channel) → channel_with channels id ≡ Some c →
    IsBeside id channels cs c
beside id [] cs c found = absurd (cc found)
beside id (d ∷ channels) [] c found = elim (cases_Bool (d.id == id)) [
  | inl is ↦
      let first : Some d ≡ Some c = rw is at found in
      let same : d ≡ c = cc in
      record {
        place = zero;
        at = first;
        id = sym (ap (λ (c : Channel). c.id) same) ∙ eqb-true d.id id is;
        both = λ calendar there. absurd (cc there);
      }
  | inr out ↦
      let more = beside id channels [] c (rw out at found) in
      record { place = suc more.place; at = more.at; id = more.id; both = λ calendar there. absurd (cc there) }
]
beside id (d ∷ channels) (calendar ∷ cs) c found = elim (cases_Bool (d.id == id)) [
  | inl is ↦
      let first : Some d ≡ Some c = rw is at found in
      let same : d ≡ c = cc in
      record {
        place = zero;
        at = first;
        id = sym (ap (λ (c : Channel). c.id) same) ∙ eqb-true d.id id is;
        both = λ other there. (let own : calendar ≡ other = cc there in rw is (ap₂ (λ c k. Some (c, k)) same own));
      }
  | inr out ↦
      let more = beside id channels cs c (rw out at found) in
      record { place = suc more.place; at = more.at; id = more.id; both = λ other there. rw out (more.both other there) }
]

-- Words.

activity_is : (s : Silence) (was : Bool) (cuts : List (List ℕ)) → activity (Some s) was cuts ≡ fold (hears s.word) was cuts
activity_is s was [] = refl
activity_is s was (cut ∷ cuts) = activity_is s (hears s.word was cut) cuts

-- the entries of a flow whose activity is detected are told by its word
abbrev IsByWord : List (List ℕ) → WordedFlow → Entry → Type 0
IsByWord cuts f e = is_heard f.flow.id e ≡ true → activity e.silence true cuts ≡ fold (hears f.word) true cuts

flow_by_word : (t : Tables) (cuts : List (List ℕ)) (c : Channel) (i j : ℕ) (f x : WordedFlow) → AreTables t →
    slice_get (with_words 0 t.flows) i ≡ Some f → slice_get (with_words 0 t.flows) j ≡ Some x →
    IfSome (entry_of_flow c x) (IsByWord cuts f)
flow_by_word t cuts c i j f x lawful own other = by (slice_index x.flow.channels 0 == c.id)
  where
    word : x.flow.id ≡ f.flow.id → x.word ≡ f.word
    word same =
        ap (λ (f : WordedFlow). f.word)
        (item_of_key (λ (f : WordedFlow). f.flow.id) (with_words 0 t.flows) j i x f (worded_apart t c lawful) other own same)

    of_kind : (kind : SchedulingType) → IfSome (scheduled c x.word x.flow kind) (IsByWord cuts f)
    of_kind BestEffort = tt
    of_kind NonRealTimePolling = λ never. absurd (false≢true never)
    of_kind RealTimePolling = λ never. absurd (false≢true never)
    of_kind ActivityDetection =
        λ is. activity_is (record { word = x.word; slots = c.request_minislots }) true cuts
        ∙ ap (λ word. fold (hears word) true cuts) (word (eqb-true x.flow.id f.flow.id is))
    of_kind UnsolicitedGrant = λ never. absurd (false≢true never)

    by : (b : Bool) → IfSome (if b then scheduled c x.word x.flow x.flow.kind else None) (IsByWord cuts f)
    by true = of_kind x.flow.kind
    by false = tt

station_by_word : (cuts : List (List ℕ)) (c : Channel) (f : WordedFlow) (s : Station) →
    IfSome (entry_of_station c s) (IsByWord cuts f)
station_by_word cuts c f s = elim (cases_Bool (s.channel == c.id)) [
  | inl is ↦ rw is (λ never. absurd (false≢true never))
  | inr out ↦ rw out tt
]

-- a flow whose activity is detected has an entry on its first channel
record HasEntry (c : Channel) (f : WordedFlow) : Type 0 where
  pub entry : Entry
  pub made : entry_of_flow c f ≡ Some entry
  pub own : is_heard f.flow.id entry ≡ true

own_entry : (c : Channel) (f : WordedFlow) → slice_index f.flow.channels 0 ≡ c.id → tells_activity f.flow.kind ≡ true →
    HasEntry c f
own_entry c f first tells =
    let found = by f.flow.kind tells in
    record { entry = found.0; made = rw (eq-eqb (slice_index f.flow.channels 0) c.id first) (found.1); own = found.2 }
  where
    by : (kind : SchedulingType) → tells_activity kind ≡ true →
        (e : Entry) × (scheduled c f.word f.flow kind ≡ Some e) × (is_heard f.flow.id e ≡ true)
    by BestEffort never = absurd (false≢true never)
    by NonRealTimePolling never = absurd (false≢true never)
    by RealTimePolling never = absurd (false≢true never)
    by ActivityDetection is = (_, refl, eq-eqb f.flow.id f.flow.id refl)
    by UnsolicitedGrant never = absurd (false≢true never)

-- so of the entries of that channel the first one that is heard for it is told by its word
entry_told : (t : Tables) (cuts : List (List ℕ)) (c : Channel) (i : ℕ) (f : WordedFlow) → AreTables t →
    slice_get (with_words 0 t.flows) i ≡ Some f → slice_index f.flow.channels 0 ≡ c.id →
    tells_activity f.flow.kind ≡ true →
    option_map (λ (e : Entry). activity e.silence true cuts) (find (is_heard f.flow.id) (entries t c))
    ≡ Some (fold (hears f.word) true cuts)
entry_told t cuts c i f lawful at first tells =
    let unsorted : List Entry = flows_first t c lawful ++ stations_then t c lawful in
    let each : AllByRecursion (IsByWord cuts f) unsorted =
    all_append (IsByWord cuts f) (flows_first t c lawful) (stations_then t c lawful)
    (all_made (IsByWord cuts f) (entry_of_flow c) (with_words 0 t.flows)
    (all_by_places (λ x. IfSome (entry_of_flow c x) (IsByWord cuts f)) (with_words 0 t.flows)
    (λ j x there. flow_by_word t cuts c i j f x lawful at there)))
    (all_made (IsByWord cuts f) (entry_of_station c) t.stations
    (all_by_places (λ s. IfSome (entry_of_station c s) (IsByWord cuts f)) t.stations
    (λ j s there. station_by_word cuts c f s))) in
    let all : AllByRecursion (IsByWord cuts f) (entries t c) =
    moved_all (IsByWord cuts f) unsorted (entries t c) (entries_moved t c lawful) each in
    let own = own_entry c f first tells in
    let has : Contains (entries t c) own.entry =
    Contains-permutation unsorted (entries t c) own.entry (entries_moved t c lawful)
    (Contains-append_left (flows_first t c lawful) (stations_then t c lawful) own.entry
    (made_there (entry_of_flow c) (with_words 0 t.flows) i f own.entry at own.made)) in
    let found = find_some (is_heard f.flow.id) (IsByWord cuts f) (entries t c) all
    (any_placed (is_heard f.flow.id) (entries t c) has.0 own.entry
    (slice_get-get_or (entries t c) has.0 own.entry has.1 ∙ ap Some has.2) own.own) in
    ap (option_map (λ (e : Entry). activity e.silence true cuts)) found.found ∙ ap Some (found.holds found.passes)

-- Flows.

-- the first channel of such a flow is there
first_there : (t : Tables) (channels : List Channel) (slots : Channel → ℕ) (ids : List ℕ) →
    Fits t slots (option_and_then (channel_with channels) (slice_get ids 0)) →
    (c : Channel) × (channel_with channels (slice_index ids 0) ≡ Some c)
first_there t channels slots [] fits = absurd fits
first_there t channels slots (id ∷ ids) fits = by (channel_with channels id) refl fits
  where
    by : (one : Option Channel) → channel_with channels id ≡ one → Fits t slots one →
        (c : Channel) × (channel_with channels id ≡ Some c)
    by None is fits = absurd fits
    by (Some c) is fits = (c, is)

polls_fit : (t : Tables) (flow : FlowTable) (kind : SchedulingType) → tells_activity kind ≡ true →
    IsScheduled t flow kind → Fits t (λ channel. channel.request_minislots) (first_channel t.channels flow)
polls_fit t flow BestEffort never is = absurd (false≢true never)
polls_fit t flow NonRealTimePolling never is = absurd (false≢true never)
polls_fit t flow RealTimePolling never is = absurd (false≢true never)
polls_fit t flow ActivityDetection tells is = is.1.poll
polls_fit t flow UnsolicitedGrant never is = absurd (false≢true never)

-- and the calendar there knows at the end what the cuts say
channel_tells : (t : Tables) (cuts : List (List ℕ)) (i : ℕ) (f : WordedFlow) → AreTables t →
    slice_get (with_words 0 t.flows) i ≡ Some f → tells_activity f.flow.kind ≡ true →
    finals.activity_on (final (opening t) cuts) (slice_index f.flow.channels 0) f.flow.id
    ≡ Some (fold (hears f.word) true cuts)
channel_tells t cuts i f lawful at tells =
    let end : State = final (opening t) cuts in
    let id : ℕ = slice_index f.flow.channels 0 in
    let tells_of : Channel × Calendar → Option Bool = λ pair. activity_in f.flow.id pair.1 in
    let is : IsFlow t f.flow =
    all_found (λ (x : WordedFlow). IsFlow t x.flow) (with_words 0 t.flows) i f (worded_all (IsFlow t) 0 t.flows lawful.flows)
    at in
    let there = first_there t t.channels (λ channel. channel.request_minislots) f.flow.channels
    (polls_fit t f.flow f.flow.kind tells is.scheduled) in
    let c : Channel = there.0 in
    let own = beside id t.channels end.calendars c there.1 in
    let left = calendar_left t cuts own.place c own.at in
    ap (λ (u : Tables). option_and_then tells_of (find (λ pair. pair.0.id == id) (zip u.channels end.calendars)))
    (final_tables (opening t) cuts)
    ∙ ap (option_and_then tells_of) (own.both left.calendar left.at)
    ∙ told_in f.flow.id (λ e. activity e.silence true cuts) left.calendar.states (entries t c) left.known
    ∙ entry_told t cuts c i f lawful at (sym own.id) tells

-- So the state that a schedule leaves tells of each flow what the cuts say, if that tells its activity.
pub activity_told : (t : Tables) (cuts : List (List ℕ)) (i : ℕ) (f : WordedFlow) → AreTables t →
    slice_get (with_words 0 t.flows) i ≡ Some f →
    finals.activity_of (final (opening t) cuts) f.flow
    ≡ (if tells_activity f.flow.kind then Some (fold (hears f.word) true cuts) else None)
activity_told t cuts i f lawful at = elim (cases_Bool (tells_activity f.flow.kind)) [
  | inl tells ↦ rw tells (channel_tells t cuts i f lawful at tells)
  | inr other ↦ rw other refl
]
