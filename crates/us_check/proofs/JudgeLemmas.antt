-- What a judge is told, and what it answers, part by part.
use Rattle.std.proofs.Common.{◌≡◌, ℕ, suc, ◌*◌, ◌<◌, ◌≤◌, true, List, [], ◌∷◌, ◌++◌, length, take, option_map, Option, Some, None, refl, sym, ◌∙◌, inl, inr, suc-mul, mul-le-mul_right, arith}
use Rattle.std.specs.Prelude.{nat_le, nat_lt, not}
use Rattle.std.specs.List.{AllByRecursion}
use Rattle.std.specs.Option.{option_or}
use Rattle.std.proofs.lemmas.Bool.{cases_Bool, cases_lt, le-leb, leb-true, or_right}
use Rattle.std.proofs.lemmas.Option.{get_or_from_slice_get, slice_get_within}
use Rattle.us_codec.specs.MapsFiles.{maps_file}
use Rattle.us_flows.specs.declared.channels.Channel.{Channel}
use Rattle.us_flows.specs.Tables.{Tables}
use Rattle.us_requests.specs.Traces.{TraceAsks}
use Rattle.us_output.specs.declared.rows.Row.{Row}
use Rattle.us_output.specs.declared.rows.Row.TheVariants as rows
use Rattle.us_reports.specs.declared.place.Place.{Place}
use Rattle.us_lawful.specs.Runs.{Run, RoundMap, Judged, run_in}
use Rattle.us_lawful.specs.Headings.{HeadingsHold}
use Rattle.us_reports.specs.Breaches.{Any, IsFirstBreach, IsFirstFailure}
use Rattle.us_output.proofs.PartLemmas.{all_append}
use Rattle.us_reports.specs.Order.{earlier, goes_before, place_of}
use Rattle.us_reports.specs.Rows.{is_requested}
use Rattle.us_reports.proofs.AnyLemmas.{any_at}
use Rattle.us_reports.proofs.BreachLemmas.{one_behind}
use Rattle.us_map_rules.specs.declared.gathered.MapRegions.{MapRegions}
use Rattle.us_map_rules.specs.Gathered as regions
use Rattle.us_map_rules.specs.LackedPlaces.{IsOfLackedPlace}
use Rattle.us_map_rules.specs.MapsReading.{IsMapsOf}
use Rattle.us_map_rules.specs.RegionLines.{comes_next, map_at, map_number, number_behind, placed_line}
use Rattle.us_map_rules.proofs.PlaceLemmas.{lines_first}
use Rattle.us_map_rules.proofs.TableLemmas.{place_inside}
use Rattle.us_map_rules.proofs.TakenLemmas.{answer_lacked}
use Rattle.us_credit_rules.specs.CreditLines.{is_due, latest_behind}
use Rattle.us_check.specs.declared.judges.Judge.{Judge}
use Rattle.us_reports.specs.declared.rules.Breach.{Breach}
use Rattle.us_reports.specs.declared.rules.Rule.TheVariants as rules
use Rattle.us_check.specs.Judges.{AllAreTold, AreTold, IsMapsBreach, broken}
use Rattle.us_check.specs.Verdicts.{EarlierHold, Headings, Holds, HoldsAll, IsAnswer, IsPartBroken, Part, Places, Regions, order_of, parts, rule_of}
use Rattle.us_check.proofs.VerdictLaws.{listed}

-- a part that is broken first, before which all hold, is the answer
pub part_broken : (run : Run) (judged : Judged) (part : Part) (place : Place) → EarlierHold run judged part →
    IsFirstBreach run.tables.channels (Holds run judged part) (Some place) →
    IsAnswer run judged (Some (record { rule = rule_of part; place = place }))
part_broken run judged part place earlier first =
    any_at (λ one place. (rule_of part ≡ rule_of one) × IsPartBroken run judged one place) parts (order_of part) Headings place
    (slice_get_within parts (order_of part) part (listed part))
    (rw (get_or_from_slice_get parts (order_of part) part Headings (listed part))
    (refl, record { earlier = earlier; first = first }))

-- a part is broken first, and is the answer; or this is known
abbrev pub IsAnswerOr : Run → Judged → Type 0 → Option Breach → Type 0
IsAnswerOr run judged Known None = Known
IsAnswerOr run judged Known (Some breach) = IsAnswer run judged (Some breach)

-- so headings are, if they don't hold
pub headings_broken : (run : Run) (file : List ℕ) (maps : List RoundMap) (place : Option Place) (found : Option Breach) →
    IsMapsOf file maps →
    ((lines : List Row) → IsFirstBreach run.tables.channels (HeadingsHold run (record { maps = maps; lines = lines })) place) →
    found ≡ broken rules.Headings place → IsMapsBreach run file found
headings_broken run file maps None found is first breach = rw breach (maps, is, first)
headings_broken run file maps (Some place) found is first breach =
    rw breach (λ report lines read.
    let judged : Judged = record { maps = maps; lines = lines } in
    (judged, record { records = is; lines = read }, part_broken run judged Headings place tt (first lines)))

-- no place is lacked, and the parts before that of minislots hold,
pub or_lacked : (run : Run) (judged : Judged) (lacked : Option Place) (found : Option Breach) →
    HoldsAll run judged Headings → IsFirstFailure run.tables.channels (Any (IsOfLackedPlace run) judged.lines) lacked →
    found ≡ broken rules.Minislots lacked → IsAnswerOr run judged ((lacked ≡ None) × EarlierHold run judged Regions) found
or_lacked run judged None found heads first is =
    rw is (refl, (heads, (lines_first run.tables.channels run judged None first, tt)))
or_lacked run judged (Some place) found heads first is =
    rw is (part_broken run judged Places place (heads, tt) (lines_first run.tables.channels run judged (Some place) first))

-- and with each part more that one holds too
pub or_part : (run : Run) (judged : Judged) (Given : Type 0) (part : Part) (first found all : Option Breach)
    (place : Option Place) → IsAnswerOr run judged (Given × EarlierHold run judged part) first →
    (Given → IsFirstBreach run.tables.channels (Holds run judged part) place) →
    found ≡ broken (rule_of part) place → all ≡ option_or first found →
    IsAnswerOr run judged (Given × AllByRecursion (HoldsAll run judged) (take (order_of part) parts ++ part ∷ [])) all
or_part run judged Given part (Some breach) found all place so is is_found is_all = rw is_all so
or_part run judged Given part None found all None so is is_found is_all =
    rw is_all (rw is_found (so.0, all_append (HoldsAll run judged) (take (order_of part) parts) (part ∷ []) so.1 (is so.0, tt)))
or_part run judged Given part None found all (Some place) so is is_found is_all =
    rw is_all (rw is_found (part_broken run judged part place so.1 (is so.0)))

pub or_none : (run : Run) (judged : Judged) (Given : Type 0) (first : Option Breach) →
    IsAnswerOr run judged (Given × AllByRecursion (HoldsAll run judged) parts) first → IsAnswer run judged first
or_none run judged Given None so = so.1
or_none run judged Given (Some breach) so = so

-- of two places the earlier is none where both are
none_earlier : (channels : List Channel) (a b : Option Place) → earlier channels a b ≡ None → (a ≡ None) × (b ≡ None)
none_earlier channels None b none = (refl, none)
none_earlier channels (Some a) None none = absurd (cc none)
none_earlier channels (Some a) (Some b) none = elim (cases_Bool (goes_before channels b a)) [
  | inl before ↦
      let some : Some b ≡ None = rw before at none in
      absurd (cc some)
  | inr not ↦
      let some : Some a ≡ None = rw not at none in
      absurd (cc some)
]

pub first_stays : (channels : List Channel) (a : Option Place) → a ≡ earlier channels a None
first_stays channels None = refl
first_stays channels (Some a) = refl

-- a line more is told, where each rule is told it
pub told_more : (t : Tables) (v : TraceAsks) (file : List ℕ) (maps : List RoundMap) (lines : List Row) (row : Row)
    (old new : Judge) (one : Option Place) → IsFirstFailure t.channels (IsOfLackedPlace (run_in t v) row) one →
    new.lacked ≡ earlier t.channels old.lacked one →
    (new.lacked ≡ None → one ≡ None → AllAreTold t v file maps lines old → AllAreTold t v file maps (lines ++ row ∷ []) new) →
    AreTold t v file maps lines old → AreTold t v file maps (lines ++ row ∷ []) new
told_more t v file maps lines row old new one of_row is each told = record {
  lacked = rw is (one_behind t.channels (IsOfLackedPlace (run_in t v)) lines row old.lacked one told.lacked of_row);
  all = λ none.
      let were = none_earlier t.channels old.lacked one (sym is ∙ none) in
      each none were.1 (told.all were.0);
}

-- a judge to which no line is told begins with the first MAP: in a run of no rounds it could stand behind none
no_maps : IsMapsOf [] []
unfolding maps_file
no_maps = record { each = tt; spelled = refl }

pub first_number : (run : Run) (s : MapRegions) →
    ((run : Run) (file : List ℕ) (maps : List RoundMap) → IsMapsOf file maps → regions.AreTold run file maps [] s) →
    s.number ≡ 0
first_number run s told = omega (arith, (told (record run { rounds = 0 }) [] [] no_maps).within)

-- Lines of requests are told in the order of rounds, since all are told in the order of MAPs.

-- the MAP of a round stands behind those of earlier rounds, and before those of later ones
in_round : (t : Tables) (rounds round channel number : ℕ) → map_at t rounds round channel ≡ Some number →
    (round * length t.channels ≤ number) × (number < suc round * length t.channels)
in_round t rounds round channel number is = elim (cases_Bool (nat_lt round rounds)) [
  | inl low ↦ by (place_of t.channels channel) refl (rw low at is)
  | inr over ↦
      let never : None ≡ Some number = rw over at is in
      absurd (cc never)
]
  where
    by : (o : Option ℕ) → place_of t.channels channel ≡ o → option_map (map_number t round) o ≡ Some number →
        (round * length t.channels ≤ number) × (number < suc round * length t.channels)
    by None none found = absurd (cc found)
    by (Some place) there found =
        let same : map_number t round place ≡ number = cc in
        let inside = place_inside t.channels channel place there in
        (omega (arith, same), omega (arith, same, inside, suc-mul round (length t.channels)))

-- so a round whose MAPs don't all stand behind one of another round is no later than that
no_later : (n latest round number : ℕ) → latest * n ≤ number → number < suc round * n → latest ≤ round
no_later n latest round number low below = elim (cases_lt round latest) [
  | inl later ↦
      let more : suc round * n ≤ latest * n = mul-le-mul_right n (omega (arith, later)) in
      absurd (omega (arith, more, low, below))
  | inr not_later ↦ not_later
]

-- a line that comes next is due, where the run has its round and channel, and then too no request is of a round behind
pub due_next : (run : Run) (number latest : ℕ) (row : Row) → latest * length run.tables.channels ≤ number →
    IsFirstFailure run.tables.channels (IsOfLackedPlace run row) None →
    comes_next run.tables run.rounds number row ≡ true →
    (is_due latest row ≡ true)
    × (latest_behind latest row * length run.tables.channels
    ≤ number_behind number (placed_line run.tables run.rounds row))
due_next run number latest (rows.Missed m) low has next = (refl, low)
due_next run number latest (rows.Final f) low has next = (refl, low)
due_next run number latest (rows.Activity a) low has next = (refl, low)
due_next run number latest (rows.Counts u) low has next = (refl, low)
due_next run number latest (rows.Granted g) low has next = by (map_at run.tables run.rounds g.round g.channel) refl
  where
    place : Place
    place = record { round = g.round; channel = g.channel; third = 0 }

    by : (o : Option ℕ) → map_at run.tables run.rounds g.round g.channel ≡ o →
        (is_due latest (rows.Granted g) ≡ true)
        × (latest_behind latest (rows.Granted g) * length run.tables.channels
        ≤ number_behind number (placed_line run.tables run.rounds (rows.Granted g)))
    by None none = absurd (has place (answer_lacked run number (rows.Granted g) place refl none).lacked.0)
    by (Some map) at =
        let inside = in_round run.tables run.rounds g.round g.channel map at in
        let more : number ≤ map = leb-true number map (rw at at next) in
        let due = no_later (length run.tables.channels) latest g.round map (omega (arith, low, more)) inside.1 in (
          or_right (not (is_requested g.entry)) (nat_le latest g.round) (le-leb latest g.round due),
          rw at (elim (cases_Bool (is_requested g.entry)) [
            | inl asked ↦ rw asked inside.0
            | inr other ↦ rw other (omega (arith, low, more))
          ]),
        )
