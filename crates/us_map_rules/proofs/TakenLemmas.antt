-- What is answered of a line that is told, by its round and channel.
use Rattle.std.proofs.Common.{◌≡◌, ℕ, ◌<◌, ◌≤◌, true, length, Option, Some, None, refl, sym, ap, ◌∙◌, subst, inl, inr}
use Rattle.std.specs.Prelude.{is_some, nat_lt, option_map}
use Rattle.std.proofs.lemmas.Bool.{cases_Bool, false≢true, le-leb, lt-leb}
use Rattle.us_flows.specs.Tables.{Tables}
use Rattle.us_output.specs.declared.rows.Grant.{Grant}
use Rattle.us_output.specs.declared.rows.Row.{Row}
use Rattle.us_output.specs.declared.rows.Row.TheVariants as rows
use Rattle.us_lawful.specs.Places.{has_place}
use Rattle.us_lawful.specs.Regions.{Region, region_of}
use Rattle.us_lawful.specs.Runs.{Run}
use Rattle.us_reports.specs.declared.place.Place.{Place}
use Rattle.us_reports.specs.Breaches.{IsFirstFailure}
use Rattle.us_reports.proofs.BreachLemmas.{only_there}
use Rattle.us_map_rules.specs.declared.gathered.Taken.TheVariants as taken
use Rattle.us_map_rules.specs.LackedPlaces.{IsOfLackedPlace, place_told}
use Rattle.us_map_rules.specs.RegionLines.{PlacedRegion, is_behind, map_at, placed_line}
use Rattle.us_map_rules.specs.Gathered.{IsTaken}
use Rattle.us_map_rules.proofs.PlaceLemmas.{same_place}
use Rattle.us_map_rules.proofs.TableLemmas.{has_by_place, place_or_end}

-- the run has a round and a channel where it has a MAP of them
has_by_map : (run : Run) (round channel : ℕ) →
    has_place run round channel ≡ is_some (map_at run.tables run.rounds round channel)
has_by_map run round channel = elim (cases_Bool (nat_lt round run.rounds)) [
  | inl low ↦ elim (cases_Bool (nat_lt (place_or_end run.tables.channels channel) (length run.tables.channels))) [
    | inl has ↦ rw (low, has) (has_by_place run.tables.channels channel ∙ has)
    | inr lacks ↦ rw (low, lacks) (has_by_place run.tables.channels channel ∙ lacks)
  ]
  | inr past ↦ rw past refl
]

-- The minislots of a line: none where it tells no place,
pub none_told : (t : Tables) (rounds : ℕ) (line : Row) → place_told line ≡ None → placed_line t rounds line ≡ None
none_told t rounds (rows.Granted g) none = absurd (cc none)
none_told t rounds (rows.Missed m) none = refl
none_told t rounds (rows.Final s) none = refl
none_told t rounds (rows.Activity a) none = refl
none_told t rounds (rows.Counts n) none = refl

-- where it is no G line,
pub none_granted : (t : Tables) (rounds : ℕ) (line : Row) → ((g : Grant) → line ≡ rows.Granted g → ⊥) →
    placed_line t rounds line ≡ None
none_granted t rounds (rows.Granted g) never = absurd (never g refl)
none_granted t rounds (rows.Missed m) never = refl
none_granted t rounds (rows.Final s) never = refl
none_granted t rounds (rows.Activity a) never = refl
none_granted t rounds (rows.Counts n) never = refl

-- and else those of the MAP of its place
told_map : (t : Tables) (rounds : ℕ) (g : Grant) (place : Place) (o : Option ℕ) → place_told (rows.Granted g) ≡ Some place →
    map_at t rounds place.round place.channel ≡ o → map_at t rounds g.round g.channel ≡ o
told_map t rounds g place o told at =
    ap (λ (p : Place). map_at t rounds p.round p.channel) (same_place g.round g.channel place told) ∙ at

pub one_granted : (t : Tables) (rounds : ℕ) (line : Row) (g : Grant) (place : Place) (number : ℕ) →
    line ≡ rows.Granted g → place_told line ≡ Some place → map_at t rounds place.round place.channel ≡ Some number →
    placed_line t rounds line ≡ Some (record { map = number; region = region_of g })
one_granted t rounds line g place number is told at =
    ap (placed_line t rounds) is
    ∙ ap (option_map (placed (region_of g))) (told_map t rounds g place (Some number) (sym (ap place_told is) ∙ told) at)
  where
    placed : Region → ℕ → PlacedRegion
    placed region number = record { map = number; region = region }

pub none_lacked : (t : Tables) (rounds : ℕ) (line : Row) (place : Place) → place_told line ≡ Some place →
    map_at t rounds place.round place.channel ≡ None → placed_line t rounds line ≡ None
none_lacked t rounds (rows.Granted g) place told at = rw (told_map t rounds g place None told at) refl
none_lacked t rounds (rows.Missed m) place told at = refl
none_lacked t rounds (rows.Final s) place told at = refl
none_lacked t rounds (rows.Activity a) place told at = refl
none_lacked t rounds (rows.Counts n) place told at = refl

-- What is answered.

module _ (run : Run) (number : ℕ) (line : Row) where
  -- the run has each place that the line tells,
  abbrev IsOfRun : Type 0
  IsOfRun = (p : Place) → place_told line ≡ Some p → has_place run p.round p.channel ≡ true

  -- which is so where it tells that of a MAP
  pub of_map : (place : Place) (map : ℕ) → place_told line ≡ Some place →
      map_at run.tables run.rounds place.round place.channel ≡ Some map → IsOfRun
  of_map place map told at p also =
      let same : place ≡ p = cc in
      subst (λ (q : Place). has_place run q.round q.channel ≡ true) same
      (has_by_map run place.round place.channel ∙ ap is_some at)

  not_lacked : IsOfRun → IsFirstFailure run.tables.channels (IsOfLackedPlace run line) None
  not_lacked has = λ p fails. false≢true (sym fails.1 ∙ has p fails.0)

  pub answer_aside : placed_line run.tables run.rounds line ≡ None → IsOfRun → IsTaken run number line taken.Told
  answer_aside none has = record { told = sym (ap (is_behind number) none); lacked = not_lacked has }

  pub answer_lacked : (place : Place) → place_told line ≡ Some place →
      map_at run.tables run.rounds place.round place.channel ≡ None → IsTaken run number line (taken.Lacked place)
  answer_lacked place told none = record {
    told = sym (ap (is_behind number) (none_lacked run.tables run.rounds line place told none));
    lacked = only_there run.tables.channels (IsOfLackedPlace run line) place
        (told, has_by_map run place.round place.channel ∙ ap is_some none)
        (λ p fails.
        let also : place_told line ≡ Some p = fails.0 in
        let same : p ≡ place = cc in
        same);
  }

  pub answer_late : (q : PlacedRegion) → placed_line run.tables run.rounds line ≡ Some q → q.map < number → IsOfRun →
      IsTaken run number line taken.Late
  answer_late q is less has = record {
    told = sym (ap (is_behind number) is ∙ lt-leb number q.map less);
    lacked = not_lacked has;
  }

  pub answer_next : (q : PlacedRegion) → placed_line run.tables run.rounds line ≡ Some q → number ≤ q.map → IsOfRun →
      IsTaken run number line taken.Told
  answer_next q is more has = record {
    told = sym (ap (is_behind number) is ∙ le-leb number q.map more);
    lacked = not_lacked has;
  }
