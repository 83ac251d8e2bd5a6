-- What is lawful: MAPs and lines of which each rule holds at each place.
use Rattle.std.specs.Prelude.{◌≡◌, ◌^◌, ◌<◌, true}
use Rattle.std.specs.List.{AllByRecursion}
use Rattle.us_codec.specs.Bodies.{IsMapBody}
use Rattle.us_reports.specs.declared.place.Place.{Place}
use Rattle.us_lawful.specs.Runs.{Run, RoundMap, Judged}
use Rattle.us_lawful.specs.Headings.{HeadingsHold}
use Rattle.us_lawful.specs.Places.{places_hold}
use Rattle.us_lawful.specs.Regions.{regions_hold}
use Rattle.us_lawful.specs.CalendarLines.{calendar_lines_hold}
use Rattle.us_lawful.specs.Rates.{rates_hold}
use Rattle.us_lawful.specs.Credits.{credits_hold}
use Rattle.us_lawful.specs.Finals.{finals_hold, activities_hold, counts_hold}

-- a round of four bytes, and a body in the grammar
pub record IsRoundMap (m : RoundMap) : Type 0 where
  pub round : m.round < 2 ^ 32
  pub body : IsMapBody m.body

-- the rules, at every place
pub record IsLawful (run : Run) (judged : Judged) : Type 0 where
  pub maps : AllByRecursion IsRoundMap judged.maps
  pub headings : (p : Place) → HeadingsHold run judged p
  pub places : (p : Place) → places_hold run judged p ≡ true
  pub regions : (p : Place) → regions_hold run judged p ≡ true
  pub calendar_lines : (p : Place) → calendar_lines_hold run judged p ≡ true
  pub rates : (p : Place) → rates_hold run judged p ≡ true
  pub credits : (p : Place) → credits_hold run judged p ≡ true
  pub finals : (p : Place) → finals_hold run judged p ≡ true
  pub activities : (p : Place) → activities_hold run judged p ≡ true
  pub counts : (p : Place) → counts_hold run judged p ≡ true
