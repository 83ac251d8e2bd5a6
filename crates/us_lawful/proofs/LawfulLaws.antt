-- Every schedule is lawful: each rule holds at each place.
use Rattle.std.proofs.lemmas.Bool.{and_from}
use Rattle.us_lawful.specs.Output.{judged_of, output_of, run_of}
use Rattle.us_lawful.specs.Credits.{credit_lines_hold, sums_hold}
use Rattle.us_lawful.specs.Laws.{SchedulesAreLawful, TextsOfSchedulesAreLawful}
use Rattle.us_lawful.proofs.HeadingLaws.{headings_are_lawful, maps_are_in_grammar}
use Rattle.us_lawful.proofs.PlaceLaws.{places_are_lawful}
use Rattle.us_lawful.proofs.RegionLaws.{regions_are_lawful}
use Rattle.us_lawful.proofs.CalendarLineLaws.{calendar_lines_are_lawful}
use Rattle.us_lawful.proofs.RateLaws.{rates_are_lawful}
use Rattle.us_lawful.proofs.CreditLineLaws.{credit_lines_are_lawful}
use Rattle.us_lawful.proofs.SumLaws.{sums_are_lawful}
use Rattle.us_lawful.proofs.FinalLaws.{activities_are_lawful, counts_are_lawful, finals_are_lawful}
use Rattle.us_lawful.proofs.TextLaws.{rows_are, texts_are_lawful}

pub schedules_are_lawful : SchedulesAreLawful
schedules_are_lawful t cuts counts lawful long fits = record {
  maps = maps_are_in_grammar t cuts counts lawful long fits;
  headings = headings_are_lawful t cuts counts lawful long fits;
  places = places_are_lawful t cuts counts lawful long fits;
  regions = regions_are_lawful t cuts counts lawful long fits;
  calendar_lines = calendar_lines_are_lawful t cuts counts lawful long fits;
  rates = rates_are_lawful t cuts counts lawful long fits;
  credits = λ p. and_from
      (credit_lines_hold (run_of t cuts counts) (judged_of (output_of t cuts counts)) p)
      (sums_hold (run_of t cuts counts) (judged_of (output_of t cuts counts)) p)
      (credit_lines_are_lawful t cuts counts lawful long fits p)
      (sums_are_lawful t cuts counts lawful long fits p);
  finals = finals_are_lawful t cuts counts lawful long fits;
  activities = activities_are_lawful t cuts counts lawful long fits;
  counts = counts_are_lawful t cuts counts lawful long fits;
}

pub texts_of_schedules_are_lawful : TextsOfSchedulesAreLawful
texts_of_schedules_are_lawful t cuts counts lawful long fits fields =
    texts_are_lawful (run_of t cuts counts) (output_of t cuts counts) (rows_are t cuts counts lawful long fields)
    (schedules_are_lawful t cuts counts lawful long fits)
