-- P3, of rounds and channels: what a line has to do with it.
use Rattle.std.specs.Prelude.{◌≡◌, false, Option, Some, None}
use Rattle.us_output.specs.declared.rows.Row.{Row}
use Rattle.us_output.specs.declared.rows.Row.TheVariants as rows
use Rattle.us_reports.specs.declared.place.Place.{Place}
use Rattle.us_lawful.specs.Runs.{Run}
use Rattle.us_lawful.specs.Places.{has_place}

-- the round and the channel of a G or M line, with 0 for the third number
abbrev pub place_told : Row → Option Place
place_told (rows.Granted grant) = Some (record { round = grant.round; channel = grant.channel; third = 0 })
place_told (rows.Missed missed) = Some (record { round = missed.round; channel = missed.channel; third = 0 })
place_told _ = None

-- a line is of this place, and the run lacks it
abbrev pub IsOfLackedPlace : Run → Row → Place → Type 0
IsOfLackedPlace run line p = (place_told line ≡ Some p) × (has_place run p.round p.channel ≡ false)
