-- Whose texts they are: what holds for the requests of one source needn't hold for those of another.
use Rattle.std.specs.Prelude.{◌≡◌, true, false, refl}
use Rattle.us_lawful.specs.Runs.{Run}
use Rattle.us_lawful.specs.Finals.{counts_hold}
use Rattle.us_lawful.specs.Examples.{at, stored, told}

-- the stored run, had its trace a row that is unknown
abbrev other_trace : Run
other_trace = record stored { counts = record { unknown = 1; not_requestable = 0; late = 0 } }

-- the lines of the stored run are right for its own trace, and not for this one
other_source : (counts_hold stored told (at 2 0 0) ≡ true) × (counts_hold other_trace told (at 2 0 0) ≡ false)
other_source = (refl, refl)
