use Rattle.std.proofs.Common.{◌*◌, arith}
use Rattle.us_calendar.specs.Occurrences.{end_of}
use Rattle.us_calendar.proofs.SettleLemmas.{first_ones}
use Rattle.us_calendar.proofs.laws.first_ones.Goals as goal

pub returns : goal.returns
returns c = λ pace round count e speaks board grants jitter it.
    first_ones pace round e speaks (end_of pace round * e.grants) count board
    (record { grants = grants; jitter = jitter }) it (omega arith)
