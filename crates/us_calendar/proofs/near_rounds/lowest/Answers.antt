use Rattle.us_calendar.proofs.BitLemmas.{is_lowest}
use Rattle.us_calendar.proofs.near_rounds.lowest.Goals as goal

pub returns : goal.returns
returns c = is_lowest c.args.bits c.requires c.ranges.bits.fits
