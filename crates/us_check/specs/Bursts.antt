-- Lines that credit more bytes than any burst carries: a line may tell any number of 64 bits.
use Rattle.std.specs.Prelude.{◌≡◌, ℕ, ◌+◌, ◌<◌, true, false}
use Rattle.std.specs.List.{AllByRecursion}
use Rattle.us_slots.specs.Bursts.{grant_cost}
use Rattle.us_flows.specs.declared.channels.Channel.{Channel}
use Rattle.us_flows.specs.Tables.{Tables, map_len, header_bytes}
use Rattle.us_flows.specs.Lawful.{AreTables, IsChannel}
use Rattle.us_flows.specs.Clusters.{table_order}
use Rattle.us_split.specs.Plans.{max_burst_bytes}
use Rattle.us_output.specs.declared.rows.Grant.{Grant}
use Rattle.us_reports.specs.declared.place.Place.{Place}
use Rattle.us_lawful.specs.Runs.{Run, Judged, requested_in}
use Rattle.us_lawful.specs.Headings.{HeadingsHold}
use Rattle.us_lawful.specs.Places.{places_hold}
use Rattle.us_lawful.specs.Regions.{regions_hold}
use Rattle.us_lawful.specs.Credits.{is_of, credits_hold}
use Rattle.us_lawful.specs.Lawful.{IsRoundMap}

-- A grant of more bytes than the most of a burst has more minislots than any MAP of its channel.
abbrev pub LongGrantsPassMaps : Type 0
LongGrantsPassMaps = (t : Tables) (c : Channel) (bytes : ℕ) → AreTables t → IsChannel t c → max_burst_bytes < bytes →
    map_len t c < (grant_cost c.bursts bytes).0

-- a line credits so many: its bytes and the header are more than that, whichever cluster of the table it names
abbrev pub IsLong : Tables → Grant → Type 0
IsLong t g =
    AllByRecursion
    (λ turn. is_of turn.cluster g ≡ true → max_burst_bytes < g.credit + header_bytes turn.cluster.flow) (table_order t)

-- what is judged of MAPs, and of the minislots of lines
pub record MapsHold (run : Run) (judged : Judged) : Type 0 where
  pub maps : AllByRecursion IsRoundMap judged.maps
  pub headings : (p : Place) → HeadingsHold run judged p
  pub places : (p : Place) → places_hold run judged p ≡ true
  pub regions : (p : Place) → regions_hold run judged p ≡ true

-- the place at which a line of a request is judged
abbrev pub place_of_line : Grant → Place
place_of_line g = record { round = g.round; channel = g.channel; third = g.id }

-- So where that holds, such a line of a request breaks the rule of credits at its place.
abbrev pub LongCreditsFail : Type 0
LongCreditsFail = (run : Run) (judged : Judged) → AreTables run.tables → MapsHold run judged →
    AllByRecursion (λ g. IsLong run.tables g → credits_hold run judged (place_of_line g) ≡ false)
    (requested_in judged.lines)
