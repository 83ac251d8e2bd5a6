-- P3, of all lines: each is of a round and a channel of the run.
use Rattle.std.specs.Prelude.{ℕ, ◌==◌, nat_lt, ◌&&◌, ◌||◌, not, Bool, false}
use Rattle.std.specs.List.{list_any}
use Rattle.us_flows.specs.Tables.{has_channel}
use Rattle.us_output.specs.declared.rows.Row.{Row}
use Rattle.us_output.specs.declared.rows.Row.TheVariants as rows
use Rattle.us_reports.specs.declared.place.Place.{Place}
use Rattle.us_lawful.specs.Runs.{Run, Judged}

-- a G or M line that is of this round and channel
abbrev pub is_told_at : ℕ → ℕ → Row → Bool
is_told_at round channel (rows.Granted grant) = (grant.round == round) && (grant.channel == channel)
is_told_at round channel (rows.Missed missed) = (missed.round == round) && (missed.channel == channel)
is_told_at round channel _ = false

-- the run has this round and this channel
abbrev pub has_place : Run → ℕ → ℕ → Bool
has_place run round channel = nat_lt round run.rounds && has_channel run.tables.channels channel

-- a round and a channel that the run lacks have no line; `third` is 0
abbrev pub places_hold : Run → Judged → Place → Bool
places_hold run judged p =
    not (p.third == 0) || (has_place run p.round p.channel || not (list_any (is_told_at p.round p.channel) judged.lines))
