-- Laws of what a round gives.
use Rattle.std.specs.Prelude.{◌≡◌, ℕ, ◌<◌, List, IsPermutation}
use Rattle.std.specs.List.{AllByRecursion}
use Rattle.us_flows.specs.declared.channels.Channel.{Channel}
use Rattle.us_channel.specs.Channels.{Built}
use Rattle.us_output.specs.Outputs.{start_of, in_order, rows_on}
use Rattle.us_output.specs.declared.rows.Row.{Row}
use Rattle.us_output.specs.declared.rows.Row.TheVariants as rows

-- lines by their start are the same lines, where all start inside the MAP
abbrev pub ByStartMoves : Type 0
ByStartMoves = (len : ℕ) (lines : List Row) → AllByRecursion (λ line. start_of line < len) lines →
    IsPermutation lines (in_order start_of len lines)

-- a G or an M line of this round and channel
abbrev pub IsLineOf : ℕ → Channel → Row → Type 0
IsLineOf round c (rows.Granted grant) = (grant.round ≡ round) × (grant.channel ≡ c.id)
IsLineOf round c (rows.Missed missed) = (missed.round ≡ round) × (missed.channel ≡ c.id)
IsLineOf round c _ = ⊥

-- every line of a channel's round bears them
abbrev pub LinesBearRound : Type 0
LinesBearRound = (round : ℕ) (built : Built) → AllByRecursion (IsLineOf round built.channel) (rows_on round built)
