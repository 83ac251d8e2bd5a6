-- What those who do the phases of a round are given and answer, channel by channel.
use Rattle.std.specs.Prelude.{ℕ, [], slice_index_or}
use Rattle.std.specs.List.{AllByRecursion}
use Rattle.us_split.specs.Claims.{IsClaimOn}
use Rattle.us_channel.specs.Channels.{Built, fill, build_on, ungranted, filled_part}
use Rattle.us_round.specs.Cores.{IsReady}
use Rattle.us_round.specs.declared.hands.Filling.{Filling}
use Rattle.us_round.specs.declared.hands.Building.{Building}

-- a channel that reserves and calendar may be done for, and what they leave of it
abbrev pub CanFill : Filling → ℕ → Built → Type 0
CanFill work place b = IsReady work.config.now work.round b

abbrev pub filled_at : Filling → ℕ → Built → Built
filled_at work place b = ungranted (fill work.config.now work.round b.channel b.calendar)

-- a channel where the claims of its place may be placed, and with these
abbrev pub CanBuild : Building → ℕ → Built → Type 0
CanBuild work place b = AllByRecursion (IsClaimOn b.channel) (slice_index_or work.planner.now.claims place [])

abbrev pub built_at : Building → ℕ → Built → Built
built_at work place b = build_on (slice_index_or work.planner.now.claims place []) (filled_part b)
