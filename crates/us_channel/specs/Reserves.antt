-- The reserves of a MAP (ours): minislots that belong to all modems before anything is granted.
use Rattle.std.specs.Prelude.{ℕ, ◌-◌, ◌%◌, ◌==◌, if◌then◌else◌}
use Rattle.us_slots.specs.UsageCodes as codes
use Rattle.us_flows.specs.declared.channels.Channel.{Channel}
use Rattle.us_holes.specs.Boards.{Board, empty_board, assign}

-- the SID that addresses all modems
abbrev pub broadcast : ℕ
broadcast = 16383

-- so many minislots for all modems; none are no assignment
abbrev pub reserved : Board → ℕ → ℕ → ℕ → Board
reserved board start slots iuc =
    if slots == 0 then board else assign board start slots (record { sid = broadcast; iuc = iuc })

-- how many minislots the Initial Maintenance of a round has
abbrev pub maintenance_in : Channel → ℕ → ℕ
maintenance_in c round = if round % c.maintenance_every == 0 then c.maintenance_minislots else 0

-- the Initial Maintenance of a round that has one, at the start of the MAP
abbrev pub maintenance : Channel → ℕ → Board → Board
maintenance c round board =
    if round % c.maintenance_every == 0 then reserved board 0 c.maintenance_minislots codes.initial_maintenance else board

-- a MAP of `len` minislots with both reserves; contention is at its end
unfoldable pub reserves : Channel → ℕ → ℕ → Board
reserves c len round =
    reserved (maintenance c round (empty_board len)) (len - c.contention_minislots) c.contention_minislots codes.request
