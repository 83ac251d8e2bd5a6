-- Where a grant has room in MAPs that have their reserves and nothing else. Whatever a schedule does, no grant of it has
-- room elsewhere.
use Rattle.std.specs.Prelude.{ℕ, ◌+◌, ◌*◌, ◌%◌, ◌≤◌, ◌==◌, if◌then◌else◌}
use Rattle.us_flows.specs.declared.channels.Channel.{Channel}
use Rattle.us_flows.specs.Tables.{Tables, map_len}
use Rattle.us_flows.specs.Ranges.{max_round_ticks}
use Rattle.us_slots.specs.Times.{Timing}
use Rattle.us_slots.specs.Windows.{StartsWithin}

-- the minislots of each MAP, of the reserve at the start of each MAP in so many, and of the one at the end of each
pub record EmptyMaps : Type 0 where
  pub len : ℕ
  pub maintenance : ℕ
  pub maintenance_every : ℕ
  pub contention : ℕ

-- those of a channel
abbrev pub maps_of : Tables → Channel → EmptyMaps
maps_of t c = record {
  len = map_len t c;
  maintenance = c.maintenance_minislots;
  maintenance_every = c.maintenance_every;
  contention = c.contention_minislots;
}

-- a MAP has a minislot at least, and both reserves have room in it
pub record AreMaps (m : EmptyMaps) : Type 0 where
  pub some : 1 ≤ m.len
  pub most : m.len ≤ max_round_ticks
  pub every : 1 ≤ m.maintenance_every
  pub reserves : m.maintenance + m.contention ≤ m.len

-- the minislots of the reserve at the start of a MAP
abbrev pub reserve_of : EmptyMaps → ℕ → ℕ
reserve_of m map = if map % m.maintenance_every == 0 then m.maintenance else 0

-- a grant of so many minislots, which starts in this one of the run, lies in a MAP between the reserves
pub record Fits (m : EmptyMaps) (map slots minislot : ℕ) : Type 0 where
  pub behind : map * m.len + reserve_of m map ≤ minislot
  pub before : minislot + slots + m.contention ≤ map * m.len + m.len

-- and so it does from some minislot on of those from the first to the last
pub record HasRoom (m : EmptyMaps) (map slots first last : ℕ) : Type 0 where
  pub minislot : ℕ
  pub from : first ≤ minislot
  pub to : minislot ≤ last
  pub fits : Fits m map slots minislot

-- and so it does in some MAP from a minislot on that begins in a window, whose ideal time and jitter are these
abbrev pub CanBeGranted : EmptyMaps → Timing → ℕ → ℕ → ℕ → Type 0
CanBeGranted m time slots ideal jitter =
    (map : ℕ) × (minislot : ℕ) × StartsWithin time ideal jitter minislot × Fits m map slots minislot
