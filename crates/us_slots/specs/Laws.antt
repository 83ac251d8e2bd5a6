-- Laws of what a data grant takes.
use Rattle.std.specs.Prelude.{ℕ, ◌<◌, ◌≤◌}
use Rattle.us_slots.specs.Bursts.{ChannelBursts, IsChannelBursts, grant_cost}
use Rattle.us_slots.specs.Capacities.{capacity_of}

-- Where some minislots carry a byte in a long burst, a grant of all that they carry, or of fewer bytes, fits into them.
-- A capacity of 0 says nothing: not even an empty burst may fit.
abbrev pub CarriedBytesFit : Type 0
CarriedBytesFit = (b : ChannelBursts) (slots bytes : ℕ) → IsChannelBursts b → 0 < capacity_of b.time b.long slots →
    bytes ≤ capacity_of b.time b.long slots → (grant_cost b bytes).0 ≤ slots

-- a grant of a byte or more takes a minislot or more
abbrev pub BytesCostMinislots : Type 0
BytesCostMinislots = (b : ChannelBursts) (bytes : ℕ) → IsChannelBursts b → 0 < bytes → 0 < (grant_cost b bytes).0
