-- Devices: when a reader or a writer counts as failed.
use Rattle.std.specs.Prelude.{ℕ, Bool, true, ◌==◌, ◌<◌, ◌≤◌, ◌&&◌, not, List, length, take, codes, Option, Result, Ok, Err}
use Rattle.std.specs.Io.KnownBytes.{Appends, Consumes}
use Rattle.us_slots.specs.declared.devices.reading.ReadFault.{ReadFault}
use Rattle.us_slots.specs.declared.devices.reading.ReadFault.TheVariants as fault

-- a reader, and whether a call of it failed
pub record Device (D : Type 0) : Type 0 where
  pub inner : D
  pub failed : Bool

-- a writer, whether a call of it failed, and whether the last one was a flush that didn't
pub record WriteDevice (D : Type 0) : Type 0 where
  pub inner : D
  pub failed : Bool
  pub flushed : Bool

-- a write that failed: an Err, or no byte taken of a piece that isn't empty
abbrev pub is_failed_write : {E : Type 0} → Result ℕ E → List ℕ → Bool
is_failed_write (Ok count) piece = count == 0 && not (length piece == 0)
is_failed_write (Err _) piece = true

-- known bytes grow by fewer than all bytes of the piece, from its front
abbrev pub AppendsFront : Option (List ℕ) → Option (List ℕ) → List ℕ → Type 0
AppendsFront old new piece = (n : ℕ) × (n < length piece) × Appends old new (take n piece)

-- known bytes were taken from the front, at most so many
abbrev pub TookAtMost : ℕ → Option (List ℕ) → Option (List ℕ) → Type 0
TookAtMost most old new = (front : List ℕ) × (length front ≤ most) × Consumes old new front

-- what a fault of reading to the end says
abbrev pub read_fault_text : ReadFault → List ℕ
read_fault_text fault.TooLarge = codes "too many bytes"
read_fault_text fault.Failed = codes "the device failed"
read_fault_text fault.NoMemory = codes "out of memory"
