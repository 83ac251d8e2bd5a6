-- What a call asks of its items.
use Rattle.std.specs.Prelude.{◌≡◌, ℕ, List, Some, slice_get}

-- each item meets the work's condition at its number, once the gate was entered for it: `entered` says what is known
-- then, and `accepts` is the condition
abbrev pub AreAccepted : {T : Type 0} → (ℕ → Type 0) → (ℕ → T → Type 0) → List T → Type 0
AreAccepted entered accepts items =
    (place : ℕ) (item : _) → slice_get items place ≡ Some item → entered place → accepts place item
