-- Breaches: where a rule doesn't hold.
use Rattle.std.specs.Prelude.{◌≡◌, ◌⊎◌, Bool, true, false, List, [], ◌∷◌, Option, Some, None}
use Rattle.us_flows.specs.declared.channels.Channel.{Channel}
use Rattle.us_reports.specs.declared.place.Place.{Place}
use Rattle.us_reports.specs.Order.{goes_before}

-- What is answered of a rule: where it holds everywhere, nothing; else a place at which it doesn't hold, and it holds at
-- each place that goes before that.
abbrev pub IsFirstBreach : List Channel → (Place → Type 0) → Option Place → Type 0
IsFirstBreach channels Holds None = (p : Place) → Holds p
IsFirstBreach channels Holds (Some first) =
    (Holds first → ⊥) × ((p : Place) → goes_before channels p first ≡ true → Holds p)

-- The same in words of what fails, for rules that have parts: nothing fails anywhere; or something fails at a place, and
-- none of what fails goes before that.
abbrev pub IsFirstFailure : List Channel → (Place → Type 0) → Option Place → Type 0
IsFirstFailure channels Fails None = (p : Place) → Fails p → ⊥
IsFirstFailure channels Fails (Some first) =
    Fails first × ((p : Place) → Fails p → goes_before channels p first ≡ false)

-- a test fails at a place
abbrev pub At : Place → Bool → Place → Type 0
At at holds p = (p ≡ at) × (holds ≡ false)

-- one of two things fails there,
abbrev pub Either : (Place → Type 0) → (Place → Type 0) → Place → Type 0
Either A B p = A p ⊎ B p

-- or something of one of these items
abbrev pub Any : {X : Type 0} → (X → Place → Type 0) → List X → Place → Type 0
Any Fails [] p = ⊥
Any Fails (x ∷ xs) p = Fails x p ⊎ Any Fails xs p
