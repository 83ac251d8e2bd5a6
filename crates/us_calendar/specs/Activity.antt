-- Whether a flow is active or silent (ours). It says so by marks, which come with a round's cut: bytes by word.
use Rattle.std.specs.Prelude.{ℕ, ◌+◌, ◌/◌, nat_lt, Bool, true, false, if◌then◌else◌, List, [], ◌∷◌, take, slice_index, Option, Some, None}
use Rattle.us_calendar.specs.declared.silences.Silence.{Silence}
use Rattle.us_calendar.specs.Entries.{Entry}
use Rattle.us_calendar.specs.Occurrences.{Pace, end_of}

-- a word of which a cut has something is marked
abbrev pub is_marked : List ℕ → ℕ → Bool
is_marked cut word = nat_lt 0 (slice_index cut word)

-- The flow whose silent word this is, the active one behind it, is active in a round that cuts so, where it was active before
-- or not: a mark as active goes before one as silent, and without a mark it stays as it was.
abbrev pub hears : ℕ → Bool → List ℕ → Bool
hears word was cut = if is_marked cut (word + 1) then true else if is_marked cut word then false else was

-- one whose activity nobody detects stays active
abbrev pub hears_of : Option Silence → Bool → List ℕ → Bool
hears_of None was cut = was
hears_of (Some s) was cut = hears s.word was cut

-- after these cuts, one round behind another
abbrev pub activity : Option Silence → Bool → List (List ℕ) → Bool
activity silence was [] = was
activity silence was (cut ∷ cuts) = activity silence (hears_of silence was cut) cuts

-- in a round of a run with these cuts, where round 0 begins with an active flow
abbrev pub active_in : Option Silence → List (List ℕ) → ℕ → Bool
active_in silence cuts round = activity silence true (take (round + 1) cuts)

-- and in the round that holds a time: all rounds last as long as the first
abbrev pub speaks_by : Pace → List (List ℕ) → Entry → ℕ → Bool
speaks_by pace cuts e time = active_in e.silence cuts (time / end_of pace 0)
