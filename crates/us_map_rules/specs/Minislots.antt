-- The first minislot of a MAP that isn't what it must be, found by parts.
use Rattle.std.specs.Prelude.{◌≡◌, ◌⊎◌, ℕ, ◌-◌, ◌<◌, ◌≤◌, nat_le, nat_lt, ◌&&◌, ◌||◌, not, Bool, true, false, if◌then◌else◌, List, [], ◌∷◌, Option, Some, None, option_map, find, ◌==◌, ⊤}
use Rattle.std.specs.List.{AllByRecursion, list_all, list_any}
use Rattle.us_flows.specs.declared.channels.Channel.{Channel}
use Rattle.us_channel.specs.Maps.{gap}
use Rattle.us_lawful.specs.Regions.{Region, end_of, covers, holder_count, is_right_element}

-- The least number at which a test fails: where it fails nowhere, nothing; else it fails there, and passes below.
abbrev pub IsFirstFailing : (ℕ → Bool) → Option ℕ → Type 0
IsFirstFailing test None = (at : ℕ) → test at ≡ true
IsFirstFailing test (Some first) = (test first ≡ false) × ((at : ℕ) → at < first → test at ≡ true)

-- the lesser of two numbers, where there are any
abbrev pub lesser : Option ℕ → Option ℕ → Option ℕ
lesser None b = b
lesser a None = a
lesser (Some a) (Some b) = if nat_lt b a then Some b else Some a

-- Parts of what must hold at a minislot inside a MAP: one of these at most has it,
abbrev pub owners_hold : ℕ → List Region → ℕ → Bool
owners_hold len regions at = not (nat_lt at len) || nat_le (holder_count at regions) 1

-- and its element is right.
abbrev pub element_holds : Channel → ℕ → List Region → List Region → ℕ → Bool
element_holds c len regions pieces at =
    not (nat_lt at len) || list_any (λ piece. covers at piece && is_right_element c len regions piece) pieces

-- no region starts before one that stands before it
abbrev pub AreByStart : List Region → Type 0
AreByStart [] = ⊤
AreByStart (s ∷ more) = AllByRecursion (λ later. s.start ≤ later.start) more × AreByStart more

-- each starts where the one before it ends, and has a minislot
abbrev pub AreSideBySide : ℕ → List Region → Type 0
AreSideBySide from [] = ⊤
AreSideBySide from (s ∷ more) = (s.start ≡ from) × (0 < s.slots) × AreSideBySide (end_of s) more

-- the gap from a minislot to another one
abbrev pub gap_between : Channel → ℕ → ℕ → Region
gap_between c from to = record {
  start = from;
  slots = to - from;
  sid = (gap c from (to - from)).sid;
  iuc = (gap c from (to - from)).iuc;
}

-- Where each part fails first, of regions by start and elements side by side: where one that is empty starts,
abbrev pub first_empty : List Region → Option ℕ
first_empty regions = option_map (λ s. s.start) (find (λ s. s.slots == 0) regions)

-- where one starts before one that stands before it ends, of which the last ends at `end`,
abbrev pub first_shared : ℕ → ℕ → List Region → Option ℕ
first_shared len end [] = None
first_shared len end (s ∷ more) =
    if nat_le len s.start then None
    else (if nat_lt 0 s.slots then (if nat_lt s.start end then Some s.start else first_shared len (end_of s) more)
    else first_shared len end more)

-- where the elements end that are right, one after another from `from` on, if that is inside,
abbrev pub right_up_to : Channel → ℕ → List Region → ℕ → List Region → ℕ
right_up_to c len regions from [] = from
right_up_to c len regions from (piece ∷ more) =
    if is_right_element c len regions piece then right_up_to c len regions (end_of piece) more else from

abbrev pub first_wrong : Channel → ℕ → List Region → List Region → Option ℕ
first_wrong c len regions pieces =
    if nat_lt (right_up_to c len regions 0 pieces) len then Some (right_up_to c len regions 0 pieces) else None

-- and the length of the MAP, where one starts there or behind
abbrev pub first_outside : ℕ → List Region → Option ℕ
first_outside len regions = if list_all (λ s. (s.slots == 0) || nat_lt s.start len) regions then None else Some len

-- these elements are the gap, if it has a minislot, and the rest
abbrev pub IsBehindGap : Channel → ℕ → ℕ → List Region → List Region → Type 0
IsBehindGap c from to pieces rest =
    ((from ≡ to) × (pieces ≡ rest)) ⊎ ((from < to) × (pieces ≡ gap_between c from to ∷ rest))
