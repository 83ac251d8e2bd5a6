-- Idle minislots: the first of some numbers, the longest run, and the same minislot by minislot.
use Rattle.std.proofs.Common.{◌≡◌, ℕ, zero, suc, ◌+◌, ◌-◌, ◌<◌, ◌≤◌, nat_le, List, [], ◌∷◌, length, take, drop, get_or, Bool, true, false, Option, Some, None, is_none, refl, sym, inl, inr, arith}
use Rattle.std.specs.List.{list_all}
use Rattle.std.proofs.lemmas.Bool.{cases_Bool, cases_lt, and_parts, and_from, leb-true, le-leb}
use Rattle.std.proofs.lemmas.List.{get_or-drop, get_or_past, length-drop}
use Rattle.us_holes.specs.Boards.{Holder, is_idle_at, first_of, IsFirstLongest, longest_up_to, longest_idle}

-- idle minislots are inside
pub idle_inside : (cells : List (Option Holder)) (slots start : ℕ) → is_idle_at cells slots start ≡ true →
    start + slots ≤ length cells
idle_inside cells slots start h =
    leb-true (start + slots) (length cells)
    (and_parts (nat_le (start + slots) (length cells)) (list_all is_none (take slots (drop start cells))) h).0

-- The least number that passes is found,
pub first_of-least : (passes : ℕ → Bool) (from count least : ℕ) → passes least ≡ true → from ≤ least →
    least < from + count → ((number : ℕ) → from ≤ number → number < least → passes number ≡ false) →
    first_of passes from count ≡ Some least
unfolding first_of
first_of-least passes from zero least holds above below first = absurd (omega (arith, above, below))
first_of-least passes from (suc count) least holds above below first = elim (cases_lt from least) [
  | inl later ↦
      rw (first from (omega arith) later)
      (first_of-least passes (from + 1) count least holds (omega (arith, later)) (omega (arith, below))
      (λ number h. first number (omega (arith, h))))
  | inr here ↦
      let same : from ≡ least = omega (arith, here, above) in
      rw (same, holds) refl
]

-- and none where none passes.
pub first_of-none : (passes : ℕ → Bool) (from count : ℕ) →
    ((number : ℕ) → from ≤ number → number < from + count → passes number ≡ false) → first_of passes from count ≡ None
unfolding first_of
first_of-none passes from zero none = refl
first_of-none passes from (suc count) none =
    rw (none from (omega arith) (omega arith))
    (first_of-none passes (from + 1) count (λ number above below. none number (omega (arith, above)) (omega (arith, below))))

-- idle minislots are inside, so they start inside where there are some
pub idle-start : (cells : List (Option Holder)) (slots start : ℕ) → 0 < slots → is_idle_at cells slots start ≡ true →
    (start < length cells) × (slots ≤ length cells)
idle-start cells slots start some h =
    let inside : start + slots ≤ length cells =
    leb-true (start + slots) (length cells) (and_parts (nat_le (start + slots) (length cells)) (list_all is_none (take slots (drop start cells))) h).0 in
    (omega (arith, some, inside), omega (arith, inside))

-- The first longest run is found from any limit that is no less,
longest-found : (cells : List (Option Holder)) (limit start slots : ℕ) → IsFirstLongest cells start slots → slots ≤ limit →
    longest_up_to cells limit ≡ Some (start, slots)
unfolding longest_up_to
longest-found cells zero start slots is below = absurd (omega (arith, is.some, below))
longest-found cells (suc limit) start slots is below = elim (cases_lt limit slots) [
  | inr fewer ↦
      let none : first_of (is_idle_at cells (suc limit)) 0 (length cells) ≡ None =
      first_of-none (is_idle_at cells (suc limit)) 0 (length cells) (λ at above inside. too_long fewer at) in
      rw none (longest-found cells limit start slots is fewer)
  | inl here ↦
      let same : suc limit ≡ slots = omega (arith, here, below) in
      let found : first_of (is_idle_at cells slots) 0 (length cells) ≡ Some start =
      first_of-least (is_idle_at cells slots) 0 (length cells) start is.idle (omega arith)
      (omega (arith, (idle-start cells slots start is.some is.idle).0)) (λ at above earlier. not_earlier at earlier) in
      rw (same, found) refl
]
  where
    too_long : slots ≤ limit → (at : ℕ) → is_idle_at cells (suc limit) at ≡ false
    too_long fewer at = elim (cases_Bool (is_idle_at cells (suc limit) at)) [
      | inl t ↦ absurd (omega (arith, fewer, is.longest at (suc limit) t (omega arith)))
      | inr f ↦ f
    ]

    not_earlier : (at : ℕ) → at < start → is_idle_at cells slots at ≡ false
    not_earlier at earlier = elim (cases_Bool (is_idle_at cells slots at)) [
      | inl t ↦ absurd (omega (arith, earlier, is.first at t))
      | inr f ↦ f
    ]

-- and none where there is none.
longest-missing : (cells : List (Option Holder)) (limit : ℕ) →
    ((start slots : ℕ) → 0 < slots → is_idle_at cells slots start ≡ false) → longest_up_to cells limit ≡ None
unfolding longest_up_to
longest-missing cells zero none = refl
longest-missing cells (suc limit) none =
    let missing : first_of (is_idle_at cells (suc limit)) 0 (length cells) ≡ None =
    first_of-none (is_idle_at cells (suc limit)) 0 (length cells) (λ at above inside. none at (suc limit) (omega arith)) in
    rw missing (longest-missing cells limit none)

pub longest-some : (cells : List (Option Holder)) (start slots : ℕ) → IsFirstLongest cells start slots →
    Some (start, slots) ≡ longest_idle cells
longest-some cells start slots is =
    sym (longest-found cells (length cells) start slots is (idle-start cells slots start is.some is.idle).1)

pub longest-none : (cells : List (Option Holder)) →
    ((start slots : ℕ) → 0 < slots → is_idle_at cells slots start ≡ false) → None ≡ longest_idle cells
longest-none cells none = sym (longest-missing cells (length cells) none)

-- stands for what is not there
abbrev pub nobody : Holder
nobody = record { start = 0; owner = record { sid = 0; iuc = 0 } }

-- Minislot by minislot: it is there, and idle.
abbrev pub IsIdle : List (Option Holder) → ℕ → Type 0
IsIdle cells at = is_none (get_or cells at (Some nobody)) ≡ true

abbrev pub AreIdle : List (Option Holder) → ℕ → ℕ → Type 0
AreIdle cells from to = (at : ℕ) → from ≤ at → at < to → IsIdle cells at

idle_front : (cells : List (Option Holder)) (slots at : ℕ) → list_all is_none (take slots cells) ≡ true → at < slots →
    at < length cells → IsIdle cells at
idle_front [] slots at h few inside = absurd (omega (arith, inside))
idle_front (cell ∷ cells) zero at h few inside = absurd (omega (arith, few))
idle_front (cell ∷ cells) (suc slots) zero h few inside =
    (and_parts (is_none cell) (list_all is_none (take slots cells)) h).0
idle_front (cell ∷ cells) (suc slots) (suc at) h few inside =
    idle_front cells slots at (and_parts (is_none cell) (list_all is_none (take slots cells)) h).1 (omega (arith, few)) (omega (arith, inside))

front_idle : (cells : List (Option Holder)) (slots : ℕ) → AreIdle cells 0 slots → list_all is_none (take slots cells) ≡ true
front_idle [] zero h = refl
front_idle [] (suc slots) h = refl
front_idle (cell ∷ cells) zero h = refl
front_idle (cell ∷ cells) (suc slots) h =
    and_from (is_none cell) (list_all is_none (take slots cells)) (h 0 (omega arith) (omega arith))
    (front_idle cells slots (λ at above below. h (suc at) (omega arith) (omega (arith, below))))

inside_idle : (cells : List (Option Holder)) (at : ℕ) → IsIdle cells at → at < length cells
inside_idle cells at h = elim (cases_lt at (length cells)) [
  | inl inside ↦ inside
  | inr past ↦
      let no : false ≡ true = rw (get_or_past cells at (Some nobody) past) at h in
      absurd cc
]

pub idle_cells : (cells : List (Option Holder)) (slots start : ℕ) → is_idle_at cells slots start ≡ true →
    AreIdle cells start (start + slots)
idle_cells cells slots start h at above below =
    let parts = and_parts (nat_le (start + slots) (length cells)) (list_all is_none (take slots (drop start cells))) h in
    let inside : start + slots ≤ length cells = leb-true (start + slots) (length cells) parts.0 in
    let place : start + (at - start) ≡ at = omega (arith, above) in
    let found : IsIdle (drop start cells) (at - start) =
    idle_front (drop start cells) slots (at - start) parts.1 (omega (arith, above, below)) (rw (length-drop start cells) (omega (arith, above, below, inside))) in
    let moved : is_none (get_or cells (start + (at - start)) (Some nobody)) ≡ true = rw (get_or-drop start cells (at - start) (Some nobody)) at found in
    rw place at moved

pub cells_idle : (cells : List (Option Holder)) (slots start : ℕ) → 0 < slots → AreIdle cells start (start + slots) →
    is_idle_at cells slots start ≡ true
cells_idle cells slots start some h =
    let last : start + slots - 1 < length cells =
    inside_idle cells (start + slots - 1) (h (start + slots - 1) (omega (arith, some)) (omega (arith, some))) in
    and_from (nat_le (start + slots) (length cells)) (list_all is_none (take slots (drop start cells)))
    (le-leb (start + slots) (length cells) (omega (arith, last, some)))
    (front_idle (drop start cells) slots
    (λ at above below. rw (get_or-drop start cells at (Some nobody)) (h (start + at) (omega arith) (omega (arith, below)))))
