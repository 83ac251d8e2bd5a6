-- Marks (ours): by these a flow says that it falls silent, and that it is active again.
use Rattle.std.specs.Prelude.{ℕ, zero, suc, ◌+◌, Bool, true, false, not, ◌==◌, ◌&&◌, if◌then◌else◌, List}
use Rattle.std.specs.List.{list_any}
use Rattle.us_activity.specs.declared.marks.Mark.{Mark}

-- some of them, by a name that crates above can write
abbrev pub Marks : Type 0
Marks = List Mark

-- a mark that the flow of a word is active in a round, or that it is silent
abbrev pub is_mark : ℕ → ℕ → Bool → Mark → Bool
is_mark word round active m =
    (m.word == word) && ((m.round == round) && (if active then m.active else not m.active))

-- among some marks there is one
abbrev pub says : Marks → ℕ → ℕ → Bool → Bool
says marks word round active = list_any (is_mark word round active) marks

-- Whether the flow is active before a round: it is at first, and then as it said last. In a round in which it says both it
-- is active.
abbrev pub active_before : Marks → ℕ → ℕ → Bool
active_before marks word zero = true
active_before marks word (suc round) =
    if says marks word round true then true
    else if says marks word round false then false
    else active_before marks word round

-- and in a round
abbrev pub is_active : Marks → ℕ → ℕ → Bool
is_active marks word round = active_before marks word (round + 1)
