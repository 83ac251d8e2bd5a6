-- Lines and columns of a text, as an editor counts them.
use Rattle.std.specs.Prelude.{ℕ, ◌+◌, ◌-◌, ◌/◌, ◌==◌, Bool, not, List, length, drop, count_by}
use Rattle.std.specs.List.{suffix_len}

-- a line feed
abbrev pub ends_line : ℕ → Bool
ends_line byte = byte == 10

-- a byte with which a character of UTF-8 begins: all but those from 128 to 191
abbrev pub begins_character : ℕ → Bool
begins_character byte = not (byte / 64 == 2)

-- the line on which the byte behind these stands
abbrev pub line_behind : List ℕ → ℕ
line_behind bytes = count_by ends_line bytes + 1

-- the bytes behind the last line feed, all where there is none
abbrev pub last_line : List ℕ → List ℕ
last_line bytes = drop (length bytes - suffix_len (λ byte. not (ends_line byte)) bytes) bytes

-- the column of the byte behind these: one more than the characters before it on its line
abbrev pub column_behind : List ℕ → ℕ
column_behind bytes = count_by begins_character (last_line bytes) + 1
