-- Small values, computed by the definitions alone.
use Rattle.std.specs.Prelude.{◌≡◌, codes, [], refl}
use Rattle.us_findings.specs.Lines.{line_behind, column_behind}

-- the first byte of a text
first_line : line_behind [] ≡ 1
first_line = refl

first_column : column_behind [] ≡ 1
first_column = refl

-- behind two lines and two characters
later_line : line_behind (codes "a\n\nbc") ≡ 3
later_line = refl

later_column : column_behind (codes "a\n\nbc") ≡ 3
later_column = refl

-- right behind a line feed
next_column : column_behind (codes "abc\n") ≡ 1
next_column = refl

-- a character of two bytes is one column
wide_column : column_behind (codes "\né") ≡ 2
wide_column = refl
