-- The lines of a MAP (ours): for each element round, channel, offset, length, SID and IUC, in decimal.
use Rattle.std.specs.Prelude.{ℕ, ◌-◌, List, [], ◌∷◌, ◌++◌, decimal}
use Rattle.us_codec.specs.Elements.{MapElement}
use Rattle.mapsim.specs.Texts.{spaced}
use Rattle.mapsim.specs.declared.map_lines.ElementLine.{ElementLine}

-- the line of an element, without its line feed
abbrev pub line_text : ElementLine → List ℕ
line_text l = spaced (decimal l.round ∷ decimal l.channel ∷ decimal l.offset ∷ decimal l.minislots ∷ decimal l.sid ∷ decimal l.iuc ∷ [])

-- minislots from an element to the first of those behind it, 0 where there is none
abbrev pub length_before : MapElement → List MapElement → ℕ
length_before e [] = 0
length_before e (next ∷ es) = next.offset - e.offset

-- what is printed of an element of the MAP of a round and a channel, before some others
abbrev pub line_of : ℕ → ℕ → MapElement → List MapElement → ElementLine
line_of round channel e es = record {
  round = round;
  channel = channel;
  offset = e.offset;
  minislots = length_before e es;
  sid = e.sid;
  iuc = e.iuc;
}

-- the lines of all elements of a MAP, each with its line feed
unfoldable pub lines_of : ℕ → ℕ → List MapElement → List ℕ
lines_of round channel [] = []
lines_of round channel (e ∷ es) = line_text (line_of round channel e es) ++ 10 ∷ lines_of round channel es
