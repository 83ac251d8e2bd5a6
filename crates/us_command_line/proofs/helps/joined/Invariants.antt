use Rattle.std.proofs.Common.{◌≡◌, string_bytes, take}
use Rattle.us_command_line.specs.HelpTexts.{joined}
use Rattle.us_command_line.proofs.helps.joined.Given as goal

-- the texts so far, put together
abbrev pub invariant-loop-text : goal.invariant-loop-text
invariant-loop-text l = string_bytes l.whole ≡ joined (take l.text-index l.texts)
