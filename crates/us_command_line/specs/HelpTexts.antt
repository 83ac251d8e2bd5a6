-- What help says behind the options, of texts that follow one another.
use Rattle.std.specs.Prelude.{◌≡◌, ℕ, List, flat_map, string_bytes}
use Rattle.std.specs.Borrow.{Bor}
use Rattle.us_command_line.specs.declared.helps.HelpTexts.{HelpTexts}
use Rattle.us_command_line.specs.declared.helps.Helps.{Helps}

-- texts, put together
abbrev pub joined : List (Bor (List ℕ)) → List ℕ
joined texts = flat_map (λ text. text.now) texts

-- each help is its texts, put together
pub record AreJoined (texts : HelpTexts) (helps : Helps) : Type 0 where
  pub program : helps.program.now ≡ texts.program.now
  pub replay : string_bytes helps.replay ≡ joined texts.replay.now
  pub check : string_bytes helps.check ≡ joined texts.check.now
  pub lint : string_bytes helps.lint ≡ joined texts.lint.now
  pub dump : string_bytes helps.dump ≡ joined texts.dump.now
  pub pipe : string_bytes helps.pipe ≡ joined texts.pipe.now
