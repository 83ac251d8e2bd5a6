-- Which order the words of the user are. A row of clap has the text of an option that was given, or its default.
use Rattle.std.specs.Prelude.{◌≡◌, ◌≢◌, ◌<◌, ◌^◌, ℕ, List, Option, Some, None, true, codes, is_some, option_map, ⊤}
use Rattle.std.specs.Borrow.{Bor}
use Rattle.std.specs.Str.Parse.{IsNumeral, digits_value, without_leading_plus}
use Rattle.clap.specs.Words.{Row, Text, first_of, one_of}
use Rattle.us_command_line.specs.declared.orders.FileCheck.{FileCheck}
use Rattle.us_command_line.specs.declared.orders.FileLint.{FileLint}
use Rattle.us_command_line.specs.declared.orders.FileReplay.{FileReplay}
use Rattle.us_command_line.specs.declared.orders.Order.{Order}
use Rattle.us_command_line.specs.declared.orders.Order.TheVariants as order

-- this option has this text
abbrev pub HasText : List Row → Text → Text → Type 0
HasText rows option text = first_of option rows ≡ Some text

-- this option has this number: its text has decimal digits, a plus or none before them, that write this number below 2 ^ 32
pub record HasNumber (rows : List Row) (option : Text) (number : ℕ) : Type 0 where
  pub text : Text
  pub of_option : one_of option rows ≡ Some text
  pub digits : IsNumeral 10 (without_leading_plus text)
  pub value : number ≡ digits_value 10 (without_leading_plus text)
  pub fits : number < 2 ^ 32

-- of an option that may be left out: its text, if it has one
abbrev pub MayHaveText : List Row → Text → Option (Bor Text) → Type 0
MayHaveText rows option text = option_map (λ t. t.now) text ≡ first_of option rows

-- and its number, if it has one
abbrev pub MayHaveNumber : List Row → Text → Option ℕ → Type 0
MayHaveNumber rows option (Some number) = HasNumber rows option number
MayHaveNumber rows option None = (number : ℕ) → ¬ (HasNumber rows option number)

-- each field of a replay is the option of its name
pub record IsReplayOf (rows : List Row) (files : FileReplay) : Type 0 where
  pub config : HasText rows (codes "config") files.config.now
  pub trace : HasText rows (codes "trace") files.trace.now
  pub rounds : HasNumber rows (codes "rounds") files.rounds
  pub workers : HasNumber rows (codes "workers") files.workers
  pub maps : HasText rows (codes "maps") files.maps.now
  pub report : HasText rows (codes "report") files.report.now

-- and each field of a check
pub record IsCheckOf (rows : List Row) (files : FileCheck) : Type 0 where
  pub config : HasText rows (codes "config") files.config.now
  pub trace : HasText rows (codes "trace") files.trace.now
  pub rounds : HasNumber rows (codes "rounds") files.rounds
  pub maps : HasText rows (codes "maps") files.maps.now
  pub report : HasText rows (codes "report") files.report.now

-- and each field of a lint, whose options but `config` may be left out
pub record IsLintOf (rows : List Row) (files : FileLint) : Type 0 where
  pub config : HasText rows (codes "config") files.config.now
  pub trace : MayHaveText rows (codes "trace") files.trace
  pub rounds : MayHaveNumber rows (codes "rounds") files.rounds
  pub maps : MayHaveText rows (codes "maps") files.maps
  pub report : MayHaveText rows (codes "report") files.report

-- the order is that of the subcommand of this name with these options
abbrev pub IsOrderOf : Text → List Row → Order → Type 0
IsOrderOf name rows (order.Replay files) = (name ≡ codes "replay") × IsReplayOf rows files
IsOrderOf name rows (order.Check files) = (name ≡ codes "check") × IsCheckOf rows files
IsOrderOf name rows (order.Lint files) = (name ≡ codes "lint") × IsLintOf rows files
IsOrderOf name rows (order.Dump path) = (name ≡ codes "dump") × HasText rows (codes "maps") path.now
IsOrderOf name rows (order.Pipe rounds workers) =
    (name ≢ codes "replay") × (name ≢ codes "check") × (name ≢ codes "lint") × (name ≢ codes "dump")
    × HasNumber rows (codes "rounds") rounds × HasNumber rows (codes "workers") workers
IsOrderOf name rows (order.Help text) = ⊥

-- the order is that of the subcommand that clap met
abbrev pub IsOrderAt : Option (Text × List Row) → Order → Type 0
IsOrderAt None asked = ⊥
IsOrderAt (Some met) asked = IsOrderOf met.0 met.1 asked

-- the files of a lint go together: there is a maps file where there is a report, and with both a trace and rounds
pub record FilesGoTogether (files : FileLint) : Type 0 where
  pub report : is_some files.report ≡ is_some files.maps
  pub trace : is_some files.maps ≡ true → is_some files.trace ≡ true
  pub rounds : is_some files.maps ≡ true → is_some files.rounds ≡ true

-- the options that an order was given go together; only those of a lint may not
abbrev pub OptionsGoTogether : Order → Type 0
OptionsGoTogether (order.Lint files) = FilesGoTogether files
OptionsGoTogether _ = ⊤

-- a text of help is asked for
abbrev pub IsHelp : Order → Type 0
IsHelp (order.Help text) = ⊤
IsHelp _ = ⊥
