-- A replay of standard input (ours): what is printed of a text that can be replayed.
use Rattle.std.specs.Prelude.{◌≡◌, ℕ, true, List, ◌++◌, Option, None, Ok, IfSome, ⊤}
use Rattle.std.specs.Io.KnownBytes.{Appends}
use Rattle.us_flows.specs.Tables.{Tables, rounds_fit}
use Rattle.us_flows.specs.Answers.{Answers}
use Rattle.us_requests.specs.Texts.{trace_fault}
use Rattle.us_lawful.specs.Output.{maps_text, report_text}
use Rattle.us_replay.specs.Replays.{output_for}
use Rattle.us_command_line.specs.declared.orders.Order.{Order}
use Rattle.us_command_line.specs.declared.orders.Order.TheVariants as order
use Rattle.mapsim.specs.Marks.{IsSplit}
use Rattle.mapsim.specs.Dumps.{IsDump}

-- a replay of these tables and of the text of a trace without a fault gives this maps file and this report
pub record Gives (t : Tables) (rounds : ℕ) (trace maps report : List ℕ) : Type 0 where
  pub fit : rounds_fit t rounds ≡ true
  pub sound : trace_fault trace ≡ None
  pub maps_whole : maps ≡ maps_text (output_for t rounds trace)
  pub report_whole : report ≡ report_text (output_for t rounds trace)

-- a text is a configuration without a fault, the mark and such a trace
pub record Replays (rounds : ℕ) (text maps report : List ℕ) : Type 0 where
  pub config : List ℕ
  pub trace : List ℕ
  pub split : IsSplit text config trace
  pub tables : Tables
  pub accepted : Answers config (Ok tables)
  pub gives : Gives tables rounds trace maps report

-- what is printed of a text: the MAPs of the maps file as lines, and the report
pub record IsPrintout (rounds : ℕ) (text printout : List ℕ) : Type 0 where
  pub maps : List ℕ
  pub report : List ℕ
  pub replayed : Replays rounds text maps report
  pub dump : List ℕ
  pub dumped : IsDump maps dump
  pub whole : printout ≡ dump ++ report

-- where the input tells its text, the output took what is printed of it
abbrev pub Prints : ℕ → Option (List ℕ) → Option (List ℕ) → Option (List ℕ) → Type 0
Prints rounds told before after =
    IfSome told (λ text. (printout : List ℕ) × IsPrintout rounds text printout × Appends before after printout)

-- the same, where a replay of standard input is asked for; of no other order anything is said
abbrev pub PrintsAsAsked : Order → Option (List ℕ) → Option (List ℕ) → Option (List ℕ) → Type 0
PrintsAsAsked (order.Pipe rounds workers) told before after = Prints rounds told before after
PrintsAsAsked _ told before after = ⊤
