-- What is answered: the tables of a document without a fault, or the first fault.
use Rattle.std.specs.Prelude.{◌≡◌, ℕ, ◌≤◌, List, length, Option, Some, None, Result, Ok, Err}
use Rattle.std.specs.Str.{IsUtf8}
use Rattle.toml.specs.Data.{Members}
use Rattle.toml.specs.Parse.{parse_document}
use Rattle.us_flows.specs.Ranges.{max_config_bytes}
use Rattle.us_flows.specs.declared.faults.ConfigFault.{ConfigFault}
use Rattle.us_flows.specs.declared.faults.ConfigFault.TheVariants as fault
use Rattle.us_flows.specs.Tables.{Tables}
use Rattle.us_flows.specs.Checks.{first_fault}
use Rattle.us_flows.specs.Reading.{tables_of}

-- the bytes are a document, and not too long
pub record IsDocument (text : List ℕ) (doc : Members) : Type 0 where
  pub short : length text ≤ max_config_bytes
  pub utf8 : IsUtf8 text
  pub parsed : parse_document text ≡ Some doc

-- an answer with this first fault, or else with a value; but memory may be wanting
abbrev pub Judged : {A : Type 0} → Result A ConfigFault → Option ConfigFault → (A → Type 0) → Type 0
Judged (Ok a) first Is = (first ≡ None) × Is a
Judged (Err fault.NoMemory) first Is = Unit {0}
Judged (Err fault.Text) first Is = ⊥
Judged (Err other) first Is = first ≡ Some other

-- the answer to a text
abbrev pub Answers : List ℕ → Result Tables ConfigFault → Type 0
Answers text (Ok tables) =
    (doc : Members) × IsDocument text doc × (first_fault doc ≡ None) × (tables ≡ tables_of doc)
Answers text (Err fault.NoMemory) = Unit {0}
Answers text (Err fault.Text) = (doc : Members) → IsDocument text doc → ⊥
Answers text (Err other) = (doc : Members) × IsDocument text doc × (first_fault doc ≡ Some other)
