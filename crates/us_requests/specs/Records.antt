-- Inside the crate: a reader of the records of a text, as the list of those that are left.
use Rattle.std.specs.Prelude.{◌≡◌, ℕ, suc, ◌⊎◌, Bool, true, false, List, [], ◌∷◌, length, Option, Some, None}
use Rattle.csv.specs.Reading.{Ready, default_config, has_failed, is_flexible, reader_config, reader_state, reader_trim, records_from, source_of}
use Rattle.csv.specs.declared.parser.State.{State}
use Rattle.csv.specs.declared.reader.Reader.{Reader}
use Rattle.csv.specs.declared.reader.Trim.TheVariants as trim
use Rattle.us_requests.specs.Texts.{Record}
use denote.Ref.{Bor}

-- the records of the bytes that are left from a state of the reader on
unfoldable pub records_at : State → List ℕ → List Record
records_at state bytes = records_from default_config (suc (length bytes)) state bytes

abbrev pub records_behind : State → Option (List ℕ) → List Record
records_behind state None = []
records_behind state (Some bytes) = records_at state bytes

-- the records that a reader will give
abbrev pub records_left : Reader (Bor (List ℕ)) → List Record
records_left reader = records_behind (reader_state reader) (source_of (λ text. Some text.now) reader)

-- a reader of records of any count of fields by csv's defaults, none of them a header to it
pub record ReadsPlainly (reader : Reader (Bor (List ℕ))) : Type 0 where
  pub untrimmed : reader_trim reader ≡ trim.None
  pub ready : Ready reader
  pub defaults : reader_config reader ≡ default_config
  pub flexible : is_flexible reader ≡ true

-- or one that memory stopped, which gives nothing more
abbrev pub IsRecordReader : Reader (Bor (List ℕ)) → Type 0
IsRecordReader reader = (has_failed reader ≡ true) ⊎ ReadsPlainly reader

-- a read: whether there was a record, its fields, and which records were and are left
abbrev pub TakesRecord : List Record → List Record → Record → Bool → Type 0
TakesRecord old new fields true = old ≡ fields ∷ new
TakesRecord old new fields false = old ≡ []
