-- The records that a reader will give: all of the text at first, and after each read those behind the one that it gave.
use Rattle.std.proofs.Common.{◌≡◌, ℕ, zero, suc, ◌<◌, ◌⊎◌, Bool, true, false, List, [], ◌∷◌, ◌++◌, length, Option, Some, None, refl, ap, ◌∙◌, inl, inr, arith}
use Rattle.std.specs.Prelude.{option_map, ◌==◌, ◌&&◌, not, if◌then◌else◌, take, drop, Result, Ok, Err, IfOk}
use Rattle.std.proofs.lemmas.Bool.{cases_Bool}
use Rattle.csv.specs.Machine.{Read, next_record, step, is_end, fields_after, field_after, ends_at_end}
use Rattle.csv.specs.Reading.{NextIs, ReadRecord, ReadsNext, Ready, buffered_of, default_config, has_failed, pending_of, reader_config, reader_state, reader_trim, records_from, records_next, source_of, strip_bom}
use Rattle.csv.specs.declared.parser.Config.{Config}
use Rattle.csv.specs.declared.parser.State.{State}
use Rattle.csv.specs.declared.parser.State.TheVariants as st
use Rattle.csv.specs.declared.reader.Reader.{Reader}
use Rattle.csv.specs.declared.reader.Trim.TheVariants as trim
use Rattle.csv.specs.declared.error.Error.{Error}
use Rattle.us_requests.specs.Records.{records_at, records_behind, records_left, IsRecordReader, TakesRecord}
use Rattle.us_requests.specs.Texts.{Record, records_of}
use denote.Ref.{Bor}

-- a record takes a byte at least, but for one that the end of the text ends
abbrev Shorter : List ℕ → Option Read → Type 0
Shorter bytes None = Unit {0}
Shorter bytes (Some read) = (length read.2 < length bytes) ⊎ ((read.1 ≡ st.StartRecord) × (read.2 ≡ []))

shorter : (cfg : Config) (s : State) (fields : Record) (field bytes : List ℕ) →
    Shorter bytes (next_record cfg s fields field bytes)
unfolding next_record
shorter cfg s fields field [] = at_end (ends_at_end s)
  where
    at_end : (b : Bool) → Shorter [] (if b then Some (fields ++ (field ∷ []), st.StartRecord, []) else None)
    at_end true = inr (refl, refl)
    at_end false = tt
shorter cfg s fields field (c ∷ rest) =
    by (is_end (step cfg s c).1)
    (shorter cfg (step cfg s c).0 (fields_after (step cfg s c).1 fields field) (field_after
    (step cfg s c).1 c field) rest)
  where
    longer : (o : Option Read) → Shorter rest o → Shorter (c ∷ rest) o
    longer None h = tt
    longer (Some read) h = elim h [ inl less ↦ inl (omega arith) | inr end ↦ inr end ]

    by : (b : Bool) →
        Shorter rest (next_record cfg (step cfg s c).0 (fields_after (step cfg s c).1 fields field) (field_after
        (step cfg s c).1 c field) rest) →
        Shorter (c ∷ rest) (if b then Some (fields_after (step cfg s c).1 fields field, (step cfg s c).0, rest)
        else next_record cfg (step cfg s c).0 (fields_after (step cfg s c).1 fields field) (field_after
        (step cfg s c).1 c field) rest)
    by true h = inl (omega arith)
    by false h = longer _ h

-- at the start of a record there is none in no bytes
none-left : (cfg : Config) (fuel : ℕ) → records_from cfg fuel st.StartRecord [] ≡ []
unfolding records_from next_record
none-left cfg zero = refl
none-left cfg (suc fuel) = refl

-- reads enough are as good as more
enough : (cfg : Config) (n m : ℕ) (s : State) (bytes : List ℕ) → length bytes < n → length bytes < m →
    records_from cfg n s bytes ≡ records_from cfg m s bytes
unfolding records_from
enough cfg zero m s bytes hn hm = absurd (omega arith)
enough cfg (suc n) zero s bytes hn hm = absurd (omega arith)
enough cfg (suc n) (suc m) s bytes hn hm =
    by (next_record cfg s [] [] bytes) (shorter cfg s [] [] bytes)
    (λ state rest less. enough cfg n m state rest (omega arith) (omega arith))
  where
    by : (o : Option Read) → Shorter bytes o →
        ((state : State) (rest : List ℕ) → length rest < length bytes →
        records_from cfg n state rest ≡ records_from cfg m state rest) →
        records_next (records_from cfg n) o ≡ records_next (records_from cfg m) o
    by None h same = refl
    by (Some read) h same = ap (λ rs. read.0 ∷ rs) (elim h [
      | inl less ↦ same read.1 read.2 less
      | inr end ↦ rw (end.0, end.1, none-left cfg n, none-left cfg m) refl
    ])

-- a record that was read is the first of those that were left, and one that wasn't there is none of them
next-left : (s after : State) (bytes rest : List ℕ) (fields : Record) (found : Bool) →
    NextIs (next_record default_config s [] [] bytes) found fields after rest →
    TakesRecord (records_at s bytes) (records_at after rest) fields found
unfolding records_at records_from
next-left s after bytes rest fields found next =
    by (next_record default_config s [] [] bytes) (shorter default_config s [] [] bytes) found next
  where
    behind : (read : Read) → Shorter bytes (Some read) →
        records_from default_config (length bytes) read.1 read.2 ≡ records_from default_config (suc
        (length read.2)) read.1 read.2
    behind read h = elim h [
      | inl less ↦ enough default_config (length bytes) (suc (length read.2)) read.1 read.2 less (omega arith)
      | inr end ↦ rw (end.0, end.1, none-left default_config (length bytes), none-left default_config 1) refl
    ]

    by : (o : Option Read) → Shorter bytes o → (found : Bool) → NextIs o found fields after rest →
        TakesRecord (records_next (records_from default_config (length bytes)) o) (records_at after rest) fields found
    by None h true is = absurd cc
    by None h false is = refl
    by (Some read) h false is = absurd cc
    by (Some read) h true is = rw (is.1, is.2, is.3) (ap (λ rs. read.0 ∷ rs) (behind read h))

-- a reader of a slice knows its bytes
abbrev pub bytes_left : Reader (Bor (List ℕ)) → Option (List ℕ)
bytes_left reader = source_of (λ text. Some text.now) reader

known : (r : Reader (Bor (List ℕ))) → has_failed r ≡ false → (bytes : List ℕ) × (bytes_left r ≡ Some bytes)
known r sound = rw sound (by (not r.bom_checked && (r.at == 0) && (r.filled == 0)))
  where
    by : (b : Bool) → (bytes : List ℕ) × ((if b then option_map strip_bom (Some r.rdr.now) else buffered_of
        (Some r.rdr.now) r) ≡ Some bytes)
    by true = (strip_bom r.rdr.now, refl)
    by false = (drop r.at (take r.filled r.buffer) ++ r.rdr.now, refl)

-- a reader that memory stopped has none left
stopped : (r : Reader (Bor (List ℕ))) → has_failed r ≡ true → records_left r ≡ []
stopped r failed = rw failed refl

pub fresh-left : (r : Reader (Bor (List ℕ))) (text : List ℕ) → reader_state r ≡ st.StartRecord →
    bytes_left r ≡ Some (strip_bom text) → records_left r ≡ records_of text
unfolding records_at
fresh-left r text state bytes =
    ap (λ o. records_behind (reader_state r) o) bytes ∙ ap (λ s. records_at s (strip_bom text)) state ∙
    ap (λ n. records_from default_config n st.StartRecord (strip_bom text)) (omega arith)

reads-next : (s after : State) (bytes : List ℕ) (rest : Option (List ℕ)) (fields : Record) (found : Bool) →
    ReadsNext default_config s (Some bytes) rest found fields after →
    TakesRecord (records_at s bytes) (records_behind after rest) fields found
reads-next s after bytes None fields found next = absurd next
reads-next s after bytes (Some rest) fields found next = next-left s after bytes rest fields found next

sound-read : (old new : Reader (Bor (List ℕ))) (fields : Record) (found : Bool) (bytes : List ℕ) →
    bytes_left old ≡ Some bytes → reader_config old ≡ default_config →
    ReadRecord (λ text. Some text.now) old new found fields →
    TakesRecord (records_left old) (records_left new) fields found
sound-read old new fields found bytes knows config read =
    let same : bytes_left new ≡ pending_of (Some new.rdr.now) new = rw read.1 refl in
    let next : ReadsNext default_config old.state (Some bytes) (bytes_left new) found fields new.state =
    rw (config, knows, ← same) at read.0 in
    rw knows (reads-next old.state new.state bytes (bytes_left new) fields found next)

pub read-left : (old new : Reader (Bor (List ℕ))) (fields : Record) (r : Result Bool Error) →
    IsRecordReader old → (has_failed old ≡ true → r ≡ Ok false) →
    IfOk r (λ found. (reader_trim old ≡ trim.None) → Ready old →
    ReadRecord (λ text. Some text.now) old new found fields) →
    IfOk r (λ found. TakesRecord (records_left old) (records_left new) fields found)
read-left old new fields (Err e) is failed reads = tt
read-left old new fields (Ok found) is failed reads = elim is [
  | inl gone ↦ none gone
  | inr plain ↦ elim (cases_Bool (has_failed old)) [
    | inl gone ↦ none gone
    | inr sound ↦
        let k : (bytes : List ℕ) × (bytes_left old ≡ Some bytes) = known old sound in
        sound-read old new fields found k.0 k.1 plain.defaults (reads plain.untrimmed plain.ready)
  ]
]
  where
    none : has_failed old ≡ true → TakesRecord (records_left old) (records_left new) fields found
    none gone = let e : Ok found ≡ Ok false = failed gone in let no : found ≡ false = cc in rw no (stopped old gone)

pub ruleset reading = (fresh-left, read-left)
