-- Readers of a report (ours): each answers what a text begins with and what stands behind it, and nothing where the text
-- begins otherwise.
use Rattle.std.specs.Prelude.{◌≡◌, ℕ, ◌+◌, ◌-◌, ◌*◌, ◌^◌, ◌≤◌, ◌==◌, nat_lt, if◌then◌else◌, List, [], ◌∷◌, slice_get, codes, Option, Some, None, option_and_then}
use Rattle.std.specs.Char.{is_ascii_digit}
use Rattle.std.specs.Option.{option_or}
use Rattle.us_output.specs.declared.rows.EntryWord.{EntryWord}
use Rattle.us_output.specs.declared.rows.EntryWord.TheVariants as words
use Rattle.us_output.specs.declared.rows.FinalActivity.{FinalActivity}
use Rattle.us_output.specs.declared.rows.FinalState.{FinalState}
use Rattle.us_output.specs.declared.rows.Grant.{Grant}
use Rattle.us_output.specs.declared.rows.MissedOccurrence.{MissedOccurrence}
use Rattle.us_output.specs.declared.rows.Row.{Row}
use Rattle.us_output.specs.declared.rows.Row.TheVariants as rows
use Rattle.us_output.specs.declared.rows.TraceCounts.{TraceCounts}
use Rattle.us_output.specs.Lines.{word_text}
use Rattle.us_reports.specs.Rows.{is_requested}

-- a line feed stands at a place of the bytes, or behind it
pub record HasLineFeed (bytes : List ℕ) (from : ℕ) : Type 0 where
  pub at : ℕ
  pub behind : from ≤ at
  pub stands : slice_get bytes at ≡ Some 10

-- the second step, where the first found something
infixl 10 ◌>>=◌
abbrev pub ◌>>=◌ : {A B : Type 0} → Option A → (A → Option B) → Option B
o >>= f = option_and_then f o

-- what stands behind a word
unfoldable pub after : List ℕ → List ℕ → Option (List ℕ)
after [] bytes = Some bytes
after (w ∷ word) [] = None
after (w ∷ word) (b ∷ bytes) = if b == w then after word bytes else None

-- the number of a digit that stands behind others
abbrev pub with_digit : ℕ → ℕ → ℕ
with_digit high b = 10 * high + (b - 48)

-- a number up to the first byte that is no digit, of which the digits so far tell `high`
unfoldable pub more_digits : ℕ → List ℕ → Option (ℕ × List ℕ)
more_digits high [] = Some (high, [])
more_digits high (b ∷ bytes) =
    if is_ascii_digit b then (if nat_lt (with_digit high b) (2 ^ 64) then more_digits (with_digit high b) bytes else None)
    else Some (high, b ∷ bytes)

-- a number: 0 alone, or one that begins with another digit
unfoldable pub number_at : List ℕ → Option (ℕ × List ℕ)
number_at [] = None
number_at (b ∷ bytes) =
    if b == 48 then Some (0, bytes)
    else if is_ascii_digit b then more_digits (b - 48) bytes
    else None

-- a comma and a number
unfoldable pub field_at : List ℕ → Option (ℕ × List ℕ)
field_at bytes = after (codes ",") bytes >>= number_at

-- the word of this entry
unfoldable pub spelled_at : EntryWord → List ℕ → Option (EntryWord × List ℕ)
spelled_at entry bytes = do
  rest ← after (word_text entry) bytes
  Some (entry, rest)

-- the word of any entry
unfoldable pub word_at : List ℕ → Option (EntryWord × List ℕ)
word_at bytes =
    option_or (spelled_at words.Unsolicited bytes)
    (option_or (spelled_at words.Activity bytes)
    (option_or (spelled_at words.RealTimePoll bytes)
    (option_or (spelled_at words.NonRealTimePoll bytes)
    (option_or (spelled_at words.Station bytes)
    (spelled_at words.Requested bytes)))))

-- the units of a bucket
unfoldable pub units_at : List ℕ → Option (Option ℕ × List ℕ)
units_at bytes =
    option_or (do
      rest ← after (codes "-") bytes
      Some (None, rest))
    (do
      units ← number_at bytes
      Some (Some units.0, units.1))

-- a G line of this round and channel behind its front
unfoldable pub tail_at : ℕ → ℕ → List ℕ → Option (Grant × List ℕ)
tail_at round channel bytes = do
  entry ← word_at bytes
  id ← field_at entry.1
  i ← field_at id.1
  k ← field_at i.1
  sid ← field_at k.1
  iuc ← field_at sid.1
  start ← field_at iuc.1
  slots ← field_at start.1
  credit ← field_at slots.1
  rest ← after (codes "\n") credit.1
  Some (
    record {
      round = round;
      channel = channel;
      entry = entry.0;
      id = id.0;
      i = i.0;
      k = k.0;
      sid = sid.0;
      iuc = iuc.0;
      start = start.0;
      slots = slots.0;
      credit = credit.0;
    },
    rest,
  )

-- a G line behind its letter
unfoldable pub grant_at : List ℕ → Option (Grant × List ℕ)
grant_at bytes = do
  round ← field_at bytes
  channel ← field_at round.1
  comma ← after (codes ",") channel.1
  tail_at round.0 channel.0 comma

-- what an M line tells behind its letter
unfoldable pub occurrence_at : List ℕ → Option (MissedOccurrence × List ℕ)
occurrence_at bytes = do
  round ← field_at bytes
  channel ← field_at round.1
  comma ← after (codes ",") channel.1
  entry ← word_at comma
  id ← field_at entry.1
  i ← field_at id.1
  k ← field_at i.1
  Some (record { round = round.0; channel = channel.0; entry = entry.0; id = id.0; i = i.0; k = k.0 }, k.1)

-- an M line behind its letter
unfoldable pub missed_at : List ℕ → Option (MissedOccurrence × List ℕ)
missed_at bytes = do
  missed ← occurrence_at bytes
  rest ← after (codes "\n") missed.1
  if is_requested missed.0.entry then None else Some (missed.0, rest)

-- an F line behind its letter
unfoldable pub final_at : List ℕ → Option (FinalState × List ℕ)
final_at bytes = do
  flow ← field_at bytes
  cluster ← field_at flow.1
  outstanding ← field_at cluster.1
  comma ← after (codes ",") outstanding.1
  units ← units_at comma
  rest ← after (codes "\n") units.1
  Some (record { flow = flow.0; cluster = cluster.0; outstanding = outstanding.0; units = units.0 }, rest)

-- an A line behind its letter
unfoldable pub activity_at : List ℕ → Option (FinalActivity × List ℕ)
activity_at bytes = do
  flow ← field_at bytes
  active ← field_at flow.1
  rest ← after (codes "\n") active.1
  Some (record { flow = flow.0; active = active.0 }, rest)

-- a U line behind its letter
unfoldable pub counts_at : List ℕ → Option (TraceCounts × List ℕ)
counts_at bytes = do
  unknown ← field_at bytes
  not_requestable ← field_at unknown.1
  late ← field_at not_requestable.1
  rest ← after (codes "\n") late.1
  Some (record { unknown = unknown.0; not_requestable = not_requestable.0; late = late.0 }, rest)

-- what a line tells, with its letter before it
unfoldable pub told_by : ℕ → List ℕ → Option (Row × List ℕ)
told_by letter bytes =
    if letter == 71 then (do
      grant ← grant_at bytes
      Some (rows.Granted grant.0, grant.1))
    else if letter == 77 then (do
      missed ← missed_at bytes
      Some (rows.Missed missed.0, missed.1))
    else if letter == 70 then (do
      state ← final_at bytes
      Some (rows.Final state.0, state.1))
    else if letter == 65 then (do
      activity ← activity_at bytes
      Some (rows.Activity activity.0, activity.1))
    else if letter == 85 then (do
      counts ← counts_at bytes
      Some (rows.Counts counts.0, counts.1))
    else None

-- a line
unfoldable pub row_at : List ℕ → Option (Row × List ℕ)
row_at [] = None
row_at (letter ∷ bytes) = told_by letter bytes
