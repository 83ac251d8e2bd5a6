-- The report's lines (ours).
use Rattle.std.specs.Prelude.{ℕ, ◌^◌, ◌<◌, List, [], ◌∷◌, ◌++◌, codes, Option, Some, None, IfSome}
use Rattle.std.specs.List.{AllByRecursion, flat_map}
use Rattle.std.specs.Fmt.{decimal}
use Rattle.us_output.specs.declared.rows.EntryWord.{EntryWord}
use Rattle.us_output.specs.declared.rows.EntryWord.TheVariants as words
use Rattle.us_output.specs.declared.rows.FinalActivity.{FinalActivity}
use Rattle.us_output.specs.declared.rows.FinalState.{FinalState}
use Rattle.us_output.specs.declared.rows.Grant.{Grant}
use Rattle.us_output.specs.declared.rows.MissedOccurrence.{MissedOccurrence}
use Rattle.us_output.specs.declared.rows.Row.{Row}
use Rattle.us_output.specs.declared.rows.Row.TheVariants as rows
use Rattle.us_output.specs.declared.rows.TraceCounts.{TraceCounts}

-- the word of an entry
abbrev pub word_text : EntryWord → List ℕ
word_text words.Unsolicited = codes "ugs"
word_text words.Activity = codes "ad"
word_text words.RealTimePoll = codes "rtp"
word_text words.NonRealTimePoll = codes "nrtp"
word_text words.Station = codes "station"
word_text words.Requested = codes "req"

-- a field is a comma and what it says; these are numbers
abbrev pub numbers : List ℕ → List ℕ
numbers ns = flat_map (λ n. 44 ∷ decimal n) ns

-- the units of a bucket, `-` where there is none
abbrev pub units_text : Option ℕ → List ℕ
units_text None = codes "-"
units_text (Some units) = decimal units

-- a G line, with its line feed, as all lines
abbrev pub grant_text : Grant → List ℕ
grant_text g =
    codes "G" ++ (numbers (g.round ∷ g.channel ∷ []) ++ (codes "," ++ (word_text g.entry ++
    (numbers (g.id ∷ g.i ∷ g.k ∷ g.sid ∷ g.iuc ∷ g.start ∷ g.slots ∷ g.credit ∷ []) ++ codes "\n"))))

-- an M line
abbrev pub missed_text : MissedOccurrence → List ℕ
missed_text m =
    codes "M" ++ (numbers (m.round ∷ m.channel ∷ []) ++ (codes "," ++ (word_text m.entry ++
    (numbers (m.id ∷ m.i ∷ m.k ∷ []) ++ codes "\n"))))

-- an F line
abbrev pub final_text : FinalState → List ℕ
final_text s =
    codes "F" ++ (numbers (s.flow ∷ s.cluster ∷ s.outstanding ∷ []) ++ (codes "," ++ (units_text s.units ++ codes "\n")))

-- an A line
abbrev pub activity_text : FinalActivity → List ℕ
activity_text a = codes "A" ++ (numbers (a.flow ∷ a.active ∷ []) ++ codes "\n")

-- the U line
abbrev pub counts_text : TraceCounts → List ℕ
counts_text c = codes "U" ++ (numbers (c.unknown ∷ c.not_requestable ∷ c.late ∷ []) ++ codes "\n")

-- the line of a row
abbrev pub text_of : Row → List ℕ
text_of (rows.Granted grant) = grant_text grant
text_of (rows.Missed missed) = missed_text missed
text_of (rows.Final state) = final_text state
text_of (rows.Activity activity) = activity_text activity
text_of (rows.Counts counts) = counts_text counts

abbrev pub Fit : List ℕ → Type 0
Fit numbers = AllByRecursion (λ n. n < 2 ^ 64) numbers

-- the numbers of a line have 64 bits
abbrev pub HasFields : Row → Type 0
HasFields (rows.Granted g) =
    Fit (g.round ∷ g.channel ∷ g.id ∷ g.i ∷ g.k ∷ g.sid ∷ g.iuc ∷ g.start ∷ g.slots ∷ g.credit ∷ [])
HasFields (rows.Missed m) = Fit (m.round ∷ m.channel ∷ m.id ∷ m.i ∷ m.k ∷ [])
HasFields (rows.Final f) = Fit (f.flow ∷ f.cluster ∷ f.outstanding ∷ []) × IfSome f.units (λ units. units < 2 ^ 64)
HasFields (rows.Activity a) = Fit (a.flow ∷ a.active ∷ [])
HasFields (rows.Counts c) = Fit (c.unknown ∷ c.not_requestable ∷ c.late ∷ [])
