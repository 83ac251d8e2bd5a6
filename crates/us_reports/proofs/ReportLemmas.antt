-- Reports: what bytes are read as, and that they are read as nothing else.
use Rattle.std.proofs.Common.{◌≡◌, ℕ, zero, suc, ◌+◌, ◌-◌, ◌<◌, ◌≤◌, List, [], ◌∷◌, ◌++◌, length, drop, Option, Some, None, IfSome, option_map, Ok, Err, codes, refl, sym, ap, ap₂, ◌∙◌, arith, append_assoc, append-nil}
use Rattle.std.specs.Prelude.{slice_get}
use Rattle.std.specs.List.{AllByRecursion}
use Rattle.std.proofs.lemmas.List.{length-append, length-drop, drop_all}
use Rattle.std.proofs.lemmas.Grind.{flat_map-append}
use Rattle.us_output.specs.declared.rows.Row.{Row}
use Rattle.us_output.specs.declared.rows.Row.TheVariants as rows
use Rattle.us_output.proofs.PartLemmas.{all_append}
use Rattle.us_output.specs.Lines.{text_of, numbers, word_text, units_text}
use Rattle.us_output.specs.Files.{lines}
use Rattle.us_reports.specs.Rows.{IsRow}
use Rattle.us_reports.specs.Reports.{IsReport, IsLinesEnd, IsLineAt, AnswersAt, IsFirstBad, BeginsNoLine, OneReading}
use Rattle.us_reports.specs.ReportReaders.{HasLineFeed, row_at}
use Rattle.us_reports.proofs.ReportPlaceLemmas.{feed_within, feed_found}
use Rattle.us_reports.proofs.ReportLineLemmas.{row_found, row_again}

-- where none is found, no line stands in front
pub none_begins : (bytes : List ℕ) → row_at bytes ≡ None → BeginsNoLine bytes
none_begins bytes none row more is spelled = let again = row_again row more is in let at = ap row_at spelled in cc

empty_begins : BeginsNoLine []
unfolding row_at
empty_begins = none_begins [] refl

parted : {A B : Type 0} (a c : A) (b d : B) → ◌≡◌ {A = Option (A × B)} (Some (a, b)) (Some (c, d)) → (a ≡ c) × (b ≡ d)
parted {A} {B} a c b d same =
    let both : ◌≡◌ {A = A × B} (a, b) (c, d) = cc in (ap (λ (x : A × B). x.0) both, ap (λ (x : A × B). x.1) both)

-- lines with a rest that begins with none are told apart from all others
front : (ps qs : List Row) (x y : List ℕ) → AllByRecursion IsRow ps → AllByRecursion IsRow qs → BeginsNoLine x →
    BeginsNoLine y → lines ps ++ x ≡ lines qs ++ y → (ps ≡ qs) × (x ≡ y)
unfolding lines
front [] [] x y all_ps all_qs ends_x ends_y same = (refl, same)
front [] (q ∷ qs) x y all_ps all_qs ends_x ends_y same =
    absurd (ends_x q (lines qs ++ y) all_qs.0 (same ∙ append_assoc (text_of q) (lines qs) y))
front (p ∷ ps) [] x y all_ps all_qs ends_x ends_y same =
    absurd (ends_y p (lines ps ++ x) all_ps.0 (sym same ∙ append_assoc (text_of p) (lines ps) x))
front (p ∷ ps) (q ∷ qs) x y all_ps all_qs ends_x ends_y same =
    let left : row_at (lines (p ∷ ps) ++ x) ≡ Some (p, lines ps ++ x) =
    ap row_at (append_assoc (text_of p) (lines ps) x) ∙ row_again p (lines ps ++ x) all_ps.0 in
    let right : row_at (lines (q ∷ qs) ++ y) ≡ Some (q, lines qs ++ y) =
    ap row_at (append_assoc (text_of q) (lines qs) y) ∙ row_again q (lines qs ++ y) all_qs.0 in
    let both = parted p q (lines ps ++ x) (lines qs ++ y) (sym left ∙ ap row_at same ∙ right) in
    let more = front ps qs x y all_ps.1 all_qs.1 ends_x ends_y both.1 in
    (ap₂ (λ first later. first ∷ later) both.0 more.0, more.1)

-- the rest of a report is empty
whole : (bytes : List ℕ) (all : List Row) → IsReport bytes all → bytes ≡ lines all ++ []
whole bytes all report = report.spelled ∙ sym (append-nil (lines all))

not_empty : (bytes : List ℕ) → 0 < length bytes → bytes ≡ [] → ⊥
not_empty bytes some none = omega (arith, ap length none)

pub one_reading : OneReading
one_reading bytes (Ok ps) (Ok qs) a b =
    ap Ok (front ps qs [] [] a.each b.each empty_begins empty_begins (sym (whole bytes ps a) ∙ whole bytes qs b)).0
one_reading bytes (Ok ps) (Err m) a b =
    let same = front ps b.before [] b.rest a.each b.each empty_begins b.bad (sym (whole bytes ps a) ∙ b.spelled) in
    absurd (not_empty b.rest b.some (sym same.1))
one_reading bytes (Err n) (Ok qs) a b =
    let same = front a.before qs a.rest [] a.each b.each a.bad empty_begins (sym a.spelled ∙ whole bytes qs b) in
    absurd (not_empty a.rest a.some same.1)
one_reading bytes (Err n) (Err m) a b =
    let same = front a.before b.before a.rest b.rest a.each b.each a.bad b.bad (sym a.spelled ∙ b.spelled) in
    ap Err (sym a.place ∙ ap (λ before. length before + 1) same.0 ∙ b.place)

-- Lines at places.

-- a line feed is among these bytes
record HasFeed (xs : List ℕ) : Type 0 where
  at : ℕ
  stands : slice_get xs at ≡ Some 10

feed_later : (xs ys : List ℕ) → HasFeed ys → HasFeed (xs ++ ys)
feed_later [] ys feed = feed
feed_later (x ∷ xs) ys feed =
    let later = feed_later xs ys feed in record { at = suc later.at; stands = later.stands }

feed_before : (xs ys : List ℕ) (i : ℕ) → slice_get xs i ≡ Some 10 → HasFeed (xs ++ ys)
feed_before [] ys i stands = absurd (cc stands)
feed_before (x ∷ xs) ys zero stands = record { at = zero; stands = stands }
feed_before (x ∷ xs) ys (suc i) stands =
    let later = feed_before xs ys i stands in record { at = suc later.at; stands = later.stands }

line_feed : HasFeed (codes "\n")
line_feed = record { at = 0; stands = refl }

-- so it is among those of each line
row_feed : (row : Row) → HasFeed (text_of row)
row_feed (rows.Granted g) =
    feed_later (codes "G") _ (feed_later (numbers (g.round ∷ g.channel ∷ [])) _ (feed_later (codes ",") _
    (feed_later (word_text g.entry) _
    (feed_later (numbers (g.id ∷ g.i ∷ g.k ∷ g.sid ∷ g.iuc ∷ g.start ∷ g.slots ∷ g.credit ∷ [])) _ line_feed))))
row_feed (rows.Missed m) =
    feed_later (codes "M") _ (feed_later (numbers (m.round ∷ m.channel ∷ [])) _ (feed_later (codes ",") _
    (feed_later (word_text m.entry) _ (feed_later (numbers (m.id ∷ m.i ∷ m.k ∷ [])) _ line_feed))))
row_feed (rows.Final s) =
    feed_later (codes "F") _ (feed_later (numbers (s.flow ∷ s.cluster ∷ s.outstanding ∷ [])) _ (feed_later (codes ",") _
    (feed_later (units_text s.units) _ line_feed)))
row_feed (rows.Activity a) = feed_later (codes "A") _ (feed_later (numbers (a.flow ∷ a.active ∷ [])) _ line_feed)
row_feed (rows.Counts c) =
    feed_later (codes "U") _ (feed_later (numbers (c.unknown ∷ c.not_requestable ∷ c.late ∷ [])) _ line_feed)

-- so none begins behind the last one
pub end_begins : (bytes : List ℕ) (end from : ℕ) → IsLinesEnd bytes end → end ≤ from → BeginsNoLine (drop from bytes)
end_begins bytes end from ends behind row more is spelled =
    let feed = row_feed row in
    let later = feed_before (text_of row) more feed.at feed.stands in
    let stands : slice_get (drop from bytes) later.at ≡ Some 10 =
    ap (λ xs. slice_get xs later.at) spelled ∙ later.stands in
    let found = feed_found bytes from later.at stands in
    ends.none found.at (omega (arith, behind, found.behind)) found.stands

pub line_read : (bytes : List ℕ) (from : ℕ) (row : Row) (result : Option ℕ) → HasLineFeed bytes from →
    option_map (λ next. (row, drop next bytes)) result ≡ row_at (drop from bytes) →
    IfSome result (λ next. next ≤ length bytes) → AnswersAt bytes from (option_map (λ next. (row, next)) result)
line_read bytes from row None feed read within = none_begins (drop from bytes) (sym read)
line_read bytes from row (Some next) feed read within =
    let told = row_found (drop from bytes) (row, drop next bytes) (sym read) in
    record {
      is = told.0;
      spelled = told.1;
      behind = omega (
        arith,
        ap length told.1,
        length-append (text_of row) (drop next bytes),
        length-drop from bytes,
        length-drop next bytes,
        feed_within bytes from feed,
        within,
      );
    }

-- Reading on.

-- these rows were read, and this is left
pub record Read (bytes : List ℕ) (done : List Row) (rest : List ℕ) : Type 0 where
  pub each : AllByRecursion IsRow done
  pub spelled : bytes ≡ lines done ++ rest

pub read_more : (bytes : List ℕ) (from next : ℕ) (done : List Row) (row : Row) → Read bytes done (drop from bytes) →
    IsLineAt bytes from row next → Read bytes (done ++ (row ∷ [])) (drop next bytes)
unfolding lines
read_more bytes from next done row read line =
    let behind : List ℕ = drop next bytes in
    record {
      each = all_append IsRow done (row ∷ []) read.each (line.is, tt);
      spelled = read.spelled ∙ ap (λ text. lines done ++ text) line.spelled
          ∙ sym (append_assoc (lines done) (text_of row) behind)
          ∙ ap (λ text. (lines done ++ text) ++ behind) (sym (append-nil (text_of row)))
          ∙ ap (λ text. text ++ behind) (sym (flat_map-append text_of done (row ∷ [])));
    }

-- a line has bytes
has_bytes : (row : Row) → 0 < length (text_of row)
has_bytes (rows.Granted g) = omega arith
has_bytes (rows.Missed m) = omega arith
has_bytes (rows.Final s) = omega arith
has_bytes (rows.Activity a) = omega arith
has_bytes (rows.Counts c) = omega arith

pub less_left : (bytes : List ℕ) (from next : ℕ) (row : Row) → IsLineAt bytes from row next → from < length bytes →
    length bytes - next < length bytes - from
less_left bytes from next row line within = omega (arith, has_bytes row, line.behind, within)

pub read_bad : (bytes : List ℕ) (from : ℕ) (done : List Row) (count : ℕ) → Read bytes done (drop from bytes) →
    count ≡ length done → from < length bytes → BeginsNoLine (drop from bytes) → IsFirstBad bytes (count + 1)
read_bad bytes from done count read counted within none = record {
  before = done;
  rest = drop from bytes;
  each = read.each;
  spelled = read.spelled;
  place = omega arith;
  some = omega (arith, length-drop from bytes, within);
  bad = none;
}

pub read_whole : (bytes : List ℕ) (from : ℕ) (done : List Row) → Read bytes done (drop from bytes) → length bytes ≤ from →
    IsReport bytes done
read_whole bytes from done read past = record {
  each = read.each;
  spelled = read.spelled ∙ ap (λ text. lines done ++ text) (drop_all from bytes past) ∙ append-nil (lines done);
}

pub read_nothing : (bytes : List ℕ) → Read bytes [] bytes
unfolding lines
read_nothing bytes = record { each = tt; spelled = refl }
