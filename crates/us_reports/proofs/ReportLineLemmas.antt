-- Lines of a report: what is found is spelled so, and what is spelled so is found again.
use Rattle.std.proofs.Common.{◌≡◌, ℕ, ◌^◌, ◌<◌, List, [], ◌∷◌, ◌++◌, Option, Some, None, option_map, not, codes, refl, sym, ap, ◌∙◌, append_assoc, inl, inr}
use Rattle.std.specs.Fmt.{decimal}
use Rattle.std.proofs.lemmas.Bool.{not-true}
use Rattle.std.proofs.lemmas.Bool.Decides.{eqb_tells}
use Rattle.us_output.specs.declared.rows.FinalActivity.{FinalActivity}
use Rattle.us_output.specs.declared.rows.FinalState.{FinalState}
use Rattle.us_output.specs.declared.rows.Grant.{Grant}
use Rattle.us_output.specs.declared.rows.MissedOccurrence.{MissedOccurrence}
use Rattle.us_output.specs.declared.rows.Row.{Row}
use Rattle.us_output.specs.declared.rows.Row.TheVariants as rows
use Rattle.us_output.specs.declared.rows.TraceCounts.{TraceCounts}
use Rattle.us_reports.specs.Rows.{is_requested}
use Rattle.us_output.specs.Lines.{word_text, numbers, units_text, text_of, grant_text, missed_text, final_text, activity_text, counts_text, Fit}
use Rattle.us_reports.specs.Rows.{IsRow}
use Rattle.us_reports.specs.Fronts.{front_text}
use Rattle.us_reports.specs.ReportReaders.{◌>>=◌, after, field_at, word_at, units_at, occurrence_at, tail_at, grant_at, missed_at, final_at, activity_at, counts_at, told_by, row_at}
use Rattle.us_reports.proofs.ReportReaderLemmas.{Stops, bool_tells, found_in, moved, after_again, after_found, field_found, field_again, field_comma, field_end, word_found, word_again, units_found, units_again}

-- Texts.

-- fields, with what stands behind them
abbrev fields : List ℕ → List ℕ → List ℕ
fields [] more = more
fields (n ∷ ns) more = 44 ∷ (decimal n ++ fields ns more)

numbers_spelled : (ns more : List ℕ) → numbers ns ++ more ≡ fields ns more
numbers_spelled [] more = refl
numbers_spelled (n ∷ ns) more =
    ap (λ text. 44 ∷ text)
    (append_assoc (decimal n) (numbers ns) more ∙ ap (λ text. decimal n ++ text) (numbers_spelled ns more))

-- fields at the end of a line
end_spelled : (ns more : List ℕ) → (numbers ns ++ codes "\n") ++ more ≡ fields ns (10 ∷ more)
end_spelled ns more = append_assoc (numbers ns) (codes "\n") more ∙ numbers_spelled ns (10 ∷ more)

-- fields, a word, and other fields at the end of a line
line_spelled : (ns word ms more : List ℕ) →
    (numbers ns ++ (44 ∷ (word ++ (numbers ms ++ codes "\n")))) ++ more
    ≡ fields ns (44 ∷ (word ++ fields ms (10 ∷ more)))
line_spelled ns word ms more =
    append_assoc (numbers ns) (44 ∷ (word ++ (numbers ms ++ codes "\n"))) more
    ∙ numbers_spelled ns (44 ∷ ((word ++ (numbers ms ++ codes "\n")) ++ more))
    ∙ ap (λ text. fields ns (44 ∷ text))
    (append_assoc word (numbers ms ++ codes "\n") more ∙ ap (λ text. word ++ text) (end_spelled ms more))

-- one piece of a line, and what stands behind it
follow : {bytes behind more : List ℕ} (piece : List ℕ) → bytes ≡ piece ++ behind → behind ≡ more → bytes ≡ piece ++ more
follow piece first later = first ∙ ap (λ text. piece ++ text) later

-- Occurrences.

abbrev numbers_of : MissedOccurrence → List ℕ
numbers_of m = m.round ∷ m.channel ∷ m.id ∷ m.i ∷ m.k ∷ []

-- what both kinds of lines say of an occurrence
abbrev occurrence_text : MissedOccurrence → List ℕ → List ℕ
occurrence_text m more =
    fields (m.round ∷ m.channel ∷ []) (44 ∷ (word_text m.entry ++ fields (m.id ∷ m.i ∷ m.k ∷ []) more))

abbrev TellsOccurrence : List ℕ → MissedOccurrence × List ℕ → Type 0
TellsOccurrence bytes x = Fit (numbers_of x.0) × (bytes ≡ occurrence_text x.0 x.1)

occurrence_found : (bytes : List ℕ) (x : MissedOccurrence × List ℕ) → occurrence_at bytes ≡ Some x → TellsOccurrence bytes x
unfolding occurrence_at
occurrence_found bytes x found =
    found_in (field_at bytes) _ x found (λ round a found.
    found_in (field_at round.1) _ x found (λ channel b found.
    found_in (after (codes ",") channel.1) _ x found (λ comma c found.
    found_in (word_at comma) _ x found (λ entry d found.
    found_in (field_at entry.1) _ x found (λ id e found.
    found_in (field_at id.1) _ x found (λ i f found.
    found_in (field_at i.1) _ x found (λ k g found.
    let a = field_found bytes round a in
    let b = field_found round.1 channel b in
    let e = field_found entry.1 id e in
    let f = field_found id.1 i f in
    let g = field_found i.1 k g in
    moved (TellsOccurrence bytes) _ x found (
      (a.0, (b.0, (e.0, (f.0, (g.0, tt))))),
      follow (44 ∷ decimal round.0) a.1 (follow (44 ∷ decimal channel.0) b.1
          (follow (codes ",") (after_found (codes ",") channel.1 comma c)
          (follow (word_text entry.0) (word_found comma entry d) (follow (44 ∷ decimal id.0) e.1
          (follow (44 ∷ decimal i.0) f.1 g.1))))),
    ))))))))

occurrence_again : (m : MissedOccurrence) (more : List ℕ) → Fit (numbers_of m) → Stops more →
    occurrence_at (occurrence_text m more) ≡ Some (m, more)
unfolding occurrence_at
occurrence_again m more fits stops =
    let round : m.round < 2 ^ 64 = fits.0 in
    let channel : m.channel < 2 ^ 64 = fits.1.0 in
    let id : m.id < 2 ^ 64 = fits.1.1.0 in
    let i : m.i < 2 ^ 64 = fits.1.1.1.0 in
    rw (
      field_comma,
      field_comma,
      after_again (codes ","),
      word_again,
      field_comma,
      field_comma,
      field_again m.k more fits.1.1.1.1.0 stops,
    ) refl

-- G lines.

abbrev TellsGrant : List ℕ → Grant × List ℕ → Type 0
TellsGrant bytes x = IsRow (rows.Granted x.0) × (71 ∷ bytes ≡ grant_text x.0 ++ x.1)

grant_spelled : (g : Grant) (more : List ℕ) →
    grant_text g ++ more
    ≡ 71 ∷ fields (g.round ∷ g.channel ∷ []) (44 ∷ (word_text g.entry ++
    fields (g.id ∷ g.i ∷ g.k ∷ g.sid ∷ g.iuc ∷ g.start ∷ g.slots ∷ g.credit ∷ []) (10 ∷ more)))
grant_spelled g more =
    ap (λ text. 71 ∷ text)
    (line_spelled (g.round ∷ g.channel ∷ []) (word_text g.entry)
    (g.id ∷ g.i ∷ g.k ∷ g.sid ∷ g.iuc ∷ g.start ∷ g.slots ∷ g.credit ∷ []) more)

grant_found : (bytes : List ℕ) (x : Grant × List ℕ) → grant_at bytes ≡ Some x → TellsGrant bytes x
unfolding grant_at tail_at
grant_found bytes x found =
    found_in (field_at bytes) _ x found (λ round a found.
    found_in (field_at round.1) _ x found (λ channel b found.
    found_in (after (codes ",") channel.1) _ x found (λ comma c found.
    found_in (word_at comma) _ x found (λ entry d found.
    found_in (field_at entry.1) _ x found (λ id e found.
    found_in (field_at id.1) _ x found (λ i f found.
    found_in (field_at i.1) _ x found (λ k g found.
    found_in (field_at k.1) _ x found (λ sid h found.
    found_in (field_at sid.1) _ x found (λ iuc j found.
    found_in (field_at iuc.1) _ x found (λ start l found.
    found_in (field_at start.1) _ x found (λ slots m found.
    found_in (field_at slots.1) _ x found (λ credit n found.
    found_in (after (codes "\n") credit.1) _ x found (λ rest o found.
    let a = field_found bytes round a in
    let b = field_found round.1 channel b in
    let e = field_found entry.1 id e in
    let f = field_found id.1 i f in
    let g = field_found i.1 k g in
    let h = field_found k.1 sid h in
    let j = field_found sid.1 iuc j in
    let l = field_found iuc.1 start l in
    let m = field_found start.1 slots m in
    let n = field_found slots.1 credit n in
    moved (TellsGrant bytes) _ x found (
      ((a.0, (b.0, (e.0, (f.0, (g.0, (h.0, (j.0, (l.0, (m.0, (n.0, tt)))))))))), refl),
      ap (λ text. 71 ∷ text)
          (follow (44 ∷ decimal round.0) a.1 (follow (44 ∷ decimal channel.0) b.1
          (follow (codes ",") (after_found (codes ",") channel.1 comma c)
          (follow (word_text entry.0) (word_found comma entry d) (follow (44 ∷ decimal id.0) e.1
          (follow (44 ∷ decimal i.0) f.1 (follow (44 ∷ decimal k.0) g.1 (follow (44 ∷ decimal sid.0) h.1
          (follow (44 ∷ decimal iuc.0) j.1 (follow (44 ∷ decimal start.0) l.1 (follow (44 ∷ decimal slots.0) m.1
          (follow (44 ∷ decimal credit.0) n.1 (after_found (codes "\n") credit.1 rest o)))))))))))))
          ∙ sym (grant_spelled _ rest),
    ))))))))))))))

grant_again : (g : Grant) (more : List ℕ) → IsRow (rows.Granted g) →
    row_at (grant_text g ++ more) ≡ Some (rows.Granted g, more)
unfolding grant_at tail_at told_by row_at
grant_again g more is =
    let f = is.0 in
    let round : g.round < 2 ^ 64 = f.0 in
    let channel : g.channel < 2 ^ 64 = f.1.0 in
    let id : g.id < 2 ^ 64 = f.1.1.0 in
    let i : g.i < 2 ^ 64 = f.1.1.1.0 in
    let k : g.k < 2 ^ 64 = f.1.1.1.1.0 in
    let s = f.1.1.1.1.1 in
    let sid : g.sid < 2 ^ 64 = s.0 in
    let iuc : g.iuc < 2 ^ 64 = s.1.0 in
    let start : g.start < 2 ^ 64 = s.1.1.0 in
    let slots : g.slots < 2 ^ 64 = s.1.1.1.0 in
    let credit : g.credit < 2 ^ 64 = s.1.1.1.1.0 in
    ap row_at (grant_spelled g more)
    ∙ rw (
      field_comma,
      field_comma,
      after_again (codes ","),
      word_again,
      field_comma,
      field_comma,
      field_comma,
      field_comma,
      field_comma,
      field_comma,
      field_comma,
      field_end,
      after_again (codes "\n"),
    ) refl

front_spelled : (round channel : ℕ) (more : List ℕ) →
    front_text round channel ++ more ≡ 71 ∷ fields (round ∷ channel ∷ []) (44 ∷ more)
front_spelled round channel more =
    ap (λ text. 71 ∷ text)
    (append_assoc (numbers (round ∷ channel ∷ [])) (codes ",") more
    ∙ numbers_spelled (round ∷ channel ∷ []) (44 ∷ more))

tail_told : (tail : Option (Grant × List ℕ)) →
    ◌≡◌ {A = Option (Row × List ℕ)}
    (◌>>=◌ {A = Grant × List ℕ} {B = Row × List ℕ} tail (λ grant. Some (rows.Granted grant.0, grant.1)))
    (option_map {T = Grant × List ℕ} {U = Row × List ℕ} (λ told. (rows.Granted told.0, told.1)) tail)
tail_told None = refl
tail_told (Some told) = refl

-- a line with this front is a G line of this round and channel
pub front_read : (bytes : List ℕ) (round channel : ℕ) (more : List ℕ) → bytes ≡ front_text round channel ++ more →
    round < 2 ^ 64 → channel < 2 ^ 64 →
    row_at bytes ≡ option_map (λ told. (rows.Granted told.0, told.1)) (tail_at round channel more)
unfolding grant_at told_by row_at
front_read bytes round channel more stands round_fits channel_fits =
    ap row_at (stands ∙ front_spelled round channel more)
    ∙ rw (field_comma, field_comma, after_again (codes ",")) (tail_told (tail_at round channel more))

-- and a G line of a round and channel has their front
pub front_stands : (bytes : List ℕ) (round channel : ℕ × List ℕ) (more : List ℕ) → field_at bytes ≡ Some round →
    field_at round.1 ≡ Some channel → after (codes ",") channel.1 ≡ Some more →
    71 ∷ bytes ≡ front_text round.0 channel.0 ++ more
front_stands bytes round channel more a b c =
    ap (λ text. 71 ∷ text)
    (follow (44 ∷ decimal round.0) (field_found bytes round a).1 (follow (44 ∷ decimal channel.0)
    (field_found round.1 channel b).1 (after_found (codes ",") channel.1 more c)))
    ∙ sym (front_spelled round.0 channel.0 more)

-- M lines.

abbrev TellsMissed : List ℕ → MissedOccurrence × List ℕ → Type 0
TellsMissed bytes x = IsRow (rows.Missed x.0) × (77 ∷ bytes ≡ missed_text x.0 ++ x.1)

missed_spelled : (m : MissedOccurrence) (more : List ℕ) → missed_text m ++ more ≡ 77 ∷ occurrence_text m (10 ∷ more)
missed_spelled m more =
    ap (λ text. 77 ∷ text)
    (line_spelled (m.round ∷ m.channel ∷ []) (word_text m.entry) (m.id ∷ m.i ∷ m.k ∷ []) more)

missed_found : (bytes : List ℕ) (x : MissedOccurrence × List ℕ) → missed_at bytes ≡ Some x → TellsMissed bytes x
unfolding missed_at
missed_found bytes x found =
    found_in (occurrence_at bytes) _ x found (λ of a found.
    found_in (after (codes "\n") of.1) _ x found (λ rest b found.
    let a = occurrence_found bytes of a in
    let spelled : 77 ∷ bytes ≡ missed_text of.0 ++ rest =
    ap (λ text. 77 ∷ text) (a.1 ∙ ap (occurrence_text of.0) (after_found (codes "\n") of.1 rest b))
    ∙ sym (missed_spelled of.0 rest) in
    elim (bool_tells (is_requested of.0.entry)) [
      | inl asked ↦ (let none = rw asked at found in cc)
      | inr other ↦ moved (TellsMissed bytes) (of.0, rest) x (rw other at found) ((a.0, ap not other), spelled)
    ]))

missed_again : (m : MissedOccurrence) (more : List ℕ) → IsRow (rows.Missed m) →
    row_at (missed_text m ++ more) ≡ Some (rows.Missed m, more)
unfolding missed_at told_by row_at
missed_again m more is =
    ap row_at (missed_spelled m more)
    ∙ rw (occurrence_again m (10 ∷ more) is.0 refl, after_again (codes "\n"), not-true (is_requested m.entry) is.1) refl

-- F lines.

abbrev TellsFinal : List ℕ → FinalState × List ℕ → Type 0
TellsFinal bytes x = IsRow (rows.Final x.0) × (70 ∷ bytes ≡ final_text x.0 ++ x.1)

final_spelled : (s : FinalState) (more : List ℕ) →
    final_text s ++ more
    ≡ 70 ∷ fields (s.flow ∷ s.cluster ∷ s.outstanding ∷ []) (44 ∷ (units_text s.units ++ (10 ∷ more)))
final_spelled s more =
    ap (λ text. 70 ∷ text) (line_spelled (s.flow ∷ s.cluster ∷ s.outstanding ∷ []) (units_text s.units) [] more)

final_found : (bytes : List ℕ) (x : FinalState × List ℕ) → final_at bytes ≡ Some x → TellsFinal bytes x
unfolding final_at
final_found bytes x found =
    found_in (field_at bytes) _ x found (λ flow a found.
    found_in (field_at flow.1) _ x found (λ cluster b found.
    found_in (field_at cluster.1) _ x found (λ outstanding c found.
    found_in (after (codes ",") outstanding.1) _ x found (λ comma d found.
    found_in (units_at comma) _ x found (λ units e found.
    found_in (after (codes "\n") units.1) _ x found (λ rest f found.
    let a = field_found bytes flow a in
    let b = field_found flow.1 cluster b in
    let c = field_found cluster.1 outstanding c in
    let e = units_found comma units e in
    moved (TellsFinal bytes) _ x found (
      (((a.0, (b.0, (c.0, tt))), e.0), refl),
      ap (λ text. 70 ∷ text)
          (follow (44 ∷ decimal flow.0) a.1 (follow (44 ∷ decimal cluster.0) b.1 (follow (44 ∷ decimal outstanding.0) c.1
          (follow (codes ",") (after_found (codes ",") outstanding.1 comma d)
          (follow (units_text units.0) e.1 (after_found (codes "\n") units.1 rest f))))))
          ∙ sym (final_spelled _ rest),
    )))))))

final_again : (s : FinalState) (more : List ℕ) → IsRow (rows.Final s) →
    row_at (final_text s ++ more) ≡ Some (rows.Final s, more)
unfolding final_at told_by row_at
final_again s more is =
    let flow : s.flow < 2 ^ 64 = is.0.0.0 in
    let cluster : s.cluster < 2 ^ 64 = is.0.0.1.0 in
    let outstanding : s.outstanding < 2 ^ 64 = is.0.0.1.1.0 in
    ap row_at (final_spelled s more)
    ∙ rw (
      field_comma,
      field_comma,
      field_comma,
      after_again (codes ","),
      units_again s.units (10 ∷ more) is.0.1 refl,
      after_again (codes "\n"),
    ) refl

-- A lines.

abbrev TellsActivity : List ℕ → FinalActivity × List ℕ → Type 0
TellsActivity bytes x = IsRow (rows.Activity x.0) × (65 ∷ bytes ≡ activity_text x.0 ++ x.1)

activity_spelled : (a : FinalActivity) (more : List ℕ) →
    activity_text a ++ more ≡ 65 ∷ fields (a.flow ∷ a.active ∷ []) (10 ∷ more)
activity_spelled a more = ap (λ text. 65 ∷ text) (end_spelled (a.flow ∷ a.active ∷ []) more)

activity_found : (bytes : List ℕ) (x : FinalActivity × List ℕ) → activity_at bytes ≡ Some x → TellsActivity bytes x
unfolding activity_at
activity_found bytes x found =
    found_in (field_at bytes) _ x found (λ flow a found.
    found_in (field_at flow.1) _ x found (λ active b found.
    found_in (after (codes "\n") active.1) _ x found (λ rest c found.
    let a = field_found bytes flow a in
    let b = field_found flow.1 active b in
    moved (TellsActivity bytes) _ x found (
      ((a.0, (b.0, tt)), refl),
      ap (λ text. 65 ∷ text)
          (follow (44 ∷ decimal flow.0) a.1
          (follow (44 ∷ decimal active.0) b.1 (after_found (codes "\n") active.1 rest c)))
          ∙ sym (activity_spelled _ rest),
    ))))

activity_again : (a : FinalActivity) (more : List ℕ) → IsRow (rows.Activity a) →
    row_at (activity_text a ++ more) ≡ Some (rows.Activity a, more)
unfolding activity_at told_by row_at
activity_again a more is =
    let flow : a.flow < 2 ^ 64 = is.0.0 in
    let active : a.active < 2 ^ 64 = is.0.1.0 in
    ap row_at (activity_spelled a more) ∙ rw (field_comma, field_end, after_again (codes "\n")) refl

-- U lines.

abbrev TellsCounts : List ℕ → TraceCounts × List ℕ → Type 0
TellsCounts bytes x = IsRow (rows.Counts x.0) × (85 ∷ bytes ≡ counts_text x.0 ++ x.1)

counts_spelled : (c : TraceCounts) (more : List ℕ) →
    counts_text c ++ more ≡ 85 ∷ fields (c.unknown ∷ c.not_requestable ∷ c.late ∷ []) (10 ∷ more)
counts_spelled c more = ap (λ text. 85 ∷ text) (end_spelled (c.unknown ∷ c.not_requestable ∷ c.late ∷ []) more)

counts_found : (bytes : List ℕ) (x : TraceCounts × List ℕ) → counts_at bytes ≡ Some x → TellsCounts bytes x
unfolding counts_at
counts_found bytes x found =
    found_in (field_at bytes) _ x found (λ unknown a found.
    found_in (field_at unknown.1) _ x found (λ not_requestable b found.
    found_in (field_at not_requestable.1) _ x found (λ late c found.
    found_in (after (codes "\n") late.1) _ x found (λ rest d found.
    let a = field_found bytes unknown a in
    let b = field_found unknown.1 not_requestable b in
    let c = field_found not_requestable.1 late c in
    moved (TellsCounts bytes) _ x found (
      ((a.0, (b.0, (c.0, tt))), refl),
      ap (λ text. 85 ∷ text)
          (follow (44 ∷ decimal unknown.0) a.1 (follow (44 ∷ decimal not_requestable.0) b.1
          (follow (44 ∷ decimal late.0) c.1 (after_found (codes "\n") late.1 rest d))))
          ∙ sym (counts_spelled _ rest),
    )))))

counts_again : (c : TraceCounts) (more : List ℕ) → IsRow (rows.Counts c) →
    row_at (counts_text c ++ more) ≡ Some (rows.Counts c, more)
unfolding counts_at told_by row_at
counts_again c more is =
    let unknown : c.unknown < 2 ^ 64 = is.0.0 in
    let not_requestable : c.not_requestable < 2 ^ 64 = is.0.1.0 in
    let late : c.late < 2 ^ 64 = is.0.1.1.0 in
    ap row_at (counts_spelled c more)
    ∙ rw (field_comma, field_comma, field_end, after_again (codes "\n")) refl

-- Lines.

-- what is told of a line
abbrev pub TellsRow : List ℕ → Row × List ℕ → Type 0
TellsRow bytes x = IsRow x.0 × (bytes ≡ text_of x.0 ++ x.1)

-- a line that is found is of a row, and is spelled so
pub row_found : (bytes : List ℕ) (x : Row × List ℕ) → row_at bytes ≡ Some x → TellsRow bytes x
unfolding told_by row_at
row_found [] x found = cc
row_found (letter ∷ bytes) x found =
    elim (eqb_tells letter 71) [
      | inl g ↦ found_in (grant_at bytes) _ x (rw (g.0) at found) (λ grant a same.
          rw (g.1) (moved (TellsRow (71 ∷ bytes)) _ x same (grant_found bytes grant a)))
      | inr not_g ↦ elim (eqb_tells letter 77) [
        | inl m ↦ found_in (missed_at bytes) _ x (rw (not_g.0, m.0) at found) (λ missed a same.
            rw (m.1) (moved (TellsRow (77 ∷ bytes)) _ x same (missed_found bytes missed a)))
        | inr not_m ↦ elim (eqb_tells letter 70) [
          | inl f ↦ found_in (final_at bytes) _ x (rw (not_g.0, not_m.0, f.0) at found) (λ state a same.
              rw (f.1) (moved (TellsRow (70 ∷ bytes)) _ x same (final_found bytes state a)))
          | inr not_f ↦ elim (eqb_tells letter 65) [
            | inl l ↦ found_in (activity_at bytes) _ x (rw (not_g.0, not_m.0, not_f.0, l.0) at found)
                (λ activity a same. rw (l.1) (moved (TellsRow (65 ∷ bytes)) _ x same (activity_found bytes activity a)))
            | inr not_a ↦ elim (eqb_tells letter 85) [
              | inl u ↦ found_in (counts_at bytes) _ x (rw (not_g.0, not_m.0, not_f.0, not_a.0, u.0) at found)
                  (λ counts a same. rw (u.1) (moved (TellsRow (85 ∷ bytes)) _ x same (counts_found bytes counts a)))
              | inr not_u ↦ (let none = rw (not_g.0, not_m.0, not_f.0, not_a.0, not_u.0) at found in cc)
            ]
          ]
        ]
      ]
    ]

-- and the line of a row is found, whatever follows
pub row_again : (row : Row) (more : List ℕ) → IsRow row → row_at (text_of row ++ more) ≡ Some (row, more)
row_again (rows.Granted g) more is = grant_again g more is
row_again (rows.Missed m) more is = missed_again m more is
row_again (rows.Final s) more is = final_again s more is
row_again (rows.Activity a) more is = activity_again a more is
row_again (rows.Counts c) more is = counts_again c more is
