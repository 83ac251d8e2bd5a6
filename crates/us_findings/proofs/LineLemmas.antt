-- Lines and columns, byte by byte.
use Rattle.std.proofs.Common.{◌≡◌, ℕ, ◌+◌, ◌-◌, ◌<◌, ◌≤◌, Bool, true, false, not, List, [], ◌∷◌, ◌++◌, length, take, drop, get_or, ap, ◌∙◌, sym, arith}
use Rattle.std.specs.Prelude.{count_by}
use Rattle.std.specs.List.{suffix_len}
use Rattle.std.proofs.lemmas.List.{take_more, drop-append-le, drop_all, length-take-le}
use Rattle.std.proofs.lemmas.List.Sums.{count_by_more_yes, count_by_more_no, sum_by-append, suffix_len-le-length, suffix_len-take_yes, suffix_len-take_no}
use Rattle.std.proofs.Common.{cond}
use Rattle.us_findings.specs.Lines.{ends_line, begins_character, line_behind, column_behind, last_line}

-- the line and the column behind the first so many bytes of a text
pub record IsBehind (text : List ℕ) (done at_line at_column : ℕ) : Type 0 where
  pub line : at_line ≡ line_behind (take done text)
  pub column : at_column ≡ column_behind (take done text)
  pub few_lines : at_line ≤ done + 1
  pub few_characters : at_column ≤ done + 1

abbrev is_inside : ℕ → Bool
is_inside byte = not (ends_line byte)

-- how many bytes of the last line there are
abbrev last_len : List ℕ → ℕ
last_len bytes = suffix_len is_inside bytes

-- the last line with one byte more, which is no line feed
last-more : (text : List ℕ) (i : ℕ) → i < length text → ends_line (get_or text i 0) ≡ false →
    last_line (take (i + 1) text) ≡ last_line (take i text) ++ get_or text i 0 ∷ []
last-more text i within rest =
    let len : length (take i text) ≡ i = length-take-le i text (omega (arith, within)) in
    let len' : length (take (i + 1) text) ≡ i + 1 = length-take-le (i + 1) text (omega (arith, within)) in
    let few : last_len (take i text) ≤ length (take i text) = suffix_len-le-length is_inside (take i text) in
    let same : i + 1 - 1 ≡ i = omega arith in
    let more : last_len (take (i + 1) text) ≡ 1 + last_len (take i text) =
    rw same at (suffix_len-take_yes is_inside text (i + 1) 0 (omega arith) (omega (arith, within)) (rw same (ap not rest))) in
    let at : length (take (i + 1) text) - last_len (take (i + 1) text) ≡ length (take i text) - last_len (take i text) =
    omega (arith, len, len', more, few) in
    ap (λ n. drop n (take (i + 1) text)) at ∙
    ap (drop (length (take i text) - last_len (take i text))) (take_more text i 0 within) ∙
    drop-append-le (length (take i text) - last_len (take i text)) (take i text) _ (omega arith)

-- and behind a line feed
last-none : (text : List ℕ) (i : ℕ) → i < length text → ends_line (get_or text i 0) ≡ true →
    last_line (take (i + 1) text) ≡ []
last-none text i within ends =
    let same : i + 1 - 1 ≡ i = omega arith in
    let none : last_len (take (i + 1) text) ≡ 0 =
    suffix_len-take_no is_inside text (i + 1) 0 (omega arith) (omega (arith, within)) (rw same (ap not ends)) in
    drop_all (length (take (i + 1) text) - last_len (take (i + 1) text)) (take (i + 1) text) (omega (arith, none))

-- how many characters begin in bytes with one more behind them
count-more : (bytes : List ℕ) (byte : ℕ) →
    count_by begins_character (bytes ++ byte ∷ []) ≡ count_by begins_character bytes + cond (begins_character byte) 1 0
count-more bytes byte =
    sum_by-append (λ b. cond (begins_character b) 1 0) bytes (byte ∷ []) ∙
    ap (λ n. count_by begins_character bytes + n) (add-zero-left (cond (begins_character byte) 1 0))
  where
    add-zero-left : (n : ℕ) → 0 + n ≡ n
    add-zero-left n = omega arith

pub behind-line : (text : List ℕ) (i at_line at_column : ℕ) → i < length text → ends_line (get_or text i 0) ≡ true →
    IsBehind text i at_line at_column → IsBehind text (i + 1) (at_line + 1) 1
behind-line text i at_line at_column within ends is = record {
  line = ap (λ n. n + 1) (is.line ∙ sym (count_by_more_yes ends_line text i 0 within ends));
  column = sym (ap (λ l. count_by begins_character l + 1) (last-none text i within ends));
  few_lines = omega (arith, is.few_lines);
  few_characters = omega arith;
}

pub behind-byte : (text : List ℕ) (i at_line at_column more : ℕ) → i < length text →
    ends_line (get_or text i 0) ≡ false → cond (begins_character (get_or text i 0)) 1 0 ≡ more → more ≤ 1 →
    IsBehind text i at_line at_column → IsBehind text (i + 1) at_line (at_column + more)
behind-byte text i at_line at_column more within rest begins few is = record {
  line = is.line ∙ ap (λ n. n + 1) (sym (count_by_more_no ends_line text i 0 within rest));
  column =
      let counted : column_behind (take (i + 1) text) ≡ count_by begins_character (last_line (take i text)) + more + 1 =
      ap (λ l. count_by begins_character l + 1) (last-more text i within rest) ∙
      ap (λ n. n + 1) (count-more (last_line (take i text)) (get_or text i 0) ∙
      ap (λ n. count_by begins_character (last_line (take i text)) + n) begins) in
      omega (arith, counted, is.column);
  few_lines = omega (arith, is.few_lines);
  few_characters = omega (arith, is.few_characters, few);
}

pub same-column : (text : List ℕ) (i at_line at_column : ℕ) → IsBehind text i at_line (at_column + 0) →
    IsBehind text i at_line at_column
same-column text i at_line at_column is = let none : at_column + 0 ≡ at_column = omega arith in rw none at is
