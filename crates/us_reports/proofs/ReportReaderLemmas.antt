-- Readers of a report: what each finds is spelled so, and what is spelled so it finds again.
use Rattle.std.proofs.Common.{◌≡◌, ℕ, zero, suc, ◌+◌, ◌-◌, ◌/◌, ◌%◌, ◌^◌, ◌<◌, ◌≤◌, ◌==◌, ◌⊎◌, inl, inr, nat_lt, List, [], ◌∷◌, ◌++◌, Option, Some, None, IfSome, codes, Bool, true, false, refl, sym, ap, subst, ◌∙◌, arith, append_assoc}
use Rattle.std.specs.Char.{is_ascii_digit}
use Rattle.std.specs.Fmt.{decimal}
use Rattle.std.specs.Option.{option_or}
use Rattle.std.proofs.lemmas.Fmt.{decimal_by_steps, decimal_step, decimal_digit}
use Rattle.std.proofs.lemmas.Bool.Decides.{eqb_tells, nat_tests}
use Rattle.std.proofs.lemmas.Bool.{eq-eqb}
use Rattle.us_output.specs.declared.rows.EntryWord.{EntryWord}
use Rattle.us_output.specs.declared.rows.EntryWord.TheVariants as words
use Rattle.us_output.specs.Lines.{word_text, units_text}
use Rattle.us_reports.specs.ReportReaders.{◌>>=◌, after, with_digit, more_digits, number_at, field_at, spelled_at, word_at, units_at}

-- Steps.

-- a step that finds something follows one that does
pub found_in : {A B : Type 0} {P : Type 0} (o : Option A) (f : A → Option B) (y : B) → (o >>= f) ≡ Some y →
    ((x : A) → o ≡ Some x → f x ≡ Some y → P) → P
found_in None f y found then = cc
found_in (Some x) f y found then = then x refl found

-- one of two finds what either finds
or_some : {A : Type 0} (o p : Option A) (x : A) → option_or o p ≡ Some x → (o ≡ Some x) ⊎ (p ≡ Some x)
or_some None p x found = inr found
or_some (Some y) p x found = inl found

-- what holds of the found holds of what it is
pub moved : {A : Type 0} (P : A → Type 0) (a b : A) → Some a ≡ Some b → P a → P b
moved P a b same holds = let eq : a ≡ b = cc in subst P eq holds

-- a test is true or false
pub bool_tells : (b : Bool) → (b ≡ true) ⊎ (b ≡ false)
bool_tells true = inl refl
bool_tells false = inr refl

-- Words.

pub after_again : (word more : List ℕ) → after word (word ++ more) ≡ Some more
unfolding after
after_again [] more = refl
after_again (w ∷ word) more = rw (eq-eqb w w refl) (after_again word more)

pub after_found : (word bytes rest : List ℕ) → after word bytes ≡ Some rest → bytes ≡ word ++ rest
unfolding after
after_found [] bytes rest found = cc
after_found (w ∷ word) [] rest found = cc
after_found (w ∷ word) (b ∷ bytes) rest found =
    elim (eqb_tells b w) [
      | inl same ↦ (let behind = rw (same.0) at found in cc (after_found word bytes rest behind, same.1))
      | inr other ↦ (let none = rw (other.0) at found in cc)
    ]

-- Numbers.

-- no digit stands in front
abbrev pub Stops : List ℕ → Type 0
Stops [] = Unit {0}
Stops (b ∷ bytes) = is_ascii_digit b ≡ false

-- what is told of a number
abbrev pub TellsNumber : List ℕ → ℕ × List ℕ → Type 0
TellsNumber bytes x = (x.0 < 2 ^ 64) × (bytes ≡ decimal x.0 ++ x.1)

-- the digit before a byte that stands behind others
next_digit : (high b : ℕ) → 0 < high → is_ascii_digit b ≡ true → with_digit high b < 2 ^ 64 →
    decimal (with_digit high b) ≡ decimal high ++ (b ∷ [])
next_digit high b some digit small =
    let range : (48 ≤ b) × (b ≤ 57) = grind (arith, nat_tests) in
    let front : with_digit high b / 10 ≡ high = omega arith in
    let last : 48 + with_digit high b % 10 ≡ b = omega arith in
    decimal_step (with_digit high b) (omega arith) small ∙ (λ i. decimal (front i) ++ (last i ∷ []))

told : (bytes : List ℕ) (n : ℕ) (rest : List ℕ) (x : ℕ × List ℕ) → n < 2 ^ 64 → bytes ≡ decimal n ++ rest →
    Some (n, rest) ≡ Some x → TellsNumber bytes x
told bytes n rest x small spelled found =
    let same : ◌≡◌ {A = ℕ × List ℕ} (n, rest) x = cc in subst (TellsNumber bytes) same (small, spelled)

more_found : (high : ℕ) (bytes : List ℕ) (x : ℕ × List ℕ) → 0 < high → high < 2 ^ 64 → more_digits high bytes ≡ Some x →
    TellsNumber (decimal high ++ bytes) x
unfolding more_digits
more_found high [] x some small found = told (decimal high ++ []) high [] x small refl found
more_found high (b ∷ bytes) x some small found =
    elim (bool_tells (is_ascii_digit b)) [
      | inl digit ↦ elim (bool_tells (nat_lt (with_digit high b) (2 ^ 64))) [
        | inl fits ↦
            let below : with_digit high b < 2 ^ 64 = grind (arith, nat_tests) in
            let later = more_found (with_digit high b) bytes x (omega arith) below (rw (digit, fits) at found) in
            let joined : decimal high ++ (b ∷ bytes) ≡ decimal (with_digit high b) ++ bytes =
            sym (append_assoc (decimal high) (b ∷ []) bytes)
            ∙ ap (λ digits. digits ++ bytes) (sym (next_digit high b some digit below)) in
            (later.0, joined ∙ later.1)
        | inr long ↦ (let none = rw (digit, long) at found in cc)
      ]
      | inr other ↦ told (decimal high ++ (b ∷ bytes)) high (b ∷ bytes) x small refl (rw other at found)
    ]

number_found : (bytes : List ℕ) (x : ℕ × List ℕ) → number_at bytes ≡ Some x → TellsNumber bytes x
unfolding number_at
number_found [] x found = cc
number_found (b ∷ bytes) x found =
    elim (eqb_tells b 48) [
      | inl nought ↦ told (b ∷ bytes) 0 bytes x (omega arith)
          (rw (nought.1) (ap (λ digits. digits ++ bytes) (sym (decimal_digit 0 (omega arith))))) (rw (nought.0) at found)
      | inr other ↦ elim (bool_tells (is_ascii_digit b)) [
        | inl digit ↦
            let range : (48 ≤ b) × (b ≤ 57) = grind (arith, nat_tests) in
            let first : 48 + (b - 48) ≡ b = omega arith in
            let some : 0 < b - 48 = omega arith in
            let later = more_found (b - 48) bytes x some (omega arith) (rw (other.0, digit) at found) in
            let spelled : b ∷ bytes ≡ decimal (b - 48) ++ bytes =
            sym (ap (λ digits. digits ++ bytes) (decimal_digit (b - 48) (omega arith)) ∙ ap (λ d. d ∷ bytes) first) in
            (later.0, spelled ∙ later.1)
        | inr letter ↦ (let none = rw (other.0, letter) at found in cc)
      ]
    ]

first_digit : (m : ℕ) (more : List ℕ) → m < 10 → 0 < m → number_at ((48 + m) ∷ more) ≡ more_digits m more
unfolding number_at
first_digit m more low some =
    let other : ((48 + m) == 48) ≡ false = grind (arith, nat_tests) in
    let digit : is_ascii_digit (48 + m) ≡ true = grind (arith, nat_tests) in
    let back : (48 + m) - 48 ≡ m = omega arith in
    rw (other, digit) (ap (λ k. more_digits k more) back)

later_digit : (m : ℕ) (more : List ℕ) → m < 2 ^ 64 → more_digits (m / 10) ((48 + m % 10) ∷ more) ≡ more_digits m more
unfolding more_digits
later_digit m more small =
    let back : with_digit (m / 10) (48 + m % 10) ≡ m = omega arith in
    let digit : is_ascii_digit (48 + m % 10) ≡ true = grind (arith, nat_tests) in
    let fits : nat_lt (with_digit (m / 10) (48 + m % 10)) (2 ^ 64) ≡ true = grind (arith, nat_tests) in
    rw (digit, fits) (ap (λ k. more_digits k more) back)

-- the digits of a number, whatever follows
number_begins : (n : ℕ) → n < 2 ^ 64 → 0 < n → (more : List ℕ) → number_at (decimal n ++ more) ≡ more_digits n more
number_begins n small =
    decimal_by_steps (λ m ds. m < 2 ^ 64 → 0 < m → (more : List ℕ) → number_at (ds ++ more) ≡ more_digits m more)
    (λ m low below some more. first_digit m more low some)
    (λ m ds high step below some more.
    ap number_at (append_assoc ds ((48 + m % 10) ∷ []) more)
    ∙ step (omega arith) (omega arith) ((48 + m % 10) ∷ more) ∙ later_digit m more below)
    n small small

more_again : (n : ℕ) (more : List ℕ) → Stops more → more_digits n more ≡ Some (n, more)
unfolding more_digits
more_again n [] stops = refl
more_again n (b ∷ more) stops = rw stops refl

number_again : (n : ℕ) (more : List ℕ) → n < 2 ^ 64 → Stops more → number_at (decimal n ++ more) ≡ Some (n, more)
unfolding number_at
number_again zero more small stops = rw (decimal_digit 0 (omega arith)) refl
number_again (suc n) more small stops =
    number_begins (suc n) small (omega arith) more ∙ more_again (suc n) more stops

-- Fields.

pub field_found : (bytes : List ℕ) (x : ℕ × List ℕ) → field_at bytes ≡ Some x →
    (x.0 < 2 ^ 64) × (bytes ≡ 44 ∷ (decimal x.0 ++ x.1))
unfolding field_at
field_found bytes x found =
    found_in (after (codes ",") bytes) number_at x found
    (λ rest comma more.
    let number = number_found rest x more in
    (number.0, after_found (codes ",") bytes rest comma ∙ ap (λ text. 44 ∷ text) number.1))

pub field_again : (n : ℕ) (more : List ℕ) → n < 2 ^ 64 → Stops more →
    field_at (44 ∷ (decimal n ++ more)) ≡ Some (n, more)
unfolding field_at
field_again n more small stops = rw (after_again (44 ∷ []) (decimal n ++ more)) (number_again n more small stops)

-- the same before a comma, and before the end of the line
pub field_comma : (n : ℕ) (more : List ℕ) → n < 2 ^ 64 →
    field_at (44 ∷ (decimal n ++ (44 ∷ more))) ≡ Some (n, 44 ∷ more)
field_comma n more small = field_again n (44 ∷ more) small refl

pub field_end : (n : ℕ) (more : List ℕ) → n < 2 ^ 64 →
    field_at (44 ∷ (decimal n ++ (10 ∷ more))) ≡ Some (n, 10 ∷ more)
field_end n more small = field_again n (10 ∷ more) small refl

-- Entries.

spelled_found : (entry : EntryWord) (bytes : List ℕ) (x : EntryWord × List ℕ) → spelled_at entry bytes ≡ Some x →
    bytes ≡ word_text x.0 ++ x.1
unfolding spelled_at
spelled_found entry bytes x found =
    found_in (after (word_text entry) bytes) (λ rest. Some (entry, rest)) x found
    (λ rest word same.
    moved (λ x. bytes ≡ word_text x.0 ++ x.1) (entry, rest) x same (after_found (word_text entry) bytes rest word))

pub word_found : (bytes : List ℕ) (x : EntryWord × List ℕ) → word_at bytes ≡ Some x → bytes ≡ word_text x.0 ++ x.1
unfolding word_at
word_found bytes x found =
    elim (or_some (spelled_at words.Unsolicited bytes) _ x found) [
      | inl first ↦ spelled_found words.Unsolicited bytes x first
      | inr later ↦ elim (or_some (spelled_at words.Activity bytes) _ x later) [
        | inl first ↦ spelled_found words.Activity bytes x first
        | inr later ↦ elim (or_some (spelled_at words.RealTimePoll bytes) _ x later) [
          | inl first ↦ spelled_found words.RealTimePoll bytes x first
          | inr later ↦ elim (or_some (spelled_at words.NonRealTimePoll bytes) _ x later) [
            | inl first ↦ spelled_found words.NonRealTimePoll bytes x first
            | inr later ↦ elim (or_some (spelled_at words.Station bytes) _ x later) [
              | inl first ↦ spelled_found words.Station bytes x first
              | inr later ↦ spelled_found words.Requested bytes x later
            ]
          ]
        ]
      ]
    ]

pub word_again : (entry : EntryWord) (more : List ℕ) → word_at (word_text entry ++ more) ≡ Some (entry, more)
unfolding word_at spelled_at after
word_again words.Unsolicited more = refl
word_again words.Activity more = refl
word_again words.RealTimePoll more = refl
word_again words.NonRealTimePoll more = refl
word_again words.Station more = refl
word_again words.Requested more = refl

-- Units.

-- what is told of the units of a bucket
abbrev pub TellsUnits : List ℕ → Option ℕ × List ℕ → Type 0
TellsUnits bytes x = IfSome x.0 (λ units. units < 2 ^ 64) × (bytes ≡ units_text x.0 ++ x.1)

pub units_found : (bytes : List ℕ) (x : Option ℕ × List ℕ) → units_at bytes ≡ Some x → TellsUnits bytes x
unfolding units_at
units_found bytes x found =
    elim (or_some (after (codes "-") bytes >>= λ rest. Some (None, rest)) _ x found) [
      | inl dash ↦ found_in (after (codes "-") bytes) (λ rest. Some (None, rest)) x dash
          (λ rest word same. moved (TellsUnits bytes) (None, rest) x same (tt, after_found (codes "-") bytes rest word))
      | inr told ↦ found_in (number_at bytes) (λ units. Some (Some units.0, units.1)) x told
          (λ units number same.
          moved (TellsUnits bytes) (Some units.0, units.1) x same (number_found bytes units number))
    ]

-- no number begins with a dash
digit_undashed : (m : ℕ) (more : List ℕ) → after (codes "-") ((48 + m) ∷ more) ≡ None
unfolding after
digit_undashed m more = let other : ((48 + m) == 45) ≡ false = grind (arith, nat_tests) in rw other refl

undashed : (n : ℕ) → n < 2 ^ 64 → (more : List ℕ) → after (codes "-") (decimal n ++ more) ≡ None
undashed n small =
    decimal_by_steps (λ m ds. (more : List ℕ) → after (codes "-") (ds ++ more) ≡ None)
    (λ m low more. digit_undashed m more)
    (λ m ds high step more.
    ap (after (codes "-")) (append_assoc ds ((48 + m % 10) ∷ []) more) ∙ step ((48 + m % 10) ∷ more))
    n small

pub units_again : (units : Option ℕ) (more : List ℕ) → IfSome units (λ u. u < 2 ^ 64) → Stops more →
    units_at (units_text units ++ more) ≡ Some (units, more)
unfolding units_at after
units_again None more small stops = refl
units_again (Some u) more small stops =
    rw (undashed u small more, number_again u more small stops) refl
