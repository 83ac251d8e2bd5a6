-- Places of a text with a line feed there or behind them, and what is read on from there.
use Rattle.std.proofs.Common.{◌≡◌, ◌≢◌, ℕ, zero, suc, ◌+◌, ◌-◌, ◌*◌, ◌^◌, ◌<◌, ◌≤◌, ◌==◌, not, nat_lt, true, false, List, [], ◌∷◌, length, get_or, drop, Some, None, refl, sym, ap, ◌∙◌, arith}
use Rattle.std.specs.Prelude.{slice_get, IsTrue}
use Rattle.std.specs.Char.{is_ascii_digit}
use Rattle.std.specs.List.{list_all}
use Rattle.std.proofs.lemmas.Bool.{eq-eqb, and_parts}
use Rattle.std.proofs.lemmas.Bool.Decides.{nat_tests}
use Rattle.std.proofs.lemmas.List.{drop_more, get_or-drop, length-drop}
use Rattle.std.proofs.lemmas.Option.{slice_get_within, slice_get-get_or, get_or_from_slice_get}
use Rattle.us_reports.specs.ReportReaders.{HasLineFeed, after, with_digit, more_digits}
use Rattle.us_reports.specs.Reports.{IsLinesEnd}

-- each is within the text
pub feed_within : (bytes : List ℕ) (from : ℕ) → HasLineFeed bytes from → from < length bytes
feed_within bytes from feed = omega (arith, slice_get_within bytes feed.at 10 feed.stands, feed.behind)

-- so is the place behind a byte that is no line feed
pub feed_behind : (bytes : List ℕ) (from : ℕ) → HasLineFeed bytes from → get_or bytes from 0 ≢ 10 →
    HasLineFeed bytes (from + 1)
feed_behind bytes from feed other =
    let here : get_or bytes feed.at 0 ≡ 10 = get_or_from_slice_get bytes feed.at 10 0 feed.stands in
    let apart : from ≢ feed.at = λ same. other (ap (λ i. get_or bytes i 0) same ∙ here) in
    record { at = feed.at; behind = omega (arith, feed.behind, apart); stands = feed.stands }

-- what stands there is its byte, and what stands behind it
pub feed_drop : (bytes : List ℕ) (from : ℕ) → HasLineFeed bytes from →
    drop from bytes ≡ get_or bytes from 0 ∷ drop (from + 1) bytes
feed_drop bytes from feed = drop_more bytes from 0 (feed_within bytes from feed)

pub ruleset places = (feed_within, feed_behind, feed_drop)

-- a line feed in what is left of a text
pub feed_found : (bytes : List ℕ) (from i : ℕ) → slice_get (drop from bytes) i ≡ Some 10 → HasLineFeed bytes from
feed_found bytes from i stands =
    let within : i < length (drop from bytes) = slice_get_within (drop from bytes) i 10 stands in
    let inside : from + i < length bytes = omega (arith, within, length-drop from bytes) in
    let is : get_or bytes (from + i) 0 ≡ 10 =
    sym (get_or-drop from bytes i 0) ∙ get_or_from_slice_get (drop from bytes) i 10 0 stands in
    record { at = from + i; behind = omega arith; stands = slice_get-get_or bytes (from + i) 0 inside ∙ ap Some is }

-- The last line feed.

pub before_end : (bytes : List ℕ) (end from : ℕ) → IsLinesEnd bytes end → from < end → HasLineFeed bytes from
before_end bytes end from ends before = record {
  at = end - 1;
  behind = omega (arith, before);
  stands = ends.last (omega (arith, before));
}

-- Words.

-- a byte of a word with no line feed is none
pub byte_other : (word : List ℕ) (i : ℕ) → IsTrue (list_all (λ byte. not (byte == 10)) word) → i < length word →
    get_or word i 0 ≢ 10
byte_other [] i all below same = absurd (omega (arith, below))
byte_other (w ∷ word) zero all below same =
    let first : not (w == 10) ≡ true = (and_parts (not (w == 10)) (list_all (λ byte. not (byte == 10)) word) all).0 in
    absurd (grind (arith, nat_tests))
byte_other (w ∷ word) (suc i) all below same =
    byte_other word i (and_parts (not (w == 10)) (list_all (λ byte. not (byte == 10)) word) all).1 (omega (arith, below)) same

-- one byte of a word on
pub word_step : (word bytes : List ℕ) (i at : ℕ) → HasLineFeed bytes at → i < length word →
    get_or bytes at 0 ≡ get_or word i 0 → after (drop i word) (drop at bytes) ≡ after (drop (i + 1) word) (drop (at + 1) bytes)
unfolding after
word_step word bytes i at feed below same =
    rw (drop_more word i 0 below, feed_drop bytes at feed, same, eq-eqb (get_or word i 0) (get_or word i 0) refl) refl

-- Numbers.

pub digit_step : (bytes : List ℕ) (at high next : ℕ) → HasLineFeed bytes at → is_ascii_digit (get_or bytes at 0) ≡ true →
    next ≡ with_digit high (get_or bytes at 0) → next < 2 ^ 64 →
    more_digits high (drop at bytes) ≡ more_digits next (drop (at + 1) bytes)
unfolding more_digits
digit_step bytes at high next feed digit is small =
    let fits : nat_lt (with_digit high (get_or bytes at 0)) (2 ^ 64) ≡ true = grind (arith, nat_tests) in
    rw (feed_drop bytes at feed, digit, fits) (ap (λ n. more_digits n (drop (at + 1) bytes)) (sym is))

pub digit_over : (bytes : List ℕ) (at high : ℕ) → HasLineFeed bytes at → is_ascii_digit (get_or bytes at 0) ≡ true →
    2 ^ 64 ≤ with_digit high (get_or bytes at 0) → more_digits high (drop at bytes) ≡ None
unfolding more_digits
digit_over bytes at high feed digit large =
    let long : nat_lt (with_digit high (get_or bytes at 0)) (2 ^ 64) ≡ false = grind (arith, nat_tests) in
    rw (feed_drop bytes at feed, digit, long) refl

pub digit_none : (bytes : List ℕ) (at high : ℕ) → HasLineFeed bytes at → is_ascii_digit (get_or bytes at 0) ≡ false →
    more_digits high (drop at bytes) ≡ Some (high, drop at bytes)
unfolding more_digits
digit_none bytes at high feed other = rw (feed_drop bytes at feed, other) refl

pub ruleset digits = (digit_step, digit_over, digit_none)

-- two digits behind a first one
pub two_digits : (bytes : List ℕ) (at one tens units : ℕ) → HasLineFeed bytes at → one < 10 →
    is_ascii_digit (get_or bytes at 0) ≡ true → is_ascii_digit (get_or bytes (at + 1) 0) ≡ true →
    tens ≡ get_or bytes at 0 - 48 → units ≡ get_or bytes (at + 1) 0 - 48 →
    more_digits one (drop at bytes) ≡ more_digits (10 * (10 * one + tens) + units) (drop (at + 2) bytes)
two_digits bytes at one tens units feed low first second are_tens are_units =
    let most : get_or bytes at 0 ≤ 57 = grind (arith, nat_tests) in
    let other : get_or bytes at 0 ≢ 10 = λ same. grind (arith, nat_tests) in
    let last : get_or bytes (at + 1) 0 ≤ 57 = grind (arith, nat_tests) in
    let two : ℕ = 10 * one + tens in
    let three : ℕ = 10 * two + units in
    let behind : at + 1 + 1 ≡ at + 2 = omega arith in
    digit_step bytes at one two feed first (ap (λ d. 10 * one + d) are_tens) (omega (arith, most, low, are_tens))
    ∙ digit_step bytes (at + 1) two three (feed_behind bytes at feed other) second (ap (λ d. 10 * two + d) are_units)
    (omega (arith, most, last, low, are_tens, are_units))
    ∙ ap (λ k. more_digits three (drop k bytes)) behind
