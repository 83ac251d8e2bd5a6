-- Fronts: two numbers that cover a text tell where it stands.
use Rattle.std.proofs.Common.{◌≡◌, ℕ, zero, suc, ◌+◌, ◌-◌, ◌^◌, ◌<◌, ◌≤◌, List, [], ◌∷◌, ◌++◌, length, get_or, take, drop, codes, Option, Some, None, IfSome, option_map, refl, sym, ap, ap₂, subst, ◌∙◌, arith}
use Rattle.std.specs.Int.{w64, to_le_bytes}
use Rattle.std.proofs.lemmas.List.{drop_all, drop-drop, drop-take, length-append, length-drop, take_all, take-append-drop, take-append-le, take-take}
use Rattle.us_output.specs.declared.rows.Grant.{Grant}
use Rattle.us_output.specs.declared.rows.Row.{Row}
use Rattle.us_output.specs.declared.rows.Row.TheVariants as rows
use Rattle.us_reports.specs.declared.report_fronts.Front.{Front}
use Rattle.us_reports.specs.Fronts.{Covers, Remembers, front_text}
use Rattle.us_reports.specs.ReportReaders.{HasLineFeed, after, field_at, tail_at, row_at}
use Rattle.us_reports.proofs.ReportLineLemmas.{front_read, front_stands}
use Rattle.us_reports.proofs.ReportReaderLemmas.{field_found}
use Rattle.us_reports.proofs.ReportPlaceLemmas.{feed_drop, feed_within}

-- a text stands in front of others that begin with its first bytes, and have its last 8 where it has them
stands : (xs text : List ℕ) (near head : ℕ) → near ≤ head → take head xs ≡ take head text →
    take 8 (drop near xs) ≡ drop near text → xs ≡ text ++ drop (near + 8) xs
stands xs text zero head low first last = sym (take-append-drop 8 xs) ∙ ap (λ front. front ++ drop 8 xs) last
stands xs text (suc near) zero low first last = absurd (omega (arith, low))
stands [] [] (suc near) (suc head) low first last = sym (drop_all (suc near + 8) [] (omega arith))
stands [] (t ∷ text) (suc near) (suc head) low first last = absurd (cc first)
stands (x ∷ xs) [] (suc near) (suc head) low first last = absurd (cc first)
stands (x ∷ xs) (t ∷ text) (suc near) (suc head) low first last =
    let same : x ≡ t = ap (λ bytes. get_or bytes 0 0) first in
    let later : take head xs ≡ take head text = ap (drop 1) first in
    let place : suc (near + 8) ≡ suc near + 8 = omega arith in
    ap₂ (λ byte more. byte ∷ more) same (stands xs text near head (omega (arith, low)) later last)
    ∙ ap (λ at. t ∷ (text ++ drop at (x ∷ xs))) place

-- so does what two numbers cover
pub covered : (front : Front) (bytes text : List ℕ) (from first last : ℕ) → Covers front text →
    to_le_bytes w64 first ≡ take 8 (drop from bytes) → to_le_bytes w64 last ≡ take 8 (drop (from + front.last_at) bytes) →
    first ≡ front.first → last ≡ front.last → drop from bytes ≡ text ++ drop (from + front.last_at + 8) bytes
covered front bytes text from first last covers is_first is_last same_first same_last =
    stands (drop from bytes) text front.last_at 8 covers.near
    (sym is_first ∙ ap (to_le_bytes w64) same_first ∙ covers.first)
    (ap (take 8) (drop-drop front.last_at from bytes) ∙ sym is_last ∙ ap (to_le_bytes w64) same_last ∙ covers.last)
    ∙ ap (λ more. text ++ more)
    (drop-drop (front.last_at + 8) from bytes ∙ ap (λ at. drop at bytes) (place from front.last_at))
  where
    place : (from near : ℕ) → from + (near + 8) ≡ from + near + 8
    place from near = omega arith

-- the first 8 bytes and the last 8 of what stands between two places cover it
pub covering : (front : Front) (bytes : List ℕ) (from to : ℕ) → front.last_at ≤ 8 → to - from ≡ front.last_at + 8 →
    to_le_bytes w64 front.first ≡ take 8 (drop from bytes) →
    to_le_bytes w64 front.last ≡ take 8 (drop (from + front.last_at) bytes) → Covers front (take (to - from) (drop from bytes))
covering front bytes from to near len first last = record {
  near = near;
  first = first ∙ sym (take-take 8 (to - from) (drop from bytes) (omega (arith, len)));
  last = last ∙ ap (take 8) (sym (drop-drop front.last_at from bytes))
      ∙ sym (drop-take front.last_at 8 (drop from bytes))
      ∙ ap (λ n. drop front.last_at (take n (drop from bytes))) (sym len);
}

-- A G line and its front.

pub front_here : (bytes : List ℕ) (from a b at round channel : ℕ) → HasLineFeed bytes from → HasLineFeed bytes at →
    get_or bytes from 0 ≡ 71 → Some (round, drop a bytes) ≡ field_at (drop (from + 1) bytes) →
    Some (channel, drop b bytes) ≡ field_at (drop a bytes) → Some (drop at bytes) ≡ after (codes ",") (drop b bytes) →
    (from ≤ at) × (round < 2 ^ 64) × (channel < 2 ^ 64)
    × (take (at - from) (drop from bytes) ≡ front_text round channel)
front_here bytes from a b at round channel feed behind letter first second comma =
    let text : List ℕ = front_text round channel in
    let here : drop from bytes ≡ text ++ drop at bytes =
    feed_drop bytes from feed ∙ ap (λ byte. byte ∷ drop (from + 1) bytes) letter
    ∙ front_stands (drop (from + 1) bytes) (round, drop a bytes) (channel, drop b bytes) (drop at bytes) (sym first)
    (sym second) (sym comma) in
    let lengths : length bytes - from ≡ length text + (length bytes - at) =
    sym (length-drop from bytes) ∙ ap length here ∙ length-append text (drop at bytes)
    ∙ ap (λ left. length text + left) (length-drop at bytes) in
    let place : at ≡ from + length text = omega (arith, lengths, feed_within bytes from feed, feed_within bytes at behind) in
    let long : at - from ≡ length text = omega (arith, place) in (
      omega (arith, place),
      (field_found (drop (from + 1) bytes) (round, drop a bytes) (sym first)).0,
      (field_found (drop a bytes) (channel, drop b bytes) (sym second)).0,
      ap (take (at - from)) here ∙ take-append-le (at - from) text (drop at bytes) (omega (arith, long))
          ∙ take_all (at - from) text (omega (arith, long)),
    )

pub remembered : (front : Option Front) (grant : Grant) (round channel : ℕ) (text : List ℕ) →
    IfSome front (λ front. Covers front text) → round < 2 ^ 64 → channel < 2 ^ 64 → text ≡ front_text round channel →
    grant.round ≡ round → grant.channel ≡ channel → Remembers front (rows.Granted grant)
remembered None grant round channel text covers round_fits channel_fits same is_round is_channel = tt
remembered (Some front) grant round channel text covers round_fits channel_fits same is_round is_channel =
    rw (is_round, is_channel) (round_fits, channel_fits, subst (Covers front) same covers)

-- what is read behind the front of a G line is read of that line
pub granted : (bytes : List ℕ) (from at round channel : ℕ) (grant : Grant) (result : Option ℕ) →
    drop from bytes ≡ front_text round channel ++ drop at bytes → round < 2 ^ 64 → channel < 2 ^ 64 →
    option_map (λ next. (grant, drop next bytes)) result ≡ tail_at round channel (drop at bytes) →
    option_map (λ next. (rows.Granted grant, drop next bytes)) result ≡ row_at (drop from bytes)
granted bytes from at round channel grant result here round_fits channel_fits told =
    of_row result
    ∙ ap (λ tail. option_map {T = Grant × List ℕ} {U = Row × List ℕ} (λ told. (rows.Granted told.0, told.1)) tail) told
    ∙ sym (front_read (drop from bytes) round channel (drop at bytes) here round_fits channel_fits)
  where
    of_row : (result : Option ℕ) →
        ◌≡◌ {A = Option (Row × List ℕ)} (option_map {T = ℕ} {U = Row × List ℕ} (λ next. (rows.Granted grant, drop next bytes)) result)
        (option_map {T = Grant × List ℕ} {U = Row × List ℕ} (λ told. (rows.Granted told.0, told.1))
        (option_map {T = ℕ} {U = Grant × List ℕ} (λ next. (grant, drop next bytes)) result))
    of_row None = refl
    of_row (Some next) = refl
