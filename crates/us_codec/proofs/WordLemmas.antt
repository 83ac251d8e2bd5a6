-- Elements and their bytes: each gives the other.
use Rattle.std.proofs.Common.{◌≡◌, ℕ, zero, suc, ◌+◌, ◌*◌, ◌/◌, ◌%◌, ◌^◌, ◌<◌, List, [], ◌∷◌, ◌++◌, length, get_or, refl, ap, ◌∙◌, arith}
use Rattle.std.specs.List.{AllByRecursion}
use Rattle.std.specs.Int.{to_be_bytes, from_be_bytes, w16, w32}
use Rattle.std.proofs.lemmas.Nat.{be_bytes_4, from_be_bytes-to_be_bytes_4}
use Rattle.us_codec.specs.Elements.{MapElement, IsMapElement, word_of, element_of}
use Rattle.us_codec.specs.Bodies.{element_bytes}
use Rattle.us_codec.specs.Faults.{elements_at}

abbrev pub AreBytes : List ℕ → Type 0
AreBytes bytes = (i : ℕ) → get_or bytes i 0 < 256

word-of-element : (word : ℕ) → word_of (element_of word) ≡ word
unfolding word_of element_of
word-of-element word = omega arith

word-fits : (e : MapElement) → IsMapElement e → word_of e < 2 ^ 32
unfolding word_of
word-fits e h = omega (arith, h.sid, h.iuc, h.offset)

element-of-word : (e : MapElement) → IsMapElement e → element_of (word_of e) ≡ e
unfolding word_of element_of
element-of-word e h =
    let sid : (e.sid * 2 ^ 18 + e.iuc * 2 ^ 14 + e.offset) / 2 ^ 18 ≡ e.sid =
    omega (arith, h.sid, h.iuc, h.offset) in
    let iuc : (e.sid * 2 ^ 18 + e.iuc * 2 ^ 14 + e.offset) / 2 ^ 14 % 2 ^ 4 ≡ e.iuc =
    omega (arith, h.sid, h.iuc, h.offset) in
    let offset : (e.sid * 2 ^ 18 + e.iuc * 2 ^ 14 + e.offset) % 2 ^ 14 ≡ e.offset =
    omega (arith, h.sid, h.iuc, h.offset) in
    rw (sid, iuc, offset) refl

are-four : (a b c d : ℕ) → a < 256 → b < 256 → c < 256 → d < 256 → AreBytes (a ∷ b ∷ c ∷ d ∷ [])
are-four a b c d ha hb hc hd zero = ha
are-four a b c d ha hb hc hd (suc zero) = hb
are-four a b c d ha hb hc hd (suc (suc zero)) = hc
are-four a b c d ha hb hc hd (suc (suc (suc zero))) = hd
are-four a b c d ha hb hc hd (suc (suc (suc (suc i)))) = omega arith

-- four bytes are those of the number that they spell
pub four-bytes : (a b c d : ℕ) → a < 256 → b < 256 → c < 256 → d < 256 →
    to_be_bytes w32 (from_be_bytes w32 (a ∷ b ∷ c ∷ d ∷ [])) ≡ a ∷ b ∷ c ∷ d ∷ []
four-bytes a b c d ha hb hc hd = be_bytes_4 (a ∷ b ∷ c ∷ d ∷ [])
    (from_be_bytes w32 (a ∷ b ∷ c ∷ d ∷ [])) refl (are-four a b c d ha hb hc hd) refl

pub words-of-elements : (bytes : List ℕ) (count : ℕ) → AreBytes bytes → length bytes ≡ 4 * count →
    element_bytes (elements_at bytes) ≡ bytes
unfolding element_bytes elements_at
words-of-elements [] count h long = refl
words-of-elements (a ∷ []) count h long = absurd (omega arith)
words-of-elements (a ∷ b ∷ []) count h long = absurd (omega arith)
words-of-elements (a ∷ b ∷ c ∷ []) count h long = absurd (omega arith)
words-of-elements (a ∷ b ∷ c ∷ d ∷ rest) zero h long = absurd (omega arith)
words-of-elements (a ∷ b ∷ c ∷ d ∷ rest) (suc count) h long =
    let later : AreBytes rest = λ i. h (suc (suc (suc (suc i)))) in
    let more : element_bytes (elements_at rest) ≡ rest = words-of-elements rest count later (omega arith) in
    ap (λ word. to_be_bytes w32 word ++ element_bytes (elements_at rest))
    (word-of-element (from_be_bytes w32 (a ∷ b ∷ c ∷ d ∷ []))) ∙
    ap (λ four. four ++ element_bytes (elements_at rest)) (four-bytes a b c d (h 0) (h 1) (h 2) (h 3)) ∙
    ap (λ later. a ∷ b ∷ c ∷ d ∷ later) more

pub length-elements : (bytes : List ℕ) (count : ℕ) → length bytes ≡ 4 * count →
    length (elements_at bytes) ≡ count
unfolding elements_at
length-elements [] count long = omega arith
length-elements (a ∷ []) count long = absurd (omega arith)
length-elements (a ∷ b ∷ []) count long = absurd (omega arith)
length-elements (a ∷ b ∷ c ∷ []) count long = absurd (omega arith)
length-elements (a ∷ b ∷ c ∷ d ∷ rest) zero long = absurd (omega arith)
length-elements (a ∷ b ∷ c ∷ d ∷ rest) (suc count) long =
    let more : length (elements_at rest) ≡ count = length-elements rest count (omega arith) in
    omega arith

pub elements-of-element_bytes : (es : List MapElement) → AllByRecursion IsMapElement es →
    elements_at (element_bytes es) ≡ es
unfolding element_bytes elements_at
elements-of-element_bytes [] h = refl
elements-of-element_bytes (e ∷ es) h =
    let more : elements_at (element_bytes es) ≡ es = elements-of-element_bytes es h.1 in
    ap (λ word. element_of word ∷ elements_at (element_bytes es))
    (from_be_bytes-to_be_bytes_4 (word_of e) (word-fits e h.0)) ∙
    ap (λ d. d ∷ elements_at (element_bytes es)) (element-of-word e h.0) ∙
    ap (λ later. e ∷ later) more

pub length-element_bytes : (es : List MapElement) → length (element_bytes es) ≡ 4 * length es
unfolding element_bytes
length-element_bytes [] = refl
length-element_bytes (e ∷ es) = let more : length (element_bytes es) ≡ 4 * length es = length-element_bytes es in omega arith

-- the bytes of an element, a half of two after another
pub halves : (e : MapElement) (high low : ℕ) → IsMapElement e → high ≡ e.sid * 4 + e.iuc / 4 →
    low ≡ e.iuc % 4 * 2 ^ 14 + e.offset → to_be_bytes w32 (word_of e) ≡ to_be_bytes w16 high ++ to_be_bytes w16 low
unfolding word_of
halves e high low h is-high is-low =
    let word : ℕ = e.sid * 2 ^ 18 + e.iuc * 2 ^ 14 + e.offset in
    let first : word / 2 ^ 24 % 256 ≡ high / 256 % 256 = omega (arith, h.sid, h.iuc, h.offset, is-high) in
    let second : word / 2 ^ 16 % 256 ≡ high % 256 = omega (arith, h.sid, h.iuc, h.offset, is-high) in
    let third : word / 256 % 256 ≡ low / 256 % 256 = omega (arith, h.sid, h.iuc, h.offset, is-low) in
    let fourth : word % 256 ≡ low % 256 = omega (arith, h.sid, h.iuc, h.offset, is-low) in
    rw (first, second, third, fourth) refl
