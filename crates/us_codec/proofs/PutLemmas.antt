-- What is written, element by element.
use Rattle.std.proofs.Common.{◌≡◌, ℕ, ◌+◌, ◌*◌, ◌<◌, ◌≤◌, List, [], ◌∷◌, ◌++◌, length, take, drop, get_or, append_assoc, append-nil, refl, ap, sym, ◌∙◌, arith}
use Rattle.std.specs.Int.{to_be_bytes, w32}
use Rattle.std.proofs.lemmas.List.{length-append, take_all, take_at, take_more, length-take-le}
use Rattle.std.proofs.lemmas.Slice.{drop-append-drop}
use Rattle.std.proofs.lemmas.Grind.{flat_map-append}
use Rattle.us_codec.specs.Elements.{MapElement, word_of}
use Rattle.us_codec.specs.declared.heads.Head.{Head}
use Rattle.us_codec.specs.Bodies.{MapBody, element_bytes, front, spelling}
use Rattle.us_codec.proofs.WordLemmas.{length-element_bytes}

-- bytes are put behind what is done
put-step : (old out new done bytes : List ℕ) (at next : ℕ) → out ≡ done ++ drop at old → length done ≡ at →
    at + length bytes ≡ next → new ≡ take at out ++ bytes ++ drop (at + length bytes) out →
    new ≡ (done ++ bytes) ++ drop next old
put-step old out new done bytes at next is long behind put =
    let past : drop (at + length bytes) out ≡ drop next old =
    ap (λ bs. drop (at + length bytes) bs) is ∙
    drop-append-drop at old done (at + length bytes) (omega arith) long ∙
    ap (λ n. drop n old) behind in
    let front : take at out ≡ done = ap (λ bs. take at bs) is ∙ take_at done (drop at old) at long in
    put ∙ ap (λ bs. bs ++ bytes ++ drop (at + length bytes) out) front ∙ ap (λ rest. done ++ bytes ++ rest) past

words-more : (es : List MapElement) (i : ℕ) (d : MapElement) → i < length es →
    element_bytes (take (i + 1) es) ≡ element_bytes (take i es) ++ to_be_bytes w32 (word_of (get_or es i d))
unfolding element_bytes
words-more es i d h =
    ap (λ more. element_bytes more) (take_more es i d h) ∙
    flat_map-append (λ e. to_be_bytes w32 (word_of e)) (take i es) (get_or es i d ∷ [])

length-front : (h : Head) (count : ℕ) → length h.backoffs ≡ 4 → length (front h count) ≡ 16
unfolding front
length-front h count four = omega (arith, four)

-- the four parts of the front were put
pub front_is : (h : Head) (count : ℕ) (old one two three new a b c d : List ℕ) → length h.backoffs ≡ 4 →
    a ≡ h.channel ∷ h.ucd_count ∷ count ∷ 0 ∷ [] → b ≡ to_be_bytes w32 h.alloc_start →
    c ≡ to_be_bytes w32 h.ack → d ≡ h.backoffs →
    one ≡ take 0 old ++ a ++ drop (0 + length a) old → two ≡ take 4 one ++ b ++ drop (4 + length b) one →
    three ≡ take 8 two ++ c ++ drop (8 + length c) two →
    new ≡ take 12 three ++ d ++ drop (12 + length d) three →
    new ≡ front h count ++ drop 16 old
unfolding front
front_is h count old one two three new a b c d four is-a is-b is-c is-d put-a put-b put-c put-d =
    let long-a : length a ≡ 4 = ap (λ bs. length bs) is-a in
    let long-b : length b ≡ 4 = ap (λ bs. length bs) is-b in
    let long-c : length c ≡ 4 = ap (λ bs. length bs) is-c in
    let long-d : length d ≡ 4 = ap (λ bs. length bs) is-d ∙ four in
    let first : one ≡ a ++ drop 4 old = put-step old old one [] a 0 4 refl refl (omega (arith, long-a)) put-a in
    let second : two ≡ (a ++ b) ++ drop 8 old =
    put-step old one two a b 4 8 first long-a (omega (arith, long-b)) put-b in
    let long-ab : length (a ++ b) ≡ 8 = omega (arith, length-append a b, long-a, long-b) in
    let third : three ≡ (a ++ b ++ c) ++ drop 12 old =
    put-step old two three (a ++ b) c 8 12 second long-ab (omega (arith, long-c)) put-c in
    let long-abc : length (a ++ b ++ c) ≡ 12 = omega (arith, length-append (a ++ b) c, long-ab, long-c) in
    let last : new ≡ (a ++ b ++ c ++ d) ++ drop 16 old =
    put-step old three new (a ++ b ++ c) d 12 16 third long-abc (omega (arith, long-d)) put-d in
    last ∙ rw (is-a, is-b, is-c, is-d) refl

-- no element was put yet
pub front-put : (h m : Head) (count : ℕ) (old new : List ℕ) → h ≡ m → new ≡ front h count ++ drop 16 old →
    new ≡ (front m count ++ element_bytes []) ++ drop 16 old
unfolding element_bytes
front-put h m count old new same put =
    put ∙ ap (λ head. front head count ++ drop 16 old) same ∙
    ap (λ done. done ++ drop 16 old) (sym (append-nil (front m count)))

-- an element was put behind those before it
pub element-put : (h : Head) (es : List MapElement) (i : ℕ) (d : MapElement) (word at : ℕ)
    (bytes old out new : List ℕ) →
    length h.backoffs ≡ 4 → i < length es → at ≡ 16 + 4 * i →
    out ≡ (front h (length es) ++ element_bytes (take i es)) ++ drop at old →
    d ≡ get_or es i d → word ≡ word_of d → bytes ≡ to_be_bytes w32 word →
    new ≡ take at out ++ bytes ++ drop (at + length bytes) out →
    new ≡ (front h (length es) ++ element_bytes (take (i + 1) es)) ++ drop (at + 4) old
element-put h es i d word at bytes old out new four below place written is-d is-word is-bytes put =
    let next : List ℕ = to_be_bytes w32 (word_of (get_or es i d)) in
    let done : List ℕ = front h (length es) ++ element_bytes (take i es) in
    let is : bytes ≡ next = is-bytes ∙ ap (λ w. to_be_bytes w32 w) (is-word ∙ ap (λ e. word_of e) is-d) in
    let some : length (take i es) ≡ i = length-take-le i es (omega arith) in
    let whole : length done ≡ length (front h (length es)) + length (element_bytes (take i es)) =
    length-append (front h (length es)) (element_bytes (take i es)) in
    let long : length done ≡ at =
    omega (arith, whole, length-front h (length es) four, length-element_bytes (take i es), some) in
    put-step old out new done bytes at (at + 4) written long (omega (arith, ap (λ bs. length bs) is)) put ∙
    ap (λ b. (done ++ b) ++ drop (at + 4) old) is ∙
    ap (λ d. d ++ drop (at + 4) old)
    (append_assoc (front h (length es)) (element_bytes (take i es)) next ∙
    ap (λ later. front h (length es) ++ later) (sym (words-more es i d below)))

-- all elements were put
pub all-put : (m : MapBody) (es : List MapElement) (i at : ℕ) (old out : List ℕ) → es ≡ m.elements →
    length es ≤ i →
    out ≡ (front m.head (length es) ++ element_bytes (take i es)) ++ drop at old →
    out ≡ spelling m ++ drop at old
unfolding spelling
all-put m es i at old out is past written =
    written ∙ ap (λ later. (front m.head (length es) ++ element_bytes later) ++ drop at old)
    (take_all i es past) ∙
    ap (λ all. (front m.head (length all) ++ element_bytes all) ++ drop at old) is

pub length-spelling : (m : MapBody) → length m.head.backoffs ≡ 4 →
    length (spelling m) ≡ 16 + 4 * length m.elements
unfolding spelling
length-spelling m four =
    let whole : length (front m.head (length m.elements) ++ element_bytes m.elements) ≡ length (front m.head (length m.elements)) + length (element_bytes m.elements) =
    length-append (front m.head (length m.elements)) (element_bytes m.elements) in
    omega (arith, whole, length-front m.head (length m.elements) four, length-element_bytes m.elements)
