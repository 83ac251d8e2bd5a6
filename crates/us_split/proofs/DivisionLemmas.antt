-- Division: what is left over is at most one byte for each channel whose part is below its weight, so all of it is given.
use Rattle.std.proofs.Common.{◌≡◌, ℕ, zero, suc, ◌+◌, ◌-◌, ◌*◌, ◌/◌, ◌%◌, ◌<◌, ◌≤◌, min, List, [], ◌∷◌, ◌++◌, length, map, take, drop, set, get_or, zip, Bool, true, false, ◌==◌, ◌||◌, not, nat_lt, nat_le, if◌then◌else◌, refl, sym, ap, ap₂, ◌∙◌, subst, inl, inr, lt-ltb, le-ltb, ne_eqb, append_assoc, arith}
use Rattle.std.specs.Prelude.{slice_index, sum}
use Rattle.std.specs.List.{AllByRecursion}
use Rattle.std.proofs.Math.Seq.{take-append_seam}
use Rattle.std.proofs.lemmas.Bool.{cases_lt}
use Rattle.std.proofs.lemmas.Nat.{mul-le, mod_below, div-add-mod'}
use Rattle.std.proofs.lemmas.List.{drop_more, length-map, map-append, take_more, take_more_set}
use Rattle.std.proofs.lemmas.List.Sums.{sum_by-append, sum_by-cons, sum_by-le}
use Rattle.std.proofs.lemmas.List.Elements.{All-from_recursion}
use Rattle.us_split.specs.Divisions.{topped_up, divided}

-- a sum of a list with one more in front
pub sum-cons : (x : ℕ) (xs : List ℕ) → sum (x ∷ xs) ≡ x + sum xs
sum-cons x xs = sum_by-cons (λ y. y) x xs

-- and of one whose next number is written
pub sum_more : (xs : List ℕ) (i x : ℕ) → i < length xs → sum (take (i + 1) (set xs i x)) ≡ sum (take i xs) + x
sum_more xs i x lt =
    omega (arith, ap sum (take_more_set xs i x lt), sum_by-append (λ y. y) (take i xs) (x ∷ []), sum-cons x [])

-- steps of `topped_up`

some_left : (left : ℕ) → (suc left == 0) ≡ false
some_left left = ne_eqb (suc left) 0 (λ none. omega (arith, none))

topped-full : (left : ℕ) (p : ℕ × ℕ) (ps : List (ℕ × ℕ)) → p.1 ≤ p.0 →
    topped_up left (p ∷ ps) ≡ p.0 ∷ topped_up left ps
topped-full zero p ps h = refl
topped-full (suc left) p ps h =
    let e : nat_lt p.0 p.1 ≡ false = le-ltb p.0 p.1 h in
    let some : (suc left == 0) ≡ false = some_left left in
    rw (e, some) refl

topped-more : (left : ℕ) (p : ℕ × ℕ) (ps : List (ℕ × ℕ)) → p.0 < p.1 →
    topped_up (suc left) (p ∷ ps) ≡ (p.0 + 1) ∷ topped_up left ps
topped-more left p ps h =
    let e : nat_lt p.0 p.1 ≡ true = lt-ltb p.0 p.1 h in
    let some : (suc left == 0) ≡ false = some_left left in
    let fewer : suc left - 1 ≡ left = omega arith in
    rw (e, some, fewer) refl

-- lengths

pub topped_up-length : (left : ℕ) (ps : List (ℕ × ℕ)) → length (topped_up left ps) ≡ length ps
topped_up-length left [] = refl
topped_up-length left (p ∷ ps) =
    by ((left == 0) || not (nat_lt p.0 p.1)) (topped_up-length left ps) (topped_up-length (left - 1) ps)
  where
    by : (b : Bool) → length (topped_up left ps) ≡ length ps → length (topped_up (left - 1) ps) ≡ length ps →
        length (if b then p.0 ∷ topped_up left ps else (p.0 + 1) ∷ topped_up (left - 1) ps) ≡ suc (length ps)
    by true kept more = ap suc kept
    by false kept more = ap suc more

-- parts within their weights

abbrev pub AreParts : List (ℕ × ℕ) → Type 0
AreParts ps = AllByRecursion (λ p. p.0 ≤ p.1) ps

abbrev pub weights_in : List (ℕ × ℕ) → List ℕ
weights_in ps = map (λ p. p.1) ps

abbrev pub parts_in : List (ℕ × ℕ) → List ℕ
parts_in ps = map (λ p. p.0) ps

-- how many parts are below their weights
abbrev pub below : List (ℕ × ℕ) → ℕ
below [] = 0
below (p ∷ ps) = (if nat_lt p.0 p.1 then 1 else 0) + below ps

pub topped_up-within : (left : ℕ) (ps : List (ℕ × ℕ)) → AreParts ps → (k : ℕ) →
    slice_index (topped_up left ps) k ≤ slice_index (weights_in ps) k
topped_up-within left [] parts k = omega arith
topped_up-within zero (p ∷ ps) parts zero = parts.0
topped_up-within zero (p ∷ ps) parts (suc k) = topped_up-within zero ps parts.1 k
topped_up-within (suc left) (p ∷ ps) parts zero = elim (cases_lt p.0 p.1) [
  | inl lt ↦ rw (topped-more left p ps lt) (omega arith)
  | inr le ↦ rw (topped-full (suc left) p ps le) parts.0
]
topped_up-within (suc left) (p ∷ ps) parts (suc k) = elim (cases_lt p.0 p.1) [
  | inl lt ↦ rw (topped-more left p ps lt) (topped_up-within left ps parts.1 k)
  | inr le ↦ rw (topped-full (suc left) p ps le) (topped_up-within (suc left) ps parts.1 k)
]

pub topped_up-sum : (left : ℕ) (ps : List (ℕ × ℕ)) → left ≤ below ps →
    sum (topped_up left ps) ≡ sum (parts_in ps) + left
topped_up-sum left [] h = omega (arith, h)
topped_up-sum zero (p ∷ ps) h =
    omega (arith, sum-cons p.0 (topped_up 0 ps), sum-cons p.0 (parts_in ps), topped_up-sum zero ps (omega arith))
topped_up-sum (suc left) (p ∷ ps) h = elim (cases_lt p.0 p.1) [
  | inl lt ↦
      let e : nat_lt p.0 p.1 ≡ true = lt-ltb p.0 p.1 lt in
      let room : suc left ≤ 1 + below ps = rw e at h in
      rw (topped-more left p ps lt) (omega (arith, sum-cons (p.0 + 1) (topped_up left ps), sum-cons p.0 (parts_in ps), topped_up-sum left ps (omega arith)))
  | inr le ↦
      let e : nat_lt p.0 p.1 ≡ false = le-ltb p.0 p.1 le in
      let room : suc left ≤ 0 + below ps = rw e at h in
      rw (topped-full (suc left) p ps le) (omega (arith, sum-cons p.0 (topped_up (suc left) ps), sum-cons p.0 (parts_in ps), topped_up-sum (suc left) ps (omega arith)))
]

-- parts by proportion

-- each channel's part and weight
abbrev pub proportions : ℕ → ℕ → List ℕ → List (ℕ × ℕ)
proportions bytes total ws = map (λ w. (bytes * w / total, w)) ws

-- one part: it is within its weight, and either it is all of it, or one byte more would be too much
pub part_bounds : (bytes total w : ℕ) → bytes < total →
    (bytes * w / total * total ≤ bytes * w) × (bytes * w ≤ (bytes * w / total + 1) * total)
part_bounds bytes total w h =
    let some : 0 < total = omega arith in
    let parts : bytes * w / total * total + bytes * w % total ≡ bytes * w = div-add-mod' (bytes * w) total in
    let rest : bytes * w % total < total = mod_below (bytes * w) total some in
    (omega arith, omega arith)

pub part_within : (bytes total w : ℕ) → bytes < total → bytes * w / total ≤ w
part_within bytes total w h = elim (cases_lt w (bytes * w / total)) [
  | inr le ↦ le
  | inl over ↦
      let q : ℕ = bytes * w / total in
      let product : (w + 1) * total ≤ q * total = mul-le (w + 1) total q total (omega arith) (omega arith) in
      let scaled : bytes * w ≤ total * w = mul-le bytes w total w (omega arith) (omega arith) in
      absurd (omega (arith, part_bounds bytes total w h))
]

-- a product of few bytes and a weight has 32 bits
pub few_product : (bytes total w : ℕ) → bytes < total → total < 65536 → w ≤ total → bytes * w < 4294967296
few_product bytes total w below few within =
    let product : bytes * w ≤ 65535 * 65535 = mul-le bytes w 65535 65535 (omega arith) (omega arith) in
    omega arith

pub ruleset few_facts = (few_product, part_within)

pub proportions-parts : (bytes total : ℕ) (ws : List ℕ) → bytes < total → AreParts (proportions bytes total ws)
proportions-parts bytes total [] h = tt
proportions-parts bytes total (w ∷ ws) h = (part_within bytes total w h, proportions-parts bytes total ws h)

pub proportions-weights : (bytes total : ℕ) (ws : List ℕ) → weights_in (proportions bytes total ws) ≡ ws
proportions-weights bytes total [] = refl
proportions-weights bytes total (w ∷ ws) = ap (λ xs. w ∷ xs) (proportions-weights bytes total ws)

-- a part that is not below its weight is the weight, which is 0
full_part : (bytes total w : ℕ) → bytes < total → w ≤ bytes * w / total → w ≡ 0
full_part bytes total w h full = elim (cases_lt 0 w) [
  | inr none ↦ omega arith
  | inl some ↦
      let q : ℕ = bytes * w / total in
      let product : w * total ≤ q * total = mul-le w total q total full (omega arith) in
      let scaled : (bytes + 1) * w ≤ total * w = mul-le (bytes + 1) w total w (omega arith) (omega arith) in
      absurd (omega (arith, part_bounds bytes total w h))
]

pub proportions-bounds : (bytes total : ℕ) (ws : List ℕ) → bytes < total →
    (sum (parts_in (proportions bytes total ws)) * total ≤ bytes * sum ws) ×
    (bytes * sum ws ≤ (sum (parts_in (proportions bytes total ws)) + below (proportions bytes total ws)) * total)
proportions-bounds bytes total [] h = (omega arith, omega arith)
proportions-bounds bytes total (w ∷ ws) h =
    let q : ℕ = bytes * w / total in
    let more = proportions-bounds bytes total ws h in
    let parts : sum (q ∷ parts_in (proportions bytes total ws)) ≡ q + sum (parts_in (proportions bytes total ws)) = sum-cons q (parts_in (proportions bytes total ws)) in
    let all : sum (w ∷ ws) ≡ w + sum ws = sum-cons w ws in
    rw (parts, all) (elim (cases_lt q w) [
      | inl lt ↦
          let e : nat_lt q w ≡ true = lt-ltb q w lt in
          rw e (omega (arith, part_bounds bytes total w h, more), omega (arith, part_bounds bytes total w h, more))
      | inr le ↦
          let e : nat_lt q w ≡ false = le-ltb q w le in
          let none : w ≡ 0 = full_part bytes total w h le in
          let product : bytes * w ≡ 0 = rw none (omega arith) in
          rw e (omega (arith, part_bounds bytes total w h, more), omega (arith, part_bounds bytes total w h, more))
    ])

-- What is left over of the bytes is no more than the channels below their weights, and no part is given twice.
pub left_over-fits : (bytes : ℕ) (ws : List ℕ) → bytes < sum ws →
    (sum (parts_in (proportions bytes (sum ws) ws)) ≤ bytes) ×
    (bytes - sum (parts_in (proportions bytes (sum ws) ws)) ≤ below (proportions bytes (sum ws) ws))
left_over-fits bytes ws h =
    let s : ℕ = sum (parts_in (proportions bytes (sum ws) ws)) in
    let b : ℕ = below (proportions bytes (sum ws) ws) in
    let bounds = proportions-bounds bytes (sum ws) ws h in (
      elim (cases_lt bytes s) [
        | inr le ↦ le
        | inl over ↦
            let product : (bytes + 1) * sum ws ≤ s * sum ws = mul-le (bytes + 1) (sum ws) s (sum ws) (omega arith) (omega arith) in
            absurd (omega (arith, bounds))
      ],
      elim (cases_lt (s + b) bytes) [
        | inr le ↦ omega arith
        | inl over ↦
            let product : (s + b + 1) * sum ws ≤ bytes * sum ws = mul-le (s + b + 1) (sum ws) bytes (sum ws) (omega arith) (omega arith) in
            absurd (omega (arith, bounds))
      ],
    )

-- `divided`, in these words

zip_parts : (bytes total : ℕ) (ws : List ℕ) →
    zip (map (λ w. bytes * w / total) ws) ws ≡ proportions bytes total ws
zip_parts bytes total [] = refl
zip_parts bytes total (w ∷ ws) = ap (λ ps. (bytes * w / total, w) ∷ ps) (zip_parts bytes total ws)

parts_of : (bytes total : ℕ) (ws : List ℕ) →
    parts_in (proportions bytes total ws) ≡ map (λ w. bytes * w / total) ws
parts_of bytes total [] = refl
parts_of bytes total (w ∷ ws) = ap (λ qs. (bytes * w / total) ∷ qs) (parts_of bytes total ws)

pub divided-all : (bytes : ℕ) (ws : List ℕ) → sum ws ≤ bytes → divided bytes ws ≡ ws
unfolding divided
divided-all bytes ws h = let e : nat_le (sum ws) bytes ≡ true = grind arith in rw e refl

pub divided-some : (bytes : ℕ) (ws : List ℕ) → bytes < sum ws →
    divided bytes ws ≡ topped_up (bytes - sum (map (λ w. bytes * w / sum ws) ws)) (proportions bytes (sum ws) ws)
unfolding divided
divided-some bytes ws h =
    let e : nat_le (sum ws) bytes ≡ false = grind arith in
    rw (e, zip_parts bytes (sum ws) ws) refl

pub divided-sum : (bytes : ℕ) (ws : List ℕ) → sum (divided bytes ws) ≡ min bytes (sum ws)
divided-sum bytes ws = elim (cases_lt bytes (sum ws)) [
  | inr all ↦ rw (divided-all bytes ws all) (omega arith)
  | inl some ↦
      let s : ℕ = sum (parts_in (proportions bytes (sum ws) ws)) in
      let same : s ≡ sum (map (λ w. bytes * w / sum ws) ws) = ap sum (parts_of bytes (sum ws) ws) in
      let fits = left_over-fits bytes ws some in
      let topped = topped_up-sum (bytes - s) (proportions bytes (sum ws) ws) fits.1 in
      rw (divided-some bytes ws some, ← same) (omega (arith, topped, fits))
]

pub divided-within : (bytes : ℕ) (ws : List ℕ) (k : ℕ) → slice_index (divided bytes ws) k ≤ slice_index ws k
divided-within bytes ws k = elim (cases_lt bytes (sum ws)) [
  | inr all ↦ rw (divided-all bytes ws all) (omega arith)
  | inl some ↦
      let left : ℕ = bytes - sum (map (λ w. bytes * w / sum ws) ws) in
      let ps : List (ℕ × ℕ) = proportions bytes (sum ws) ws in
      let each = topped_up-within left ps (proportions-parts bytes (sum ws) ws some) k in
      rw (divided-some bytes ws some) (omega (arith, each, ap (λ xs. slice_index xs k) (proportions-weights bytes (sum ws) ws)))
]

pub divided-length : (bytes : ℕ) (ws : List ℕ) → length (divided bytes ws) ≡ length ws
divided-length bytes ws = elim (cases_lt bytes (sum ws)) [
  | inr all ↦ rw (divided-all bytes ws all) refl
  | inl some ↦
      rw (divided-some bytes ws some) (topped_up-length (bytes - sum (map (λ w. bytes * w / sum ws) ws)) (proportions bytes (sum ws) ws) ∙ length-map ws (λ w. (bytes * w / sum ws, w)))
]

-- the code's total

pub few_weights : (ws : List ℕ) → length ws ≤ 8 → AllByRecursion (λ w. w ≤ 98304) ws → sum ws ≤ 786432
few_weights ws few each =
    let product : length ws * 98304 ≤ 8 * 98304 = mul-le (length ws) 98304 8 98304 few (omega arith) in
    omega (arith, sum_by-le (λ x. x) 98304 ws (All-from_recursion (λ w. w ≤ 98304) ws each))

pub top_up-divided : (bytes total : ℕ) (ws : List ℕ) → total ≡ sum ws → bytes < total →
    topped_up (bytes - sum (map (λ w. bytes * w / total) ws)) (proportions bytes total ws) ≡ divided bytes ws
top_up-divided bytes total ws is h =
    subst (λ n. topped_up (bytes - sum (map (λ w. bytes * w / n) ws)) (proportions bytes n ws) ≡ divided bytes ws) (sym is) (sym (divided-some bytes ws (omega (arith, is, h))))

-- what is left over, one channel on
pub left_more : (f : ℕ → ℕ) (left i : ℕ) (ws : List ℕ) (d : ℕ) → i < length ws →
    (left - f (get_or ws i d)) - sum (map f (drop (i + 1) ws)) ≡ left - sum (map f (drop i ws))
left_more f left i ws d lt =
    let at : drop i ws ≡ get_or ws i d ∷ drop (i + 1) ws = drop_more ws i d lt in
    let sums : sum (map f (get_or ws i d ∷ drop (i + 1) ws)) ≡ f (get_or ws i d) + sum (map f (drop (i + 1) ws)) = sum-cons (f (get_or ws i d)) (map f (drop (i + 1) ws)) in
    rw (at, sums) (omega arith)

-- and that is enough for it and for those behind it
pub left_enough : (f : ℕ → ℕ) (left i : ℕ) (ws : List ℕ) → i < length ws → sum (map f (drop i ws)) ≤ left →
    (f (get_or ws i 0) ≤ left) × (sum (map f (drop (i + 1) ws)) ≤ left - f (get_or ws i 0))
left_enough f left i ws lt enough =
    let at : drop i ws ≡ get_or ws i 0 ∷ drop (i + 1) ws = drop_more ws i 0 lt in
    let sums : sum (map f (get_or ws i 0 ∷ drop (i + 1) ws)) ≡ f (get_or ws i 0) + sum (map f (drop (i + 1) ws)) = sum-cons (f (get_or ws i 0)) (map f (drop (i + 1) ws)) in
    let there : sum (map f (drop i ws)) ≡ f (get_or ws i 0) + sum (map f (drop (i + 1) ws)) = ap (λ xs. sum (map f xs)) at ∙ sums in
    (omega (arith, there, enough), omega (arith, there, enough))

-- all parts together are no more than the bytes
pub parts-fit : (bytes total : ℕ) (ws : List ℕ) → total ≡ sum ws → bytes < total →
    sum (map (λ w. bytes * w / total) ws) ≤ bytes
parts-fit bytes total ws is h =
    let fits = (left_over-fits bytes ws (omega (arith, is, h))).0 in
    let same : sum (parts_in (proportions bytes (sum ws) ws)) ≡ sum (map (λ w. bytes * w / sum ws) ws) = ap sum (parts_of bytes (sum ws) ws) in
    let there : sum (map (λ w. bytes * w / total) ws) ≡ sum (map (λ w. bytes * w / sum ws) ws) = ap (λ n. sum (map (λ w. bytes * w / n) ws)) is in
    omega (arith, fits, same, there)

-- no byte more, where none is left
pub topped-nothing : (f : ℕ → ℕ) (ws : List ℕ) → topped_up 0 (map (λ w. (f w, w)) ws) ≡ map f ws
topped-nothing f [] = refl
topped-nothing f (w ∷ ws) = ap (λ xs. f w ∷ xs) (topped-nothing f ws)

-- The code's two walks: parts first, and then a byte more for some.

-- one part more
pub parts_more : (f : ℕ → ℕ) (parts ws : List ℕ) (i part : ℕ) → i < length ws → i < length parts →
    take i parts ≡ map f (take i ws) → part ≡ f (get_or ws i 0) →
    take (i + 1) (set parts i part) ≡ map f (take (i + 1) ws)
parts_more f parts ws i part within inside before is =
    take_more_set parts i part inside ∙
    ap₂ (λ xs x. xs ++ x ∷ []) before is ∙
    sym (ap (map f) (take_more ws i 0 within) ∙ map-append f (take i ws) (get_or ws i 0 ∷ []))

-- the part of a channel, and those of the channels after it
pub next_part : (f : ℕ → ℕ) (shares ws : List ℕ) (i : ℕ) → i < length shares → i < length ws →
    drop i shares ≡ map f (drop i ws) →
    (get_or shares i 0 ≡ f (get_or ws i 0)) × (drop (i + 1) shares ≡ map f (drop (i + 1) ws))
next_part f shares ws i inside within are =
    let both : get_or shares i 0 ∷ drop (i + 1) shares ≡ f (get_or ws i 0) ∷ map f (drop (i + 1) ws) =
    sym (drop_more shares i 0 inside) ∙ are ∙ ap (map f) (drop_more ws i 0 within) in
    (cc, cc)

-- a byte more on top of a part
topped_step : (left part w more : ℕ) (rest : List (ℕ × ℕ)) →
    more ≡ (if (left == 0) || not (nat_lt part w) then 0 else 1) →
    topped_up left ((part, w) ∷ rest) ≡ (part + more) ∷ topped_up (left - more) rest
topped_step left part w more rest is = by ((left == 0) || not (nat_lt part w)) is
  where
    by : (b : Bool) → more ≡ (if b then 0 else 1) →
        (if b then part ∷ topped_up left rest else (part + 1) ∷ topped_up (left - 1) rest) ≡
        (part + more) ∷ topped_up (left - more) rest
    by true none =
        let same : part ≡ part + more = omega arith in
        let all : left ≡ left - more = omega arith in
        ap₂ (λ x n. x ∷ topped_up n rest) same all
    by false one = ap (λ n. (part + n) ∷ topped_up (left - n) rest) (sym one)

pub topped_more : (f : ℕ → ℕ) (shares ws all : List ℕ) (left i more : ℕ) → i < length shares → i < length ws →
    drop i shares ≡ map f (drop i ws) →
    more ≡ (if (left == 0) || not (nat_lt (get_or shares i 0) (get_or ws i 0)) then 0 else 1) →
    take i shares ++ topped_up left (map (λ w. (f w, w)) (drop i ws)) ≡ all →
    take (i + 1) (set shares i (get_or shares i 0 + more)) ++ topped_up (left - more) (map (λ w. (f w, w)) (drop (i + 1) ws)) ≡ all
topped_more f shares ws all left i more inside within are is before =
    let w : ℕ = get_or ws i 0 in
    let part : ℕ = get_or shares i 0 in
    let rest : List (ℕ × ℕ) = map (λ w. (f w, w)) (drop (i + 1) ws) in
    let here : part ≡ f w = (next_part f shares ws i inside within are).0 in
    let first : map (λ w. (f w, w)) (drop i ws) ≡ (part, w) ∷ rest =
    ap (map (λ w. (f w, w))) (drop_more ws i 0 within) ∙ ap (λ q. (q, w) ∷ rest) (sym here) in
    ap (λ xs. xs ++ topped_up (left - more) rest) (take_more_set shares i (part + more) inside) ∙
    append_assoc (take i shares) ((part + more) ∷ []) (topped_up (left - more) rest) ∙
    ap (λ xs. take i shares ++ xs) (sym (topped_step left part w more rest is)) ∙
    ap (λ ps. take i shares ++ topped_up left ps) (sym first) ∙ before

-- fewer bytes than all weights are given whole
pub fewer-given : (bytes : ℕ) (ws shares rest : List ℕ) → shares ≡ divided bytes ws → bytes < sum ws →
    bytes ≡ sum (take (length ws) (shares ++ rest))
fewer-given bytes ws shares rest is below =
    let long : length shares ≡ length ws = ap length is ∙ divided-length bytes ws in
    let first : take (length ws) (shares ++ rest) ≡ shares = subst (λ n. take n (shares ++ rest) ≡ shares) long (take-append_seam shares rest) in
    omega (arith, ap sum first, ap sum is, divided-sum bytes ws, below)

pub ruleset division_facts = (few_weights, divided-length)
