-- The table of numbers below 1,000, and numbers of more digits.
use Rattle.std.proofs.Common.{◌≡◌, ℕ, zero, suc, ◌+◌, ◌*◌, ◌/◌, ◌%◌, ◌<◌, ◌≤◌, List, [], ◌∷◌, ◌++◌, length, take, get_or, flat_map, append_assoc, refl, ap, sym, ◌∙◌, arith}
use Rattle.std.specs.List.{range_with_len}
use Rattle.std.specs.Fmt.{decimal, digits}
use Rattle.std.proofs.lemmas.Fmt.{decimal_nonempty, decimal_step, length-decimal-le}
use Rattle.std.proofs.lemmas.List.{get_or_append_left, get_or-append-add, length-append, length-take-le, take-take, take_at}
use Rattle.us_output.specs.declared.digits.TheConstants.{FIELDS}

-- what the table has of a number: a comma and its digits in four bytes; how many bytes these are; and three digits
abbrev four : ℕ → List ℕ
four n = take 4 ((44 ∷ decimal n) ++ 46 ∷ 46 ∷ [])

abbrev others : ℕ → List ℕ
others n = (1 + length (decimal n)) ∷ (48 + n / 100) ∷ (48 + n % 100 / 10) ∷ (48 + n % 10) ∷ []

abbrev eight : ℕ → List ℕ
eight n = four n ++ others n

all : FIELDS.now ≡ flat_map eight (range_with_len 0 1000)
unfolding digits
all = refl

length-four : (n : ℕ) → n < 1000 → length (four n) ≡ 4
length-four n small =
    length-take-le 4 ((44 ∷ decimal n) ++ 46 ∷ 46 ∷ [])
    (omega (arith, length-append (44 ∷ decimal n) (46 ∷ 46 ∷ []), decimal_nonempty n (omega (arith, small))))

stands : (k a n j : ℕ) → a + k ≤ 1000 → n < k → j < 8 →
    get_or (flat_map eight (range_with_len a k)) (n * 8 + j) 0 ≡ get_or (eight (a + n)) j 0
stands zero a n j below within small = absurd (omega (arith, within))
stands (suc k) a zero j below within small =
    let long : length (eight a) ≡ 8 = omega (arith, length-append (four a) (others a), length-four a (omega (arith, below))) in
    let same : a + 0 ≡ a = omega arith in
    let first : 0 * 8 + j ≡ j = omega arith in
    ap (λ i. get_or (eight a ++ flat_map eight (range_with_len (a + 1) k)) i 0) first ∙
    get_or_append_left (eight a) (flat_map eight (range_with_len (a + 1) k)) 0 j (omega (arith, long, small)) ∙
    ap (λ m. get_or (eight m) j 0) (sym same)
stands (suc k) a (suc n) j below within small =
    let long : length (eight a) ≡ 8 = omega (arith, length-append (four a) (others a), length-four a (omega (arith, below))) in
    let place : suc n * 8 + j ≡ length (eight a) + (n * 8 + j) = omega (arith, long) in
    let number : a + 1 + n ≡ a + suc n = omega arith in
    ap (λ i. get_or (eight a ++ flat_map eight (range_with_len (a + 1) k)) i 0) place ∙
    get_or-append-add (eight a) (flat_map eight (range_with_len (a + 1) k)) (n * 8 + j) 0 ∙
    stands k (a + 1) n j (omega (arith, below)) (omega (arith, within)) small ∙ ap (λ m. get_or (eight m) j 0) number

early : (n j : ℕ) → n < 1000 → j < 4 → get_or FIELDS.now (n * 8 + j) 0 ≡ get_or (four n) j 0
early n j below small =
    let long : length (four n) ≡ 4 = length-four n below in
    let same : 0 + n ≡ n = omega arith in
    rw all (stands 1000 0 n j (omega arith) below (omega (arith, small)) ∙ ap (λ m. get_or (eight m) j 0) same ∙
    get_or_append_left (four n) (others n) 0 j (omega (arith, long, small)))

later : (n j : ℕ) → n < 1000 → j < 4 → get_or FIELDS.now (n * 8 + (4 + j)) 0 ≡ get_or (others n) j 0
later n j below small =
    let long : 4 + j ≡ length (four n) + j = omega (arith, length-four n below) in
    let same : 0 + n ≡ n = omega arith in
    rw all (stands 1000 0 n (4 + j) (omega arith) below (omega (arith, small)) ∙
    ap (λ m. get_or (eight m) (4 + j) 0) same ∙ ap (λ k. get_or (eight n) k 0) long ∙ get_or-append-add (four n) (others n) j 0)

few_digits : (n : ℕ) → n < 1000 → length (decimal n) ≤ 3
few_digits n below = length-decimal-le 3 n (omega arith) (omega (arith, below)) (omega (arith, below))

of_four : (xs : List ℕ) → length xs ≡ 4 → get_or xs 0 0 ∷ get_or xs 1 0 ∷ get_or xs 2 0 ∷ get_or xs 3 0 ∷ [] ≡ xs
of_four (a ∷ b ∷ c ∷ d ∷ []) long = refl
of_four [] long = absurd (omega (arith, long))
of_four (a ∷ []) long = absurd (omega (arith, long))
of_four (a ∷ b ∷ []) long = absurd (omega (arith, long))
of_four (a ∷ b ∷ c ∷ []) long = absurd (omega (arith, long))
of_four (a ∷ b ∷ c ∷ d ∷ e ∷ xs) long = absurd (omega (arith, long))

-- the first bytes of a number are a comma and its digits, behind which it says how many they are
pub field_is : (n : ℕ) → n < 1000 → take (get_or FIELDS.now (n * 8 + 4) 0) (get_or FIELDS.now (n * 8) 0 ∷ get_or FIELDS.now (n * 8 + 1) 0 ∷
    get_or FIELDS.now (n * 8 + 2) 0 ∷ get_or FIELDS.now (n * 8 + 3) 0 ∷ []) ≡ 44 ∷ decimal n
field_is n below =
    let first : n * 8 + 0 ≡ n * 8 = omega arith in
    let text : List ℕ = 44 ∷ decimal n in
    rw (later n 0 below (omega arith), rw first at (early n 0 below (omega arith)), early n 1 below (omega arith), early n 2 below (omega arith), early n 3 below (omega arith), of_four (four n) (length-four n below))
    (take-take (1 + length (decimal n)) 4 (text ++ 46 ∷ 46 ∷ []) (omega (arith, few_digits n below)) ∙ take_at text (46 ∷ 46 ∷ []) (1 + length (decimal n)) (omega arith))

pub count_few : (n : ℕ) → n < 1000 → get_or FIELDS.now (n * 8 + 4) 0 ≤ 4
count_few n below = omega (arith, later n 0 below (omega arith), few_digits n below)

pub three_is : (n : ℕ) → n < 1000 → get_or FIELDS.now (n * 8 + 5) 0 ∷ get_or FIELDS.now (n * 8 + 5 + 1) 0 ∷ get_or FIELDS.now (n * 8 + 5 + 2) 0 ∷ [] ≡
    (48 + n / 100) ∷ (48 + n % 100 / 10) ∷ (48 + n % 10) ∷ []
three_is n below =
    let one : n * 8 + 5 ≡ n * 8 + (4 + 1) = omega arith in
    let two : n * 8 + 5 + 1 ≡ n * 8 + (4 + 2) = omega arith in
    let three : n * 8 + 5 + 2 ≡ n * 8 + (4 + 3) = omega arith in
    rw (one, two, three, later n 1 below (omega arith), later n 2 below (omega arith), later n 3 below (omega arith)) refl

-- a number of more than three digits
pub thousands : (n : ℕ) → 1000 ≤ n → n < 1000000 →
    decimal n ≡ decimal (n / 1000) ++ (48 + n % 1000 / 100) ∷ (48 + n % 1000 % 100 / 10) ∷ (48 + n % 1000 % 10) ∷ []
thousands n low high =
    let hundreds : n / 10 / 10 / 10 ≡ n / 1000 = omega arith in
    let third : n / 10 / 10 % 10 ≡ n % 1000 / 100 = omega arith in
    let second : n / 10 % 10 ≡ n % 1000 % 100 / 10 = omega arith in
    let first : n % 10 ≡ n % 1000 % 10 = omega arith in
    let one : decimal n ≡ decimal (n / 10) ++ ((48 + n % 10) ∷ []) = decimal_step n (omega arith) (omega arith) in
    let two : decimal (n / 10) ≡ decimal (n / 10 / 10) ++ ((48 + n / 10 % 10) ∷ []) =
    decimal_step (n / 10) (omega arith) (omega arith) in
    let three : decimal (n / 10 / 10) ≡ decimal (n / 10 / 10 / 10) ++ ((48 + n / 10 / 10 % 10) ∷ []) =
    decimal_step (n / 10 / 10) (omega arith) (omega arith) in
    rw (one, two, three, hundreds, third, second, first) (simp append_assoc)
