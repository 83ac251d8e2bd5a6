-- Items that are made of channels one after another: those that are made, and the channels that are left.
use Rattle.std.proofs.Common.{◌≡◌, ℕ, zero, suc, ◌+◌, ◌<◌, List, [], ◌∷◌, ◌++◌, map, length, take, drop, Some, slice_get, append_assoc, length-append, append-nil, refl, sym, ap, subst, ◌∙◌, Result, Ok, Err, arith}
use Rattle.std.specs.Prelude.{IfOk}
use Rattle.us_crew.specs.Values.{values_from, values_of}
use Rattle.us_crew.specs.Parts.{EachFrom}
use Rattle.us_crew.proofs.PartLemmas.{values-append, each-append}
use Rattle.us_crew.proofs.PlaceLemmas.{each-at}
use Rattle.us_round.specs.Placing.{AreLaden}

-- what stands at a place of a list, and behind it
pub record Next {X : Type 0} (xs : List X) (k : ℕ) (x : X) (rest : List X) : Type 0 where
  pub below : k < length xs
  pub here : slice_get xs k ≡ Some x
  pub taken : take (k + 1) xs ≡ take k xs ++ x ∷ []
  pub behind : drop (k + 1) xs ≡ rest

pub next-of : {X : Type 0} (xs : List X) (k : ℕ) (x : X) (rest : List X) → drop k xs ≡ x ∷ rest → Next xs k x rest
next-of [] zero x rest h = let no : [] ≡ x ∷ rest = h in cc
next-of [] (suc k) x rest h = let no : [] ≡ x ∷ rest = h in cc
next-of (y ∷ ys) zero x rest h =
    let same : y ≡ x = cc in
    let behind : ys ≡ rest = cc in
    record { below = omega arith; here = ap Some same; taken = ap (λ z. z ∷ []) same; behind = behind }
next-of (y ∷ ys) (suc k) x rest h =
    let later : Next ys k x rest = next-of ys k x rest h in
    let next : suc k + 1 ≡ suc (k + 1) = omega arith in
    record {
      below = omega (arith, later.below);
      here = later.here;
      taken = ap (λ i. take i (y ∷ ys)) next ∙ ap (λ xs. y ∷ xs) later.taken;
      behind = ap (λ i. drop i (y ∷ ys)) next ∙ later.behind;
    }

module _ {I B Z : Type 0} (value : I → Z) (can : I → Type 0) (value_at : ℕ → B → Z) (can_at : ℕ → B → Type 0) where
  -- what is made may be used where that may which it is made of
  abbrev pub Suits : List B → ℕ → I → Type 0
  Suits whole n i = (b : B) × (slice_get whole n ≡ Some b) × (can_at n b → can i)

  -- so many are made: the values of these and of what is left are those of the whole
  pub record AreMadeTo (made : List I) (rest whole : List B) : Type 0 where
    pub values : values_of (λ _ i. value i) made ++ values_from value_at (length made) rest ≡ values_of value_at whole
    pub ready : EachFrom (Suits whole) 0 made
    pub left : drop (length made) whole ≡ rest

  pub none-made : (whole : List B) → AreMadeTo [] whole whole
  none-made whole = record { values = refl; ready = tt; left = refl }

  one-more : (made : List I) (i : I) (b : B) (rest whole : List B) → AreMadeTo made (b ∷ rest) whole →
      value i ≡ value_at (length made) b → (can_at (length made) b → can i) → AreMadeTo (made ++ i ∷ []) rest whole
  one-more made i b rest whole so_far same fits =
      let more : length (made ++ i ∷ []) ≡ length made + 1 = length-append made (i ∷ []) in
      let number : length made ≡ 0 + length made = omega arith in record {
        values =
            ap (λ n. values_of (λ _ i. value i) (made ++ i ∷ []) ++ values_from value_at n rest) more ∙
            ap (λ l. l ++ values_from value_at (length made + 1) rest) (values-append (λ _ i. value i) 0 made (i ∷ [])) ∙
            append_assoc (values_of (λ _ i. value i) made) (value i ∷ []) (values_from value_at (length made + 1) rest) ∙
            ap (λ z. values_of (λ _ i. value i) made ++ z ∷ values_from value_at (length made + 1) rest) same ∙
            so_far.values;
        ready = each-append (Suits whole) 0 made (i ∷ []) so_far.ready
            (subst (λ n. Suits whole n i) number (b, (next-of whole (length made) b rest so_far.left).here, fits), tt);
        left = ap (λ n. drop n whole) more ∙ (next-of whole (length made) b rest so_far.left).behind;
      }

  pub next-made : (made next : List I) (i : I) (b : B) (left rest whole : List B) → next ≡ made ++ i ∷ [] →
      left ≡ b ∷ rest → AreMadeTo made left whole → value i ≡ value_at (length made) b →
      (can_at (length made) b → can i) → AreMadeTo next rest whole
  next-made made next i b left rest whole next_is left_is so_far same fits =
      subst (λ items. AreMadeTo items rest whole) (sym next_is)
      (one-more made i b rest whole (subst (λ bs. AreMadeTo made bs whole) left_is so_far) same fits)

  pub all-made : (made : List I) (whole : List B) → AreMadeTo made [] whole →
      values_of (λ _ i. value i) made ≡ values_of value_at whole
  all-made made whole so_far = sym (append-nil (values_of (λ _ i. value i) made)) ∙ so_far.values

  pub made-ready : (made : List I) (rest whole : List B) → AreMadeTo made rest whole → AreLaden can_at can whole made
  made-ready made rest whole so_far place i is =
      let number : 0 + place ≡ place = omega arith in
      subst (λ n. Suits whole n i) number (each-at (Suits whole) 0 made so_far.ready place i is)

-- the first parts of pairs
abbrev pub firsts_of : {Y Z : Type 0} → List (Y × Z) → List Y
firsts_of {Y} {Z} pairs = map (λ (pair : Y × Z). pair.0) pairs

-- those of pairs of values are values
pub firsts : {T Y Z : Type 0} (value : T → Y) (other : T → Z) (n : ℕ) (items : List T) →
    firsts_of (values_from (λ _ item. (value item, other item)) n items) ≡ values_from (λ _ item. value item) n items
firsts value other n [] = refl
firsts value other n (item ∷ items) = ap (λ l. value item ∷ l) (firsts value other (n + 1) items)

-- one more of them
pub next-first : {Y Z : Type 0} (so_far next : List Y) (y : Y) (z : Z) (left rest whole : List (Y × Z)) →
    next ≡ so_far ++ y ∷ [] → left ≡ (y, z) ∷ rest → so_far ++ firsts_of left ≡ firsts_of whole →
    next ++ firsts_of rest ≡ firsts_of whole
next-first so_far next y z left rest whole next_is left_is is =
    ap (λ l. l ++ firsts_of rest) next_is ∙ append_assoc so_far (y ∷ []) (firsts_of rest)
    ∙ ap (λ l. so_far ++ firsts_of l) (sym left_is) ∙ is
