-- The body of a version 1 MAP. The standard's are its bytes, that offsets stand in order and that the Null ends the
-- list at the MAP's length. Ours are that they rise strictly from 0, what stands behind the Null, that the count is of
-- all elements, Reserved 0, and the limit `max_elements`.
use Rattle.std.specs.Prelude.{◌≡◌, ◌≢◌, ℕ, ◌+◌, ◌*◌, ◌^◌, ◌<◌, ◌≤◌, List, [], ◌∷◌, ◌++◌, length, map, flat_map, ⊤}
use Rattle.std.specs.List.{AllByRecursion}
use Rattle.std.specs.Int.{to_be_bytes, w32}
use Rattle.us_slots.specs.UsageCodes as codes
use Rattle.us_codec.specs.declared.heads.Head.{Head}
use Rattle.us_codec.specs.Elements.{MapElement, IsMapElement, word_of, null_at}

-- the most elements of a MAP
abbrev pub max_elements : ℕ
max_elements = 240

-- the most bytes of a body: sixteen before the elements, and four of each
abbrev pub max_body_bytes : ℕ
max_body_bytes = 16 + 4 * max_elements

-- the greatest backoff, as an exponent of 2
abbrev pub max_backoff : ℕ
max_backoff = 15

-- the fields of a head keep to their bytes
pub record IsHead (h : Head) : Type 0 where
  pub channel : h.channel < 2 ^ 8
  pub ucd_count : h.ucd_count < 2 ^ 8
  pub alloc_start : h.alloc_start < 2 ^ 32
  pub ack : h.ack < 2 ^ 32
  pub four : length h.backoffs ≡ 4
  pub backoffs : AllByRecursion (λ backoff. backoff ≤ max_backoff) h.backoffs

-- each number is below the next one
abbrev pub IsRising : List ℕ → Type 0
IsRising [] = ⊤
IsRising (m ∷ []) = ⊤
IsRising (m ∷ n ∷ rest) = (m < n) × IsRising (n ∷ rest)

-- a list of elements: those before the Null, the Null, the pendings
pub record IsElementList (es : List MapElement) : Type 0 where
  pub before : List MapElement
  -- the MAP's length, where the Null stands
  pub len : ℕ
  pub after : List MapElement
  pub joined : es ≡ before ++ null_at len ∷ after
  -- none before the Null has its IUC,
  pub others : AllByRecursion (λ e. e.iuc ≢ codes.null) before
  -- offsets rise strictly up to the Null's,
  pub rising : IsRising (map (λ e. e.offset) before ++ len ∷ [])
  -- and what stands behind it is pending: of another IUC, at the same offset
  pub pending : AllByRecursion (λ e. (e.iuc ≢ codes.null) × (e.offset ≡ len)) after

-- the first offset is 0
abbrev pub StartsAtZero : List MapElement → Type 0
StartsAtZero [] = ⊤
StartsAtZero (e ∷ es) = e.offset ≡ 0

-- a body: a head and all elements, with the Null and the pendings
pub record MapBody : Type 0 where
  pub head : Head
  pub elements : List MapElement

-- a lawful one
pub record IsMapBody (m : MapBody) : Type 0 where
  pub head : IsHead m.head
  pub few : length m.elements ≤ max_elements
  pub fields : AllByRecursion IsMapElement m.elements
  pub list : IsElementList m.elements
  pub first : StartsAtZero m.elements

-- the body of a head, the elements before the Null, the length of the MAP and the pendings
abbrev pub body_of : Head → List MapElement → ℕ → List MapElement → MapBody
body_of h before len after = record { head = h; elements = before ++ null_at len ∷ after }

-- the bytes of some elements
unfoldable pub element_bytes : List MapElement → List ℕ
element_bytes es = flat_map (λ e. to_be_bytes w32 (word_of e)) es

-- the bytes of what stands before `count` elements
unfoldable pub front : Head → ℕ → List ℕ
front h count =
    (h.channel ∷ h.ucd_count ∷ count ∷ 0 ∷ []) ++ to_be_bytes w32 h.alloc_start ++ to_be_bytes w32 h.ack ++ h.backoffs

-- the one spelling of a MAP body
unfoldable pub spelling : MapBody → List ℕ
spelling m = front m.head (length m.elements) ++ element_bytes m.elements

-- the grammar: these bytes are the body of that MAP
pub record SpellsMap (bytes : List ℕ) (m : MapBody) : Type 0 where
  pub lawful : IsMapBody m
  pub spelled : bytes ≡ spelling m
