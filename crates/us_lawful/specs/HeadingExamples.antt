-- The rule of what each MAP says of itself, at small inputs: the stored run, and the same with one thing changed. It fails at
-- that MAP, and holds at those before it.
use Rattle.std.specs.Prelude.{◌≡◌, ℕ, List, [], ◌∷◌, map, slice_index, IfSome, refl}
use Rattle.std.proofs.Common.{subst, sym, arith}
use Rattle.us_codec.specs.declared.heads.Head.{Head}
use Rattle.us_codec.specs.Elements.{MapElement, null_at}
use Rattle.us_lawful.specs.Runs.{RoundMap, Judged}
use Rattle.us_lawful.specs.Headings.{heading_told, headings_of, HeadingsHold}
use Rattle.us_lawful.specs.Examples.{at, base_map, element, ends, granted_map, quiet_map, steps, stored, told, with_maps}

lawful_headings : map heading_told told.maps ≡ headings_of stored
unfolding steps
lawful_headings = refl

-- the rule holds at the first MAP, and fails at the second
abbrev FailsAtSecond : Judged → Type 0
FailsAtSecond judged = HeadingsHold stored judged (at 0 0 0) × (HeadingsHold stored judged (at 0 0 1) → ⊥)

-- How many there are.

-- without the second MAP
one_missing : FailsAtSecond (record { maps = quiet_map ∷ []; lines = ends 1000 })
unfolding steps
one_missing = (λ _ _. refl, λ holds. subst (λ heading. IfSome heading (λ h. ⊥)) (holds refl refl) tt)

-- with a third one, as a third round would have it
one_too_many :
    let third : RoundMap = base_map 2 (element 16383 1 0 ∷ element 16383 1 150 ∷ []) in
    let judged : Judged = record { maps = quiet_map ∷ granted_map ∷ third ∷ []; lines = told.lines } in
    HeadingsHold stored judged (at 0 0 0) × HeadingsHold stored judged (at 0 0 1)
    × (HeadingsHold stored judged (at 0 0 2) → ⊥)
unfolding steps
one_too_many =
    (λ _ _. refl, λ _ _. refl, λ holds. subst (λ heading. IfSome heading (λ h. ⊥)) (sym (holds refl refl)) tt)

-- What the second one says.

other_round : FailsAtSecond (with_maps quiet_map (record granted_map { round = 7 }))
unfolding steps
other_round = (
  λ _ _. refl,
  λ holds.
      let never : 1 ≡ 7 = subst (λ heading. IfSome heading (λ h. h.round ≡ 7)) (holds refl refl) refl in
      omega (arith, never),
)

-- with another head
abbrev with_head : Head → Judged
with_head head = with_maps quiet_map (record granted_map { body = record granted_map.body { head = head } })

other_channel : FailsAtSecond (with_head (record granted_map.body.head { channel = 2 }))
unfolding steps
other_channel = (
  λ _ _. refl,
  λ holds.
      let never : 1 ≡ 2 = subst (λ heading. IfSome heading (λ h. h.head.channel ≡ 2)) (holds refl refl) refl in
      omega (arith, never),
)

other_ucd_count : FailsAtSecond (with_head (record granted_map.body.head { ucd_count = 1 }))
unfolding steps
other_ucd_count = (
  λ _ _. refl,
  λ holds.
      let never : 0 ≡ 1 = subst (λ heading. IfSome heading (λ h. h.head.ucd_count ≡ 1)) (holds refl refl) refl in
      omega (arith, never),
)

other_alloc_start : FailsAtSecond (with_head (record granted_map.body.head { alloc_start = 161 }))
unfolding steps
other_alloc_start = (
  λ _ _. refl,
  λ holds.
      let never : 160 ≡ 161 = subst (λ heading. IfSome heading (λ h. h.head.alloc_start ≡ 161)) (holds refl refl) refl in
      omega (arith, never),
)

other_ack : FailsAtSecond (with_head (record granted_map.body.head { ack = 81 }))
unfolding steps
other_ack = (
  λ _ _. refl,
  λ holds.
      let never : 80 ≡ 81 = subst (λ heading. IfSome heading (λ h. h.head.ack ≡ 81)) (holds refl refl) refl in
      omega (arith, never),
)

-- Backoffs: the start and the end of ranging, 2 and 6, and those of data, 3 and 8.

abbrev with_backoffs : List ℕ → Judged
with_backoffs backoffs = with_head (record granted_map.body.head { backoffs = backoffs })

-- the backoff at a place is this
abbrev HasBackoff : ℕ → ℕ → Head → Type 0
HasBackoff place backoff head = slice_index head.backoffs place ≡ backoff

other_ranging_start : FailsAtSecond (with_backoffs (3 ∷ 6 ∷ 3 ∷ 8 ∷ []))
unfolding steps
other_ranging_start = (
  λ _ _. refl,
  λ holds.
      let never : 2 ≡ 3 = subst (λ heading. IfSome heading (λ h. HasBackoff 0 3 h.head)) (holds refl refl) refl in
      omega (arith, never),
)

other_ranging_end : FailsAtSecond (with_backoffs (2 ∷ 7 ∷ 3 ∷ 8 ∷ []))
unfolding steps
other_ranging_end = (
  λ _ _. refl,
  λ holds.
      let never : 6 ≡ 7 = subst (λ heading. IfSome heading (λ h. HasBackoff 1 7 h.head)) (holds refl refl) refl in
      omega (arith, never),
)

other_data_start : FailsAtSecond (with_backoffs (2 ∷ 6 ∷ 4 ∷ 8 ∷ []))
unfolding steps
other_data_start = (
  λ _ _. refl,
  λ holds.
      let never : 3 ≡ 4 = subst (λ heading. IfSome heading (λ h. HasBackoff 2 4 h.head)) (holds refl refl) refl in
      omega (arith, never),
)

other_data_end : FailsAtSecond (with_backoffs (2 ∷ 6 ∷ 3 ∷ 9 ∷ []))
unfolding steps
other_data_end = (
  λ _ _. refl,
  λ holds.
      let never : 8 ≡ 9 = subst (λ heading. IfSome heading (λ h. HasBackoff 3 9 h.head)) (holds refl refl) refl in
      omega (arith, never),
)

-- The Null a minislot early, which is the length that is told.
early_null :
    let elements : List MapElement = element 291 10 0 ∷ element 16383 1 32 ∷ element 16383 1 150 ∷ null_at 159 ∷ [] in
    FailsAtSecond (with_maps quiet_map (record granted_map { body = record granted_map.body { elements = elements } }))
unfolding steps
early_null = (
  λ _ _. refl,
  λ holds.
      let never : 160 ≡ 159 =
      subst (λ heading. IfSome heading (λ h. IfSome h.len (λ len. len ≡ 159))) (holds refl refl) refl in
      omega (arith, never),
)
