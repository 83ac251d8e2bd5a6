-- The spot of a share, by what a board answers to the whole share.
use Rattle.std.proofs.Common.{◌≡◌, ℕ, ◌+◌, ◌-◌, length, Option, Some, None, refl, ap, sym, ◌∙◌, inl, inr}
use Rattle.std.specs.Prelude.{option_map}
use Rattle.std.proofs.lemmas.Bool.{cases_Bool}
use Rattle.us_slots.specs.Bursts.{ChannelBursts, grant_cost}
use Rattle.us_holes.specs.Boards.{Owner, Board, is_full, least_fit}
use Rattle.us_holes.specs.Placements.{answer_at, placed}
use Rattle.us_holes.specs.declared.placements.Placed.TheVariants as answer
use Rattle.us_split.specs.Claims.{Claim}
use Rattle.us_channel.specs.Placements.{spot, part_spot, grant_at, grant_of}

least_at : (slots start many : ℕ) (found : Option ℕ) → answer_at slots found ≡ answer.At start many →
    (found ≡ Some start) × (many ≡ slots)
least_at slots start many None is = let no : answer.NoRoom ≡ answer.At start many = is in absurd cc
least_at slots start many (Some least) is =
    let same : answer.At least slots ≡ answer.At start many = is in
    let first : least ≡ start = cc in
    (rw first refl, cc)

least_full : (slots : ℕ) (found : Option ℕ) → answer_at slots found ≡ answer.Full → ⊥
least_full slots None is = let no : answer.NoRoom ≡ answer.Full = is in cc
least_full slots (Some least) is = let no : answer.At least slots ≡ answer.Full = is in cc

least_none : (slots : ℕ) (found : Option ℕ) → answer_at slots found ≡ answer.NoRoom → found ≡ None
least_none slots None is = refl
least_none slots (Some least) is = let no : answer.At least slots ≡ answer.NoRoom = is in absurd cc

pub spot_at : (bursts : ChannelBursts) (header share start many : ℕ) (board : Board) →
    placed board 0 (length board.cells - 1) (grant_cost bursts (share + header)).0 ≡ answer.At start many →
    (spot bursts header share board ≡ Some (record { start = start; credit = share }))
    × (many ≡ (grant_cost bursts (share + header)).0)
unfolding spot
spot_at bursts header share start many board is = elim (cases_Bool (is_full board)) [
  | inl full ↦ let no : answer.Full ≡ answer.At start many = rw full at is in absurd cc
  | inr few ↦
      let slots : ℕ = (grant_cost bursts (share + header)).0 in
      let found = least_at slots start many (least_fit board 0 (length board.cells - 1) slots) (rw few at is) in
      (rw (few, found.0) refl, found.1)
]

pub spot_full : (bursts : ChannelBursts) (header share : ℕ) (board : Board) →
    placed board 0 (length board.cells - 1) (grant_cost bursts (share + header)).0 ≡ answer.Full →
    spot bursts header share board ≡ None
unfolding spot
spot_full bursts header share board is = elim (cases_Bool (is_full board)) [
  | inl full ↦ rw full refl
  | inr few ↦
      let slots : ℕ = (grant_cost bursts (share + header)).0 in
      absurd (least_full slots (least_fit board 0 (length board.cells - 1) slots) (rw few at is))
]

pub spot_part : (bursts : ChannelBursts) (header share : ℕ) (board : Board) →
    placed board 0 (length board.cells - 1) (grant_cost bursts (share + header)).0 ≡ answer.NoRoom →
    spot bursts header share board ≡ part_spot bursts header board
unfolding spot
spot_part bursts header share board is = elim (cases_Bool (is_full board)) [
  | inl full ↦ let no : answer.Full ≡ answer.NoRoom = rw full at is in absurd cc
  | inr few ↦
      let slots : ℕ = (grant_cost bursts (share + header)).0 in
      rw (few, least_none slots (least_fit board 0 (length board.cells - 1) slots) (rw few at is)) refl
]

-- What a claim is granted then, by its own minislots and IUC.

-- they are those of its whole share
abbrev pub IsPriced : ChannelBursts → Claim → Type 0
IsPriced bursts claim =
    (claim.slots ≡ (grant_cost bursts (claim.share + claim.header)).0)
    × (claim.iuc ≡ (grant_cost bursts (claim.share + claim.header)).1)

pub granted_at : (bursts : ChannelBursts) (board : Board) (claim : Claim) (start many : ℕ) (owner : Owner) →
    IsPriced bursts claim → owner ≡ record { sid = claim.sid; iuc = claim.iuc } →
    answer.At start many ≡ placed board 0 (length board.cells - 1) claim.slots →
    Some (record {
      claimant = claim.claimant;
      assignment = record { start = start; slots = many; owner = owner };
      credit = claim.share;
    }) ≡ grant_of bursts board claim
granted_at bursts board claim start many owner priced owned is =
    let at : placed board 0 (length board.cells - 1) (grant_cost bursts (claim.share + claim.header)).0 ≡
    answer.At start many = ap (λ slots. placed board 0 (length board.cells - 1) slots) (sym priced.0) ∙ sym is in
    let found = spot_at bursts claim.header claim.share start many board at in
    rw (found.0, found.1, owned, priced.1) refl

pub granted_full : (bursts : ChannelBursts) (board : Board) (claim : Claim) → IsPriced bursts claim →
    answer.Full ≡ placed board 0 (length board.cells - 1) claim.slots → grant_of bursts board claim ≡ None
granted_full bursts board claim priced is =
    let at : placed board 0 (length board.cells - 1) (grant_cost bursts (claim.share + claim.header)).0 ≡ answer.Full =
    ap (λ slots. placed board 0 (length board.cells - 1) slots) (sym priced.0) ∙ sym is in
    rw (spot_full bursts claim.header claim.share board at) refl

pub granted_part : (bursts : ChannelBursts) (board : Board) (claim : Claim) → IsPriced bursts claim →
    answer.NoRoom ≡ placed board 0 (length board.cells - 1) claim.slots →
    option_map (grant_at bursts claim) (part_spot bursts claim.header board) ≡ grant_of bursts board claim
granted_part bursts board claim priced is =
    let at : placed board 0 (length board.cells - 1) (grant_cost bursts (claim.share + claim.header)).0 ≡ answer.NoRoom =
    ap (λ slots. placed board 0 (length board.cells - 1) slots) (sym priced.0) ∙ sym is in
    ap (option_map (grant_at bursts claim)) (sym (spot_part bursts claim.header claim.share board at))
