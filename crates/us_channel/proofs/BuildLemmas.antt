-- What claims are granted, one after another.
use Rattle.std.proofs.Common.{◌≡◌, ℕ, ◌+◌, ◌<◌, ◌≤◌, ◌++◌, List, [], ◌∷◌, length, drop, get_or, Option, Some, None, refl, ap, sym, ◌∙◌, append_assoc, arith}
use Rattle.std.proofs.lemmas.List.{drop_more, drop_all, append-nil}
use Rattle.std.specs.Prelude.{option_to_list}
use Rattle.us_slots.specs.Bursts.{ChannelBursts}
use Rattle.us_holes.specs.Boards.{Board, assign_all}
use Rattle.us_split.specs.Claims.{Claim}
use Rattle.us_channel.specs.Placements.{PlacedClaim, grant_of, with_grant, grants_of, assignments}

-- a grant's assignment is assigned first
pub assign_step : (board : Board) (found : Option PlacedClaim) (grants : List PlacedClaim) →
    assign_all board (assignments (option_to_list found ++ grants))
    ≡ assign_all (with_grant board found) (assignments grants)
unfolding assign_all
assign_step board None grants = refl
assign_step board (Some g) grants = refl

-- a claim further on, what is granted and what follows stay the same
pub build_more : (b : ChannelBursts) (claims : List Claim) (place : ℕ) (claim : Claim)
    (board new : Board) (grants more all : List PlacedClaim) (end : Board) → place < length claims →
    claim ≡ get_or claims place claim → grants ++ grants_of b board (drop place claims) ≡ all →
    assign_all board (assignments (grants_of b board (drop place claims))) ≡ end →
    more ≡ grants ++ option_to_list (grant_of b board claim) → new ≡ with_grant board (grant_of b board claim) →
    (more ++ grants_of b new (drop (place + 1) claims) ≡ all)
    × (assign_all new (assignments (grants_of b new (drop (place + 1) claims))) ≡ end)
unfolding grants_of
build_more b claims place claim board new grants more all end inside is granted assigned longer placed =
    let rest : drop place claims ≡ claim ∷ drop (place + 1) claims =
    drop_more claims place claim inside ∙ ap (λ first. first ∷ drop (place + 1) claims) (sym is) in
    let found : Option PlacedClaim = grant_of b board claim in
    let later : List PlacedClaim = grants_of b (with_grant board found) (drop (place + 1) claims) in
    let parts : grants_of b board (drop place claims) ≡ option_to_list found ++ later = ap (grants_of b board) rest in (
      rw (longer, placed) (append_assoc grants (option_to_list found) later
          ∙ ap (λ list. grants ++ list) (sym parts) ∙ granted),
      rw placed (sym (assign_step board found later) ∙ ap (λ list. assign_all board (assignments list)) (sym parts)
          ∙ assigned),
    )

-- behind the last claim nothing more is granted
pub build_end : (b : ChannelBursts) (claims : List Claim) (place : ℕ) (board : Board)
    (grants all : List PlacedClaim) (end : Board) → length claims ≤ place →
    grants ++ grants_of b board (drop place claims) ≡ all →
    assign_all board (assignments (grants_of b board (drop place claims))) ≡ end → (grants ≡ all) × (board ≡ end)
unfolding grants_of assign_all
build_end b claims place board grants all end past granted assigned =
    let none : drop place claims ≡ [] = drop_all place claims past in
    (sym (append-nil grants) ∙ rw none at granted, rw none at assigned)

-- without a claim nothing is
pub build_none : (b : ChannelBursts) (claims : List Claim) (board : Board) → length claims ≡ 0 →
    ([] ≡ grants_of b board claims) × (board ≡ assign_all board (assignments (grants_of b board claims)))
unfolding grants_of assign_all
build_none b [] board none = (refl, refl)
build_none b (claim ∷ rest) board none = absurd (omega (arith, none))
