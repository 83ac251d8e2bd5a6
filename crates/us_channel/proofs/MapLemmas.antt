-- That the MAP of a board is lawful, and keeps its limits.
use Rattle.std.proofs.Common.{◌≡◌, ◌≢◌, ℕ, ◌+◌, ◌*◌, ◌^◌, ◌<◌, ◌≤◌, List, [], ◌∷◌, ◌++◌, length, map, Option, Some, None, refl, ◌∙◌, arith}
use Rattle.std.specs.List.{AllByRecursion}
use Rattle.std.proofs.lemmas.List.{length-append, length-map}
use Rattle.us_slots.specs.UsageCodes as codes
use Rattle.us_codec.specs.declared.heads.Head.{Head}
use Rattle.us_codec.specs.Elements.{MapElement, IsMapElement, null_at}
use Rattle.us_codec.specs.Bodies.{IsHead, IsRising, StartsAtZero, MapBody, IsMapBody, body_of, spelling}
use Rattle.us_codec.proofs.PutLemmas.{length-spelling}
use Rattle.us_flows.specs.declared.channels.Channel.{Channel}
use Rattle.us_flows.proofs.TurnLemmas.{all-append}
use Rattle.us_holes.specs.Boards.{Owner, Holder, Board}
use Rattle.us_holes.specs.Kept.{IsBoard}
use Rattle.us_holes.specs.Runs.{Run, FollowOn, runs_of}
use Rattle.us_channel.specs.Maps.{element_by, run_element, elements_of, pending_element}

-- runs that follow on go forward
follow_forward : (from to : ℕ) (runs : List Run) → FollowOn from to runs → from ≤ to
unfolding FollowOn
follow_forward from to [] h = omega (arith, h)
follow_forward from to (run ∷ runs) h = omega (arith, h.0, follow_forward (run.start + run.len) to runs h.2)

-- so each starts in the MAP
starts_below : (from to : ℕ) (runs : List Run) → FollowOn from to runs → to < 2 ^ 14 →
    AllByRecursion (λ run. run.start < 2 ^ 14) runs
unfolding FollowOn
starts_below from to [] h few = tt
starts_below from to (run ∷ runs) h few = (
  omega (arith, few, h.1, follow_forward (run.start + run.len) to runs h.2),
  starts_below (run.start + run.len) to runs h.2 few,
)

pub follow_starts : (cells : List (Option Holder)) → FollowOn 0 (length cells) (runs_of cells) →
    length cells ≤ 4096 → AllByRecursion (λ run. run.start < 2 ^ 14) (runs_of cells)
follow_starts cells h few = starts_below 0 (length cells) (runs_of cells) h (omega (arith, few))

-- An element stands where its run starts,
element_offset : (c : Channel) (run : Run) → (run_element c run).offset ≡ run.start
element_offset c run = offset_by run.owner
  where
    offset_by : (owner : Option Owner) → (element_by c run.start run.len owner).offset ≡ run.start
    offset_by None = refl
    offset_by (Some owner) = refl

-- so offsets rise strictly up to the end,
rising_to : (c : Channel) (from to : ℕ) (runs : List Run) → FollowOn from to runs →
    IsRising (map (λ e. e.offset) (map (run_element c) runs) ++ to ∷ [])
unfolding FollowOn
rising_to c from to [] h = tt
rising_to c from to (run ∷ []) h = (rw (element_offset c run) (omega (arith, h.1, h.2)), tt)
rising_to c from to (run ∷ next ∷ runs) h = (
  rw (element_offset c run, element_offset c next) (omega (arith, h.1, h.2.0)),
  rising_to c (run.start + run.len) to (next ∷ runs) h.2,
)

-- and the first is the start.
starts_at_zero : (c : Channel) (to : ℕ) (runs : List Run) (rest : List MapElement) → 0 < to →
    FollowOn 0 to runs → StartsAtZero (map (run_element c) runs ++ rest)
unfolding FollowOn
starts_at_zero c to [] rest some h = absurd (omega (arith, some, h))
starts_at_zero c to (run ∷ runs) rest some h = element_offset c run ∙ h.0

-- pendings are elements, of another IUC than the Null's, at the MAP's length
pendings_lawful : (len : ℕ) (sids : List ℕ) → len < 2 ^ 14 → AllByRecursion (λ sid. sid < 2 ^ 14) sids →
    AllByRecursion IsMapElement (map (pending_element len) sids)
    × AllByRecursion (λ e. (e.iuc ≢ codes.null) × (e.offset ≡ len)) (map (pending_element len) sids)
pendings_lawful len [] small h = (tt, tt)
pendings_lawful len (sid ∷ sids) small h =
    let rest = pendings_lawful len sids small h.1 in (
      (record { sid = h.0; iuc = omega arith; offset = small }, rest.0),
      (((λ no. omega (arith, no)), refl), rest.1),
    )

-- The MAP of a head, of runs that follow on, and of pendings is a lawful body.
lawful_map : (h : Head) (c : Channel) (runs : List Run) (len : ℕ) (sids : List ℕ) →
    IsHead h → 0 < len → len ≤ 4096 → FollowOn 0 len runs → length runs ≤ 201 → length sids ≤ 38 →
    AllByRecursion (λ sid. sid < 2 ^ 14) sids →
    AllByRecursion (λ e. e.iuc ≢ codes.null) (map (run_element c) runs) →
    AllByRecursion IsMapElement (map (run_element c) runs) →
    IsMapBody (body_of h (map (run_element c) runs) len (map (pending_element len) sids))
lawful_map h c runs len sids head some most follow few_runs few_sids bits others fields =
    let before : List MapElement = map (run_element c) runs in
    let after : List MapElement = map (pending_element len) sids in
    let small : len < 2 ^ 14 = omega (arith, most) in
    let pending = pendings_lawful len sids small bits in
    record {
      head = head;
      few = rw (length-append before (null_at len ∷ after), length-map runs (run_element c), length-map sids (pending_element len)) (omega (arith, few_runs, few_sids));
      fields = all-append IsMapElement before (null_at len ∷ after) fields
          (record { sid = omega arith; iuc = omega arith; offset = small }, pending.0);
      list = record {
        before = before;
        len = len;
        after = after;
        joined = refl;
        others = others;
        rising = rising_to c 0 len runs follow;
        pending = pending.1;
      };
      first = starts_at_zero c len runs (null_at len ∷ after) some follow;
    }

-- the same of a board, its elements and its pendings
pub board_map : (h : Head) (c : Channel) (board : Board) (len : ℕ) (sids : List ℕ)
    (elements pendings : List MapElement) →
    IsHead h → IsBoard board → length board.cells ≡ len → FollowOn 0 (length board.cells) (runs_of board.cells) →
    length (runs_of board.cells) ≤ 2 * board.standing + 1 → length sids ≤ 38 →
    AllByRecursion (λ sid. sid < 2 ^ 14) sids → elements ≡ elements_of c board →
    pendings ≡ map (pending_element len) sids →
    AllByRecursion (λ e. e.iuc ≢ codes.null) elements → AllByRecursion IsMapElement elements →
    IsMapBody (body_of h elements len pendings)
unfolding elements_of
board_map h c board len sids elements pendings head is long follow few few_sids bits same same_pendings others fields =
    let some : 0 < len = omega (arith, is.some, long) in
    let most : len ≤ 4096 = omega (arith, is.most, long) in
    let few_runs : length (runs_of board.cells) ≤ 201 = omega (arith, few, is.standing) in
    let follow_len : FollowOn 0 len (runs_of board.cells) = rw long at follow in
    rw (same, same_pendings) (lawful_map h c (runs_of board.cells) len sids head some most
    follow_len few_runs few_sids bits (rw same at others) (rw same at fields))

-- a lawful body is at most 976 bytes
pub few_bytes : (m : MapBody) → IsMapBody m → length (spelling m) ≤ 976
few_bytes m is = omega (arith, length-spelling m is.head.four, is.few)
