-- Lines by their start are the same lines; and lines bear their round and channel.
use Rattle.std.proofs.Common.{ℕ, ◌<◌, ◌==◌, Bool, List, [], ◌∷◌, ◌++◌, length, map, IsPermutation, refl, sym, append_assoc, subst, inl, inr}
use Rattle.std.specs.Prelude.{filter, flat_map, not}
use Rattle.std.specs.List.{AllByRecursion, range_with_len}
use Rattle.std.proofs.lemmas.List.{append-nil}
use Rattle.std.proofs.lemmas.Bool.{cases_Bool}
use Rattle.std.proofs.lemmas.List.Sorted.{IsPermutation-refl, IsPermutation-trans, IsPermutation-append_left, IsPermutation-append_right, IsPermutation-to_front}
use Rattle.us_flows.specs.declared.channels.Channel.{Channel}
use Rattle.us_calendar.specs.declared.settled.Settled.{Settled}
use Rattle.us_calendar.specs.declared.settled.Settled.TheVariants as settled
use Rattle.us_channel.specs.Placements.{PlacedClaim}
use Rattle.us_output.specs.declared.rows.Row.{Row}
use Rattle.us_output.specs.Outputs.{start_of, is_granted, settled_row, grant_row, granted_rows, missed_rows, rows_on, in_order}
use Rattle.us_output.specs.OutputLaws.{IsLineOf, ByStartMoves, LinesBearRound}
use Rattle.us_output.proofs.PartLemmas.{all_append}
use Rattle.us_output.proofs.OrderLemmas.{in_order-none, starting, upto, behind, in_parts, one_more}

-- one more line
moved : (len : ℕ) (lines : List Row) (g : Row) → start_of g < len →
    IsPermutation lines (in_order start_of len lines) → IsPermutation (lines ++ g ∷ []) (in_order start_of len (lines ++ g ∷ []))
unfolding in_order
moved len lines g inside so_far =
    let early : List Row = upto start_of lines (start_of g) in
    let later : List Row = behind start_of lines (start_of g) len in
    let parts : IsPermutation lines (early ++ later) =
    subst (λ xs. IsPermutation lines xs) (in_parts start_of lines (start_of g) len inside) so_far in
    let last : IsPermutation (lines ++ g ∷ []) (early ++ (later ++ g ∷ [])) =
    subst (λ xs. IsPermutation (lines ++ g ∷ []) xs) (append_assoc early later (g ∷ []))
    (IsPermutation-append_left (g ∷ []) lines (early ++ later) parts) in
    let front : IsPermutation (early ++ (later ++ g ∷ [])) (early ++ g ∷ later) =
    IsPermutation-append_right early (later ++ g ∷ []) (g ∷ later) (IsPermutation-to_front later g) in
    subst (λ xs. IsPermutation (lines ++ g ∷ []) xs) (sym (one_more start_of lines g len inside))
    (IsPermutation-trans (lines ++ g ∷ []) (early ++ (later ++ g ∷ [])) (early ++ g ∷ later) last front)

all_moved : (len : ℕ) (done rest : List Row) → AllByRecursion (λ line. start_of line < len) rest →
    IsPermutation done (in_order start_of len done) → IsPermutation (done ++ rest) (in_order start_of len (done ++ rest))
all_moved len done [] inside so_far =
    subst (λ xs. IsPermutation xs (in_order start_of len xs)) (sym (append-nil done)) so_far
all_moved len done (g ∷ rest) inside so_far =
    subst (λ xs. IsPermutation xs (in_order start_of len xs)) (append_assoc done (g ∷ []) rest)
    (all_moved len (done ++ g ∷ []) rest inside.1 (moved len done g inside.0 so_far))

pub by_start_moves : ByStartMoves
unfolding in_order
by_start_moves len lines inside =
    all_moved len [] lines inside
    (subst (λ xs. IsPermutation [] xs) (sym (in_order-none start_of len)) (IsPermutation-refl []))

-- What all lines keep, those that pass keep, and those by their start.
all_filtered : (P : Row → Type 0) (passes : Row → Bool) (lines : List Row) → AllByRecursion P lines →
    AllByRecursion P (filter passes lines)
all_filtered P passes [] h = tt
all_filtered P passes (line ∷ lines) h = elim (cases_Bool (passes line)) [
  | inl is ↦ rw is (h.0, all_filtered P passes lines h.1)
  | inr out ↦ rw out (all_filtered P passes lines h.1)
]

all_starting : (P : Row → Type 0) (lines : List Row) (starts : List ℕ) → AllByRecursion P lines →
    AllByRecursion P (flat_map (starting start_of lines) starts)
all_starting P lines [] h = tt
all_starting P lines (start ∷ starts) h =
    all_append P (starting start_of lines start) (flat_map (starting start_of lines) starts)
    (all_filtered P (λ line. start_of line == start) lines h) (all_starting P lines starts h)

all_by_start : (P : Row → Type 0) (len : ℕ) (lines : List Row) → AllByRecursion P lines →
    AllByRecursion P (in_order start_of len lines)
unfolding in_order
all_by_start P len lines h = all_starting P lines (range_with_len 0 len) h

settled_lines : (round : ℕ) (c : Channel) (passes : Settled → Bool) (all : List Settled) →
    AllByRecursion (IsLineOf round c) (map (settled_row round c) (filter passes all))
settled_lines round c passes [] = tt
settled_lines round c passes (one ∷ all) = elim (cases_Bool (passes one)) [
  | inl is ↦ rw is (bears one, settled_lines round c passes all)
  | inr out ↦ rw out (settled_lines round c passes all)
]
  where
    bears : (one : Settled) → IsLineOf round c (settled_row round c one)
    bears (settled.Granted kind id i k start slots owner) = (refl, refl)
    bears (settled.Missed kind id i k) = (refl, refl)

grant_lines : (round : ℕ) (c : Channel) (grants : List PlacedClaim) →
    AllByRecursion (IsLineOf round c) (map (grant_row round c) grants)
grant_lines round c [] = tt
grant_lines round c (g ∷ grants) = ((refl, refl), grant_lines round c grants)

pub lines_bear_round : LinesBearRound
unfolding rows_on
lines_bear_round round built =
    let c : Channel = built.channel in
    all_append (IsLineOf round c) (in_order start_of (length built.board.cells) (granted_rows round built)) (missed_rows round built)
    (all_by_start (IsLineOf round c) (length built.board.cells) (granted_rows round built)
    (all_append (IsLineOf round c) (map (settled_row round c) (filter is_granted built.settled))
    (map (grant_row round c) built.grants)
    (settled_lines round c is_granted built.settled) (grant_lines round c built.grants)))
    (settled_lines round c (λ s. not (is_granted s)) built.settled)
