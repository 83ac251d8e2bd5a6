-- Who is pending, by the credits of grants: bytes that stay are bytes of which none is credited.
use Rattle.std.proofs.Common.{◌≡◌, ℕ, zero, suc, ◌+◌, ◌-◌, nat_lt, ◌==◌, ◌&&◌, List, [], ◌∷◌, refl, ap, ap₂, ◌∙◌, arith}
use Rattle.std.specs.Prelude.{filter_map, slice_index, if◌then◌else◌, None}
use Rattle.std.specs.List.{cons_option}
use Rattle.us_flows.specs.Clusters.{Turn}
use Rattle.us_channel.specs.Placements.{PlacedClaim, credits}
use Rattle.us_output.specs.Outputs.{first_sid}
use Rattle.us_output.specs.Leftovers.{still_asking}
use Rattle.us_round.specs.Rounds.{is_of_cluster, uncredited, pending_sid, pending_sids}

-- what is left of a cluster
pub left-index : (grants : List PlacedClaim) (from : ℕ) (before : List ℕ) (n : ℕ) →
    slice_index (uncredited grants from before) n ≡ slice_index before n - credits (is_of_cluster (from + n)) grants
left-index grants from [] n = omega arith
left-index grants from (bytes ∷ more) zero =
    let same : from ≡ from + 0 = omega arith in
    ap (λ k. bytes - credits (is_of_cluster k) grants) same
left-index grants from (bytes ∷ more) (suc n) =
    let same : from + 1 + n ≡ from + suc n = omega arith in
    left-index grants (from + 1) more n ∙ ap (λ k. slice_index more n - credits (is_of_cluster k) grants) same

-- bytes that stay are bytes of which none is credited
stays : (left before credit : ℕ) → left ≡ before - credit →
    (nat_lt 0 left && (left == before)) ≡ (nat_lt 0 left && (credit == 0))
stays left before credit is = grind (arith, is)

same_pending : (grants : List PlacedClaim) (before left : List ℕ) (turn : Turn) → left ≡ uncredited grants 0 before →
    still_asking before left turn ≡ pending_sid grants left turn
same_pending grants before left turn is =
    let own : 0 + turn.number ≡ turn.number = omega arith in
    let now : slice_index left turn.number ≡ slice_index before turn.number - credits (is_of_cluster turn.number) grants =
    ap (λ l. slice_index l turn.number) is ∙ left-index grants 0 before turn.number ∙
    ap (λ k. slice_index before turn.number - credits (is_of_cluster k) grants) own in
    ap (λ b. if b then first_sid turn else None)
    (stays (slice_index left turn.number) (slice_index before turn.number) (credits (is_of_cluster turn.number) grants) now)

-- where credits leave what is left, these are the pendings that are pending
pub same_pendings : (grants : List PlacedClaim) (before left : List ℕ) (turns : List Turn) → left ≡ uncredited grants 0 before →
    filter_map (still_asking before left) turns ≡ pending_sids grants left turns
unfolding pending_sids
same_pendings grants before left [] is = refl
same_pendings grants before left (turn ∷ turns) is =
    ap₂ (λ o more. cons_option o more) (same_pending grants before left turn is) (same_pendings grants before left turns is)
