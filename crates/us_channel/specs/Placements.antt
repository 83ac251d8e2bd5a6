-- Placing (ours): where each claim of the plan is granted on its channel.
use Rattle.std.specs.Prelude.{ℕ, ◌+◌, ◌-◌, ◌==◌, Bool, if◌then◌else◌, List, [], ◌∷◌, ◌++◌, length, map, filter, sum_by, Option, Some, None, option_map, option_and_then, option_to_list}
use Rattle.std.specs.Option.{option_or}
use Rattle.us_slots.specs.Bursts.{ChannelBursts, grant_cost}
use Rattle.us_slots.specs.Capacities.{capacity_of}
use Rattle.us_holes.specs.Boards.{Board, Assignment, is_full, assign, least_fit, longest_idle}
use Rattle.us_split.specs.Claims.{Claimant, Claim}

-- Spots.

-- where a grant starts, and the bytes that it credits
pub record Spot : Type 0 where
  pub start : ℕ
  pub credit : ℕ

-- the earliest start where the whole share fits
abbrev pub whole_spot : ChannelBursts → ℕ → ℕ → Board → Option Spot
whole_spot bursts header share board =
    option_map (λ start. record { start = start; credit = share })
    (least_fit board 0 (length board.cells - 1) (grant_cost bursts (share + header)).0)

-- what an idle run carries behind the header, if that is a byte at least
abbrev pub carried : ChannelBursts → ℕ → ℕ × ℕ → Option Spot
carried bursts header run =
    let credit : ℕ = capacity_of bursts.time bursts.long run.1 - header in
    if credit == 0 then None else Some (record { start = run.0; credit = credit })

-- the start of the first longest idle run with what that carries
abbrev pub part_spot : ChannelBursts → ℕ → Board → Option Spot
part_spot bursts header board = option_and_then (carried bursts header) (longest_idle board.cells)

-- the spot of a share: the earliest fit, else a part of it; none where the MAP has all assignments that it may have
unfoldable pub spot : ChannelBursts → ℕ → ℕ → Board → Option Spot
spot bursts header share board =
    if is_full board then None
    else option_or (whole_spot bursts header share board) (part_spot bursts header board)

-- Grants.

-- a claim that was placed: its minislots and owner, and the bytes that it credits, without the header
pub record PlacedClaim : Type 0 where
  pub claimant : Claimant
  pub assignment : Assignment
  pub credit : ℕ

-- the grant of a claim at a spot
abbrev pub grant_at : ChannelBursts → Claim → Spot → PlacedClaim
grant_at bursts claim found =
    let cost : ℕ × ℕ = grant_cost bursts (found.credit + claim.header) in
    record {
      claimant = claim.claimant;
      assignment = record { start = found.start; slots = cost.0; owner = record { sid = claim.sid; iuc = cost.1 } };
      credit = found.credit;
    }

-- what a claim is granted on a board
abbrev pub grant_of : ChannelBursts → Board → Claim → Option PlacedClaim
grant_of bursts board claim = option_map (grant_at bursts claim) (spot bursts claim.header claim.share board)

-- a board with one more grant
abbrev pub with_grant : Board → Option PlacedClaim → Board
with_grant board None = board
with_grant board (Some g) = assign board g.assignment.start g.assignment.slots g.assignment.owner

-- what all claims of a channel are granted, one after another
unfoldable pub grants_of : ChannelBursts → Board → List Claim → List PlacedClaim
grants_of bursts board [] = []
grants_of bursts board (claim ∷ rest) =
    let found : Option PlacedClaim = grant_of bursts board claim in
    option_to_list found ++ grants_of bursts (with_grant board found) rest

-- the assignments of grants
abbrev pub assignments : List PlacedClaim → List Assignment
assignments grants = map (λ g. g.assignment) grants

-- the bytes that grants credit, of those that pass
abbrev pub credits : (PlacedClaim → Bool) → List PlacedClaim → ℕ
credits passes grants = sum_by (λ g. g.credit) (filter passes grants)
