-- The claims of a plan (ours): what turns may send on each channel, and what it takes there.
use Rattle.std.specs.Prelude.{◌≡◌, ℕ, ◌+◌, ◌^◌, ◌<◌, ◌≤◌, ◌==◌, Bool, ◌&&◌, if◌then◌else◌, List, [], ◌∷◌, ◌++◌, map, find, position, slice_index, Option, Some, None, option_and_then, option_to_list}
use Rattle.std.specs.List.{AllByRecursion}
use Rattle.us_slots.specs.Bursts.{grant_cost}
use Rattle.us_flows.specs.declared.channels.Channel.{Channel}
use Rattle.us_flows.specs.Tables.{Tables, header_bytes}
use Rattle.us_flows.specs.Clusters.{Turn}
use Rattle.us_split.specs.Plans.{Planned, max_burst_bytes}

-- the SID cluster that a claim is of: the number of its word, the place of its flow in the table, the flow's id,
-- and its place in the flow
pub record Claimant : Type 0 where
  pub cluster : ℕ
  pub place : ℕ
  pub flow : ℕ
  pub list : ℕ

abbrev pub claimant_of : Turn → Claimant
claimant_of turn = record {
  cluster = turn.number;
  place = turn.place;
  flow = turn.cluster.flow.id;
  list = turn.cluster.list;
}

-- a share of a turn on a channel, above 0: the place of the turn among all turns and that of the channel among its flow's;
-- the SID there; the bytes of the segment header and of the share; and the minislots and the IUC of a grant of both
pub record Claim : Type 0 where
  pub claimant : Claimant
  pub turn : ℕ
  pub position : ℕ
  pub sid : ℕ
  pub header : ℕ
  pub share : ℕ
  pub slots : ℕ
  pub iuc : ℕ

-- the claim on a channel that has this position among the flow's, of a turn that has this place among all turns, if it has
-- a share there
abbrev pub claim_at : Channel → ℕ → Planned → ℕ → Option Claim
claim_at c place planned position =
    let header : ℕ = header_bytes planned.turn.cluster.flow in
    let share : ℕ = slice_index planned.shares position in
    if share == 0 then None else Some (record {
      claimant = claimant_of planned.turn;
      turn = place;
      position = position;
      sid = slice_index planned.turn.cluster.sids position;
      header = header;
      share = share;
      slots = (grant_cost c.bursts (share + header)).0;
      iuc = (grant_cost c.bursts (share + header)).1;
    })

-- the same, wherever the channel stands among the flow's; none where it isn't one of them
abbrev pub claim_on : Channel → ℕ → Planned → Option Claim
claim_on c place planned =
    option_and_then (claim_at c place planned) (position (λ id. id == c.id) planned.turn.cluster.flow.channels)

-- the claims on a channel in the order of turns, of which the first has this place,
unfoldable pub claims_from : Channel → ℕ → List Planned → List Claim
claims_from c place [] = []
claims_from c place (planned ∷ plan) = option_to_list (claim_on c place planned) ++ claims_from c (place + 1) plan

-- and of a whole plan
abbrev pub claims_on : Channel → List Planned → List Claim
claims_on c plan = claims_from c 0 plan

-- those of each channel, in table order
abbrev pub all_claims : Tables → List Planned → List (List Claim)
all_claims t plan = map (λ c. claims_on c plan) t.channels

-- whether a claim is of the turn at a place, on the flow's channel at a position
abbrev pub is_at : ℕ → ℕ → Claim → Bool
is_at place position claim = (claim.turn == place) && (claim.position == position)

abbrev pub share_or : Option Claim → ℕ → ℕ
share_or None bytes = bytes
share_or (Some claim) bytes = claim.share

-- the share that is claimed for that turn and channel, 0 where there is none
abbrev pub share_of : List (List Claim) → ℕ → ℕ → ℕ
share_of [] place position = 0
share_of (claims ∷ more) place position =
    share_or (find (is_at place position) claims) (share_of more place position)

-- what holds of each claim on a channel: there is a share, and it takes minislots; it is a burst with its header, the SID has
-- 14 bits, and minislots and IUC are those of a grant on the channel
pub record IsClaimOn (c : Channel) (claim : Claim) : Type 0 where
  pub some : 1 ≤ claim.share
  pub minislots : 1 ≤ claim.slots
  pub burst : claim.share + claim.header ≤ max_burst_bytes
  pub sid : claim.sid < 2 ^ 14
  pub slots : claim.slots ≡ (grant_cost c.bursts (claim.share + claim.header)).0
  pub iuc : claim.iuc ≡ (grant_cost c.bursts (claim.share + claim.header)).1

-- and so of all claims on all channels
pub record AreClaims (t : Tables) (plan : List Planned) : Type 0 where
  pub each : AllByRecursion (λ c. AllByRecursion (IsClaimOn c) (claims_on c plan)) t.channels
