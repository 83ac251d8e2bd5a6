-- Laws of one channel in a round: what its board has, and whose its grants are.
use Rattle.std.specs.Prelude.{◌≡◌, ℕ, ◌+◌, ◌-◌, ◌%◌, ◌≤◌, ◌==◌, ◌⊎◌, ⊤, Bool, if◌then◌else◌, List, [], ◌∷◌, ◌++◌, flat_map}
use Rattle.std.specs.List.{AllByRecursion}
use Rattle.us_slots.specs.UsageCodes as codes
use Rattle.us_slots.specs.Bursts.{ChannelBursts, IsChannelBursts, grant_cost}
use Rattle.us_flows.specs.declared.channels.Channel.{Channel}
use Rattle.us_flows.specs.Lawful.{IsChannel}
use Rattle.us_flows.specs.Tables.{Tables, map_len}
use Rattle.us_holes.specs.Boards.{Board, Assignment, empty_board, assign_all, AllFit}
use Rattle.us_calendar.specs.Calendars.{Calendar}
use Rattle.us_calendar.specs.Entries.{Entry, slots_of}
use Rattle.us_calendar.specs.Runs.{assignments_of}
use Rattle.us_split.specs.Claims.{Claim}
use Rattle.us_channel.specs.Reserves.{broadcast, reserves}
use Rattle.us_channel.specs.Placements.{PlacedClaim, grants_of, assignments}
use Rattle.us_channel.specs.Channels.{Built, fill, build_on}

-- Grants.

-- Each grant of a channel fits where it is placed, after those before it, whatever is claimed.
abbrev pub GrantsFit : Type 0
GrantsFit = (bursts : ChannelBursts) (board : Board) (claims : List Claim) →
    AllFit board (assignments (grants_of bursts board claims))

-- the grant of a claim: of the same cluster, for a part of its share, at the cost of this part with the header
pub record IsGrantFor (bursts : ChannelBursts) (claim : Claim) (g : PlacedClaim) : Type 0 where
  pub claimant : g.claimant ≡ claim.claimant
  pub sid : g.assignment.owner.sid ≡ claim.sid
  pub some : 1 ≤ g.credit
  pub few : g.credit ≤ claim.share
  pub cost : (g.assignment.slots, g.assignment.owner.iuc) ≡ grant_cost bursts (g.credit + claim.header)
  pub minislots : 1 ≤ g.assignment.slots

-- grants in the order of the claims: each claim in turn has the first grant, or none
unfoldable pub AreGrantsFor : ChannelBursts → List Claim → List PlacedClaim → Type 0
AreGrantsFor bursts [] [] = ⊤
AreGrantsFor bursts [] (g ∷ grants) = ⊥
AreGrantsFor bursts (claim ∷ claims) [] = ⊤
AreGrantsFor bursts (claim ∷ claims) (g ∷ grants) =
    (IsGrantFor bursts claim g × AreGrantsFor bursts claims grants) ⊎ AreGrantsFor bursts claims (g ∷ grants)

-- each claims a byte at least
abbrev pub AreShares : List Claim → Type 0
AreShares claims = AllByRecursion (λ claim. 1 ≤ claim.share) claims

-- Grants are of claims, in their order, and no claim has two.
abbrev pub GrantsAreOfClaims : Type 0
GrantsAreOfClaims = (bursts : ChannelBursts) (board : Board) (claims : List Claim) → IsChannelBursts bursts →
    AreShares claims → AreGrantsFor bursts claims (grants_of bursts board claims)

-- Boards.

-- a board of so many minislots with these assignments and no others, of which each fitted where it was placed
pub record IsMadeOf (placed : List Assignment) (len : ℕ) (board : Board) : Type 0 where
  pub all : board ≡ assign_all (empty_board len) placed
  pub fit : AllFit (empty_board len) placed

-- so many minislots for all modems, if there are any
abbrev pub reserve : ℕ → ℕ → ℕ → List Assignment
reserve start slots iuc = if slots == 0 then []
    else record { start = start; slots = slots; owner = record { sid = broadcast; iuc = iuc } } ∷ []

-- both reserves of a MAP of `len` minislots
abbrev pub reserve_assignments : Channel → ℕ → ℕ → List Assignment
reserve_assignments c len round =
    (if round % c.maintenance_every == 0 then reserve 0 c.maintenance_minislots codes.initial_maintenance else [])
    ++ reserve (len - c.contention_minislots) c.contention_minislots codes.request

-- A board with the reserves has these and no others.
abbrev pub ReservesFit : Type 0
ReservesFit = (c : Channel) (len round : ℕ) → c.maintenance_minislots + c.contention_minislots ≤ len →
    IsMadeOf (reserve_assignments c len round) len (reserves c len round)

-- all that is placed on a channel in a round: its reserves, what its calendar granted, its grants
abbrev pub placed_on : Tables → ℕ → Built → List Assignment
placed_on t round built =
    reserve_assignments built.channel (map_len t built.channel) round
    ++ flat_map assignments_of built.settled ++ assignments built.grants

-- A built board has this and no more.
abbrev pub BoardsAreBuilt : Type 0
BoardsAreBuilt = (t : Tables) (c : Channel) (round : ℕ) (calendar : Calendar) (claims : List Claim) → IsChannel t c →
    let built : Built = build_on claims (fill t round c calendar) in
    IsMadeOf (placed_on t round built) (map_len t c) built.board

abbrev pub HaveMinislots : List Assignment → Type 0
HaveMinislots placed = AllByRecursion (λ i. 1 ≤ i.slots) placed

-- a grant of an entry has a minislot, and a poll where its flow is silent
abbrev pub HasMinislots : Entry → Type 0
HasMinislots e = (active : Bool) → 1 ≤ slots_of e active

-- All that is placed on it has a minislot at least, where the calendar's entries have.
abbrev pub PlacedHaveMinislots : Type 0
PlacedHaveMinislots = (t : Tables) (c : Channel) (round : ℕ) (calendar : Calendar) (claims : List Claim) →
    IsChannelBursts c.bursts → AllByRecursion (λ state. HasMinislots state.entry) calendar.states → AreShares claims →
    HaveMinislots (placed_on t round (build_on claims (fill t round c calendar)))
