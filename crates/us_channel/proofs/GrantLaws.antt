-- What every channel's grants keep: each is of its own claim and fits where it is placed, and the credits of any claimants
-- are at most their shares.
use Rattle.std.proofs.Common.{◌≡◌, ℕ, ◌+◌, ◌<◌, ◌≤◌, nat_le, ◌&&◌, ◌⊎◌, List, [], ◌∷◌, ◌++◌, filter, Bool, true, false, cond, Option, Some, None, refl, ap, subst, arith, inl, inr}
use Rattle.std.specs.Prelude.{sum_by, option_map, option_to_list}
use Rattle.std.specs.List.{AllByRecursion}
use Rattle.std.proofs.lemmas.Bool.{cases_Bool}
use Rattle.us_slots.specs.Bursts.{ChannelBursts, IsChannelBursts, burst_cost, grant_cost}
use Rattle.us_slots.proofs.CostLaws.{bytes_cost_minislots}
use Rattle.us_holes.specs.Boards.{Board, fits, assign, AllFit}
use Rattle.us_split.specs.Claims.{Claimant, Claim}
use Rattle.us_channel.specs.Placements.{Spot, PlacedClaim, spot, grant_at, grant_of, with_grant, grants_of, assignments, credits}
use Rattle.us_channel.proofs.SumLemmas.{sum_passing}
use Rattle.us_channel.proofs.SpotLaws.{IsSpot, spot_is}

-- a grant of a claim on a board
pub record IsGrantOf (b : ChannelBursts) (board : Board) (claim : Claim) (g : PlacedClaim) : Type 0 where
  pub claimant : g.claimant ≡ claim.claimant
  pub sid : g.assignment.owner.sid ≡ claim.sid
  pub cost : (g.assignment.slots, g.assignment.owner.iuc) ≡ grant_cost b (g.credit + claim.header)
  pub usage : (g.assignment.owner.iuc ≡ 9) ⊎ (g.assignment.owner.iuc ≡ 10)
  pub credit : 1 ≤ g.credit
  pub few : g.credit ≤ claim.share
  pub slots : 0 < g.assignment.slots
  pub fits : fits board g.assignment.slots g.assignment.start ≡ true

pub cost_usage : (b : ChannelBursts) (bytes : ℕ) → ((grant_cost b bytes).1 ≡ 9) ⊎ ((grant_cost b bytes).1 ≡ 10)
cost_usage b bytes =
    elim (cases_Bool (nat_le (burst_cost b.time b.short bytes) b.short_max
    && nat_le (burst_cost b.time b.short bytes) (burst_cost b.time b.long bytes))) [
      | inl short ↦ rw short (inl refl)
      | inr long ↦ rw long (inr refl)
    ]

at_spot : (b : ChannelBursts) (board : Board) (claim : Claim) (s : Spot) → IsChannelBursts b →
    IsSpot b claim.header claim.share board s → IsGrantOf b board claim (grant_at b claim s)
at_spot b board claim s is found =
    let some : 1 ≤ s.credit = found.some in
    record {
      claimant = refl;
      sid = refl;
      cost = refl;
      usage = cost_usage b (s.credit + claim.header);
      credit = some;
      few = found.few;
      slots = bytes_cost_minislots b (s.credit + claim.header) is (omega arith);
      fits = found.fits;
    }

pub grant_is : (b : ChannelBursts) (board : Board) (claim : Claim) (g : PlacedClaim) → IsChannelBursts b → 1 ≤ claim.share →
    grant_of b board claim ≡ Some g → IsGrantOf b board claim g
grant_is b board claim g is some found = by (spot b claim.header claim.share board) refl found
  where
    by : (at : Option Spot) → spot b claim.header claim.share board ≡ at → option_map (grant_at b claim) at ≡ Some g →
        IsGrantOf b board claim g
    by None at found = let no : None ≡ Some g = found in absurd cc
    by (Some s) at found =
        let made : Some (grant_at b claim s) ≡ Some g = found in
        let same : grant_at b claim s ≡ g = cc in
        subst (IsGrantOf b board claim) same
        (at_spot b board claim s is (spot_is b claim.header claim.share board s is some at))

-- All claims of a channel.

-- the claims are shares
abbrev pub AreShares : List Claim → Type 0
AreShares cs = AllByRecursion (λ claim. 1 ≤ claim.share) cs

-- these grants are of these claims: each claim has one or none, in their order, and each fits after those before it
unfoldable pub Granted : ChannelBursts → Board → List Claim → List PlacedClaim → Type 0
Granted b board [] [] = Unit {0}
Granted b board [] (g ∷ gs) = ⊥
Granted b board (claim ∷ cs) [] = Granted b board cs []
Granted b board (claim ∷ cs) (g ∷ gs) =
    Granted b board cs (g ∷ gs)
    ⊎ (IsGrantOf b board claim g × Granted b (assign board g.assignment.start g.assignment.slots g.assignment.owner) cs gs)

passed : (b : ChannelBursts) (board : Board) (claim : Claim) (cs : List Claim) (gs : List PlacedClaim) →
    Granted b board cs gs → Granted b board (claim ∷ cs) gs
unfolding Granted
passed b board claim cs [] rest = rest
passed b board claim cs (g ∷ gs) rest = inl rest

pub grants_are : (b : ChannelBursts) (board : Board) (cs : List Claim) → IsChannelBursts b → AreShares cs →
    Granted b board cs (grants_of b board cs)
unfolding grants_of Granted
grants_are b board [] is some = tt
grants_are b board (claim ∷ cs) is some =
    by (grant_of b board claim) refl (λ next. grants_are b next cs is some.1)
  where
    by : (found : Option PlacedClaim) → grant_of b board claim ≡ found →
        ((next : Board) → Granted b next cs (grants_of b next cs)) →
        Granted b board (claim ∷ cs) (option_to_list found ++ grants_of b (with_grant board found) cs)
    by None at rest = passed b board claim cs (grants_of b board cs) (rest board)
    by (Some g) at rest =
        inr (
          grant_is b board claim g is some.0 at,
          rest (assign board g.assignment.start g.assignment.slots g.assignment.owner),
        )

-- each fits after those before it
pub grants_fit : (b : ChannelBursts) (board : Board) (cs : List Claim) (gs : List PlacedClaim) → Granted b board cs gs →
    AllFit board (assignments gs)
unfolding AllFit Granted
grants_fit b board [] [] all = tt
grants_fit b board [] (g ∷ gs) all = absurd all
grants_fit b board (claim ∷ cs) [] all = tt
grants_fit b board (claim ∷ cs) (g ∷ gs) all = elim all [
  | inl rest ↦ grants_fit b board cs (g ∷ gs) rest
  | inr own ↦ (
    own.0.fits,
    grants_fit b (assign board g.assignment.start g.assignment.slots g.assignment.owner) cs gs own.1,
  )
]

less_passing : (a b : Bool) (less more : ℕ) → a ≡ b → less ≤ more → cond a less 0 ≤ cond b more 0
less_passing a true less more same is = rw same is
less_passing a false less more same is = rw same (omega arith)

-- of the claimants that pass, at most the shares are credited
pub credits_few : (b : ChannelBursts) (passes : Claimant → Bool) (board : Board) (cs : List Claim) (gs : List PlacedClaim) →
    Granted b board cs gs →
    credits (λ g. passes g.claimant) gs ≤ sum_by (λ c. c.share) (filter (λ c. passes c.claimant) cs)
unfolding Granted
credits_few b passes board [] [] all = omega arith
credits_few b passes board [] (g ∷ gs) all = absurd all
credits_few b passes board (claim ∷ cs) [] all = omega arith
credits_few b passes board (claim ∷ cs) (g ∷ gs) all =
    let more : sum_by (λ c. c.share) (filter (λ c. passes c.claimant) (claim ∷ cs))
    ≡ cond (passes claim.claimant) claim.share 0 + sum_by (λ c. c.share) (filter (λ c. passes c.claimant) cs) =
    sum_passing (λ c. c.share) (λ c. passes c.claimant) claim cs in
    elim all [
      | inl rest ↦ omega (arith, credits_few b passes board cs (g ∷ gs) rest, more)
      | inr own ↦
          let few = credits_few b passes (assign board g.assignment.start g.assignment.slots g.assignment.owner) cs gs own.1 in
          let one : credits (λ g. passes g.claimant) (g ∷ gs)
          ≡ cond (passes g.claimant) g.credit 0 + credits (λ g. passes g.claimant) gs =
          sum_passing (λ g. g.credit) (λ g. passes g.claimant) g gs in
          let less : cond (passes g.claimant) g.credit 0 ≤ cond (passes claim.claimant) claim.share 0 =
          less_passing (passes g.claimant) (passes claim.claimant) g.credit claim.share (ap passes own.0.claimant)
          own.0.few in
          omega (arith, few, one, more, less)
    ]
