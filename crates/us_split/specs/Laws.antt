-- Laws of plans and of their claims: that one pass does where nothing is reserved, that full channels give nothing, and whose
-- claims are.
use Rattle.std.specs.Prelude.{◌≡◌, ℕ, ◌≤◌, ◌==◌, true, List, length, sum, count_by, Option, Some}
use Rattle.std.specs.List.{AllByRecursion}
use Rattle.us_flows.specs.declared.channels.Channel.{Channel}
use Rattle.us_flows.specs.Tables.{Tables, header_bytes}
use Rattle.us_flows.specs.Clusters.{Turn, IsTurnIn, has_sid, turns_of}
use Rattle.us_flows.specs.Lawful.{AreTables}
use Rattle.us_split.specs.Plans.{Budget, Ledger, Planned, ledger_of, more_shares, plan_for, plan_of, weight}
use Rattle.us_split.specs.Claims.{Claim, claimant_of, claims_on}

-- a claim on a channel that is of a turn of these tables: it names the turn's cluster, has the segment header of its flow,
-- and the SID that the cluster has on the channel
pub record IsOfTurn (t : Tables) (c : Channel) (claim : Claim) : Type 0 where
  pub turn : Turn
  pub known : IsTurnIn t turn
  pub claimant : claim.claimant ≡ claimant_of turn
  pub header : claim.header ≡ header_bytes turn.cluster.flow
  pub sid : has_sid c.id claim.sid turn.cluster ≡ true

-- Each claim of a plan is of a turn.
abbrev pub ClaimsAreOfTurns : Type 0
ClaimsAreOfTurns = (t : Tables) (outstanding : List ℕ) (allowances : List (Option ℕ)) (reserves idle : List ℕ) (c : Channel) →
    AreTables t → AllByRecursion (IsOfTurn t c) (claims_on c (plan_for t outstanding allowances reserves idle))

-- On a channel no cluster has two claims.
abbrev pub ClustersClaimOnce : Type 0
ClustersClaimOnce = (t : Tables) (outstanding : List ℕ) (allowances : List (Option ℕ)) (reserves idle : List ℕ) (c : Channel)
    (number : ℕ) →
    count_by (λ claim. claim.claimant.cluster == number) (claims_on c (plan_for t outstanding allowances reserves idle)) ≤ 1

-- Where nothing is reserved, a plan is made in one pass.
abbrev pub OnePassDoes : Type 0
OnePassDoes = (t : Tables) (outstanding : List ℕ) (allowances : List (Option ℕ)) (reserves idle : List ℕ) →
    length allowances ≡ length t.flows → AllByRecursion (λ reserve. reserve ≡ 0) reserves →
    plan_for t outstanding allowances reserves idle ≡ plan_of outstanding (ledger_of t allowances idle) (turns_of t)

-- no channel carries a byte
abbrev pub CarryNothing : List Budget → Type 0
CarryNothing budgets = AllByRecursion (λ b. weight 0 (Some b) ≡ 0) budgets

-- Then no turn gets one, and none after it. In a second pass this is so of a turn without first shares; one with some gets their
-- cost back before it is planned, and may find room.
abbrev pub FullGiveNothing : Type 0
FullGiveNothing = (outstanding : List ℕ) (ledger : Ledger) → CarryNothing ledger.budgets →
    ((turns : List Turn) → AllByRecursion (λ planned. sum planned.shares ≡ 0) (plan_of outstanding ledger turns)) ×
    ((first : Planned) → sum first.shares ≡ 0 → sum (more_shares outstanding ledger first) ≡ 0)
