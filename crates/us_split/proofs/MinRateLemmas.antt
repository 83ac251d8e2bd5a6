-- What is reserved for flows with a minimum rate, flow by flow: at most what is listed, and of other flows nothing.
use Rattle.std.proofs.Common.{◌≡◌, ℕ, zero, suc, ◌-◌, ◌≤◌, nat_lt, Bool, true, false, if◌then◌else◌, List, [], ◌∷◌, set, Option, Some, None, slice_get, refl, ap, sym, subst, ◌∙◌, arith}
use Rattle.std.specs.Prelude.{slice_index}
use Rattle.std.specs.List.{AllByRecursion}
use Rattle.us_flows.specs.Tables.{FlowTable}
use Rattle.us_flows.specs.Clusters.{Turn}
use Rattle.us_split.specs.Asking.{AgreeOn}
use Rattle.us_split.specs.Plans.{min_rate_reserves}

-- a reserve that counts, or nothing
abbrev counted : Bool → ℕ → ℕ
counted has reserve = if has then reserve else 0

counted-within : (has : Bool) (reserve : ℕ) → counted has reserve ≤ reserve
counted-within true reserve = omega arith
counted-within false reserve = omega arith

counted-none : (has : Bool) → 0 ≡ counted has 0
counted-none true = refl
counted-none false = refl

counted-less : (has : Bool) (reserve bytes : ℕ) → counted has (reserve - bytes) ≡ counted has reserve - bytes
counted-less true reserve bytes = refl
counted-less false reserve bytes = omega arith

abbrev has_rate : Option FlowTable → Bool
has_rate None = false
has_rate (Some flow) = nat_lt 0 flow.min_rate

by_flow : (flows : List FlowTable) (reserves : List ℕ) (place : ℕ) →
    slice_index (min_rate_reserves flows reserves) place ≡
    counted (has_rate (slice_get flows place)) (slice_index reserves place)
by_flow [] reserves place = refl
by_flow (flow ∷ flows) [] place = counted-none (has_rate (slice_get (flow ∷ flows) place))
by_flow (flow ∷ flows) (reserve ∷ reserves) zero = refl
by_flow (flow ∷ flows) (reserve ∷ reserves) (suc place) = by_flow flows reserves place

-- of a flow of the table it is its reserve, or nothing,
pub flow_reserve : (flows : List FlowTable) (reserves : List ℕ) (place : ℕ) (flow : FlowTable) →
    slice_get flows place ≡ Some flow →
    slice_index (min_rate_reserves flows reserves) place ≡
    (if nat_lt 0 flow.min_rate then slice_index reserves place else 0)
flow_reserve flows reserves place flow at =
    by_flow flows reserves place ∙ ap (λ found. counted (has_rate found) (slice_index reserves place)) at

-- and of each at most what is listed
pub reserved_within : (flows : List FlowTable) (reserves : List ℕ) (place : ℕ) →
    slice_index (min_rate_reserves flows reserves) place ≤ slice_index reserves place
reserved_within flows reserves place =
    subst (λ n. n ≤ slice_index reserves place) (sym (by_flow flows reserves place))
    (counted-within (has_rate (slice_get flows place)) (slice_index reserves place))

-- it falls as what is listed does
pub reserved_less : (flows : List FlowTable) (reserves : List ℕ) (place bytes : ℕ) →
    min_rate_reserves flows (set reserves place (slice_index reserves place - bytes)) ≡
    set (min_rate_reserves flows reserves) place (slice_index (min_rate_reserves flows reserves) place - bytes)
reserved_less [] reserves place bytes = refl
reserved_less (flow ∷ flows) [] place bytes = refl
reserved_less (flow ∷ flows) (reserve ∷ reserves) zero bytes =
    ap (λ n. n ∷ min_rate_reserves flows reserves) (counted-less (nat_lt 0 flow.min_rate) reserve bytes)
reserved_less (flow ∷ flows) (reserve ∷ reserves) (suc place) bytes =
    ap (λ rest. counted (nat_lt 0 flow.min_rate) reserve ∷ rest) (reserved_less flows reserves place bytes)

-- Lists that say the same of the flows of turns do so of those with a minimum rate.
pub rates_agree : (flows : List FlowTable) (turns : List Turn) (known allowances : List (Option ℕ))
    (known_reserves reserves : List ℕ) → AgreeOn turns known allowances known_reserves reserves →
    AgreeOn turns known allowances (min_rate_reserves flows known_reserves) (min_rate_reserves flows reserves)
rates_agree flows turns known allowances known_reserves reserves agree =
    record { flows = agree.flows; allowed = agree.allowed; reserved = each turns agree.reserved }
  where
    same : (place : ℕ) → slice_index known_reserves place ≡ slice_index reserves place →
        slice_index (min_rate_reserves flows known_reserves) place ≡ slice_index (min_rate_reserves flows reserves) place
    same place is =
        by_flow flows known_reserves place ∙ ap (counted (has_rate (slice_get flows place))) is ∙
        sym (by_flow flows reserves place)

    each : (turns : List Turn) →
        AllByRecursion (λ turn. slice_index known_reserves turn.place ≡ slice_index reserves turn.place) turns →
        AllByRecursion (λ turn. slice_index (min_rate_reserves flows known_reserves) turn.place
        ≡ slice_index (min_rate_reserves flows reserves) turn.place) turns
    each [] all = tt
    each (turn ∷ turns) all = (same turn.place all.0, each turns all.1)
