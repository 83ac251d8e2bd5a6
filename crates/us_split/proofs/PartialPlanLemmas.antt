-- A plan in the making: a turn without a byte, and what a turn leaves to plan with.
use Rattle.std.proofs.Common.{◌≡◌, ℕ, suc, ◌+◌, ◌-◌, ◌==◌, ◌≤◌, List, [], ◌∷◌, length, map, set, zip, Option, Some, None, option_map, refl, ap, ◌∙◌, inl, inr, eq-eqb, arith}
use Rattle.std.specs.Prelude.{sum, position, slice_index, slice_index_or, option_and_then}
use Rattle.std.specs.List.{AllByRecursion}
use Rattle.std.proofs.lemmas.Bool.{cases_lt}
use Rattle.std.proofs.lemmas.List.{set-get_or, get_or_past}
use Rattle.std.proofs.lemmas.List.Sums.{get_or-le-sum_by}
use Rattle.us_flows.specs.declared.channels.Channel.{Channel}
use Rattle.us_flows.specs.Tables.{header_bytes}
use Rattle.us_split.specs.Divisions.{divided}
use Rattle.us_split.specs.Plans.{Ledger, Planned, share_at, share_on, share_cost, cost_on, lowered, allowed_less, after_turn}
use Rattle.us_split.specs.Claims.{claim_at, claim_on}
use Rattle.us_split.specs.PartialPlans.{ChannelPlan, PartialPlan, budget_in, planned_further, ledger_in, with_turn}
use Rattle.us_split.proofs.DivisionLemmas.{divided-sum}

-- a share is within all of them
pub share-le-sum : (shares : List ℕ) (k : ℕ) → slice_index shares k ≤ sum shares
share-le-sum shares k = elim (cases_lt k (length shares)) [
  | inl within ↦ get_or-le-sum_by (λ x. x) shares k 0 within
  | inr past ↦ omega (arith, get_or_past shares k 0 past)
]

-- no bytes, no shares
pub none_divided : (ws : List ℕ) → sum (divided 0 ws) ≡ 0
none_divided ws = omega (arith, divided-sum 0 ws)

-- A turn without a byte leaves all as it was.

no_share : (shares : List ℕ) (found : Option ℕ) → sum shares ≡ 0 → share_at shares found ≡ 0
no_share shares None none = refl
no_share shares (Some k) none = omega (arith, share-le-sum shares k)

pub no_cost : (planned : Planned) (c : Channel) → sum planned.shares ≡ 0 → cost_on c planned ≡ 0
unfolding cost_on
no_cost planned c none =
    let share : share_on c.id planned ≡ 0 = no_share planned.shares _ none in
    ap (share_cost c (header_bytes planned.turn.cluster.flow)) share

pub no_claim : (place : ℕ) (planned : Planned) (c : Channel) → sum planned.shares ≡ 0 → claim_on c place planned ≡ None
no_claim place planned c none = by (position (λ id. id == c.id) planned.turn.cluster.flow.channels)
  where
    by : (found : Option ℕ) → option_and_then (claim_at c place planned) found ≡ None
    by None = refl
    by (Some k) =
        rw (eq-eqb (slice_index planned.shares k) 0 (omega (arith, share-le-sum planned.shares k, none))) refl

pub none_less : (planned : Planned) (allowances : List (Option ℕ)) → sum planned.shares ≡ 0 →
    allowed_less planned allowances ≡ allowances
none_less planned allowances none =
    ap (set allowances planned.turn.place) (same (slice_index_or allowances planned.turn.place None)) ∙
    set-get_or allowances planned.turn.place None
  where
    same : (o : Option ℕ) → option_map (λ most. most - sum planned.shares) o ≡ o
    same None = refl
    same (Some most) = let all : most - sum planned.shares ≡ most = omega arith in ap Some all

-- weights as the code has them

pub bursts_all : (ws : List ℕ) (header : ℕ) → ((k : ℕ) → slice_index ws k + header ≤ 98304) →
    AllByRecursion (λ w. w ≤ 98304) ws
bursts_all [] header each = tt
bursts_all (w ∷ ws) header each = (omega (arith, each 0), bursts_all ws header (λ k. each (suc k)))

-- What a turn leaves to plan with.

pub after_with : (place : ℕ) (planned : Planned) (cs : List ChannelPlan) →
    map budget_in (map (with_turn place planned) cs) ≡ lowered planned (map budget_in cs)
after_with place planned [] = refl
after_with place planned (c ∷ cs) = ap (λ bs. budget_in (with_turn place planned c) ∷ bs) (after_with place planned cs)

pub ledger_after : (place : ℕ) (planned : Planned) (partial : PartialPlan) →
    ledger_in (planned_further place planned partial) ≡ after_turn (ledger_in partial) planned
unfolding planned_further after_turn
ledger_after place planned partial =
    ap (λ bs. let l : Ledger = record { budgets = bs; allowances = allowed_less planned partial.allowances } in l)
    (after_with place planned partial.channels)

pub idle_budgets : (channels : List Channel) (idle : List ℕ) →
    map budget_in (map (λ pair. record { channel = pair.0; slots = pair.1; claims = [] }) (zip channels idle)) ≡
    map (λ pair. record { channel = pair.0; slots = pair.1 }) (zip channels idle)
idle_budgets [] idle = refl
idle_budgets (c ∷ channels) [] = refl
idle_budgets (c ∷ channels) (slots ∷ idle) =
    ap (λ bs. record { channel = c; slots = slots } ∷ bs) (idle_budgets channels idle)
