-- The plan of a round is that of those who ask.
use Rattle.std.proofs.Common.{◌≡◌, ◌≢◌, ◌⊎◌, ℕ, suc, ◌+◌, ◌-◌, Bool, false, if◌then◌else◌, List, [], ◌∷◌, ◌++◌, length, map, set, filter, Option, Some, None, slice_get, option_map, refl, sym, ap, ap₂, ◌∙◌, subst, inl, inr, get_or-set_same, get_or-set_other, arith}
use Rattle.std.specs.Prelude.{sum, filter_map, slice_index, slice_index_or, option_to_list}
use Rattle.std.specs.List.{AllByRecursion, cons_option}
use Rattle.std.proofs.lemmas.Bool.{cases_Bool, cases_eq, cases_lt, ltb-false}
use Rattle.std.proofs.lemmas.List.{get_or_past, length-set}
use Rattle.us_flows.specs.declared.channels.Channel.{Channel}
use Rattle.us_flows.specs.Tables.{Tables}
use Rattle.us_flows.specs.Clusters.{Turn, turns_of}
use Rattle.us_split.specs.Divisions.{divided}
use Rattle.us_split.specs.Plans.{Budget, Ledger, Planned, at_most, weights, shares_of, lowered, allowed_less, after_turn, after_plan, plan_of, plan_for, ledger_of, min_rate_reserves, first_limits, first_of, given_back, minus, more_shares, with_more, after_both, second_of, two_passes}
use Rattle.us_split.specs.Claims.{Claim, all_claims, claim_on, claims_from, claims_on}
use Rattle.us_split.specs.Asking.{AgreeOn, AskersClaim, TurnsPass, asking, asking_in, asks, claims_at, numbers_of, places_from, plan_of_askers, turns_at}
use Rattle.us_split.proofs.MinRateLemmas.{rates_agree}
use Rattle.us_split.proofs.OnePassLaws.{budgets_stay, ledger_stays, limit-at, limits-length, nothing_returned}
use Rattle.us_split.proofs.PartialPlanLemmas.{no_claim, none_less}
use Rattle.us_split.proofs.PlanLawLemmas.{plan_of-turns, planned_of, shares_of-asked}
use Rattle.us_split.proofs.SecondPassLemmas.{both-asked, added-sum}

-- Places.

module _ (passes : ℕ → Bool) (all : List Turn) where
  -- where the rest of all turns begins at a place
  abbrev IsRest : ℕ → List Turn → Type 0
  IsRest place rest = (i : ℕ) → slice_get all (place + i) ≡ slice_get rest i

  next_rest : (place : ℕ) (turn : Turn) (rest : List Turn) → IsRest place (turn ∷ rest) → IsRest (place + 1) rest
  next_rest place turn rest is i =
      let next : place + 1 + i ≡ place + suc i = omega arith in
      ap (slice_get all) next ∙ is (suc i)

  pub rest_passes : (place : ℕ) (rest : List Turn) → IsRest place rest →
      turns_at all (places_from passes place (numbers_of rest)) ≡ filter (λ turn. passes turn.number) rest
  unfolding places_from
  rest_passes place [] is = refl
  rest_passes place (turn ∷ rest) is =
      let more = rest_passes (place + 1) rest (next_rest place turn rest is) in
      elim (cases_Bool (passes turn.number)) [
        | inl t ↦
            let start : place + 0 ≡ place = omega arith in
            let here : slice_get all place ≡ Some turn = ap (slice_get all) (sym start) ∙ is 0 in
            rw (t, here) (ap (λ turns. turn ∷ turns) more)
        | inr f ↦ rw f more
      ]

pub turns_pass : TurnsPass
turns_pass passes turns = rest_passes passes turns 0 turns (λ i. let same : 0 + i ≡ i = omega arith in ap (slice_get turns) same)

-- what is made of these turns is made of those of all turns that pass
pub map_passing : {Y : Type 0} (passes : ℕ → Bool) (f : Turn → Option Y) (turns : List Turn) →
    filter_map f (turns_at turns (places_from passes 0 (numbers_of turns))) ≡
    filter_map (λ turn. if passes turn.number then f turn else None) turns
map_passing {Y} passes f turns = ap (filter_map f) (turns_pass passes turns) ∙ each turns
  where
    each : (xs : List Turn) → filter_map f (filter (λ turn. passes turn.number) xs) ≡
        filter_map (λ turn. if passes turn.number then f turn else None) xs
    each [] = refl
    each (turn ∷ xs) = elim (cases_Bool (passes turn.number)) [
      | inl t ↦ rw t (ap (cons_option (f turn)) (each xs))
      | inr n ↦ rw n (each xs)
    ]

-- A turn that doesn't ask.

no_shares : (outstanding : List ℕ) (ledger : Ledger) (turn : Turn) → asks outstanding turn.number ≡ false →
    sum (shares_of outstanding ledger turn) ≡ 0
no_shares outstanding ledger turn none =
    omega (arith, shares_of-asked outstanding ledger turn, ltb-false 0 (slice_index outstanding turn.number) none)

-- beside first shares of no bytes it gets none,
no_shares_more : (outstanding : List ℕ) (ledger : Ledger) (first : Planned) → asks outstanding first.turn.number ≡ false →
    sum first.shares ≡ 0 → sum (with_more first (more_shares outstanding ledger first)).shares ≡ 0
no_shares_more outstanding ledger first none empty =
    let bytes : ℕ = slice_index outstanding first.turn.number in
    omega (
      arith,
      both-asked outstanding ledger first (omega (arith, empty)),
      ltb-false 0 bytes none,
    )

-- and leaves all as it was
ledger_stays_more : (outstanding : List ℕ) (ledger : Ledger) (first : Planned) → asks outstanding first.turn.number ≡ false →
    sum first.shares ≡ 0 → after_both ledger first (more_shares outstanding ledger first) ≡ ledger
unfolding after_both
ledger_stays_more outstanding ledger first none empty =
    let more : List ℕ = more_shares outstanding ledger first in
    let both : sum (with_more first more).shares ≡ 0 = no_shares_more outstanding ledger first none empty in
    let rest : sum more ≡ 0 = omega (arith, added-sum first.shares more, both) in
    ap₂ (λ budgets allowances. let l : Ledger = record { budgets = budgets; allowances = allowances } in l)
    (ap (lowered (with_more first more)) (nothing_returned first ledger.budgets empty) ∙
    budgets_stay (with_more first more) ledger.budgets both)
    (none_less (record { turn = first.turn; shares = more }) ledger.allowances rest)

-- Allowances of others.

abbrev allowed_of : List (Option ℕ) → ℕ → Option ℕ
allowed_of allowances place = slice_index_or allowances place None

abbrev less : ℕ → Option ℕ → Option ℕ
less bytes allowance = option_map (λ most. most - bytes) allowance

less_there : (allowances : List (Option ℕ)) (place bytes : ℕ) →
    allowed_of (set allowances place (less bytes (allowed_of allowances place))) place ≡
    less bytes (allowed_of allowances place)
less_there allowances place bytes = elim (cases_lt place (length allowances)) [
  | inl within ↦ get_or-set_same allowances place (less bytes (allowed_of allowances place)) None within
  | inr past ↦
      let left : Option ℕ = less bytes (allowed_of allowances place) in
      let none : allowed_of allowances place ≡ None = get_or_past allowances place None past in
      get_or_past (set allowances place left) place None (omega (arith, past, length-set allowances place left)) ∙
      sym (ap (less bytes) none)
]

-- two lists of allowances say the same of the flows of turns
abbrev pub AllowSame : List Turn → List (Option ℕ) → List (Option ℕ) → Type 0
AllowSame turns known allowances = AllByRecursion (λ turn. allowed_of known turn.place ≡ allowed_of allowances turn.place) turns

agree_later : (turns : List Turn) (known allowances : List (Option ℕ)) (place bytes : ℕ) →
    allowed_of known place ≡ allowed_of allowances place → AllowSame turns known allowances →
    AllowSame turns (set known place (less bytes (allowed_of known place)))
    (set allowances place (less bytes (allowed_of allowances place)))
agree_later [] known allowances place bytes here all = tt
agree_later (turn ∷ turns) known allowances place bytes here all =
    (first (cases_eq turn.place place), agree_later turns known allowances place bytes here all.1)
  where
    first : (turn.place ≡ place) ⊎ (turn.place ≢ place) →
        allowed_of (set known place (less bytes (allowed_of known place))) turn.place ≡
        allowed_of (set allowances place (less bytes (allowed_of allowances place))) turn.place
    first (inl same) =
        ap (allowed_of (set known place (less bytes (allowed_of known place)))) same ∙
        less_there known place bytes ∙ ap (less bytes) here ∙ sym (less_there allowances place bytes) ∙
        sym (ap (allowed_of (set allowances place (less bytes (allowed_of allowances place)))) same)
    first (inr other) =
        get_or-set_other known place turn.place (less bytes (allowed_of known place)) None other ∙ all.0 ∙
        sym (get_or-set_other allowances place turn.place (less bytes (allowed_of allowances place)) None other)

-- and so do what the first pass may give to them
pub limits_agree : (turns : List Turn) (known allowances : List (Option ℕ)) (known_reserves reserves : List ℕ) →
    AgreeOn turns known allowances known_reserves reserves →
    AllowSame turns (first_limits known known_reserves) (first_limits allowances reserves)
limits_agree turns known allowances known_reserves reserves agree = each turns agree.allowed agree.reserved
  where
    at : (place : ℕ) → allowed_of known place ≡ allowed_of allowances place →
        slice_index known_reserves place ≡ slice_index reserves place →
        allowed_of (first_limits known known_reserves) place ≡ allowed_of (first_limits allowances reserves) place
    at place allowed reserved = elim (cases_lt place (length known)) [
      | inl within ↦
          limit-at known known_reserves place within ∙ ap₂ (λ a r. Some (at_most a r)) allowed reserved ∙
          sym (limit-at allowances reserves place (omega (arith, agree.flows, within)))
      | inr past ↦
          get_or_past (first_limits known known_reserves) place None (omega (arith, limits-length known known_reserves, past)) ∙
          sym (get_or_past (first_limits allowances reserves) place None (omega (arith, limits-length allowances reserves, agree.flows, past)))
    ]

    each : (turns : List Turn) → AllowSame turns known allowances →
        AllByRecursion (λ turn. slice_index known_reserves turn.place ≡ slice_index reserves turn.place) turns →
        AllowSame turns (first_limits known known_reserves) (first_limits allowances reserves)
    each [] allowed reserved = tt
    each (turn ∷ turns) allowed reserved = (at turn.place allowed.0 reserved.0, each turns allowed.1 reserved.1)

-- what is the same says the same
pub same_agree : (turns : List Turn) (known allowances : List (Option ℕ)) (known_reserves reserves : List ℕ) →
    known ≡ allowances → known_reserves ≡ reserves → AgreeOn turns known allowances known_reserves reserves
same_agree turns known allowances known_reserves reserves allow reserve =
    record { flows = ap length allow; allowed = allowed turns; reserved = reserved turns }
  where
    allowed : (turns : List Turn) → AllowSame turns known allowances
    allowed [] = tt
    allowed (turn ∷ turns) = (ap (λ xs. allowed_of xs turn.place) allow, allowed turns)

    reserved : (turns : List Turn) →
        AllByRecursion (λ turn. slice_index known_reserves turn.place ≡ slice_index reserves turn.place) turns
    reserved [] = tt
    reserved (turn ∷ turns) = (ap (λ xs. slice_index xs turn.place) reserve, reserved turns)

-- Two passes, of those who ask and of all.

pub option_before : {A : Type 0} (o : Option A) (xs : List A) → cons_option o xs ≡ option_to_list o ++ xs
option_before None xs = refl
option_before (Some x) xs = refl

abbrev turns_in : List Planned → List Turn
turns_in plan = map (λ planned. planned.turn) plan

module _ (outstanding : List ℕ) where
  abbrev passing : List Turn → List Turn
  passing turns = filter (λ turn. asks outstanding turn.number) turns

  -- the turns of a plan that ask
  abbrev pub asked_in : List Planned → List Planned
  asked_in plan = filter (λ planned. asks outstanding planned.turn.number) plan

  -- the others have no bytes
  abbrev pub AreIdle : List Planned → Type 0
  AreIdle plan = AllByRecursion (λ planned. asks outstanding planned.turn.number ≡ false → sum planned.shares ≡ 0) plan

  abbrev ledger_with : List Budget → List (Option ℕ) → Ledger
  ledger_with budgets allowances = record { budgets = budgets; allowances = allowances }

  -- a turn has the same shares by both lists of allowances
  shares_same : (budgets : List Budget) (known allowances : List (Option ℕ)) (turn : Turn) →
      allowed_of known turn.place ≡ allowed_of allowances turn.place →
      shares_of outstanding (ledger_with budgets known) turn ≡ shares_of outstanding (ledger_with budgets allowances) turn
  unfolding shares_of
  shares_same budgets known allowances turn same =
      ap (λ most. divided (at_most most (slice_index outstanding turn.number)) (weights turn.cluster.flow budgets)) same

  -- The first pass.

  pub first_idle : (ledger : Ledger) (turns : List Turn) → AreIdle (plan_of outstanding ledger turns)
  unfolding plan_of
  first_idle ledger [] = tt
  first_idle ledger (turn ∷ turns) =
      (no_shares outstanding ledger turn, first_idle (after_turn ledger (planned_of outstanding ledger turn)) turns)

  pub first_same : (turns : List Turn) (budgets : List Budget) (known allowances : List (Option ℕ)) →
      AllowSame (passing turns) known allowances →
      plan_of outstanding (ledger_with budgets known) (passing turns) ≡
      asked_in (plan_of outstanding (ledger_with budgets allowances) turns)
  unfolding plan_of after_turn
  first_same [] budgets known allowances agree = refl
  first_same (turn ∷ turns) budgets known allowances agree =
      let known_plan : Planned = planned_of outstanding (ledger_with budgets known) turn in
      let planned : Planned = planned_of outstanding (ledger_with budgets allowances) turn in
      elim (cases_Bool (asks outstanding turn.number)) [
        | inl t ↦
            let both : AllowSame (turn ∷ passing turns) known allowances = rw t at agree in
            let same : known_plan ≡ planned =
            ap (λ shares. let p : Planned = record { turn = turn; shares = shares } in p)
            (shares_same budgets known allowances turn both.0) in
            let later = first_same turns (lowered planned budgets) (allowed_less planned known) (allowed_less planned allowances)
            (agree_later (passing turns) known allowances turn.place (sum planned.shares) both.0 both.1) in
            rw t (
            ap (λ p. p ∷ plan_of outstanding (after_turn (ledger_with budgets known) p) (passing turns)) same ∙
            ap (λ rest. planned ∷ rest) later
            )
        | inr f ↦
            let none : sum planned.shares ≡ 0 = no_shares outstanding (ledger_with budgets allowances) turn f in
            rw f (
            first_same turns budgets known allowances (rw f at agree) ∙
            ap (λ ledger. asked_in (plan_of outstanding ledger turns))
            (sym (ledger_stays planned (ledger_with budgets allowances) none))
            )
      ]

  -- what it leaves

  after_asked : (ledger : Ledger) (plan : List Planned) → AreIdle plan → after_plan ledger (asked_in plan) ≡ after_plan ledger plan
  unfolding after_plan
  after_asked ledger [] idle = refl
  after_asked ledger (planned ∷ plan) idle = elim (cases_Bool (asks outstanding planned.turn.number)) [
    | inl t ↦ rw t (after_asked (after_turn ledger planned) plan idle.1)
    | inr f ↦
        rw f (
        after_asked ledger plan idle.1 ∙ ap (λ l. after_plan l plan) (sym (ledger_stays planned ledger (idle.0 f)))
        )
  ]

  record LeavesSame (turns : List Turn) (known : Ledger) (ledger : Ledger) : Type 0 where
    budgets : known.budgets ≡ ledger.budgets
    allowed : AllowSame turns known.allowances ledger.allowances

  leaves_same : (plan : List Planned) (turns : List Turn) (budgets : List Budget) (known allowances : List (Option ℕ)) →
      AllowSame (turns_in plan) known allowances → AllowSame turns known allowances →
      LeavesSame turns (after_plan (ledger_with budgets known) plan) (after_plan (ledger_with budgets allowances) plan)
  unfolding after_plan after_turn
  leaves_same [] turns budgets known allowances here agree = record { budgets = refl; allowed = agree }
  leaves_same (planned ∷ plan) turns budgets known allowances here agree =
      leaves_same plan turns (lowered planned budgets) (allowed_less planned known) (allowed_less planned allowances)
      (agree_later (turns_in plan) known allowances planned.turn.place (sum planned.shares) here.0 here.1)
      (agree_later turns known allowances planned.turn.place (sum planned.shares) here.0 agree)

  -- The second pass.

  more_same : (budgets : List Budget) (known allowances : List (Option ℕ)) (first : Planned) →
      allowed_of known first.turn.place ≡ allowed_of allowances first.turn.place →
      more_shares outstanding (ledger_with budgets known) first ≡ more_shares outstanding (ledger_with budgets allowances) first
  unfolding more_shares
  more_same budgets known allowances first same =
      ap (λ most. divided (at_most most (slice_index outstanding first.turn.number - sum first.shares)) (minus (weights first.turn.cluster.flow (given_back first budgets)) first.shares)) same

  pub second_same : (c : Channel) (place : ℕ) (plan : List Planned) (budgets : List Budget) (known allowances : List (Option ℕ)) →
      AreIdle plan → AllowSame (turns_in (asked_in plan)) known allowances →
      claims_at c (places_from (asks outstanding) place (numbers_of (turns_in plan)))
      (second_of outstanding (ledger_with budgets known) (asked_in plan)) ≡
      claims_from c place (second_of outstanding (ledger_with budgets allowances) plan)
  unfolding places_from second_of claims_from after_both
  second_same c place [] budgets known allowances idle agree = refl
  second_same c place (first ∷ plan) budgets known allowances idle agree =
      let more : List ℕ = more_shares outstanding (ledger_with budgets allowances) first in
      let both : Planned = with_more first more in
      elim (cases_Bool (asks outstanding first.turn.number)) [
        | inl t ↦
            let all : AllowSame (first.turn ∷ turns_in (asked_in plan)) known allowances = rw t at agree in
            let same = more_same budgets known allowances first all.0 in
            let later = second_same c (place + 1) plan (lowered both (given_back first budgets))
            (allowed_less (record { turn = first.turn; shares = more }) known)
            (allowed_less (record { turn = first.turn; shares = more }) allowances) idle.1
            (agree_later (turns_in (asked_in plan)) known allowances first.turn.place (sum more) all.0 all.1) in
            let rest : List ℕ → List Claim = λ shares.
            claims_at c (places_from (asks outstanding) (place + 1) (numbers_of (turns_in plan)))
            (second_of outstanding (after_both (ledger_with budgets known) first shares) (asked_in plan)) in
            rw t (
            ap (λ shares. cons_option (claim_on c place (with_more first shares)) (rest shares)) same ∙
            option_before (claim_on c place both) (rest more) ∙
            ap (λ claims. option_to_list (claim_on c place both) ++ claims) later
            )
        | inr f ↦
            let ledger : Ledger = ledger_with budgets allowances in
            let none : sum both.shares ≡ 0 = no_shares_more outstanding ledger first f (idle.0 f) in
            rw f (
            second_same c (place + 1) plan budgets known allowances idle.1 (rw f at agree) ∙
            ap (λ l. claims_from c (place + 1) (second_of outstanding l plan))
            (sym (ledger_stays_more outstanding ledger first f (idle.0 f))) ∙
            ap (λ claim. option_to_list claim ++ claims_from c (place + 1)
            (second_of outstanding (after_both ledger first more) plan))
            (sym (no_claim place both c none))
            )
      ]

asked_turns : (outstanding : List ℕ) (ledger : Ledger) (turns : List Turn) →
    turns_in (asked_in outstanding (plan_of outstanding ledger turns)) ≡ filter (λ turn. asks outstanding turn.number) turns
unfolding plan_of
asked_turns outstanding ledger [] = refl
asked_turns outstanding ledger (turn ∷ turns) =
    let rest = asked_turns outstanding (after_turn ledger (planned_of outstanding ledger turn)) turns in
    elim (cases_Bool (asks outstanding turn.number)) [
      | inl t ↦ rw t (ap (λ ts. turn ∷ ts) rest)
      | inr f ↦ rw f rest
    ]

-- the claims of those who pass, by both passes
passes_same : (t : Tables) (outstanding : List ℕ) (known allowances : List (Option ℕ)) (known_reserves reserves idle : List ℕ)
    (c : Channel) →
    AgreeOn (filter (λ turn. asks outstanding turn.number) (turns_of t)) known allowances known_reserves reserves →
    claims_at c (asking_in t outstanding) (two_passes outstanding (ledger_of t known idle) known_reserves
    (filter (λ turn. asks outstanding turn.number) (turns_of t))) ≡
    claims_on c (two_passes outstanding (ledger_of t allowances idle) reserves (turns_of t))
unfolding two_passes
passes_same t outstanding known allowances known_reserves reserves idle c agree =
    let turns : List Turn = turns_of t in
    let these : List Turn = filter (λ turn. asks outstanding turn.number) turns in
    let budgets : List Budget = (ledger_of t known idle).budgets in
    let limited : Ledger = record { budgets = budgets; allowances = first_limits allowances reserves } in
    let first : List Planned = plan_of outstanding limited turns in
    let asked : List Planned = asked_in outstanding first in
    let same : first_of outstanding (ledger_of t known idle) known_reserves these ≡ asked =
    first_same outstanding turns budgets (first_limits known known_reserves) (first_limits allowances reserves)
    (limits_agree these known allowances known_reserves reserves agree) in
    let own : turns_in asked ≡ these = asked_turns outstanding limited turns in
    let idle_first : AreIdle outstanding first = first_idle outstanding limited turns in
    let left = leaves_same outstanding asked these budgets known allowances
    (subst (λ ts. AllowSame ts known allowances) (sym own) agree.allowed) agree.allowed in
    let after : Ledger = after_plan (ledger_of t allowances idle) first in
    let after_known : Ledger = after_plan (ledger_of t known idle) asked in
    let whole : after_plan (ledger_of t allowances idle) asked ≡ after = after_asked outstanding (ledger_of t allowances idle) first idle_first in
    let budgets_same : after_known.budgets ≡ after.budgets = left.budgets ∙ ap (λ l. l.budgets) whole in
    let allowed_same : AllowSame (turns_in asked) after_known.allowances after.allowances =
    subst (λ l. AllowSame (turns_in asked) after_known.allowances l.allowances) whole
    (subst (λ ts. AllowSame ts after_known.allowances (after_plan (ledger_of t allowances idle) asked).allowances) (sym own) left.allowed) in
    let numbers : numbers_of (turns_in first) ≡ numbers_of turns = ap numbers_of (plan_of-turns outstanding limited turns) in
    ap (λ plan. claims_at c (asking_in t outstanding) (second_of outstanding (after_plan (ledger_of t known idle) plan) plan)) same ∙
    ap (λ bs. claims_at c (asking_in t outstanding) (second_of outstanding (ledger_with outstanding bs after_known.allowances) asked)) budgets_same ∙
    ap (λ ns. claims_at c (asking outstanding ns) (second_of outstanding (ledger_with outstanding after.budgets after_known.allowances) asked)) (sym numbers) ∙
    second_same outstanding c 0 first after.budgets after_known.allowances after.allowances idle_first allowed_same

pub askers_claim : AskersClaim
unfolding plan_for
askers_claim t outstanding known allowances known_reserves reserves idle c agree =
    let turns : List Turn = turns_of t in
    let pass : turns_at turns (asking_in t outstanding) ≡ filter (λ turn. asks outstanding turn.number) turns =
    turns_pass (asks outstanding) turns in
    let agreed : AgreeOn (filter (λ turn. asks outstanding turn.number) turns) known allowances known_reserves reserves =
    subst (λ ts. AgreeOn ts known allowances known_reserves reserves) pass agree in
    ap (λ ts. claims_at c (asking_in t outstanding)
    (two_passes outstanding (ledger_of t known idle) (min_rate_reserves t.flows known_reserves) ts)) pass ∙
    passes_same t outstanding known allowances (min_rate_reserves t.flows known_reserves) (min_rate_reserves t.flows reserves)
    idle c
    (rates_agree t.flows (filter (λ turn. asks outstanding turn.number) (turns_of t)) known allowances known_reserves reserves
    agreed)

-- and so on all channels
pub askers_claim_all : (t : Tables) (outstanding : List ℕ) (known allowances : List (Option ℕ)) (known_reserves reserves idle : List ℕ) →
    AgreeOn (turns_at (turns_of t) (asking_in t outstanding)) known allowances known_reserves reserves →
    map (λ c. claims_at c (asking_in t outstanding) (plan_of_askers t outstanding known known_reserves idle)) t.channels ≡
    all_claims t (plan_for t outstanding allowances reserves idle)
askers_claim_all t outstanding known allowances known_reserves reserves idle agree = each t.channels
  where
    each : (cs : List Channel) →
        map (λ c. claims_at c (asking_in t outstanding) (plan_of_askers t outstanding known known_reserves idle)) cs ≡
        map (λ c. claims_on c (plan_for t outstanding allowances reserves idle)) cs
    each [] = refl
    each (c ∷ cs) =
        ap₂ (λ claims rest. claims ∷ rest) (askers_claim t outstanding known allowances known_reserves reserves idle c agree) (each cs)
