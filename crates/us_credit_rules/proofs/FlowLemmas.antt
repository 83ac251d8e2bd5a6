-- The buckets of flows, as lines leave them one after another, and what that says of their rates and of what is left.
use Rattle.std.proofs.Common.{ℕ, ◌≤◌, Bool, List, [], ◌∷◌, ◌++◌, inl, inr, arith, ◌≡◌, zero, suc, ◌+◌, ◌-◌, ◌*◌, ◌<◌, ◌==◌, true, false, length, get_or, set, map, cond, Option, Some, None, refl, sym, ap, ap₂, subst, ◌∙◌, append_assoc, append-nil, eq-eqb}
use Rattle.std.specs.Prelude.{filter, ◌&&◌, ◌||◌, if◌then◌else◌, not, nat_lt, find, fold, slice_get}
use Rattle.std.proofs.lemmas.Bool.{cases_Bool, and_parts, and_right, cases_eq, ltb-true, ne_eqb}
use Rattle.us_output.specs.declared.rows.Grant.{Grant}
use Rattle.us_credit_rules.specs.Requests.{RisesTo}
use Rattle.us_credit_rules.proofs.LedgerLemmas.{AreUpTo, first_next, same_first}
use Rattle.us_credit_rules.proofs.WalkLemmas.{Rising, before, before_same, behind, behind_is, behind_quiet, behind_same, credit_in, credit_push, has_round, left_is, rounds_of}
use Rattle.std.specs.List.{AllByRecursion}
use Rattle.std.proofs.lemmas.List.{get_or-set_same, get_or-set_other, length-map, length-set}
use Rattle.std.proofs.lemmas.List.Elements.{filter_agree, filter_passes, recursion_from_All}
use Rattle.us_flows.specs.Tables.{Tables, FlowTable}
use Rattle.us_flows.specs.Clusters.{Turn, makes_requests, table_order}
use Rattle.us_flows.specs.Lawful.{AreTables}
use Rattle.us_bucket.specs.Levels.{Level, IsLevel, full, refilled, spent, units_in}
use Rattle.us_bucket.proofs.LevelLemmas.{refilled-rate, refilled-burst, spent-rate, spent-burst}
use Rattle.us_requests.specs.Traces.{TraceAsks}
use Rattle.us_output.specs.declared.rows.Row.{Row}
use Rattle.us_output.proofs.PartLemmas.{all_weaker}
use Rattle.us_lawful.specs.Runs.{Run, requested_in, run_in}
use Rattle.us_lawful.specs.Rates.{flow_credit, flow_rate_holds}
use Rattle.us_lawful.specs.Finals.{level_left, units_left}
use Rattle.us_credit_rules.specs.declared.buckets.FlowAccount.{FlowAccount}
use Rattle.us_credit_rules.specs.Seats.{flow_in, is_number, names}
use Rattle.us_credit_rules.specs.Shorts.{IsFirstRound}
use Rattle.us_credit_rules.specs.Buckets.{account_of, credited_all, credited_at, credited_by, full_account, has, level_in, no_flow, units_of, with_bytes}
use Rattle.us_credit_rules.proofs.CreditLemmas.{flow_credit_is, own_lines}
use Rattle.us_credit_rules.proofs.SeatLemmas.{flow_named}
use Rattle.us_credit_rules.proofs.LevelLemmas.{emptied, full-is, has-both, has-nothing, spent-nothing, spent-spent}
use Rattle.us_credit_rules.proofs.BoundLemmas.{ends_well, had_ends, lacked_ends}

-- Rounds of lines that don't fall.

rises_end : (from latest : ℕ) (grants : List Grant) → RisesTo from latest grants → from ≤ latest
rises_end from latest [] rises = rises
rises_end from latest (g ∷ grants) rises = omega (arith, rises.0, rises_end g.round latest grants rises.1)

-- each is the latest at most
pub rises_most : (from latest : ℕ) (grants : List Grant) → RisesTo from latest grants → AreUpTo latest grants
rises_most from latest [] rises = tt
rises_most from latest (g ∷ grants) rises = (rises_end g.round latest grants rises.1, rises_most g.round latest grants rises.1)

-- with one line more
pub rises_push : (from latest : ℕ) (grants : List Grant) (g : Grant) → RisesTo from latest grants → latest ≤ g.round →
    RisesTo from g.round (grants ++ g ∷ [])
rises_push from latest [] g rises later = (omega (arith, rises, later), omega arith)
rises_push from latest (first ∷ grants) g rises later = (rises.0, rises_push first.round latest grants g rises.1 later)

-- of those that pass a test
pub rises_filter : (passes : Grant → Bool) (from latest : ℕ) (grants : List Grant) → RisesTo from latest grants →
    Rising (λ g. g.round) from (filter passes grants)
rises_filter passes from latest [] rises = tt
rises_filter passes from latest (g ∷ grants) rises = elim (cases_Bool (passes g)) [
  | inl is ↦ rw is (rises.0, rises_filter passes g.round latest grants rises.1)
  | inr out ↦ rw out (lower from g.round (filter passes grants) rises.0 (rises_filter passes g.round latest grants rises.1))
]
  where
    lower : (a b : ℕ) (grants : List Grant) → a ≤ b → Rising (λ g. g.round) b grants → Rising (λ g. g.round) a grants
    lower a b [] order rises = tt
    lower a b (g ∷ grants) order rises = (omega (arith, order, rises.0), rises.1)

-- One account, by the lines of its flow.

abbrev pub step : ℕ → FlowAccount → Grant → FlowAccount
step ticks a g = with_bytes ticks g.round g.credit a

-- what it says of credits: what is left behind the last of them, and in which round they are first lacked
record IsWalked (ticks rounds : ℕ) (l : Level) (f : ℕ → ℕ) (a : FlowAccount) : Type 0 where
  inside : a.as_of < rounds
  bucket : a.bucket ≡ behind ticks l f a.as_of
  quiet : (k : ℕ) → a.as_of < k → f k ≡ 0
  empty : a.empty ≡ spent a.bucket.burst (full a.bucket.rate a.bucket.burst)
  short : IsFirstRound rounds (has_round ticks l f) a.short

-- in a later round
grown : (ticks rounds : ℕ) (l : Level) (f : ℕ → ℕ) (a : FlowAccount) (round : ℕ) → IsLevel l →
    IsWalked ticks rounds l f a → a.as_of ≤ round → level_in ticks a.as_of a.bucket round ≡ behind ticks l f round
grown ticks rounds l f a round is walked later = elim (cases_eq a.as_of round) [
  | inl same ↦ ap level (eq-eqb a.as_of round same) ∙ walked.bucket ∙ ap (behind ticks l f) same
  | inr other ↦
      let count : a.as_of + (round - a.as_of) ≡ round = omega (arith, later) in
      ap level (ne_eqb a.as_of round other) ∙ ap (refilled ((round - a.as_of) * ticks)) walked.bucket
      ∙ sym (behind_quiet ticks l f a.as_of (round - a.as_of) is walked.quiet) ∙ ap (behind ticks l f) count
]
  where
    level : Bool → Level
    level same = if same then a.bucket else refilled ((round - a.as_of) * ticks) a.bucket

-- of the same flow
grown_flow : (ticks at round : ℕ) (l : Level) →
    ((level_in ticks at l round).rate ≡ l.rate) × ((level_in ticks at l round).burst ≡ l.burst)
grown_flow ticks at round l = either (at == round)
  where
    either : (same : Bool) → ((if same then l else refilled ((round - at) * ticks) l).rate ≡ l.rate)
        × ((if same then l else refilled ((round - at) * ticks) l).burst ≡ l.burst)
    either true = (refl, refl)
    either false = (refilled-rate ((round - at) * ticks) l, refilled-burst ((round - at) * ticks) l)

-- with one credit more
module _ (ticks rounds : ℕ) (l : Level) (f h : ℕ → ℕ) (a : FlowAccount) (g : Grant) (is : IsLevel l)
    (walked : IsWalked ticks rounds l f a) (later : a.as_of ≤ g.round) (early : g.round < rounds)
    (more : (k : ℕ) → h k ≡ f k + cond (g.round == k) g.credit 0) where
  abbrev now : Level
  now = level_in ticks a.as_of a.bucket g.round

  abbrev next : FlowAccount
  next = step ticks a g

  other : (k : ℕ) → (g.round ≡ k → ⊥) → h k ≡ f k
  other k apart = omega (arith, more k, ap (λ b. cond {A = ℕ} b g.credit 0) (ne_eqb g.round k apart))

  own : h g.round ≡ f g.round + g.credit
  own = more g.round ∙ ap (λ b. f g.round + cond b g.credit 0) (eq-eqb g.round g.round refl)

  at_now : now ≡ behind ticks l f g.round
  at_now = grown ticks rounds l f a g.round is walked later

  start : before ticks l h g.round ≡ before ticks l f g.round
  start = before_same ticks l h f g.round (λ k sooner. other k (λ same. omega (arith, same, sooner)))

  own_flow : (now.rate ≡ a.bucket.rate) × (now.burst ≡ a.bucket.burst)
  own_flow = grown_flow ticks a.as_of g.round a.bucket

  taken : next.bucket ≡ spent g.credit now
  taken = elim (cases_Bool (has now g.credit)) [
    | inl enough ↦ ap (λ b. if b then spent g.credit now else a.empty) enough
    | inr short ↦
        ap (λ b. if b then spent g.credit now else a.empty) short ∙ walked.empty
        ∙ ap₂ (λ rate burst. spent burst (full rate burst)) (sym own_flow.0) (sym own_flow.1)
        ∙ emptied now g.credit short
  ]

  here : has_round ticks l h g.round ≡ (has_round ticks l f g.round && not (not (has now g.credit)))
  here =
      ap₂ (λ level bytes. has level bytes) start own ∙ has-both (f g.round) g.credit (before ticks l f g.round)
      ∙ ap (λ level. has_round ticks l f g.round && has level g.credit) (sym (behind_is ticks l f g.round) ∙ sym at_now)
      ∙ ap (λ b. has_round ticks l f g.round && b) (twice (has now g.credit))
    where
      twice : (b : Bool) → b ≡ not (not b)
      twice true = refl
      twice false = refl

  walked_more : IsWalked ticks rounds l h next
  walked_more = record {
    inside = early;
    bucket =
        taken ∙ ap (spent g.credit) (at_now ∙ behind_is ticks l f g.round)
        ∙ spent-spent (f g.round) g.credit (before ticks l f g.round)
        ∙ ap₂ (λ bytes level. spent bytes level) (sym own) (sym start) ∙ sym (behind_is ticks l h g.round);
    quiet = λ k late. other k (λ same. omega (arith, same, late)) ∙ walked.quiet k (omega (arith, late, later));
    empty = walked.empty
        ∙ ap₂ (λ rate burst. spent burst (full rate burst))
        (sym (ap (λ (l : Level). l.rate) taken ∙ spent-rate g.credit now ∙ own_flow.0))
        (sym (ap (λ (l : Level). l.burst) taken ∙ spent-burst g.credit now ∙ own_flow.1));
    short = first_next rounds g.round (has_round ticks l f) (has_round ticks l h) (not (has now g.credit)) a.short early
        (λ k sooner. ap₂ (λ level bytes. has level bytes)
        (before_same ticks l h f k (λ i under. other i (λ same. omega (arith, same, under, sooner))))
        (other k (λ same. omega (arith, same, sooner))))
        here
        (λ k late within. (
          ap (has (before ticks l f k)) (walked.quiet k (omega (arith, late, later))) ∙ has-nothing (before ticks l f k),
          ap (has (before ticks l h k)) (other k (λ same. omega (arith, same, late)) ∙ walked.quiet k (omega (arith, late, later)))
              ∙ has-nothing (before ticks l h k),
        ))
        walked.short;
  }

-- with all of them
walked_all : (ticks rounds : ℕ) (l : Level) (done lines : List Grant) (a : FlowAccount) → IsLevel l →
    IsWalked ticks rounds l (credit_in done) a → Rising (λ g. g.round) a.as_of lines →
    AllByRecursion (λ g. g.round < rounds) lines → IsWalked ticks rounds l (credit_in (done ++ lines)) (fold (step ticks) a lines)
walked_all ticks rounds l done [] a is walked rises inside =
    subst (λ these. IsWalked ticks rounds l (credit_in these) a) (sym (append-nil done)) walked
walked_all ticks rounds l done (g ∷ lines) a is walked rises inside =
    subst (λ these. IsWalked ticks rounds l (credit_in these) (fold (step ticks) (step ticks a g) lines))
    (append_assoc done (g ∷ []) lines)
    (walked_all ticks rounds l (done ++ g ∷ []) lines (step ticks a g) is
    (walked_more ticks rounds l (credit_in done) (credit_in (done ++ g ∷ [])) a g is walked rises.0 inside.0 (credit_push done g))
    rises.1 inside.1)

-- All accounts, by the lines that find a place.

abbrev lines_at : ℕ → List Turn → ℕ → List Grant → List Grant
lines_at rounds turns place grants =
    filter (λ g. is_number place (flow_in (find (names g.id 0) turns)) && nat_lt g.round rounds) grants

module _ (rounds ticks : ℕ) (turns : List Turn) where
  pub same_length : (g : Grant) (flows : List FlowAccount) →
      length (credited_by rounds ticks turns flows g) ≡ length flows
  same_length g flows = of (flow_in (find (names g.id 0) turns)) (nat_lt g.round rounds)
    where
      of : (found : Option ℕ) (early : Bool) →
          length (if early then credited_at ticks g found flows else flows) ≡ length flows
      of found false = refl
      of None true = refl
      of (Some k) true = length-set flows k (step ticks (get_or flows k no_flow) g)

  credited_get : (grants : List Grant) (flows : List FlowAccount) (place : ℕ) → place < length flows →
      get_or (fold (credited_by rounds ticks turns) flows grants) place no_flow
      ≡ fold (step ticks) (get_or flows place no_flow) (lines_at rounds turns place grants)
  credited_get [] flows place inside = refl
  credited_get (g ∷ grants) flows place inside =
      credited_get grants (credited_by rounds ticks turns flows g) place (omega (arith, inside, same_length g flows))
      ∙ of (flow_in (find (names g.id 0) turns)) (nat_lt g.round rounds)
    where
      rest : List Grant
      rest = lines_at rounds turns place grants

      here : FlowAccount
      here = get_or flows place no_flow

      of : (found : Option ℕ) (early : Bool) →
          fold (step ticks) (get_or (if early then credited_at ticks g found flows else flows) place no_flow) rest
          ≡ fold (step ticks) here (cond (is_number place found && early) (g ∷ rest) rest)
      of None true = refl
      of None false = refl
      of (Some k) false =
          ap (λ b. fold (step ticks) here (cond b (g ∷ rest) rest)) (sym (and_right (k == place) false refl))
      of (Some k) true =
          let more : FlowAccount = step ticks (get_or flows k no_flow) g in
          elim (cases_eq k place) [
            | inl same ↦
                ap (λ a. fold (step ticks) a rest)
                (ap (λ n. get_or (set flows k more) n no_flow) (sym same)
                ∙ get_or-set_same flows k more no_flow (omega (arith, inside, same))
                ∙ ap (λ n. step ticks (get_or flows n no_flow) g) same)
                ∙ ap (λ b. fold (step ticks) here (cond (b && true) (g ∷ rest) rest)) (sym (eq-eqb k place same))
            | inr other ↦
                ap (λ a. fold (step ticks) a rest) (get_or-set_other flows k place more no_flow (λ same. other (sym same)))
                ∙ ap (λ b. fold (step ticks) here (cond (b && true) (g ∷ rest) rest)) (sym (ne_eqb k place other))
          ]

pub all_long : (rounds : ℕ) (t : Tables) (grants : List Grant) → length (credited_all rounds t grants) ≡ length t.flows
all_long rounds t grants =
    kept grants (map full_flow t.flows) ∙ length-map t.flows full_flow
  where
    full_flow : FlowTable → FlowAccount
    full_flow flow = full_account flow.rate flow.burst

    kept : (grants : List Grant) (flows : List FlowAccount) →
        length (fold (credited_by rounds t.round_ticks (table_order t)) flows grants) ≡ length flows
    kept [] flows = refl
    kept (g ∷ grants) flows =
        kept grants (credited_by rounds t.round_ticks (table_order t) flows g)
        ∙ same_length rounds t.round_ticks (table_order t) g flows

-- Of tables.

-- the lines that find a flow tell its id
own_is : (t : Tables) (i : ℕ) (flow : FlowTable) (rounds : ℕ) (grants : List Grant) → AreTables t →
    slice_get t.flows i ≡ Some flow → makes_requests flow.kind ≡ true →
    lines_at rounds (table_order t) i grants ≡ own_lines rounds flow.id grants
own_is t i flow rounds grants lawful at asks =
    filter_agree (λ (g : Grant). is_number i (flow_in (find (names g.id 0) (table_order t))) && nat_lt g.round rounds)
    (λ g. (g.id == flow.id) && nat_lt g.round rounds)
    (λ g. ap (λ b. b && nat_lt g.round rounds) (flow_named t i flow g.id lawful at asks)) grants

-- an item that others are made of
mapped : {X Y : Type 0} (f : X → Y) (xs : List X) (i : ℕ) (x : X) (d : Y) → slice_get xs i ≡ Some x →
    (get_or (map f xs) i d ≡ f x) × (i < length (map f xs))
mapped f [] i x d at = absurd (cc at)
mapped f (y ∷ xs) zero x d at =
    let same : y ≡ x = cc at in
    (ap f same, omega arith)
mapped f (y ∷ xs) (suc i) x d at =
    let rest = mapped f xs i x d at in
    (rest.0, omega (arith, rest.1))

-- What an account says: the first round that ends a span of too many bytes, where there is a limit, and what is left in the
-- bucket.
pub record IsFlowAccountOf (run : Run) (lines : List Row) (flow : FlowTable) (a : FlowAccount) : Type 0 where
  pub short : 0 < flow.rate →
      IsFirstRound run.rounds (λ round. flow_rate_holds run (record { maps = []; lines = lines }) round flow) a.short
  pub left : units_of run.tables.round_ticks (run.rounds - 1) a ≡ units_left run lines flow

-- the first round of a run that ends a span of too many bytes
first_end : (t : Tables) (flow : FlowTable) (f : ℕ → ℕ) (rounds : ℕ) (answer : Option ℕ) → 0 < flow.rate →
    IsFirstRound rounds (has_round t.round_ticks (full flow.rate flow.burst) f) answer →
    IsFirstRound rounds (ends_well t flow (rounds_of f 0 rounds)) answer
first_end t flow f rounds None some first = λ round within.
    had_ends t flow f some rounds round within (λ k early. first k (omega (arith, early, within)))
first_end t flow f rounds (Some first) some is = (
  is.0,
  lacked_ends t flow f some rounds first is.0 is.2 is.1,
  λ round early. had_ends t flow f some rounds round (omega (arith, early, is.0))
      (λ k under. is.2 k (omega (arith, under, early))),
)

-- what is answered of a flow
pub flow_is : (t : Tables) (v : TraceAsks) (lines : List Row) (latest i : ℕ) (flow : FlowTable) → AreTables t →
    slice_get t.flows i ≡ Some flow → makes_requests flow.kind ≡ true → 0 < v.rounds →
    RisesTo 0 latest (requested_in lines) →
    IsFlowAccountOf (run_in t v) lines flow (account_of (credited_all v.rounds t (requested_in lines)) i)
flow_is t v lines latest i flow lawful at asks some ordered =
    let grants : List Grant = requested_in lines in
    let ticks : ℕ = t.round_ticks in
    let last : ℕ = v.rounds - 1 in
    let made : FlowTable → FlowAccount = λ flow. full_account flow.rate flow.burst in
    let start : FlowAccount = full_account flow.rate flow.burst in
    let own : List Grant = own_lines v.rounds flow.id grants in
    let here = mapped made t.flows i flow no_flow at in
    let is : account_of (credited_all v.rounds t grants) i ≡ fold (step ticks) start own =
    credited_get v.rounds ticks (table_order t) grants (map made t.flows) i here.1
    ∙ ap₂ (fold (step ticks)) here.0 (own_is t i flow v.rounds grants lawful at asks) in
    let inside : AllByRecursion (λ g. g.round < v.rounds) own =
    all_weaker (λ g. ((g.id == flow.id) && nat_lt g.round v.rounds) ≡ true) (λ g. g.round < v.rounds)
    (λ g both. ltb-true g.round v.rounds (and_parts (g.id == flow.id) (nat_lt g.round v.rounds) both).1) own
    (recursion_from_All (λ (g : Grant). ((g.id == flow.id) && nat_lt g.round v.rounds) ≡ true) own
    (filter_passes (λ (g : Grant). (g.id == flow.id) && nat_lt g.round v.rounds) grants)) in
    let rising : Rising (λ g. g.round) 0 own =
    rises_filter (λ g. (g.id == flow.id) && nat_lt g.round v.rounds) 0 latest grants ordered in
    let l : Level = full flow.rate flow.burst in
    let walked : IsWalked ticks v.rounds l (credit_in own) (fold (step ticks) start own) =
    walked_all ticks v.rounds l [] own start (full-is flow.rate flow.burst) (record {
      inside = some;
      bucket = sym (spent-nothing l);
      quiet = λ k late. refl;
      empty = refl;
      short = λ round within. has-nothing (before ticks l (credit_in []) round);
    }) rising inside in
    let same : (k : ℕ) → k < v.rounds → flow_credit lines flow.id k ≡ credit_in own k =
    (λ k within. flow_credit_is v.rounds flow.id k lines within) in
    let done : IsFlowAccountOf (run_in t v) lines flow (fold (step ticks) start own) = record {
      short = λ limited.
          let ends : ℕ → Bool = ends_well t flow (rounds_of (flow_credit lines flow.id) 0 v.rounds) in
          same_first v.rounds ends (λ round. (flow.rate == 0) || ends round) (fold (step ticks) start own).short
          (λ round within. ap (λ b. b || ends round) (sym (ne_eqb flow.rate 0 (λ none. omega (arith, none, limited)))))
          (first_end t flow (flow_credit lines flow.id) v.rounds (fold (step ticks) start own).short limited
          (same_first v.rounds (has_round ticks l (credit_in own)) (has_round ticks l (flow_credit lines flow.id))
          (fold (step ticks) start own).short (λ round within. ap₂ (λ level bytes. has level bytes)
          (before_same ticks l (credit_in own) (flow_credit lines flow.id) round
          (λ k early. sym (same k (omega (arith, early, within))))) (sym (same round within))) walked.short));
      left =
          let count : v.rounds ≡ suc last = omega (arith, some) in
          ap units_in (grown ticks v.rounds l (credit_in own) (fold (step ticks) start own) last (full-is flow.rate flow.burst)
          walked (omega (arith, walked.inside))
          ∙ behind_same ticks l (credit_in own) (λ k. flow_credit lines flow.id (0 + k)) last (λ k early.
          let at : k ≡ 0 + k = omega arith in
          sym (same k (omega (arith, early, some))) ∙ ap (flow_credit lines flow.id) at)
          ∙ sym (left_is ticks l (flow_credit lines flow.id) 0 last)
          ∙ ap (λ n. level_left ticks (rounds_of (flow_credit lines flow.id) 0 n) l) (sym count));
    } in
    subst (IsFlowAccountOf (run_in t v) lines flow) (sym is) done
