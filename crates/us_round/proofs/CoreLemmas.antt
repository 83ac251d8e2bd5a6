-- What a core is made of, at each stage of a round.
use Rattle.std.proofs.Common.{◌≡◌, ℕ, ◌+◌, ◌==◌, if◌then◌else◌, List, Option, length, map, refl, ap, ap₂, sym, subst, ◌∙◌, inl, inr}
use Rattle.std.proofs.lemmas.Bool.{cases_Bool}
use Rattle.std.proofs.lemmas.List.{length-map, length-replicate}
use Rattle.std.specs.Arc.{arc_value}
use Rattle.us_flows.specs.Tables.{Tables}
use Rattle.us_flows.specs.Clusters.{words_of, turns_of}
use Rattle.us_flows.specs.Lawful.{AreTables}
use Rattle.us_bucket.specs.Levels.{Level, bytes_in, full, refilled, reserve_in}
use Rattle.us_split.specs.Plans.{plan_for, reserved_for}
use Rattle.us_split.specs.Asking.{Asking, all_asked_more, nobody_asks, numbers_of, pending_places, settled}
use Rattle.us_split.specs.Requested.{with_cut}
use Rattle.us_split.specs.Planners.{Planner, before_planning}
use Rattle.us_channel.specs.Channels.{Built}
use Rattle.us_round.specs.Buckets.{Buckets, begun_buckets, full_buckets, full_reserves}
use Rattle.us_round.specs.declared.cores.Kept.{Kept}
use Rattle.us_round.specs.Cores.{AreBuckets, AreCredited, AreKept, Core, IsRoom, begun_core, core_of, credited_core, idle_of, opening_core, planned_core, plan_over, reserved_over}
use Rattle.us_split.specs.Claims.{Claim, all_claims}
use Rattle.us_round.specs.Rounds.{all_grants, uncredited, unreserved}
use Rattle.us_round.proofs.CutLemmas.{asked_long}
use Rattle.us_round.proofs.NoRateLemmas.{begun_room}
use Rattle.us_round.proofs.StateLemmas.{left-length, spent-length}

-- what a core has in memory, in its box
abbrev pub core_in : Kept → Core
core_in k = core_of (arc_value k.config) k.round k.askers k.buckets k.reserves k.planner

abbrev pub IsKept : Kept → Type 0
IsKept k = AreKept (arc_value k.config) k.askers k.buckets k.reserves k.planner k.allowances.items k.left.items

pub kept_too : (k boxed : Kept) → k ≡ boxed → IsKept boxed → IsKept k
kept_too k boxed same are = subst IsKept (sym same) are

-- Before round 0.

pub opening_kept : (t : Tables) (asking : Asking) (buckets reserves : Buckets) (planner : Planner)
    (allowances : List (Option ℕ)) (left : List ℕ) → AreTables t → length allowances ≡ length t.flows →
    IsRoom (full_reserves t).levels left → asking ≡ nobody_asks t → buckets ≡ full_buckets t → reserves ≡ full_reserves t →
    planner ≡ before_planning t → AreKept t asking buckets reserves planner allowances left
opening_kept t asking buckets reserves planner allowances left lawful long room asks fills keeps plans =
    rw (asks, fills, keeps, plans) (record {
      lawful = lawful;
      words = length-replicate (length (words_of t)) 0;
      buckets = record { flows = length-map t.flows (λ flow. full flow.rate flow.burst); ticks = refl };
      reserves = record { flows = length-map t.flows (λ flow. full flow.min_rate flow.burst); ticks = refl };
      round = refl;
      tables = refl;
      settled = refl;
      planner = refl;
      allowances = long;
      left = room;
    })

pub opening_value : (t : Tables) (asking : Asking) (buckets reserves : Buckets) (planner : Planner) →
    asking ≡ nobody_asks t → buckets ≡ full_buckets t → reserves ≡ full_reserves t → planner ≡ before_planning t →
    core_of t 0 asking buckets reserves planner ≡ opening_core t
opening_value t asking buckets reserves planner asks fills keeps plans = rw (asks, fills, keeps, plans) refl

-- The beginning of a round.

begun_long : (round ticks : ℕ) (levels : List Level) →
    length (if round == 0 then levels else map (refilled ticks) levels) ≡ length levels
begun_long round ticks levels = elim (cases_Bool (round == 0)) [
  | inl first ↦ rw first refl
  | inr later ↦ rw later (length-map levels (refilled ticks))
]

begun_too : (t : Tables) (round : ℕ) (buckets : Buckets) → AreBuckets t buckets → AreBuckets t (begun_buckets round buckets)
begun_too t round buckets are = record {
  flows = begun_long round buckets.ticks buckets.levels ∙ are.flows;
  ticks = are.ticks;
}

pub begun_kept : (t : Tables) (round : ℕ) (cut : List ℕ) (asking next : Asking) (buckets after reserves later : Buckets)
    (planner : Planner) (allowances : List (Option ℕ)) (left : List ℕ) →
    AreKept t asking buckets reserves planner allowances left → length cut ≡ length (words_of t) →
    next ≡ all_asked_more cut asking → after ≡ begun_buckets round buckets → later ≡ begun_buckets round reserves →
    AreKept t next after later planner allowances left
begun_kept t round cut asking next buckets after reserves later planner allowances left are long asks begins also =
    rw (asks, begins, also) (record {
      lawful = are.lawful;
      words = ap (λ u. length (with_cut u asking.outstanding cut)) are.tables
          ∙ asked_long t asking.outstanding cut are.words long;
      buckets = begun_too t round buckets are.buckets;
      reserves = begun_too t round reserves are.reserves;
      round = refl;
      tables = are.tables;
      settled = ap (λ os. with_cut asking.tables os cut) are.settled;
      planner = are.planner;
      allowances = are.allowances;
      left = begun_room round reserves.ticks reserves.levels left are.left;
    })

-- buckets as they have grown
abbrev grown_by : ℕ → ℕ → List Level → List Level
grown_by round ticks levels = if round == 0 then levels else map (refilled ticks) levels

pub begun_value : (t : Tables) (round : ℕ) (cut : List ℕ) (asking next : Asking) (buckets after reserves later : Buckets)
    (planner : Planner) → asking.tables ≡ t → buckets.ticks ≡ t.round_ticks → reserves.ticks ≡ t.round_ticks →
    next ≡ all_asked_more cut asking → after ≡ begun_buckets round buckets → later ≡ begun_buckets round reserves →
    core_of t round next after later planner ≡ begun_core (core_of t round asking buckets reserves planner) cut
begun_value t round cut asking next buckets after reserves later planner own ticks also asks begins too =
    let begun : Core = begun_core (core_of t round asking buckets reserves planner) cut in
    ap₂ (λ a b. core_of t round a b later planner) asks begins
    ∙ ap (λ r. core_of t round (all_asked_more cut asking) (begun_buckets round buckets) r planner) too
    ∙ ap₂ (λ n m. record begun {
      outstanding = with_cut asking.tables asking.outstanding cut;
      buckets = grown_by round n buckets.levels;
      reserves = grown_by round m reserves.levels;
    }) ticks also
    ∙ ap (λ u. record begun { outstanding = with_cut u asking.outstanding cut }) own

-- The plan.

-- the claims are those of what the core is made of,
pub claims_over : (t tables : Tables) (round : ℕ) (asking : Asking) (buckets reserves : Buckets) (planner : Planner)
    (bs : List Built) (outstanding free : List ℕ) (claims : List (List Claim)) → tables ≡ t →
    outstanding ≡ asking.outstanding → free ≡ idle_of bs →
    claims ≡ all_claims tables
    (plan_for tables outstanding (map bytes_in buckets.levels) (map reserve_in reserves.levels) free) →
    claims ≡ all_claims t (plan_over (core_of t round asking buckets reserves planner) bs)
claims_over t tables round asking buckets reserves planner bs outstanding free claims own asked idle is =
    let allowed : List (Option ℕ) = map bytes_in buckets.levels in
    let kept : List ℕ = map reserve_in reserves.levels in
    is ∙ ap (λ x. all_claims x (plan_for x outstanding allowed kept free)) own
    ∙ ap₂ (λ os ms. all_claims t (plan_for t os allowed kept ms)) asked idle

-- and so are the reserves
pub reserves_over : (t tables : Tables) (round : ℕ) (asking : Asking) (buckets reserves : Buckets) (planner : Planner)
    (bs : List Built) (outstanding free : List ℕ) (levels : List Level) → tables ≡ t →
    outstanding ≡ asking.outstanding → free ≡ idle_of bs →
    levels ≡ unreserved
    (reserved_for tables outstanding (map bytes_in buckets.levels) (map reserve_in reserves.levels) free) 0 reserves.levels →
    levels ≡ unreserved (reserved_over (core_of t round asking buckets reserves planner) bs) 0 reserves.levels
reserves_over t tables round asking buckets reserves planner bs outstanding free levels own asked idle is =
    let allowed : List (Option ℕ) = map bytes_in buckets.levels in
    let kept : List ℕ = map reserve_in reserves.levels in
    is ∙ ap (λ x. unreserved (reserved_for x outstanding allowed kept free) 0 reserves.levels) own
    ∙ ap₂ (λ os ms. unreserved (reserved_for t os allowed kept ms) 0 reserves.levels) asked idle

pub planned_kept : (t : Tables) (asking : Asking) (buckets after reserves later : Buckets) (planner next : Planner)
    (allowances allowed : List (Option ℕ)) (left rest : List ℕ) → AreKept t asking buckets reserves planner allowances left →
    after ≡ buckets → length later.levels ≡ length reserves.levels → later.ticks ≡ reserves.ticks →
    later.round ≡ reserves.round → next.tables ≡ planner.tables → length allowed ≡ length allowances →
    IsRoom later.levels rest → AreKept t asking after later next allowed rest
planned_kept t asking buckets after reserves later planner next allowances allowed left rest are same long ticks round tables
    allows room = rw same (record {
      lawful = are.lawful;
      words = are.words;
      buckets = are.buckets;
      reserves = record { flows = long ∙ are.reserves.flows; ticks = ticks ∙ are.reserves.ticks };
      round = round ∙ are.round;
      tables = are.tables;
      settled = are.settled;
      planner = tables ∙ are.planner;
      allowances = allows ∙ are.allowances;
      left = room;
    })

pub planned_value : (t : Tables) (round : ℕ) (asking : Asking) (buckets after reserves later : Buckets)
    (planner next : Planner) (bs : List Built) → after ≡ buckets →
    later.levels ≡ unreserved (reserved_over (core_of t round asking buckets reserves planner) bs) 0 reserves.levels →
    next.claims ≡ all_claims t (plan_over (core_of t round asking buckets reserves planner) bs) →
    core_of t round asking after later next ≡ planned_core (core_of t round asking buckets reserves planner) bs
planned_value t round asking buckets after reserves later planner next bs same leaves claims =
    ap (λ b. core_of t round asking b later next) same
    ∙ ap₂ (λ ls cs. record (core_of t round asking buckets reserves planner) { reserves = ls; claims = cs }) leaves claims

-- The end.

pub closed_kept : (t : Tables) (asking now next : Asking) (buckets after reserves : Buckets) (planner : Planner)
    (allowances : List (Option ℕ)) (left : List ℕ) (bs : List Built) →
    AreKept t asking buckets reserves planner allowances left → AreCredited (all_grants bs) asking now buckets after →
    next ≡ settled now → AreKept t next after reserves planner allowances left
closed_kept t asking now next buckets after reserves planner allowances left bs are done ends =
    rw ends (record {
      lawful = are.lawful;
      words = ap (λ os. length os) done.left ∙ left-length (all_grants bs) 0 asking.left ∙ ap (λ os. length os) are.settled
          ∙ are.words;
      buckets = record {
        flows = ap (λ ls. length ls) done.levels ∙ spent-length (all_grants bs) 0 buckets.levels ∙ are.buckets.flows;
        ticks = done.ticks ∙ are.buckets.ticks;
      };
      reserves = are.reserves;
      round = are.round ∙ sym done.round;
      tables = done.tables ∙ are.tables;
      settled = refl;
      planner = are.planner;
      allowances = are.allowances;
      left = are.left;
    })

pub closed_value : (t : Tables) (round : ℕ) (asking now next : Asking) (buckets after reserves : Buckets) (planner : Planner)
    (bs : List Built) → asking.left ≡ asking.outstanding → asking.tables ≡ t →
    AreCredited (all_grants bs) asking now buckets after → next ≡ settled now →
    core_of t (round + 1) next after reserves planner ≡ credited_core (core_of t round asking buckets reserves planner) bs
closed_value t round asking now next buckets after reserves planner bs same own done ends =
    let left : now.left ≡ uncredited (all_grants bs) 0 asking.outstanding =
    done.left ∙ ap (λ os. uncredited (all_grants bs) 0 os) same in
    let pending : pending_places now.outstanding now.left (numbers_of (turns_of now.tables))
    ≡ pending_places asking.outstanding (uncredited (all_grants bs) 0 asking.outstanding) (numbers_of (turns_of t)) =
    ap (λ os. pending_places os now.left (numbers_of (turns_of now.tables))) done.outstanding
    ∙ ap (λ os. pending_places asking.outstanding os (numbers_of (turns_of now.tables))) left
    ∙ ap (λ u. pending_places asking.outstanding (uncredited (all_grants bs) 0 asking.outstanding) (numbers_of (turns_of u)))
    (done.tables ∙ own) in
    ap (λ a. core_of t (round + 1) a after reserves planner) ends
    ∙ ap₂ (λ n os. left_core n os after.levels (pending_places now.outstanding now.left (numbers_of (turns_of now.tables)))) done.round left
    ∙ ap₂ (λ ls ps. left_core buckets.round (uncredited (all_grants bs) 0 asking.outstanding) ls ps) done.levels pending
  where
    left_core : ℕ → List ℕ → List Level → List ℕ → Core
    left_core told left levels pending = record {
      tables = t;
      round = round + 1;
      told = told;
      outstanding = left;
      buckets = levels;
      reserves = reserves.levels;
      pending = pending;
      claims = planner.claims;
    }
