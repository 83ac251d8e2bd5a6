-- One channel's round: its reserves and the grants of its lines are what is placed on its board, and its MAP has the
-- elements of this board.
use Rattle.std.proofs.Common.{◌≡◌, ◌≢◌, ℕ, ◌+◌, ◌-◌, ◌%◌, ◌<◌, ◌≤◌, ◌==◌, eq-eqb, ne_eqb, Bool, true, if◌then◌else◌, List, [], ◌∷◌, ◌++◌, map, cond, refl, sym, ap, ap₂, ◌∙◌, arith, inl, inr}
use Rattle.std.specs.Prelude.{◌&&◌, filter, flat_map, sum_by}
use Rattle.std.specs.List.{AllByRecursion}
use Rattle.std.proofs.lemmas.Bool.{cases_Bool, cases_eq}
use Rattle.std.proofs.lemmas.List.{map-append}
use Rattle.std.proofs.lemmas.List.Sums.{sum_by-cons}
use Rattle.us_slots.specs.UsageCodes as codes
use Rattle.us_slots.specs.Bursts.{ChannelBursts}
use Rattle.us_codec.specs.Elements.{MapElement, null_at}
use Rattle.us_codec.specs.Bodies.{IsElementList, IsMapBody}
use Rattle.us_flows.specs.declared.channels.Channel.{Channel}
use Rattle.us_flows.specs.Tables.{Tables, map_len}
use Rattle.us_holes.specs.Boards.{Board, Assignment}
use Rattle.us_holes.specs.Runs.{Run, runs_of, runs_between}
use Rattle.us_holes.proofs.RunLemmas.{runs_follow}
use Rattle.us_holes.proofs.OrderLaws.{assignments_stand_in_order}
use Rattle.us_calendar.specs.Runs.{assignments_of}
use Rattle.us_calendar.specs.declared.settled.Settled.{Settled}
use Rattle.us_calendar.specs.declared.settled.Settled.TheVariants as settled
use Rattle.us_split.specs.Claims.{Claim}
use Rattle.us_channel.specs.Placements.{PlacedClaim, assignments}
use Rattle.us_channel.specs.Channels.{Built}
use Rattle.us_channel.specs.Laws.{AreGrantsFor, HaveMinislots, IsMadeOf, placed_on, reserve, reserve_assignments}
use Rattle.us_channel.specs.Maps.{run_element, elements_of, pending_element, map_of}
use Rattle.us_output.specs.declared.rows.Grant.{Grant}
use Rattle.us_output.specs.declared.rows.Row.{Row}
use Rattle.us_output.specs.declared.rows.Row.TheVariants as rows
use Rattle.us_output.specs.Outputs.{pendings_on, built_map, settled_row, grant_row}
use Rattle.us_output.specs.Leftovers.{IsBuiltFor}
use Rattle.us_output.proofs.PartLemmas.{all_append, all_weaker}
use Rattle.us_output.proofs.OwnerLemmas.{HaveOwners, IsOwnedPart}
use Rattle.us_lawful.specs.Runs.{as_grant, grants_in}
use Rattle.us_lawful.specs.Regions.{Region, reserve_region, reserve_regions, region_of, grant_regions, element_regions, minislot_holds}
use Rattle.us_lawful.specs.Laws.{region_for, element_region_for}
use Rattle.us_lawful.proofs.SameLemmas.{Same, same_map, same_moved, sum_append, sum_filter, sum_filter_map, sum_map, worth}
use Rattle.us_lawful.proofs.RegionLemmas.{moved_holds, ordered_assignments_hold}
use Rattle.us_lawful.proofs.ElementRegionLemmas.{element_regions_of_runs}
use Rattle.us_lawful.proofs.RoundLemmas.{CountsAt, rows_in}

-- Reserves.

reserve_same : (start slots iuc : ℕ) → reserve_region start slots iuc ≡ map region_for (reserve start slots iuc)
reserve_same start slots iuc = elim (cases_Bool (slots == 0)) [
  | inl none ↦ rw none refl
  | inr some ↦ rw some refl
]

-- the Initial Maintenance of a round, as an assignment, if it has one
abbrev maintained : ℕ → Channel → List Assignment
maintained round c =
    if round % c.maintenance_every == 0 then reserve 0 c.maintenance_minislots codes.initial_maintenance else []

maintained_same : (round : ℕ) (c : Channel) →
    (if round % c.maintenance_every == 0 then reserve_region 0 c.maintenance_minislots codes.initial_maintenance else [])
    ≡ map region_for (maintained round c)
maintained_same round c = elim (cases_Bool (round % c.maintenance_every == 0)) [
  | inl meets ↦ rw meets (reserve_same 0 c.maintenance_minislots codes.initial_maintenance)
  | inr other ↦ rw other refl
]

reserves_same : (t : Tables) (round : ℕ) (c : Channel) →
    reserve_regions t round c ≡ map region_for (reserve_assignments c (map_len t c) round)
reserves_same t round c =
    let start : ℕ = map_len t c - c.contention_minislots in
    ap₂ (λ xs ys. xs ++ ys) (maintained_same round c) (reserve_same start c.contention_minislots codes.request)
    ∙ sym (map-append region_for (maintained round c) (reserve start c.contention_minislots codes.request))

-- Lines.

-- what the minislots of a grant of this round and channel are worth; other lines are worth nothing
abbrev span_worth : (Region → ℕ) → ℕ → ℕ → Row → ℕ
span_worth f round id row =
    worth (λ (g : Grant). cond ((g.round == round) && (g.channel == id)) (f (region_of g)) 0) (as_grant row)

worth_counts : (f : Region → ℕ) (round id : ℕ) → CountsAt round id (span_worth f round id)
worth_counts f round id (rows.Granted g) none = rw none refl
worth_counts f round id (rows.Missed m) none = refl
worth_counts f round id (rows.Final state) none = refl
worth_counts f round id (rows.Activity activity) none = refl
worth_counts f round id (rows.Counts counts) none = refl

sum_of_spans : (f : Region → ℕ) (round id : ℕ) (lines : List Row) →
    sum_by f (grant_regions round id lines) ≡ sum_by (span_worth f round id) lines
sum_of_spans f round id lines =
    let here : Grant → Bool = λ g. (g.round == round) && (g.channel == id) in
    sum_map f region_of (filter here (grants_in lines))
    ∙ sum_filter (λ g. f (region_of g)) here (grants_in lines)
    ∙ sum_filter_map (λ g. cond (here g) (f (region_of g)) 0) as_grant lines

-- the lines of what a calendar settled,
settled_lines : (f : Region → ℕ) (round : ℕ) (c : Channel) (all : List Settled) →
    sum_by (span_worth f round c.id) (map (settled_row round c) all)
    ≡ sum_by (λ a. f (region_for a)) (flat_map assignments_of all)
settled_lines f round c [] = refl
settled_lines f round c (settled.Granted kind e i k start slots owner ∷ all) =
    let one : Settled = settled.Granted kind e i k start slots owner in
    let a : Assignment = record { start = start; slots = slots; owner = owner } in
    let here : span_worth f round c.id (settled_row round c one) ≡ f (region_for a) =
    rw (eq-eqb round round refl, eq-eqb c.id c.id refl) refl in
    omega (
      arith,
      here,
      sum_by-cons (span_worth f round c.id) (settled_row round c one) (map (settled_row round c) all),
      sum_by-cons (λ a. f (region_for a)) a (flat_map assignments_of all),
      settled_lines f round c all,
    )
settled_lines f round c (settled.Missed kind e i k ∷ all) =
    omega (
      arith,
      sum_by-cons (span_worth f round c.id) (settled_row round c (settled.Missed kind e i k))
          (map (settled_row round c) all),
      settled_lines f round c all,
    )

-- and of grants
grant_lines : (f : Region → ℕ) (round : ℕ) (c : Channel) (all : List PlacedClaim) →
    sum_by (span_worth f round c.id) (map (grant_row round c) all) ≡ sum_by (λ a. f (region_for a)) (assignments all)
grant_lines f round c [] = refl
grant_lines f round c (g ∷ all) =
    let here : span_worth f round c.id (grant_row round c g) ≡ f (region_for g.assignment) =
    rw (eq-eqb round round refl, eq-eqb c.id c.id refl) refl in
    omega (
      arith,
      here,
      sum_by-cons (span_worth f round c.id) (grant_row round c g) (map (grant_row round c) all),
      sum_by-cons (λ a. f (region_for a)) g.assignment (assignments all),
      grant_lines f round c all,
    )

-- of this round and channel these lines are those of its board; others are left open
abbrev pub AreLinesOf : ℕ → Built → List Row → Type 0
AreLinesOf round b lines =
    (f : Row → ℕ) → CountsAt round b.channel.id f → sum_by f lines ≡ sum_by f (rows_in round b)

-- the reserves and the grants of the lines are what is placed
spans_same : (t : Tables) (round : ℕ) (b : Built) (lines : List Row) → AreLinesOf round b lines →
    Same (reserve_regions t round b.channel ++ grant_regions round b.channel.id lines) (map region_for (placed_on t round b))
spans_same t round b lines told f =
    let c : Channel = b.channel in
    let reserved : List Assignment = reserve_assignments c (map_len t c) round in
    let granted : List Assignment = flat_map assignments_of b.settled in
    let h : Assignment → ℕ = λ a. f (region_for a) in
    let line : Row → ℕ = span_worth f round c.id in
    let left : sum_by f (reserve_regions t round c) ≡ sum_by h reserved =
    ap (sum_by f) (reserves_same t round c) ∙ sum_map f region_for reserved in
    let right : sum_by f (grant_regions round c.id lines) ≡ sum_by h granted + sum_by h (assignments b.grants) =
    omega (
      arith,
      sum_of_spans f round c.id lines,
      told line (worth_counts f round c.id),
      sum_append line (map (settled_row round c) b.settled) (map (grant_row round c) b.grants),
      settled_lines f round c b.settled,
      grant_lines f round c b.grants,
    ) in
    omega (
      arith,
      sum_append f (reserve_regions t round c) (grant_regions round c.id lines),
      left,
      right,
      sum_map f region_for (placed_on t round b),
      sum_append h (reserved ++ granted) (assignments b.grants),
      sum_append h reserved granted,
    )

-- Elements.

-- 1 for a Null
abbrev null_one : MapElement → ℕ
null_one e = cond (e.iuc == codes.null) 1 0

no_nulls : (es : List MapElement) → AllByRecursion (λ e. e.iuc ≢ codes.null) es → sum_by null_one es ≡ 0
no_nulls [] others = refl
no_nulls (e ∷ es) others =
    let other : null_one e ≡ 0 = rw (ne_eqb e.iuc codes.null others.0) refl in
    omega (arith, other, sum_by-cons null_one e es, no_nulls es others.1)

one_null : (es : List MapElement) → IsElementList es → sum_by null_one es ≡ 1
one_null es is =
    let none_behind : AllByRecursion (λ e. e.iuc ≢ codes.null) is.after =
    all_weaker (λ e. (e.iuc ≢ codes.null) × (e.offset ≡ is.len)) (λ e. e.iuc ≢ codes.null) (λ e both. both.0) is.after
    is.pending in
    omega (
      arith,
      ap (sum_by null_one) is.joined,
      sum_append null_one is.before (null_at is.len ∷ is.after),
      sum_by-cons null_one (null_at is.len) is.after,
      no_nulls is.before is.others,
      no_nulls is.after none_behind,
    )

runs_other : (c : Channel) (runs : List Run) → sum_by null_one (map (run_element c) runs) ≡ 0 →
    AllByRecursion (λ run. (run_element c run).iuc ≢ codes.null) runs
runs_other c [] none = tt
runs_other c (run ∷ runs) none =
    let e : MapElement = run_element c run in
    let all : sum_by null_one (e ∷ map (run_element c) runs) ≡ null_one e + sum_by null_one (map (run_element c) runs) =
    sum_by-cons null_one e (map (run_element c) runs) in (
      (λ same.
          let one : null_one e ≡ 1 = rw (eq-eqb e.iuc codes.null same) refl in
          omega (arith, all, one, none)),
      runs_other c runs (omega (arith, all, none)),
    )

-- the elements of a channel's MAP are the pieces of the runs of its board
map_pieces : (t : Tables) (round : ℕ) (pending : List (ℕ × ℕ)) (b : Built) → IsBuiltFor t b →
    IsMapBody (built_map t round pending b) →
    element_regions (built_map t round pending b).elements ≡ map (element_region_for b.channel) (runs_of b.board.cells)
unfolding map_of elements_of
map_pieces t round pending b built lawful =
    let c : Channel = b.channel in
    let len : ℕ = map_len t c in
    let runs : List Run = runs_of b.board.cells in
    let elements : List MapElement = map (run_element c) runs in
    let after : List MapElement = map (pending_element len) (pendings_on c.id pending) in
    let one : sum_by null_one (elements ++ null_at len ∷ after) ≡ 1 =
    one_null (elements ++ null_at len ∷ after) lawful.list in
    let none : sum_by null_one elements ≡ 0 =
    omega (
      arith,
      one,
      sum_append null_one elements (null_at len ∷ after),
      sum_by-cons null_one (null_at len) after,
    ) in
    element_regions_of_runs c 0 len runs after (runs_follow 0 len b.board.cells (omega (arith, built.len)))
    (runs_other c runs none)

-- What is placed has minislots.

reserve_has : (start slots iuc : ℕ) → HaveMinislots (reserve start slots iuc)
reserve_has start slots iuc = elim (cases_eq slots 0) [
  | inl none ↦ rw (eq-eqb slots 0 none) tt
  | inr some ↦ rw (ne_eqb slots 0 some) (omega (arith, some), tt)
]

maintained_has : (round : ℕ) (c : Channel) → HaveMinislots (maintained round c)
maintained_has round c = elim (cases_Bool (round % c.maintenance_every == 0)) [
  | inl meets ↦ rw meets (reserve_has 0 c.maintenance_minislots codes.initial_maintenance)
  | inr other ↦ rw other tt
]

grants_have : (bursts : ChannelBursts) (claims : List Claim) (grants : List PlacedClaim) →
    AreGrantsFor bursts claims grants → HaveMinislots (assignments grants)
unfolding AreGrantsFor
grants_have bursts [] [] are = tt
grants_have bursts [] (g ∷ grants) are = absurd are
grants_have bursts (claim ∷ claims) [] are = tt
grants_have bursts (claim ∷ claims) (g ∷ grants) are = elim are [
  | inl own ↦ (own.0.minislots, grants_have bursts claims grants own.1)
  | inr later ↦ grants_have bursts claims (g ∷ grants) later
]

pub placed_have : (t : Tables) (round : ℕ) (b : Built) (claims : List Claim) →
    HaveOwners (flat_map assignments_of b.settled) → AreGrantsFor b.channel.bursts claims b.grants →
    HaveMinislots (placed_on t round b)
placed_have t round b claims owned are =
    let c : Channel = b.channel in
    let len : ℕ = map_len t c in
    let contention : List Assignment = reserve (len - c.contention_minislots) c.contention_minislots codes.request in
    let granted : List Assignment = flat_map assignments_of b.settled in
    all_append (λ i. 1 ≤ i.slots) (maintained round c ++ contention ++ granted) (assignments b.grants)
    (all_append (λ i. 1 ≤ i.slots) (maintained round c ++ contention) granted
    (all_append (λ i. 1 ≤ i.slots) (maintained round c) contention (maintained_has round c)
    (reserve_has (len - c.contention_minislots) c.contention_minislots codes.request))
    (all_weaker IsOwnedPart (λ i. 1 ≤ i.slots) (λ i has. omega (arith, has.1)) granted owned))
    (grants_have c.bursts claims b.grants are)

-- Minislots.

-- a channel's round: its board is made of what is placed, and its MAP is lawful
pub record IsPlacedRound (t : Tables) (round : ℕ) (pending : List (ℕ × ℕ)) (b : Built) : Type 0 where
  pub built : IsBuiltFor t b
  pub made : IsMadeOf (placed_on t round b) (map_len t b.channel) b.board
  pub some : HaveMinislots (placed_on t round b)
  pub body : IsMapBody (built_map t round pending b)

-- Each minislot of its MAP is what it must be.
pub minislots_hold : (t : Tables) (round : ℕ) (pending : List (ℕ × ℕ)) (b : Built) (lines : List Row) (at : ℕ) →
    IsPlacedRound t round pending b → AreLinesOf round b lines →
    minislot_holds b.channel (map_len t b.channel)
    (reserve_regions t round b.channel ++ grant_regions round b.channel.id lines)
    (element_regions (built_map t round pending b).elements) at ≡ true
minislots_hold t round pending b lines at is told =
    let c : Channel = b.channel in
    let len : ℕ = map_len t c in
    let placed : List Assignment = placed_on t round b in
    let regions : List Region = reserve_regions t round c ++ grant_regions round c.id lines in
    let stand = assignments_stand_in_order len placed is.made.fit
    (all_weaker (λ i. 1 ≤ i.slots) (λ i. 0 < i.slots) (λ i some. omega (arith, some)) placed is.some) in
    let ordered : List Assignment = stand.0 in
    let pieces : element_regions (built_map t round pending b).elements ≡ map (element_region_for c) (runs_between 0 ordered len) =
    map_pieces t round pending b is.built is.body
    ∙ ap (λ (board : Board). map (element_region_for c) (runs_of board.cells)) is.made.all ∙ ap (map (element_region_for c)) stand.1.runs in
    let same : Same regions (map region_for ordered) =
    (λ f. spans_same t round b lines told f ∙ same_map region_for placed ordered (same_moved placed ordered stand.1.same) f) in
    ap (λ pieces. minislot_holds c len regions pieces at) pieces
    ∙ moved_holds c len regions (map region_for ordered) (map (element_region_for c) (runs_between 0 ordered len)) at same
    ∙ ordered_assignments_hold c len ordered at stand.1.order
