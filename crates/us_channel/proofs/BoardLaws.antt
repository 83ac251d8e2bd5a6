-- What a channel's board has: its reserves, what its calendar granted, and its grants, each of which fits and is of a claim.
use Rattle.std.proofs.Common.{◌≡◌, ℕ, ◌-◌, ◌%◌, ◌≤◌, ◌==◌, if◌then◌else◌, List, [], ◌∷◌, ◌++◌, map, flat_map, Bool, true, Option, Some, None, refl, sym, ap, ◌∙◌, subst, inl, inr, eq-eqb, ne_eqb, arith}
use Rattle.std.specs.Prelude.{option_map, option_to_list}
use Rattle.std.specs.List.{AllByRecursion}
use Rattle.std.proofs.lemmas.Bool.{cases_Bool, cases_eq}
use Rattle.std.proofs.lemmas.Grind.{flat_map-append}
use Rattle.us_slots.specs.Bursts.{ChannelBursts}
use Rattle.us_flows.specs.declared.channels.Channel.{Channel}
use Rattle.us_flows.specs.Tables.{map_len}
use Rattle.us_flows.proofs.TurnLemmas.{all-append}
use Rattle.us_holes.specs.Boards.{Board, Assignment, empty_board, fits, assign, assign_all, AllFit}
use Rattle.us_holes.proofs.LawLemmas.{assign_all-append, AllFit-append}
use Rattle.us_calendar.specs.Entries.{Entry}
use Rattle.us_calendar.specs.Occurrences.{Pace}
use Rattle.us_calendar.specs.Settling.{Settlement, SettledEntry, EntryState, settle_state, told_as}
use Rattle.us_calendar.specs.Calendars as calendars
use Rattle.us_calendar.specs.Calendars.{Ran, run_entries}
use Rattle.us_calendar.specs.Runs.{assignments_of}
use Rattle.us_calendar.proofs.FitLaws as calendar_laws
use Rattle.us_split.specs.Claims.{Claim}
use Rattle.us_channel.specs.Reserves.{reserved, maintenance, reserves}
use Rattle.us_channel.specs.Placements.{Spot, PlacedClaim, spot, grant_at, grant_of, with_grant, grants_of, assignments}
use Rattle.us_channel.specs.Laws.{AreGrantsFor, BoardsAreBuilt, GrantsAreOfClaims, GrantsFit, HasMinislots, HaveMinislots, IsMadeOf, PlacedHaveMinislots, ReservesFit, reserve, reserve_assignments}
use Rattle.us_channel.proofs.GrantLaws.{Granted, grants_are}
use Rattle.us_channel.proofs.ReserveLemmas.{empty_fits, maintained_fits}
use Rattle.us_channel.proofs.SpotLaws.{spot_fits}

-- Grants fit.

grant_fits : (b : ChannelBursts) (board : Board) (claim : Claim) (g : PlacedClaim) → grant_of b board claim ≡ Some g →
    fits board g.assignment.slots g.assignment.start ≡ true
grant_fits b board claim g found = by (spot b claim.header claim.share board) refl found
  where
    by : (at : Option Spot) → spot b claim.header claim.share board ≡ at → option_map (grant_at b claim) at ≡ Some g →
        fits board g.assignment.slots g.assignment.start ≡ true
    by None at found = let no : None ≡ Some g = found in absurd cc
    by (Some s) at found =
        let made : Some (grant_at b claim s) ≡ Some g = found in
        let same : grant_at b claim s ≡ g = cc in
        subst (λ (g : PlacedClaim). fits board g.assignment.slots g.assignment.start ≡ true) same
        (spot_fits b claim.header claim.share board s at)

all_fit : (b : ChannelBursts) (board : Board) (claims : List Claim) → AllFit board (assignments (grants_of b board claims))
unfolding grants_of AllFit
all_fit b board [] = tt
all_fit b board (claim ∷ claims) = by (grant_of b board claim) refl (λ next. all_fit b next claims)
  where
    by : (found : Option PlacedClaim) → grant_of b board claim ≡ found →
        ((next : Board) → AllFit next (assignments (grants_of b next claims))) →
        AllFit board (assignments (option_to_list found ++ grants_of b (with_grant board found) claims))
    by None at rest = rest board
    by (Some g) at rest = (
      grant_fits b board claim g at,
      rest (assign board g.assignment.start g.assignment.slots g.assignment.owner),
    )

pub grants_fit : GrantsFit
grants_fit = all_fit

-- They are of claims.

of_claims : (b : ChannelBursts) (board : Board) (claims : List Claim) (gs : List PlacedClaim) → Granted b board claims gs →
    AreGrantsFor b claims gs
unfolding Granted AreGrantsFor
of_claims b board [] [] all = tt
of_claims b board [] (g ∷ gs) all = all
of_claims b board (claim ∷ claims) [] all = tt
of_claims b board (claim ∷ claims) (g ∷ gs) all = elim all [
  | inl rest ↦ inr (of_claims b board claims (g ∷ gs) rest)
  | inr own ↦ inl (
    record {
      claimant = own.0.claimant;
      sid = own.0.sid;
      some = own.0.credit;
      few = own.0.few;
      cost = own.0.cost;
      minislots = own.0.slots;
    },
    of_claims b (assign board g.assignment.start g.assignment.slots g.assignment.owner) claims gs own.1,
  )
]

pub grants_are_of_claims : GrantsAreOfClaims
grants_are_of_claims b board claims is some =
    of_claims b board claims (grants_of b board claims) (grants_are b board claims is some)

-- Reserves are assignments.

reserve_board : (board : Board) (start slots iuc : ℕ) →
    reserved board start slots iuc ≡ assign_all board (reserve start slots iuc)
unfolding assign_all
reserve_board board start slots iuc = elim (cases_Bool (slots == 0)) [
  | inl none ↦ rw none refl
  | inr some ↦ rw some refl
]

reserve_fits : (board : Board) (start slots iuc : ℕ) → fits board slots start ≡ true →
    AllFit board (reserve start slots iuc)
unfolding AllFit
reserve_fits board start slots iuc fit = elim (cases_Bool (slots == 0)) [
  | inl none ↦ rw none tt
  | inr some ↦ rw some (fit, tt)
]

reserve_has : (start slots iuc : ℕ) → HaveMinislots (reserve start slots iuc)
reserve_has start slots iuc = elim (cases_eq slots 0) [
  | inl none ↦ rw (eq-eqb slots 0 none) tt
  | inr some ↦ rw (ne_eqb slots 0 some) (omega (arith, some), tt)
]

-- the Initial Maintenance of a round, if it has one
abbrev maintained : Channel → ℕ → List Assignment
maintained c round =
    if round % c.maintenance_every == 0 then reserve 0 c.maintenance_minislots 3 else []

maintained_board : (c : Channel) (round : ℕ) (board : Board) →
    maintenance c round board ≡ assign_all board (maintained c round)
unfolding assign_all
maintained_board c round board = elim (cases_Bool (round % c.maintenance_every == 0)) [
  | inl meets ↦ rw meets (reserve_board board 0 c.maintenance_minislots 3)
  | inr other ↦ rw other refl
]

maintained_fit : (c : Channel) (round : ℕ) (board : Board) → fits board c.maintenance_minislots 0 ≡ true →
    AllFit board (maintained c round)
unfolding AllFit
maintained_fit c round board fit = elim (cases_Bool (round % c.maintenance_every == 0)) [
  | inl meets ↦ rw meets (reserve_fits board 0 c.maintenance_minislots 3 fit)
  | inr other ↦ rw other tt
]

maintained_has : (c : Channel) (round : ℕ) → HaveMinislots (maintained c round)
maintained_has c round = elim (cases_Bool (round % c.maintenance_every == 0)) [
  | inl meets ↦ rw meets (reserve_has 0 c.maintenance_minislots 3)
  | inr other ↦ rw other tt
]

-- a board with some assignments, and with more of them
made_more : (placed more : List Assignment) (len : ℕ) (board next : Board) → IsMadeOf placed len board →
    next ≡ assign_all board more → AllFit board more → IsMadeOf (placed ++ more) len next
made_more placed more len board next made is fit = record {
  all = is ∙ ap (λ board. assign_all board more) made.all ∙ sym (assign_all-append (empty_board len) placed more);
  fit = AllFit-append (empty_board len) placed more made.fit (subst (λ board. AllFit board more) made.all fit);
}

pub reserves_fit : ReservesFit
unfolding reserves
reserves_fit c len round few =
    let board : Board = maintenance c round (empty_board len) in
    let contention : ℕ = c.contention_minislots in
    let start : ℕ = len - contention in
    made_more (maintained c round) (reserve start contention 1) len board
    (reserved board start contention 1)
    (record {
      all = maintained_board c round (empty_board len);
      fit = maintained_fit c round (empty_board len)
          (empty_fits len c.maintenance_minislots (omega (arith, few)));
    })
    (reserve_board board start contention 1)
    (reserve_fits board start contention 1 (maintained_fits c len round few))

-- A built board.

pub boards_are_built : BoardsAreBuilt
boards_are_built t c round calendar claims is =
    let len : ℕ = map_len t c in
    let board : Board = reserves c len round in
    let ran : Ran = calendars.settles calendar board in
    let settled = calendar_laws.grants_fit calendar.pace calendar.next_round calendar.states board in
    let grants : List PlacedClaim = grants_of c.bursts ran.board claims in
    made_more (reserve_assignments c len round ++ flat_map assignments_of ran.settled) (assignments grants) len ran.board
    (assign_all ran.board (assignments grants))
    (made_more (reserve_assignments c len round) (flat_map assignments_of ran.settled) len board ran.board
    (reserves_fit c len round is.reserves) settled.0 settled.1)
    refl (grants_fit c.bursts ran.board claims)

-- Each has a minislot.

told_has : (e : Entry) (n : ℕ) (active : Bool) (start : Option ℕ) → HasMinislots e →
    HaveMinislots (assignments_of (told_as e (record { number = n; active = active; start = start })))
told_has e n active None some = tt
told_has e n active (Some at) some = (some active, tt)

all_told_have : (e : Entry) (ms : List Settlement) → HasMinislots e →
    HaveMinislots (flat_map assignments_of (map (told_as e) ms))
all_told_have e [] some = tt
all_told_have e (m ∷ ms) some =
    all-append (λ i. 1 ≤ i.slots) (assignments_of (told_as e m)) (flat_map assignments_of (map (told_as e) ms))
    (told_has e m.number m.active m.start some) (all_told_have e ms some)

settled_have : (pace : Pace) (round : ℕ) (states : List EntryState) (board : Board) →
    AllByRecursion (λ state. HasMinislots state.entry) states →
    HaveMinislots (flat_map assignments_of (run_entries pace round states board).settled)
unfolding run_entries
settled_have pace round [] board all = tt
settled_have pace round (state ∷ states) board all =
    let one : SettledEntry = settle_state pace round state board in
    let rest : Ran = run_entries pace round states one.board in
    subst HaveMinislots (sym (flat_map-append assignments_of (map (told_as state.entry) one.settlements) rest.settled))
    (all-append (λ i. 1 ≤ i.slots) (flat_map assignments_of (map (told_as state.entry) one.settlements))
    (flat_map assignments_of rest.settled) (all_told_have state.entry one.settlements all.0)
    (settled_have pace round states one.board all.1))

grants_have : (b : ChannelBursts) (claims : List Claim) (gs : List PlacedClaim) → AreGrantsFor b claims gs →
    HaveMinislots (assignments gs)
unfolding AreGrantsFor
grants_have b [] [] all = tt
grants_have b [] (g ∷ gs) all = absurd all
grants_have b (claim ∷ claims) [] all = tt
grants_have b (claim ∷ claims) (g ∷ gs) all = elim all [
  | inl own ↦ (own.0.minislots, grants_have b claims gs own.1)
  | inr rest ↦ grants_have b claims (g ∷ gs) rest
]

pub placed_have_minislots : PlacedHaveMinislots
placed_have_minislots t c round calendar claims is entries some =
    let len : ℕ = map_len t c in
    let board : Board = reserves c len round in
    let ran : Ran = calendars.settles calendar board in
    let grants : List PlacedClaim = grants_of c.bursts ran.board claims in
    all-append (λ i. 1 ≤ i.slots) (reserve_assignments c len round ++ flat_map assignments_of ran.settled)
    (assignments grants)
    (all-append (λ i. 1 ≤ i.slots) (reserve_assignments c len round) (flat_map assignments_of ran.settled)
    (all-append (λ i. 1 ≤ i.slots) (maintained c round)
    (reserve (len - c.contention_minislots) c.contention_minislots 1) (maintained_has c round)
    (reserve_has (len - c.contention_minislots) c.contention_minislots 1))
    (settled_have calendar.pace calendar.next_round calendar.states board entries))
    (grants_have c.bursts claims grants (grants_are_of_claims c.bursts ran.board claims is some))
