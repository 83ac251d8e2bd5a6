-- Whose minislots are: each owner on a round's boards has a SID of 14 bits, and an IUC that ends no list.
use Rattle.std.proofs.Common.{◌≡◌, ◌≢◌, ℕ, ◌+◌, ◌-◌, ◌%◌, ◌^◌, ◌<◌, ◌≤◌, ◌==◌, nat_le, Bool, true, false, ◌⊎◌, List, [], ◌∷◌, ◌++◌, take, drop, replicate, map, flat_map, Option, Some, None, sym, subst, inl, inr, arith}
use Rattle.std.specs.List.{AllByRecursion}
use Rattle.std.proofs.lemmas.Bool.{cases_Bool}
use Rattle.std.proofs.lemmas.Bool.Decides.{nat_tests}
use Rattle.std.proofs.lemmas.Grind.{flat_map-append}
use Rattle.us_slots.specs.Bursts.{ChannelBursts}
use Rattle.us_slots.specs.UsageCodes as codes
use Rattle.us_codec.specs.Elements.{IsMapElement}
use Rattle.us_flows.specs.declared.channels.Channel.{Channel}
use Rattle.us_flows.specs.Tables.{Tables, map_len}
use Rattle.us_flows.specs.Lawful.{IsChannel}
use Rattle.us_holes.specs.Boards.{Owner, Holder, Board, Assignment, IsOwner, empty_board, fits, assign, assign_all}
use Rattle.us_holes.specs.Kept.{IsBoard}
use Rattle.us_holes.specs.Runs.{Run, goes_on, lengthened, owner_of, runs_from, runs_of}
use Rattle.us_holes.proofs.BoardLemmas.{empty_is_board}
use Rattle.us_holes.proofs.LawLemmas.{fit_is_board}
use Rattle.us_calendar.specs.Entries as entries
use Rattle.us_calendar.specs.Entries.{Entry}
use Rattle.us_calendar.specs.Occurrences.{Pace}
use Rattle.us_calendar.specs.Settling.{EntryState, Settlement, SettledEntry, settle_state, told_as}
use Rattle.us_calendar.specs.Calendars.{Ran, run_entries}
use Rattle.us_calendar.specs.Runs.{assignments_of}
use Rattle.us_split.specs.Claims.{Claim}
use Rattle.us_channel.specs.Reserves.{reserved, maintenance, reserves}
use Rattle.us_channel.specs.Placements.{PlacedClaim, assignments}
use Rattle.us_channel.specs.Laws.{HasMinislots}
use Rattle.us_channel.specs.Maps.{gap, element_by, run_element}
use Rattle.us_channel.proofs.ReserveLemmas.{empty_fits, maintained_fits}
use Rattle.us_channel.proofs.GrantLaws.{Granted}
use Rattle.us_output.proofs.PartLemmas.{all_append, all_taken, all_dropped, all_replicated}

-- a minislot is idle, or has a lawful owner
abbrev IsOwned : Option Holder → Type 0
IsOwned None = Unit {0}
IsOwned (Some holder) = IsOwner holder.owner

abbrev pub AreOwned : List (Option Holder) → Type 0
AreOwned cells = AllByRecursion IsOwned cells

-- an assignment has a minislot, and a lawful owner
abbrev pub IsOwnedPart : Assignment → Type 0
IsOwnedPart a = IsOwner a.owner × (0 < a.slots)

abbrev pub HaveOwners : List Assignment → Type 0
HaveOwners all = AllByRecursion IsOwnedPart all

-- Assignments.

assigned : (board : Board) (start slots : ℕ) (owner : Owner) → AreOwned board.cells → IsOwner owner →
    AreOwned (assign board start slots owner).cells
assigned board start slots owner all is =
    let held : Option Holder = Some (record { start = start; owner = owner }) in
    all_append IsOwned (take start board.cells ++ replicate slots held) (drop (start + slots) board.cells)
    (all_append IsOwned (take start board.cells) (replicate slots held) (all_taken IsOwned start board.cells all)
    (all_replicated IsOwned slots held is))
    (all_dropped IsOwned (start + slots) board.cells all)

pub all_assigned : (board : Board) (more : List Assignment) → AreOwned board.cells → HaveOwners more →
    AreOwned (assign_all board more).cells
unfolding assign_all
all_assigned board [] all have = all
all_assigned board (one ∷ more) all have =
    all_assigned (assign board one.start one.slots one.owner) more
    (assigned board one.start one.slots one.owner all have.0.0) have.1

-- Reserves.

reserved_owned : (board : Board) (start slots iuc : ℕ) → iuc < 16 → iuc ≢ codes.null → AreOwned board.cells →
    AreOwned (reserved board start slots iuc).cells
reserved_owned board start slots iuc small other all = elim (cases_Bool (slots == 0)) [
  | inl none ↦ rw none all
  | inr some ↦ rw some
      (assigned board start slots (record { sid = 16383; iuc = iuc }) all
      (record { sid = omega arith; usage = small; other = other }))
]

maintained_owned : (c : Channel) (len round : ℕ) → AreOwned (maintenance c round (empty_board len)).cells
maintained_owned c len round = elim (cases_Bool (round % c.maintenance_every == 0)) [
  | inl meets ↦ rw meets
      (reserved_owned (empty_board len) 0 c.maintenance_minislots 3 (omega arith) (λ no. omega (arith, no))
      (all_replicated IsOwned len None tt))
  | inr other ↦ rw other (all_replicated IsOwned len None tt)
]

pub reserves_owned : (c : Channel) (len round : ℕ) → AreOwned (reserves c len round).cells
unfolding reserves
reserves_owned c len round =
    reserved_owned (maintenance c round (empty_board len)) (len - c.contention_minislots) c.contention_minislots 1
    (omega arith) (λ no. omega (arith, no)) (maintained_owned c len round)

reserved_board : (board : Board) (start slots iuc : ℕ) → fits board slots start ≡ true → IsBoard board →
    IsBoard (reserved board start slots iuc)
reserved_board board start slots iuc fit is = elim (cases_Bool (slots == 0)) [
  | inl none ↦ rw none is
  | inr some ↦
      let any : 0 < slots = grind (arith, nat_tests, some) in
      rw some (fit_is_board board start slots (record { sid = 16383; iuc = iuc }) is any fit)
]

maintained_board : (c : Channel) (len round : ℕ) → 1 ≤ len → len ≤ 4096 → c.maintenance_minislots ≤ len →
    IsBoard (maintenance c round (empty_board len))
maintained_board c len round some most few = elim (cases_Bool (round % c.maintenance_every == 0)) [
  | inl meets ↦ rw meets
      (reserved_board (empty_board len) 0 c.maintenance_minislots 3 (empty_fits len c.maintenance_minislots few)
      (empty_is_board len some most))
  | inr other ↦ rw other (empty_is_board len some most)
]

pub reserves_board : (t : Tables) (c : Channel) (round : ℕ) → IsChannel t c → IsBoard (reserves c (map_len t c) round)
unfolding reserves
reserves_board t c round is =
    let len : ℕ = map_len t c in
    let both : c.maintenance_minislots + c.contention_minislots ≤ map_len t c = is.reserves in
    reserved_board (maintenance c round (empty_board len)) (len - c.contention_minislots) c.contention_minislots 1
    (maintained_fits c len round is.reserves)
    (maintained_board c len round is.len.0 is.len.1 (omega (arith, both)))

-- Calendars.

-- an entry has a lawful owner, and its grants and polls have a minislot
abbrev pub HasOwner : EntryState → Type 0
HasOwner state = IsOwner state.entry.owner × HasMinislots state.entry

-- whom a poll is for is lawful too
polled_owned : (e : Entry) (active : Bool) → IsOwner e.owner → IsOwner (entries.owner_of e active)
polled_owned e true is = is
polled_owned e false is = record { sid = is.sid; usage = omega arith; other = λ no. omega (arith, no) }

told_owned : (e : Entry) (number : ℕ) (active : Bool) (start : Option ℕ) → IsOwner e.owner × HasMinislots e →
    HaveOwners (assignments_of (told_as e (record { number = number; active = active; start = start })))
told_owned e number active None is = tt
told_owned e number active (Some at) is = ((polled_owned e active is.0, omega (arith, is.1 active)), tt)

all_told_owned : (e : Entry) (ms : List Settlement) → IsOwner e.owner × HasMinislots e →
    HaveOwners (flat_map assignments_of (map (told_as e) ms))
all_told_owned e [] is = tt
all_told_owned e (m ∷ ms) is =
    all_append IsOwnedPart (assignments_of (told_as e m)) (flat_map assignments_of (map (told_as e) ms))
    (told_owned e m.number m.active m.start is) (all_told_owned e ms is)

pub run_owned : (pace : Pace) (round : ℕ) (states : List EntryState) (board : Board) → AllByRecursion HasOwner states →
    AllByRecursion HasOwner (run_entries pace round states board).states
    × HaveOwners (flat_map assignments_of (run_entries pace round states board).settled)
unfolding run_entries
run_owned pace round [] board all = (tt, tt)
run_owned pace round (state ∷ states) board all =
    let one : SettledEntry = settle_state pace round state board in
    let rest : Ran = run_entries pace round states one.board in
    let others = run_owned pace round states one.board all.1 in (
      (all.0, others.0),
      subst HaveOwners (sym (flat_map-append assignments_of (map (told_as state.entry) one.settlements) rest.settled))
          (all_append IsOwnedPart (flat_map assignments_of (map (told_as state.entry) one.settlements))
          (flat_map assignments_of rest.settled) (all_told_owned state.entry one.settlements all.0) others.1),
    )

-- Grants.

pub grants_owned : (b : ChannelBursts) (board : Board) (cs : List Claim) (gs : List PlacedClaim) → Granted b board cs gs →
    AllByRecursion (λ claim. claim.sid < 2 ^ 14) cs → HaveOwners (assignments gs)
unfolding Granted
grants_owned b board [] [] all small = tt
grants_owned b board [] (g ∷ gs) all small = absurd all
grants_owned b board (claim ∷ cs) [] all small = tt
grants_owned b board (claim ∷ cs) (g ∷ gs) all small = elim all [
  | inl rest ↦ grants_owned b board cs (g ∷ gs) rest small.1
  | inr own ↦ (
    (owner own.0.sid own.0.usage small.0, omega (arith, own.0.slots)),
    grants_owned b (assign board g.assignment.start g.assignment.slots g.assignment.owner) cs gs own.1 small.1,
  )
]
  where
    owner : {o : Owner} {sid : ℕ} → o.sid ≡ sid → (o.iuc ≡ 9) ⊎ (o.iuc ≡ 10) → sid < 2 ^ 14 → IsOwner o
    owner same (inl short) few =
        record { sid = omega (arith, same, few); usage = omega (arith, short); other = λ no. omega (arith, short, no) }
    owner same (inr long) few =
        record { sid = omega (arith, same, few); usage = omega (arith, long); other = λ no. omega (arith, long, no) }

-- Runs, and their elements.

abbrev IsOwnedBy : Option Owner → Type 0
IsOwnedBy None = Unit {0}
IsOwnedBy (Some owner) = IsOwner owner

owner_owned : (cell : Option Holder) → IsOwned cell → IsOwnedBy (owner_of cell)
owner_owned None is = tt
owner_owned (Some holder) is = is

lengthened_owned : (runs : List Run) → AllByRecursion (λ run. IsOwnedBy run.owner) runs →
    AllByRecursion (λ run. IsOwnedBy run.owner) (lengthened runs)
lengthened_owned [] all = tt
lengthened_owned (run ∷ runs) all = all

runs_owned : (start : ℕ) (cells : List (Option Holder)) → AreOwned cells →
    AllByRecursion (λ run. IsOwnedBy run.owner) (runs_from start cells)
unfolding runs_from
runs_owned start [] all = tt
runs_owned start (cell ∷ cells) all = elim (cases_Bool (goes_on cell cells)) [
  | inl same ↦ rw same (lengthened_owned (runs_from (start + 1) cells) (runs_owned (start + 1) cells all.1))
  | inr other ↦ rw other (owner_owned cell all.0, runs_owned (start + 1) cells all.1)
]

gap_sid : (c : Channel) (start len : ℕ) → (gap c start len).sid < 2 ^ 14
gap_sid c start len = elim (cases_Bool (nat_le c.request_minislots len)) [
  | inl fit ↦ rw fit (omega arith)
  | inr short ↦ rw short (omega arith)
]

element_lawful : (c : Channel) (start len : ℕ) (owner : Option Owner) → IsOwnedBy owner → start < 2 ^ 14 →
    ((element_by c start len owner).iuc ≢ codes.null) × IsMapElement (element_by c start len owner)
element_lawful c start len None is small =
    ((λ no. omega (arith, no)), record { sid = gap_sid c start len; iuc = omega arith; offset = small })
element_lawful c start len (Some owner) is small = (is.other, record { sid = is.sid; iuc = is.usage; offset = small })

elements_by : (c : Channel) (runs : List Run) → AllByRecursion (λ run. IsOwnedBy run.owner) runs →
    AllByRecursion (λ run. run.start < 2 ^ 14) runs →
    AllByRecursion (λ e. e.iuc ≢ codes.null) (map (run_element c) runs)
    × AllByRecursion IsMapElement (map (run_element c) runs)
elements_by c [] all small = (tt, tt)
elements_by c (run ∷ runs) all small =
    let one = element_lawful c run.start run.len run.owner all.0 small.0 in
    let more = elements_by c runs all.1 small.1 in
    ((one.0, more.0), (one.1, more.1))

pub elements_lawful : (c : Channel) (cells : List (Option Holder)) → AreOwned cells →
    AllByRecursion (λ run. run.start < 2 ^ 14) (runs_of cells) →
    AllByRecursion (λ e. e.iuc ≢ codes.null) (map (run_element c) (runs_of cells))
    × AllByRecursion IsMapElement (map (run_element c) (runs_of cells))
elements_lawful c cells all small = elements_by c (runs_of cells) (runs_owned 0 cells all) small
