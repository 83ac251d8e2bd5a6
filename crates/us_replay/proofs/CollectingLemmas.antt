-- Collecting: what chunks submit is what their asks name, and seats that are joined have it all.
use Rattle.std.proofs.Common.{◌≡◌, ℕ, zero, suc, ◌+◌, ◌-◌, ◌*◌, ◌<◌, ◌≤◌, List, [], ◌∷◌, ◌++◌, length, flat_map, take, get_or, sum, refl, ap, sym, ◌∙◌, arith, slice_index}
use Rattle.std.specs.List.{AllByRecursion}
use Rattle.std.proofs.Math.Bool.{or-false}
use Rattle.std.proofs.lemmas.List.{append-nil, length-append, length-take-le}
use Rattle.std.proofs.lemmas.List.Sums.{sum_by-cons}
use Rattle.us_crew.specs.Values.{values_from, values_of}
use Rattle.us_slots.specs.Lists.{added}
use Rattle.us_intake.specs.Tallies.{empty_tally, raised}
use Rattle.us_intake.specs.Seats.{Intake, Seat, joined_seat, seat_after_submit, seat_after_split, spent}
use Rattle.us_intake.proofs.TallyLemmas.{empty-added, index-added, index-empty, length-added, length-empty, nothing-added, same_tally, sum-added}
use Rattle.us_output.proofs.PartLemmas.{all_at, all_taken, all_weaker}
use Rattle.us_requests.specs.declared.asks.Ask.{Ask}
use Rattle.us_requests.specs.Cuts.{cut_of}
use Rattle.us_requests.specs.Traces.{max_ask}
use Rattle.us_replay.specs.Collecting.{AreAsks, CanSubmit, IsChunk, chunk_quota, joined_seats, seat_after_asks}
use Rattle.us_replay.proofs.CutLemmas.{bytes_of, cut-append, cut-more, cut-none, length-cut, sum-cut}

-- Tallies.

-- what is added to one of two tallies is added to both together
pub added-raised : (one other : List ℕ) (at bytes : ℕ) → at < length one → at < length other →
    raised (added one other) at bytes ≡ added one (raised other at bytes)
added-raised [] other at bytes lt in_other = absurd (omega arith)
added-raised (x ∷ one) [] at bytes lt in_other = absurd (omega arith)
added-raised (x ∷ one) (y ∷ other) zero bytes lt in_other =
    let same : x + y + bytes ≡ x + (y + bytes) = omega arith in ap (λ n. n ∷ added one other) same
added-raised (x ∷ one) (y ∷ other) (suc at) bytes lt in_other =
    ap (λ l. (x + y) ∷ l) (added-raised one other at bytes (omega arith) (omega arith))

added-added : (one two three : List ℕ) → added (added one two) three ≡ added one (added two three)
added-added [] two three = refl
added-added (x ∷ one) [] three = refl
added-added (x ∷ one) (y ∷ two) [] = refl
added-added (x ∷ one) (y ∷ two) (z ∷ three) =
    let same : x + y + z ≡ x + (y + z) = omega arith in
    ap (λ n. n ∷ added (added one two) three) same ∙ ap (λ l. (x + (y + z)) ∷ l) (added-added one two three)

pub added-empty : (n : ℕ) (tally : List ℕ) → length tally ≡ n → added tally (empty_tally n) ≡ tally
added-empty n tally row = sym (nothing-added tally (empty_tally n) (row ∙ sym (length-empty n)) (index-empty n))

added-none : (n : ℕ) (tally : List ℕ) → length tally ≡ n → added tally (cut_of n []) ≡ tally
added-none n tally row = ap (added tally) (sym (cut-none n)) ∙ added-empty n tally row

-- what was added to a tally can be told
pub added-same : (tally one other : List ℕ) → length one ≡ length other → added tally one ≡ added tally other → one ≡ other
added-same tally one other row same =
    same_tally one other row
    (λ word lt. omega (arith, index-added tally one word, index-added tally other word, ap (λ l. slice_index l word) same))

-- Asks.

-- asks of which two things are known
pub are-asks : (n : ℕ) (asks : List Ask) → AllByRecursion (λ (ask : Ask). ask.cluster < n) asks →
    AllByRecursion (λ (ask : Ask). ask.bytes ≤ max_ask) asks → AreAsks n asks
are-asks n [] known small = tt
are-asks n (ask ∷ asks) known small = ((known.0, small.0), are-asks n asks known.1 small.1)

pub are-known : (n : ℕ) (asks : List Ask) → AreAsks n asks → AllByRecursion (λ (ask : Ask). ask.cluster < n) asks
are-known n [] are = tt
are-known n (ask ∷ asks) are = (are.0.0, are-known n asks are.1)

pub are-append : (n : ℕ) (asks others : List Ask) → AreAsks n (asks ++ others) → AreAsks n asks × AreAsks n others
are-append n [] others are = (tt, are)
are-append n (ask ∷ asks) others are =
    let rest = are-append n asks others are.1 in ((are.0, rest.0), rest.1)

-- no ask names more than the most
pub all-within : (asks : List Ask) → AllByRecursion (λ (ask : Ask). ask.bytes ≤ max_ask) asks → bytes_of asks ≤ max_ask * length asks
all-within [] small = omega arith
all-within (ask ∷ asks) small =
    omega (arith, sum_by-cons (λ (ask : Ask). ask.bytes) ask asks, small.0, all-within asks small.1)

-- Submitting.

-- before the first ask
pub none-submitted : (intake : Intake) (seat : Seat) (asks : List Ask) → CanSubmit intake seat asks →
    seat ≡ seat_after_asks seat []
none-submitted intake seat asks can =
    let none = added-none seat.intake.clusters seat.submitted (can.row ∙ sym (ap (λ (i : Intake). i.clusters) can.own)) in
    let count : seat.additions + 0 ≡ seat.additions = omega arith in
    rw (none, count) refl

-- there is room for one ask more
pub never-over : (intake : Intake) (seat now : Seat) (asks : List Ask) (i : ℕ) (d : Ask) →
    now.quota < spent now + (get_or asks i d).bytes → CanSubmit intake seat asks →
    now ≡ seat_after_asks seat (take i asks) → i < length asks → ⊥
never-over intake seat now asks i d over can so_far below =
    let n : ℕ = seat.intake.clusters in
    let small = all_weaker (λ (ask : Ask). (ask.cluster < intake.clusters) × (ask.bytes ≤ max_ask)) (λ (ask : Ask). ask.bytes ≤ max_ask)
    (λ ask both. both.1) asks can.asks_are in
    omega (
      arith,
      over,
      ap (λ (s : Seat). sum s.submitted) so_far,
      ap (λ (s : Seat). s.quota) so_far,
      can.room,
      sum-added seat.submitted (cut_of n (take i asks)),
      sum-cut n (take i asks),
      all-within (take i asks) (all_taken (λ (ask : Ask). ask.bytes ≤ max_ask) i asks small),
      length-take-le i asks (omega (arith, below)),
      all_at (λ (ask : Ask). ask.bytes ≤ max_ask) asks i d small below,
      below,
    )

-- one ask more
pub submitted-more : (intake : Intake) (seat now : Seat) (asks : List Ask) (i : ℕ) (d : Ask) →
    CanSubmit intake seat asks → now ≡ seat_after_asks seat (take i asks) → i < length asks →
    seat_after_submit now (get_or asks i d).cluster (get_or asks i d).bytes ≡ seat_after_asks seat (take (i + 1) asks)
submitted-more intake seat now asks i d can so_far below =
    let n : ℕ = seat.intake.clusters in
    let ask : Ask = get_or asks i d in
    let known = rw (← can.own) at (are-known intake.clusters asks can.asks_are) in
    let there : ask.cluster < n = all_at (λ (ask : Ask). ask.cluster < n) asks i d known below in
    let more =
    added-raised seat.submitted (cut_of n (take i asks)) ask.cluster ask.bytes
    (omega (arith, there, can.row, ap (λ (i : Intake). i.clusters) can.own)) (omega (arith, there, length-cut n (take i asks)))
    ∙ ap (added seat.submitted) (cut-more n asks i d known below) in
    let count : seat.additions + length (take i asks) + 1 ≡ seat.additions + length (take (i + 1) asks) =
    omega (arith, length-take-le i asks (omega (arith, below)), length-take-le (i + 1) asks (omega (arith, below))) in
    rw (so_far, more, count) refl

-- Joining.

-- the seat that also has the quota of these asks, and submitted them
abbrev grown : Seat → List Ask → Seat
grown seat asks = record seat {
  quota = seat.quota + chunk_quota asks;
  submitted = added seat.submitted (cut_of seat.intake.clusters asks);
  additions = seat.additions + length asks;
}

joined-one : (intake : Intake) (seat its : Seat) (asks : List Ask) → seat.intake ≡ intake →
    length seat.taken ≡ intake.clusters → IsChunk intake its asks →
    joined_seat seat (seat_after_asks its asks) ≡ grown seat asks
joined-one intake seat its asks own row chunk =
    let n : ℕ = intake.clusters in
    let count : 0 + length asks ≡ length asks = omega arith in
    rw (
      chunk.0,
      or-false seat.takes,
      empty-added n (cut_of n asks) (length-cut n asks),
      added-empty n seat.taken row,
      count,
      append-nil seat.swapped,
      own,
    ) refl

grown-on : (seat : Seat) (asks others : List Ask) → grown (grown seat asks) others ≡ grown seat (asks ++ others)
grown-on seat asks others =
    let n : ℕ = seat.intake.clusters in
    let quota : seat.quota + chunk_quota asks + chunk_quota others ≡ seat.quota + chunk_quota (asks ++ others) =
    omega (arith, length-append asks others) in
    let count : seat.additions + length asks + length others ≡ seat.additions + length (asks ++ others) =
    omega (arith, length-append asks others) in
    rw (cut-append n asks others, added-added seat.submitted (cut_of n asks) (cut_of n others), quota, count) refl

module _ {T : Type 0} (seat_of : T → Seat) (asks_of : T → List Ask) where
  abbrev value : ℕ → T → Seat
  value place item = seat_after_asks (seat_of item) (asks_of item)

  abbrev AreChunks : Intake → List T → Type 0
  AreChunks intake items = AllByRecursion (λ item. IsChunk intake (seat_of item) (asks_of item)) items

  joined-all : (intake : Intake) (seat : Seat) (items : List T) (place : ℕ) → seat.intake ≡ intake →
      length seat.submitted ≡ intake.clusters → length seat.taken ≡ intake.clusters → AreChunks intake items →
      joined_seats seat (values_from value place items) ≡ grown seat (flat_map asks_of items)
  joined-all intake seat [] place own row taken chunks =
      let none = added-none seat.intake.clusters seat.submitted (row ∙ sym (ap (λ (i : Intake). i.clusters) own)) in
      let quota : seat.quota + 0 ≡ seat.quota = omega arith in
      let count : seat.additions + 0 ≡ seat.additions = omega arith in
      rw (none, quota, count) refl
  joined-all intake seat (item ∷ items) place own row taken chunks =
      let here : List Ask = asks_of item in
      let its : length seat.submitted ≡ length (cut_of seat.intake.clusters here) =
      omega (arith, row, ap (λ (i : Intake). i.clusters) own, length-cut seat.intake.clusters here) in
      ap (λ (s : Seat). joined_seats s (values_from value (place + 1) items)) (joined-one intake seat (seat_of item) here own taken chunks.0) ∙
      joined-all intake (grown seat here) items (place + 1) own
      (length-added seat.submitted (cut_of seat.intake.clusters here) its ∙ row) taken chunks.1 ∙
      grown-on seat here (flat_map asks_of items)

  -- all seats of a round joined to the seat that they were split off
  pub gathered : (intake : Intake) (seat rest : Seat) (items : List T) (asks : List Ask) (seats : List Seat) →
      seat.intake ≡ intake → length seat.submitted ≡ intake.clusters → length seat.taken ≡ intake.clusters →
      spent seat + chunk_quota asks < seat.quota → rest ≡ seat_after_split seat (chunk_quota asks) →
      flat_map asks_of items ≡ asks → AreChunks intake items → seats ≡ values_of value items →
      joined_seats rest seats ≡ seat_after_asks seat asks
  gathered intake seat rest items asks seats own row taken room is whole chunks are =
      let less : Seat = seat_after_split seat (chunk_quota asks) in
      let back : seat.quota - chunk_quota asks + chunk_quota asks ≡ seat.quota = omega (arith, room) in
      ap (λ (s : Seat). joined_seats s seats) is ∙ ap (joined_seats less) are ∙
      joined-all intake less items 0 own row taken chunks ∙ ap (grown less) whole ∙ rw back refl

  -- the seats that come back are of the intake
  pub of-intake : (intake : Intake) (items : List T) (place : ℕ) → AreChunks intake items →
      AllByRecursion (λ (s : Seat). s.intake ≡ intake) (values_from value place items)
  of-intake intake [] place chunks = tt
  of-intake intake (item ∷ items) place chunks =
      (ap (λ (s : Seat). s.intake) chunks.0.0, of-intake intake items (place + 1) chunks.1)
