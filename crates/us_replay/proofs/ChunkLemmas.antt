-- Chunks: asks divided one share after another, each with a seat that is split off for it.
use Rattle.std.proofs.Common.{◌≡◌, ℕ, zero, suc, ◌+◌, ◌-◌, ◌*◌, ◌/◌, ◌<◌, ◌≤◌, List, [], ◌∷◌, ◌++◌, length, flat_map, take, drop, sum, refl, ap, sym, subst, ◌∙◌, arith}
use Rattle.std.specs.List.{AllByRecursion}
use Rattle.std.proofs.Math.Nat.{div-mul-le_self, div-one}
use Rattle.std.proofs.lemmas.Nat.{le-div}
use Rattle.std.proofs.lemmas.List.{append-nil, append_assoc, length-append, length-drop, length-take-le, nil_from_length, take-append-drop}
use Rattle.std.proofs.lemmas.Grind.{flat_map-append}
use Rattle.us_intake.specs.Seats.{Intake, Seat, new_seat, seat_after_split, spent}
use Rattle.us_output.proofs.PartLemmas.{all_append}
use Rattle.us_requests.specs.declared.asks.Ask.{Ask}
use Rattle.us_replay.specs.Collecting.{AreAsks, IsChunk, chunk_quota}
use Rattle.us_replay.proofs.CollectingLemmas.{are-append}

corner : (a b : ℕ) → suc a + b ≤ suc a * suc b
corner zero b = omega arith
corner (suc a) b = omega (arith, corner a b)

-- one of `left` shares of so many asks: there is one at least, enough are left for the others, and the last share is all
pub share : (asks left : ℕ) → 1 ≤ left → left ≤ asks →
    (1 ≤ asks / left) × (asks / left + (left - 1) ≤ asks) × (left ≡ 1 → asks / left ≡ asks)
share asks zero some few = absurd (omega (arith, some))
share asks (suc b) some few =
    let one : 1 ≤ asks / suc b = le-div 1 asks (suc b) (omega arith) (omega (arith, few)) in (
      one,
      others (asks / suc b) one (div-mul-le_self asks (suc b)),
      λ last. ap (λ k. asks / k) last ∙ div-one asks,
    )
  where
    others : (q : ℕ) → 1 ≤ q → q * suc b ≤ asks → q + (suc b - 1) ≤ asks
    others zero one all = absurd (omega (arith, one))
    others (suc a) one all = omega (arith, corner a b, all)

-- how far the asks of a round are divided: what is left of the seat, the chunks, the asks behind them, and how many chunks
-- are still to come
pub record AreDivided {T : Type 0} (seat_of : T → Seat) (asks_of : T → List Ask) (intake : Intake) (whole : Seat)
    (asks : List Ask) (parts : ℕ) (seat : Seat) (items : List T) (rest : List Ask) (left : ℕ) : Type 0 where
  pub all : flat_map asks_of items ++ rest ≡ asks
  pub seat_is : seat ≡ seat_after_split whole (chunk_quota (flat_map asks_of items))
  pub chunks : AllByRecursion (λ item. IsChunk intake (seat_of item) (asks_of item)) items
  pub rest_are : AreAsks intake.clusters rest
  pub enough : left ≤ length rest
  pub last : left ≡ 0 → length rest ≡ 0
  pub count : length items + left ≡ parts

module _ {T : Type 0} (seat_of : T → Seat) (asks_of : T → List Ask) (intake : Intake) (whole : Seat) (asks : List Ask)
    (parts : ℕ) where
  pub none-divided : AreAsks intake.clusters asks → 1 ≤ parts → parts ≤ length asks →
      AreDivided seat_of asks_of intake whole asks parts whole [] asks parts
  none-divided are some few = record {
    all = refl;
    seat_is = let none : whole.quota - 0 ≡ whole.quota = omega arith in rw none refl;
    chunks = tt;
    rest_are = are;
    enough = few;
    last = λ none. absurd (omega (arith, some, none));
    count = omega arith;
  }

  -- the next chunk has some asks, and the seat has enough for it
  pub chunk-room : (seat : Seat) (items : List T) (rest chunk : List Ask) (left : ℕ) →
      AreDivided seat_of asks_of intake whole asks parts seat items rest left → 1 ≤ left →
      chunk ≡ take (length rest / left) rest → spent whole + chunk_quota asks < whole.quota →
      (1 ≤ length chunk) × (length chunk ≤ length asks) × (spent seat + chunk_quota chunk < seat.quota)
  chunk-room seat items rest chunk left so_far some is room =
      let shares = share (length rest) left some so_far.enough in
      let len : length chunk ≡ length rest / left =
      ap length is ∙ length-take-le (length rest / left) rest (omega (arith, shares.1)) in
      let all : length (flat_map asks_of items) + length rest ≡ length asks =
      sym (length-append (flat_map asks_of items) rest) ∙ ap length so_far.all in (
        omega (arith, len, shares.0),
        omega (arith, len, shares.1, all),
        omega (
          arith,
          len,
          shares.1,
          all,
          ap (λ (s : Seat). s.quota) so_far.seat_is,
          ap (λ (s : Seat). sum s.submitted) so_far.seat_is,
          room,
        ),
      )

  pub next-divided : (seat kept : Seat) (items : List T) (item : T) (rest chunk behind : List Ask) (left : ℕ) →
      AreDivided seat_of asks_of intake whole asks parts seat items rest left → 1 ≤ left →
      chunk ≡ take (length rest / left) rest → behind ≡ drop (length rest / left) rest →
      kept ≡ seat_after_split seat (chunk_quota chunk) → seat_of item ≡ new_seat intake (chunk_quota chunk) →
      asks_of item ≡ chunk →
      AreDivided seat_of asks_of intake whole asks parts kept (items ++ item ∷ []) behind (left - 1)
  next-divided seat kept items item rest chunk behind left so_far some is behind_is kept_is new_is chunk_is =
      let k : ℕ = length rest / left in
      let done : List Ask = flat_map asks_of items in
      let shares = share (length rest) left some so_far.enough in
      let more : flat_map asks_of (items ++ item ∷ []) ≡ done ++ chunk =
      flat_map-append asks_of items (item ∷ []) ∙ ap (λ l. done ++ l) (append-nil (asks_of item) ∙ chunk_is) in
      let parts_are : chunk ++ behind ≡ rest =
      ap (λ l. l ++ behind) is ∙ ap (λ l. take k rest ++ l) behind_is ∙ take-append-drop k rest in
      let both = are-append intake.clusters chunk behind (subst (AreAsks intake.clusters) (sym parts_are) so_far.rest_are) in
      let len : length behind ≡ length rest - k = ap length behind_is ∙ length-drop k rest in
      let quota : whole.quota - chunk_quota done - chunk_quota chunk ≡ whole.quota - chunk_quota (done ++ chunk) =
      omega (arith, length-append done chunk) in
      record {
        all = ap (λ l. l ++ behind) more ∙ append_assoc done chunk behind ∙ ap (λ l. done ++ l) parts_are ∙ so_far.all;
        seat_is = rw (kept_is, so_far.seat_is, more, quota) refl;
        chunks = all_append (λ item. IsChunk intake (seat_of item) (asks_of item)) items (item ∷ []) so_far.chunks
            (rw chunk_is (new_is, both.0), tt);
        rest_are = both.1;
        enough = omega (arith, len, shares.1);
        last = λ none. omega (arith, len, shares.2 (omega (arith, some, none)));
        count = omega (arith, length-append items (item ∷ []), so_far.count, some);
      }

  -- all asks are in chunks
  pub all-divided : (seat : Seat) (items : List T) (rest : List Ask) (left : ℕ) →
      AreDivided seat_of asks_of intake whole asks parts seat items rest left → left ≡ 0 → flat_map asks_of items ≡ asks
  all-divided seat items rest left so_far none =
      sym (append-nil (flat_map asks_of items)) ∙
      ap (λ l. flat_map asks_of items ++ l) (sym (nil_from_length rest (so_far.last none))) ∙ so_far.all
