-- Clusters that make requests: in table order, one more of a flow, and those of one more flow; and found by what lines
-- tell.
use Rattle.std.proofs.Common.{◌≡◌, ℕ, zero, suc, ◌+◌, ◌*◌, ◌<◌, ◌≤◌, ◌==◌, Bool, true, false, List, [], ◌∷◌, ◌++◌, length, map, get_or, replicate, drop, Bor, Option, Some, None, refl, sym, ap, subst, ◌∙◌, append_assoc, ◌⊎◌, inl, inr, arith, eq-eqb, ltb-false, ltb-true, ne_eqb}
use Rattle.std.specs.Prelude.{if◌then◌else◌, find, flat_map, nat_lt, option_and_then, slice_get, IfSome}
use Rattle.std.specs.List.{AllByRecursion, list_any}
use Rattle.std.specs.Option.{is_some, option_copied}
use Rattle.std.proofs.lemmas.Bool.{cases_Bool, cases_eq, and_from, and_left, and_right, eqb-true, false_from_ne_true, and_parts, false≢true}
use Rattle.std.proofs.lemmas.List.{drop-map, drop_more, length-append}
use Rattle.us_flows.specs.Tables.{Tables, FlowTable}
use Rattle.us_flows.specs.Lawful.{AreTables, IsFlow}
use Rattle.us_flows.specs.Clusters.{Cluster, Turn, IsTurnIn, clusters_from, makes_requests, requesting, table_order, turns_for, turns_from, words_in, words_of}
use Rattle.us_flows.proofs.WordLemmas.{few_words}
use Rattle.us_calendar.proofs.ListingLemmas.{listed_at}
use Rattle.us_flows.proofs.TurnLaws.{one_number, one_turn, place_of_id, table_order-length, table_order-turns}
use Rattle.us_lawful.proofs.ItemLemmas.{any_placed, find_some}
use Rattle.us_lawful.proofs.CreditLineLaws.{turn_listed}
use Rattle.std.proofs.lemmas.Option.{slice_get_past, slice_get_read}
use Rattle.us_output.proofs.PartLemmas.{all_both, all_found, all_weaker}
use Rattle.us_credit_rules.specs.Seats.{AreNamed, AreSeats, code_of, flow_in, is_number, names, word_in, word_of}

-- what a function gives from a place on
pub drop_given : {X : Type 0} (f : X → List ℕ) (xs : List X) (i : ℕ) (x : X) → i < length xs → x ≡ get_or xs i x →
    drop i (map f xs) ≡ f x ∷ drop (i + 1) (map f xs)
drop_given f xs i x inside is =
    drop-map f i xs ∙ ap (map f) (drop_more xs i x inside ∙ ap (λ y. y ∷ drop (i + 1) xs) (sym is))
    ∙ ap (λ rest. f x ∷ rest) (sym (drop-map f (i + 1) xs))

pub seat_more : (seats : List Turn) (place word list : ℕ) (flow : FlowTable) (sids : List ℕ) (turn : Turn) →
    drop list flow.clusters ≡ sids ∷ drop (list + 1) flow.clusters →
    turn ≡ record { number = word; place = place; cluster = record { flow = flow; list = list; sids = sids } } →
    (seats ++ turn ∷ []) ++ turns_for place (word + 1) (clusters_from flow (list + 1) (drop (list + 1) flow.clusters))
    ≡ seats ++ turns_for place word (clusters_from flow list (drop list flow.clusters))
seat_more seats place word list flow sids turn here is =
    let rest : List Cluster = clusters_from flow (list + 1) (drop (list + 1) flow.clusters) in
    append_assoc seats (turn ∷ []) (turns_for place (word + 1) rest)
    ∙ ap (λ t. seats ++ t ∷ turns_for place (word + 1) rest) is
    ∙ ap (λ left. seats ++ turns_for place word (clusters_from flow list left)) (sym here)

pub flow_more : (seats : List Turn) (place word words : ℕ) (flows : List FlowTable) (flow : FlowTable) →
    place < length flows → flow ≡ get_or flows place flow → words ≡ length (words_in flow) →
    (seats ++ turns_for place word (requesting flow)) ++ turns_from (place + 1) (word + words) (drop (place + 1) flows)
    ≡ seats ++ turns_from place word (drop place flows)
flow_more seats place word words flows flow inside is many =
    let own : List Turn = turns_for place word (requesting flow) in
    let rest : List FlowTable = drop (place + 1) flows in
    let here : flow ∷ rest ≡ drop place flows = ap (λ f. f ∷ rest) is ∙ sym (drop_more flows place flow inside) in
    ap (λ n. (seats ++ own) ++ turns_from (place + 1) (word + n) rest) many
    ∙ append_assoc seats own (turns_from (place + 1) (word + length (words_in flow)) rest)
    ∙ ap (λ left. seats ++ turns_from place word left) here

-- a flow of tables has two clusters and two words at most
pub few_of : (t : Tables) (flows : List FlowTable) (i : ℕ) (flow : FlowTable) → flows ≡ t.flows → AreTables t →
    i < length flows → flow ≡ get_or flows i flow → (length flow.clusters ≤ 2) × (length (words_in flow) ≤ 2)
few_of t flows i flow all lawful inside is =
    let most = (listed_at (IsFlow t) flows i flow (subst (AllByRecursion (IsFlow t)) (sym all) lawful.flows) inside is).some_clusters.1 in
    (most, few_words flow most)

-- What is found.

-- by tests that agree
find_same : {X : Type 0} (p q : X → Bool) (xs : List X) → AllByRecursion (λ x. p x ≡ q x) xs → find p xs ≡ find q xs
find_same p q [] same = refl
find_same p q (x ∷ xs) same = elim (cases_Bool (q x)) [
  | inl is ↦ rw (same.0, is) refl
  | inr out ↦ rw (same.0, out) (find_same p q xs same.1)
]

-- none where none passes
find_none : {X : Type 0} (p : X → Bool) (xs : List X) → AllByRecursion (λ x. p x ≡ false) xs → find p xs ≡ None
find_none p [] out = refl
find_none p (x ∷ xs) out = rw out.0 (find_none p xs out.1)

-- room without a number
pub no_numbers : (count code : ℕ) → ◌≡◌ {A = Option ℕ} (get_or (replicate count None) code None) None
no_numbers zero code = refl
no_numbers (suc count) zero = refl
no_numbers (suc count) (suc code) = no_numbers count code

pub room_more : (numbers : List (Option ℕ)) (count code : ℕ) →
    get_or (numbers ++ replicate count None) code None ≡ get_or numbers code None
room_more [] count code = no_numbers count code
room_more (number ∷ numbers) count zero = refl
room_more (number ∷ numbers) count (suc code) = room_more numbers count code

-- of one that is there
pub placed_inside : {X : Type 0} (xs : List X) (i : ℕ) (x : X) → slice_get xs i ≡ Some x → i < length xs
placed_inside [] i x at = absurd (cc at)
placed_inside (y ∷ xs) zero x at = omega arith
placed_inside (y ∷ xs) (suc i) x at = omega (arith, placed_inside xs i x at)

-- the item that is found is one of all, and passes
pub found_passes : {X : Type 0} (p : X → Bool) (P : X → Type 0) (xs : List X) (u : X) → find p xs ≡ Some u →
    AllByRecursion P xs → P u × (p u ≡ true)
found_passes p P [] u found all = absurd (cc found)
found_passes p P (x ∷ xs) u found all = elim (cases_Bool (p x)) [
  | inl is ↦
      let here : Some x ≡ Some u = rw is at found in
      let same : x ≡ u = cc here in
      (subst P same all.0, ap p (sym same) ∙ is)
  | inr out ↦ found_passes p P xs u (rw out at found) all.1
]

-- what holds of all holds of it, and of what it leads to
pub found_all : {X : Type 0} (P : X → Type 0) (p : X → Bool) (xs : List X) → AllByRecursion P xs → IfSome (find p xs) P
found_all P p [] all = tt
found_all P p (x ∷ xs) all = elim (cases_Bool (p x)) [
  | inl is ↦ rw is all.0
  | inr out ↦ rw out (found_all P p xs all.1)
]

pub word_is : (P : ℕ → Type 0) (found : Option Turn) → IfSome found (λ turn. P turn.number) → IfSome (word_in found) P
word_is P None all = tt
word_is P (Some turn) all = all

pub place_is : (P : ℕ → Type 0) (found : Option Turn) → IfSome found (λ turn. P turn.place) → IfSome (flow_in found) P
place_is P None all = tt
place_is P (Some turn) all = all

pub seat_is : (P : Turn → Type 0) (seat : Option (Bor Turn)) (found : Option Turn) → option_copied seat ≡ found →
    IfSome found P → IfSome seat (λ seat. P seat.now)
seat_is P None found is all = tt
seat_is P (Some seat) found is all = subst (λ these. IfSome these P) (sym is) all

pub of_seat : (P : Turn → Type 0) (seat : Option (Bor Turn)) → IfSome seat (λ seat. P seat.now) → IfSome (option_copied seat) P
of_seat P None all = tt
of_seat P (Some seat) all = all

-- what stands at a place, as it is lent
pub lent_is : (turns : List Turn) (i : ℕ) (lent : Option (Bor Turn)) → is_some lent ≡ nat_lt i (length turns) →
    IfSome lent (λ turn. turn.now ≡ get_or turns i turn.now) → option_copied lent ≡ slice_get turns i
lent_is turns i None none is = sym (slice_get_past turns i (ltb-false i (length turns) (sym none)))
lent_is turns i (Some turn) some is =
    sym (slice_get_read turns (length turns) i turn.now refl (ltb-true i (length turns) (sym some)) is)

-- one is found where one passes
pub any_word : (p : Turn → Bool) (turns : List Turn) → list_any p turns ≡ is_some (word_in (find p turns))
any_word p [] = refl
any_word p (turn ∷ turns) = elim (cases_Bool (p turn)) [
  | inl is ↦ rw is refl
  | inr out ↦ rw out (any_word p turns)
]

-- Codes.

code_names : (id list : ℕ) (turn : Turn) → list < 2 → turn.cluster.list < 2 →
    names id list turn ≡ (code_of turn == id * 2 + list)
code_names id list turn small short = elim (cases_eq id turn.cluster.flow.id) [
  | inl same ↦ elim (cases_eq list turn.cluster.list) [
    | inl equal ↦ rw (eq-eqb id turn.cluster.flow.id same, eq-eqb list turn.cluster.list equal)
        (sym (eq-eqb (code_of turn) (id * 2 + list) (omega (arith, same, equal))))
    | inr apart ↦ rw (eq-eqb id turn.cluster.flow.id same, ne_eqb list turn.cluster.list apart)
        (sym (ne_eqb (code_of turn) (id * 2 + list) (λ equal. apart (omega (arith, same, equal)))))
  ]
  | inr other ↦ rw (ne_eqb id turn.cluster.flow.id other)
      (sym (ne_eqb (code_of turn) (id * 2 + list) (λ equal. other (omega (arith, equal, small, short)))))
]

-- what is found by the code is what is found by id and place
pub find_by_code : (id list : ℕ) (turns : List Turn) → list < 2 → AreSeats turns →
    find (λ turn. code_of turn == id * 2 + list) turns ≡ find (names id list) turns
find_by_code id list turns small are =
    sym (find_same (names id list) (λ turn. code_of turn == id * 2 + list) turns
    (all_weaker (λ turn. turn.cluster.list < 2) (λ turn. names id list turn ≡ (code_of turn == id * 2 + list))
    (λ turn short. code_names id list turn small short) turns are.lists))

-- and others are named by none
pub find_past : (id list : ℕ) (turns : List Turn) → (65536 ≤ id) ⊎ (2 ≤ list) → AreSeats turns →
    find (names id list) turns ≡ None
find_past id list turns past are =
    find_none (names id list) turns
    (all_weaker (λ turn. (turn.cluster.flow.id < 65536) × (turn.cluster.list < 2)) (λ turn. names id list turn ≡ false)
    unnamed turns
    (all_both (λ turn. turn.cluster.flow.id < 65536) (λ turn. turn.cluster.list < 2) turns are.ids are.lists))
  where
    unnamed : (turn : Turn) → (turn.cluster.flow.id < 65536) × (turn.cluster.list < 2) → names id list turn ≡ false
    unnamed turn within = elim past [
      | inl large ↦ and_left (id == turn.cluster.flow.id) (list == turn.cluster.list)
          (ne_eqb id turn.cluster.flow.id (λ same. omega (arith, large, same, within.0)))
      | inr large ↦ and_right (id == turn.cluster.flow.id) (list == turn.cluster.list)
          (ne_eqb list turn.cluster.list (λ same. omega (arith, large, same, within.1)))
    ]

-- One place more, from the last to the first.
pub place_more : (turns : List Turn) (i code : ℕ) (turn : Turn) (before after : Option ℕ) → i < length turns →
    turn ≡ get_or turns i turn → after ≡ (if code_of turn == code then Some i else before) →
    option_and_then (slice_get turns) before ≡ find (λ turn. code_of turn == code) (drop (i + 1) turns) →
    option_and_then (slice_get turns) after ≡ find (λ turn. code_of turn == code) (drop i turns)
place_more turns i code turn before after inside is put so_far = elim (cases_Bool (code_of turn == code)) [
  | inl same ↦
      rw (put, drop_more turns i turn inside, ← is, same) (slice_get_read turns (length turns) i turn refl inside is)
  | inr other ↦ rw (put, drop_more turns i turn inside, ← is, other) so_far
]

-- The clusters of tables.

pub are_seats : (t : Tables) → AreTables t → AreSeats (table_order t)
are_seats t lawful = record {
  ids = all_weaker (IsTurnIn t) (λ turn. turn.cluster.flow.id < 65536) small (table_order t) (table_order-turns t);
  lists = all_weaker (IsTurnIn t) (λ turn. turn.cluster.list < 2) short (table_order t) (table_order-turns t);
  few = omega (
    arith,
    table_order-length t,
    clusters_few t.flows (all_weaker (IsFlow t)
        (λ flow. length flow.clusters ≤ 2) (λ flow is. is.some_clusters.1) t.flows lawful.flows),
    lawful.few_flows,
  );
}
  where
    small : (turn : Turn) → IsTurnIn t turn → turn.cluster.flow.id < 65536
    small turn is =
        omega (arith, (all_found (IsFlow t) t.flows turn.place turn.cluster.flow lawful.flows is.flow).id.1)

    short : (turn : Turn) → IsTurnIn t turn → turn.cluster.list < 2
    short turn is =
        omega (
          arith,
          (all_found (IsFlow t) t.flows turn.place turn.cluster.flow lawful.flows is.flow).some_clusters.1,
          placed_inside turn.cluster.flow.clusters turn.cluster.list turn.cluster.sids is.sids,
        )

    length-from : (flow : FlowTable) (list : ℕ) (lists : List (List ℕ)) →
        length (clusters_from flow list lists) ≡ length lists
    length-from flow list [] = refl
    length-from flow list (sids ∷ rest) = ap (λ n. suc n) (length-from flow (list + 1) rest)

    own_few : (flow : FlowTable) → length flow.clusters ≤ 2 → length (requesting flow) ≤ 2
    own_few flow most = elim (cases_Bool (makes_requests flow.kind)) [
      | inl is ↦ rw is (omega (arith, length-from flow 0 flow.clusters, most))
      | inr none ↦ rw none (omega arith)
    ]

    clusters_few : (flows : List FlowTable) → AllByRecursion (λ flow. length flow.clusters ≤ 2) flows →
        length (flat_map requesting flows) ≤ 2 * length flows
    clusters_few [] most = omega arith
    clusters_few (flow ∷ flows) most =
        omega (
          arith,
          length-append (requesting flow) (flat_map requesting flows),
          own_few flow most.0,
          clusters_few flows most.1,
        )

-- What a line names.

-- the turns of tables that a line names are one turn
pub one_named : (t : Tables) (a b : Turn) (id list : ℕ) → AreTables t → IsTurnIn t a → IsTurnIn t b →
    names id list a ≡ true → names id list b ≡ true → a ≡ b
one_named t a b id list lawful known other named too =
    let its = and_parts (id == a.cluster.flow.id) (list == a.cluster.list) named in
    let both = and_parts (id == b.cluster.flow.id) (list == b.cluster.list) too in
    one_turn t a b known other (one_number t a b lawful.flows_apart known other
    (sym (eqb-true id a.cluster.flow.id its.0) ∙ eqb-true id b.cluster.flow.id both.0)
    (sym (eqb-true list a.cluster.list its.1) ∙ eqb-true list b.cluster.list both.1))

-- one that a line names is found
pub named_found : (t : Tables) (turn : Turn) (id list : ℕ) → IsTurnIn t turn → names id list turn ≡ true →
    find (names id list) (table_order t) ≡ None → ⊥
named_found t turn id list known named none =
    let listed = turn_listed t turn known in
    let found = find_some (names id list) (IsTurnIn t) (table_order t) (table_order-turns t)
    (any_placed (names id list) (table_order t) listed.0 turn listed.1 named) in
    let never : None ≡ Some found.item = sym none ∙ found.found in
    cc never

-- and a line names it where it has the word of what the line names
pub named_word : (t : Tables) (turn : Turn) (id list : ℕ) → AreTables t → IsTurnIn t turn →
    names id list turn ≡ is_number turn.number (word_of id list (table_order t))
named_word t turn id list lawful known = of (find (names id list) (table_order t)) refl
  where
    of : (found : Option Turn) → find (names id list) (table_order t) ≡ found →
        names id list turn ≡ is_number turn.number (word_in found)
    of None is = false_from_ne_true (names id list turn) (λ named. named_found t turn id list known named is)
    of (Some other) is =
        let there = found_passes (names id list) (IsTurnIn t) (table_order t) other is (table_order-turns t) in
        elim (cases_eq other.number turn.number) [
          | inl same ↦
              ap (names id list) (sym (one_turn t other turn there.0 known same)) ∙ there.1
              ∙ sym (eq-eqb other.number turn.number same)
          | inr apart ↦
              false_from_ne_true (names id list turn) (λ named.
              apart (ap (λ (u : Turn). u.number) (one_named t other turn id list lawful there.0 known there.1 named)))
              ∙ sym (ne_eqb other.number turn.number apart)
        ]

-- so lines name the turns of tables by their words
pub are_named : (t : Tables) → AreTables t → AreNamed (length (words_of t)) (table_order t)
are_named t lawful = record {
  inside = all_weaker (IsTurnIn t) (λ turn. turn.number < length (words_of t)) (λ turn is. is.number) (table_order t)
      (table_order-turns t);
  named = λ id list.
      all_weaker (IsTurnIn t) (λ turn. names id list turn ≡ is_number turn.number (word_of id list (table_order t)))
      (λ turn is. named_word t turn id list lawful is) (table_order t) (table_order-turns t);
}

-- and lead to flows
pub are_placed : (t : Tables) → AllByRecursion (λ turn. turn.place < length t.flows) (table_order t)
are_placed t =
    all_weaker (IsTurnIn t) (λ turn. turn.place < length t.flows)
    (λ turn is. placed_inside t.flows turn.place turn.cluster.flow is.flow) (table_order t) (table_order-turns t)

-- Flows that make requests.

-- what stands behind other items
pub slice_behind : {X : Type 0} (xs ys : List X) (k : ℕ) → slice_get (xs ++ ys) (length xs + k) ≡ slice_get ys k
slice_behind [] ys k =
    let same : 0 + k ≡ k = omega arith in
    ap (slice_get ys) same
slice_behind (x ∷ xs) ys k =
    let same : suc (length xs) + k ≡ suc (length xs + k) = omega arith in
    ap (slice_get (x ∷ xs ++ ys)) same ∙ slice_behind xs ys k

-- each has a first cluster, which stands in table order
first_listed : (place number i : ℕ) (flows : List FlowTable) (flow : FlowTable) → slice_get flows i ≡ Some flow →
    makes_requests flow.kind ≡ true → 1 ≤ length flow.clusters →
    (k : ℕ) × (turn : Turn) × (slice_get (turns_from place number flows) k ≡ Some turn) × (turn.cluster.flow ≡ flow)
    × (turn.cluster.list ≡ 0)
first_listed place number i [] flow at asks some = absurd (cc at)
first_listed place number zero (f ∷ flows) flow at asks some =
    let same : f ≡ flow = cc at in
    let all : requesting f ≡ clusters_from f 0 f.clusters =
    ap (λ b. if b then clusters_from f 0 f.clusters else []) (ap (λ (g : FlowTable). makes_requests g.kind) same ∙ asks) in
    let its = head f.clusters (omega (arith, some, ap (λ (g : FlowTable). length g.clusters) same)) in (
      0,
      its.0,
      subst (λ own. slice_get (turns_for place number own ++ rest) 0 ≡ Some its.0) (sym all) its.1,
      its.2 ∙ same,
      its.3,
    )
  where
    rest : List Turn
    rest = turns_from (place + 1) (number + length (words_in f)) flows

    head : (lists : List (List ℕ)) → 1 ≤ length lists →
        (turn : Turn) × (slice_get (turns_for place number (clusters_from f 0 lists) ++ rest) 0 ≡ Some turn)
        × (turn.cluster.flow ≡ f) × (turn.cluster.list ≡ 0)
    head [] some = absurd (omega (arith, some))
    head (sids ∷ lists) some =
        (record { number = number; place = place; cluster = record { flow = f; list = 0; sids = sids } }, refl, refl, refl)
first_listed place number (suc i) (f ∷ flows) flow at asks some =
    let own : List Turn = turns_for place number (requesting f) in
    let more = first_listed (place + 1) (number + length (words_in f)) i flows flow at asks some in (
      length own + more.0,
      more.1,
      slice_behind own (turns_from (place + 1) (number + length (words_in f)) flows) more.0 ∙ more.2,
      more.3,
      more.4,
    )

-- and is found by the flow's id, which no other flow has
pub flow_named : (t : Tables) (i : ℕ) (flow : FlowTable) (id : ℕ) → AreTables t → slice_get t.flows i ≡ Some flow →
    makes_requests flow.kind ≡ true → is_number i (flow_in (find (names id 0) (table_order t))) ≡ (id == flow.id)
flow_named t i flow id lawful at asks = of (find (names id 0) (table_order t)) refl
  where
    of : (found : Option Turn) → find (names id 0) (table_order t) ≡ found →
        is_number i (flow_in found) ≡ (id == flow.id)
    of None is =
        let own = first_listed 0 0 i t.flows flow at asks (all_found (IsFlow t) t.flows i flow lawful.flows at).some_clusters.0 in
        let first : Turn = own.1 in
        sym (ne_eqb id flow.id (λ same.
        named_found t first id 0 (all_found (IsTurnIn t) (table_order t) own.0 first (table_order-turns t) own.2)
        (and_from (id == first.cluster.flow.id) (0 == first.cluster.list)
        (eq-eqb id first.cluster.flow.id (same ∙ ap (λ (f : FlowTable). f.id) (sym own.3)))
        (eq-eqb 0 first.cluster.list (sym own.4))) is))
    of (Some turn) is =
        let there = found_passes (names id 0) (IsTurnIn t) (table_order t) turn is (table_order-turns t) in
        let named : id ≡ turn.cluster.flow.id =
        eqb-true id turn.cluster.flow.id (and_parts (id == turn.cluster.flow.id) (0 == turn.cluster.list) there.1).0 in
        elim (cases_eq turn.place i) [
          | inl same ↦
              let found : Some turn.cluster.flow ≡ Some flow = sym there.0.flow ∙ ap (slice_get t.flows) same ∙ at in
              let one : turn.cluster.flow ≡ flow = cc found in
              eq-eqb turn.place i same ∙ sym (eq-eqb id flow.id (named ∙ ap (λ (f : FlowTable). f.id) one))
          | inr apart ↦
              ne_eqb turn.place i apart
              ∙ sym (ne_eqb id flow.id (λ same. apart (place_of_id t.flows turn.place i turn.cluster.flow flow
              lawful.flows_apart there.0.flow at (sym named ∙ same))))
        ]

number_is : (n : ℕ) (found : Option ℕ) → is_number n found ≡ true → Some n ≡ found
number_is n None is = absurd (false≢true is)
number_is n (Some k) is = ap Some (sym (eqb-true k n is))

-- a cluster that is found by the flow's id stands at the flow's place
pub same_flow : (t : Tables) (id list : ℕ) (turn : Turn) → AreTables t → find (names id list) (table_order t) ≡ Some turn →
    Some turn.place ≡ flow_in (find (names id 0) (table_order t))
same_flow t id list turn lawful is =
    let there = found_passes (names id list) (IsTurnIn t) (table_order t) turn is (table_order-turns t) in
    let named = (and_parts (id == turn.cluster.flow.id) (list == turn.cluster.list) there.1).0 in
    number_is turn.place (flow_in (find (names id 0) (table_order t)))
    (flow_named t turn.place turn.cluster.flow id lawful there.0.flow there.0.requests ∙ named)
