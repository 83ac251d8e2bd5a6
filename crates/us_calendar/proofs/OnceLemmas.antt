-- What a round tells of an occurrence of an entry.
use Rattle.std.proofs.Common.{◌≡◌, ℕ, zero, suc, ◌+◌, ◌*◌, ◌/◌, ◌%◌, ◌<◌, ◌≤◌, nat_lt, ◌&&◌, Bool, true, false, cond, List, [], ◌∷◌, ◌++◌, map, flat_map, filter, count_by, Option, Some, None, refl, ap, sym, ◌∙◌, inl, inr, subst, le-ltb, lt-ltb, eq-eqb, ne_eqb, arith}
use Rattle.std.specs.List.{AllByRecursion, range_with_len}
use Rattle.std.proofs.lemmas.Bool.{cases_lt, cases_eq, cases_order, cases_Bool, and_parts, ltb-true, ltb-false}
use Rattle.std.proofs.lemmas.List.Sums.{sum_by-cons}
use Rattle.std.proofs.lemmas.Nat.{div-add-mod', pow_pos}
use Rattle.us_slots.specs.Times.{minislot_ticks}
use Rattle.us_holes.specs.Boards.{Board, fits, assign_all}
use Rattle.us_holes.proofs.LawLemmas.{first_of-is, assign_all-append}
use Rattle.us_calendar.specs.Entries.{Entry, slots_of, owner_of, rank_of}
use Rattle.us_calendar.specs.Occurrences.{Pace, ideal, starts_within, end_of, is_over, comes, window_end}
use Rattle.us_calendar.specs.Settling.{Settlement, SettledEntry, spot, settlement, with_spot, told_as}
use Rattle.us_calendar.specs.Runs.{grants, misses, is_name, is_earlier, has_turn_before, assignments_of, end_after, IsRight}
use Rattle.us_calendar.specs.declared.settled.Settled.{Settled}
use Rattle.us_calendar.specs.Kept.{behind, settle_from}
use Rattle.us_calendar.proofs.IdealLemmas.{HasWindows, ideal-rises, number-below}
use Rattle.us_calendar.proofs.SpotLemmas.{spot-outside, none-within, later_start}
use Rattle.us_calendar.proofs.ComingLemmas.{between, comes_behind}
use Rattle.us_calendar.proofs.SettleLemmas.{nothing, then_settle, numbers_of, numbers_on, stop_here, wait_too, settle-next, settle-none, settle-waits}

-- the name of an entry's own occurrence, and when it has its turn

pub own_name : (e : Entry) (n m : ℕ) → m ≡ n →
    is_name e n (rank_of e.kind) e.id (m / e.grants) (m % e.grants) ≡ true
own_name e n m same =
    rw (same, eq-eqb (rank_of e.kind) (rank_of e.kind) refl, eq-eqb e.id e.id refl, eq-eqb (n / e.grants) (n / e.grants) refl, eq-eqb (n % e.grants) (n % e.grants) refl) refl

other_name : (e : Entry) (n m : ℕ) → (m ≡ n → ⊥) →
    is_name e n (rank_of e.kind) e.id (m / e.grants) (m % e.grants) ≡ false
other_name e n m other =
    rw (eq-eqb (rank_of e.kind) (rank_of e.kind) refl, eq-eqb e.id e.id refl) (elim (cases_eq (m / e.grants) (n / e.grants)) [
      | inr apart ↦ rw (ne_eqb (m / e.grants) (n / e.grants) apart) refl
      | inl same ↦ rw (eq-eqb (m / e.grants) (n / e.grants) same) (ne_eqb (m % e.grants) (n % e.grants) (λ rest. other (
          sym (div-add-mod' m e.grants) ∙ ap (λ i. i * e.grants + m % e.grants) same ∙
          ap (λ k. n / e.grants * e.grants + k) rest ∙ div-add-mod' n e.grants)))
    ])

own_turn : (e : Entry) (n m : ℕ) →
    has_turn_before e n (rank_of e.kind) e.id (m / e.grants * e.grants + m % e.grants) ≡ nat_lt m n
own_turn e n m =
    rw (le-ltb (rank_of e.kind) (rank_of e.kind) (omega arith), eq-eqb (rank_of e.kind) (rank_of e.kind) refl, le-ltb e.id e.id (omega arith), eq-eqb e.id e.id refl, div-add-mod' m e.grants) refl

-- where a window lies outside of a round, it has no fit there

pub not_yet : (pace : Pace) (round : ℕ) (e : Entry) (active : Bool) (n : ℕ) (board : Board) →
    end_of pace round ≤ ideal e n → spot pace round e active n board ≡ None
not_yet pace round e active n board later =
    sym (spot-outside pace round e active n board (λ at inside. none-within pace.time e n (round * pace.len + at) (λ is.
    let last : round * pace.len + at + 1 ≤ (round + 1) * pace.len = grind arith in
    let below = later_start pace.time (round * pace.len + at + 1) ((round + 1) * pace.len) last in
    let ticks = pow_pos pace.time.minislot_log2 in
    let product : (round * pace.len + at + 1) * minislot_ticks pace.time ≡
    (round * pace.len + at) * minislot_ticks pace.time + minislot_ticks pace.time = grind arith in
    omega (arith, is.0, later, below, ticks, product))))

pub no_more : (pace : Pace) (round : ℕ) (e : Entry) (active : Bool) (n : ℕ) (board : Board) →
    window_end e n < end_after pace round → spot pace round e active n board ≡ None
no_more pace round e active n board past =
    sym (spot-outside pace round e active n board (λ at inside. none-within pace.time e n (round * pace.len + at) (λ is.
    let above = later_start pace.time (round * pace.len) (round * pace.len + at) (omega arith) in
    omega (arith, is.1, past, above))))

abbrev pub one_if : Bool → ℕ
one_if b = cond b 1 0

-- what is told of an occurrence, and the board that it met
abbrev pub counted : Entry → ℕ → List Settled → ℕ
counted e n told = count_by (grants e n) told + count_by (misses e n) told

abbrev pub met : Entry → ℕ → Board → List Settled → Board
met e n board told = assign_all board (flat_map assignments_of (filter (is_earlier e n) told))

module _ (pace : Pace) (r : ℕ) (e : Entry) (speaks : ℕ → Bool) (n : ℕ) where
  -- as what it comes
  abbrev own : Bool
  own = speaks (ideal e n)

  -- what a round told of occurrence `n`, where the first ones up to `first` were settled before it, and those up to
  -- `next` are behind it
  pub record InRound (first next : ℕ) (board : Board) (told : List Settled) : Type 0 where
    pub rises : first ≤ next
    pub before : n < first → counted e n told ≡ 0
    pub left_out : comes e speaks n ≡ false → counted e n told ≡ 0
    pub once : comes e speaks n ≡ true → first ≤ n → n < next → counted e n told ≡ 1
    pub behind : next ≤ n → counted e n told ≡ 0
    pub over : window_end e n < end_after pace (r + 1) → n < next
    pub still : end_after pace (r + 1) ≤ window_end e n → count_by (misses e n) told ≡ 0
    pub right : AllByRecursion (IsRight pace r e own n (met e n board told)) told
    pub room : comes e speaks n ≡ true → first ≤ n → count_by (grants e n) told ≡ 0 →
        spot pace r e own n (met e n board told) ≡ None

  -- the same of its own entry's turn, which has nothing to tell before the first
  pub record OwnRound (first next : ℕ) (board : Board) (told : List Settled) : Type 0 where
    pub of : InRound first next board told
    pub none : n ≤ first → filter (is_earlier e n) told ≡ []
    pub any : n < first → (b : Board) → AllByRecursion (IsRight pace r e own n b) told

  -- one that is settled first
  record Head (first : ℕ) (board : Board) (one : Settled) (after : Board) : Type 0 where
    pub here : n ≡ first → one_if (grants e n one) + one_if (misses e n one) ≡ 1
    pub away : (n ≡ first → ⊥) → (grants e n one ≡ false) × (misses e n one ≡ false)
    pub earlier : is_earlier e n one ≡ nat_lt first n
    pub leaves : after ≡ assign_all board (assignments_of one)
    pub right : n ≡ first → IsRight pace r e own n board one
    pub any : (n ≡ first → ⊥) → (b : Board) → IsRight pace r e own n b one
    pub room : n ≡ first → grants e n one ≡ false → spot pace r e own n board ≡ None
    pub still : end_after pace (r + 1) ≤ window_end e n → misses e n one ≡ false

  count-granted : (one : Settled) (rest : List Settled) →
      count_by (grants e n) (one ∷ rest) ≡ one_if (grants e n one) + count_by (grants e n) rest
  count-granted one rest = sum_by-cons (λ s. one_if (grants e n s)) one rest

  count-missed : (one : Settled) (rest : List Settled) →
      count_by (misses e n) (one ∷ rest) ≡ one_if (misses e n one) + count_by (misses e n) rest
  count-missed one rest = sum_by-cons (λ s. one_if (misses e n s)) one rest

  granted_head : (first at : ℕ) (board : Board) → spot pace r e (speaks (ideal e first)) first board ≡ Some at →
      Head first board (told_as e (record { number = first; active = speaks (ideal e first); start = Some at }))
      (with_spot e (speaks (ideal e first)) (Some at) board)
  unfolding assign_all
  granted_head first at board is =
      let active : Bool = speaks (ideal e first) in
      let found = first_of-is
      (λ i. starts_within pace.time e first (r * pace.len + i) && fits board (slots_of e active) i) 0 pace.len at is in
      let both = and_parts (starts_within pace.time e first (r * pace.len + at)) (fits board (slots_of e active) at)
      found.passing in
      record {
        here = λ same. rw (own_name e n first (sym same)) refl;
        away = λ other. (other_name e n first (λ same. other (sym same)), refl);
        earlier = own_turn e n first;
        leaves = refl;
        right = λ same named. (
          omega (arith, found.below),
          subst (λ m. starts_within pace.time e m (r * pace.len + at) ≡ true) (sym same) both.0,
          both.1,
          ap (λ m. slots_of e (speaks (ideal e m))) (sym same),
          ap (λ m. owner_of e (speaks (ideal e m))) (sym same),
          subst (λ m. spot pace r e (speaks (ideal e m)) m board ≡ Some at) (sym same) is,
        );
        any = λ other b named.
            let never : false ≡ true = sym (other_name e n first (λ same. other (sym same))) ∙ named in absurd cc;
        room = λ same isnt.
            let never : true ≡ false = sym (own_name e n first (sym same)) ∙ isnt in absurd cc;
        still = λ late. refl;
      }

  missed_head : (first : ℕ) (board : Board) → spot pace r e (speaks (ideal e first)) first board ≡ None →
      is_over pace r e first ≡ true → end_after pace r ≤ window_end e first →
      Head first board (told_as e (record { number = first; active = speaks (ideal e first); start = None })) board
  unfolding assign_all
  missed_head first board is over fresh =
      let past = ltb-true (window_end e first) (end_of pace r) over in
      record {
        here = λ same. rw (own_name e n first (sym same)) refl;
        away = λ other. (refl, other_name e n first (λ same. other (sym same)));
        earlier = own_turn e n first;
        leaves = refl;
        right = λ same named. (
          subst (λ m. end_after pace r ≤ window_end e m) (sym same) fresh,
          subst (λ m. window_end e m < end_after pace (r + 1)) (sym same) past,
        );
        any = λ other b named.
            let never : false ≡ true = sym (other_name e n first (λ same. other (sym same))) ∙ named in absurd cc;
        room = λ same isnt. subst (λ m. spot pace r e (speaks (ideal e m)) m board ≡ None) (sym same) is;
        still = λ late. other_name e n first (λ same.
            let here : window_end e n < end_after pace (r + 1) =
            subst (λ m. window_end e m < end_after pace (r + 1)) same past in
            omega (arith, here, late));
      }

  module _ (first then next : ℕ) (board after : Board) (one : Settled) (rest : List Settled)
      (it : comes e speaks first ≡ true) (low : first < then)
      (between : first < n → n < then → comes e speaks n ≡ false)
      (head : Head first board one after) (others : OwnRound then next after rest) where
    kept_out : n ≤ first → filter (is_earlier e n) (one ∷ rest) ≡ []
    kept_out h =
        rw (head.earlier ∙ le-ltb first n h) (others.none (omega (arith, h)))

    met_here : n ≤ first → met e n board (one ∷ rest) ≡ board
    unfolding assign_all
    met_here h = ap (λ told. assign_all board (flat_map assignments_of told)) (kept_out h)

    met_later : first < n → met e n board (one ∷ rest) ≡ met e n after rest
    met_later h =
        rw (head.earlier ∙ lt-ltb first n h)
        (assign_all-append board (assignments_of one) (flat_map assignments_of (filter (is_earlier e n) rest)) ∙
        ap (λ b. assign_all b (flat_map assignments_of (filter (is_earlier e n) rest))) (sym head.leaves))

    granted_is : count_by (grants e n) (one ∷ rest) ≡ one_if (grants e n one) + count_by (grants e n) rest
    granted_is = count-granted one rest

    missed_is : count_by (misses e n) (one ∷ rest) ≡ one_if (misses e n one) + count_by (misses e n) rest
    missed_is = count-missed one rest

    no_head : (n ≡ first → ⊥) →
        (count_by (grants e n) (one ∷ rest) ≡ count_by (grants e n) rest) ×
        (count_by (misses e n) (one ∷ rest) ≡ count_by (misses e n) rest)
    no_head other =
        let granted_none = ap one_if (head.away other).0 in
        let missed_none = ap one_if (head.away other).1 in
        (omega (arith, granted_is, granted_none), omega (arith, missed_is, missed_none))

    its_own : n ≡ first → OwnRound first next board (one ∷ rest)
    its_own same =
        let here = head.here same in
        let after_it = others.of.before (omega (arith, same, low)) in
        let rises = others.of.rises in
        let board_is = met_here (omega (arith, same)) in
        record {
          of = record {
            rises = omega (arith, rises, low);
            before = λ less. absurd (omega (arith, less, same));
            left_out = λ out.
                let never : true ≡ false = sym it ∙ ap (comes e speaks) (sym same) ∙ out in absurd cc;
            once = λ _ from to. omega (arith, here, after_it, granted_is, missed_is);
            behind = λ past. absurd (omega (arith, past, same, rises, low));
            over = λ over. omega (arith, same, rises, low);
            still = λ late.
                let isnt = ap one_if (head.still late) in omega (arith, missed_is, isnt, after_it);
            right = (
              subst (λ b. IsRight pace r e own n b one) (sym board_is) (head.right same),
              others.any (omega (arith, same, low)) (met e n board (one ∷ rest)),
            );
            room = λ _ from none. ap (λ b. spot pace r e own n b) board_is ∙ head.room same (not_granted none);
          };
          none = kept_out;
          any = λ less. absurd (omega (arith, less, same));
        }
      where
        not_granted : count_by (grants e n) (one ∷ rest) ≡ 0 → grants e n one ≡ false
        not_granted none = elim (cases_Bool (grants e n one)) [
          | inr f ↦ f
          | inl t ↦ let one_is = ap one_if t in absurd (omega (arith, none, granted_is, one_is))
        ]

    of_earlier : n < first → OwnRound first next board (one ∷ rest)
    of_earlier less =
        let apart : n ≡ first → ⊥ = λ same. omega (arith, same, less) in
        let counts = no_head apart in
        let others_none = others.of.before (omega (arith, less, low)) in
        let rises = others.of.rises in
        record {
          of = record {
            rises = omega (arith, rises, low);
            before = λ _. omega (arith, counts.0, counts.1, others_none);
            left_out = λ _. omega (arith, counts.0, counts.1, others_none);
            once = λ _ from to. absurd (omega (arith, from, less));
            behind = λ past. absurd (omega (arith, past, less, rises, low));
            over = λ over. omega (arith, less, rises, low);
            still = λ late. omega (arith, counts.1, others_none);
            right = (
              head.any apart (met e n board (one ∷ rest)),
              others.any (omega (arith, less, low)) (met e n board (one ∷ rest)),
            );
            room = λ _ from none. absurd (omega (arith, from, less));
          };
          none = kept_out;
          any = λ _ b. (head.any apart b, others.any (omega (arith, less, low)) b);
        }

    of_later : first < n → OwnRound first next board (one ∷ rest)
    of_later more =
        let apart : n ≡ first → ⊥ = λ same. omega (arith, same, more) in
        let counts = no_head apart in
        let rises = others.of.rises in
        let board_is = met_later more in
        record {
          of = record {
            rises = omega (arith, rises, low);
            before = λ less. absurd (omega (arith, less, more));
            left_out = λ out. let none = others.of.left_out out in omega (arith, counts.0, counts.1, none);
            once = λ its from to.
                let one_then = others.of.once its (past_it its) to in omega (arith, counts.0, counts.1, one_then);
            behind = λ past. let none = others.of.behind past in omega (arith, counts.0, counts.1, none);
            over = others.of.over;
            still = λ late. counts.1 ∙ others.of.still late;
            right = (
              head.any apart (met e n board (one ∷ rest)),
              subst (λ b. AllByRecursion (IsRight pace r e own n b) rest) (sym board_is) others.of.right,
            );
            room = λ its from none. ap (λ b. spot pace r e own n b) board_is ∙
                others.of.room its (past_it its) (sym counts.0 ∙ none);
          };
          none = kept_out;
          any = λ less. absurd (omega (arith, less, more));
        }
      where
        past_it : comes e speaks n ≡ true → then ≤ n
        past_it its = elim (cases_lt n then) [
          | inr past ↦ past
          | inl inside ↦ let never : false ≡ true = sym (between more inside) ∙ its in absurd cc
        ]

    step : OwnRound first next board (one ∷ rest)
    step = elim (cases_order n first) [
      | inl same ↦ its_own same
      | inr other ↦ elim other [ inl less ↦ of_earlier less | inr more ↦ of_later more ]
    ]

  -- where nothing more is settled
  stopped : (first : ℕ) (board : Board) → HasWindows e → end_of pace r ≤ window_end e first →
      ((m : ℕ) → first ≤ m → spot pace r e (speaks (ideal e m)) m board ≡ None) → OwnRound first first board []
  unfolding assign_all
  stopped first board is late none =
      record {
        of = record {
          rises = omega arith;
          before = λ _. refl;
          left_out = λ _. refl;
          once = λ _ low high. absurd (omega (arith, low, high));
          behind = λ _. refl;
          over = λ over. elim (cases_lt n first) [
            | inl less ↦ less
            | inr low ↦ absurd (omega (arith, ideal-rises e first n is low, over, late))
          ];
          still = λ _. refl;
          right = tt;
          room = λ _ low _. none n low;
        };
        none = λ _. refl;
        any = λ _ b. tt;
      }

  -- the turn of its entry: what is settled then, that the next one comes and its window isn't over, and what is told
  abbrev pub Turn : ℕ → Board → Type 0
  Turn first board =
      (next : ℕ) ×
      (range_with_len 0 first ++ numbers_of e (settle_from pace r e speaks first board).settlements ≡ range_with_len 0 next) ×
      (comes e speaks next ≡ true) × (end_of pace r ≤ window_end e next) ×
      OwnRound first next board (map (told_as e) (settle_from pace r e speaks first board).settlements)

  halt : (first : ℕ) (board : Board) → comes e speaks first ≡ true → end_of pace r ≤ window_end e first →
      settle_from pace r e speaks first board ≡ nothing board → OwnRound first first board [] → Turn first board
  halt first board it late last round = (
    first,
    stop_here pace r e speaks first board last,
    it,
    late,
    subst (λ (o : SettledEntry). OwnRound first first board (map (told_as e) o.settlements)) (sym last) round,
  )

  go : (first : ℕ) (board : Board) (found : Option ℕ) → HasWindows e → comes e speaks first ≡ true →
      ideal e first < end_of pace r → spot pace r e (speaks (ideal e first)) first board ≡ found →
      settlement pace r e (speaks (ideal e first)) first found ≡
      record { number = first; active = speaks (ideal e first); start = found } ∷ [] →
      Head first board (told_as e (record { number = first; active = speaks (ideal e first); start = found }))
      (with_spot e (speaks (ideal e first)) found board) →
      Turn (behind e (speaks (ideal e first)) first) (with_spot e (speaks (ideal e first)) found board) → Turn first board
  go first board found is it due found_is settled_so head rest =
      let active : Bool = speaks (ideal e first) in
      let one : Settlement = record { number = first; active = active; start = found } in
      let after : Board = with_spot e active found board in
      let then : ℕ = behind e active first in
      let others : SettledEntry = settle_from pace r e speaks then after in
      let told : List Settled = map (told_as e) others.settlements in
      let last : settle_from pace r e speaks first board ≡
      then_settle pace r e active first found (settle_from pace r e speaks then) board =
      settle-next pace r e speaks first board is it due ∙
      ap (λ f. then_settle pace r e active first f (settle_from pace r e speaks then) board) found_is in
      let settlements : (settle_from pace r e speaks first board).settlements ≡ one ∷ others.settlements =
      ap (λ (o : SettledEntry). o.settlements) last ∙ ap (λ ms. ms ++ others.settlements) settled_so in (
        rest.0,
        numbers_on pace r e speaks first board found is it due found_is settled_so ∙ rest.1,
        rest.2,
        rest.3,
        subst (λ ms. OwnRound first rest.0 board (map (told_as e) ms)) (sym settlements)
            (step first then rest.0 board after (told_as e one) told it (omega arith)
            (λ low high. between e speaks first n is it low high) head rest.4),
      )

  idle : (first : ℕ) (board : Board) → HasWindows e → comes e speaks first ≡ true → end_of pace r ≤ ideal e first →
      Turn first board
  idle first board is it late =
      halt first board it (omega (arith, late)) (settle-none pace r e speaks first board is late)
      (stopped first board is (omega (arith, late))
      (λ m low. not_yet pace r e (speaks (ideal e m)) m board (omega (arith, late, ideal-rises e first m is low))))

  pub own_round : (left first : ℕ) (board : Board) → HasWindows e → comes e speaks first ≡ true →
      end_after pace r ≤ window_end e first → end_of pace r * e.grants ≤ first + left → Turn first board
  own_round zero first board is it fresh all = elim (cases_lt (ideal e first) (end_of pace r)) [
    | inl due ↦ let below = number-below e first (end_of pace r) is due in absurd (omega (arith, below, all))
    | inr late ↦ idle first board is it late
  ]
  own_round (suc left) first board is it fresh all = elim (cases_lt (ideal e first) (end_of pace r)) [
    | inr late ↦ idle first board is it late
    | inl due ↦
        more due (spot pace r e (speaks (ideal e first)) first board) refl
        (λ next. own_round left (behind e (speaks (ideal e first)) first) next is (comes_behind e speaks first is it)
        (let rises = ideal-rises e first (behind e (speaks (ideal e first)) first) is (omega arith) in
        omega (arith, fresh, rises)) (omega (arith, all)))
  ]
    where
      waiting : is_over pace r e first ≡ false → spot pace r e (speaks (ideal e first)) first board ≡ None → (m : ℕ) →
          first ≤ m → spot pace r e (speaks (ideal e m)) m board ≡ None
      waiting open_yet none m low = elim (cases_lt (ideal e m) (end_of pace r)) [
        | inl due ↦ (wait_too pace r e speaks first m board is (none, open_yet) low due).0
        | inr late ↦ not_yet pace r e (speaks (ideal e m)) m board late
      ]

      more : ideal e first < end_of pace r → (found : Option ℕ) →
          spot pace r e (speaks (ideal e first)) first board ≡ found →
          ((next : Board) → Turn (behind e (speaks (ideal e first)) first) next) → Turn first board
      more due (Some at) found_is rest =
          go first board (Some at) is it due found_is refl (granted_head first at board found_is)
          (rest (with_spot e (speaks (ideal e first)) (Some at) board))
      more due None found_is rest = elim (cases_Bool (is_over pace r e first)) [
        | inl over ↦
            go first board None is it due found_is (rw over refl) (missed_head first board found_is over fresh)
            (rest board)
        | inr open_yet ↦
            let late = ltb-false (window_end e first) (end_of pace r) open_yet in
            halt first board it late (settle-waits pace r e speaks first board is (found_is, open_yet))
            (stopped first board is late (waiting open_yet found_is))
      ]
