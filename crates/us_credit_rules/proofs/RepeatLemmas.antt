-- Lines of requests: which is the only one of its cluster, channel and round, and which is right for the cluster that
-- it names.
use Rattle.std.proofs.Common.{◌≡◌, ℕ, ◌+◌, ◌*◌, ◌<◌, ◌≤◌, ◌==◌, Bool, true, false, cond, List, [], ◌∷◌, ◌++◌, length, get_or, replicate, set, Option, Some, None, refl, sym, ap, ap₂, ◌∙◌, ◌⊎◌, inl, inr, arith, eq-eqb, ne_eqb}
use Rattle.std.specs.Prelude.{◌&&◌, ◌||◌, not, nat_eq, nat_lt, if◌then◌else◌, find, count_by, IfSome}
use Rattle.std.specs.List.{AllByRecursion, list_all, list_any}
use Rattle.std.specs.Option.{option_eq}
use Rattle.std.proofs.lemmas.Bool.{and_from, and_left, and_parts, and_right, cases_Bool, cases_eq, cases_lt, eqb-false, eqb-true, false≢true, false_from_ne_true, le-ltb, lt-ltb, or_right}
use Rattle.std.proofs.lemmas.Bool.Decides.{nat_tests}
use Rattle.std.proofs.lemmas.Option.{slice_get_read}
use Rattle.std.proofs.lemmas.List.{get_or_default, get_or-set_same, get_or-set_other, length-replicate, length-set}
use Rattle.std.proofs.lemmas.List.Sums.{sum_by-cons}
use Rattle.us_flows.specs.declared.channels.Channel.{Channel}
use Rattle.us_flows.specs.Tables.{Tables, channel_with}
use Rattle.us_flows.specs.Lawful.{AreTables, IsChannel}
use Rattle.us_flows.specs.Clusters.{Turn, IsTurnIn, has_sid, table_order}
use Rattle.us_flows.proofs.TurnLaws.{one_turn, table_order-turns}
use Rattle.us_requests.specs.Traces.{TraceAsks}
use Rattle.us_output.specs.declared.rows.Grant.{Grant}
use Rattle.us_output.specs.declared.rows.Row.{Row}
use Rattle.us_output.proofs.PartLemmas.{all_weaker}
use Rattle.us_reports.specs.declared.place.Place.{Place}
use Rattle.us_lawful.specs.Runs.{requested_in, run_in}
use Rattle.us_lawful.specs.Credits.{has_cost, is_like, is_right_credit, is_credit_at, credit_lines_hold}
use Rattle.us_lawful.proofs.ItemLemmas.{IsFound, any_placed, find_some}
use Rattle.us_lawful.proofs.CreditLineLaws.{counted_there, turn_listed}
use Rattle.us_lawful.proofs.SameLemmas.{sum_append}
use Rattle.us_reports.specs.Breaches.{At, Either, IsFirstFailure}
use Rattle.us_reports.specs.Order.{earlier}
use Rattle.us_reports.proofs.BreachLemmas.{any_append, append_any, at_test, at_there, joined, same_places}
use Rattle.us_reports.proofs.AnyLemmas.{any_at, any_each, any_of_all, any_where}
use Rattle.us_credit_rules.specs.Ends.{unless}
use Rattle.us_credit_rules.specs.Seats.{is_number, names, word_in, word_of}
use Rattle.us_credit_rules.specs.Repeats.{AreNoted, AreWrong, IsWrong, is_right_for, is_right_line, is_told, key_for, key_of, line_place, noted, wrong_place}
use Rattle.us_credit_rules.proofs.LedgerLemmas.{AreUpTo}
use Rattle.us_credit_rules.proofs.SeatLemmas.{found_all, found_passes, named_found, no_numbers, one_named, word_is}

same_test : (a b : Bool) → (a ≡ true → b ≡ true) → (b ≡ true → a ≡ true) → a ≡ b
same_test true b there back = sym (there refl)
same_test false b there back = sym (false_from_ne_true b (λ is. false≢true (back is)))

or_false : (b : Bool) → (b || false) ≡ b
or_false true = refl
or_false false = refl

-- Keys.

-- what a key is made of
record IsKey (found : Option ℕ) (channel key : ℕ) : Type 0 where
  number : ℕ
  found_is : found ≡ Some number
  small : channel < 256
  made : number * 256 + channel ≡ key

key_parts : (found : Option ℕ) (channel key : ℕ) → is_number key (key_for found channel) ≡ true → IsKey found channel key
key_parts None channel key is = absurd (false≢true is)
key_parts (Some number) channel key is = elim (cases_lt channel 256) [
  | inl small ↦ record {
    number = number;
    found_is = refl;
    small = small;
    made = eqb-true (number * 256 + channel) key (rw (lt-ltb channel 256 small) at is);
  }
  | inr large ↦ absurd (false≢true (rw (le-ltb channel 256 large) at is))
]

-- the cluster of a word that a line names
record IsNamed (t : Tables) (id list word : ℕ) : Type 0 where
  turn : Turn
  known : IsTurnIn t turn
  number : turn.number ≡ word
  id_is : id ≡ turn.cluster.flow.id
  list_is : list ≡ turn.cluster.list

word_named : (t : Tables) (id list word : ℕ) → word_of id list (table_order t) ≡ Some word → IsNamed t id list word
word_named t id list word named = of (find (names id list) (table_order t)) refl named
  where
    of : (found : Option Turn) → find (names id list) (table_order t) ≡ found → word_in found ≡ Some word →
        IsNamed t id list word
    of None is none = absurd (cc none)
    of (Some turn) is some =
        let there = found_passes (names id list) (IsTurnIn t) (table_order t) turn is (table_order-turns t) in
        let parts = and_parts (id == turn.cluster.flow.id) (list == turn.cluster.list) there.1 in
        record {
          turn = turn;
          known = there.0;
          number = cc some;
          id_is = eqb-true id turn.cluster.flow.id parts.0;
          list_is = eqb-true list turn.cluster.list parts.1;
        }

-- lines are of the same cluster, channel and round just where they have the same key and round
like_key : (t : Tables) (g o : Grant) (key : ℕ) → key_of (table_order t) g ≡ Some key →
    is_like g o ≡ (is_number key (key_of (table_order t) o) && (o.round == g.round))
like_key t g o key is =
    same_test (is_like g o) (is_number key (key_of turns o) && (o.round == g.round)) there back
  where
    turns : List Turn
    turns = table_order t

    own : is_number key (key_of turns g) ≡ true
    own = ap (is_number key) is ∙ eq-eqb key key refl

    there : is_like g o ≡ true → (is_number key (key_of turns o) && (o.round == g.round)) ≡ true
    there like =
        let a = and_parts (o.round == g.round) ((o.channel == g.channel) && ((o.id == g.id) && (o.i == g.i))) like in
        let b = and_parts (o.channel == g.channel) ((o.id == g.id) && (o.i == g.i)) a.1 in
        let c = and_parts (o.id == g.id) (o.i == g.i) b.1 in
        and_from (is_number key (key_of turns o)) (o.round == g.round)
        (ap (λ found. is_number key (key_for found o.channel))
        (ap₂ (λ id list. word_of id list turns) (eqb-true o.id g.id c.0) (eqb-true o.i g.i c.1))
        ∙ ap (λ channel. is_number key (key_for (word_of g.id g.i turns) channel)) (eqb-true o.channel g.channel b.0)
        ∙ own)
        a.0

    back : (is_number key (key_of turns o) && (o.round == g.round)) ≡ true → is_like g o ≡ true
    back same =
        let both = and_parts (is_number key (key_of turns o)) (o.round == g.round) same in
        let a = key_parts (word_of g.id g.i turns) g.channel key own in
        let b = key_parts (word_of o.id o.i turns) o.channel key both.0 in
        let channel : o.channel ≡ g.channel = omega (arith, a.small, b.small, a.made, b.made) in
        let number : b.number ≡ a.number = omega (arith, a.small, b.small, a.made, b.made) in
        let m = word_named t g.id g.i a.number a.found_is in
        let n = word_named t o.id o.i b.number b.found_is in
        let one : n.turn ≡ m.turn = one_turn t n.turn m.turn n.known m.known (n.number ∙ number ∙ sym m.number) in
        and_from (o.round == g.round) ((o.channel == g.channel) && ((o.id == g.id) && (o.i == g.i)))
        both.1
        (and_from (o.channel == g.channel) ((o.id == g.id) && (o.i == g.i)) (eq-eqb o.channel g.channel channel)
        (and_from (o.id == g.id) (o.i == g.i)
        (eq-eqb o.id g.id (n.id_is ∙ ap (λ (u : Turn). u.cluster.flow.id) one ∙ sym m.id_is))
        (eq-eqb o.i g.i (n.list_is ∙ ap (λ (u : Turn). u.cluster.list) one ∙ sym m.list_is))))

-- Clusters.

-- the test of the cluster that is found
abbrev asked_of : (Turn → Bool) → Option Turn → Bool
asked_of r None = false
asked_of r (Some turn) = r turn

-- that one alone is asked
module _ (t : Tables) (id list : ℕ) (r : Turn → Bool) where
  abbrev both : Turn → Bool
  both turn = names id list turn && r turn

  passing : list_any both (table_order t) ≡ true → IsFound both (IsTurnIn t) (table_order t)
  passing any = find_some both (IsTurnIn t) (table_order t) (table_order-turns t) any

  named_once : AreTables t → (found : Option Turn) → find (names id list) (table_order t) ≡ found →
      list_any both (table_order t) ≡ asked_of r found
  named_once lawful None is =
      false_from_ne_true (list_any both (table_order t)) (λ any.
      let one = passing any in
      named_found t one.item id list one.holds (and_parts (names id list one.item) (r one.item) one.passes).0 is)
  named_once lawful (Some u) is =
      let known = found_passes (names id list) (IsTurnIn t) (table_order t) u is (table_order-turns t) in
      same_test (list_any both (table_order t)) (r u)
      (λ any.
      let one = passing any in
      let parts = and_parts (names id list one.item) (r one.item) one.passes in
      ap r (one_named t u one.item id list lawful known.0 one.holds known.1 parts.0) ∙ parts.1)
      (λ right.
      let there = turn_listed t u known.0 in
      any_placed both (table_order t) there.0 u there.1 (and_from (names id list u) (r u) known.1 right))

-- no channel has an id of more than a byte
no_channel : (t : Tables) (id : ℕ) → AreTables t → 256 ≤ id → channel_with t.channels id ≡ None
no_channel t id lawful large =
    none_there t.channels (all_weaker (IsChannel t) (λ c. c.id < 256) (λ c is. omega (arith, is.id.1)) t.channels lawful.channels)
  where
    none_there : (cs : List Channel) → AllByRecursion (λ c. c.id < 256) cs → channel_with cs id ≡ None
    none_there [] small = refl
    none_there (c ∷ cs) small =
        let out : (c.id == id) ≡ false =
        false_from_ne_true (c.id == id) (λ same. omega (arith, eqb-true c.id id same, small.0, large)) in
        rw out (none_there cs small.1)

-- a line without a key isn't right
no_key : (t : Tables) (g : Grant) → AreTables t → key_of (table_order t) g ≡ None →
    is_right_line t.channels (table_order t) g ≡ false
no_key t g lawful none = of (find (names g.id g.i) (table_order t)) refl
  where
    large_out : 256 ≤ g.channel → (found : Option Turn) → is_right_for t.channels g found ≡ false
    large_out large None = refl
    large_out large (Some u) =
        let costs : Bool = has_cost u.cluster g (channel_with t.channels g.channel) in
        and_right (g.k == 0) (has_sid g.channel g.sid u.cluster && (nat_lt 0 g.credit && costs))
        (and_right (has_sid g.channel g.sid u.cluster) (nat_lt 0 g.credit && costs)
        (and_right (nat_lt 0 g.credit) costs (ap (has_cost u.cluster g) (no_channel t g.channel lawful large))))

    of : (found : Option Turn) → find (names g.id g.i) (table_order t) ≡ found →
        is_right_line t.channels (table_order t) g ≡ false
    of None is = ap (is_right_for t.channels g) is
    of (Some u) is = elim (cases_lt g.channel 256) [
      | inl small ↦
          absurd (cc (sym none ∙ ap (λ found. key_for (word_in found) g.channel) is
          ∙ ap (λ b. if b then Some (u.number * 256 + g.channel) else None) (lt-ltb g.channel 256 small)))
      | inr large ↦ large_out large (find (names g.id g.i) (table_order t))
    ]

-- Lines like another one.

-- one more
count_push : {X : Type 0} (p : X → Bool) (xs : List X) (x : X) →
    count_by p (xs ++ x ∷ []) ≡ count_by p xs + cond (p x) 1 0
count_push p xs x =
    omega (
      arith,
      sum_append (λ y. cond {A = ℕ} (p y) 1 0) xs (x ∷ []),
      sum_by-cons (λ y. cond {A = ℕ} (p y) 1 0) x [],
    )

pub any_push : {X : Type 0} (p : X → Bool) (xs : List X) (x : X) → list_any p (xs ++ x ∷ []) ≡ (list_any p xs || p x)
any_push p [] x = or_false (p x)
any_push p (y ∷ xs) x = ap (λ b. p y || b) (any_push p xs x) ∙ grouped (p y) (list_any p xs) (p x)
  where
    grouped : (a b c : Bool) → (a || (b || c)) ≡ (a || b || c)
    grouped true b c = refl
    grouped false b c = refl

-- whether one passes, by how many do
any_counted : {X : Type 0} (p : X → Bool) (xs : List X) → list_any p xs ≡ nat_lt 0 (count_by p xs)
any_counted p [] = grind (arith, nat_tests)
any_counted p (x ∷ xs) =
    let more = sum_by-cons (λ y. cond {A = ℕ} (p y) 1 0) x xs in
    let rest = any_counted p xs in
    elim (cases_Bool (p x)) [
      | inl is ↦ rw (more, is) (grind (arith, nat_tests))
      | inr out ↦ rw (more, out) (grind (arith, nat_tests))
    ]

counted_at : {X : Type 0} (p : X → Bool) (xs : List X) (i : ℕ) (d : X) → i < length xs → p (get_or xs i d) ≡ true →
    1 ≤ count_by p xs
counted_at p xs i d inside is = counted_there p xs i (get_or xs i d) (slice_get_read xs (length xs) i (get_or xs i d) refl inside (get_or_default xs i d (get_or xs i d) inside)) is

like_self : (g : Grant) → is_like g g ≡ true
like_self g =
    rw (eq-eqb g.round g.round refl, eq-eqb g.channel g.channel refl, eq-eqb g.id g.id refl, eq-eqb g.i g.i refl) refl

-- lines that are alike have one place, and are like each other
like_parts : (g o : Grant) → is_like g o ≡ true → (line_place g ≡ line_place o) × (is_like o g ≡ true)
like_parts g o like =
    let a = and_parts (o.round == g.round) ((o.channel == g.channel) && ((o.id == g.id) && (o.i == g.i))) like in
    let b = and_parts (o.channel == g.channel) ((o.id == g.id) && (o.i == g.i)) a.1 in
    let c = and_parts (o.id == g.id) (o.i == g.i) b.1 in
    let round : g.round ≡ o.round = sym (eqb-true o.round g.round a.0) in
    let channel : g.channel ≡ o.channel = sym (eqb-true o.channel g.channel b.0) in
    let id : g.id ≡ o.id = sym (eqb-true o.id g.id c.0) in
    let list : g.i ≡ o.i = sym (eqb-true o.i g.i c.1) in (
      (λ i. record { round = round i; channel = channel i; third = id i }),
      rw (eq-eqb g.round o.round round, eq-eqb g.channel o.channel channel, eq-eqb g.id o.id id, eq-eqb g.i o.i list) refl,
    )

-- One line more.

module _ (channels : List Channel) (turns : List Turn) (lines : List Grant) (g : Grant) where
  abbrev Again : Place → Type 0
  Again = At (line_place g) (not (list_any (is_like g) lines) && is_right_line channels turns g)

  -- of a line that was told, which is like this one or not
  still_wrong : (o : Grant) (p : Place) → 1 ≤ count_by (is_like o) lines → IsWrong channels turns lines o p →
      IsWrong channels turns (lines ++ g ∷ []) o p
  still_wrong o p some wrong = (
    wrong.0,
    ap (λ n. is_right_line channels turns o && (n == 1)) (count_push (is_like o) lines g)
        ∙ more (is_right_line channels turns o) (count_by (is_like o) lines) (cond (is_like o g) 1 0) some wrong.1,
  )
    where
      more : (right : Bool) (n k : ℕ) → 1 ≤ n → (right && (n == 1)) ≡ false → (right && (n + k == 1)) ≡ false
      more false n k some fails = refl
      more true n k some fails = ne_eqb (n + k) 1 (λ one. omega (arith, one, some, eqb-false n 1 fails))

  wrong_before : (o : Grant) (p : Place) → 1 ≤ count_by (is_like o) lines → (i : ℕ) → i < length lines →
      o ≡ get_or lines i g → IsWrong channels turns (lines ++ g ∷ []) o p → IsWrong channels turns lines o p ⊎ Again p
  wrong_before o p some i inside is wrong = elim (cases_Bool (is_like o g)) [
    | inl like ↦
        let both = like_parts o g like in
        let told : list_any (is_like g) lines ≡ true =
        any_counted (is_like g) lines
        ∙ lt-ltb 0 (count_by (is_like g) lines) (counted_at (is_like g) lines i g inside (ap (is_like g) (sym is) ∙ both.1)) in
        inr (
          wrong.0 ∙ both.0,
          and_left (not (list_any (is_like g) lines)) (is_right_line channels turns g) (ap not told),
        )
    | inr unlike ↦
        let same : count_by (is_like o) (lines ++ g ∷ []) ≡ count_by (is_like o) lines =
        omega (arith, count_push (is_like o) lines g, ap (λ b. cond {A = ℕ} b 1 0) unlike) in
        inl (wrong.0, ap (λ n. is_right_line channels turns o && (n == 1)) (sym same) ∙ wrong.1)
  ]

  -- and of this one
  again_test :
      (is_right_line channels turns g && (count_by (is_like g) (lines ++ g ∷ []) == 1))
      ≡ (not (list_any (is_like g) lines) && is_right_line channels turns g)
  again_test =
      ap (λ n. is_right_line channels turns g && (n == 1)) (count_push (is_like g) lines g
      ∙ ap (λ b. count_by (is_like g) lines + cond b 1 0) (like_self g))
      ∙ one (is_right_line channels turns g) (count_by (is_like g) lines)
      ∙ ap (λ b. not b && is_right_line channels turns g) (sym (any_counted (is_like g) lines))
    where
      one : (right : Bool) (n : ℕ) → (right && (n + 1 == 1)) ≡ (not (nat_lt 0 n) && right)
      one true n = grind (arith, nat_tests)
      one false n = grind (arith, nat_tests)

  more_there : (p : Place) → Either (AreWrong channels turns lines) Again p → AreWrong channels turns (lines ++ g ∷ []) p
  more_there p (inl before) =
      let at = any_where (IsWrong channels turns lines) lines g p before in
      let o : Grant = get_or lines at.0 g in
      append_any (IsWrong channels turns (lines ++ g ∷ [])) lines (g ∷ []) p
      (inl (any_at (IsWrong channels turns (lines ++ g ∷ [])) lines at.0 g p at.1
      (still_wrong o p (counted_at (is_like o) lines at.0 g at.1 (like_self o)) at.2)))
  more_there p (inr again) =
      append_any (IsWrong channels turns (lines ++ g ∷ [])) lines (g ∷ []) p (inr (inl (again.0, again_test ∙ again.1)))

  more_back : (p : Place) → AreWrong channels turns (lines ++ g ∷ []) p → Either (AreWrong channels turns lines) Again p
  more_back p wrong = elim (any_append (IsWrong channels turns (lines ++ g ∷ [])) lines (g ∷ []) p wrong) [
    | inl before ↦
        let at = any_where (IsWrong channels turns (lines ++ g ∷ [])) lines g p before in
        let o : Grant = get_or lines at.0 g in
        elim (wrong_before o p (counted_at (is_like o) lines at.0 g at.1 (like_self o)) at.0 at.1 refl at.2) [
          | inl there ↦ inl (any_at (IsWrong channels turns lines) lines at.0 g p at.1 there)
          | inr again ↦ inr again
        ]
    | inr last ↦ elim last [ inl here ↦ inr (here.0, sym again_test ∙ here.1) | inr none ↦ absurd none ]
  ]

-- the key of a word that has room is one of these
pub key_inside : (word : Option ℕ) (channel long : ℕ) → IfSome word (λ k. k * 256 + 256 ≤ long) →
    IfSome (key_for word channel) (λ key. key < long)
key_inside None channel long room = tt
key_inside (Some k) channel long room = elim (cases_lt channel 256) [
  | inl small ↦ rw (lt-ltb channel 256 small) (omega (arith, small, room))
  | inr large ↦ rw (le-ltb channel 256 large) tt
]

-- nothing is earlier
pub never_earlier : (channels : List Channel) (first : Option Place) → first ≡ earlier channels first None
never_earlier channels None = refl
never_earlier channels (Some p) = refl

-- Before all lines.

pub start_noted : (turns : List Turn) (words : ℕ) → AllByRecursion (λ turn. turn.number < words) turns →
    AreNoted turns [] 0 (replicate (words * 256) None)
start_noted turns words inside = record {
  long = all_weaker (λ turn. turn.number < words)
      (λ turn. turn.number * 256 + 256 ≤ length (replicate {A = Option ℕ} (words * 256) None))
      (λ turn few. omega (arith, few, length-replicate {A = Option ℕ} (words * 256) None)) turns inside;
  told = λ g key late is. ap (λ o. option_eq nat_eq o (Some g.round)) (no_numbers (words * 256) key);
}

-- Rounds that are noted, with one line more.

module _ (t : Tables) (lines : List Grant) (latest : ℕ) (last : List (Option ℕ))
    (are : AreNoted (table_order t) lines latest last) (upto : AreUpTo latest lines) (g : Grant) (later : latest ≤ g.round) where
  abbrev turns : List Turn
  turns = table_order t

  none_like : (o : Grant) → g.round < o.round → list_any (is_like o) lines ≡ false
  none_like o late = none lines upto
    where
      none : (xs : List Grant) → AreUpTo latest xs → list_any (is_like o) xs ≡ false
      none [] all = refl
      none (x ∷ xs) all =
          rw (ne_eqb x.round o.round (λ same. omega (arith, same, all.0, later, late))) (none xs all.1)

  noted_told : (o : Grant) (key : ℕ) → g.round ≤ o.round → key_of turns o ≡ Some key → (found : Option ℕ) →
      is_told (noted last found g.round) (Some key) o.round
      ≡ (list_any (is_like o) lines || (is_number key found && (g.round == o.round)))
  noted_told o key late is None =
      are.told o key (omega (arith, late, later)) is ∙ sym (or_false (list_any (is_like o) lines))
  noted_told o key late is (Some k) = elim (cases_eq k key) [
    | inl same ↦
        ap (λ o'. option_eq nat_eq o' (Some o.round))
        (ap (λ n. get_or (set last k (Some g.round)) n None) (sym same)
        ∙ get_or-set_same last k (Some g.round) None (omega (arith, same, inside)))
        ∙ its (eq-eqb k key same) (cases_eq g.round o.round)
    | inr other ↦
        ap (λ o'. option_eq nat_eq o' (Some o.round))
        (get_or-set_other last k key (Some g.round) None (λ same. other (sym same)))
        ∙ are.told o key (omega (arith, late, later)) is
        ∙ sym (ap (λ b. told || (b && (g.round == o.round))) (ne_eqb k key other) ∙ or_false told)
  ]
    where
      told : Bool
      told = list_any (is_like o) lines

      inside : key < length last
      inside = rw is at (key_inside (word_of o.id o.i turns) o.channel (length last)
          (word_is (λ k. k * 256 + 256 ≤ length last) (find (names o.id o.i) turns)
          (found_all (λ turn. turn.number * 256 + 256 ≤ length last) (names o.id o.i) turns are.long)))

      its : (k == key) ≡ true → (g.round ≡ o.round) ⊎ (g.round ≡ o.round → ⊥) →
          (g.round == o.round) ≡ (told || ((k == key) && (g.round == o.round)))
      its own (inl here) =
          eq-eqb g.round o.round here
          ∙ sym (or_right told ((k == key) && (g.round == o.round))
          (and_from (k == key) (g.round == o.round) own (eq-eqb g.round o.round here)))
      its own (inr apart) =
          ne_eqb g.round o.round apart
          ∙ sym (ap₂ (λ a b. a || b) (none_like o (omega (arith, late, apart)))
          (and_right (k == key) (g.round == o.round) (ne_eqb g.round o.round apart)))

  same_long : (found : Option ℕ) → length (noted last found g.round) ≡ length last
  same_long None = refl
  same_long (Some k) = length-set last k (Some g.round)

  pub noted_more : AreNoted turns (lines ++ g ∷ []) g.round (noted last (key_of turns g) g.round)
  noted_more = record {
    long = rw (same_long (key_of turns g)) are.long;
    told = λ o key late is.
        noted_told o key late is (key_of turns g)
        ∙ ap (λ b. list_any (is_like o) lines || b) (sym (like_key t o g key is))
        ∙ sym (any_push (is_like o) lines g);
  }

-- So they say whether a line is wrong.

pub wrong_more : (t : Tables) (lines : List Grant) (latest : ℕ) (last : List (Option ℕ)) (g : Grant)
    (first : Option Place) → AreTables t → AreNoted (table_order t) lines latest last → latest ≤ g.round →
    IsFirstFailure t.channels (AreWrong t.channels (table_order t) lines) first →
    IsFirstFailure t.channels (AreWrong t.channels (table_order t) (lines ++ g ∷ []))
    (earlier t.channels first
    (wrong_place t.channels last g (find (names g.id g.i) (table_order t))))
wrong_more t lines latest last g first lawful are later wrong =
    let turns : List Turn = table_order t in
    let right : Bool = is_right_line t.channels turns g in
    let told : Bool = list_any (is_like g) lines in
    rw (ap (λ b. unless b (line_place g)) (test (key_of turns g) refl))
    (same_places t.channels (Either (AreWrong t.channels turns lines) (Again t.channels turns lines g))
    (AreWrong t.channels turns (lines ++ g ∷ [])) (earlier t.channels first (unless (not told && right) (line_place g)))
    (more_there t.channels turns lines g) (more_back t.channels turns lines g)
    (joined t.channels (AreWrong t.channels turns lines) (Again t.channels turns lines g) first
    (unless (not told && right) (line_place g)) wrong (at_test t.channels (line_place g) (not told && right))))
  where
    test : (found : Option ℕ) → key_of (table_order t) g ≡ found →
        (not (is_told last (key_of (table_order t) g) g.round) && is_right_line t.channels (table_order t) g)
        ≡ (not (list_any (is_like g) lines) && is_right_line t.channels (table_order t) g)
    test None none =
        let out : is_right_line t.channels (table_order t) g ≡ false = no_key t g lawful none in
        and_right (not (is_told last (key_of (table_order t) g) g.round)) (is_right_line t.channels (table_order t) g) out
        ∙ sym (and_right (not (list_any (is_like g) lines)) (is_right_line t.channels (table_order t) g) out)
    test (Some key) some =
        ap (λ b. not b && is_right_line t.channels (table_order t) g)
        (ap (λ found. is_told last found g.round) some ∙ are.told g key later some)

-- Behind all lines.

right_credit : (t : Tables) (v : TraceAsks) (lines : List Row) (g : Grant) → AreTables t →
    is_right_credit (run_in t v) lines g
    ≡ (is_right_line t.channels (table_order t) g && (count_by (is_like g) (requested_in lines) == 1))
right_credit t v lines g lawful = of (find (names g.id g.i) (table_order t)) refl
  where
    alone : Bool
    alone = count_by (is_like g) (requested_in lines) == 1

    rest : Turn → Bool
    rest turn =
        (g.k == 0) && (has_sid g.channel g.sid turn.cluster && (nat_lt 0 g.credit
        && (has_cost turn.cluster g (channel_with t.channels g.channel) && alone)))

    grouped : (a b c d e : Bool) → (a && (b && (c && (d && e)))) ≡ ((a && (b && (c && d))) && e)
    grouped true true true d e = refl
    grouped true true false d e = refl
    grouped true false c d e = refl
    grouped false b c d e = refl

    of : (found : Option Turn) → find (names g.id g.i) (table_order t) ≡ found →
        list_any (λ turn. names g.id g.i turn && rest turn) (table_order t)
        ≡ (is_right_for t.channels g found && alone)
    of None is = named_once t g.id g.i rest lawful None is
    of (Some u) is =
        named_once t g.id g.i rest lawful (Some u) is
        ∙ grouped (g.k == 0) (has_sid g.channel g.sid u.cluster) (nat_lt 0 g.credit)
        (has_cost u.cluster g (channel_with t.channels g.channel)) alone

-- the first wrong line is the first that fails
pub lines_first : (t : Tables) (v : TraceAsks) (lines : List Row) (answer : Option Place) → AreTables t →
    IsFirstFailure t.channels (AreWrong t.channels (table_order t) (requested_in lines)) answer →
    IsFirstFailure t.channels (λ p. credit_lines_hold (run_in t v) (record { maps = []; lines = lines }) p ≡ false) answer
lines_first t v lines answer lawful first =
    let grants : List Grant = requested_in lines in
    let right : Grant → Bool = is_right_credit (run_in t v) lines in
    let test : Grant → Place → Bool = λ g p. not (is_credit_at p g) || right g in
    let same : (g : Grant) → right g ≡ (is_right_line t.channels (table_order t) g && (count_by (is_like g) grants == 1)) =
    (λ g. right_credit t v lines g lawful) in
    same_places t.channels (AreWrong t.channels (table_order t) grants)
    (λ p. list_all (λ g. test g p) grants ≡ false) answer
    (λ p wrong. (any_of_all test grants p).1
    (any_each (IsWrong t.channels (table_order t) grants) (λ g q. test g q ≡ false) grants p
    (λ g fails. (at_there (line_place g) p (right g)).1 (fails.0, same g ∙ fails.1)) wrong))
    (λ p fails. any_each (λ g q. test g q ≡ false) (IsWrong t.channels (table_order t) grants) grants p
    (λ g out. let there = (at_there (line_place g) p (right g)).0 out in (there.0, sym (same g) ∙ there.1))
    ((any_of_all test grants p).0 fails))
    first
