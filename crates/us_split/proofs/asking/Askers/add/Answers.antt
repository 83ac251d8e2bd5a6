use Rattle.std.proofs.Common.{◌≡◌, ◌<◌, ◌==◌, ◌+◌, ◌^◌, ℕ, if◌then◌else◌, List, Option, Some, None, length, ap, ap₂, refl, set, sym, ◌∙◌, subst, slice_get, arith}
use Rattle.std.specs.Prelude.{slice_index, slice_index_or}
use Rattle.std.proofs.lemmas.List.{get_or_default}
use Rattle.us_flows.specs.Tables.{Tables}
use Rattle.us_flows.specs.Clusters.{words_of}
use Rattle.us_split.specs.Asking.{asked_more, more_of}
use Rattle.us_split.specs.Requested.{requested_at}
use Rattle.us_split.specs.Askers.{AreAskers, IsPlaceOf, put_in}
use Rattle.us_split.proofs.AskerStepLemmas.{asked-none, askers-more, kept_place, listed-fewer, listed-rise, same_asking}
use Rattle.us_split.proofs.TurnNumberLemmas.{requested-none, requested-turn}
use Rattle.us_split.proofs.asking.Askers.add.Goals as goal

module _ {t : Tables} {numbers : List ℕ} {places : List (Option ℕ)} {outstanding left list : List ℕ} {room pending_room : ℕ}
    (are : AreAskers t numbers places outstanding left list room pending_room) (word bytes : ℕ)
    (below : word < length outstanding) (found : Option ℕ) (is : found ≡ slice_index_or places word found) where
  -- at the place that is kept stands the word's turn,
  stands : (place : ℕ) → found ≡ Some place → slice_get numbers place ≡ Some word
  stands place some =
      subst (IsPlaceOf numbers word) some (kept_place (length outstanding) numbers places word found are.turns below is)

  -- so that its cluster asks for all bytes,
  all_asked : (place : ℕ) → found ≡ Some place → requested_at (words_of t) word bytes ≡ bytes
  all_asked place some =
      requested-turn t place word bytes (ap (λ ns. slice_get ns place) (sym are.of_turns) ∙ stands place some)

  -- and where none is kept nothing is asked for
  none_asked : found ≡ None → requested_at (words_of t) word bytes ≡ 0
  none_asked none =
      let nowhere : IsPlaceOf numbers word None =
      subst (IsPlaceOf numbers word) none (kept_place (length outstanding) numbers places word found are.turns below is) in
      requested-none t word bytes (omega (arith, below, are.words))
      (λ place at. nowhere place (ap (λ ns. slice_get ns place) are.of_turns ∙ at))

pub returns-in_default : goal.returns-in_default
returns-in_default c =
    let below = subst (λ s. c.args.word < length s.outstanding) (sym c.self.view_is) c.requires.word in
    asked-none c.args.word c.args.bytes c.args.self.now
    (subst (λ s. requested_at (words_of s.tables) c.args.word c.args.bytes ≡ 0) c.self.view_is
    (none_asked c.self.invariant c.args.word c.args.bytes below c.index.result.now c.index.ensures c.in_default.is))

pub returns-then-bytes-eq0 : goal.returns-then-bytes-eq0
returns-then-bytes-eq0 c =
    let below = subst (λ s. c.args.word < length s.outstanding) (sym c.self.view_is) c.requires.word in
    asked-none c.args.word c.args.bytes c.args.self.now
    (subst (λ s. requested_at (words_of s.tables) c.args.word c.args.bytes ≡ 0) c.self.view_is
    (all_asked c.self.invariant c.args.word c.args.bytes below c.index.result.now c.index.ensures c.in-Some.place c.in-Some.is ∙
    c.if-bytes-eq0.true))

pub list_turn-requires-clause-rising : goal.list_turn-requires-clause-rising
list_turn-requires-clause-rising c =
    listed-rise c.self.inside.numbers.items c.self.inside.outstanding.items c.self.inside.asking.items c.self.invariant.listed

pub list_turn-requires-clause-room : goal.list_turn-requires-clause-room
list_turn-requires-clause-room c none =
    let a = c.self.inside in
    let word = c.args.word in
    let below = subst (λ s. word < length s.outstanding) (sym c.self.view_is) c.requires.word in
    let zero : slice_index a.outstanding.items word ≡ 0 =
    get_or_default a.outstanding.items word 0 c.index-before.result.now below ∙ sym c.index-before.ensures ∙ none in
    let at = stands c.self.invariant word c.args.bytes below c.index.result.now c.index.ensures c.in-Some.place c.in-Some.is in
    omega (
      arith,
      a.asking.ok.0,
      c.self.invariant.room_to_ask,
      listed-fewer a.numbers.items a.outstanding.items a.asking.items c.in-Some.place word c.self.invariant.listed at zero,
    )

pub invariant_of-self : goal.invariant_of-self
invariant_of-self c =
    let a = c.self.inside in
    let word = c.args.word in
    let below = subst (λ s. word < length s.outstanding) (sym c.self.view_is) c.requires.word in
    let small = subst (λ s. slice_index s.outstanding word + c.args.bytes < 2 ^ 62) (sym c.self.view_is) c.requires.room in
    let before : c.index-before.result.now ≡ slice_index a.outstanding.items word =
    c.index-before.ensures ∙ sym (get_or_default a.outstanding.items word 0 c.index-before.result.now below) in
    let left : c.index_mut-2.result.now ≡ slice_index a.left.items word =
    c.index_mut-2.ensures.value ∙ sym (get_or_default a.left.items word 0 c.index_mut-2.result.now
    (omega (arith, below, c.self.invariant.bytes.one_each))) in
    let at = stands c.self.invariant word c.args.bytes below c.index.result.now c.index.ensures c.in-Some.place c.in-Some.is in
    let is = c.list_turn.ensures.items ∙
    ap (λ n. if n == 0 then put_in c.in-Some.place a.asking.items else a.asking.items) before in
    rw (before, left) (askers-more a.tables.value a.numbers.items a.places.items a.outstanding.items a.left.items
    a.asking.items c.list_turn.new.list.items _ _ _ c.in-Some.place word c.args.bytes c.self.invariant below at
    c.if-bytes-eq0.false small is c.list_turn.ensures.capacity)

pub returns : goal.returns
returns c =
    let a = c.self.inside in
    let word = c.args.word in
    let below = subst (λ s. word < length s.outstanding) (sym c.self.view_is) c.requires.word in
    let before : c.index-before.result.now ≡ slice_index a.outstanding.items word =
    c.index-before.ensures ∙ sym (get_or_default a.outstanding.items word 0 c.index-before.result.now below) in
    let left : c.index_mut-2.result.now ≡ slice_index a.left.items word =
    c.index_mut-2.ensures.value ∙ sym (get_or_default a.left.items word 0 c.index_mut-2.result.now
    (omega (arith, below, c.self.invariant.bytes.one_each))) in
    let all = all_asked c.self.invariant word c.args.bytes below c.index.result.now c.index.ensures c.in-Some.place c.in-Some.is in
    let more : ℕ = requested_at (words_of a.tables.value) word c.args.bytes in
    same_asking (record {
      tables = a.tables.value;
      outstanding = set a.outstanding.items word (c.index-before.result.now + c.args.bytes);
      left = set a.left.items word (c.index_mut-2.result.now + c.args.bytes);
      pending = a.pending.items;
    }) a.tables.value (more_of word more a.outstanding.items) (more_of word more a.left.items) a.pending.items refl
    (ap₂ (λ n m. set a.outstanding.items word (n + m)) before (sym all))
    (ap₂ (λ n m. set a.left.items word (n + m)) left (sym all)) refl ∙
    ap (asked_more word c.args.bytes) c.self.view_is
