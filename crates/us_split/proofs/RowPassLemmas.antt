-- Two passes by rows, step by step: what a turn does to a pass, and one turn more.
use Rattle.std.proofs.Common.{◌≡◌, ℕ, zero, suc, ◌+◌, ◌-◌, ◌<◌, ◌||◌, Bool, true, false, nat_lt, if◌then◌else◌, List, [], ◌∷◌, ◌++◌, length, map, set, drop, replicate, get_or, Option, Some, None, option_map, slice_get, refl, sym, ap, ap₂, ◌∙◌, subst, inl, inr, arith}
use Rattle.std.specs.Prelude.{sum, slice_index, slice_index_or}
use Rattle.std.proofs.Math.Seq.{get_or-append_seam}
use Rattle.std.proofs.lemmas.Bool.{cases_lt}
use Rattle.std.specs.List.{AllByRecursion}
use Rattle.std.proofs.lemmas.List.{drop_more, get_or_append_left, get_or_past, length-append, length-map, set-get_or}
use Rattle.std.proofs.lemmas.List.Elements.{All-from_recursion}
use Rattle.std.proofs.lemmas.Option.{slice_get_read}
use Rattle.us_split.specs.declared.turn_rows.Seat.{Seat}
use Rattle.us_split.specs.Divisions.{divided}
use Rattle.us_slots.specs.Lists.{added}
use Rattle.us_split.specs.Plans.{at_most}
use Rattle.us_split.specs.PartialPlans.{ChannelPlan, PartialPlan, taken}
use Rattle.us_split.specs.TurnRows.{AreFirsts, FirstPass, FitsIf, FitsRow, TurnRow, at_seats, changed, first_in, is_reserved, more_at, more_in, partial_of, pass_of, put_from, reserve_for, returned_at, shares_at, some_reserved, taken_at, weight_at, with_first_if, with_first_row, with_firsts, with_second_if, with_second_row, with_seconds}
use Rattle.us_split.proofs.DivisionLemmas.{divided-length, sum-cons}
use Rattle.us_split.proofs.PartialPlanLemmas.{share-le-sum}
use Rattle.us_split.proofs.RowPlanLemmas.{none_spent}

-- The first pass.

zeros : (xs : List ℕ) → sum xs ≡ 0 → xs ≡ replicate (length xs) 0
zeros [] none = refl
zeros (x ∷ xs) none =
    let first : x ≡ 0 = omega (arith, sum-cons x xs, none) in
    ap₂ (λ n ns. n ∷ ns) first (zeros xs (omega (arith, sum-cons x xs, none)))

-- where a turn gets nothing its shares are 0,
none_first : (row : TurnRow) (bytes : ℕ) (cs : List ChannelPlan) → sum (shares_at row bytes cs) ≡ 0 →
    shares_at row bytes cs ≡ replicate (length row.seats) 0
none_first row bytes cs none =
    let ws : List ℕ = map (λ (seat : Seat). weight_at row.asker.header cs seat.place) row.seats in
    zeros (divided bytes ws) none ∙
    ap (λ n. replicate n 0) (divided-length bytes ws ∙ length-map row.seats (λ (seat : Seat). weight_at row.asker.header cs seat.place))

none_changed : (f : ChannelPlan → ChannelPlan) (cs : List ChannelPlan) (place : ℕ) → AllByRecursion (λ c. c ≡ f c) cs →
    cs ≡ changed f cs place
none_changed f [] place same = refl
none_changed f (c ∷ cs) zero same = ap (λ x. x ∷ cs) same.0
none_changed f (c ∷ cs) (suc place) same = ap (λ xs. c ∷ xs) (none_changed f cs place same.1)

pub none_at_seats : (f : ℕ → ChannelPlan → ChannelPlan) (position : ℕ) (seats : List Seat) (cs : List ChannelPlan) →
    ((k : ℕ) → AllByRecursion (λ c. c ≡ f k c) cs) → cs ≡ at_seats f position seats cs
none_at_seats f position [] cs same = refl
none_at_seats f position (seat ∷ seats) cs same =
    none_at_seats f (position + 1) seats cs same ∙
    ap (at_seats f (position + 1) seats) (none_changed (f position) cs seat.place (same position))

none_taken : (header share : ℕ) (cs : List ChannelPlan) → share ≡ 0 → AllByRecursion (λ c. c ≡ taken header share c) cs
none_taken header share [] none = tt
none_taken header share (c ∷ cs) none =
    let slots : c.slots ≡ c.slots - 0 = omega arith in
    let own : c ≡ taken header 0 c =
    ap (λ n. let c : ChannelPlan = record { channel = c.channel; slots = n; claims = c.claims } in c) slots in
    (own ∙ ap (λ n. taken header n c) (sym none), none_taken header share cs none)

none_reserved : (reserves : List ℕ) (place bytes : ℕ) → bytes ≡ 0 →
    reserves ≡ set reserves place (slice_index reserves place - bytes)
none_reserved reserves place bytes none =
    let all : slice_index reserves place ≡ slice_index reserves place - bytes = omega (arith, none) in
    sym (set-get_or reserves place 0) ∙ ap (set reserves place) all

-- and change nothing
pub nothing_first : (row : TurnRow) (bytes : ℕ) (shares : List ℕ) (cs : List ChannelPlan) (allowances : List (Option ℕ))
    (reserves : List ℕ) (firsts : List (List ℕ)) → shares ≡ replicate (length row.seats) 0 →
    sum (first_in row bytes (partial_of cs allowances) reserves) ≡ 0 →
    pass_of cs allowances reserves (firsts ++ shares ∷ []) ≡ with_first_row row bytes (pass_of cs allowances reserves firsts)
nothing_first row bytes shares cs allowances reserves firsts are empty =
    let own : List ℕ = first_in row bytes (partial_of cs allowances) reserves in
    let place : ℕ = row.asker.claimant.place in
    let same : shares ≡ own = are ∙ sym (none_first row _ cs empty) in
    ap (λ ss. pass_of cs allowances reserves (firsts ++ ss ∷ [])) same ∙
    ap₂ (λ xs limits. pass_of xs limits reserves (firsts ++ own ∷ []))
    (none_at_seats (λ k. taken row.asker.header (slice_index own k)) 0 row.seats cs (λ k.
    none_taken row.asker.header (slice_index own k) cs (omega (arith, share-le-sum own k, empty))))
    (none_spent allowances place (sum own) empty) ∙
    ap (λ rs. pass_of (taken_at row.asker.header own row.seats cs)
    (set allowances place (option_map (λ most. most - sum own) (slice_index_or allowances place None))) rs (firsts ++ own ∷ []))
    (none_reserved reserves place (sum own) empty)

-- one turn more
pub one_first_more : (rows : List TurnRow) (outstanding places : List ℕ) (place bytes : ℕ) (row : TurnRow) (old new : FirstPass) →
    place < length rows → row ≡ get_or rows place row → bytes ≡ slice_index outstanding row.asker.claimant.cluster →
    new ≡ with_first_row row bytes old →
    with_firsts rows outstanding places new ≡ with_firsts rows outstanding (place ∷ places) old
one_first_more rows outstanding places place bytes row old new within at asked is =
    let here : slice_get rows place ≡ Some row = slice_get_read rows (length rows) place row refl within at in
    ap (with_firsts rows outstanding places)
    (is ∙ ap (λ n. with_first_row row n old) asked ∙ sym (ap (λ found. with_first_if found outstanding old) here))

pub firsts_more : (rows : List TurnRow) (places : List ℕ) (firsts items : List (List ℕ)) (shares : List ℕ) (place i : ℕ)
    (row : TurnRow) → AreFirsts rows places firsts → length firsts ≡ i → get_or places i 0 ≡ place → place < length rows →
    row ≡ get_or rows place row → FitsRow row shares → items ≡ firsts ++ shares ∷ [] → AreFirsts rows places items
firsts_more rows places firsts items shares place i row all long here within at fits are =
    subst (AreFirsts rows places) (sym are) each
  where
    each : AreFirsts rows places (firsts ++ shares ∷ [])
    each j inside = elim (cases_lt j (length firsts)) [
      | inl before ↦
          subst (FitsIf (slice_get rows (slice_index places j))) (sym (get_or_append_left firsts (shares ∷ []) [] j before))
          (all j before)
      | inr past ↦
          let last : length firsts ≡ j = omega (arith, length-append firsts (shares ∷ []), inside, past) in
          let found : slice_get rows (slice_index places j) ≡ Some row =
          ap (λ n. slice_get rows (slice_index places n)) (sym last ∙ long) ∙ ap (slice_get rows) here ∙
          slice_get_read rows (length rows) place row refl within at in
          let own : slice_index_or (firsts ++ shares ∷ []) j [] ≡ shares =
          ap (λ n. slice_index_or (firsts ++ shares ∷ []) n []) (sym last) ∙ get_or-append_seam firsts shares [] [] in
          subst (λ f. FitsIf f (slice_index_or (firsts ++ shares ∷ []) j [])) (sym found)
          (subst (FitsRow row) (sym own) fits)
    ]

-- whether something is reserved for the turn at a place, or for those after it
none_at : (reserves : List ℕ) (found : Option TurnRow) → length reserves ≡ 0 → is_reserved found reserves ≡ false
none_at reserves None none = refl
none_at reserves (Some row) none = by row.has_min_rate
  where
    by : (has : Bool) → nat_lt 0 (if has then slice_index reserves row.asker.claimant.place else 0) ≡ false
    by true = ap (λ n. nat_lt 0 n) (get_or_past reserves row.asker.claimant.place 0 (omega (arith, none)))
    by false = refl

-- where no reserve is listed, nothing is reserved
pub none_listed : (rows : List TurnRow) (reserves places : List ℕ) → length reserves ≡ 0 →
    some_reserved rows reserves places ≡ false
none_listed rows reserves [] none = refl
none_listed rows reserves (place ∷ places) none =
    ap (λ b. b || some_reserved rows reserves places) (none_at reserves (slice_get rows place) none)
    ∙ none_listed rows reserves places none

pub reserved_at : (rows : List TurnRow) (reserves places : List ℕ) (i place bytes : ℕ) (row : TurnRow) →
    AllByRecursion (λ place. place < length rows) places → i < length places → place ≡ get_or places i 0 →
    row ≡ get_or rows place row → bytes ≡ reserve_for row reserves →
    some_reserved rows reserves (drop i places) ≡ (nat_lt 0 bytes || some_reserved rows reserves (drop (i + 1) places))
reserved_at rows reserves places i place bytes row all some at row_at is =
    let here : ℕ = get_or places i 0 in
    let rest : Bool = some_reserved rows reserves (drop (i + 1) places) in
    let within : here < length rows = All-from_recursion (λ place. place < length rows) places all i 0 some in
    let found : slice_get rows here ≡ Some row =
    slice_get_read rows (length rows) here row refl within (row_at ∙ ap (λ n. get_or rows n row) at) in
    ap (some_reserved rows reserves) (drop_more places i 0 some) ∙
    ap (λ found. is_reserved found reserves || rest) found ∙
    ap (λ n. nat_lt 0 n || rest) (sym is)

-- The second pass.

pub second_planned : (row : TurnRow) (bytes demand total : ℕ) (first more both : List ℕ) (old given new : List ChannelPlan)
    (allowances left : List (Option ℕ)) → given ≡ returned_at row.asker.header first row.seats old →
    demand ≡ at_most (slice_index_or allowances row.asker.claimant.place None) (bytes - sum first) →
    more ≡ more_at row demand first given → both ≡ added first more → new ≡ put_from row.asker 0 row.seats both given →
    total ≡ sum more →
    left ≡ set allowances row.asker.claimant.place
    (option_map (λ most. most - total) (slice_index_or allowances row.asker.claimant.place None)) →
    partial_of new left ≡ with_second_row row bytes first (partial_of old allowances)
second_planned row bytes demand total first more both old given new allowances left gives asks are sums put all less =
    let place : ℕ = row.asker.claimant.place in
    let same : more ≡ more_in row bytes first (partial_of old allowances) =
    are ∙ ap₂ (λ n cs. more_at row n first cs) asks gives in
    ap₂ partial_of (put ∙ ap₂ (λ ss cs. put_from row.asker 0 row.seats ss cs) (sums ∙ ap (added first) same) gives)
    (less ∙
    ap (λ n. set allowances place (option_map (λ most. most - n) (slice_index_or allowances place None)))
    (all ∙ ap sum same))

pub one_second_more : (rows : List TurnRow) (outstanding places : List ℕ) (firsts : List (List ℕ)) (place bytes : ℕ) (row : TurnRow)
    (first : List ℕ) (old new : PartialPlan) → place < length rows → row ≡ get_or rows place row →
    bytes ≡ slice_index outstanding row.asker.claimant.cluster → new ≡ with_second_row row bytes first old →
    with_seconds rows outstanding places firsts new ≡ with_seconds rows outstanding (place ∷ places) (first ∷ firsts) old
one_second_more rows outstanding places firsts place bytes row first old new within at asked is =
    let here : slice_get rows place ≡ Some row = slice_get_read rows (length rows) place row refl within at in
    ap (with_seconds rows outstanding places firsts)
    (is ∙ ap (λ n. with_second_row row n first old) asked ∙
    sym (ap (λ found. with_second_if found outstanding first old) here))
