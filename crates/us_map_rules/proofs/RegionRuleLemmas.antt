-- The rule of minislots is what it is by the numbers of MAPs, and so is its first breach.
use Rattle.std.proofs.Common.{◌≡◌, ℕ, ◌+◌, ◌*◌, ◌%◌, ◌<◌, ◌==◌, ◌⊎◌, Bool, true, false, List, [], ◌∷◌, ◌++◌, length, get_or, Option, Some, None, slice_get, option_map, append-nil, refl, sym, ap, ◌∙◌, subst, arith, inl, inr, mul-le-mul_right}
use Rattle.std.specs.Prelude.{nat_lt, not, option_to_list, ◌&&◌, ◌||◌}
use Rattle.std.proofs.Math.Nat.{mod-lt}
use Rattle.std.proofs.lemmas.Bool.{false≢true, cases_Bool, cases_eq, cases_lt, and_from, eq-eqb, eqb-false, eqb-true, le-ltb, lt-ltb, ltb-true, ne_eqb, or_left}
use Rattle.std.proofs.lemmas.List.Elements.{filter_map-append}
use Rattle.std.proofs.lemmas.Nat.{div-add-mod', div-mul-add, mod-mul-add}
use Rattle.us_flows.specs.declared.channels.Channel.{Channel}
use Rattle.us_flows.specs.Tables.{Tables, channel_with, map_len}
use Rattle.us_flows.specs.Lawful.{AreTables}
use Rattle.us_requests.specs.Traces.{TraceAsks}
use Rattle.us_output.specs.declared.rows.Grant.{Grant}
use Rattle.us_output.specs.declared.rows.Row.{Row}
use Rattle.us_output.specs.declared.rows.Row.TheVariants as rows
use Rattle.us_lawful.specs.Runs.{RoundMap, Judged, Run, run_in}
use Rattle.us_reports.specs.declared.place.Place.{Place}
use Rattle.us_lawful.specs.Regions.{Region, channel_holds, grant_regions, map_regions, minislot_holds, region_of, regions_hold, reserve_regions, told_regions}
use Rattle.us_reports.specs.Order.{goes_before, place_of, rank_goes_before, rank_of}
use Rattle.us_reports.specs.Breaches.{IsFirstBreach}
use Rattle.us_map_rules.specs.declared.gathered.MapRegions.{MapRegions}
use Rattle.us_map_rules.specs.RegionLines.{PlacedRegion, map_at, map_number, placed_line, placed_lines}
use Rattle.us_map_rules.specs.Gathered as told
use Rattle.us_map_rules.specs.Gathered.{AreGathered, AreTold, IsFirstBefore, IsPlaceIn, IsStateOf, lines_of, map_holds}
use Rattle.us_map_rules.proofs.TableLemmas.{below_number, found_channel, lacks, none_is_zero, number_parts, place_found, place_here, place_inside}
use Rattle.us_map_rules.proofs.ToldLemmas.{one_told}

-- MAPs of the run.

-- that of a round and a channel is one of these
pub map_inside : (t : Tables) (rounds round channel number : ℕ) → map_at t rounds round channel ≡ Some number →
    number < rounds * length t.channels
map_inside t rounds round channel number is = elim (cases_lt round rounds) [
  | inl low ↦ by low (place_of t.channels channel) refl (rw (lt-ltb round rounds low) at is)
  | inr over ↦
      let never : None ≡ Some number = rw (le-ltb round rounds over) at is in
      absurd (cc never)
]
  where
    by : round < rounds → (o : Option ℕ) → place_of t.channels channel ≡ o →
        option_map (map_number t round) o ≡ Some number → number < rounds * length t.channels
    by low None none found = absurd (cc found)
    by low (Some z) there found =
        let same : map_number t round z ≡ number = cc in
        subst (λ m. m < rounds * length t.channels) same
        (below_number (length t.channels) round z rounds (place_inside t.channels channel z there) low)

-- Lines of one MAP.

module _ (t : Tables) (rounds round y : ℕ) (c : Channel) (inside : round < rounds) (here : place_of t.channels c.id ≡ Some y) where
  is_of : Grant → Bool
  is_of g = (g.round == round) && (g.channel == c.id)

  abbrev pub number : ℕ
  number = map_number t round y

  -- a line is of the MAP and is placed there, or neither
  abbrev IsPlaced : Grant → Option PlacedRegion → Type 0
  IsPlaced g None = is_of g ≡ false
  IsPlaced g (Some q) = ((q.map == number) ≡ is_of g) × (q.region ≡ region_of g)

  other : (g : Grant) → ((g.round ≡ round) × (g.channel ≡ c.id) → ⊥) → is_of g ≡ false
  unfolding is_of
  other g never = elim (cases_eq g.round round) [
    | inl same ↦ elim (cases_eq g.channel c.id) [
      | inl there ↦ absurd (never (same, there))
      | inr away ↦ rw (eq-eqb g.round round same, ne_eqb g.channel c.id away) refl
    ]
    | inr apart ↦ rw (ne_eqb g.round round apart) refl
  ]

  of_table : (g : Grant) (place : Option ℕ) → place_of t.channels g.channel ≡ place →
      IsPlaced g (option_map (λ m. record { map = m; region = region_of g }) (option_map (map_number t g.round) place))
  unfolding is_of
  of_table g None none = other g (λ is.
      let never : None ≡ Some y = sym none ∙ ap (place_of t.channels) is.1 ∙ here in absurd (cc never))
  of_table g (Some z) found = (
    elim (cases_Bool (map_number t g.round z == map_number t round y)) [
      | inl same ↦
          let parts = number_parts (length t.channels) g.round z round y (place_inside t.channels g.channel z found)
          (place_inside t.channels c.id y here) (eqb-true (map_number t g.round z) (map_number t round y) same) in
          let channel : g.channel ≡ c.id =
          sym (place_found t.channels g.channel z c found).1 ∙ ap (λ i. (get_or t.channels i c).id) parts.1
          ∙ (place_found t.channels c.id y c here).1 in
          same ∙ sym (and_from (g.round == round) (g.channel == c.id) (eq-eqb g.round round parts.0) (eq-eqb g.channel c.id channel))
      | inr apart ↦
          let never : (g.round ≡ round) × (g.channel ≡ c.id) → ⊥ = (λ is.
          let place : Some z ≡ Some y = sym found ∙ ap (place_of t.channels) is.1 ∙ here in
          let at : z ≡ y = cc in
          eqb-false (map_number t g.round z) (map_number t round y) apart
          (ap (λ r. map_number t r z) is.0 ∙ ap (map_number t round) at)) in
          apart ∙ sym (other g never)
    ],
    refl,
  )

  one_line : (g : Grant) → IsPlaced g (placed_line t rounds (rows.Granted g))
  unfolding is_of
  one_line g = elim (cases_lt g.round rounds) [
    | inl low ↦ rw (lt-ltb g.round rounds low) (of_table g (place_of t.channels g.channel) refl)
    | inr over ↦ rw (le-ltb g.round rounds over) (other g (λ is. omega (arith, over, is.0, inside)))
  ]

  -- the minislots of lines of this MAP
  abbrev pub of_lines : List Row → List Region
  of_lines lines = lines_of number (placed_lines t rounds lines)

  with_line : (g : Grant) (lines : List Row) (q : Option PlacedRegion) → placed_line t rounds (rows.Granted g) ≡ q → IsPlaced g q →
      grant_regions round c.id lines ≡ of_lines lines →
      grant_regions round c.id (rows.Granted g ∷ lines) ≡ of_lines (rows.Granted g ∷ lines)
  unfolding is_of
  with_line g lines None is placed rest = rw (placed, is) rest
  with_line g lines (Some q) is placed rest = elim (cases_Bool (is_of g)) [
    | inl of ↦ rw (of, is) (rw (placed.0 ∙ of)
        (ap (λ r. r ∷ grant_regions round c.id lines) (sym placed.1) ∙ ap (λ rs. q.region ∷ rs) rest))
    | inr away ↦ rw (away, is) (rw (placed.0 ∙ away) rest)
  ]

  pub grants_told : (lines : List Row) → grant_regions round c.id lines ≡ of_lines lines
  grants_told [] = refl
  grants_told (rows.Granted g ∷ lines) =
      with_line g lines (placed_line t rounds (rows.Granted g)) refl (one_line g) (grants_told lines)
  grants_told (rows.Missed m ∷ lines) = grants_told lines
  grants_told (rows.Final s ∷ lines) = grants_told lines
  grants_told (rows.Activity a ∷ lines) = grants_told lines
  grants_told (rows.Counts n ∷ lines) = grants_told lines

-- By the number of a MAP.

module _ (t : Tables) (v : TraceAsks) (judged : Judged) (p : Place) where
  of_channel : p.round < v.rounds → (o : Option Channel) → channel_with t.channels p.channel ≡ o →
      regions_hold (run_in t v) judged p ≡ channel_holds (run_in t v) judged p o
  of_channel inside o found =
      ap (λ b. not b || channel_holds (run_in t v) judged p (channel_with t.channels p.channel)) (lt-ltb p.round v.rounds inside)
      ∙ ap (channel_holds (run_in t v) judged p) found

  in_map : (y : ℕ) → p.round < v.rounds → place_of t.channels p.channel ≡ Some y →
      regions_hold (run_in t v) judged p ≡ map_holds t judged.maps (placed_lines t v.rounds judged.lines) (map_number t p.round y) p.third
  in_map y inside at =
      let here = found_channel t.channels p.channel y at in
      let c : Channel = here.0 in
      let k : ℕ = length t.channels in
      let low : y < k = place_inside t.channels p.channel y at in
      let number : ℕ = map_number t p.round y in
      let lines : List Region = lines_of number (placed_lines t v.rounds judged.lines) in
      let pieces : List Region = map_regions (slice_get judged.maps number) in
      of_channel inside (Some c) here.1.found
      ∙ ap (λ place. minislot_holds c (map_len t c) (reserve_regions t p.round c ++ grant_regions p.round c.id judged.lines)
      (told_regions (run_in t v) judged p.round place) p.third) at
      ∙ ap (λ grants. minislot_holds c (map_len t c) (reserve_regions t p.round c ++ grants) pieces p.third)
      (grants_told t v.rounds p.round y c inside (ap (place_of t.channels) here.1.id_is ∙ at) judged.lines)
      ∙ sym (ap (λ o. told.channel_holds t number lines pieces o p.third)
      (ap (slice_get t.channels) (mod-mul-add p.round k y low) ∙ here.1.there)
      ∙ ap (λ r. minislot_holds c (map_len t c) (reserve_regions t r c ++ lines) pieces p.third) (div-mul-add p.round k y low))

  -- a place that the run lacks, and one that it has
  abbrev IsDecided : Type 0
  IsDecided = (regions_hold (run_in t v) judged p ≡ true)
      ⊎ ((p.round < v.rounds) × (y : ℕ) × (place_of t.channels p.channel ≡ Some y))

  decided : IsDecided
  decided = elim (cases_lt p.round v.rounds) [
    | inl inside ↦ by inside (place_of t.channels p.channel) refl
    | inr past ↦ inl (or_left (not (nat_lt p.round v.rounds))
        (channel_holds (run_in t v) judged p (channel_with t.channels p.channel)) (ap not (le-ltb p.round v.rounds past)))
  ]
    where
      by : p.round < v.rounds → (o : Option ℕ) → place_of t.channels p.channel ≡ o → IsDecided
      by inside None none = inl (of_channel inside None (lacks t.channels p.channel none))
      by inside (Some y) at = inr (inside, y, at)

pub all_hold : (t : Tables) (v : TraceAsks) (judged : Judged) →
    IsFirstBefore (map_holds t judged.maps (placed_lines t v.rounds judged.lines)) (v.rounds * length t.channels) None →
    (p : Place) → regions_hold (run_in t v) judged p ≡ true
all_hold t v judged none p = elim (decided t v judged p) [
  | inl holds ↦ holds
  | inr of ↦
      let k : ℕ = length t.channels in
      in_map t v judged p of.1 of.0 of.2
      ∙ none (map_number t p.round of.1)
      (below_number k p.round of.1 v.rounds (place_inside t.channels p.channel of.1 of.2) of.0) p.third
]

-- The first place.

-- of places of a round, before one stand those of its channel with a lesser third number, and those of channels before it
abbrev IsEarlier : List Channel → Place → Place → ℕ → Type 0
IsEarlier channels p first y =
    ((place_of channels p.channel ≡ Some y) × (p.third < first.third)) ⊎ ((place_of channels p.channel ≡ None) ⊎
    ((z : ℕ) × (place_of channels p.channel ≡ Some z) × (z < y)))

module _ (channels : List Channel) (none : place_of channels 0 ≡ None) (p first : Place) (y : ℕ)
    (found : place_of channels first.channel ≡ Some y) where
  not_zero : first.channel ≡ 0 → ⊥
  not_zero is =
      let never : None ≡ Some y = sym none ∙ ap (place_of channels) (sym is) ∙ found in
      absurd (cc never)

  first_rank : rank_of channels first.channel ≡ (1, y)
  first_rank = rw (ne_eqb first.channel 0 not_zero, found) refl

  by_rank : (o : Option ℕ) → place_of channels p.channel ≡ o →
      rank_goes_before (rank_of channels p.channel) (rank_of channels first.channel) ≡ true → IsEarlier channels p first y
  by_rank None is before = inr (inl is)
  by_rank (Some z) is before = elim (cases_Bool (p.channel == 0)) [
    | inl all ↦ inr (inl (ap (place_of channels) (eqb-true p.channel 0 all) ∙ none))
    | inr some ↦
        let rank : rank_of channels p.channel ≡ (1, z) = rw (some, is) refl in
        let less : nat_lt z y ≡ true =
        subst (λ r. rank_goes_before r (1, y) ≡ true) rank
        (subst (λ r. rank_goes_before (rank_of channels p.channel) r ≡ true) first_rank before) in
        inr (inr (z, is, ltb-true z y less))
  ]

  earlier_places : p.round ≡ first.round → goes_before channels p first ≡ true → IsEarlier channels p first y
  earlier_places same before = elim (cases_Bool (p.channel == first.channel)) [
    | inl one ↦
        let less : nat_lt p.third first.third ≡ true = rw (eq-eqb p.round first.round same, one) at before in
        inl (ap (place_of channels) (eqb-true p.channel first.channel one) ∙ found, ltb-true p.third first.third less)
    | inr other ↦ by_rank (place_of channels p.channel) refl (rw (eq-eqb p.round first.round same, other) at before)
  ]

earlier_round : (channels : List Channel) (p first : Place) → (p.round ≡ first.round → ⊥) → goes_before channels p first ≡ true →
    p.round < first.round
earlier_round channels p first other before =
    ltb-true p.round first.round (rw (ne_eqb p.round first.round other) at before)

module _ (t : Tables) (v : TraceAsks) (judged : Judged) (lawful : AreTables t) (d : Channel) (n at : ℕ) (place : Place)
    (of : IsPlaceIn t.channels n at place)
    (first : IsFirstBefore (map_holds t judged.maps (placed_lines t v.rounds judged.lines)) (v.rounds * length t.channels) (Some (n, at))) where
  abbrev k : ℕ
  k = length t.channels

  low : n % k < k
  low = mod-lt n lawful.some_channels.0

  found : place_of t.channels place.channel ≡ Some (n % k)
  found = ap (place_of t.channels) (of.channel d) ∙ place_here t.channels lawful.channels_apart (n % k) d low

  number_is : place.round * k + n % k ≡ n
  number_is = ap (λ r. r * k + n % k) of.round ∙ div-add-mod' n k

  inside : place.round < v.rounds
  inside = elim (cases_lt place.round v.rounds) [
    | inl less ↦ less
    | inr past ↦ absurd (omega (arith, mul-le-mul_right k past, number_is, first.0))
  ]

  before : (p : Place) (z : ℕ) → place_of t.channels p.channel ≡ Some z → goes_before t.channels p place ≡ true →
      map_holds t judged.maps (placed_lines t v.rounds judged.lines) (map_number t p.round z) p.third ≡ true
  before p z there goes = elim (cases_eq p.round place.round) [
    | inl same ↦ elim (earlier_places t.channels (none_is_zero t t.channels lawful.channels) p place (n % k) found same goes) [
      | inl here ↦
          let place_is : Some z ≡ Some (n % k) = sym there ∙ here.0 in
          let z_is : z ≡ n % k = cc in
          let is : map_number t p.round z ≡ n = ap (λ r. r * k + z) same ∙ ap (λ y. place.round * k + y) z_is ∙ number_is in
          ap (λ m. map_holds t judged.maps (placed_lines t v.rounds judged.lines) m p.third) is ∙ first.1.1 p.third (omega (arith, here.1, of.third_is))
      | inr others ↦ elim others [
        | inl none ↦
            let never : Some z ≡ None = sym there ∙ none in
            absurd (cc never)
        | inr earlier ↦
            let place_is : Some z ≡ Some earlier.0 = sym there ∙ earlier.1 in
            let z_is : z ≡ earlier.0 = cc in
            first.2 (map_number t p.round z)
            (omega (arith, number_is, ap (λ r. r * k) same, z_is, earlier.2)) p.third
      ]
    ]
    | inr other ↦ first.2 (map_number t p.round z)
        (omega (
          arith,
          number_is,
          below_number k p.round z place.round (place_inside t.channels p.channel z there)
              (earlier_round t.channels p place other goes),
        )) p.third
  ]

  pub first_holds : IsFirstBreach t.channels (λ p. regions_hold (run_in t v) judged p ≡ true) (Some place)
  first_holds = (
    λ holds. false≢true (
        sym (in_map t v judged place (n % k) inside found
        ∙ ap (λ m. map_holds t judged.maps (placed_lines t v.rounds judged.lines) m place.third) number_is
        ∙ ap (map_holds t judged.maps (placed_lines t v.rounds judged.lines) n) of.third_is ∙ first.1.0)
        ∙ holds),
    λ p goes. elim (decided t v judged p) [
      | inl holds ↦ holds
      | inr has ↦ in_map t v judged p has.1 has.0 has.2 ∙ before p has.1 has.2 goes
    ],
  )

-- What is answered where all MAPs are judged.

one_of : (channels : List Channel) → 0 < length channels → Channel
one_of [] some = absurd (omega (arith, some))
one_of (c ∷ channels) some = c

module _ (t : Tables) (v : TraceAsks) (judged : Judged) (bytes : List ℕ) (number count at : ℕ) (regions : List Region)
    (first : Option (ℕ × ℕ)) (told : AreGathered t v.rounds bytes judged.maps (placed_lines t v.rounds judged.lines) number at regions first)
    (all : count ≡ v.rounds * length t.channels) (last : number ≡ count) where
  judged_all : (answer : Option (ℕ × ℕ)) → first ≡ answer →
      IsFirstBefore (map_holds t judged.maps (placed_lines t v.rounds judged.lines)) (v.rounds * length t.channels) answer
  judged_all answer is =
      subst (λ n. IsFirstBefore (map_holds t judged.maps (placed_lines t v.rounds judged.lines)) n answer) (last ∙ all)
      (subst (IsFirstBefore (map_holds t judged.maps (placed_lines t v.rounds judged.lines)) number) is told.judged)

  pub all_told : first ≡ None → (p : Place) → regions_hold (run_in t v) judged p ≡ true
  all_told none = all_hold t v judged (judged_all None none)

  pub first_told : (n third : ℕ) (place : Place) → AreTables t → first ≡ Some (n, third) → IsPlaceIn t.channels n third place →
      IsFirstBreach t.channels (λ p. regions_hold (run_in t v) judged p ≡ true) (Some place)
  first_told n third place lawful is of =
      first_holds t v judged lawful (one_of t.channels lawful.some_channels.0) n third place of
      (judged_all (Some (n, third)) is)

-- Lines, one after another.

line_behind : (run : Run) (lines : List Row) (line : Row) (o : Option PlacedRegion) →
    placed_line run.tables run.rounds line ≡ o →
    placed_lines run.tables run.rounds (lines ++ line ∷ []) ≡
    placed_lines run.tables run.rounds lines ++ option_to_list o
line_behind run lines line o is =
    filter_map-append (placed_line run.tables run.rounds) lines (line ∷ [])
    ∙ ap (λ ps. placed_lines run.tables run.rounds lines ++ ps) (one_told (placed_line run.tables run.rounds) line o is)

pub told_aside : (run : Run) (bytes : List ℕ) (maps : List RoundMap) (lines : List Row) (line : Row) (s : MapRegions) →
    placed_line run.tables run.rounds line ≡ None → AreTold run bytes maps lines s →
    AreTold run bytes maps (lines ++ line ∷ []) s
told_aside run bytes maps lines line s none told =
    subst (λ placed. IsStateOf run.tables run.rounds bytes maps placed s)
    (sym (line_behind run lines line None none ∙ append-nil (placed_lines run.tables run.rounds lines))) told

pub told_more : (run : Run) (bytes : List ℕ) (maps : List RoundMap) (lines : List Row) (line : Row) (q : PlacedRegion)
    (u : MapRegions) → placed_line run.tables run.rounds line ≡ Some q →
    IsStateOf run.tables run.rounds bytes maps (placed_lines run.tables run.rounds lines ++ q ∷ []) u →
    AreTold run bytes maps (lines ++ line ∷ []) u
told_more run bytes maps lines line q u is told =
    subst (λ placed. IsStateOf run.tables run.rounds bytes maps placed u) (sym (line_behind run lines line (Some q) is)) told
