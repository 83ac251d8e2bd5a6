-- A line that credits more bytes than any burst carries: no MAP has minislots for them, so it breaks the rule of
-- credits.
use Rattle.std.proofs.Common.{◌≡◌, ◌≢◌, ℕ, ◌+◌, ◌-◌, ◌*◌, ◌/◌, ◌%◌, ◌<◌, ◌≤◌, ◌==◌, nat_le, nat_lt, ◌&&◌, ◌||◌, true, false, List, [], ◌∷◌, ◌++◌, length, map, get_or, Option, Some, None, refl, sym, ap, subst, ◌∙◌, inl, inr, arith}
use Rattle.std.specs.Prelude.{not, option_map, slice_get}
use Rattle.std.specs.List.{AllByRecursion, list_all, list_any}
use Rattle.std.proofs.lemmas.Bool.{cases_Bool, cases_lt, and_parts, or_cases, eq-eqb, eqb-true, ne_eqb, leb-true, lt-ltb, ltb-true, false≢true, false_from_ne_true}
use Rattle.std.proofs.lemmas.Bool.Decides.{nat_tests}
use Rattle.std.proofs.lemmas.Nat.{mul-le, div-mul-add, mod-mul-add}
use Rattle.std.proofs.lemmas.Option.{slice_get-map, get_or_from_slice_get, slice_get_within}
use Rattle.us_slots.specs.UsageCodes as codes
use Rattle.us_slots.specs.Times.{Timing, IsTiming, minislot_ticks, symbols_per_minislot}
use Rattle.us_slots.specs.Bursts.{BurstProfile, IsBurstProfile, ChannelBursts, IsChannelBursts, burst_cost, grant_cost}
use Rattle.us_slots.proofs.CapacityLemmas.{bits_past, symbols_most}
use Rattle.us_slots.proofs.CostLemmas.{overhead_of}
use Rattle.us_codec.specs.Elements.{MapElement, null_at}
use Rattle.us_codec.specs.Bodies.{MapBody, IsMapBody, IsRising}
use Rattle.us_flows.specs.declared.channels.Channel.{Channel}
use Rattle.us_flows.specs.Tables.{map_len, has_channel, channel_with, header_bytes}
use Rattle.us_flows.specs.Lawful.{AreTables, IsChannel}
use Rattle.us_flows.specs.Clusters.{Cluster, table_order, has_sid}
use Rattle.us_output.specs.declared.rows.Grant.{Grant}
use Rattle.us_output.specs.declared.rows.Row.{Row}
use Rattle.us_output.specs.declared.rows.Row.TheVariants as rows
use Rattle.us_output.proofs.PartLemmas.{all_found}
use Rattle.us_reports.specs.declared.place.Place.{Place}
use Rattle.us_lawful.specs.Runs.{Run, RoundMap, Judged, grants_in, requested_in}
use Rattle.us_reports.specs.Rows.{is_requested}
use Rattle.us_lawful.specs.Headings.{Heading, heading_of, heading_told, null_offset}
use Rattle.us_lawful.specs.Places.{is_told_at, has_place, places_hold}
use Rattle.us_lawful.specs.Regions.{Region, covers, element_regions, end_holds, end_of, grant_regions, holder_count, inside_holds, is_free, is_gap, is_right_element, is_same, map_regions, minislot_holds, none_empty_at, region_of, regions_of, reserve_regions}
use Rattle.us_lawful.specs.Credits.{credit_lines_hold, credits_hold, has_cost, is_credit_at, is_of, is_right_credit, is_right_for, sums_hold}
use Rattle.us_lawful.specs.Lawful.{IsRoundMap}
use Rattle.us_reports.specs.Order.{place_of}
use Rattle.us_map_rules.specs.Pieces.{piece_of}
use Rattle.us_map_rules.proofs.HeadingLemmas.{told_there}
use Rattle.us_map_rules.proofs.TableLemmas.{IsFound, found_channel, has_by_place, place_or_end}
use Rattle.us_check.specs.Bursts.{IsLong, LongCreditsFail, LongGrantsPassMaps, MapsHold, place_of_line}
use Rattle.us_check.proofs.AmongLemmas.{Among, all_among, among_any, among_each, among_filter, any_among, behind_among, each_from_among, filter_among, map_among, one_passes}

-- Costs.

-- the bits of all symbols of a MAP are those of 98,304 bytes at most,
long_burst : (t : Timing) (p : BurstProfile) (slots bytes : ℕ) → IsTiming t → IsBurstProfile p →
    slots * minislot_ticks t ≤ 4096 → 98304 < bytes → slots < burst_cost t p bytes
long_burst t p slots bytes timing profile ticks more =
    let symbols : slots * symbols_per_minislot t ≤ 131072 =
    symbols_most t slots (symbols_per_minislot t) timing ticks refl in
    let bits : (slots * symbols_per_minislot t - overhead_of p) * p.bits ≤ 131072 * 6 =
    mul-le (slots * symbols_per_minislot t - overhead_of p) p.bits 131072 6 (omega (arith, symbols))
    profile.most_bits in
    bits_past t p slots bytes profile (omega (arith, bits, more))

-- in both profiles
long_grant : (b : ChannelBursts) (slots bytes : ℕ) → IsChannelBursts b → slots * minislot_ticks b.time ≤ 4096 →
    98304 < bytes → slots < (grant_cost b bytes).0
long_grant b slots bytes is ticks more =
    elim (cases_Bool (nat_le (burst_cost b.time b.short bytes) b.short_max
    && nat_le (burst_cost b.time b.short bytes) (burst_cost b.time b.long bytes))) [
      | inl short ↦ rw short (long_burst b.time b.short slots bytes is.time is.short ticks more)
      | inr long ↦ rw long (long_burst b.time b.long slots bytes is.time is.long ticks more)
    ]

pub long_grants_pass_maps : LongGrantsPassMaps
long_grants_pass_maps t c bytes lawful is more =
    long_grant c.bursts (map_len t c) bytes is.bursts (omega (arith, is.whole, lawful.round_ticks.1)) more

-- The elements of a MAP end at its length.

abbrev EndsBy : ℕ → Region → Type 0
EndsBy len piece = end_of piece ≤ len

first_piece : (e next : MapElement) (es : List MapElement) → e.iuc ≢ codes.null →
    element_regions (e ∷ next ∷ es) ≡ piece_of e next ∷ element_regions (next ∷ es)
unfolding element_regions
first_piece e next es other = rw (ne_eqb e.iuc codes.null other) refl

no_piece : (len : ℕ) (es : List MapElement) → element_regions (null_at len ∷ es) ≡ []
unfolding element_regions
no_piece len [] = refl
no_piece len (next ∷ es) = refl

below_last : (e : MapElement) (es : List MapElement) (len : ℕ) → IsRising (map (λ e. e.offset) (e ∷ es) ++ len ∷ []) →
    e.offset < len
below_last e [] len rising = rising.0
below_last e (next ∷ es) len rising = omega (arith, rising.0, below_last next es len rising.1)

pieces_end : (before : List MapElement) (len : ℕ) (after : List MapElement) →
    AllByRecursion (λ e. e.iuc ≢ codes.null) before → IsRising (map (λ e. e.offset) before ++ len ∷ []) →
    AllByRecursion (EndsBy len) (element_regions (before ++ null_at len ∷ after))
pieces_end [] len after others rising = subst (AllByRecursion (EndsBy len)) (sym (no_piece len after)) tt
pieces_end (e ∷ []) len after others rising =
    subst (AllByRecursion (EndsBy len)) (sym (first_piece e (null_at len) after others.0))
    (omega (arith, rising.0), subst (AllByRecursion (EndsBy len)) (sym (no_piece len after)) tt)
pieces_end (e ∷ next ∷ es) len after others rising =
    subst (AllByRecursion (EndsBy len)) (sym (first_piece e next (es ++ null_at len ∷ after) others.0))
    (omega (arith, rising.0, below_last next es len rising.1), pieces_end (next ∷ es) len after others.1 rising.1)

null_found : (before : List MapElement) (len : ℕ) (after : List MapElement) →
    AllByRecursion (λ e. e.iuc ≢ codes.null) before → null_offset (before ++ null_at len ∷ after) ≡ Some len
null_found [] len after others = refl
null_found (e ∷ es) len after others = rw (ne_eqb e.iuc codes.null others.0) (null_found es len after others.1)

same_number : (a b : ℕ) → ◌≡◌ {A = Option ℕ} (Some a) (Some b) → a ≡ b
same_number a b same = cc

elements_end : (m : MapBody) (len : ℕ) → IsMapBody m → null_offset m.elements ≡ Some len →
    AllByRecursion (EndsBy len) (element_regions m.elements)
elements_end m len is told =
    let list = is.list in
    let null : null_offset m.elements ≡ Some list.len =
    ap null_offset list.joined ∙ null_found list.before list.len list.after list.others in
    subst (λ n. AllByRecursion (EndsBy n) (element_regions m.elements)) (same_number list.len len (sym null ∙ told))
    (subst (λ es. AllByRecursion (EndsBy list.len) (element_regions es)) (sym list.joined)
    (pieces_end list.before list.len list.after list.others list.rising))

-- The MAP of a round and a channel.

same_heading : (a b : Heading) → ◌≡◌ {A = Option Heading} (Some a) (Some b) → a ≡ b
same_heading a b same = cc

told_map : (run : Run) (judged : Judged) (round y : ℕ) (c : Channel) → MapsHold run judged → round < run.rounds →
    slice_get run.tables.channels y ≡ Some c →
    slice_get (map heading_told judged.maps) (round * length run.tables.channels + y)
    ≡ Some (heading_of run.tables round c)
told_map run judged round y c maps below got =
    let k : ℕ = length run.tables.channels in
    let inside : y < k = slice_get_within run.tables.channels y c got in
    let quotient : (round * k + y) / k ≡ round = div-mul-add round k y inside in
    let rest : (round * k + y) % k ≡ y = mod-mul-add round k y inside in
    let is_c : c ≡ get_or run.tables.channels ((round * k + y) % k) c =
    rw rest (sym (get_or_from_slice_get run.tables.channels y c c got)) in
    let there = told_there run run.tables.channels (round * k + y) c
    (heading_of run.tables ((round * k + y) / k) c) true refl (omega (arith, inside)) (rw quotient below) is_c
    (λ _. refl, λ _. refl) in
    maps.headings (record { round = 0; channel = 0; third = round * k + y }) refl refl ∙ there.0 refl
    ∙ ap (λ r. Some (heading_of run.tables r c)) quotient

map_ends : (run : Run) (judged : Judged) (round y : ℕ) (c : Channel) → MapsHold run judged → round < run.rounds →
    slice_get run.tables.channels y ≡ Some c →
    AllByRecursion (EndsBy (map_len run.tables c))
    (map_regions (slice_get judged.maps (round * length run.tables.channels + y)))
map_ends run judged round y c maps below got =
    by (slice_get judged.maps (round * length run.tables.channels + y)) refl
  where
    by : (o : Option RoundMap) → slice_get judged.maps (round * length run.tables.channels + y) ≡ o →
        AllByRecursion (EndsBy (map_len run.tables c)) (map_regions o)
    by None is = tt
    by (Some m) is =
        let told : Some (heading_told m) ≡ Some (heading_of run.tables round c) =
        ap (option_map heading_told) (sym is)
        ∙ sym (slice_get-map heading_told judged.maps (round * length run.tables.channels + y))
        ∙ told_map run judged round y c maps below got in
        elements_end m.body (map_len run.tables c)
        (all_found IsRoundMap judged.maps (round * length run.tables.channels + y) m maps.maps is).body
        (ap (λ (h : Heading). h.len) (same_heading (heading_told m) (heading_of run.tables round c) told))

-- Minislots.

-- what has its place in a MAP has no more minislots than that
held_inside : (c : Channel) (len : ℕ) (regions pieces : List Region) (s : Region) →
    ((at : ℕ) → minislot_holds c len regions pieces at ≡ true) → AllByRecursion (EndsBy len) pieces →
    Among s regions → s.slots ≤ len
held_inside c len regions pieces s holds ends among = elim (cases_lt 0 s.slots) [
  | inr none ↦ omega (arith, none)
  | inl some ↦ inside some
]
  where
    starts_inside : 0 < s.slots → s.start < len
    starts_inside some =
        let parts = and_parts (inside_holds c len regions pieces len) (end_holds len regions len)
        (and_parts (none_empty_at regions len)
        (inside_holds c len regions pieces len && end_holds len regions len) (holds len)).1 in
        let all : list_all (λ s. (s.slots == 0) || nat_lt s.start len) regions ≡ true =
        rw (eq-eqb len len refl) at parts.1 in
        let told : ((s.slots == 0) || nat_lt s.start len) ≡ true =
        all_among (λ s. (s.slots == 0) || nat_lt s.start len) regions s all among in
        grind (arith, nat_tests, told, some)

    holds_there : 0 < s.slots →
        (nat_le (holder_count s.start regions) 1
        && list_any (λ piece. covers s.start piece && is_right_element c len regions piece) pieces) ≡ true
    holds_there some =
        let parts = and_parts (inside_holds c len regions pieces s.start) (end_holds len regions s.start)
        (and_parts (none_empty_at regions s.start)
        (inside_holds c len regions pieces s.start && end_holds len regions s.start) (holds s.start)).1 in
        rw (lt-ltb s.start len (starts_inside some)) at parts.0

    -- an element there that is one of the regions is this one,
    is_this : (piece r : Region) → 0 < s.slots → holder_count s.start regions ≤ 1 → covers s.start piece ≡ true →
        Among r regions → is_same piece r ≡ true → end_of piece ≤ len → s.slots ≤ len
    is_this piece r some few there among_r same end =
        let start : piece.start ≡ r.start = grind (arith, nat_tests, same) in
        let slots : piece.slots ≡ r.slots = grind (arith, nat_tests, same) in
        let here : covers s.start r ≡ true = grind (arith, nat_tests, there, start, slots) in
        let own : covers s.start s ≡ true = grind (arith, nat_tests, some) in
        let is : r ≡ s = one_passes (covers s.start) regions r s few among_r among here own in
        omega (arith, end, slots, ap (λ (q : Region). q.slots) is)

    -- and none is a gap
    no_gap : (piece : Region) → 0 < s.slots → covers s.start piece ≡ true → is_gap c len regions piece ≡ true → ⊥
    no_gap piece some there gap =
        let free : is_free regions piece ≡ true = (and_parts (is_free regions piece) _ gap).0 in
        let apart : ((s.slots == 0) || (nat_le (end_of s) piece.start || nat_le (end_of piece) s.start)) ≡ true =
        all_among (λ s. (s.slots == 0) || (nat_le (end_of s) piece.start || nat_le (end_of piece) s.start)) regions s
        free among in
        grind (arith, nat_tests, apart, there, some)

    inside : 0 < s.slots → s.slots ≤ len
    inside some =
        let parts = and_parts (nat_le (holder_count s.start regions) 1) _ (holds_there some) in
        let found = among_any (λ piece. covers s.start piece && is_right_element c len regions piece) pieces parts.1 in
        let right = and_parts (covers s.start found.0) (is_right_element c len regions found.0) found.2 in
        elim (or_cases (list_any (is_same found.0) regions) (is_gap c len regions found.0) right.1) [
          | inl one ↦
              let r = among_any (is_same found.0) regions one in
              is_this found.0 r.0 some (leb-true (holder_count s.start regions) 1 parts.0) right.0 r.1 r.2
              (among_each (EndsBy len) pieces found.0 ends found.1)
          | inr gap ↦ absurd (no_gap found.0 some right.0 gap)
        ]

-- Lines.

line_among : (lines : List Row) (g : Grant) → Among g (grants_in lines) → Among (rows.Granted g) lines
line_among [] g never = absurd never
line_among (rows.Granted other ∷ lines) g (inl is) = inl (ap (λ g. rows.Granted g) is)
line_among (rows.Granted other ∷ lines) g (inr later) = inr (line_among lines g later)
line_among (rows.Missed m ∷ lines) g among = inr (line_among lines g among)
line_among (rows.Final f ∷ lines) g among = inr (line_among lines g among)
line_among (rows.Activity a ∷ lines) g among = inr (line_among lines g among)
line_among (rows.Counts u ∷ lines) g among = inr (line_among lines g among)

-- a G line is of a round and a channel of the run
has_its_place : (run : Run) (judged : Judged) (g : Grant) → ((p : Place) → places_hold run judged p ≡ true) →
    Among g (grants_in judged.lines) →
    has_place run g.round g.channel ≡ true
has_its_place run judged g places among =
    let told : list_any (is_told_at g.round g.channel) judged.lines ≡ true =
    any_among (is_told_at g.round g.channel) judged.lines (rows.Granted g) (line_among judged.lines g among)
    (rw (eq-eqb g.round g.round refl, eq-eqb g.channel g.channel refl) refl) in
    elim (or_cases (has_place run g.round g.channel) (not (list_any (is_told_at g.round g.channel) judged.lines))
    (places (record { round = g.round; channel = g.channel; third = 0 }))) [
      | inl has ↦ has
      | inr none ↦ absurd (false≢true (rw told at none))
    ]

found : (channels : List Channel) (id : ℕ) → has_channel channels id ≡ true →
    (y : ℕ) × (place_of channels id ≡ Some y) × (c : Channel) × IsFound channels id y c
found channels id has =
    let at : place_of channels id ≡ Some (place_or_end channels id) = rw (sym (has_by_place channels id) ∙ has) refl in
    let c = found_channel channels id (place_or_end channels id) at in
    (place_or_end channels id, at, c.0, c.1)

-- and its minislots are no more than those of a MAP of its channel
few_slots : (run : Run) (judged : Judged) (g : Grant) → MapsHold run judged → Among g (grants_in judged.lines) →
    (y : ℕ) × (c : Channel) × (channel_with run.tables.channels g.channel ≡ Some c)
    × (slice_get run.tables.channels y ≡ Some c) × (g.slots ≤ map_len run.tables c)
few_slots run judged g maps among =
    let has = and_parts (nat_lt g.round run.rounds) (has_channel run.tables.channels g.channel)
    (has_its_place run judged g maps.places among) in
    let below : g.round < run.rounds = ltb-true g.round run.rounds has.0 in
    let at = found run.tables.channels g.channel has.1 in
    let y : ℕ = at.0 in
    let c : Channel = at.2 in
    let is : IsFound run.tables.channels g.channel y c = at.3 in
    let place : (third : ℕ) → Place = λ third. record { round = g.round; channel = g.channel; third = third } in
    let mine : Among (region_of g) (regions_of run judged g.round c) =
    behind_among (reserve_regions run.tables g.round c) (grant_regions g.round c.id judged.lines) (region_of g)
    (map_among region_of _ g (filter_among (λ other. (other.round == g.round) && (other.channel == c.id))
    (grants_in judged.lines) g among
    (rw (eq-eqb g.round g.round refl, eq-eqb g.channel c.id (sym is.id_is)) refl))) in (
      y,
      c,
      is.found,
      is.there,
      held_inside c (map_len run.tables c) (regions_of run judged g.round c)
          (map_regions (slice_get judged.maps (g.round * length run.tables.channels + y))) (region_of g)
          (λ third. rw (has.0, is.found, at.1) at (maps.regions (place third)))
          (map_ends run judged g.round y c maps below is.there) mine,
    )

-- so a line of more bytes isn't right, whichever cluster it names
never_right : (run : Run) (lines : List Row) (g : Grant) (c : Channel) (cluster : Cluster) → AreTables run.tables →
    channel_with run.tables.channels g.channel ≡ Some c → IsChannel run.tables c → g.slots ≤ map_len run.tables c →
    (is_of cluster g ≡ true → 98304 < g.credit + header_bytes cluster.flow) →
    is_right_for run lines g cluster ≡ true → ⊥
never_right run lines g c cluster lawful with_id is few long right =
    let cost : ℕ × ℕ = grant_cost c.bursts (g.credit + header_bytes cluster.flow) in
    let of = and_parts (is_of cluster g) _ right in
    let first = and_parts (g.k == 0) _ of.1 in
    let sid = and_parts (has_sid g.channel g.sid cluster) _ first.1 in
    let some = and_parts (nat_lt 0 g.credit) _ sid.1 in
    let has = and_parts (has_cost cluster g (channel_with run.tables.channels g.channel)) _ some.1 in
    let slots = and_parts (g.slots == cost.0) (g.iuc == cost.1) (rw with_id at has.0) in
    omega (
      arith,
      long_grants_pass_maps run.tables c (g.credit + header_bytes cluster.flow) lawful is (long of.0),
      eqb-true g.slots cost.0 slots.0,
      few,
    )

pub long_credits_fail : LongCreditsFail
long_credits_fail run judged lawful maps =
    each_from_among (λ g. IsLong run.tables g → credits_hold run judged (place_of_line g) ≡ false)
    (requested_in judged.lines)
    (λ g among long. false_from_ne_true (credits_hold run judged (place_of_line g)) (never g among long))
  where
    never : (g : Grant) → Among g (requested_in judged.lines) → IsLong run.tables g →
        credits_hold run judged (place_of_line g) ≡ true → ⊥
    never g among long hold =
        let few = few_slots run judged g maps
        (among_filter (λ g. is_requested g.entry) (grants_in judged.lines) g among).0 in
        let lines = (and_parts (credit_lines_hold run judged (place_of_line g)) (sums_hold run judged (place_of_line g)) hold).0 in
        let right : is_right_credit run judged.lines g ≡ true =
        rw (eq-eqb g.round g.round refl, eq-eqb g.channel g.channel refl, eq-eqb g.id g.id refl) at
        (all_among (λ other. not (is_credit_at (place_of_line g) other) || is_right_credit run judged.lines other)
        (requested_in judged.lines) g lines among) in
        let turn = among_any (λ turn. is_right_for run judged.lines g turn.cluster) (table_order run.tables) right in
        never_right run judged.lines g few.1 turn.0.cluster lawful few.2
        (all_found (IsChannel run.tables) run.tables.channels few.0 few.1 lawful.channels few.3) few.4
        (among_each (λ turn. is_of turn.cluster g ≡ true → 98304 < g.credit + header_bytes turn.cluster.flow)
        (table_order run.tables) turn.0 long turn.1) turn.2
