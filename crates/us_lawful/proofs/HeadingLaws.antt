-- The MAPs of a schedule are in the grammar, and each says of itself what it must.
use Rattle.std.proofs.Common.{◌≡◌, ◌≢◌, ℕ, ne_eqb, true, List, [], ◌∷◌, ◌++◌, length, map, flat_map, Option, Some, refl, ap, ap₂, sym, subst, ◌∙◌}
use Rattle.std.specs.Prelude.{slice_get}
use Rattle.std.specs.List.{AllByRecursion}
use Rattle.std.proofs.lemmas.List.{map-append}
use Rattle.std.proofs.lemmas.List.Folds.{flat_map-map}
use Rattle.us_slots.specs.UsageCodes as codes
use Rattle.us_codec.specs.Elements.{MapElement, null_at}
use Rattle.us_codec.specs.Bodies.{MapBody, IsElementList, IsMapBody}
use Rattle.us_flows.specs.Tables.{Tables, map_len, rounds_fit}
use Rattle.us_flows.specs.Lawful.{AreTables}
use Rattle.us_requests.specs.declared.asks.Counts.{Counts}
use Rattle.us_channel.specs.Channels.{Built}
use Rattle.us_channel.specs.Maps.{head_of, elements_of, pending_element, map_of}
use Rattle.us_round.specs.Rounds.{State, opening, builds_of, ended, schedule}
use Rattle.us_output.specs.Outputs.{Scheduled, pendings_on, RoundOut, built_map, out_of}
use Rattle.us_round.specs.ScheduleLaws.{AreCuts, HasLawfulMaps}
use Rattle.us_output.proofs.PartLemmas.{all_append, all_both, all_flat, all_mapped, all_weaker}
use Rattle.us_round.proofs.ScheduleLaws.{rounds_are_numbered, schedule_is_of_begun_rounds}
use Rattle.us_round.proofs.ChannelRunLaws.{channels_stay}
use Rattle.us_round.proofs.MapLaws.{maps_are_lawful}
use Rattle.us_reports.specs.declared.place.Place.{Place}
use Rattle.us_lawful.specs.Runs.{RoundMap}
use Rattle.us_lawful.specs.Output.{output_of, round_maps, judged_of, run_of}
use Rattle.us_lawful.specs.Headings.{Heading, null_offset, heading_told, heading_of, headings_of, HeadingsHold}
use Rattle.us_lawful.specs.Lawful.{IsRoundMap}
use Rattle.us_lawful.proofs.RoundLemmas.{IsRoundOf, rounds_of, rounds_are}

-- The grammar.

round_in_grammar : (t : Tables) (s : Scheduled) → HasLawfulMaps t s → AllByRecursion IsRoundMap (round_maps (out_of t s))
unfolding out_of
round_in_grammar t s is =
    let made : Built → MapBody = built_map t s.round s.pending in
    let of_round : MapBody → RoundMap = λ body. record { round = s.round; body = body } in
    all_mapped IsRoundMap of_round (map made s.channels)
    (all_mapped (λ body. IsRoundMap (of_round body)) made s.channels
    (all_weaker (λ b. IsMapBody (made b)) (λ b. IsRoundMap (of_round (made b)))
    (λ b body. record { round = is.0; body = body }) s.channels is.1))

-- The round of each MAP has four bytes, and its body is in the grammar.
pub maps_are_in_grammar : (t : Tables) (cuts : List (List ℕ)) (counts : Counts) → AreTables t → AreCuts t cuts →
    rounds_fit t (length cuts) ≡ true → AllByRecursion IsRoundMap (judged_of (output_of t cuts counts)).maps
unfolding output_of
maps_are_in_grammar t cuts counts lawful long fits =
    let rounds : List Scheduled = schedule (opening t) cuts in
    all_flat IsRoundMap round_maps (map (out_of t) rounds)
    (all_mapped (λ out. AllByRecursion IsRoundMap (round_maps out)) (out_of t) rounds
    (all_weaker (HasLawfulMaps t) (λ s. AllByRecursion IsRoundMap (round_maps (out_of t s))) (round_in_grammar t) rounds
    (maps_are_lawful t cuts lawful long fits)))

-- Lists.

map_flat : {X Y Z : Type 0} (f : Y → Z) (g : X → List Y) (xs : List X) →
    map f (flat_map g xs) ≡ flat_map (λ x. map f (g x)) xs
map_flat f g [] = refl
map_flat f g (x ∷ xs) = map-append f (g x) (flat_map g xs) ∙ ap (λ more. map f (g x) ++ more) (map_flat f g xs)

-- what items come to agrees where it agrees for each
flat_same : {X Y : Type 0} (f g : X → List Y) (xs : List X) → AllByRecursion (λ x. f x ≡ g x) xs →
    flat_map f xs ≡ flat_map g xs
flat_same f g [] h = refl
flat_same f g (x ∷ xs) h = ap (λ here. here ++ flat_map f xs) h.0 ∙ ap (λ more. g x ++ more) (flat_same f g xs h.1)

-- what holds of all that items are made into
all_unmapped : {X Y : Type 0} (P : Y → Type 0) (f : X → Y) (xs : List X) → AllByRecursion P (map f xs) →
    AllByRecursion (λ x. P (f x)) xs
all_unmapped P f [] h = tt
all_unmapped P f (x ∷ xs) h = (h.0, all_unmapped P f xs h.1)

-- what holds of all holds of the item behind some
item_behind : {X : Type 0} (P : X → Type 0) (before : List X) (x : X) (after : List X) →
    AllByRecursion P (before ++ x ∷ after) → P x
item_behind P [] x after h = h.0
item_behind P (y ∷ before) x after h = item_behind P before x after h.1

-- The Null.

null_found : (before : List MapElement) (len : ℕ) (after : List MapElement) →
    AllByRecursion (λ e. e.iuc ≢ codes.null) before → null_offset (before ++ null_at len ∷ after) ≡ Some len
null_found [] len after others = refl
null_found (e ∷ before) len after others = rw (ne_eqb e.iuc codes.null others.0) (null_found before len after others.1)

-- a list in the grammar has one Null, which is found, wherever the list is parted at a Null
null_told : (es before after : List MapElement) (len : ℕ) → IsElementList es → es ≡ before ++ null_at len ∷ after →
    null_offset es ≡ Some len
null_told es before after len list joined =
    let IsThere : MapElement → Type 0 = λ e. e.iuc ≡ codes.null → e.offset ≡ list.len in
    let all : AllByRecursion IsThere (list.before ++ null_at list.len ∷ list.after) =
    all_append IsThere list.before (null_at list.len ∷ list.after)
    (all_weaker (λ e. e.iuc ≢ codes.null) IsThere (λ e other is. absurd (other is)) list.before list.others) (
      (λ is. refl),
      all_weaker (λ e. (e.iuc ≢ codes.null) × (e.offset ≡ list.len)) IsThere (λ e both is. both.1)
          list.after list.pending,
    ) in
    let same : list.before ++ null_at list.len ∷ list.after ≡ before ++ null_at len ∷ after = sym list.joined ∙ joined in
    let there : len ≡ list.len =
    item_behind IsThere before (null_at len) after (subst (AllByRecursion IsThere) same all) refl in
    ap null_offset list.joined ∙ null_found list.before list.len list.after list.others ∙ ap Some (sym there)

-- Headings.

abbrev in_round : ℕ → MapBody → RoundMap
in_round round body = record { round = round; body = body }

heading_right : (t : Tables) (round : ℕ) (pending : List (ℕ × ℕ)) (b : Built) → IsMapBody (built_map t round pending b) →
    heading_told (in_round round (built_map t round pending b)) ≡ heading_of t round b.channel
unfolding map_of
heading_right t round pending b is =
    let len : ℕ = map_len t b.channel in
    let with_len : Option ℕ → Heading = λ at. record { round = round; head = head_of t round b.channel; len = at } in
    ap with_len
    (null_told (built_map t round pending b).elements (elements_of b.channel b.board)
    (map (pending_element len) (pendings_on b.channel.id pending)) len is.list refl)

headings_right : (t : Tables) (round : ℕ) (pending : List (ℕ × ℕ)) (bs : List Built) →
    AllByRecursion (λ b. IsMapBody (built_map t round pending b)) bs →
    map heading_told (map (in_round round) (map (built_map t round pending) bs))
    ≡ map (heading_of t round) (map (λ b. b.channel) bs)
headings_right t round pending [] all = refl
headings_right t round pending (b ∷ bs) all =
    ap₂ (λ one more. one ∷ more) (heading_right t round pending b all.0) (headings_right t round pending bs all.1)

abbrev scheduled_of : State → Scheduled
scheduled_of s = (ended s (builds_of s)).scheduled

-- those of a round are the channels', in table order
round_headings : (t : Tables) (end : ℕ) (s : State) → IsRoundOf t end s × HasLawfulMaps t (scheduled_of s) →
    map heading_told (round_maps (out_of t (scheduled_of s))) ≡ map (heading_of t s.round) t.channels
unfolding out_of
round_headings t end s is =
    headings_right t s.round (scheduled_of s).pending (builds_of s) is.1.1
    ∙ ap (map (heading_of t s.round)) (channels_stay s is.0.state ∙ ap (λ (u : Tables). u.channels) is.0.tables)

-- and those of a run stand round by round
headings_are : (t : Tables) (cuts : List (List ℕ)) (counts : Counts) → AreTables t → AreCuts t cuts →
    rounds_fit t (length cuts) ≡ true →
    map heading_told (judged_of (output_of t cuts counts)).maps ≡ headings_of (run_of t cuts counts)
unfolding output_of
headings_are t cuts counts lawful long fits =
    let rounds : List State = rounds_of t cuts in
    let of_round : Scheduled → List Heading = λ one. map heading_told (round_maps (out_of t one)) in
    let must_be : ℕ → List Heading = λ round. map (heading_of t round) t.channels in
    let maps : AllByRecursion (λ s. HasLawfulMaps t (scheduled_of s)) rounds =
    all_unmapped (HasLawfulMaps t) scheduled_of rounds
    (subst (AllByRecursion (HasLawfulMaps t)) (schedule_is_of_begun_rounds (opening t) cuts)
    (maps_are_lawful t cuts lawful long fits)) in
    let each : AllByRecursion (λ s. of_round (scheduled_of s) ≡ must_be s.round) rounds =
    all_weaker (λ s. IsRoundOf t (length cuts) s × HasLawfulMaps t (scheduled_of s))
    (λ s. of_round (scheduled_of s) ≡ must_be s.round) (round_headings t (length cuts)) rounds
    (all_both (IsRoundOf t (length cuts)) (λ s. HasLawfulMaps t (scheduled_of s)) rounds (rounds_are t cuts lawful long)
    maps) in
    map_flat heading_told round_maps (map (out_of t) (schedule (opening t) cuts))
    ∙ flat_map-map (λ (out : RoundOut). map heading_told (round_maps out)) (out_of t) (schedule (opening t) cuts)
    ∙ ap (flat_map of_round) (schedule_is_of_begun_rounds (opening t) cuts)
    ∙ flat_map-map of_round scheduled_of rounds
    ∙ flat_same (λ s. of_round (scheduled_of s)) (λ s. must_be s.round) rounds each
    ∙ sym (flat_map-map must_be (λ (s : State). s.round) rounds)
    ∙ ap (flat_map must_be) (rounds_are_numbered (opening t) cuts)

-- Each MAP says what the MAP at its place in a run must say.
pub headings_are_lawful : (t : Tables) (cuts : List (List ℕ)) (counts : Counts) → AreTables t → AreCuts t cuts →
    rounds_fit t (length cuts) ≡ true →
    (p : Place) → HeadingsHold (run_of t cuts counts) (judged_of (output_of t cuts counts)) p
headings_are_lawful t cuts counts lawful long fits =
    λ p round channel. ap (λ all. slice_get all p.third) (headings_are t cuts counts lawful long fits)
