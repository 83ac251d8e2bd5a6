-- That the grants of a round take what is there, and start inside the MAPs.
use Rattle.std.proofs.Common.{◌≡◌, ℕ, zero, suc, ◌+◌, ◌<◌, ◌≤◌, ◌==◌, List, [], ◌∷◌, ◌++◌, length, map, slice_index, slice_get, filter, Option, Some, None, append_assoc, slice_index_or, refl, ap, ap₂, sym, subst, ◌∙◌, inl, inr, arith, option_map, option_and_then, option_to_list, position}
use Rattle.std.specs.List.{AllByRecursion}
use Rattle.std.proofs.lemmas.Bool.{cases_Bool}
use Rattle.std.proofs.lemmas.List.{length-append, length-map}
use Rattle.std.proofs.lemmas.Option.{slice_get-map, get_or_from_slice_get}
use Rattle.us_slots.specs.Bursts.{ChannelBursts, IsChannelBursts}
use Rattle.us_flows.specs.Tables.{Tables}
use Rattle.us_flows.specs.Clusters.{Turn, IsTurnIn, words_of, turns_of}
use Rattle.us_flows.specs.Lawful.{AreTables, IsChannel, AreApart}
use Rattle.us_flows.proofs.TurnLaws.{turns_of-turns}
use Rattle.us_bucket.specs.Levels.{Level, bytes_in, reserve_in}
use Rattle.us_holes.specs.Boards.{Board, assign, assign_all}
use Rattle.us_holes.proofs.LawLemmas.{fit_length, assign_all-length, assign_all-standing}
use Rattle.us_calendar.specs.Calendars as calendars
use Rattle.us_calendar.specs.Calendars.{granted_in}
use Rattle.us_split.specs.Plans.{Planned}
use Rattle.us_split.proofs.TwoPassLaws.{plan_for-turns}
use Rattle.us_flows.specs.declared.channels.Channel.{Channel}
use Rattle.us_split.specs.Claims.{Claim, Claimant, claimant_of, claim_at, claims_from, claims_on, all_claims, AreClaims, IsClaimOn}
use Rattle.us_crew.specs.Values.{values_from}
use Rattle.us_split.specs.PlanLaws.{IsLawfulPlan, planned_bytes}
use Rattle.us_channel.specs.Placements.{PlacedClaim, Spot, spot, grant_at, grants_of, with_grant, assignments, credits}
use Rattle.us_channel.specs.Channels.{Filled, Built, build_on, ungranted, filled_part}
use Rattle.us_round.specs.Rounds.{State, idle, fills_of, build_planned, builds_of, round_plan, reserved_in, all_grants, is_of_flow}
use Rattle.us_round.specs.Parts.{AreClaimsOn, built_by}
use Rattle.us_output.specs.Leftovers.{StartsInside, IsBuiltFor, AreInside}
use Rattle.us_round.specs.States.{IsKnown, AreSound}
use Rattle.us_round.specs.Cores.{AreCalendars, IsFilledFor}
use Rattle.us_output.proofs.PartLemmas.{all_append, all_found, all_weaker}
use Rattle.us_channel.proofs.FitLemmas.{fit_inside}
use Rattle.us_round.proofs.FillLemmas.{filled_apart, filled_all, filled_channels}
use Rattle.us_channel.proofs.GrantLaws.{Granted, grants_are, grants_fit}
use Rattle.us_round.proofs.CreditLaws.{claims_some, credits_planned}
use Rattle.us_round.proofs.StateLemmas.{within_less}

-- Grants are of the turns of the plan.

claims_of : (P : Claimant → Type 0) (channel : Channel) (turn : ℕ) (plan : List Planned) →
    AllByRecursion (λ planned. P (claimant_of planned.turn)) plan →
    AllByRecursion (λ c. P c.claimant) (claims_from channel turn plan)
unfolding claims_from
claims_of P channel turn [] h = tt
claims_of P channel turn (planned ∷ plan) h =
    by (position (λ id. id == channel.id) planned.turn.cluster.flow.channels) (claims_of P channel (turn + 1) plan h.1)
  where
    by : (place : Option ℕ) → AllByRecursion (λ c. P c.claimant) (claims_from channel (turn + 1) plan) →
        AllByRecursion (λ c. P c.claimant)
        (option_to_list (option_and_then (claim_at channel turn planned) place) ++ claims_from channel (turn + 1) plan)
    by None rest = rest
    by (Some place) rest = elim (cases_Bool (slice_index planned.shares place == 0)) [
      | inl none ↦ rw none rest
      | inr some ↦ rw some (h.0, rest)
    ]

granted_of : (P : Claimant → Type 0) (b : ChannelBursts) (board : Board) (cs : List Claim) →
    AllByRecursion (λ c. P c.claimant) cs → AllByRecursion (λ g. P g.claimant) (grants_of b board cs)
unfolding grants_of
granted_of P b board [] h = tt
granted_of P b board (claim ∷ cs) h =
    by (spot b claim.header claim.share board) (λ found. granted_of P b (with_grant board found) cs h.1)
  where
    by : (at : Option Spot) →
        ((found : Option PlacedClaim) → AllByRecursion (λ g. P g.claimant) (grants_of b (with_grant board found) cs)) →
        AllByRecursion (λ g. P g.claimant) (option_to_list (option_map (grant_at b claim) at)
        ++ grants_of b (with_grant board (option_map (grant_at b claim) at)) cs)
    by None rest = rest None
    by (Some at) rest = (h.0, rest (Some (grant_at b claim at)))

built_of : (P : Claimant → Type 0) (plan : List Planned) (fs : List Filled) →
    AllByRecursion (λ planned. P (claimant_of planned.turn)) plan →
    AllByRecursion (λ g. P g.claimant) (all_grants (map (build_planned plan) fs))
unfolding build_planned
built_of P plan [] h = tt
built_of P plan (f ∷ fs) h =
    all_append (λ g. P g.claimant) (grants_of f.channel.bursts f.board (claims_on f.channel plan))
    (all_grants (map (build_planned plan) fs))
    (granted_of P f.channel.bursts f.board (claims_on f.channel plan) (claims_of P f.channel 0 plan h)) (built_of P plan fs h)

pub by_turns : (P : Turn → Type 0) (plan : List Planned) (turns : List Turn) → map (λ planned. planned.turn) plan ≡ turns →
    AllByRecursion P turns → AllByRecursion (λ planned. P planned.turn) plan
by_turns P [] turns is h = tt
by_turns P (planned ∷ plan) [] is h = absurd (cc is)
by_turns P (planned ∷ plan) (turn ∷ turns) is h =
    let first : planned.turn ≡ turn = cc in
    let rest : map (λ planned. planned.turn) plan ≡ turns = cc in
    (subst (λ t. P t) (sym first) h.0, by_turns P plan turns rest h.1)

slice_get-below : {X : Type 0} (xs : List X) (i : ℕ) (x : X) → slice_get xs i ≡ Some x → i < length xs
slice_get-below [] i x is = absurd (cc is)
slice_get-below (y ∷ xs) zero x is = omega arith
slice_get-below (y ∷ xs) (suc i) x is = omega (arith, slice_get-below xs i x is)

abbrev Known : List ℕ → List Level → Claimant → Type 0
Known os bs c = (c.cluster < length os) × (c.place < length bs)

all_known : (t : Tables) (plan : List Planned) (fs : List Filled) (os : List ℕ) (bs : List Level) →
    map (λ planned. planned.turn) plan ≡ turns_of t → length os ≡ length (words_of t) →
    length bs ≡ length t.flows → AllByRecursion (IsKnown (length os) (length bs)) (all_grants (map (build_planned plan) fs))
all_known t plan fs os bs turns clusters flows =
    all_weaker (λ g. Known os bs g.claimant) (IsKnown (length os) (length bs))
    (λ g k. record { cluster = k.0; place = k.1 })
    (all_grants (map (build_planned plan) fs))
    (built_of (Known os bs) plan fs (by_turns (λ turn. Known os bs (claimant_of turn)) plan (turns_of t) turns
    (all_weaker (IsTurnIn t) (λ turn. Known os bs (claimant_of turn))
    (λ turn is. (omega (arith, clusters, is.number), omega (arith, flows, slice_get-below t.flows turn.place turn.cluster.flow is.flow)))
    (turns_of t) (turns_of-turns t))))

-- Boards.

lengths : (b : ChannelBursts) (board : Board) (cs : List Claim) (gs : List PlacedClaim) → Granted b board cs gs →
    AllByRecursion (StartsInside (length board.cells)) gs
unfolding Granted
lengths b board [] [] h = tt
lengths b board [] (g ∷ gs) h = absurd h
lengths b board (claim ∷ cs) [] h = tt
lengths b board (claim ∷ cs) (g ∷ gs) (inl later) = lengths b board cs (g ∷ gs) later
lengths b board (claim ∷ cs) (g ∷ gs) (inr now) =
    let next : Board = assign board g.assignment.start g.assignment.slots g.assignment.owner in
    let same : length next.cells ≡ length board.cells =
    fit_length board g.assignment.start g.assignment.slots g.assignment.owner now.0.fits in (
      fit_inside board g.assignment.slots g.assignment.start now.0.fits now.0.slots,
      subst (λ n. AllByRecursion (StartsInside n) gs) same (lengths b next cs gs now.1),
    )

built_sound : (t : Tables) (plan : List Planned) (f : Filled) → IsChannel t f.channel → IsFilledFor t f →
    IsBuiltFor t (build_planned plan f) × AreInside (build_planned plan f)
    × (granted_in (build_planned plan f).settled + length (build_planned plan f).grants ≤ (build_planned plan f).board.standing)
unfolding build_planned
built_sound t plan f is sound =
    let cs : List Claim = claims_on f.channel plan in
    let gs : List PlacedClaim = grants_of f.channel.bursts f.board cs in
    let granted : Granted f.channel.bursts f.board cs gs = grants_are f.channel.bursts f.board cs is.bursts (claims_some f.channel plan) in
    let kept : length (assign_all f.board (assignments gs)).cells ≡ length f.board.cells =
    assign_all-length f.board (assignments gs) (grants_fit f.channel.bursts f.board cs gs granted) in
    let standing = assign_all-standing f.board (assignments gs) in
    let many : length (assignments gs) ≡ length gs = length-map gs (λ g. g.assignment) in (
      record { channel = is; len = kept ∙ sound.len },
      record {
        settled = subst (λ n. AllByRecursion (calendars.StartsInside n) f.settled) (sym kept) sound.inside;
        grants = subst (λ n. AllByRecursion (StartsInside n) gs) (sym kept) (lengths f.channel.bursts f.board cs gs granted);
      },
      omega (arith, standing, many, sound.few),
    )

-- All channels.

channels_sound : (t : Tables) (plan : List Planned) (fs : List Filled) → AllByRecursion (λ f. IsChannel t f.channel) fs →
    AllByRecursion (IsFilledFor t) fs →
    AllByRecursion (IsBuiltFor t) (map (build_planned plan) fs) × AllByRecursion AreInside (map (build_planned plan) fs)
    × AllByRecursion (λ b. granted_in b.settled + length b.grants ≤ b.board.standing) (map (build_planned plan) fs)
channels_sound t plan [] are long = (tt, tt, tt)
channels_sound t plan (f ∷ fs) are long =
    let first = built_sound t plan f are.0 long.0 in
    let rest = channels_sound t plan fs are.1 long.1 in
    ((first.0, rest.0), (first.1, rest.1), (first.2, rest.2))

-- The round of a state.
pub sound : (s : State) → AreTables s.tables → AreCalendars s.tables s.round s.calendars →
    length s.outstanding ≡ length (words_of s.tables) → length s.buckets ≡ length s.tables.flows →
    IsLawfulPlan s.tables s.outstanding (map bytes_in s.buckets) (idle (fills_of s)) (round_plan s) →
    ((place : ℕ) (bucket : Level) → slice_get s.reserves place ≡ Some bucket → reserved_in s place ≤ reserve_in bucket) →
    map (λ planned. planned.turn) (round_plan s) ≡ turns_of s.tables →
    AllByRecursion (IsFilledFor s.tables) (fills_of s) → AreSound s (builds_of s)
unfolding builds_of
sound s lawful all clusters flows law reserved turns long =
    let fs : List Filled = fills_of s in
    let plan : List Planned = round_plan s in
    let are : AllByRecursion (λ f. IsChannel s.tables f.channel) fs =
    filled_all (IsChannel s.tables) s.tables s.round s.calendars all lawful.channels in
    let bursts : AllByRecursion (λ f. IsChannelBursts f.channel.bursts) fs =
    all_weaker (λ f. IsChannel s.tables f.channel) (λ f. IsChannelBursts f.channel.bursts) (λ f is. is.bursts) fs are in
    let apart : AreApart (map (λ c. c.id) (map (λ f. f.channel) fs)) =
    filled_apart s.tables s.round s.calendars all lawful in
    let channels = channels_sound s.tables plan fs are long in
    record {
      covers = record {
        known = all_known s.tables plan fs s.outstanding s.buckets turns clusters flows;
        asked = λ number.
            omega (arith, credits_planned (λ c. c.cluster == number) plan fs bursts apart, law.asked number);
        allowed = λ place bucket at.
            within_less (bytes_in bucket) (credits (is_of_flow place) (all_grants (map (build_planned plan) fs)))
            (planned_bytes (filter (λ planned. planned.turn.place == place) plan))
            (credits_planned (λ c. c.place == place) plan fs bursts apart)
            (law.allowed place (bytes_in bucket) (slice_get-map bytes_in s.buckets place ∙ ap (λ o. option_map bytes_in o) at));
      };
      reserved = reserved;
      boards = channels.0;
      inside = channels.1;
      few = channels.2;
    }

-- The plan of a round.

pub turns_planned : (s : State) → map (λ planned. planned.turn) (round_plan s) ≡ turns_of s.tables
turns_planned s =
    plan_for-turns s.tables s.outstanding (map bytes_in s.buckets) (map reserve_in s.reserves) (idle (fills_of s))

-- the channel at each place of the table places the claims that the plan has there
built_from : (plan : List Planned) (all before : List (List Claim)) (place : ℕ) (fs : List Filled) →
    all ≡ before ++ map (λ c. claims_on c plan) (map (λ f. f.channel) fs) → place ≡ length before →
    values_from (λ place b. build_on (slice_index_or all place []) (filled_part b)) place (map ungranted fs)
    ≡ map (build_planned plan) fs
unfolding build_planned
built_from plan all before place [] is at = refl
built_from plan all before place (f ∷ fs) is at =
    let own : List Claim = claims_on f.channel plan in
    let rest : List (List Claim) = map (λ c. claims_on c plan) (map (λ f. f.channel) fs) in
    let here : slice_index_or all place [] ≡ own =
    ap₂ (λ xs n. slice_index_or xs n []) is at ∙ get-behind before own rest in
    let more = built_from plan all (before ++ own ∷ []) (place + 1) fs (is ∙ sym (append_assoc before (own ∷ []) rest))
    (omega (arith, at, length-append before (own ∷ []))) in
    ap₂ (λ b bs. b ∷ bs) (ap (λ cs. build_on cs f) here) more
  where
    get-behind : (before : List (List Claim)) (own : List Claim) (rest : List (List Claim)) →
        slice_index_or (before ++ own ∷ rest) (length before) [] ≡ own
    get-behind [] own rest = refl
    get-behind (x ∷ before) own rest = get-behind before own rest

pub builds_are : (s : State) (plan : List (List Claim)) (bs : List Built) →
    AreCalendars s.tables s.round s.calendars → plan ≡ all_claims s.tables (round_plan s) →
    bs ≡ map ungranted (fills_of s) → built_by plan bs ≡ builds_of s
unfolding builds_of
builds_are s plan bs are is those =
    let channels : map (λ f. f.channel) (fills_of s) ≡ s.tables.channels =
    filled_channels s.tables s.round s.calendars are in
    let all : plan ≡ map (λ c. claims_on c (round_plan s)) (map (λ f. f.channel) (fills_of s)) =
    is ∙ ap (λ cs. map (λ c. claims_on c (round_plan s)) cs) (sym channels) in
    ap (λ bs. built_by plan bs) those ∙ built_from (round_plan s) plan [] 0 (fills_of s) all refl

-- which can be placed there
pub claims_for : (t : Tables) (plan : List Planned) (all : List (List Claim)) (bs : List Built) →
    all ≡ all_claims t plan → map (λ b. b.channel) bs ≡ t.channels → AreClaims t plan → AreClaimsOn all bs
claims_for t plan all bs is channels are place b at =
    let here : slice_get t.channels place ≡ Some b.channel =
    ap (λ cs. slice_get cs place) (sym channels) ∙ slice_get-map (λ (b : Built). b.channel) bs place ∙
    ap (λ found. option_map (λ (b : Built). b.channel) found) at in
    let own : slice_index_or all place [] ≡ claims_on b.channel plan =
    ap (λ xs. slice_index_or xs place []) is ∙
    get_or_from_slice_get (all_claims t plan) place (claims_on b.channel plan) []
    (slice_get-map (λ c. claims_on c plan) t.channels place ∙ ap (option_map (λ c. claims_on c plan)) here) in
    subst (AllByRecursion (IsClaimOn b.channel)) (sym own)
    (all_found (λ c. AllByRecursion (IsClaimOn c) (claims_on c plan)) t.channels place b.channel are.each here)
