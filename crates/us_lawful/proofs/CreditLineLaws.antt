-- Each line of a request is right: it is the line of a grant, which is of a turn of the tables.
use Rattle.std.proofs.Common.{◌≡◌, ℕ, zero, suc, ◌+◌, ◌≤◌, ◌==◌, eq-eqb, eqb-true, lt-ltb, Bool, true, false, List, [], ◌∷◌, length, map, cond, Some, option_map, refl, sym, ap, ap₂, ◌∙◌, arith, inl, inr}
use Rattle.std.specs.Prelude.{◌&&◌, ◌||◌, not, nat_lt, count_by, sum_by, slice_get}
use Rattle.std.specs.List.{AllByRecursion, list_all, list_any}
use Rattle.std.proofs.lemmas.Bool.{cases_Bool, and_from, or_left, or_right}
use Rattle.std.proofs.lemmas.List.Sums.{sum_by-cons}
use Rattle.std.proofs.lemmas.Option.{slice_get-map}
use Rattle.us_slots.specs.Bursts.{grant_cost}
use Rattle.us_flows.specs.declared.channels.Channel.{Channel}
use Rattle.us_flows.specs.Tables.{Tables, channel_with, header_bytes, rounds_fit}
use Rattle.us_flows.specs.Clusters.{Turn, Cluster, IsTurnIn, Requests, has_sid, table_order, turns_of}
use Rattle.us_flows.specs.Lawful.{AreTables}
use Rattle.us_flows.proofs.KeyLaws.{channel_found}
use Rattle.us_flows.proofs.TurnLaws.{in_order-count, one_turn, table_order-turns, turns_are_of_clusters}
use Rattle.us_requests.specs.declared.asks.Counts.{Counts}
use Rattle.us_calendar.specs.declared.kinds.Kind.{Kind}
use Rattle.us_calendar.specs.declared.kinds.Kind.TheVariants as kinds
use Rattle.us_calendar.specs.declared.settled.Settled.{Settled}
use Rattle.us_calendar.specs.declared.settled.Settled.TheVariants as settled
use Rattle.us_split.specs.Claims.{Claimant, claimant_of}
use Rattle.us_channel.specs.Placements.{PlacedClaim}
use Rattle.us_channel.specs.Channels.{Built}
use Rattle.us_output.specs.declared.rows.EntryWord.TheVariants as words
use Rattle.us_output.specs.declared.rows.Grant.{Grant}
use Rattle.us_output.specs.declared.rows.Row.{Row}
use Rattle.us_output.specs.declared.rows.Row.TheVariants as rows
use Rattle.us_round.specs.Rounds.{State, builds_of}
use Rattle.us_output.specs.Outputs.{entry_word, settled_row, grant_row}
use Rattle.us_round.specs.ScheduleLaws.{AreCuts}
use Rattle.us_output.proofs.PartLemmas.{all_found, all_weaker}
use Rattle.us_round.proofs.ChannelRunLaws.{channels_stay}
use Rattle.us_reports.specs.declared.place.Place.{Place}
use Rattle.us_lawful.specs.Runs.{Run, as_grant, grants_in, requested_in}
use Rattle.us_reports.specs.Rows.{is_requested}
use Rattle.us_lawful.specs.Output.{output_of, judged_of, run_of}
use Rattle.us_lawful.specs.Places.{is_told_at}
use Rattle.us_lawful.specs.Credits.{is_of, has_cost, is_like, is_right_for, is_right_credit, is_credit_at, credit_lines_hold}
use Rattle.us_lawful.proofs.SameLemmas.{worth, sum_append, sum_filter, sum_filter_map, sum_flat_map, sum_map}
use Rattle.us_lawful.proofs.SumLemmas.{sum_none, sum_same}
use Rattle.us_lawful.proofs.ItemLemmas.{some_counted}
use Rattle.us_lawful.proofs.RoundLemmas.{IsRoundOf, last_all, last_rows, round_at, round_rows, rounds_are, rounds_of, rows_in, sum_at, sum_lines}
use Rattle.us_lawful.proofs.GrantLemmas.{HasClaims, IsTurnGrant, builds_claimed, grants_of_turns, grants_once, same_cluster}

-- Lists.

any_found : {X : Type 0} (p : X → Bool) (xs : List X) (place : ℕ) (x : X) → slice_get xs place ≡ Some x → p x ≡ true →
    list_any p xs ≡ true
any_found p [] place x at is = absurd (cc at)
any_found p (y ∷ xs) zero x at is =
    let same : y ≡ x = cc in
    or_left (p y) (list_any p xs) (ap p same ∙ is)
any_found p (y ∷ xs) (suc place) x at is = or_right (p y) (list_any p xs) (any_found p xs place x at is)

-- what holds of each item at its place holds of all
pub all_placed : {X : Type 0} (P : X → Type 0) (xs : List X) →
    ((place : ℕ) (x : X) → slice_get xs place ≡ Some x → P x) → AllByRecursion P xs
all_placed P [] each = tt
all_placed P (x ∷ xs) each = (each 0 x refl, all_placed P xs (λ place y at. each (suc place) y at))

-- all pass where none fails
none_fails : {X : Type 0} (q : X → Bool) (xs : List X) → sum_by (λ x. cond (q x) 0 1) xs ≡ 0 → list_all q xs ≡ true
none_fails q [] none = refl
none_fails q (x ∷ xs) none =
    let all : sum_by (λ x. cond (q x) 0 1) (x ∷ xs) ≡ cond (q x) 0 1 + sum_by (λ x. cond (q x) 0 1) xs =
    sum_by-cons (λ x. cond (q x) 0 1) x xs in
    elim (cases_Bool (q x)) [
      | inl is ↦
          let here : cond {A = ℕ} (q x) 0 1 ≡ 0 = rw is refl in
          and_from (q x) (list_all q xs) is (none_fails q xs (omega (arith, all, here, none)))
      | inr out ↦
          let here : cond {A = ℕ} (q x) 0 1 ≡ 1 = rw out refl in
          absurd (omega (arith, all, here, none))
    ]

-- one that passes is counted
pub counted_there : {X : Type 0} (p : X → Bool) (xs : List X) (place : ℕ) (x : X) → slice_get xs place ≡ Some x → p x ≡ true →
    1 ≤ count_by p xs
counted_there p [] place x at is = absurd (cc at)
counted_there p (y ∷ xs) zero x at is =
    let same : y ≡ x = cc in
    let here : cond {A = ℕ} (p y) 1 0 ≡ 1 = ap (λ passes. cond {A = ℕ} passes 1 0) (ap p same ∙ is) in
    let all : count_by p (y ∷ xs) ≡ cond (p y) 1 0 + count_by p xs = sum_by-cons (λ x. cond (p x) 1 0) y xs in
    omega (arith, all, here)
counted_there p (y ∷ xs) (suc place) x at is =
    let all : count_by p (y ∷ xs) ≡ cond (p y) 1 0 + count_by p xs = sum_by-cons (λ x. cond (p x) 1 0) y xs in
    omega (arith, all, counted_there p xs place x at is)

-- Turns.

-- a turn of the tables stands in table order: its word has one turn
pub turn_listed : (t : Tables) (turn : Turn) → IsTurnIn t turn →
    (place : ℕ) × (slice_get (table_order t) place ≡ Some turn)
unfolding turns_of
turn_listed t turn is =
    let own : Turn → Bool = λ other. other.number == turn.number in
    let found = some_counted own (table_order t)
    (omega (arith, turns_are_of_clusters t turn.number (Requests turn.cluster) is.word, in_order-count own (table_order t))) in
    let other : Turn = found.1 in
    let known : IsTurnIn t other =
    all_found (IsTurnIn t) (table_order t) found.0 other (table_order-turns t) found.2 in
    (found.0, found.2 ∙ ap Some (one_turn t other turn known is (eqb-true other.number turn.number found.3)))

-- Lines of requests.

-- the line of a grant
abbrev pub line_of : ℕ → Channel → PlacedClaim → Grant
line_of round c placed = record {
  round = round;
  channel = c.id;
  entry = words.Requested;
  id = placed.claimant.flow;
  i = placed.claimant.list;
  k = 0;
  sid = placed.assignment.owner.sid;
  iuc = placed.assignment.owner.iuc;
  start = placed.assignment.start;
  slots = placed.assignment.slots;
  credit = placed.credit;
}

-- what a line adds, if it is a request's
abbrev pub of_requested : (Grant → ℕ) → Row → ℕ
of_requested f row = worth (λ g. cond (is_requested g.entry) (f g) 0) (as_grant row)

pub requested_sum : (f : Grant → ℕ) (lines : List Row) → sum_by f (requested_in lines) ≡ sum_by (of_requested f) lines
requested_sum f lines =
    sum_filter f (λ g. is_requested g.entry) (grants_in lines)
    ∙ sum_filter_map (λ (g : Grant). cond (is_requested g.entry) (f g) 0) as_grant lines

no_request : (kind : Kind) → is_requested (entry_word kind) ≡ false
no_request kinds.Unsolicited = refl
no_request kinds.Activity = refl
no_request kinds.RealTimePoll = refl
no_request kinds.NonRealTimePoll = refl
no_request kinds.Station = refl

-- a line of a calendar adds nothing
settled_adds : (f : Grant → ℕ) (round : ℕ) (c : Channel) (one : Settled) → of_requested f (settled_row round c one) ≡ 0
settled_adds f round c (settled.Granted kind id i k start slots owner) = rw (no_request kind) refl
settled_adds f round c (settled.Missed kind id i k) = refl

-- the rows of a channel's round add what its grants do
pub requested_rows : (f : Grant → ℕ) (round : ℕ) (b : Built) →
    sum_by (of_requested f) (rows_in round b) ≡ sum_by (λ g. f (line_of round b.channel g)) b.grants
requested_rows f round b =
    let line : Settled → Row = settled_row round b.channel in
    let none : sum_by (λ one. of_requested f (line one)) b.settled ≡ 0 =
    sum_none (λ one. of_requested f (line one)) b.settled
    (all_placed (λ one. of_requested f (line one) ≡ 0) b.settled (λ place one at. settled_adds f round b.channel one)) in
    omega (
      arith,
      sum_append (of_requested f) (map line b.settled) (map (grant_row round b.channel) b.grants),
      sum_map (of_requested f) line b.settled,
      none,
      sum_map (of_requested f) (grant_row round b.channel) b.grants,
    )

-- and those at the end of a report add nothing
pub requested_last : (f : Grant → ℕ) (t : Tables) (cuts : List (List ℕ)) (counts : Counts) →
    sum_by (of_requested f) (last_rows t cuts counts) ≡ 0
requested_last f t cuts counts =
    sum_none (of_requested f) (last_rows t cuts counts)
    (last_all (λ row. of_requested f row ≡ 0) t cuts counts (λ state. refl) (λ activity. refl) refl)

-- a test passes all lines of requests if it passes the line of each grant of each channel in each round
pub requested_pass : (q : Grant → Bool) (t : Tables) (cuts : List (List ℕ)) (counts : Counts) → AreTables t →
    AreCuts t cuts → ((r : ℕ) (s : State) → slice_get (rounds_of t cuts) r ≡ Some s → (place : ℕ) (b : Built) →
    slice_get (builds_of s) place ≡ Some b → AllByRecursion (λ g. q (line_of r b.channel g) ≡ true) b.grants) →
    list_all q (requested_in (judged_of (output_of t cuts counts)).lines) ≡ true
requested_pass q t cuts counts lawful long each =
    let fails : Grant → ℕ = λ g. cond (q g) 0 1 in
    let lines : List Row = (judged_of (output_of t cuts counts)).lines in
    let of_build : (r : ℕ) (s : State) → slice_get (rounds_of t cuts) r ≡ Some s → (place : ℕ) (b : Built) →
    slice_get (builds_of s) place ≡ Some b → sum_by (of_requested fails) (rows_in s.round b) ≡ 0 =
    (λ r s at place b there.
    requested_rows fails s.round b
    ∙ ap (λ n. sum_by (λ g. fails (line_of n b.channel g)) b.grants) (round_at t cuts r s at)
    ∙ sum_none (λ g. fails (line_of r b.channel g)) b.grants
    (all_weaker (λ g. q (line_of r b.channel g) ≡ true) (λ g. fails (line_of r b.channel g) ≡ 0)
    (λ g is. ap (λ passes. cond {A = ℕ} passes 0 1) is) b.grants (each r s at place b there))) in
    let of_round : AllByRecursion (λ s. sum_by (of_requested fails) (round_rows s) ≡ 0) (rounds_of t cuts) =
    all_placed (λ s. sum_by (of_requested fails) (round_rows s) ≡ 0) (rounds_of t cuts) (λ r s at.
    sum_flat_map (of_requested fails) (rows_in s.round) (builds_of s)
    ∙ sum_none (λ b. sum_by (of_requested fails) (rows_in s.round b)) (builds_of s)
    (all_placed (λ b. sum_by (of_requested fails) (rows_in s.round b) ≡ 0) (builds_of s) (of_build r s at))) in
    none_fails q (requested_in lines) (omega (
      arith,
      requested_sum fails lines,
      sum_lines (of_requested fails) t cuts counts lawful long,
      sum_none (λ s. sum_by (of_requested fails) (round_rows s)) (rounds_of t cuts) of_round,
      requested_last fails t cuts counts,
    ))

-- Lines that are like another one.

-- a line tells the same cluster as another one exactly if its grant has the number of that one's turn
like_cluster : (t : Tables) (r : ℕ) (c : Channel) (turn : Turn) (g other : PlacedClaim) → AreTables t → IsTurnIn t turn →
    g.claimant ≡ claimant_of turn → IsTurnGrant t c other →
    is_like (line_of r c g) (line_of r c other) ≡ (other.claimant.cluster == turn.number)
like_cluster t r c turn g other lawful known of is =
    rw (eq-eqb r r refl, eq-eqb c.id c.id refl)
    (ap₂ (λ (x y : Claimant). (x.flow == y.flow) && (x.list == y.list)) is.claimant of
    ∙ same_cluster t is.turn turn lawful is.known known
    ∙ ap (λ (x : Claimant). x.cluster == turn.number) (sym is.claimant))

-- so its channel has one grant whose line is like it
like_once : (t : Tables) (r : ℕ) (b : Built) (place : ℕ) (g : PlacedClaim) → AreTables t → HasClaims t b →
    slice_get b.grants place ≡ Some g → IsTurnGrant t b.channel g →
    count_by (λ other. is_like (line_of r b.channel g) (line_of r b.channel other)) b.grants ≡ 1
like_once t r b place g lawful has at is =
    let number : ℕ = is.turn.number in
    let like : PlacedClaim → Bool = λ other. is_like (line_of r b.channel g) (line_of r b.channel other) in
    let own : PlacedClaim → Bool = λ other. other.claimant.cluster == number in
    let same : count_by like b.grants ≡ count_by own b.grants =
    sum_same (λ other. cond (like other) 1 0) (λ other. cond (own other) 1 0) b.grants
    (all_placed (λ other. cond {A = ℕ} (like other) 1 0 ≡ cond (own other) 1 0) b.grants
    (λ there other found. ap (λ passes. cond {A = ℕ} passes 1 0)
    (like_cluster t r b.channel is.turn g other lawful is.known is.claimant
    (all_found (IsTurnGrant t b.channel) b.grants there other (grants_of_turns t b has) found)))) in
    let mine : own g ≡ true = eq-eqb g.claimant.cluster number (ap (λ (x : Claimant). x.cluster) is.claimant) in
    omega (arith, same, grants_once t b number has, counted_there own b.grants place g at mine)

-- lines that are like one of a round and channel are told there
like_told : (r id : ℕ) (line : Grant) (row : Row) → line.round ≡ r → line.channel ≡ id → is_told_at r id row ≡ false →
    of_requested (λ other. cond (is_like line other) 1 0) row ≡ 0
like_told r id line (rows.Granted other) round channel out =
    let unlike : is_like line other ≡ false =
    rw (round, channel)
    (nothing (other.round == r) (other.channel == id) ((other.id == line.id) && (other.i == line.i)) out) in
    rw unlike (zero_both (is_requested other.entry))
  where
    nothing : (a b c : Bool) → (a && b) ≡ false → (a && (b && c)) ≡ false
    nothing true true c out = absurd (cc out)
    nothing true false c out = refl
    nothing false b c out = refl

    zero_both : (b : Bool) → cond {A = ℕ} b 0 0 ≡ 0
    zero_both true = refl
    zero_both false = refl
like_told r id line (rows.Missed missed) round channel out = refl
like_told r id line (rows.Final state) round channel out = refl
like_told r id line (rows.Activity activity) round channel out = refl
like_told r id line (rows.Counts counts) round channel out = refl

-- and of all lines of requests just one is like the line of a grant, itself
pub line_once : (t : Tables) (cuts : List (List ℕ)) (counts : Counts) (r place : ℕ) (s : State) (b : Built) (there : ℕ)
    (g : PlacedClaim) → AreTables t → AreCuts t cuts → slice_get (rounds_of t cuts) r ≡ Some s →
    slice_get (builds_of s) place ≡ Some b → slice_get b.grants there ≡ Some g → HasClaims t b → IsTurnGrant t b.channel g →
    count_by (is_like (line_of r b.channel g)) (requested_in (judged_of (output_of t cuts counts)).lines) ≡ 1
line_once t cuts counts r place s b there g lawful long at found own has is =
    let line : Grant = line_of r b.channel g in
    let like : Grant → ℕ = λ other. cond (is_like line other) 1 0 in
    requested_sum like (judged_of (output_of t cuts counts)).lines
    ∙ sum_at (of_requested like) t cuts counts lawful long r place s b at found
    (λ row out. like_told r b.channel.id line row refl refl out)
    ∙ requested_rows like r b
    ∙ like_once t r b there g lawful has own is

-- Lines.

right_for : (run : Run) (lines : List Row) (g : Grant) (cluster : Cluster) → is_of cluster g ≡ true → (g.k == 0) ≡ true →
    has_sid g.channel g.sid cluster ≡ true → nat_lt 0 g.credit ≡ true →
    has_cost cluster g (channel_with run.tables.channels g.channel) ≡ true →
    (count_by (is_like g) (requested_in lines) == 1) ≡ true → is_right_for run lines g cluster ≡ true
right_for run lines g cluster of first sid some cost once = rw (of, first, sid, some, cost, once) refl

-- the line of a grant of a turn costs what it must
line_cost : (t : Tables) (r : ℕ) (c : Channel) (g : PlacedClaim) (is : IsTurnGrant t c g) →
    has_cost is.turn.cluster (line_of r c g) (Some c) ≡ true
line_cost t r c g is =
    let cost : ℕ × ℕ = grant_cost c.bursts (g.credit + header_bytes is.turn.cluster.flow) in
    and_from (g.assignment.slots == cost.0) (g.assignment.owner.iuc == cost.1)
    (eq-eqb g.assignment.slots cost.0 (ap (λ (pair : ℕ × ℕ). pair.0) is.cost))
    (eq-eqb g.assignment.owner.iuc cost.1 (ap (λ (pair : ℕ × ℕ). pair.1) is.cost))

-- the channel of a build stands at its place in the table
channel_at : (t : Tables) (end : ℕ) (s : State) (place : ℕ) (b : Built) → IsRoundOf t end s →
    slice_get (builds_of s) place ≡ Some b → slice_get t.channels place ≡ Some b.channel
channel_at t end s place b is found =
    ap (λ cs. slice_get cs place) (sym (channels_stay s is.state ∙ ap (λ (u : Tables). u.channels) is.tables))
    ∙ slice_get-map (λ (b : Built). b.channel) (builds_of s) place ∙ ap (option_map (λ (b : Built). b.channel)) found

line_right : (t : Tables) (cuts : List (List ℕ)) (counts : Counts) (r place : ℕ) (s : State) (b : Built) (there : ℕ)
    (g : PlacedClaim) → AreTables t → AreCuts t cuts → slice_get (rounds_of t cuts) r ≡ Some s →
    slice_get (builds_of s) place ≡ Some b → slice_get b.grants there ≡ Some g →
    is_right_credit (run_of t cuts counts) (judged_of (output_of t cuts counts)).lines (line_of r b.channel g) ≡ true
line_right t cuts counts r place s b there g lawful long at found own =
    let run : Run = run_of t cuts counts in
    let lines : List Row = (judged_of (output_of t cuts counts)).lines in
    let line : Grant = line_of r b.channel g in
    let of_round : IsRoundOf t (length cuts) s =
    all_found (IsRoundOf t (length cuts)) (rounds_of t cuts) r s (rounds_are t cuts lawful long) at in
    let has : HasClaims t b =
    all_found (HasClaims t) (builds_of s) place b (builds_claimed t (length cuts) s lawful of_round) found in
    let is : IsTurnGrant t b.channel g =
    all_found (IsTurnGrant t b.channel) b.grants there g (grants_of_turns t b has) own in
    let cluster : Cluster = is.turn.cluster in
    let channel : channel_with t.channels b.channel.id ≡ Some b.channel =
    channel_found t place b.channel lawful (channel_at t (length cuts) s place b of_round found) in
    let of : is_of cluster line ≡ true =
    and_from (g.claimant.flow == cluster.flow.id) (g.claimant.list == cluster.list)
    (eq-eqb g.claimant.flow cluster.flow.id (ap (λ (x : Claimant). x.flow) is.claimant))
    (eq-eqb g.claimant.list cluster.list (ap (λ (x : Claimant). x.list) is.claimant)) in
    let some : nat_lt 0 g.credit ≡ true = lt-ltb 0 g.credit (omega (arith, is.some)) in
    let cost : has_cost cluster line (channel_with t.channels b.channel.id) ≡ true =
    ap (has_cost cluster line) channel ∙ line_cost t r b.channel g is in
    let once : (count_by (is_like line) (requested_in lines) == 1) ≡ true =
    eq-eqb (count_by (is_like line) (requested_in lines)) 1
    (line_once t cuts counts r place s b there g lawful long at found own has is) in
    let listed = turn_listed t is.turn is.known in
    any_found (λ turn. is_right_for run lines line turn.cluster) (table_order t) listed.0 is.turn listed.1
    (right_for run lines line cluster of refl is.sid some cost once)

-- Each line of a request is right for a cluster.
pub credit_lines_are_lawful : (t : Tables) (cuts : List (List ℕ)) (counts : Counts) → AreTables t → AreCuts t cuts →
    rounds_fit t (length cuts) ≡ true →
    (p : Place) → credit_lines_hold (run_of t cuts counts) (judged_of (output_of t cuts counts)) p ≡ true
credit_lines_are_lawful t cuts counts lawful long fits p =
    let right : Grant → Bool = is_right_credit (run_of t cuts counts) (judged_of (output_of t cuts counts)).lines in
    requested_pass (λ g. not (is_credit_at p g) || right g) t cuts counts lawful long
    (λ r s at place b found.
    all_placed (λ g. (not (is_credit_at p (line_of r b.channel g)) || right (line_of r b.channel g)) ≡ true) b.grants
    (λ there g own. or_right (not (is_credit_at p (line_of r b.channel g))) (right (line_of r b.channel g))
    (line_right t cuts counts r place s b there g lawful long at found own)))
