-- The channels of a round, which those who do its phases are given and answer: which may be done, and what reserves and
-- calendars make of them.
use Rattle.std.proofs.Common.{◌≡◌, ℕ, zero, suc, ◌+◌, ◌*◌, ◌<◌, ◌≤◌, List, [], ◌∷◌, ◌++◌, length, take, drop, set, get_or, map, refl, ap, sym, subst, ◌∙◌, arith}
use Rattle.std.specs.Prelude.{zip, sum_by, slice_get, Some}
use Rattle.std.specs.List.{AllByRecursion}
use Rattle.std.proofs.lemmas.List.Sums.{sum_by-cons}
use Rattle.us_flows.specs.declared.channels.Channel.{Channel}
use Rattle.us_flows.specs.Tables.{Tables, map_len, max_run_ticks}
use Rattle.us_flows.specs.Lawful.{AreTables, IsChannel}
use Rattle.us_holes.specs.Boards.{Board}
use Rattle.us_holes.proofs.LawLemmas.{assign_all-length}
use Rattle.us_calendar.specs.Calendars.{Calendar, StartsInside, pace_of, settled_in, settles}
use Rattle.us_calendar.proofs.FitLaws.{grants_fit}
use Rattle.us_calendar.proofs.RunLaws.{run_ended}
use Rattle.us_crew.specs.Items.{AreAccepted}
use Rattle.us_crew.specs.Values.{values_from, values_of}
use Rattle.us_channel.specs.Reserves.{reserves}
use Rattle.us_channel.specs.Channels.{Filled, Built, fill}
use Rattle.us_round.specs.Rounds.{filled}
use Rattle.us_round.specs.Cores.{AreCalendars, IsFilledFor, IsReady, settled_now, settled_then}
use Rattle.us_round.proofs.FillLemmas.{calendars_long}
use Rattle.us_output.proofs.PartLemmas.{all_found}
use Rattle.us_channel.proofs.ReserveLemmas.{reserves_length}

-- Items and answers.

-- where all items meet a condition, each does at its place
pub accepted : {T : Type 0} (entered : ℕ → Type 0) (P : T → Type 0) (items : List T) → AllByRecursion P items →
    AreAccepted entered (λ _ item. P item) items
accepted entered P items all place item at inside = all_found P items place item all at

-- the values of items, where their numbers don't count
pub values_are : {T R : Type 0} (value : T → R) (first : ℕ) (items : List T) →
    values_from (λ _ item. value item) first items ≡ map value items
values_are value first [] = refl
values_are value first (item ∷ items) = ap (λ more. value item ∷ more) (values_are value (first + 1) items)

-- Items that are done where they stand: as far as a place values, and items behind them.

abbrev pub done_to : {T : Type 0} → (ℕ → T → T) → ℕ → List T → List T
done_to value place items = take place (values_of value items) ++ drop place items

values_long : {T R : Type 0} (value : ℕ → T → R) (first : ℕ) (items : List T) →
    length (values_from value first items) ≡ length items
values_long value first [] = refl
values_long value first (item ∷ items) = ap (λ n. suc n) (values_long value (first + 1) items)

mixed_get : {T : Type 0} (n : ℕ) (vs xs : List T) (x : T) → length vs ≡ length xs → n < length xs →
    x ≡ get_or (take n vs ++ drop n xs) n x → slice_get xs n ≡ Some x
mixed_get n vs [] x same inside is = absurd (omega (arith, inside))
mixed_get zero vs (y ∷ xs) x same inside is = ap (λ y. Some y) (sym is)
mixed_get (suc n) [] (y ∷ xs) x same inside is = absurd (omega (arith, same))
mixed_get (suc n) (v ∷ vs) (y ∷ xs) x same inside is =
    mixed_get n vs xs x (omega (arith, same)) (omega (arith, inside)) is

mixed_set : {T : Type 0} (value : ℕ → T → T) (first n : ℕ) (xs : List T) (x v : T) → slice_get xs n ≡ Some x →
    v ≡ value (first + n) x →
    set (take n (values_from value first xs) ++ drop n xs) n v ≡ take (suc n) (values_from value first xs) ++ drop (suc n) xs
mixed_set value first n [] x v at is = absurd (cc at)
mixed_set value first zero (y ∷ xs) x v at is =
    let own : first + 0 ≡ first = omega arith in
    let here : y ≡ x = cc in
    ap (λ v. v ∷ xs) (is ∙ ap (λ k. value k x) own ∙ ap (λ x. value first x) (sym here))
mixed_set value first (suc n) (y ∷ xs) x v at is =
    let next : first + suc n ≡ first + 1 + n = omega arith in
    ap (λ more. value first y ∷ more) (mixed_set value (first + 1) n xs x v at (is ∙ ap (λ k. value k x) next))

-- the item at the place that is next
pub next_at : {T : Type 0} (value : ℕ → T → T) (place : ℕ) (items now : List T) (x : T) → now ≡ done_to value place items →
    place < length items → x ≡ get_or now place x → slice_get items place ≡ Some x
next_at value place items now x is inside at =
    mixed_get place (values_of value items) items x (values_long value 0 items) inside
    (at ∙ ap (λ xs. get_or xs place x) is)

-- one more is done,
pub done_more : {T : Type 0} (value : ℕ → T → T) (place : ℕ) (items now : List T) (x v : T) → now ≡ done_to value place items →
    slice_get items place ≡ Some x → v ≡ value place x → set now place v ≡ done_to value (place + 1) items
done_more value place items now x v is at made =
    let next : suc place ≡ place + 1 = omega arith in
    let own : place ≡ 0 + place = omega arith in
    ap (λ xs. set xs place v) is ∙ mixed_set value 0 place items x v at (made ∙ ap (λ k. value k x) own) ∙ ap (λ n. done_to value n items) next

behind : {T : Type 0} (n : ℕ) (vs xs : List T) → length vs ≡ length xs → length xs ≤ n → take n vs ++ drop n xs ≡ vs
behind zero [] [] same end = refl
behind zero [] (x ∷ xs) same end = absurd (omega (arith, end))
behind zero (v ∷ vs) [] same end = absurd (omega (arith, same))
behind zero (v ∷ vs) (x ∷ xs) same end = absurd (omega (arith, end))
behind (suc n) [] [] same end = refl
behind (suc n) [] (x ∷ xs) same end = absurd (omega (arith, same))
behind (suc n) (v ∷ vs) [] same end = absurd (omega (arith, same))
behind (suc n) (v ∷ vs) (x ∷ xs) same end =
    ap (λ more. v ∷ more) (behind n vs xs (omega (arith, same)) (omega (arith, end)))

-- and all are
pub done_all : {T : Type 0} (value : ℕ → T → T) (place : ℕ) (items now : List T) → now ≡ done_to value place items →
    length items ≤ place → now ≡ values_of value items
done_all value place items now is end = is ∙ behind place (values_of value items) items (values_long value 0 items) end

pub zip_long : {X Y : Type 0} (xs : List X) (ys : List Y) → length ys ≤ length xs → length (zip xs ys) ≡ length ys
zip_long [] [] few = refl
zip_long [] (y ∷ ys) few = absurd (omega (arith, few))
zip_long (x ∷ xs) [] few = refl
zip_long (x ∷ xs) (y ∷ ys) few = ap (λ n. suc n) (zip_long xs ys (omega (arith, few)))

-- Calendars.

fill_sound : (t : Tables) (round : ℕ) (c : Channel) (calendar : Calendar) → IsChannel t c →
    calendar.pace ≡ pace_of t c → IsFilledFor t (fill t round c calendar)
fill_sound t round c calendar lawful pace =
    let board : Board = reserves c (map_len t c) round in
    let fitting = grants_fit calendar.pace calendar.next_round calendar.states board in
    let ended = run_ended calendar.pace calendar.next_round calendar.states board in
    let len : length (settles calendar board).board.cells ≡ map_len t c =
    ap (λ b. length b.cells) fitting.0 ∙ assign_all-length board _ fitting.1
    ∙ reserves_length c (map_len t c) round lawful.reserves in
    record {
      len = len;
      inside = subst (λ n. AllByRecursion (StartsInside n) (settles calendar board).settled)
          (ap (λ p. p.len) pace ∙ sym len) ended.inside;
      few = omega (arith, ended.granted);
    }

all_sound : (t : Tables) (round : ℕ) (channels : List Channel) (cs : List Calendar) →
    AllByRecursion (IsChannel t) channels → map (λ calendar. calendar.pace) cs ≡ map (pace_of t) channels →
    AllByRecursion (IsFilledFor t)
    (map (λ (item : Channel × Calendar). fill t round item.0 item.1) (zip channels cs))
all_sound t round [] cs lawful paces = tt
all_sound t round (c ∷ channels) [] lawful paces = tt
all_sound t round (c ∷ channels) (calendar ∷ cs) lawful paces =
    let both : calendar.pace ∷ map (λ calendar. calendar.pace) cs ≡ pace_of t c ∷ map (pace_of t) channels = paces in
    let rest : map (λ calendar. calendar.pace) cs ≡ map (pace_of t) channels = cc in
    let first : calendar.pace ≡ pace_of t c = cc in
    (fill_sound t round c calendar lawful.0 first, all_sound t round channels cs lawful.1 rest)

-- channels of the tables, each with its calendar, are ready for the round
pub all_ready : (t : Tables) (round : ℕ) (bs : List Built) → (round + 1) * t.round_ticks ≤ max_run_ticks →
    AllByRecursion (IsChannel t) (map (λ b. b.channel) bs) →
    map (λ calendar. calendar.pace) (map (λ b. b.calendar) bs) ≡ map (pace_of t) (map (λ b. b.channel) bs) →
    AllByRecursion (λ calendar. calendar.next_round ≡ round) (map (λ b. b.calendar) bs) →
    AllByRecursion (IsReady t round) bs
all_ready t round [] time lawful paces rounds = tt
all_ready t round (b ∷ bs) time lawful paces rounds =
    let both : b.calendar.pace ∷ map (λ calendar. calendar.pace) (map (λ (b : Built). b.calendar) bs)
    ≡ pace_of t b.channel ∷ map (pace_of t) (map (λ (b : Built). b.channel) bs) = paces in
    let rest : map (λ calendar. calendar.pace) (map (λ (b : Built). b.calendar) bs)
    ≡ map (pace_of t) (map (λ (b : Built). b.channel) bs) = cc in
    let first : b.calendar.pace ≡ pace_of t b.channel = cc in (
      record { channel = lawful.0; pace = first; next = rounds.0; time = time },
      all_ready t round bs time lawful.1 rest rounds.1,
    )

-- and are sound after it, whatever the time is
pub filled_sound : (t : Tables) (round : ℕ) (cs : List Calendar) → AreTables t → AreCalendars t round cs →
    AllByRecursion (IsFilledFor t) (filled t round cs)
filled_sound t round cs lawful are = all_sound t round t.channels cs lawful.channels are.paces

all_counted : (t : Tables) (round : ℕ) (channels : List Channel) (cs : List Calendar) → length cs ≡ length channels →
    settled_now (map (λ (item : Channel × Calendar). fill t round item.0 item.1) (zip channels cs)) + sum_by settled_in cs
    ≤ settled_then (map (λ (item : Channel × Calendar). fill t round item.0 item.1) (zip channels cs))
all_counted t round [] [] is = omega arith
all_counted t round [] (calendar ∷ cs) is = absurd (omega (arith, is))
all_counted t round (c ∷ channels) [] is = absurd (omega (arith, is))
all_counted t round (c ∷ channels) (calendar ∷ cs) is =
    let f : Filled = fill t round c calendar in
    let fs : List Filled = map (λ (item : Channel × Calendar). fill t round item.0 item.1) (zip channels cs) in
    let counts : length f.settled + settled_in calendar ≤ settled_in f.calendar =
    (run_ended calendar.pace calendar.next_round calendar.states (reserves c (map_len t c) round)).counts in
    let rest : settled_now fs + sum_by settled_in cs ≤ settled_then fs =
    all_counted t round channels cs (omega (arith, is)) in
    let now : settled_now (f ∷ fs) ≡ length f.settled + settled_now fs = sum_by-cons (λ f. length f.settled) f fs in
    let then : settled_then (f ∷ fs) ≡ settled_in f.calendar + settled_then fs =
    sum_by-cons (λ f. settled_in f.calendar) f fs in
    let before : sum_by settled_in (calendar ∷ cs) ≡ settled_in calendar + sum_by settled_in cs =
    sum_by-cons settled_in calendar cs in
    omega (arith, counts, rest, now, then, before)

-- what calendars settle is counted
pub filled_counted : (t : Tables) (round : ℕ) (cs : List Calendar) → AreCalendars t round cs →
    settled_now (filled t round cs) + sum_by settled_in cs ≤ settled_then (filled t round cs)
filled_counted t round cs are = all_counted t round t.channels cs (calendars_long t round cs are)
