-- Lines, as the text of a round has them.
use Rattle.std.proofs.Common.{◌≡◌, ℕ, ◌+◌, ◌^◌, ◌<◌, Bool, List, [], ◌∷◌, ◌++◌, length, flat_map, get_or, drop, append_assoc, refl, ap, ◌∙◌, sym, arith}
use Rattle.std.specs.Prelude.{cond, count_by}
use Rattle.std.proofs.lemmas.List.{drop_more, length-append}
use Rattle.std.proofs.lemmas.List.Sums.{count_by-le-length, sum_by-append, sum_by-cons}
use Rattle.std.specs.List.{AllByRecursion}
use Rattle.std.proofs.lemmas.Grind.{flat_map-append}
use Rattle.us_flows.specs.Tables.{Tables}
use Rattle.us_flows.specs.declared.channels.Channel.{Channel}
use Rattle.us_calendar.specs.declared.settled.Settled.{Settled}
use Rattle.us_calendar.specs.declared.settled.Settled.TheVariants as settled
use Rattle.us_channel.specs.Channels.{Built}
use Rattle.us_output.specs.Outputs.{Scheduled, out_of, rows_on, settled_row}
use Rattle.us_output.specs.Files.{is_granted, is_missed, lines}
use Rattle.us_output.specs.Leftovers.{AreInside}
use Rattle.us_output.specs.Lines.{text_of}
use Rattle.us_output.specs.Orders.{missed_of, ordered_spots, rows_at}
use Rattle.us_output.specs.declared.rows.Row.{Row}
use Rattle.us_output.proofs.LineLemmas.{lines_of}
use Rattle.us_output.proofs.SpotLemmas.{rows_are, spots_count}

-- the lines of all channels
pub lines_flat : (round : ℕ) (channels : List Built) →
    flat_map (λ part. lines (rows_on round part)) channels ≡ lines (flat_map (rows_on round) channels)
unfolding lines
lines_flat round [] = refl
lines_flat round (b ∷ channels) =
    ap (λ more. flat_map text_of (rows_on round b) ++ more) (lines_flat round channels) ∙
    sym (flat_map-append text_of (rows_on round b) (flat_map (rows_on round) channels))

-- the rows of what a round gives, for the crates above
pub rows_of_out : (t : Tables) (s : Scheduled) → (out_of t s).rows ≡ flat_map (rows_on s.round) s.channels
unfolding out_of
rows_of_out t s = refl

-- How many lines a channel has: of grants, of what was missed, and all.

missed_none : (round : ℕ) (c : Channel) (all : List Settled) → count_by is_granted (missed_of round c all) ≡ 0
missed_none round c [] = refl
missed_none round c (settled.Granted kind id i k start slots owner ∷ all) = missed_none round c all
missed_none round c (settled.Missed kind id i k ∷ all) = missed_none round c all

missed_all : (round : ℕ) (c : Channel) (all : List Settled) →
    count_by is_missed (missed_of round c all) ≡ length (missed_of round c all)
missed_all round c [] = refl
missed_all round c (settled.Granted kind id i k start slots owner ∷ all) = missed_all round c all
missed_all round c (settled.Missed kind id i k ∷ all) =
    let row : Row = settled_row round c (settled.Missed kind id i k) in
    let next : count_by is_missed (row ∷ missed_of round c all) ≡ 1 + count_by is_missed (missed_of round c all) =
    sum_by-cons (λ row. cond (is_missed row) 1 0) row (missed_of round c all) in
    omega (arith, next, missed_all round c all)

pub count_append : (p : Row → Bool) (xs ys : List Row) → count_by p (xs ++ ys) ≡ count_by p xs + count_by p ys
count_append p xs ys = sum_by-append (λ row. cond (p row) 1 0) xs ys

-- counts of G and of M lines, by the spots of the G lines
pub record AreCounted (round : ℕ) (b : Built) : Type 0 where
  pub granted : count_by is_granted (rows_on round b) ≡ length (ordered_spots b)
  pub all : count_by is_missed (rows_on round b) + length (ordered_spots b) ≡ length b.settled + length b.grants
  pub whole : length (rows_on round b) ≡ length b.settled + length b.grants
  pub missed : length (missed_of round b.channel b.settled) + length (ordered_spots b) ≡ length b.settled + length b.grants

pub counted : (round : ℕ) (b : Built) → AreInside b → AreCounted round b
counted round b inside =
    let c : Channel = b.channel in
    let granted : List Row = rows_at round c b.settled b.grants (ordered_spots b) in
    let missed : List Row = missed_of round c b.settled in
    let rows : rows_on round b ≡ granted ++ missed = rows_are round b in
    let spots = spots_count round b in
    let all : length (rows_on round b) ≡ length b.settled + length b.grants = lines_of round b inside in
    let parts : length (rows_on round b) ≡ length granted + length missed = ap length rows ∙ length-append granted missed in
    record {
      granted = omega (
        arith,
        ap (count_by is_granted) rows,
        count_append is_granted granted missed,
        spots.0,
        missed_none round c b.settled,
      );
      all = omega (
        arith,
        ap (count_by is_missed) rows,
        count_append is_missed granted missed,
        spots.1,
        spots.2,
        missed_all round c b.settled,
        all,
        parts,
      );
      whole = all;
      missed = omega (arith, all, parts, spots.2);
    }

-- A channel of which nothing was settled and granted has no line.
empty : {X : Type 0} (xs : List X) → length xs ≡ 0 → xs ≡ []
empty [] none = refl
empty (x ∷ xs) none = absurd (omega (arith, none))

pub quiet_rows : (round : ℕ) (b : Built) → AreInside b → length b.settled ≡ 0 → length b.grants ≡ 0 → rows_on round b ≡ []
quiet_rows round b inside settled grants = empty (rows_on round b) (omega (arith, lines_of round b inside, settled, grants))

-- Where G lines are all that was settled and granted nothing was missed.
pub none_missed : (round : ℕ) (b : Built) → AreInside b → length b.settled + length b.grants ≡ length (ordered_spots b) →
    missed_of round b.channel b.settled ≡ []
none_missed round b inside whole =
    empty (missed_of round b.channel b.settled) (omega (arith, (counted round b inside).missed, whole))

-- rows that are taken as they are
pub as_they_are : (rows : List Row) → flat_map (λ row. row ∷ []) rows ≡ rows
as_they_are [] = refl
as_they_are (row ∷ rows) = ap (λ more. row ∷ more) (as_they_are rows)

-- Channel after channel.

-- the first of those that are left, and the others
first_left : {X : Type 0} (f : Built → List X) (channels : List Built) (i : ℕ) (b d : Built) →
    i < length channels → b ≡ get_or channels i d →
    flat_map f (drop i channels) ≡ f b ++ flat_map f (drop (i + 1) channels)
first_left f channels i b d within is =
    ap (flat_map f) (drop_more channels i d within) ∙ ap (λ x. f x ++ flat_map f (drop (i + 1) channels)) (sym is)

pub next_part : {X : Type 0} (f : Built → List X) (channels : List Built) (i : ℕ) (b d : Built) (now new whole : List X) →
    i < length channels → b ≡ get_or channels i d → now ++ flat_map f (drop i channels) ≡ whole → new ≡ now ++ f b →
    new ++ flat_map f (drop (i + 1) channels) ≡ whole
next_part {X = X} f channels i b d now new whole within is so_far put =
    let rest : List X = flat_map f (drop (i + 1) channels) in
    ap (λ xs. xs ++ rest) put ∙ append_assoc now (f b) rest ∙
    ap (λ more. now ++ more) (sym (first_left f channels i b d within is)) ∙ so_far

pub next_count : (p : Row → Bool) (round : ℕ) (channels : List Built) (i : ℕ) (b d : Built) (n m whole : ℕ) →
    i < length channels → b ≡ get_or channels i d →
    n + count_by p (flat_map (rows_on round) (drop i channels)) ≡ whole → m ≡ n + count_by p (rows_on round b) →
    m + count_by p (flat_map (rows_on round) (drop (i + 1) channels)) ≡ whole
next_count p round channels i b d n m whole within is so_far more =
    let rest : List Row = flat_map (rows_on round) (drop (i + 1) channels) in
    let left : count_by p (flat_map (rows_on round) (drop i channels)) ≡ count_by p (rows_on round b) + count_by p rest =
    ap (count_by p) (first_left (rows_on round) channels i b d within is) ∙ count_append p (rows_on round b) rest in
    omega (arith, so_far, more, left)

-- so many lines fit, those of this channel and those of the others
pub room_left : (p : Row → Bool) (round : ℕ) (channels : List Built) (i : ℕ) (b d : Built) (n : ℕ) →
    i < length channels → b ≡ get_or channels i d → n + length (flat_map (rows_on round) (drop i channels)) < 2 ^ 64 →
    (n + length (rows_on round b) < 2 ^ 64)
    × ((m : ℕ) → m ≡ n + count_by p (rows_on round b) → m + length (flat_map (rows_on round) (drop (i + 1) channels)) < 2 ^ 64)
room_left p round channels i b d n within is room =
    let rest : List Row = flat_map (rows_on round) (drop (i + 1) channels) in
    let left : length (flat_map (rows_on round) (drop i channels)) ≡ length (rows_on round b) + length rest =
    ap length (first_left (rows_on round) channels i b d within is) ∙ length-append (rows_on round b) rest in
    (omega (arith, room, left), λ m more. omega (arith, room, left, more, count_by-le-length p (rows_on round b)))

pub next_all : (P : Built → Type 0) (channels : List Built) (i : ℕ) (b d : Built) → i < length channels →
    b ≡ get_or channels i d → AllByRecursion P (drop i channels) → P b × AllByRecursion P (drop (i + 1) channels)
next_all P channels i b d within is all =
    let both : P (get_or channels i d) × AllByRecursion P (drop (i + 1) channels) = rw (drop_more channels i d within) at all in
    (rw is both.0, both.1)

pub all_next : (P : Built → Type 0) (channels : List Built) (i : ℕ) (b d : Built) → i < length channels →
    b ≡ get_or channels i d → (AllByRecursion P (drop i channels) → AllByRecursion P channels) → P b →
    AllByRecursion P (drop (i + 1) channels) → AllByRecursion P channels
all_next P channels i b d within is so_far one more =
    so_far (rw (drop_more channels i d within) (rw is at one, more))
