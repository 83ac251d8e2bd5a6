-- What MAPs say of themselves: which MAP of a run stands where, and the first that isn't that of the run.
use Rattle.std.proofs.Common.{◌≡◌, ◌==◌, ℕ, zero, suc, ◌+◌, ◌*◌, ◌/◌, ◌%◌, ◌<◌, ◌≤◌, Bool, true, false, List, [], ◌∷◌, ◌++◌, length, map, get_or, Option, Some, None, Ok, IsTrue, ◌↔◌, refl, sym, subst, ap, ap₂, ◌∙◌, arith, eq-eqb, ltb-true, zero-add, inl, inr}
use Rattle.std.specs.Prelude.{slice_get, flat_map, option_map}
use Rattle.std.specs.List.{range_with_len}
use Rattle.std.proofs.Math.Nat.{mod-lt, mul-le-mul_right}
use Rattle.std.proofs.lemmas.Bool.{cases_Bool, cases_lt, false≢true}
use Rattle.std.proofs.lemmas.Nat.{div-add-mod'}
use Rattle.std.proofs.lemmas.List.{length-append, length-map, map-append}
use Rattle.std.proofs.lemmas.Option.{slice_get_past, slice_get-map, slice_get-get_or}
use Rattle.us_codec.specs.MapsFiles.{record_bytes}
use Rattle.us_flows.specs.declared.channels.Channel.{Channel}
use Rattle.us_reports.specs.declared.place.Place.{Place}
use Rattle.us_lawful.specs.Lawful.{IsRoundMap}
use Rattle.us_lawful.specs.Texts.{record_of}
use Rattle.us_lawful.specs.Runs.{Run, RoundMap, Judged}
use Rattle.us_lawful.specs.Headings.{Heading, heading_told, heading_of, headings_of, HeadingsHold}
use Rattle.us_reports.specs.Order.{goes_before}
use Rattle.us_reports.specs.Breaches.{IsFirstBreach}
use Rattle.us_map_rules.specs.MapsReading.{Answers}
use Rattle.us_map_rules.specs.Headings.{IsOtherWith}
use Rattle.us_map_rules.proofs.MapsLemmas.{Read, read_all, read_more, read_nothing}

-- Lists, one behind another.

-- an item of the first of two lists,
get_front : {X : Type 0} (xs ys : List X) (n : ℕ) → n < length xs → slice_get (xs ++ ys) n ≡ slice_get xs n
get_front [] ys n inside = absurd (omega arith)
get_front (x ∷ xs) ys zero inside = refl
get_front (x ∷ xs) ys (suc n) inside = get_front xs ys n (omega arith)

-- and of the second
get_back : {X : Type 0} (xs ys : List X) (m n : ℕ) → m ≡ length xs + n → slice_get (xs ++ ys) m ≡ slice_get ys n
get_back [] ys m n is = ap (slice_get ys) (is ∙ omega arith)
get_back (x ∷ xs) ys zero n is = absurd (omega arith)
get_back (x ∷ xs) ys (suc m) n is = get_back xs ys m n (omega arith)

-- item `x` of list number `q`, of lists of one length
get_part : {X : Type 0} (part : ℕ → List X) (k from count n q x : ℕ) → ((i : ℕ) → length (part i) ≡ k) →
    q < count → x < k → n ≡ q * k + x →
    slice_get (flat_map part (range_with_len from count)) n ≡ slice_get (part (from + q)) x
get_part part k from zero n q x long below inside is = absurd (omega arith)
get_part part k from (suc count) n zero x long below inside is =
    get_front (part from) (flat_map part (range_with_len (from + 1) count)) n (omega (arith, long from, is, inside))
    ∙ ap₂ (λ i j. slice_get (part i) j) (omega arith) (omega (arith, is))
get_part part k from (suc count) n (suc q) x long below inside is =
    get_back (part from) (flat_map part (range_with_len (from + 1) count)) n (q * k + x) (omega (arith, long from, is))
    ∙ get_part part k (from + 1) count (q * k + x) q x long (omega arith) inside refl
    ∙ ap (λ i. slice_get (part i) x) (omega arith)

-- and how many items these have
length_parts : {X : Type 0} (part : ℕ → List X) (k from count : ℕ) → ((i : ℕ) → length (part i) ≡ k) →
    length (flat_map part (range_with_len from count)) ≡ count * k
length_parts part k from zero long = omega arith
length_parts part k from (suc count) long =
    omega (
      arith,
      long from,
      length_parts part k (from + 1) count long,
      length-append (part from) (flat_map part (range_with_len (from + 1) count)),
    )

-- The MAPs of a run.

-- those of a round
abbrev part_of : Run → ℕ → List Heading
part_of run round = map (heading_of run.tables round) run.tables.channels

one_length : (run : Run) (round : ℕ) → length (part_of run round) ≡ length run.tables.channels
one_length run round = length-map run.tables.channels (heading_of run.tables round)

-- there are as many as rounds and channels make
length_headings : (run : Run) → length (headings_of run) ≡ run.rounds * length run.tables.channels
length_headings run = length_parts (part_of run) (length run.tables.channels) 0 run.rounds (one_length run)

-- the one of a number is of this round and channel,
heading_at : (run : Run) (n : ℕ) (d : Channel) → 0 < length run.tables.channels →
    n / length run.tables.channels < run.rounds →
    slice_get (headings_of run) n ≡
    Some (heading_of run.tables (n / length run.tables.channels)
    (get_or run.tables.channels (n % length run.tables.channels) d))
heading_at run n d some below =
    let k : ℕ = length run.tables.channels in
    let inside : n % k < k = mod-lt n some in
    get_part (part_of run) k 0 run.rounds n (n / k) (n % k) (one_length run) below inside (sym (div-add-mod' n k))
    ∙ ap (λ round. slice_get (part_of run round) (n % k)) (zero-add (n / k))
    ∙ slice_get-map (heading_of run.tables (n / k)) run.tables.channels (n % k)
    ∙ ap (option_map (heading_of run.tables (n / k))) (slice_get-get_or run.tables.channels (n % k) d inside)

-- and from the last round on there is none
no_heading : (run : Run) (n : ℕ) → run.rounds ≤ n / length run.tables.channels → slice_get (headings_of run) n ≡ None
no_heading run n past =
    let k : ℕ = length run.tables.channels in
    slice_get_past (headings_of run) n
    (omega (arith, length_headings run, mul-le-mul_right k past, div-add-mod' n k))

-- one item is in an answer
some_is : (a b : Heading) → ◌≡◌ {A = Option Heading} (Some a) (Some b) → a ≡ b
some_is a b same = cc

-- so a MAP is that of a number where it is that of the number's round and channel,
pub told_there : (run : Run) (channels : List Channel) (n : ℕ) (channel : Channel) (said : Heading) (answer : Bool) →
    channels ≡ run.tables.channels → 0 < length run.tables.channels → n / length channels < run.rounds →
    channel ≡ get_or channels (n % length channels) channel →
    IsTrue answer ↔ (said ≡ heading_of run.tables (n / length channels) channel) →
    IsTrue answer ↔ (slice_get (headings_of run) n ≡ Some said)
told_there run channels n channel said answer same some below is decides =
    let k : ℕ = length run.tables.channels in
    let number : n / length channels ≡ n / k = ap (λ (cs : List Channel). n / length cs) same in
    let of : channel ≡ get_or run.tables.channels (n % k) channel =
    subst (λ (cs : List Channel). channel ≡ get_or cs (n % length cs) channel) same is in
    let must : slice_get (headings_of run) n ≡ Some (heading_of run.tables (n / length channels) channel) =
    heading_at run n channel some (rw number at below)
    ∙ ap₂ (λ round c. Some (heading_of run.tables round c)) (sym number) (sym of) in (
      λ yes. must ∙ ap Some (sym (decides.0 yes)),
      λ told. decides.1 (some_is said (heading_of run.tables (n / length channels) channel) (sym told ∙ must)),
    )

-- and from the last round on it is that of none
pub told_nowhere : (run : Run) (channels : List Channel) (n : ℕ) (said : Heading) (answer : Bool) →
    channels ≡ run.tables.channels → run.rounds ≤ n / length channels → answer ≡ false →
    IsTrue answer ↔ (slice_get (headings_of run) n ≡ Some said)
told_nowhere run channels n said answer same past says_none =
    let none = no_heading run n (rw same at past) in
    (λ yes. absurd (false≢true (sym says_none ∙ yes)), λ told. absurd (cc (told, none)))

-- The first that isn't that of the run.

-- each MAP before this number says what it must
abbrev AgreeTo : Run → List RoundMap → ℕ → Type 0
AgreeTo run maps n = (i : ℕ) → i < n → slice_get (map heading_told maps) i ≡ slice_get (headings_of run) i

-- all of these do; or this is the first that doesn't
abbrev IsFirstOther : Run → List RoundMap → Option ℕ → Type 0
IsFirstOther run maps None = AgreeTo run maps (length maps)
IsFirstOther run maps (Some n) =
    (n < length maps) × AgreeTo run maps n
    × (slice_get (map heading_told maps) n ≡ slice_get (headings_of run) n → ⊥)

-- with one MAP more
told_front : (maps : List RoundMap) (m : RoundMap) (i : ℕ) → i < length maps →
    slice_get (map heading_told (maps ++ m ∷ [])) i ≡ slice_get (map heading_told maps) i
told_front maps m i inside =
    ap (λ hs. slice_get hs i) (map-append heading_told maps (m ∷ []))
    ∙ get_front (map heading_told maps) (heading_told m ∷ []) i (omega (arith, length-map maps heading_told, inside))

told_last : (maps : List RoundMap) (m : RoundMap) →
    slice_get (map heading_told (maps ++ m ∷ [])) (length maps) ≡ Some (heading_told m)
told_last maps m =
    ap (λ hs. slice_get hs (length maps)) (map-append heading_told maps (m ∷ []))
    ∙ get_back (map heading_told maps) (heading_told m ∷ []) (length maps) 0 (omega (arith, length-map maps heading_told))

agree_on : (run : Run) (maps : List RoundMap) (m : RoundMap) (n : ℕ) → n ≤ length maps → AgreeTo run maps n →
    AgreeTo run (maps ++ m ∷ []) n
agree_on run maps m n within agree i less = told_front maps m i (omega (arith, less, within)) ∙ agree i less

other_next : (run : Run) (maps : List RoundMap) (m : RoundMap) (known next : Option ℕ) →
    IsOtherWith run (length maps) (heading_told m) known next → IsFirstOther run maps known → IsFirstOther run (maps ++ m ∷ []) next
other_next run maps m (Some n) next same before =
    subst (IsFirstOther run (maps ++ m ∷ [])) (sym same) (
      omega (arith, before.0, length-append maps (m ∷ [])),
      agree_on run maps m n (omega (arith, before.0)) before.1,
      λ is. before.2 (sym (told_front maps m n before.0) ∙ is),
    )
other_next run maps m None None is before = λ i less. elim (cases_lt i (length maps)) [
  | inl early ↦ told_front maps m i early ∙ before i early
  | inr late ↦
      let last : i ≡ length maps = omega (arith, less, late, length-append maps (m ∷ [])) in
      ap (slice_get (map heading_told (maps ++ m ∷ []))) last ∙ told_last maps m ∙ sym is
      ∙ ap (slice_get (headings_of run)) (sym last)
]
other_next run maps m None (Some n) is before = subst (λ n. IsFirstOther run (maps ++ m ∷ []) (Some n)) (sym is.0) (
  omega (arith, length-append maps (m ∷ [])),
  agree_on run maps m (length maps) (omega arith) before,
  λ same. is.1 (sym same ∙ told_last maps m),
)

-- The walk over the records of a file: these are done, and this is left.
pub record Walked (run : Run) (bytes rest : List ℕ) (number : ℕ) (other : Option ℕ) : Type 0 where
  pub done : List RoundMap
  pub read : Read bytes done rest
  pub count : length done ≡ number
  pub judged : IsFirstOther run done other

pub walked_nothing : (run : Run) (bytes : List ℕ) → Walked run bytes bytes 0 None
walked_nothing run bytes = record {
  done = [];
  read = read_nothing bytes;
  count = refl;
  judged = λ i less. absurd (omega (arith, less));
}

pub walked_on : (run : Run) (bytes rest behind : List ℕ) (number : ℕ) (m : RoundMap) (known next : Option ℕ) →
    IsRoundMap m → rest ≡ record_bytes (record_of m) ++ behind → IsOtherWith run number (heading_told m) known next →
    Walked run bytes rest number known → Walked run bytes behind (number + 1) next
walked_on run bytes rest behind number m known next is begins with walked = record {
  done = walked.done ++ m ∷ [];
  read = read_more bytes rest behind walked.done m walked.read is begins;
  count = omega (arith, length-append walked.done (m ∷ []), walked.count);
  judged = other_next run walked.done m known next
      (subst (λ n. IsOtherWith run n (heading_told m) known next) (sym walked.count) with) walked.judged;
}

-- The first breach.

-- the place of a MAP
abbrev record_at : ℕ → Place
record_at n = record { round = 0; channel = 0; third = n }

-- a place before that of a number is of another channel, or of a smaller number
below : (channels : List Channel) (p : Place) (n : ℕ) → goes_before channels p (record_at n) ≡ true → p.channel ≡ 0 →
    p.third < n
below channels p n before channel = elim (cases_Bool (p.round == 0)) [
  | inl first ↦ ltb-true p.third n (rw (first, eq-eqb p.channel 0 channel) at before)
  | inr later ↦ absurd (omega (arith, ltb-true p.round 0 (rw later at before)))
]

first_other : (run : Run) (judged : Judged) (n : ℕ) → AgreeTo run judged.maps n →
    (slice_get (map heading_told judged.maps) n ≡ slice_get (headings_of run) n → ⊥) →
    IsFirstBreach run.tables.channels (HeadingsHold run judged) (Some (record_at n))
first_other run judged n agree other =
    (λ holds. other (holds refl refl), λ p before _ channel. agree p.third (below run.tables.channels p n before channel))

all_agree : (run : Run) (judged : Judged) → AgreeTo run judged.maps (length judged.maps) →
    length (headings_of run) ≤ length judged.maps → IsFirstBreach run.tables.channels (HeadingsHold run judged) None
all_agree run judged agree few = λ p _ _. elim (cases_lt p.third (length judged.maps)) [
  | inl inside ↦ agree p.third inside
  | inr past ↦
      slice_get_past (map heading_told judged.maps) p.third (omega (arith, length-map judged.maps heading_told, past))
      ∙ sym (slice_get_past (headings_of run) p.third (omega (arith, few, past)))
]

-- a list has its items
get_within : {X : Type 0} (xs : List X) (n : ℕ) → n < length xs → slice_get xs n ≡ None → ⊥
get_within [] n inside none = omega arith
get_within (x ∷ xs) zero inside none = cc
get_within (x ∷ xs) (suc n) inside none = get_within xs n (omega arith) none

-- where all MAPs agree and there are too few of them, the first that is missing is that
first_missing : (run : Run) (judged : Judged) → AgreeTo run judged.maps (length judged.maps) →
    length judged.maps < length (headings_of run) →
    IsFirstBreach run.tables.channels (HeadingsHold run judged) (Some (record_at (length judged.maps)))
first_missing run judged agree few =
    let m : ℕ = length judged.maps in
    let none : slice_get (map heading_told judged.maps) m ≡ None =
    slice_get_past (map heading_told judged.maps) m (omega (arith, length-map judged.maps heading_told)) in
    first_other run judged m agree (λ same. get_within (headings_of run) m few (sym same ∙ none))

-- What is answered where nothing is left.

module _ (run : Run) (bytes rest : List ℕ) (over : length rest ≤ 0) (number : ℕ) where
  pub answer_missing : number < run.rounds * length run.tables.channels → Walked run bytes rest number None →
      Answers run bytes (Ok (Some (record_at number)))
  answer_missing few walked = (
    walked.done,
    read_all bytes rest walked.done over walked.read,
    λ lines. subst (λ n. IsFirstBreach run.tables.channels
        (HeadingsHold run (record { maps = walked.done; lines = lines })) (Some (record_at n))) walked.count
        (first_missing run (record { maps = walked.done; lines = lines }) walked.judged
        (omega (arith, few, walked.count, length_headings run))),
  )

  pub answer_none : run.rounds * length run.tables.channels ≤ number → Walked run bytes rest number None →
      Answers run bytes (Ok None)
  answer_none enough walked = (
    walked.done,
    read_all bytes rest walked.done over walked.read,
    λ lines. all_agree run (record { maps = walked.done; lines = lines }) walked.judged
        (omega (arith, enough, walked.count, length_headings run)),
  )
