-- The entries of all channels: which of them a word and an id call, that their keys differ, and when their flows are active.
use Rattle.std.proofs.Common.{◌≡◌, ℕ, ◌+◌, ◌<◌, ◌==◌, nat_lt, ◌&&◌, ◌||◌, Bool, true, false, List, [], ◌∷◌, ◌++◌, length, map, flat_map, get_or, drop, append_assoc, add-one, drop-cons, Option, Some, None, Contains, refl, ap, ap₂, sym, subst, ◌∙◌, inl, inr, arith, eq-eqb, eqb-true, take, zero, suc}
use Rattle.std.specs.List.{AllByRecursion, IsDistinct}
use Rattle.std.specs.Prelude.{if◌then◌else◌}
use Rattle.std.proofs.lemmas.Bool.{and_from, and_parts, cases_Bool, cases_lt, false_from_ne_true, false≢true}
use Rattle.std.proofs.lemmas.Bool.Decides.{nat_tests}
use Rattle.std.proofs.lemmas.List.{get_or_default}
use Rattle.std.proofs.lemmas.List.Concat.{flat_map-cons}
use Rattle.std.proofs.lemmas.List.Elements.{All-contains, All-from_recursion}
use Rattle.std.proofs.lemmas.Map.Keys.{apart_from_distinct}
use Rattle.us_flows.specs.Lawful.{AreApart, AreTables, IsChannel}
use Rattle.us_flows.specs.Tables.{Tables}
use Rattle.us_flows.specs.declared.channels.Channel.{Channel}
use Rattle.us_requests.specs.Traces.{TraceAsks, cuts_in}
use Rattle.us_calendar.proofs.EntryLaws.{entries_are_apart, entries_are_lawful, entries_have_words}
use Rattle.us_calendar.proofs.OnceLaws.{IsOrdered}
use Rattle.us_calendar.proofs.SortedLemmas.{entries_ordered}
use Rattle.us_calendar.specs.Activity.{active_in, activity}
use Rattle.us_calendar.specs.Entries.{Entry, IsEntry, entries, goes_before, rank_of}
use Rattle.us_calendar.specs.Laws.{IsLawfulEntry}
use Rattle.us_calendar.specs.declared.kinds.Kind.{Kind}
use Rattle.us_calendar.specs.declared.kinds.Kind.TheVariants as kinds
use Rattle.us_calendar.specs.declared.silences.Silence.{Silence}
use Rattle.us_activity.specs.Activities.{AreMarksOf}
use Rattle.us_activity.specs.Marks.{Marks, is_active}
use Rattle.us_output.proofs.PartLemmas.{all_append, all_contained, all_flat, all_mapped}
use Rattle.us_output.specs.Outputs.{entry_word}
use Rattle.us_output.specs.declared.rows.EntryWord.{EntryWord}
use Rattle.us_output.specs.declared.rows.EntryWord.TheVariants as words
use Rattle.us_lawful.proofs.NameLemmas.{no_request, same_kind, word_is}
use Rattle.us_lawful.specs.CalendarLines.{ChannelEntry, channel_entries, is_word}
use Rattle.us_map_rules.specs.Listed.{AreListed, HasKey, is_called, key_of}

-- Entries of a list.

abbrev on : Channel → Entry → ChannelEntry
on c e = record { channel = c; entry = e }

-- the entries of one channel more, put behind those before them
pub channels_more : {X Y : Type 0} (f : X → List Y) (xs : List X) (i : ℕ) (x : X) (old new all : List Y) →
    i < length xs → x ≡ get_or xs i x → new ≡ old ++ f x → old ++ flat_map f (drop i xs) ≡ all →
    new ++ flat_map f (drop (i + 1) xs) ≡ all
channels_more f xs i x old new all inside is more before =
    ap (λ ys. ys ++ flat_map f (drop (i + 1) xs)) more
    ∙ append_assoc old (f x) (flat_map f (drop (i + 1) xs))
    ∙ ap (λ rest. old ++ rest) (
    ap (λ y. f y ++ flat_map f (drop (i + 1) xs)) is
    ∙ ap (λ n. f (get_or xs i x) ++ flat_map f (drop n xs)) (add-one i)
    ∙ ap (flat_map f) (sym (drop-cons xs i x inside)))
    ∙ before

-- each of all entries is one of its channel
record IsOn (t : Tables) (l : ChannelEntry) : Type 0 where
  channel : Contains t.channels l.channel
  entry : Contains (entries t l.channel) l.entry

all_on : (t : Tables) → AllByRecursion (IsOn t) (channel_entries t)
all_on t =
    all_flat (IsOn t) (λ c. map (on c) (entries t c)) t.channels
    (all_contained (λ c. AllByRecursion (IsOn t) (map (on c) (entries t c))) t.channels
    (λ c has. all_mapped (IsOn t) (on c) (entries t c)
    (all_contained (λ e. IsOn t (on c e)) (entries t c) (λ e among. record { channel = has; entry = among }))))

on_channel : (t : Tables) (l : ChannelEntry) → Contains (channel_entries t) l → IsOn t l
on_channel t l has =
    All-contains (IsOn t) (channel_entries t) l (All-from_recursion (IsOn t) (channel_entries t) (all_on t)) has

-- that is lawful
pub channel_of : (t : Tables) (l : ChannelEntry) → AreTables t → Contains (channel_entries t) l → IsChannel t l.channel
channel_of t l tables has =
    All-contains (IsChannel t) t.channels l.channel
    (All-from_recursion (IsChannel t) t.channels tables.channels) (on_channel t l has).channel

module _ (t : Tables) (es : List ChannelEntry) (listed : AreListed t es) where
  -- what is listed is one of them,
  pub listed_among : (l : ChannelEntry) → Contains es l → Contains (channel_entries t) l
  listed_among l has = subst (λ xs. Contains xs l) listed.all has

  is_on : (l : ChannelEntry) → Contains es l → IsOn t l
  is_on l has = on_channel t l (listed_among l has)

  -- its entry is lawful,
  pub entry_lawful : (l : ChannelEntry) → Contains es l → IsEntry l.entry
  entry_lawful l has =
      (All-contains (IsLawfulEntry t l.channel) (entries t l.channel) l.entry
      (All-from_recursion (IsLawfulEntry t l.channel) (entries t l.channel)
      (entries_are_lawful t listed.tables l.channel (is_on l has).channel))
      (is_on l has).entry).entry

  -- and it is the one of its kind and id
  pub one_listed : (l m : ChannelEntry) → Contains es l → Contains es m → l.entry.kind ≡ m.entry.kind →
      l.entry.id ≡ m.entry.id → l ≡ m
  one_listed l m has_l has_m same ids =
      let first = is_on l has_l in
      let second = is_on m has_m in
      let both = entries_are_apart t listed.tables l.channel m.channel first.channel second.channel l.entry m.entry
      first.entry second.entry same ids in
      ap₂ on both.0 both.1

-- Names.

same_as : (kind a b : Kind) → is_word a (entry_word kind) ≡ true → is_word b (entry_word kind) ≡ true → a ≡ b
same_as kind a b one other =
    same_kind a b (sym (eqb-true (rank_of kind) (rank_of a) (sym (word_is a kind) ∙ one))
    ∙ eqb-true (rank_of kind) (rank_of b) (sym (word_is b kind) ∙ other))

same_word : (word : EntryWord) (a b : Kind) → is_word a word ≡ true → is_word b word ≡ true → a ≡ b
same_word words.Unsolicited = same_as kinds.Unsolicited
same_word words.Activity = same_as kinds.Activity
same_word words.RealTimePoll = same_as kinds.RealTimePoll
same_word words.NonRealTimePoll = same_as kinds.NonRealTimePoll
same_word words.Station = same_as kinds.Station
same_word words.Requested = λ a b one other. absurd (false≢true (sym (no_request a) ∙ one))

-- what is called by a word and an id is of one kind
pub same_called : (word : EntryWord) (id : ℕ) (l m : ChannelEntry) → is_called word id l ≡ true →
    is_called word id m ≡ true → (l.entry.kind ≡ m.entry.kind) × (l.entry.id ≡ m.entry.id)
same_called word id l m one other =
    let first = and_parts (is_word l.entry.kind word) (id == l.entry.id) one in
    let second = and_parts (is_word m.entry.kind word) (id == m.entry.id) other in (
      same_word word l.entry.kind m.entry.kind first.0 second.0,
      sym (eqb-true id l.entry.id first.1) ∙ eqb-true id m.entry.id second.1,
    )

-- Places.

pub room_more : (places : List (Option ℕ)) (key : ℕ) → get_or (places ++ None ∷ []) key None ≡ get_or places key None
room_more [] zero = refl
room_more [] (suc key) = refl
room_more (place ∷ places) zero = refl
room_more (place ∷ places) (suc key) = room_more places key

-- of one entry more the key has its place, and other keys keep theirs
module _ (es : List ChannelEntry) (i : ℕ) (l : ChannelEntry) (inside : i < length es) (is : l ≡ get_or es i l) (key : ℕ) where
  last : (d : ChannelEntry) → (key_of (get_or es i d).entry == key) ≡ (key_of l.entry == key)
  last d = ap (λ m. key_of m.entry == key) (get_or_default es i d l inside ∙ sym is)

  kept : (key_of l.entry == key) ≡ false → (place : Option ℕ) → HasKey key es i place → HasKey key es (i + 1) place
  kept other None none = λ k d low. elim (cases_lt k i) [
    | inl before ↦ none k d before
    | inr from ↦
        let same : k ≡ i = omega (arith, low, from) in
        ap (λ k. key_of (get_or es k d).entry == key) same ∙ last d ∙ other
  ]
  kept other (Some place) has = (omega (arith, has.0), has.1)

  pub key_more : (place : Option ℕ) → HasKey key es i place →
      HasKey key es (i + 1) (if key_of l.entry == key then Some i else place)
  key_more place has = elim (cases_Bool (key_of l.entry == key)) [
    | inl here ↦
        subst (λ b. HasKey key es (i + 1) (if b then Some i else place)) (sym here) (omega arith, λ d. last d ∙ here)
    | inr other ↦
        subst (λ b. HasKey key es (i + 1) (if b then Some i else place)) (sym other) (kept other place has)
  ]

-- No two are of one kind and id: the entries of a channel are in order, and each channel has entries of its own.

abbrev same_named : ChannelEntry → ChannelEntry → Bool
same_named l m = (rank_of l.entry.kind == rank_of m.entry.kind) && (l.entry.id == m.entry.id)

before_apart : (r s i j : ℕ) → (nat_lt r s || ((r == s) && nat_lt i j)) ≡ true → ((r == s) && (i == j)) ≡ false
before_apart r s i j before = grind (arith, nat_tests)

-- those of a channel,
own_apart : (c : Channel) (es : List Entry) → IsOrdered es → IsDistinct same_named (map (on c) es)
unfolding IsDistinct
own_apart c [] order = tt
own_apart c (e ∷ es) order = (heads es order.0, own_apart c es order.1)
  where
    heads : (fs : List Entry) → AllByRecursion (λ f. goes_before e f ≡ true) fs →
        AllByRecursion (λ l. same_named (on c e) l ≡ false) (map (on c) fs)
    heads [] before = tt
    heads (f ∷ fs) before = (before_apart (rank_of e.kind) (rank_of f.kind) e.id f.id before.0, heads fs before.1)

-- and of two lists between which none is the same
joined_apart : (xs ys : List ChannelEntry) → IsDistinct same_named xs → IsDistinct same_named ys →
    AllByRecursion (λ x. AllByRecursion (λ y. same_named x y ≡ false) ys) xs → IsDistinct same_named (xs ++ ys)
unfolding IsDistinct
joined_apart [] ys own others cross = others
joined_apart (x ∷ xs) ys own others cross = (
  all_append (λ y. same_named x y ≡ false) xs ys own.0 cross.0,
  joined_apart xs ys own.1 others cross.1,
)

module _ (t : Tables) (tables : AreTables t) where
  abbrev of : Channel → List ChannelEntry
  of c = map (on c) (entries t c)

  strangers : (c d : Channel) → Contains t.channels c → Contains t.channels d → (c.id ≡ d.id → ⊥) → (e f : Entry) →
      Contains (entries t c) e → Contains (entries t d) f → same_named (on c e) (on d f) ≡ false
  strangers c d has_c has_d apart e f has_e has_f = false_from_ne_true (same_named (on c e) (on d f)) (λ same.
      let parts = and_parts (rank_of e.kind == rank_of f.kind) (e.id == f.id) same in
      apart (ap (λ c. c.id) (entries_are_apart t tables c d has_c has_d e f has_e has_f
      (same_kind e.kind f.kind (eqb-true (rank_of e.kind) (rank_of f.kind) parts.0)) (eqb-true e.id f.id parts.1)).0))

  all_of : (cs : List Channel) → AllByRecursion (Contains t.channels) cs → AreApart (map (λ c. c.id) cs) →
      IsDistinct same_named (flat_map of cs)
  unfolding IsDistinct
  all_of [] among apart = tt
  all_of (c ∷ cs) among apart =
      rw (flat_map-cons of c cs) (joined_apart (of c) (flat_map of cs) (own_apart c (entries t c) (entries_ordered t c tables))
      (all_of cs among.1 apart.1)
      (all_mapped (λ l. AllByRecursion (λ m. same_named l m ≡ false) (flat_map of cs)) (on c) (entries t c)
      (all_contained _ (entries t c) (λ e has_e.
      all_flat (λ m. same_named (on c e) m ≡ false) of cs (others cs among.1 apart.0 e has_e)))))
    where
      others : (ds : List Channel) → AllByRecursion (Contains t.channels) ds →
          AllByRecursion (λ id. c.id ≡ id → ⊥) (map (λ c. c.id) ds) → (e : Entry) → Contains (entries t c) e →
          AllByRecursion (λ d. AllByRecursion (λ m. same_named (on c e) m ≡ false) (of d)) ds
      others [] has ids e has_e = tt
      others (d ∷ ds) has ids e has_e = (
        all_mapped (λ m. same_named (on c e) m ≡ false) (on d) (entries t d)
            (all_contained _ (entries t d) (λ f has_f. strangers c d among.0 has.0 ids.0 e f has_e has_f)),
        others ds has.1 ids.1 e has_e,
      )

  entries_differ : IsDistinct same_named (channel_entries t)
  entries_differ =
      all_of t.channels (all_contained (Contains t.channels) t.channels (λ c has. has)) tables.channels_apart

-- so one place alone is called by a word and an id
pub called_once : (t : Tables) (es : List ChannelEntry) (word : EntryWord) (id i j : ℕ) (d : ChannelEntry) →
    AreListed t es → i < length es → j < length es → is_called word id (get_or es i d) ≡ true →
    is_called word id (get_or es j d) ≡ true → i ≡ j
called_once t es word id i j d listed in_i in_j one other = elim (cases_lt i j) [
  | inl low ↦ absurd (clash i j low in_j one other)
  | inr from ↦ elim (cases_lt j i) [
    | inl low ↦ absurd (clash j i low in_i other one)
    | inr to ↦ omega (arith, from, to)
  ]
]
  where
    clash : (i j : ℕ) → i < j → j < length es → is_called word id (get_or es i d) ≡ true →
        is_called word id (get_or es j d) ≡ true → ⊥
    clash i j low inside one other =
        let l : ChannelEntry = get_or es i d in
        let m : ChannelEntry = get_or es j d in
        let same = same_called word id l m one other in
        let apart = apart_from_distinct same_named es i j d
        (subst (IsDistinct same_named) (sym listed.all) (entries_differ t listed.tables)) low inside in
        false≢true (sym apart ∙ and_from (rank_of l.entry.kind == rank_of m.entry.kind) (l.entry.id == m.entry.id)
        (eq-eqb (rank_of l.entry.kind) (rank_of m.entry.kind) (ap rank_of same.0)) (eq-eqb l.entry.id m.entry.id same.1))

-- Activity.

-- A flow whose activity is detected is active in a round as the marks tell,
pub speaks_as_told : (t : Tables) (v : TraceAsks) (marks : Marks) (l : ChannelEntry) (s : Silence) (round : ℕ) →
    AreTables t → AreMarksOf t v marks → Contains (channel_entries t) l → l.entry.silence ≡ Some s →
    is_active marks s.word round ≡ active_in l.entry.silence (cuts_in t v) round
speaks_as_told t v marks l s round tables told has is =
    let on = on_channel t l has in
    let words = entries_have_words t tables l.channel l.entry s on.entry is in
    told.told words.0 s round words.2
    ∙ ap (λ silence. active_in silence (cuts_in t v) round) (sym is)

stays : (cuts : List (List ℕ)) (was : Bool) → activity None was cuts ≡ was
stays [] was = refl
stays (cut ∷ cuts) was = stays cuts was

-- and another one always is
pub speaks_always : (cuts : List (List ℕ)) (silence : Option Silence) (round : ℕ) → silence ≡ None →
    true ≡ active_in silence cuts round
speaks_always cuts silence round none =
    sym (ap (λ s. active_in s cuts round) none ∙ stays (take (round + 1) cuts) true)
