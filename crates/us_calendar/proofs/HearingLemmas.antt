-- Entries hear a round's cut, one after another.
use Rattle.std.proofs.Common.{◌≡◌, ◌≢◌, ℕ, zero, suc, ◌+◌, ◌<◌, ◌≤◌, ◌==◌, Bool, false, option_map, unwrap_or, is_some, List, [], ◌∷◌, length, map, Option, Some, None, slice_get, refl, ap, sym, ◌∙◌, inl, inr, subst, arith}
use Rattle.std.specs.List.{AllByRecursion}
use Rattle.std.proofs.Math.ListN.{set, length-set}
use Rattle.std.proofs.lemmas.List.{length-map}
use Rattle.std.proofs.lemmas.Bool.{cases_lt, cases_eq, cases_Bool}
use Rattle.us_calendar.specs.Activity.{hears_of, is_marked}
use Rattle.us_calendar.specs.Occurrences.{Pace}
use Rattle.us_calendar.specs.Settling.{EntryState, heard}
use Rattle.us_calendar.specs.declared.silences.Silence.{Silence}
use Rattle.us_calendar.specs.Agendas.{Agenda, IsAgenda, next_turn}
use Rattle.us_calendar.specs.Kept.{AreHeard, IsEntryState}
use Rattle.us_calendar.proofs.HeardLemmas.{none_of}
use Rattle.us_calendar.proofs.AgendaLemmas.{within, set_same, set_other, set_known}
use Rattle.us_calendar.proofs.RunLemmas.{the_some}

-- who hears

-- nobody among the states whose places pass
abbrev pub NoneHear : List EntryState → (ℕ → Type 0) → Type 0
NoneHear states passes = (p : ℕ) (state : EntryState) → slice_get states p ≡ Some state → passes p → state.entry.silence ≡ None

pub none_before : (states : List EntryState) (from : ℕ) (state : EntryState) → NoneHear states (λ p. p < from) →
    slice_get states from ≡ Some state → is_some state.entry.silence ≡ false → NoneHear states (λ p. p < from + 1)
none_before states from state before at quiet p other is low = elim (cases_eq p from) [
  | inl here ↦
      let same = the_some state other (sym at ∙ ap (slice_get states) (sym here) ∙ is) in
      subst (λ s. s.entry.silence ≡ None) same (none_of state.entry.silence quiet)
  | inr apart ↦ before p other is (omega (arith, low, apart))
]

pub none_behind : (states : List EntryState) (to : ℕ) (state : EntryState) → NoneHear states (λ p. to + 1 ≤ p) →
    slice_get states to ≡ Some state → is_some state.entry.silence ≡ false → NoneHear states (λ p. to ≤ p)
none_behind states to state behind at quiet p other is low = elim (cases_eq p to) [
  | inl here ↦
      let same = the_some state other (sym at ∙ ap (slice_get states) (sym here) ∙ is) in
      subst (λ s. s.entry.silence ≡ None) same (none_of state.entry.silence quiet)
  | inr apart ↦ behind p other is (omega (arith, low, apart))
]

-- what hearing does: nothing where nobody hears, and nothing more where it is done twice

hears_twice : (silence : Option Silence) (was : Bool) (cut : List ℕ) →
    hears_of silence (hears_of silence was cut) cut ≡ hears_of silence was cut
hears_twice None was cut = refl
hears_twice (Some s) was cut = elim (cases_Bool (is_marked cut (s.word + 1))) [
  | inl active ↦ rw active refl
  | inr other ↦ elim (cases_Bool (is_marked cut s.word)) [
    | inl silent ↦ rw (other, silent) refl
    | inr none ↦ rw (other, none) refl
  ]
]

with_active : EntryState → Bool → EntryState
with_active state active = record {
  entry = state.entry;
  settled = state.settled;
  active = active;
  waiting = state.waiting;
}

heard_none : (cut : List ℕ) (state : EntryState) → state.entry.silence ≡ None → heard cut state ≡ state
unfolding with_active
heard_none cut state none = ap (λ silence. with_active state (hears_of silence state.active cut)) none

heard_twice : (cut : List ℕ) (state : EntryState) → heard cut (heard cut state) ≡ heard cut state
unfolding with_active
heard_twice cut state = ap (with_active state) (hears_twice state.entry.silence state.active cut)

pub heard_known : (cut : List ℕ) (state : EntryState) → IsEntryState state → IsEntryState (heard cut state)
heard_known cut state is = record { entry = is.entry; settled = is.settled; few = is.few; next = is.next }

-- one entry after another

pub record Hearing (cut : List ℕ) (old states : List EntryState) (place to : ℕ) : Type 0 where
  pub same : map (heard cut) states ≡ map (heard cut) old
  pub many : length states ≡ length old
  pub done : (p : ℕ) (state : EntryState) → slice_get states p ≡ Some state → p < place → heard cut state ≡ state
  pub behind : (p : ℕ) (state : EntryState) → slice_get states p ≡ Some state → to ≤ p → heard cut state ≡ state
  pub known : AllByRecursion IsEntryState states

pub hearing_starts : (cut : List ℕ) (states : List EntryState) (from to : ℕ) → AreHeard states from to →
    AllByRecursion IsEntryState states → Hearing cut states states from to
hearing_starts cut states from to are known = record {
  same = refl;
  many = refl;
  done = λ p state is low. heard_none cut state (are.before p state is low);
  behind = λ p state is low. heard_none cut state (are.behind p state is low);
  known = known;
}

same_set : (f : EntryState → EntryState) (states : List EntryState) (p : ℕ) (state : EntryState) → f (f state) ≡ f state →
    slice_get states p ≡ Some state → map f (set states p (f state)) ≡ map f states
same_set f [] p state twice is = refl
same_set f (first ∷ states) zero state twice is =
    ap (λ s. s ∷ map f states) (twice ∙ ap f (sym (the_some first state is)))
same_set f (first ∷ states) (suc p) state twice is =
    ap (λ ss. f first ∷ ss) (same_set f states p state twice is)

pub hearing_step : (cut : List ℕ) (old states : List EntryState) (place to : ℕ) (state now : EntryState) →
    Hearing cut old states place to → slice_get states place ≡ Some state → now ≡ heard cut state → IsEntryState now →
    place < to → Hearing cut old (set states place now) (place + 1) to
hearing_step cut old states place to state now h at now_is is inside =
    record {
      same = ap (λ s. map (heard cut) (set states place s)) now_is ∙
          same_set (heard cut) states place state (heard_twice cut state) at ∙ h.same;
      many = omega (arith, length-set states place now, h.many);
      done = λ p other there low. elim (cases_eq place p) [
        | inl here ↦
            let this = the_some now other (sym (set_same states place now (within states place state at)) ∙
            ap (slice_get (set states place now)) here ∙ there) in
            subst (λ s. heard cut s ≡ s) this
            (subst (λ s. heard cut s ≡ s) (sym now_is) (heard_twice cut state))
        | inr apart ↦
            h.done p other (sym (set_other states place p now apart) ∙ there) (omega (arith, low, apart))
      ];
      behind = λ p other there low.
          let apart : place ≢ p = λ e. omega (arith, e, low, inside) in
          h.behind p other (sym (set_other states place p now apart) ∙ there) low;
      known = set_known states place now h.known is;
    }

all_same : (f : EntryState → EntryState) (states : List EntryState) →
    ((p : ℕ) (state : EntryState) → slice_get states p ≡ Some state → f state ≡ state) → map f states ≡ states
all_same f [] each = refl
all_same f (state ∷ states) each =
    ap (λ s. s ∷ map f states) (each 0 state refl) ∙
    ap (λ ss. state ∷ ss) (all_same f states (λ p other is. each (suc p) other is))

pub hearing_ends : (cut : List ℕ) (old states : List EntryState) (place to : ℕ) → Hearing cut old states place to →
    to ≤ place → states ≡ map (heard cut) old
hearing_ends cut old states place to h past =
    sym (all_same (heard cut) states (λ p state is. elim (cases_lt p place) [
      | inl low ↦ h.done p state is low
      | inr high ↦ h.behind p state is (omega (arith, high, past))
    ])) ∙ h.same

-- Hearing changes nothing of when an entry is due.

turn_heard : (cut : List ℕ) (pace : Pace) (round from at place : ℕ) (states : List EntryState) (p : ℕ) →
    unwrap_or (option_map (λ s. at == next_turn pace round from place s) (slice_get states p)) false ≡
    unwrap_or (option_map (λ s. at == next_turn pace round from place s) (slice_get (map (heard cut) states) p)) false
turn_heard cut pace round from at place [] p = refl
turn_heard cut pace round from at place (first ∷ states) zero = refl
turn_heard cut pace round from at place (first ∷ states) (suc p) = turn_heard cut pace round from at place states p

pub agenda_heard : (cut : List ℕ) (pace : Pace) (round from : ℕ) (states : List EntryState) (agenda : Agenda) →
    IsAgenda pace round from states agenda → IsAgenda pace round from (map (heard cut) states) agenda
agenda_heard cut pace round from states agenda is = record {
  now = is.now;
  few = omega (arith, is.few, length-map states (heard cut));
  noted = λ at place low. is.noted at place low ∙ turn_heard cut pace round from at place states place;
}
