-- The rounds and channels of lines: the rule fails where a line is of a place that the run lacks.
use Rattle.std.proofs.Common.{◌≡◌, ◌==◌, ℕ, Bool, true, false, List, [], ◌∷◌, Option, Some, refl, sym, ap, ap₂, ◌∙◌, inl, inr, eq-eqb, eqb-true}
use Rattle.std.specs.Prelude.{◌&&◌}
use Rattle.std.specs.List.{list_any}
use Rattle.std.proofs.lemmas.Bool.{cases_Bool, false≢true, and_parts, or_cases, or_right}
use Rattle.us_flows.specs.declared.channels.Channel.{Channel}
use Rattle.us_output.specs.declared.rows.Row.{Row}
use Rattle.us_output.specs.declared.rows.Row.TheVariants as rows
use Rattle.us_reports.specs.declared.place.Place.{Place}
use Rattle.us_lawful.specs.Runs.{Run, Judged}
use Rattle.us_lawful.specs.Places.{is_told_at, has_place, places_hold}
use Rattle.us_reports.specs.Breaches.{IsFirstBreach, IsFirstFailure, Any}
use Rattle.us_reports.proofs.BreachLemmas.{holds_first, same_places}
use Rattle.us_map_rules.specs.LackedPlaces.{place_told, IsOfLackedPlace}

-- A line.

-- what a line tells
abbrev pub place : ℕ → ℕ → Place
place round channel = record { round = round; channel = channel; third = 0 }

pub same_place : (round channel : ℕ) (p : Place) → ◌≡◌ {A = Option Place} (Some (place round channel)) (Some p) →
    place round channel ≡ p
same_place round channel p same = cc

-- what is told at the round and channel of a line
here : (round channel : ℕ) (p : Place) → place round channel ≡ p →
    (p.third ≡ 0) × (((round == p.round) && (channel == p.channel)) ≡ true)
here round channel p same = (
  sym (ap (λ (q : Place). q.third) same),
  rw (eq-eqb round p.round (ap (λ (q : Place). q.round) same), eq-eqb channel p.channel (ap (λ (q : Place). q.channel) same))
      refl,
)

-- and back
there : (round channel : ℕ) (p : Place) → p.third ≡ 0 → ((round == p.round) && (channel == p.channel)) ≡ true →
    place round channel ≡ p
there round channel p third told =
    let parts = and_parts (round == p.round) (channel == p.channel) told in
    ap₂ place (eqb-true round p.round parts.0) (eqb-true channel p.channel parts.1)
    ∙ ap (λ k. whole p.round p.channel k) (sym third)
  where
    whole : ℕ → ℕ → ℕ → Place
    whole round channel third = record { round = round; channel = channel; third = third }

-- a line is told at its place,
is_told : (line : Row) (p : Place) → place_told line ≡ Some p →
    (p.third ≡ 0) × (is_told_at p.round p.channel line ≡ true)
is_told (rows.Granted g) p told = here g.round g.channel p (same_place g.round g.channel p told)
is_told (rows.Missed m) p told = here m.round m.channel p (same_place m.round m.channel p told)
is_told (rows.Final f) p told = absurd (cc told)
is_told (rows.Activity a) p told = absurd (cc told)
is_told (rows.Counts u) p told = absurd (cc told)

-- and nowhere else
told_there : (line : Row) (p : Place) → p.third ≡ 0 → is_told_at p.round p.channel line ≡ true → place_told line ≡ Some p
told_there (rows.Granted g) p third told = ap (λ q. Some q) (there g.round g.channel p third told)
told_there (rows.Missed m) p third told = ap (λ q. Some q) (there m.round m.channel p third told)
told_there (rows.Final f) p third told = absurd (false≢true told)
told_there (rows.Activity a) p third told = absurd (false≢true told)
told_there (rows.Counts u) p third told = absurd (false≢true told)

-- All lines.

-- what a line that is of a lacked place says of all,
any_told : (run : Run) (lines : List Row) (p : Place) → Any (IsOfLackedPlace run) lines p →
    (p.third ≡ 0) × (has_place run p.round p.channel ≡ false) × (list_any (is_told_at p.round p.channel) lines ≡ true)
any_told run [] p fails = absurd fails
any_told run (line ∷ lines) p fails = elim fails [
  | inl first ↦
      let told = is_told line p first.0 in
      (told.0, first.1, rw told.1 refl)
  | inr later ↦
      let more = any_told run lines p later in
      (more.0, more.1, or_right (is_told_at p.round p.channel line) (list_any (is_told_at p.round p.channel) lines) more.2)
]

-- and back
told_any : (run : Run) (lines : List Row) (p : Place) → p.third ≡ 0 → has_place run p.round p.channel ≡ false →
    list_any (is_told_at p.round p.channel) lines ≡ true → Any (IsOfLackedPlace run) lines p
told_any run [] p third lacks told = absurd (false≢true told)
told_any run (line ∷ lines) p third lacks told =
    elim (or_cases (is_told_at p.round p.channel line) (list_any (is_told_at p.round p.channel) lines) told) [
      | inl first ↦ inl (told_there line p third first, lacks)
      | inr later ↦ inr (told_any run lines p third lacks later)
    ]

-- where a line is of a place that the run lacks, the rule fails,
fails_there : (run : Run) (judged : Judged) (p : Place) → Any (IsOfLackedPlace run) judged.lines p →
    places_hold run judged p ≡ false
fails_there run judged p fails =
    let parts = any_told run judged.lines p fails in
    rw (eq-eqb p.third 0 parts.0, parts.1, parts.2) refl

-- and nowhere else
fails_back : (run : Run) (judged : Judged) (p : Place) → places_hold run judged p ≡ false →
    Any (IsOfLackedPlace run) judged.lines p
fails_back run judged p fails =
    let lines : Bool = list_any (is_told_at p.round p.channel) judged.lines in
    elim (cases_Bool (p.third == 0)) [
      | inl third ↦ elim (cases_Bool (has_place run p.round p.channel)) [
        | inl has ↦ absurd (false≢true (sym fails ∙ rw (third, has) refl))
        | inr lacks ↦ elim (cases_Bool lines) [
          | inl told ↦ told_any run judged.lines p (eqb-true p.third 0 third) lacks told
          | inr none ↦ absurd (false≢true (sym fails ∙ rw (third, lacks, none) refl))
        ]
      ]
      | inr other ↦ absurd (false≢true (sym fails ∙ rw other refl))
    ]

-- so what is answered of lines is answered of the rule
pub lines_first : (channels : List Channel) (run : Run) (judged : Judged) (answer : Option Place) →
    IsFirstFailure channels (Any (IsOfLackedPlace run) judged.lines) answer →
    IsFirstBreach channels (λ p. places_hold run judged p ≡ true) answer
lines_first channels run judged answer first =
    holds_first channels (places_hold run judged) answer
    (same_places channels (Any (IsOfLackedPlace run) judged.lines) (λ p. places_hold run judged p ≡ false) answer
    (fails_there run judged) (fails_back run judged) first)
