-- The marks of a trace tell what its cuts tell.
use Rattle.std.proofs.Common.{◌≡◌, ℕ, zero, suc, ◌+◌, ◌<◌, ◌≤◌, Bool, true, false, if◌then◌else◌, List, [], ◌∷◌, ◌++◌, length, map, take, get_or, Option, Some, refl, sym, ap, ◌∙◌, inl, inr, arith, IsPermutation}
use Rattle.std.specs.Prelude.{nat_lt}
use Rattle.std.specs.List.{range_with_len}
use Rattle.std.proofs.lemmas.Bool.{cases_lt}
use Rattle.std.proofs.lemmas.List.{length-map, take_all, take_more}
use Rattle.std.proofs.lemmas.List.FromFn.{get_or-map-range_with_len, length-map-range_with_len}
use Rattle.std.proofs.lemmas.List.Sorted.{list_any-IsPermutation}
use Rattle.us_flows.specs.Tables.{Tables}
use Rattle.us_flows.specs.Clusters.{words_of}
use Rattle.us_requests.specs.Cuts.{asked, cut_of}
use Rattle.us_requests.specs.Traces.{TraceAsks, asks_in, cuts_in}
use Rattle.us_calendar.specs.declared.silences.Silence.{Silence}
use Rattle.us_calendar.specs.Activity.{activity, hears_of, is_marked}
use Rattle.us_activity.specs.declared.marks.Mark.{Mark}
use Rattle.us_activity.specs.Marks.{active_before, is_mark, says}
use Rattle.us_activity.specs.Activities.{AreMarksOf}
use Rattle.us_activity.specs.Kept.{is_silent, marks_in, silent_words}
use Rattle.us_activity.proofs.MarkLemmas.{never_said, said_inside, said_outside}
use Rattle.us_activity.proofs.SearchLemmas.{none_said}
use Rattle.us_activity.proofs.WordLemmas.{are_noted, not_noted}

-- one round more
activity-more : (silence : Option Silence) (was : Bool) (cuts : List (List ℕ)) (cut : List ℕ) →
    activity silence was (cuts ++ cut ∷ []) ≡ hears_of silence (activity silence was cuts) cut
activity-more silence was [] cut = refl
activity-more silence was (first ∷ cuts) cut = activity-more silence (hears_of silence was first) cuts cut

-- marks say what is asked for by the two words of a flow
record Tells (v : TraceAsks) (marks : List Mark) (word : ℕ) : Type 0 where
  pub inside : (round : ℕ) (active : Bool) → round < v.rounds →
      says marks word round active ≡ nat_lt 0 (asked (asks_in v round) (if active then word + 1 else word))
  pub outside : (round : ℕ) (active : Bool) → v.rounds ≤ round → says marks word round active ≡ false

-- among so many words
module _ (words : ℕ) (v : TraceAsks) (marks : List Mark) (word slots : ℕ) (within : word + 1 < words)
    (tells : Tells v marks word) where
  abbrev cut : ℕ → List ℕ
  cut round = cut_of words (asks_in v round)

  abbrev cuts : List (List ℕ)
  cuts = map cut (range_with_len 0 v.rounds)

  abbrev silence : Option Silence
  silence = Some (record { word = word; slots = slots })

  marked : (round by : ℕ) → by < words →
      is_marked (cut_of words (asks_in v round)) by ≡ nat_lt 0 (asked (asks_in v round) by)
  unfolding cut_of
  marked round by inside =
      ap (nat_lt 0) (get_or-map-range_with_len (asked (asks_in v round)) 0 words by by 0 inside (omega arith))

  cut_at : (round : ℕ) → round < v.rounds → take (round + 1) cuts ≡ take round cuts ++ cut round ∷ []
  cut_at round early =
      take_more cuts round [] (omega (arith, early, length-map-range_with_len cut 0 v.rounds))
      ∙ ap (λ c. take round cuts ++ c ∷ []) (get_or-map-range_with_len cut 0 v.rounds round round [] early (omega arith))

  -- before each round, as the cuts before it tell
  same : (n : ℕ) → active_before marks word n ≡ activity silence true (take n cuts)
  same zero = refl
  same (suc n) = elim (cases_lt n v.rounds) [
    | inl early ↦
        let next : n + 1 ≡ suc n = omega arith in
        rw (tells.inside n true early, tells.inside n false early)
        (ap (λ was. if nat_lt 0 (asked (asks_in v n) (word + 1)) then true
        else if nat_lt 0 (asked (asks_in v n) word) then false else was) (same n)
        ∙ sym (ap (λ k. activity silence true (take k cuts)) (sym next)
        ∙ ap (activity silence true) (cut_at n early)
        ∙ activity-more silence true (take n cuts) (cut n)
        ∙ rw (marked n (word + 1) within, marked n word (omega (arith, within))) refl))
    | inr late ↦
        let long : length cuts ≡ v.rounds = length-map-range_with_len cut 0 v.rounds in
        rw (tells.outside n true late, tells.outside n false late)
        (same n ∙ ap (activity silence true)
        (take_all n cuts (omega (arith, long, late)) ∙ sym (take_all (suc n) cuts (omega (arith, long, late)))))
  ]

pub are_marks : (t : Tables) (v : TraceAsks) (marks : List Mark) → IsPermutation (marks_in (silent_words t) v) marks →
    AreMarksOf t v marks
unfolding cuts_in
are_marks t v marks moved = record {
  told = λ flow silence round at.
      let word : ℕ = silence.word in
      let noted = are_noted t flow word at in
      same (length (words_of t)) v marks word silence.slots noted.within (record {
        inside = λ r active early.
            sym (list_any-IsPermutation (is_mark word r active) (marks_in (silent_words t) v) marks moved)
            ∙ said_inside (silent_words t) word noted.silent_is noted.active_is v r active early;
        outside = λ r active late.
            sym (list_any-IsPermutation (is_mark word r active) (marks_in (silent_words t) v) marks moved)
            ∙ said_outside (silent_words t) word noted.silent_is noted.active_is v r active late;
      }) (round + 1);
  others = λ word round none.
      none_said marks word (round + 1) (λ r active early.
      sym (list_any-IsPermutation (is_mark word r active) (marks_in (silent_words t) v) marks moved)
      ∙ never_said (silent_words t) word (not_noted t word none) v r active);
}

-- where no word marks a flow as silent, there is nothing to tell
pub none_marks : (t : Tables) (v : TraceAsks) →
    ((k : ℕ) (d : Bool) → k < length (silent_words t) → get_or (silent_words t) k d ≡ false) → AreMarksOf t v []
none_marks t v none = record {
  told = λ flow silence round at.
      let word : ℕ = silence.word in
      let noted = are_noted t flow word at in
      let inside : word < length (silent_words t) =
      omega (arith, noted.within, length-map (words_of t) is_silent) in
      let never : true ≡ false = sym noted.silent_is ∙ none word false inside in
      absurd cc;
  others = λ word round none. none_said [] word (round + 1) (λ r active early. refl);
}
