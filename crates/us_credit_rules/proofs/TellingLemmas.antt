-- What lines tell of things: one line more, and where just one tells what it should.
use Rattle.std.proofs.Common.{◌≡◌, ℕ, suc, ◌<◌, ◌==◌, Bool, true, false, List, [], ◌∷◌, ◌++◌, length, get_or, set, replicate, cond, Option, Some, None, refl, sym, ap, ap₂, ◌∙◌, inl, inr, arith, eq-eqb, ne_eqb}
use Rattle.std.specs.Prelude.{◌&&◌, ◌||◌, filter, count_by}
use Rattle.std.specs.List.{list_any}
use Rattle.std.specs.Option.{is_some}
use Rattle.std.proofs.lemmas.Bool.{cases_Bool, cases_eq}
use Rattle.std.proofs.lemmas.List.{append-nil, get_or-set_same, get_or-set_other, get_or-replicate, length-replicate, length-set}
use Rattle.std.proofs.lemmas.List.Elements.{filter-append}
use Rattle.std.proofs.lemmas.List.Sums.{length-filter}
use Rattle.us_flows.specs.declared.channels.Channel.{Channel}
use Rattle.us_reports.specs.Order.{earlier}
use Rattle.us_reports.specs.Breaches.{At}
use Rattle.us_reports.proofs.BreachLemmas.{at_test, one_behind}
use Rattle.us_credit_rules.specs.declared.told.Told.{Told}
use Rattle.us_credit_rules.specs.declared.told.Told.TheVariants.{Nothing}
use Rattle.us_credit_rules.specs.declared.told.Tellings.{Tellings}
use Rattle.us_credit_rules.specs.Ends.{end_place, unless}
use Rattle.us_credit_rules.specs.Seats.{is_number}
use Rattle.us_credit_rules.specs.Tellings.{AreTold, is_once, told_by, told_more, told_with}

-- One line more.

pub told_push : {L : Type 0} (lines : List L) (line : L) → told_by (lines ++ line ∷ []) ≡ told_more line (told_by lines)
told_push [] line = refl
told_push (first ∷ []) line = refl
told_push (first ∷ next ∷ lines) line = refl

module _ {L : Type 0} (line : L) where
  told_next : (passes : L → Bool) (lines : List L) →
      told_by (filter passes (lines ++ line ∷ []))
      ≡ cond (passes line) (told_more line (told_by (filter passes lines))) (told_by (filter passes lines))
  told_next passes lines =
      ap told_by (filter-append passes lines (line ∷ [])) ∙ one (passes line) (filter passes lines)
    where
      one : (is : Bool) (own : List L) →
          told_by (own ++ cond is (line ∷ []) []) ≡ cond is (told_more line (told_by own)) (told_by own)
      one true own = told_push own line
      one false own = ap told_by (append-nil own)

  told_at : (thing : Option ℕ) (told : List (Told L)) (n : ℕ) → n < length told →
      get_or (told_with thing line told) n Nothing
      ≡ cond (is_number n thing) (told_more line (get_or told n Nothing)) (get_or told n Nothing)
  told_at None told n inside = refl
  told_at (Some k) told n inside = elim (cases_eq k n) [
    | inl same ↦
        ap (λ m. get_or (set told k (told_more line (get_or told k Nothing))) m Nothing) (sym same)
        ∙ get_or-set_same told k (told_more line (get_or told k Nothing)) Nothing (omega (arith, inside, same))
        ∙ ap (λ m. told_more line (get_or told m Nothing)) same
        ∙ sym (ap (λ b. cond b (told_more line (get_or told n Nothing)) (get_or told n Nothing)) (eq-eqb k n same))
    | inr other ↦
        get_or-set_other told k n (told_more line (get_or told k Nothing)) Nothing (λ same. other (sym same))
        ∙ sym (ap (λ b. cond b (told_more line (get_or told n Nothing)) (get_or told n Nothing)) (ne_eqb k n other))
  ]

  same_long : (thing : Option ℕ) (told : List (Told L)) → length (told_with thing line told) ≡ length told
  same_long None told = refl
  same_long (Some k) told = length-set told k (told_more line (get_or told k Nothing))

module _ {L : Type 0} (channels : List Channel) (rounds count : ℕ) (id : L → ℕ) (thing : L → Option ℕ) where
  pub none_told : (kept : Tellings L) → kept.told.items ≡ replicate count Nothing → kept.strange ≡ None →
      AreTold channels rounds count id thing [] kept
  none_told kept is none = record {
    long = ap length is ∙ length-replicate count Nothing;
    told = λ n inside. ap (λ told. get_or told n Nothing) is ∙ get_or-replicate count n Nothing Nothing inside;
    strange = rw none (λ p fails. fails);
  }

  pub line_told : (lines : List L) (before after : Tellings L) (line : L) →
      after.told.items ≡ told_with (thing line) line before.told.items →
      after.strange ≡ earlier channels before.strange (unless (is_some (thing line)) (end_place rounds (id line))) →
      AreTold channels rounds count id thing lines before →
      AreTold channels rounds count id thing (lines ++ line ∷ []) after
  line_told lines before after line told strange are = record {
    long = ap length told ∙ same_long line (thing line) before.told.items ∙ are.long;
    told = λ n inside.
        ap (λ these. get_or these n Nothing) told
        ∙ told_at line (thing line) before.told.items n (omega (arith, inside, are.long))
        ∙ ap (λ old. cond (is_number n (thing line)) (told_more line old) old) (are.told n inside)
        ∙ sym (told_next line (λ l. is_number n (thing l)) lines);
    strange = rw strange
        (one_behind channels (λ l. At (end_place rounds (id l)) (is_some (thing l))) lines line before.strange
        (unless (is_some (thing line)) (end_place rounds (id line))) are.strange
        (at_test channels (end_place rounds (id line)) (is_some (thing line))));
  }

-- Just one.

module _ {L : Type 0} (right : L → Bool) where
  pub one_told : (lines : List L) → ((length lines == 1) && list_any right lines) ≡ is_once right (told_by lines)
  one_told [] = refl
  one_told (line ∷ []) = or_nothing (right line)
    where
      or_nothing : (b : Bool) → (b || false) ≡ b
      or_nothing true = refl
      or_nothing false = refl
  one_told (line ∷ next ∷ lines) =
      ap (λ b. b && list_any right (line ∷ next ∷ lines))
      (ne_eqb (suc (suc (length lines))) 1 (λ same. omega (arith, same)))

  -- a test that asks for another one first is asked of those that pass that
  any_filtered : (whole p : L → Bool) → ((line : L) → whole line ≡ (p line && right line)) → (lines : List L) →
      list_any whole lines ≡ list_any right (filter p lines)
  any_filtered whole p same [] = refl
  any_filtered whole p same (line ∷ lines) = elim (cases_Bool (p line)) [
    | inl is ↦ rw (same line, is) (ap (λ b. right line || b) (any_filtered whole p same lines))
    | inr out ↦ rw (same line, out) (any_filtered whole p same lines)
  ]

  pub once_told : (whole p : L → Bool) → ((line : L) → whole line ≡ (p line && right line)) → (lines : List L) →
      ((count_by p lines == 1) && list_any whole lines) ≡ is_once right (told_by (filter p lines))
  once_told whole p same lines =
      ap₂ (λ n b. (n == 1) && b) (sym (length-filter p lines)) (any_filtered whole p same lines)
      ∙ one_told (filter p lines)
