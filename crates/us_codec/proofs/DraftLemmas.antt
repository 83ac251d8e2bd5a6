-- What one more element changes of what a draft knows.
use Rattle.std.proofs.Common.{◌≡◌, suc, ◌-◌, List, [], ◌∷◌, ◌++◌, length, true, false, cond, ◌&&◌, nat_lt, Some, None, slice_get, option_to_list, append-nil, refl, ap, sym, inl, inr, ◌∙◌, arith}
use Rattle.std.specs.List.{list_all, AllByRecursion}
use Rattle.std.proofs.lemmas.Bool.{cases_Bool}
use Rattle.std.proofs.Math.Bool.{and-true, and_assoc}
use Rattle.std.proofs.lemmas.List.Folds.{list_all-append}
use Rattle.us_codec.specs.Elements.{MapElement, IsMapElement}
use Rattle.us_codec.specs.Faults.{ends_list, end_of, before_end, after_end, is_pending, rises, rises_to_end, are_pending_after, ends_in_pendings}
use Rattle.us_codec.specs.Drafts.{is_above}
use Rattle.us_codec.proofs.ListLemmas.{null-append, before-append, after-append}

pub null-empty : (es : List MapElement) → es ≡ [] → end_of es ≡ None
unfolding end_of
null-empty es e = rw e refl

pub rising-empty : (es : List MapElement) → es ≡ [] → rises_to_end es ≡ true
unfolding rises_to_end end_of before_end rises
rising-empty es e = rw e refl

pub pending-empty : (es : List MapElement) → es ≡ [] → ends_in_pendings es ≡ true
unfolding ends_in_pendings end_of after_end are_pending_after
pending-empty es e = rw e refl

pub fields-empty : (es : List MapElement) → es ≡ [] → AllByRecursion IsMapElement es
fields-empty es e = rw e tt

pub ruleset empty = (null-empty, rising-empty, pending-empty, fields-empty)

pub rises-more : (es : List MapElement) (e : MapElement) →
    rises (es ++ e ∷ []) ≡ (rises es && is_above (slice_get es (length es - 1)) e)
unfolding rises is_above
rises-more [] e = refl
rises-more (d ∷ []) e = and-true (nat_lt d.offset e.offset)
rises-more (c ∷ d ∷ es) e =
    let more : rises (d ∷ (es ++ e ∷ [])) ≡ (rises (d ∷ es) && is_above (slice_get (d ∷ es)
    (length (d ∷ es) - 1)) e) =
    rises-more (d ∷ es) e in
    let one : length (d ∷ es) - 1 ≡ length es = omega arith in
    let two : length (c ∷ d ∷ es) - 1 ≡ suc (length es) = omega arith in
    let same : slice_get (d ∷ es) (length (d ∷ es) - 1) ≡ slice_get (c ∷ d ∷ es) (length (c ∷ d ∷ es) - 1) =
    ap (λ i. slice_get (d ∷ es) i) one ∙ sym (ap (λ i. slice_get (c ∷ d ∷ es) i) two) in
    ap (λ b. nat_lt c.offset d.offset && b) more ∙
    sym (and_assoc (nat_lt c.offset d.offset) (rises (d ∷ es))
    (is_above (slice_get (d ∷ es) (length (d ∷ es) - 1)) e)) ∙
    ap (λ last. rises (c ∷ d ∷ es) && is_above last e) same

-- no element ends the list yet: all stand before the Null, and none after it
before-open : (es : List MapElement) → end_of es ≡ None → before_end es ≡ es
unfolding end_of before_end
before-open [] h = refl
before-open (d ∷ es) h = elim (cases_Bool (ends_list d)) [
  | inl t ↦ let no : Some d ≡ None = rw t at h in cc
  | inr f ↦ rw f (ap (λ xs. d ∷ xs) (before-open es (rw f at h)))
]

after-open : (es : List MapElement) → end_of es ≡ None → after_end es ≡ []
unfolding end_of after_end
after-open [] h = refl
after-open (d ∷ es) h = elim (cases_Bool (ends_list d)) [
  | inl t ↦ let no : Some d ≡ None = rw t at h in cc
  | inr f ↦ rw f (after-open es (rw f at h))
]

-- the first that ends the list is the last that came
null-open : (es : List MapElement) (e : MapElement) → end_of es ≡ None →
    end_of (es ++ e ∷ []) ≡ cond (ends_list e) (Some e) None
unfolding end_of
null-open [] e h = refl
null-open (d ∷ es) e h = elim (cases_Bool (ends_list d)) [
  | inl t ↦ let no : Some d ≡ None = rw t at h in cc
  | inr f ↦ rw f (null-open es e (rw f at h))
]

pub null-ends : (es : List MapElement) (e : MapElement) → end_of es ≡ None → ends_list e ≡ true →
    end_of (es ++ e ∷ []) ≡ Some e
null-ends es e h t = null-open es e h ∙ ap (λ b. cond b (Some e) None) t

pub null-goes-on : (es : List MapElement) (e : MapElement) → end_of es ≡ None → ends_list e ≡ false →
    end_of (es ++ e ∷ []) ≡ None
null-goes-on es e h f = null-open es e h ∙ ap (λ b. cond b (Some e) None) f

up_to-open : (es : List MapElement) (e : MapElement) → end_of es ≡ None →
    (before_end (es ++ e ∷ []) ++ option_to_list (end_of (es ++ e ∷ []))) ≡ es ++ e ∷ []
unfolding end_of before_end
up_to-open [] e h = elim (cases_Bool (ends_list e)) [ inl t ↦ rw t refl | inr f ↦ rw f refl ]
up_to-open (d ∷ es) e h = elim (cases_Bool (ends_list d)) [
  | inl t ↦ let no : Some d ≡ None = rw t at h in cc
  | inr f ↦ rw f (ap (λ xs. d ∷ xs) (up_to-open es e (rw f at h)))
]

after-more-open : (es : List MapElement) (e : MapElement) → end_of es ≡ None → after_end (es ++ e ∷ []) ≡ []
unfolding end_of after_end
after-more-open [] e h = elim (cases_Bool (ends_list e)) [ inl t ↦ rw t refl | inr f ↦ rw f refl ]
after-more-open (d ∷ es) e h = elim (cases_Bool (ends_list d)) [
  | inl t ↦ let no : Some d ≡ None = rw t at h in cc
  | inr f ↦ rw f (after-more-open es e (rw f at h))
]

pub rising-open : (es : List MapElement) (e : MapElement) → end_of es ≡ None →
    rises_to_end (es ++ e ∷ []) ≡ (rises_to_end es && is_above (slice_get es (length es - 1)) e)
unfolding rises_to_end
rising-open es e h =
    let before : (before_end es ++ option_to_list (end_of es)) ≡ es =
    rw (h, before-open es h) (append-nil es) in
    rw (before, up_to-open es e h) (rises-more es e)

pub pending-open : (es : List MapElement) (e : MapElement) → end_of es ≡ None →
    ends_in_pendings (es ++ e ∷ []) ≡ ends_in_pendings es
unfolding ends_in_pendings are_pending_after
pending-open es e h = elim (cases_Bool (ends_list e)) [
  | inl t ↦ rw (h, null-open es e h, t, after-more-open es e h) refl
  | inr f ↦ rw (h, null-open es e h, f) refl
]

-- an element ends the list: what comes is pending, or not
pub null-closed : (es : List MapElement) (e null : MapElement) → end_of es ≡ Some null →
    end_of (es ++ e ∷ []) ≡ Some null
null-closed es e null h = null-append es (e ∷ []) null h

pub rising-closed : (es : List MapElement) (e null : MapElement) → end_of es ≡ Some null →
    rises_to_end (es ++ e ∷ []) ≡ rises_to_end es
unfolding rises_to_end
rising-closed es e null h = rw (h, null-closed es e null h, before-append es (e ∷ []) null h) refl

pub pending-closed : (es : List MapElement) (e null : MapElement) → end_of es ≡ Some null →
    ends_in_pendings (es ++ e ∷ []) ≡ (ends_in_pendings es && is_pending null.offset e)
unfolding ends_in_pendings are_pending_after
pending-closed es e null h =
    rw (h, null-closed es e null h, after-append es (e ∷ []) null h)
    (list_all-append (is_pending null.offset) (after_end es) (e ∷ []) ∙
    ap (λ b. list_all (is_pending null.offset) (after_end es) && b) (and-true (is_pending null.offset e)))

pub fields-more : (es : List MapElement) (e : MapElement) → AllByRecursion IsMapElement es → IsMapElement e →
    AllByRecursion IsMapElement (es ++ e ∷ [])
fields-more [] e h k = (k, tt)
fields-more (d ∷ es) e h k = (h.0, fields-more es e h.1 k)

pub ruleset more = (null-ends, null-goes-on, rising-open, pending-open, null-closed, rising-closed, pending-closed, fields-more)
