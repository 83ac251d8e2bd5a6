use Rattle.std.proofs.Common.{◌≡◌, ℕ, ◌<◌, Bool, true, false, List, IsPermutation, get_or, length, refl, sym, ap, subst, ◌∙◌, arith}
use Rattle.std.specs.Bool.{beq}
use Rattle.us_activity.specs.Activities.{AreMarksOf}
use Rattle.us_activity.specs.Kept.{marks_in}
use Rattle.us_activity.proofs.ActivityLemmas.{are_marks, none_marks}
use Rattle.us_activity.proofs.activities.Activities.of.Goals as goal

-- what isn't true
untrue : (b : Bool) → beq b true ≡ false → b ≡ false
untrue true is = is
untrue false is = refl

pub returns-then-not-contains : goal.returns-then-not-contains
returns-then-not-contains c =
    let t = c.args.config.now in
    let told = c.deref.ensures.value ∙ c.in_ok-silent.ensures in
    let none = subst (λ (silent : List Bool). (k : ℕ) (d : Bool) → k < length silent → get_or silent k d ≡ false) told
    (λ k d inside. untrue (get_or c.deref.result.now k d) (c.if-not-contains.ensures.cases k d (omega arith) inside)) in
    subst (AreMarksOf t c.args.trace.now) (sym c.new.ensures.items) (none_marks t c.args.trace.now none)

pub returns : goal.returns
returns c =
    let t = c.args.config.now in
    let v = c.args.trace.now in
    let told = c.in_ok-marks.ensures ∙ ap (λ silent. marks_in silent v) (c.deref-2.ensures.value ∙ c.in_ok-silent.ensures) in
    are_marks t v c.ordered.result.items
    (subst (λ ms. IsPermutation ms c.ordered.result.items) told c.ordered.ensures.same)
