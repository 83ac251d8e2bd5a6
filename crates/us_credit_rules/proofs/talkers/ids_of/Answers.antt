use Rattle.std.proofs.Common.{◌≡◌, ◌==◌, Bool, true, false, Option, Some, None, get_or, take, refl, ap, sym, ◌∙◌}
use Rattle.std.specs.Prelude.{◌||◌, if◌then◌else◌}
use Rattle.std.specs.List.{list_any}
use Rattle.std.specs.Option.{is_some}
use Rattle.std.proofs.lemmas.List.{take_more}
use Rattle.us_credit_rules.specs.declared.talkers.Talker.{Talker}
use Rattle.us_credit_rules.proofs.RepeatLemmas.{any_push}
use Rattle.us_credit_rules.proofs.talkers.ids_of.Goals as goal

abbrev talker_default : Talker
talker_default = record { id = 0; word = 0 }

pub loop-talker-preserved : goal.loop-talker-preserved
loop-talker-preserved c = λ id.
    let talkers = c.args.talkers.now in
    let i = c.loop-talker.talker-index in
    let talker : Talker = get_or talkers i talker_default in
    let before = get_or c.loop-talker.ids.items id None in
    ap is_some (c.in_ok-put.ensures id)
    ∙ ap (λ n. is_some (if n == id then Some talker.id else before)) c.from.ensures
    ∙ one talker.id (talker.id == id) before
    ∙ ap (λ b. b || (talker.id == id)) (c.loop-talker.invariant id)
    ∙ sym (ap (list_any (λ (talker : Talker). talker.id == id)) (take_more talkers i talker_default c.loop-talker-test.true)
    ∙ any_push (λ (talker : Talker). talker.id == id) (take i talkers) talker)
  where
    one : {A : Type 0} (x : A) (b : Bool) (before : Option A) → is_some (if b then Some x else before) ≡ (is_some before || b)
    one x true None = refl
    one x true (Some y) = refl
    one x false None = refl
    one x false (Some y) = refl
