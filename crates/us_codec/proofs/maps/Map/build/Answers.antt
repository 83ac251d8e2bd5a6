use Rattle.std.proofs.Common.{◌≡◌, ◌++◌, ◌∷◌, is_some, false, ap, sym, ◌∙◌, arith}
use Rattle.us_codec.specs.Faults.{end_of}
use Rattle.us_codec.proofs.BodyLemmas.{joined-draft, built-is}
use Rattle.us_codec.proofs.maps.Map.build.Goals as goal

pub returns-clause-exact : goal.returns-clause-exact
returns-clause-exact c =
    let before = c.args.elements.now in
    let after = c.args.pendings.now in
    let joined =
    joined-draft before after c.in_ok-draft.draft c.extend.new.self c.push.new.self c.extend-2.new.self c.null_at.result
    c.in_ok-draft.ensures c.in_ok-extend.ensures c.in_ok-push.ensures c.in_ok-extend-2.ensures in
    let first : c.extend.new.self ≡ before =
    c.in_ok-extend.ensures ∙ ap (λ es. es ++ before) c.in_ok-draft.ensures in
    let none : is_some (end_of before) ≡ false =
    ap (λ es. is_some (end_of es)) (sym first) ∙ sym (c.is_some.ensures ∙ ap is_some c.end.ensures) ∙
    c.if-is_some.false in
    built-is c.of_draft.result c.args.head before c.args.len after c.extend-2.new.self
    (joined ∙ ap (λ null. before ++ null ∷ after) c.null_at.ensures) (omega arith) none c.of_draft.ensures.exact
