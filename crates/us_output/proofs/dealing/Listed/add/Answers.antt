use Rattle.std.proofs.Common.{◌≡◌, ◌<◌, [], ◌∷◌, ◌++◌, length, ap, sym, ◌∙◌, arith}
use Rattle.std.proofs.lemmas.List.{length-append, take_all, take_at}
use Rattle.us_output.proofs.dealing.Listed.add.Goals as goal

pub returns-in_ok-push : goal.returns-in_ok-push
returns-in_ok-push c =
    let old = c.args.self.now in
    let sids = c.self.inside.sids in
    let few : length old < 38 =
    omega (arith, c.if-len-lt-MAX_PENDINGS.true, c.len.ensures, sids.ok.0, ap length c.self.view_is) in
    c.in_ok-push.ensures.items ∙ ap (λ all. all ++ c.args.sid ∷ []) c.self.view_is ∙
    sym (take_all 38 (old ++ c.args.sid ∷ []) (omega (arith, few, length-append old (c.args.sid ∷ []))))

pub returns-else-len-lt-MAX_PENDINGS : goal.returns-else-len-lt-MAX_PENDINGS
returns-else-len-lt-MAX_PENDINGS c =
    let old = c.args.self.now in
    let sids = c.self.inside.sids in
    let full : length old ≡ 38 =
    omega (arith, c.if-len-lt-MAX_PENDINGS.false, c.len.ensures, sids.ok.0, ap length c.self.view_is, c.self.invariant.0) in
    sym (take_at old (c.args.sid ∷ []) 38 full)
