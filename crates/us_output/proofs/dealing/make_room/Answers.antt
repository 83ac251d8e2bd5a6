use Rattle.std.proofs.Common.{◌≡◌, [], ◌∷◌, ◌++◌, length, ap, sym, subst, ◌∙◌, arith}
use Rattle.std.proofs.lemmas.List.{length-append}
use Rattle.us_output.specs.Leftovers.{AreDealt}
use Rattle.us_output.proofs.PendingLemmas.{dealt_room}
use Rattle.us_output.proofs.dealing.make_room.Goals as goal

pub loop-list-preserved : goal.loop-list-preserved
loop-list-preserved c =
    let lists = c.loop-list.lists.items in
    let more : c.push.new.self.items ≡ lists ++ [] ∷ [] =
    c.in_ok-push.ensures.items ∙ ap (λ list. lists ++ list ∷ []) c.new.ensures in
    record {
      same = λ pendings dealt. subst (AreDealt pendings) (sym more)
          (dealt_room pendings lists (c.loop-list.invariant.same pendings dealt));
      long = omega (arith, c.loop-list.invariant.long, ap length more, length-append lists ([] ∷ []));
    }
