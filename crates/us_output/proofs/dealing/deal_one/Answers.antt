use Rattle.std.proofs.Common.{◌≡◌, [], ◌∷◌, ◌++◌, length, set, take, get_or, sym, ap, subst, ◌∙◌, arith}
use Rattle.std.proofs.lemmas.List.{length-set, with_items_is}
use Rattle.us_output.specs.Leftovers.{AreDealt}
use Rattle.us_output.proofs.PendingLemmas.{dealt_one}
use Rattle.us_output.proofs.dealing.deal_one.Goals as goal

pub returns : goal.returns
returns c = λ before dealt.
    let lists = c.make_room.new.lists in
    let p = c.args.pending in
    let put : c.add.new.lists ≡ set lists.items p.0 (take 38 (get_or lists.items p.0 [] ++ p.1 ∷ [])) =
    rw (c.deref_mut.ensures.value, c.place-place.ensures.value, c.sid.ensures.value) at c.in_ok-add.ensures in
    let items = with_items_is lists c.add.new.lists (ap length put ∙ length-set lists.items p.0 _ ∙ sym lists.ok.0) in
    rw items (subst (AreDealt (before ++ p ∷ [])) (sym put)
    (dealt_one before lists.items p (omega (arith, c.in_ok-make_room.ensures.long, c.place-place.ensures.value))
    (c.in_ok-make_room.ensures.same before dealt)))
