use Rattle.std.proofs.Common.{◌≡◌, true, All, ap, refl, subst, sym, ◌∙◌}
use Rattle.std.proofs.lemmas.List.Elements.{All-push}
use Rattle.us_map_rules.specs.Failures.{comes_in, times_named}
use Rattle.us_map_rules.specs.Told.{IsNamed}
use Rattle.us_map_rules.proofs.CountLemmas.{named_beside}
use Rattle.us_map_rules.proofs.told.ToldEntry.name.Goals as goal

pub returns-in_ok-push : goal.returns-in_ok-push
returns-in_ok-push c =
    let run = c.args.run.now in
    let l = c.args.of.now in
    let n = c.args.number in
    let old = c.self.inside in
    let items = c.in_ok-push.ensures.items in
    subst (λ t. IsNamed (comes_in run l) n t
    (record { next = old.next; others = c.push.new.self.items; open_lines = old.open_lines.items })) c.self.view_is
    (record {
      named = λ m comes. ap (λ ns. times_named old.next ns m) items ∙ named_beside old.next n old.others.items m;
      come = λ come.
          subst (All (λ m. comes_in run l m ≡ true)) (sym items)
          (All-push (λ m. comes_in run l m ≡ true) old.others.items n come c.requires.comes);
      open_lines = refl;
    })
