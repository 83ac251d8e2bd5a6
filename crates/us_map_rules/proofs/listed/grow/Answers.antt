use Rattle.std.proofs.Common.{None, [], ◌∷◌, get_or, length, refl, ap, ◌∙◌, arith}
use Rattle.std.proofs.lemmas.List.{length-append}
use Rattle.us_map_rules.proofs.ListedLemmas.{room_more}
use Rattle.us_map_rules.proofs.listed.grow.Goals as goal

pub loop-key-init : goal.loop-key-init
loop-key-init c = record {
  same = λ key. refl;
  long = omega (arith, c.len-key.ensures, c.args.places.now.ok.0);
}

pub loop-key-preserved : goal.loop-key-preserved
loop-key-preserved c = record {
  same = λ key.
      ap (λ these. get_or these key None) c.in_ok-push.ensures.items ∙ room_more c.loop-key.places.items key
      ∙ c.loop-key.invariant.same key;
  long = omega (
    arith,
    ap length c.in_ok-push.ensures.items,
    length-append c.loop-key.places.items (None ∷ []),
    c.loop-key.invariant.long,
  );
}

pub returns-clause-same : goal.returns-clause-same
returns-clause-same c = c.loop-key.invariant.same

pub returns-clause-long : goal.returns-clause-long
returns-clause-long c = omega (arith, c.loop-key-test.false, c.loop-key.invariant.long)
