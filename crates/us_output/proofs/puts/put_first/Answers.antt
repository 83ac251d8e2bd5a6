use Rattle.std.proofs.Common.{◌≡◌, ◌+◌, ◌++◌, length, take, ap, sym, ◌∙◌, arith}
use Rattle.std.proofs.Math.Seq.{take-append-add}
use Rattle.std.proofs.lemmas.List.{length-take-le, take-take}
use Rattle.us_output.proofs.puts.put_first.Goals as goal

pub returns-clause-bytes : goal.returns-clause-bytes
returns-clause-bytes g c =
    let at = c.args.at in
    let count = c.args.count in
    let bytes = c.args.bytes in
    let old = take at c.args.out.now in
    let new = c.put_bytes.new.out in
    let long : length old ≡ at = length-take-le at c.args.out.now (omega (arith, c.requires.room)) in
    let put : take (at + g.row.N) new ≡ old ++ bytes = ap (λ n. take n new) (sym c.put_bytes.ensures.end) ∙ c.put_bytes.ensures.bytes in
    sym (take-take (at + count) (at + g.row.N) new (omega (arith, c.requires.few))) ∙ ap (λ all. take (at + count) all) put ∙
    ap (λ k. take (k + count) (old ++ bytes)) (sym long) ∙ take-append-add old bytes count
