use Rattle.std.proofs.Common.{◌≡◌, ◌+◌, ◌++◌, length, take, drop, ap, ◌∙◌, arith}
use Rattle.std.specs.Int.{to_be_bytes, w32}
use Rattle.std.proofs.lemmas.List.{length-append, length-take-le, take_at}
use Rattle.us_codec.specs.Elements.{word_of}
use Rattle.us_output.proofs.records.put_next.Goals as goal

pub returns-clause-bytes : goal.returns-clause-bytes
returns-clause-bytes c =
    let at = c.args.at in
    let old = c.args.out.now in
    let bytes = to_be_bytes w32 (word_of c.args.element) in
    let long : length (take at old ++ bytes) ≡ at + 4 =
    length-append (take at old) bytes ∙ ap (λ n. n + 4) (length-take-le at old (omega (arith, c.requires, c.fits-out))) in
    ap (λ all. take (at + 4) all) c.put_element.ensures ∙ take_at (take at old ++ bytes) (drop (at + 4) old) (at + 4) long
