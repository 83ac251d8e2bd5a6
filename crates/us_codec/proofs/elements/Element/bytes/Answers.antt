use Rattle.std.proofs.Common.{◌≡◌, ◌+◌, ◌*◌, ◌/◌, ◌%◌, ◌^◌, ◌++◌, ap, sym, ◌∙◌, arith}
use Rattle.std.specs.Int.{to_be_bytes, w16, w32}
use Rattle.us_codec.specs.Elements.{MapElement, word_of}
use Rattle.us_codec.proofs.WordLemmas.{halves}
use Rattle.us_codec.proofs.elements.Element.bytes.Goals as goal

pub returns : goal.returns
returns c =
    let f = c.self.inside in
    let e : MapElement = record { sid = f.sid; iuc = f.iuc; offset = f.offset } in
    let iuc : c.from-iuc.result ≡ f.iuc = omega (arith, c.from-iuc.ensures, c.number.ensures.value) in
    let told : to_be_bytes w32 (word_of e) ≡ to_be_bytes w16 (f.sid * 4 + f.iuc / 4) ++ to_be_bytes w16 (f.iuc % 4 * 2 ^ 14 + f.offset) =
    halves e (f.sid * 4 + f.iuc / 4) (f.iuc % 4 * 2 ^ 14 + f.offset) c.self.invariant (omega arith) (omega arith) in
    rw (c.to_be_bytes.ensures, c.to_be_bytes-2.ensures, iuc)
    (sym told ∙ ap (λ (e : MapElement). to_be_bytes w32 (word_of e)) c.self.view_is)
