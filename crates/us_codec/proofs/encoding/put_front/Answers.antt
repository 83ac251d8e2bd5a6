use Rattle.std.proofs.Common.{◌∷◌, [], List, ℕ, refl, arith}
use Rattle.us_codec.proofs.PutLemmas.{front_is}
use Rattle.us_codec.proofs.encoding.put_front.Goals as goal

pub returns : goal.returns
returns c =
    let h = c.args.head.now in
    let four : List ℕ = h.channel ∷ h.ucd_count ∷ c.args.count ∷ 0 ∷ [] in
    front_is h c.args.count c.args.out.now c.put.new.out c.put-2.new.out c.put-3.new.out c.put-4.new.out
    four c.to_be_bytes.result c.to_be_bytes-2.result h.backoffs (omega arith)
    refl c.to_be_bytes.ensures c.to_be_bytes-2.ensures refl c.put.ensures c.put-2.ensures c.put-3.ensures c.put-4.ensures
