-- A mark has three bytes of the text.
use Rattle.std.proofs.Common.{◌≡◌, ℕ, ◌+◌, ◌≤◌, List, length, length-drop, take, drop, ap, arith}
use Rattle.std.proofs.lemmas.List.{length-take}
use Rattle.mapsim.specs.Marks.{IsMark}

pub mark_inside : (text : List ℕ) (at : ℕ) → IsMark text at → at + 3 ≤ length text
mark_inside text at mark =
    let three : length (take 3 (drop at text)) ≡ 3 = ap length mark.bytes in
    grind (arith, three, length-take 3 (drop at text), length-drop at text)
