use Rattle.std.proofs.Common.{◌≡◌, ◌+◌, ◌*◌, ◌≤◌, ◌++◌, length, take, drop}
use Rattle.us_codec.specs.Bodies.{max_elements, front, element_bytes}
use Rattle.us_codec.proofs.encoding.encode_into.Given as goal

-- what was written, where the next element goes
abbrev pub invariant-loop-element : goal.invariant-loop-element
invariant-loop-element l =
    (l.out ≡ (front l.fn.map.head (length l.elements) ++ element_bytes (take l.element-index l.elements)) ++ drop l.at l.fn.out) ×
    (l.at ≡ 16 + 4 * l.element-index) ×
    (length l.elements ≤ max_elements) × (l.elements ≡ l.fn.map.elements)
