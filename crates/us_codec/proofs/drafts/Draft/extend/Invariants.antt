use Rattle.std.proofs.Common.{◌≡◌, ◌++◌, drop}
use Rattle.us_codec.proofs.drafts.Draft.extend.Given as goal

-- what was taken and what is left
abbrev pub invariant-loop-element : goal.invariant-loop-element
invariant-loop-element l = l.self ++ drop l.element-index l.elements ≡ l.fn.self ++ l.elements
