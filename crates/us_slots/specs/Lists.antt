-- Lists of which the library has no word (ours).
use Rattle.std.specs.Prelude.{ℕ, ◌+◌, Bool, if◌then◌else◌, List, [], ◌∷◌, Option, Some, None}

-- numbers added place by place, and where one list has ended those of the other
abbrev pub added : List ℕ → List ℕ → List ℕ
added [] ys = ys
added (x ∷ xs) [] = x ∷ xs
added (x ∷ xs) (y ∷ ys) = (x + y) ∷ added xs ys

-- of what is amiss or not, each with its fault, the first fault
abbrev pub first_of : {X : Type 0} → List (Bool × X) → Option X
first_of [] = None
first_of (check ∷ checks) = if check.0 then Some check.1 else first_of checks
