-- What goes through the ring of one task.
use Rattle.std.specs.Prelude.{◌≡◌, List, [], ◌∷◌, map, Option, None, Some, ⊤}
use Rattle.us_crew.specs.declared.orders.Said.{Said}
use Rattle.us_crew.specs.declared.orders.Said.TheVariants as said

abbrev pub asked_of : {J A : Type 0} → Said J A → Option J
asked_of (said.Asked task) = Some task.value
asked_of (said.Done answer) = None

-- this one task was asked for, and nothing else was said
abbrev pub AskFor : {J A : Type 0} → J → List (Said J A) → Type 0
AskFor task before = map asked_of before ≡ Some task ∷ []

-- an answer that comes where one task was asked for is an answer to that task
abbrev pub IsTrueAnswer : {J A : Type 0} → (J → A → Type 0) → List (Said J A) → Said J A → Type 0
IsTrueAnswer gives before (said.Asked task) = ⊤
IsTrueAnswer gives before (said.Done answer) = (task : _) → AskFor task before → gives task answer
