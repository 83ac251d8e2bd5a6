-- Items that stand side by side, with what is to be done with them.
use Rattle.std.specs.Prelude.{◌≡◌, ℕ, ◌+◌, ◌^◌, ◌<◌, ◌++◌, Result, Vec, vec_len, length}
use Rattle.std.specs.Global.{Global}
use Rattle.us_crew.specs.Parts.{AreReady, Tells}
use Rattle.us_crew.specs.declared.faults.CrewFault.{CrewFault}
use Rattle.us_crew.specs.declared.gates.Phase.{Phase}
use Rattle.us_crew.specs.declared.tasks.Task.{Task}

-- its items have numbers, and are ready
abbrev pub IsReadyTask : {W G T : Type 0} → (G → Phase → ℕ → Type 0) → (W → ℕ → T → Type 0) → Task W G T → Type 0
IsReadyTask entered accepts task =
    (task.start + vec_len task.items < 2 ^ 64) ×
    AreReady (entered task.gate task.phase) (accepts task.work) task.start task.items.items

-- what is answered for its items
abbrev pub TellsTask : {W G T R E : Type 0} → (W → ℕ → T → R) → (W → ℕ → T → E → Type 0) → (W → ℕ → T → Type 0) →
    Task W G T → Result (Vec R Global) (CrewFault E) → Type 0
TellsTask value may must task result =
    Tells (λ answers. answers.items) (value task.work) (may task.work) (must task.work) task.start task.items.items result

-- one is cut into two, one after the other
pub record IsCut {W G T : Type 0} (task front back : Task W G T) : Type 0 where
  pub stays : front ≡ record task { items = front.items }
  pub leaves : back ≡ record task { start = task.start + length front.items.items; items = back.items }
  pub all : front.items.items ++ back.items.items ≡ task.items.items
