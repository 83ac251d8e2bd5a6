-- A task on its way to a worker.
use Rattle.std.specs.Prelude.{ℕ, ◌<◌}
use Rattle.rtrb.specs.Ring.{sent, known_free}
use Rattle.us_crew.specs.Rings.{AskFor}
use Rattle.us_crew.specs.Tasks.{IsReadyTask}
use Rattle.us_crew.specs.declared.gates.Phase.{Phase}
use Rattle.us_crew.specs.declared.orders.Order.{Order}

-- its task is ready, and there is room for an answer to it and to nothing else
pub record IsReadyOrder {W G T R E : Type 0} (entered : G → Phase → ℕ → Type 0) (accepts : W → ℕ → T → Type 0)
    (order : Order W G T R E) : Type 0 where
  pub ready : IsReadyTask entered accepts order.task
  pub asked : AskFor order.task (sent order.back)
  pub room : 0 < known_free order.back
