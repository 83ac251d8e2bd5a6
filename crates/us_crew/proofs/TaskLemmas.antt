-- What is known of a task that is cut, and what is answered for it.
use Rattle.std.proofs.Common.{◌≡◌, ℕ, ◌+◌, ◌++◌, length, vec_len, length-append, sym, ap, ◌∙◌, subst, arith, Result, Vec, Global}
use Rattle.us_crew.specs.Parts.{EachFrom, Tells, Together}
use Rattle.us_crew.specs.Tasks.{IsReadyTask, TellsTask, IsCut}
use Rattle.us_crew.specs.declared.faults.CrewFault.{CrewFault}
use Rattle.us_crew.specs.declared.gates.Phase.{Phase}
use Rattle.us_crew.specs.declared.tasks.Task.{Task}
use Rattle.us_crew.proofs.PartLemmas.{each-front, each-back, tells-together}

len_of : {T : Type 0} (v : Vec T Global) → vec_len v ≡ length v.items
len_of v = v.ok.0

module _ {W G T : Type 0} (entered : G → Phase → ℕ → Type 0) (accepts : W → ℕ → T → Type 0) (task front back : Task W G T) where
  abbrev Accepts : ℕ → T → Type 0
  Accepts k item = entered task.gate task.phase k → accepts task.work k item

  each : IsCut task front back → IsReadyTask entered accepts task → EachFrom Accepts task.start (front.items.items ++ back.items.items)
  each cut ready = subst (EachFrom Accepts task.start) (sym cut.all) ready.1

  lens : IsCut task front back → vec_len front.items + vec_len back.items ≡ vec_len task.items
  lens cut =
      let all : length front.items.items + length back.items.items ≡ length task.items.items =
      sym (length-append front.items.items back.items.items) ∙ ap length cut.all in
      omega (arith, all, len_of front.items, len_of back.items, len_of task.items)

  pub front_ready : IsCut task front back → IsReadyTask entered accepts task → IsReadyTask entered accepts front
  front_ready cut ready = subst (IsReadyTask entered accepts) (sym cut.stays)
      (omega (arith, lens cut, ready.0), each-front Accepts task.start front.items.items back.items.items (each cut ready))

  pub back_ready : IsCut task front back → IsReadyTask entered accepts task → IsReadyTask entered accepts back
  back_ready cut ready = subst (IsReadyTask entered accepts) (sym cut.leaves)
      (omega (arith, lens cut, len_of front.items, ready.0), each-back Accepts task.start front.items.items back.items.items (each cut ready))

module _ {W G T R E : Type 0} (value : W → ℕ → T → R) (may : W → ℕ → T → E → Type 0) (must : W → ℕ → T → Type 0)
    (task front back : Task W G T) (one two both : Result (Vec R Global) (CrewFault E)) where
  pub cut_tells : IsCut task front back → TellsTask value may must front one → TellsTask value may must back two →
      Together (λ answers. answers.items) one two both → TellsTask value may must task both
  cut_tells cut tells_one tells_two together =
      let first = subst (λ t. TellsTask value may must t one) cut.stays tells_one in
      let second = subst (λ t. TellsTask value may must t two) cut.leaves tells_two in
      subst (λ items. Tells (λ answers. answers.items) (value task.work) (may task.work) (must task.work) task.start items both)
      cut.all
      (tells-together (λ answers. answers.items) (value task.work) (may task.work) (must task.work) task.start front.items.items back.items.items
      one two both first second together)
