use Rattle.std.proofs.Common.{◌≡◌, ℕ, ◌+◌, ◌^◌, ◌<◌, ◌≤◌, ◌++◌, length, vec_len, vec_capacity}
use Rattle.std.specs.Vec.Iter.{into_iter_items, into_iter_len}
use Rattle.us_crew.specs.Values.{values_from}
use Rattle.us_crew.specs.Parts.{EachFrom, AreReady, FaultFrom}
use Rattle.us_crew.proofs.turns.in_turn.Given as goal

-- what is still to do makes up the whole
abbrev pub invariant-loop-item : goal.invariant-loop-item
invariant-loop-item g l =
    let rest = into_iter_items l.rest in
    let value = g.W.Work.value l.work in
    let may = g.W.Work.may_fail l.work in
    let must = g.W.Work.must_fail l.work in
    (into_iter_len l.rest ≡ length rest) ×
    (vec_len l.answers + length rest ≤ vec_capacity l.answers) ×
    (l.index + length rest < 2 ^ 64) ×
    AreReady (g.G.Gate.entered l.gate l.phase) (g.W.Work.accepts l.work) l.index rest ×
    (l.answers.items ++ values_from value l.index rest ≡ values_from value l.fn.start l.fn.items.items) ×
    (EachFrom (λ k item. ¬ must k item) l.index rest → EachFrom (λ k item. ¬ must k item) l.fn.start l.fn.items.items) ×
    ((place : ℕ) (said : _) → FaultFrom may must l.index rest place said →
    FaultFrom may must l.fn.start l.fn.items.items place said)

abbrev pub decreases-loop-item : goal.decreases-loop-item
decreases-loop-item g l = into_iter_len l.rest
