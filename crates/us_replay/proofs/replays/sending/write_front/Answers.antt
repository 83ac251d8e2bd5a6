use Rattle.std.proofs.Common.{◌≡◌, ◌≤◌, ◌-◌, List, take, drop, length, length-drop, ℕ, arith, subst}
use Rattle.std.specs.Io.KnownBytes.{Appends}
use Rattle.std.proofs.lemmas.List.{take_rest}
use Rattle.us_slots.proofs.DeviceLemmas.{appends_take}
use Rattle.us_replay.proofs.replays.sending.write_front.Goals as goal

pub loop-done-preserved : goal.loop-done-preserved
loop-done-preserved g c =
    let bytes : List ℕ = c.args.bytes.now in
    let done : ℕ = c.loop-done.done in
    let count : ℕ = c.in-Ok.count in
    let rest : take (length bytes - done) (drop done bytes) ≡ drop done bytes = take_rest bytes done in
    let bound : count ≤ length (drop done bytes) = subst (λ l. count ≤ length l) rest c.in-Ok.ensures.bound in
    let taken : Appends (g.S.Sink.contents c.loop-done.sink) (g.S.Sink.contents c.write.new.self) (take count (drop done bytes)) =
    subst (λ l. Appends (g.S.Sink.contents c.loop-done.sink) (g.S.Sink.contents c.write.new.self) (take count l)) rest c.in-Ok.ensures.bytes in (
      omega (arith, length-drop done bytes, bound, c.loop-done-test.true),
      grind (arith, c.in-Ok.ensures.fails, c.if-count-eq0.false, c.loop-done.invariant),
      appends_take (g.S.Sink.contents c.args.sink.now) (g.S.Sink.contents c.loop-done.sink) (g.S.Sink.contents c.write.new.self) bytes done count c.loop-done.invariant.2 taken,
      λ before. c.in-Ok.ensures.unflushed,
    )
