use Rattle.std.proofs.Common.{length, take, ◌-◌, ◌≡◌, false, ◌≤◌}
use Rattle.std.specs.Io.KnownBytes.{Appends}
use Rattle.us_replay.proofs.replays.sending.write_front.Given as goal

abbrev pub invariant-loop-done : goal.invariant-loop-done
invariant-loop-done g l =
    (l.done ≤ length l.bytes) × (g.S.Sink.failed l.sink ≡ false) ×
    Appends (g.S.Sink.contents l.fn.sink) (g.S.Sink.contents l.sink) (take l.done l.bytes) ×
    (g.S.Sink.flushed l.fn.sink ≡ false → g.S.Sink.flushed l.sink ≡ false)

abbrev pub decreases-loop-done : goal.decreases-loop-done
decreases-loop-done g l = length l.bytes - l.done
