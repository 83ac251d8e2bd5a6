use Rattle.std.proofs.Common.{◌≡◌, false}
use Rattle.us_requests.specs.Traces.{IsTrace}
use Rattle.us_replay.specs.Progress.{Along, Holds, output_in}
use Rattle.us_replay.specs.Replays.{TookRounds, grown}
use Rattle.us_replay.proofs.replays.run_by.Given as goal

abbrev pub invariant-loop-done : goal.invariant-loop-done
invariant-loop-done g l =
    IsTrace l.trace × Along l.fn.config l.trace l.done l.state l.progress ×
    TookRounds (output_in l.fn.config l.trace) l.sent
    (grown (g.W1.Sink.contents l.fn.maps) (g.W1.Sink.contents l.maps))
    (grown (g.W2.Sink.contents l.fn.report) (g.W2.Sink.contents l.report)) ×
    (g.W1.Sink.failed l.maps ≡ false) × (g.W2.Sink.failed l.report ≡ false) × g.D.Hands.knows l.doers l.fn.config ×
    (g.W1.Sink.flushed l.fn.maps ≡ false → g.W1.Sink.flushed l.maps ≡ false) ×
    (g.W2.Sink.flushed l.fn.report ≡ false → g.W2.Sink.flushed l.report ≡ false) ×
    Holds (output_in l.fn.config l.trace) l.sent l.done l.progress.batch
