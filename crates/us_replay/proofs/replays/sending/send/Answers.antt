use Rattle.std.proofs.Common.{◌≡◌, ◌≤◌, ◌+◌, ℕ, length, take, ap, subst, ◌∙◌, inl, inr, arith, lt-ltb}
use Rattle.std.proofs.lemmas.Bool.{cases_lt}
use Rattle.std.proofs.lemmas.List.{length-take-le, take-take}
use Rattle.us_replay.specs.Batches.{Batch, lines_before, rounds_recorded, rounds_within}
use Rattle.us_replay.specs.Replays.{Took, grown}
use Rattle.us_replay.proofs.BatchLemmas.{before-inside}
use Rattle.us_replay.proofs.replays.sending.send.Goals as goal

pub returns-then-record_bytes-records-clause-sent :
    goal.returns-then-record_bytes-records-clause-sent
returns-then-record_bytes-records-clause-sent g c =
    let b : Batch = c.args.batch.now in
    let m : ℕ = c.write_front-record_bytes.result in
    let n : ℕ = c.write_front-line_bytes.result in
    let recorded : c.rounds_within-recorded.result ≡ rounds_recorded b m =
    c.rounds_within-recorded.ensures.value ∙ ap (λ bs. rounds_within m (length bs) b.ends) c.lines.ensures in
    let whole : ℕ = lines_before (rounds_recorded b m) b.ends in
    let inside : whole ≤ length b.lines =
    before-inside b (rounds_recorded b m) c.requires.inside (omega (arith, recorded, c.rounds_within-recorded.ensures.inside)) in
    let piece : c.lines_of.result.now ≡ take whole b.lines =
    c.lines_of.ensures ∙ ap (λ rounds. take (lines_before rounds b.ends) b.lines) recorded in
    let piece_length : length c.lines_of.result.now ≡ whole = ap length piece ∙ length-take-le whole b.lines inside in
    let no_more : n ≤ whole = omega (arith, c.write_front-line_bytes.ensures.inside, piece_length) in
    let front : take n c.lines_of.result.now ≡ take n b.lines = ap (take n) piece ∙ take-take n whole b.lines no_more in
    record {
      record_bytes = m;
      short = omega (arith, c.if-record_bytes-records.true, ap length c.records-2.ensures);
      maps = subst (λ bs. Took (grown (g.W1.Sink.contents c.args.maps.now) (g.W1.Sink.contents c.write_front-record_bytes.new.sink)) (take m bs))
          c.records.ensures c.write_front-record_bytes.ensures.taken;
      line_bytes = n;
      no_more = no_more;
      all_or_failed = elim (cases_lt n (length c.lines_of.result.now)) [
        | inl short ↦ inr (c.write_front-line_bytes.ensures.failed ∙ lt-ltb n (length c.lines_of.result.now) short)
        | inr all ↦ inl (omega (arith, all, piece_length, no_more))
      ];
      report = subst (Took (grown (g.W2.Sink.contents c.args.report.now) (g.W2.Sink.contents c.write_front-line_bytes.new.sink)))
          front c.write_front-line_bytes.ensures.taken;
      done_is = ap (λ rounds. c.args.before + rounds) c.rounds_within-done.ensures.value;
    }
