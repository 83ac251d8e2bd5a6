use Rattle.std.proofs.Common.{◌≢◌, get_or, sym, ◌∙◌}
use Rattle.us_reports.proofs.ReportPlaceLemmas.{feed_behind, byte_other, word_step}
use Rattle.us_reports.proofs.report_fields.after.Goals as goal

pub loop-byte-preserved : goal.loop-byte-preserved
loop-byte-preserved c =
    let other : get_or c.args.word.now c.loop-byte.byte-index 0 ≢ 10 =
    byte_other c.args.word.now c.loop-byte.byte-index c.requires.other c.loop-byte-test.true in
    record {
      feed = feed_behind c.args.bytes.now c.loop-byte.at c.loop-byte.invariant.feed
          (λ same. other (sym c.if-bytes-at.false ∙ same));
      left = sym (word_step c.args.word.now c.args.bytes.now c.loop-byte.byte-index c.loop-byte.at c.loop-byte.invariant.feed
          c.loop-byte-test.true c.if-bytes-at.false) ∙ c.loop-byte.invariant.left;
    }
