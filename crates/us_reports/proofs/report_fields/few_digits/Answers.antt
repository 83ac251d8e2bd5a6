use Rattle.std.proofs.Common.{sym, ◌∙◌}
use Rattle.us_reports.proofs.ReportPlaceLemmas.{two_digits}
use Rattle.us_reports.proofs.report_fields.few_digits.Goals as goal

pub returns-clause-read : goal.returns-clause-read
returns-clause-read c =
    c.more_digits.ensures.read
    ∙ sym (two_digits c.args.bytes.now c.args.from c.args.one c.from.result c.from-2.result c.requires.feed c.requires.digit
    (sym c.is_ascii_digit.ensures.value ∙ c.if-not-is_ascii_digit.false)
    (sym c.is_ascii_digit-2.ensures.value ∙ c.if-not-is_ascii_digit-2.false) c.from.ensures c.from-2.ensures)
