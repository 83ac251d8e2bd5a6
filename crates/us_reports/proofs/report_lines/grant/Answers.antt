use Rattle.std.proofs.Common.{◌-◌, arith, drop, take}
use Rattle.us_reports.proofs.FrontLemmas.{front_here, remembered}
use Rattle.us_reports.proofs.ReportPlaceLemmas.{feed_within}
use Rattle.us_reports.proofs.report_lines.grant.Goals as goal

pub between-requires : goal.between-requires
between-requires c =
    let front = front_here c.args.bytes.now c.args.from c.in_ok-round.at c.in_ok-channel.at c.in_ok-at.at c.in_ok-round.round
    c.in_ok-channel.channel c.requires.feed c.in_ok-at.ensures.feed c.requires.letter c.in_ok-round.ensures.read
    c.in_ok-channel.ensures.read c.in_ok-at.ensures.read in
    (front.0, omega (arith, feed_within c.args.bytes.now c.in_ok-at.at c.in_ok-at.ensures.feed))

pub returns-clause-remembered : goal.returns-clause-remembered
returns-clause-remembered c =
    let front = front_here c.args.bytes.now c.args.from c.in_ok-round.at c.in_ok-channel.at c.in_ok-at.at c.in_ok-round.round
    c.in_ok-channel.channel c.requires.feed c.in_ok-at.ensures.feed c.requires.letter c.in_ok-round.ensures.read
    c.in_ok-channel.ensures.read c.in_ok-at.ensures.read in
    remembered c.between.result c.grant_tail.new.grant c.in_ok-round.round c.in_ok-channel.channel
    (take (c.in_ok-at.at - c.args.from) (drop c.args.from c.args.bytes.now)) c.between.ensures front.1 front.2 front.3
    c.in_ok-next.ensures.round c.in_ok-next.ensures.channel
