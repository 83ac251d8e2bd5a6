use Rattle.std.proofs.Common.{List}
use Rattle.us_lawful.proofs.SameLemmas.{same_filter_map, same_moved}
use Rattle.us_check.specs.declared.judging.Standing.{Standing}
use Rattle.us_check.specs.Judges.{AreStandings, line_there, lines_there}
use Rattle.us_check.proofs.judging.judge_sorted.Goals as goal

pub take_sorted-requires-clause-told : goal.take_sorted-requires-clause-told
take_sorted-requires-clause-told c =
    (c.requires.maps.0, c.in_ok-judge.ensures.told c.args.maps.now c.requires.maps.0 c.requires.maps.1)

pub returns : goal.returns
returns c = λ ms is.
    let sorted : List Standing = c.in_ok-standings.standings.items in
    let stand : AreStandings c.args.config.now c.args.trace.now.rounds c.args.report.now sorted = c.in_ok-standings.ensures in
    record {
      lines = lines_there c.args.report.now stand.read;
      told = lines_there c.args.report.now sorted;
      read = stand.lines;
      same = same_filter_map (λ s. line_there c.args.report.now s.at) stand.read sorted
          (same_moved stand.read sorted stand.moved);
      judge = rw c.deref.ensures.value at
          (c.in_ok-take_sorted.ensures ms (c.in_ok-judge.ensures.told c.args.maps.now ms is));
    }
