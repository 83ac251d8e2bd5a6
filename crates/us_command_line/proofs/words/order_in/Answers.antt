use Rattle.clap.specs.Words.{found_of, rows_of}
use Rattle.us_command_line.proofs.OptionLemmas.{met_is}
use Rattle.us_command_line.proofs.words.order_in.Goals as goal

pub returns-clause-some : goal.returns-clause-some
returns-clause-some c =
    rw (met_is c.args.given.now c.in_ok-name.name.now (rows_of (found_of c.in_ok-name.options.now)) c.in_ok-name.ensures.name c.in_ok-name.ensures.rows)
    c.order_named.ensures.some

pub returns-clause-none : goal.returns-clause-none
returns-clause-none c =
    rw (met_is c.args.given.now c.in_ok-name.name.now (rows_of (found_of c.in_ok-name.options.now)) c.in_ok-name.ensures.name c.in_ok-name.ensures.rows)
    c.order_named.ensures.none
