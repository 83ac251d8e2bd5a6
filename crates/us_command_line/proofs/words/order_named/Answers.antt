use Rattle.us_command_line.proofs.OptionLemmas.{no_check, no_lint, no_pipe, no_replay}
use Rattle.us_command_line.proofs.words.order_named.Goals as goal

pub returns-in_err-file_replay-in-replay-clause-none : goal.returns-in_err-file_replay-in-replay-clause-none
returns-in_err-file_replay-in-replay-clause-none c =
    no_replay _ c.args.name.now _ c.in-replay.is c.in_err-file_replay-in-replay.ensures.none

pub returns-in_err-file_check-in-check-clause-none : goal.returns-in_err-file_check-in-check-clause-none
returns-in_err-file_check-in-check-clause-none c =
    no_check _ c.args.name.now _ c.in-check.is c.in_err-file_check-in-check.ensures.none

pub returns-in_err-file_lint-in-lint-clause-none : goal.returns-in_err-file_lint-in-lint-clause-none
returns-in_err-file_lint-in-lint-clause-none c =
    no_lint _ c.args.name.now _ c.in-lint.is c.in_err-file_lint-in-lint.ensures.none

pub returns-in_err-number_of-in_default-clause-none : goal.returns-in_err-number_of-in_default-clause-none
returns-in_err-number_of-in_default-clause-none c =
    let none = c.in_err-number_of-in_default.ensures.none in
    no_pipe _ c.args.name.now _ c.in_default.not-replay c.in_default.not-check c.in_default.not-lint
    c.in_default.not-dump
    (λ rounds _ h _. none rounds h)

pub returns-in_err-number_of-in_default-2-clause-none : goal.returns-in_err-number_of-in_default-2-clause-none
returns-in_err-number_of-in_default-2-clause-none c =
    let none = c.in_err-number_of-in_default-2.ensures.none in
    no_pipe _ c.args.name.now _ c.in_default.not-replay c.in_default.not-check c.in_default.not-lint
    c.in_default.not-dump
    (λ _ workers _ h. none workers h)
