-- The laws, each by its lemmas.
use Rattle.us_intake.specs.Laws.{WholeIsAlone, WholeBalances, StepsKeepAccount}
use Rattle.us_intake.proofs.AccountLemmas.{others_spent, whole_takes, whole_submitted, whole_balances}
use Rattle.us_intake.proofs.StepLemmas.{submits, swaps, splits, joins, looks, opens}

pub alone-whole : WholeIsAlone
alone-whole terms words parts seat part a at whole =
    (whole_takes terms words parts a seat part at whole, others_spent terms words parts a seat part at whole)

pub balanced-whole : WholeBalances
balanced-whole terms words parts seat part a at whole cluster = (
  whole_submitted terms words parts a seat part at whole cluster,
  whole_balances terms words parts a seat part at whole cluster,
)

pub steps-keep : StepsKeepAccount
steps-keep = record {
  opening = opens;
  submitting = submits;
  taking = swaps;
  splitting = splits;
  joining = joins;
  looking = looks;
}
