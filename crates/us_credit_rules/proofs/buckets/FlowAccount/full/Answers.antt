use Rattle.us_credit_rules.proofs.LevelLemmas.{full-has}
use Rattle.us_credit_rules.proofs.buckets.FlowAccount.full.Goals as goal

pub spend-requires : goal.spend-requires
spend-requires c = rw (c.full-bucket.ensures, c.from.ensures) (full-has c.args.rate c.args.burst)
