use Rattle.std.proofs.Common.{refl}
use Rattle.us_credit_rules.proofs.finals.is_right.Goals as goal

pub returns : goal.returns
returns c =
    rw (c.is_told.ensures, c.left-units.ensures, c.account_of.ensures, c.place.ensures, c.deref.ensures.value, c.left_of.ensures, c.account_at-account.ensures, c.bytes_at.ensures, c.word.ensures, c.word-2.ensures, c.deref-2.ensures.value)
    refl
