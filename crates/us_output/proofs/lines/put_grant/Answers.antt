use Rattle.std.proofs.Common.{rules, append_assoc}
use Rattle.us_output.proofs.lines.put_grant.Goals as goal

pub returns-clause-line : goal.returns-clause-line
returns-clause-line c =
    rw (c.put_byte.ensures.bytes, c.put_four-at-2.ensures.bytes, c.put_four-at.ensures.bytes, c.put_event-at.ensures.bytes) (search (rules, append_assoc))
