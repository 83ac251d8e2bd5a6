use Rattle.std.proofs.Common.{◌≡◌, take}
use Rattle.us_credit_rules.specs.Ends.{first_of}
use Rattle.us_credit_rules.specs.Activities.{talker_place}
use Rattle.us_credit_rules.proofs.activities.first_untold.Given as goal

abbrev pub invariant-loop-talker : goal.invariant-loop-talker
invariant-loop-talker l =
    l.first ≡ first_of l.channels (talker_place l.activities l.rounds l.talkers.told.told.items)
    (take l.talker-index l.talkers.all.items)
