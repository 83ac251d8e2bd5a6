use Rattle.std.proofs.Common.{◌≡◌, ◌==◌, ℕ, None, get_or, take}
use Rattle.std.specs.List.{list_any}
use Rattle.std.specs.Option.{is_some}
use Rattle.us_credit_rules.specs.declared.talkers.Talker.{Talker}
use Rattle.us_credit_rules.proofs.talkers.ids_of.Given as goal

abbrev pub invariant-loop-talker : goal.invariant-loop-talker
invariant-loop-talker l =
    (id : ℕ) → is_some (get_or l.ids.items id None) ≡ list_any (λ (talker : Talker). talker.id == id) (take l.talker-index l.talkers)
