use Rattle.std.proofs.Common.{◌+◌, ◌*◌, ◌≤◌, length}
use Rattle.std.specs.Option.{option_copied}
use Rattle.us_credit_rules.specs.Seats.{word_in}
use Rattle.us_credit_rules.proofs.RepeatLemmas.{key_inside}
use Rattle.us_credit_rules.proofs.SeatLemmas.{of_seat, word_is}
use Rattle.us_credit_rules.proofs.repeats.Repeats.take.Goals as goal

pub told_again-told-requires : goal.told_again-told-requires
told_again-told-requires c =
    let long = length c.args.self.now.last.items in
    rw (c.key_of.ensures, c.deref_mut.ensures.value)
    (key_inside (word_in (option_copied c.args.seat)) c.args.grant.now.channel long
    (word_is (λ k. k * 256 + 256 ≤ long) (option_copied c.args.seat)
    (of_seat (λ turn. turn.number * 256 + 256 ≤ long) c.args.seat c.requires.room)))
