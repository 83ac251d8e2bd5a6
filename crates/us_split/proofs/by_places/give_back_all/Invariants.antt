use Rattle.std.proofs.Common.{◌≡◌, drop, map}
use Rattle.std.specs.Prelude.{slice_index}
use Rattle.us_split.specs.PartialPlans.{returned}
use Rattle.us_split.specs.TurnRows.{at_seats, returned_at}
use Rattle.us_split.proofs.by_places.give_back_all.Given as goal

-- what the shares at the other seats cost is still to be given back
abbrev pub invariant-loop-i : goal.invariant-loop-i
invariant-loop-i l = record {
  returned : at_seats (λ k. returned l.header (slice_index l.shares k)) l.i (drop l.i l.seats) l.channels ≡
      returned_at l.header l.shares l.seats l.fn.channels;
  kept : map (λ c. c.channel) l.channels ≡ map (λ c. c.channel) l.fn.channels;
}
