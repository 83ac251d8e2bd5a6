use Rattle.std.proofs.Common.{◌≡◌, drop, map}
use Rattle.us_split.specs.TurnRows.{put_from}
use Rattle.us_split.proofs.by_places.put_all.Given as goal

-- the shares at the other seats are still to be claimed
abbrev pub invariant-loop-i : goal.invariant-loop-i
invariant-loop-i l = record {
  put : put_from l.asker l.i (drop l.i l.seats) l.shares l.channels ≡
      put_from l.asker 0 l.seats l.shares l.fn.channels;
  kept : map (λ c. c.channel) l.channels ≡ map (λ c. c.channel) l.fn.channels;
}
