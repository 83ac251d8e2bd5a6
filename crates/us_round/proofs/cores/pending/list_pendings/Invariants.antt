use Rattle.std.proofs.Common.{◌≡◌, ◌++◌, drop}
use Rattle.std.specs.Prelude.{filter_map}
use Rattle.us_round.specs.Cores.{first_sid_at}
use Rattle.us_round.proofs.cores.pending.list_pendings.Given as goal

abbrev pub invariant-loop-place : goal.invariant-loop-place
invariant-loop-place l =
    l.pendings.items ++ filter_map (first_sid_at l.config) (drop l.place-index l.places)
    ≡ filter_map (first_sid_at l.config) l.places
