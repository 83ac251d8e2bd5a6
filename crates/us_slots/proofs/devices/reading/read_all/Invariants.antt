use Rattle.std.proofs.Common.{◌-◌, ◌≡◌, false, ◌≤◌}
use Rattle.std.specs.Vec.{vec_len}
use Rattle.std.specs.Io.KnownBytes.{Consumes}
use Rattle.us_slots.proofs.devices.reading.read_all.Given as goal

abbrev pub invariant-loop-bytes : goal.invariant-loop-bytes
invariant-loop-bytes g l =
    (vec_len l.bytes ≤ l.most) × (g.S.Source.failed l.source ≡ false) ×
    Consumes (g.S.Source.remaining l.fn.source) (g.S.Source.remaining l.source) l.bytes.items

abbrev pub decreases-loop-bytes : goal.decreases-loop-bytes
decreases-loop-bytes g l = l.most - vec_len l.bytes
