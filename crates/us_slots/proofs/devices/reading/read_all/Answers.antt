use Rattle.std.proofs.Common.{◌++◌, List, take, length-append, ℕ, arith}
use Rattle.std.proofs.lemmas.List.{length-take}
use Rattle.std.proofs.KnownBytes.{Consumes-trans}
use Rattle.us_slots.proofs.devices.reading.read_all.Goals as goal

-- what was kept, and nothing more at the end
pub returns-then-count-eq0-clause-whole : goal.returns-then-count-eq0-clause-whole
returns-then-count-eq0-clause-whole g c =
    let kept : List ℕ = c.loop-bytes.bytes.items in
    let piece : List ℕ = take c.in_ok-count.count c.read.new.buf in (
      kept ++ piece,
      omega (
        arith,
        length-append kept piece,
        length-take c.in_ok-count.count c.read.new.buf,
        c.if-count-eq0.true,
        c.loop-bytes.bytes.ok.0,
        c.loop-bytes.invariant.0,
      ),
      Consumes-trans (g.S.Source.remaining c.args.source.now) (g.S.Source.remaining c.loop-bytes.source)
          (g.S.Source.remaining c.read.new.self) kept piece c.loop-bytes.invariant.2 c.in_ok-count.ensures.bytes.0,
    )

-- what was kept, and the piece that there was no memory for
pub returns-in_err-extend_from_slice-clause-wanting :
    goal.returns-in_err-extend_from_slice-clause-wanting
returns-in_err-extend_from_slice-clause-wanting g c = λ _.
    let kept : List ℕ = c.loop-bytes.bytes.items in
    let piece : List ℕ = take c.in_ok-count.count c.read.new.buf in (
      kept ++ piece,
      omega (
        arith,
        length-append kept piece,
        length-take c.in_ok-count.count c.read.new.buf,
        c.len.ensures,
        c.if-count-most.false,
        c.loop-bytes.invariant.0,
      ),
      Consumes-trans (g.S.Source.remaining c.args.source.now) (g.S.Source.remaining c.loop-bytes.source)
          (g.S.Source.remaining c.read.new.self) kept piece c.loop-bytes.invariant.2 c.in_ok-count.ensures.bytes.0,
    )
