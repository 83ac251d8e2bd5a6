use Rattle.std.proofs.Common.{◌≡◌, ◌<◌, length, true, false, lt-ltb, le-ltb, arith}
use Rattle.std.specs.Prelude.{slice_index}
use Rattle.std.proofs.lemmas.List.Filters.{FiltersInPlace-more_no, FiltersInPlace-more_set}
use Rattle.us_split.specs.Asking.{asks}
use Rattle.us_split.proofs.asking.listing.drop_answered.Goals as goal
use Rattle.us_split.proofs.asking.listing.drop_answered.Goals.{then-bytes_of-gt0, else-bytes_of-gt0}

pub loop-at-preserved : goal.loop-at-preserved
loop-at-preserved c =
    let filtered = c.loop-at.invariant.filtered in
    let place = c.index-place.result.now in
    let bytes = slice_index c.args.left.now (slice_index c.args.numbers.now place) in
    let inside : c.loop-at.at < length c.loop-at.list.items = omega (arith, c.loop-at-test.true, c.len-at-end.ensures, c.args.list.now.ok.0, filtered.long) in
    elim c.if-bytes_of-gt0.branch [
      | then-bytes_of-gt0 w ↦
          let stays : asks c.args.left.now (slice_index c.args.numbers.now place) ≡ true =
          lt-ltb 0 bytes (omega (arith, w.if-bytes_of-gt0.true, c.bytes_of.ensures)) in
          rw (w.list-is, w.kept-is) (record {
            filtered = FiltersInPlace-more_set filtered inside stays c.index-place.ensures;
            capacity = c.loop-at.invariant.capacity;
          })
      | else-bytes_of-gt0 w ↦
          let goes : asks c.args.left.now (slice_index c.args.numbers.now place) ≡ false =
          le-ltb 0 bytes (omega (arith, w.if-bytes_of-gt0.false, c.bytes_of.ensures)) in
          rw (w.list-is, w.kept-is) (record {
            filtered = FiltersInPlace-more_no filtered inside goes c.index-place.ensures;
            capacity = c.loop-at.invariant.capacity;
          })
    ]
