-- Batches (ours): the texts of some rounds, which are sent together, the records in one piece and the lines in one.
use Rattle.std.specs.Prelude.{◌≡◌, ℕ, ◌+◌, ◌<◌, ◌≤◌, ◌⊎◌, ◌&&◌, ◌||◌, Bool, true, List, [], ◌∷◌, ◌++◌, length, map, flat_map, take, nat_le, slice_index, Result, Ok, Err}
use Rattle.std.specs.List.{AllByRecursion, prefix_len, range_with_len}
use Rattle.us_output.specs.Outputs.{RoundOut}
use Rattle.us_output.specs.declared.rows.Row.{Row}
use Rattle.us_output.specs.Files.{records, round_lines, lines}
use Rattle.us_replay.specs.Endings.{Ending, Refused, StoppedBy, Maps, Report, Memory}
use Rattle.us_replay.specs.Replays.{Growth, Took}
use Rattle.us_replay.specs.declared.replays.batches.End.{End}

pub record Batch : Type 0 where
  pub records : List ℕ
  pub lines : List ℕ
  -- where each round ends in both
  pub ends : List End

-- where so many rounds end
abbrev pub end_of : List RoundOut → ℕ → End
end_of rounds count =
    record { records = length (flat_map records (take count rounds)); lines = length (flat_map round_lines (take count rounds)) }

-- where each of them ends
unfoldable pub ends_of : List RoundOut → List End
ends_of rounds = map (λ before. end_of rounds (before + 1)) (range_with_len 0 (length rounds))

-- the batch of these rounds, with the lines at the end of the report, if there are any
abbrev pub batch_of : List RoundOut → List Row → Batch
batch_of rounds last = record {
  records = flat_map records rounds;
  lines = flat_map round_lines rounds ++ lines last;
  ends = ends_of rounds;
}

-- the empty one
abbrev pub no_rounds : Batch
no_rounds = record { records = []; lines = []; ends = [] }

-- with the texts of one more round
unfoldable pub with_next : Batch → RoundOut → Batch
with_next b out =
    let all_records : List ℕ = b.records ++ records out in
    let all_lines : List ℕ = b.lines ++ round_lines out in
    record {
      records = all_records;
      lines = all_lines;
      ends = b.ends ++ record { records = length all_records; lines = length all_lines } ∷ [];
    }

-- it is sent once it has so many rounds, bytes of records or bytes of lines. A round's records are at most 15,712 bytes, so
-- that those of a batch fit into the 64 KiB that a pipe holds
abbrev pub max_rounds : ℕ
max_rounds = 256

abbrev pub enough_records : ℕ
enough_records = 49152

abbrev pub enough_lines : ℕ
enough_lines = 65536

abbrev pub is_full : Batch → Bool
is_full b =
    nat_le max_rounds (length b.ends) || nat_le enough_records (length b.records) || nat_le enough_lines (length b.lines)

-- its rounds end inside its lines
abbrev pub AreInside : Batch → Type 0
AreInside b = AllByRecursion (λ end. end.lines ≤ length b.lines) b.ends

-- Sending.

-- a round ends within so many bytes of records and of lines
abbrev pub is_within : ℕ → ℕ → End → Bool
is_within record_bytes line_bytes end = nat_le end.records record_bytes && nat_le end.lines line_bytes

-- how many rounds do
abbrev pub rounds_within : ℕ → ℕ → List End → ℕ
rounds_within record_bytes line_bytes ends = prefix_len (is_within record_bytes line_bytes) ends

-- where the lines of so many rounds end
abbrev pub lines_before : ℕ → List End → ℕ
lines_before rounds ends = slice_index (0 ∷ map (λ end. end.lines) ends) rounds

-- how many rounds have all their records there
abbrev pub rounds_recorded : Batch → ℕ → ℕ
rounds_recorded b record_bytes = rounds_within record_bytes (length b.lines) b.ends

-- The maps file's writer failed: it took so many bytes of the records, and the report's then the lines of the rounds which have
-- their records there, as far as it didn't fail too. The rounds that both have are done.
pub record StoppedAtMaps (b : Batch) (before done : ℕ) (to_maps to_report : Growth) (report_failed : Bool) : Type 0 where
  pub record_bytes : ℕ
  pub short : record_bytes < length b.records
  pub maps : Took to_maps (take record_bytes b.records)
  pub line_bytes : ℕ
  pub no_more : line_bytes ≤ lines_before (rounds_recorded b record_bytes) b.ends
  pub all_or_failed : (line_bytes ≡ lines_before (rounds_recorded b record_bytes) b.ends) ⊎ (report_failed ≡ true)
  pub report : Took to_report (take line_bytes b.lines)
  pub done_is : done ≡ before + rounds_within record_bytes line_bytes b.ends

-- or the report's failed, behind all records
pub record StoppedAtReport (b : Batch) (before done : ℕ) (to_maps to_report : Growth) : Type 0 where
  pub maps : Took to_maps b.records
  pub line_bytes : ℕ
  pub short : line_bytes < length b.lines
  pub report : Took to_report (take line_bytes b.lines)
  pub done_is : done ≡ before + rounds_within (length b.records) line_bytes b.ends

-- a batch was sent behind so many rounds
abbrev pub Sent : Batch → ℕ → Growth → Growth → Bool → Result (Unit {0}) Ending → Type 0
Sent b before to_maps to_report report_failed (Ok _) = Took to_maps b.records × Took to_report b.lines
Sent b before to_maps to_report report_failed (Err (StoppedBy Maps done)) =
    StoppedAtMaps b before done to_maps to_report report_failed
Sent b before to_maps to_report report_failed (Err (StoppedBy Report done)) = StoppedAtReport b before done to_maps to_report
Sent b before to_maps to_report report_failed (Err (StoppedBy Memory done)) = ⊥
Sent b before to_maps to_report report_failed (Err (Refused why)) = ⊥
