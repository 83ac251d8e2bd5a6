use Rattle.csv.specs.Records.{fields_of}
use Rattle.us_requests.proofs.RecordLemmas.{read-left}
use Rattle.us_findings.proofs.rows.Rows.read.Goals as goal
use Rattle.us_findings.proofs.rows.Rows.read.Goals.{in-Ok, in-Err}

pub returns : goal.returns
returns c =
    let read = c.read_byte_record in
    let left = read-left c.self.inside.reader read.new.self (fields_of read.new.row) read.result c.self.invariant read.ensures.failed read.ensures.reads in
    elim c.match-read_byte_record.branch [
      | in-Ok w ↦ rw (w.result-is, ← c.self.view_is) (rw w.in-Ok.is at left)
      | in-Err w ↦ rw w.result-is tt
    ]
