-- No bytes have two readings.
use Rattle.us_codec.specs.Laws.{OneReading, OneSpelling}
use Rattle.us_codec.proofs.BodyLemmas.{one_body}
use Rattle.us_codec.proofs.FileLemmas.{one_file}

pub one_spelling : OneSpelling
one_spelling = one_body

pub one_reading : OneReading
one_reading = one_file
