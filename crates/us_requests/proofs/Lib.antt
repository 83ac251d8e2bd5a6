-- what a reader of records has left
pub mod RecordLemmas
-- fields and numbers of a record
pub mod FieldLemmas
-- asks that are nearly in the order of their rounds
pub mod SettlingLemmas
-- the asks in the order of their rounds
pub mod SpanLemmas
-- what a sort keeps, and what a search finds
pub mod SearchLemmas
-- the text of a trace, record by record
pub mod TextLemmas
-- that a text without a fault tells no more than a trace may have
pub mod SoundTextLaws
-- clusters, bytes and rounds of asks
pub mod AskLemmas
-- SIDs that are kept
pub mod KnownLemmas
-- requests, filed as asks and counts
pub mod FilingLemmas
-- what the asks of a trace add up to
pub mod TotalLemmas
-- asks and requests add up alike, in any order
pub mod CutLemmas
-- the trace of filed requests
pub mod TraceLemmas
-- a source that was not read to its end
pub mod ReadingLemmas
