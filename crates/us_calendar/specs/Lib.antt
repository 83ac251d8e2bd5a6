-- Read in this order: the entries of a channel; when their occurrences are ideal, and where they may start; when their flows
-- are silent; how a round settles them; then laws, and small inputs computed.
-- In a definition `≡` is equals, `×` is and, `→` implies, `++` one list behind another, `∷` one item before a list, and
-- ℕ has the whole numbers from 0; `/` rounds down.

-- what stands in the calendar of a channel
pub mod Entries
-- the occurrences of an entry, by their numbers
pub mod Occurrences
-- which flows are active, and which are silent
pub mod Activity
-- what a round does with occurrences that are due
pub mod Settling
-- the calendar of a channel, from round to round
pub mod Calendars
-- what becomes of an occurrence over a run
pub mod Runs
-- laws of settling
pub mod Laws
-- what a round settles by all cuts so far, and the law of it
pub mod ByCuts
-- the definitions at small inputs: entries,
pub mod EntryExamples
-- what becomes of their occurrences,
pub mod Examples
-- and what where a flow falls silent
pub mod ActivityExamples
-- inside the crate: what is noted of entries that are due later,
pub mod Agendas
-- and how a calendar is kept
pub mod Kept
