-- Read in this order: what a run is judged by, and what is judged; the rules, each at a place; what is lawful; the output
-- of a schedule, and that it is lawful. The text of a line, and files, stand in us_output.
-- In a definition `≡` is equals, `×` is and, `→` implies, `++` one list behind another, `∷` one item before a list, and ℕ
-- has the whole numbers from 0; `/` rounds down, and `-` stops at 0.

-- runs, and what is judged of them
pub mod Runs
-- what each MAP says of itself
pub mod Headings
-- the rounds and channels of lines
pub mod Places
-- the minislots of MAPs
pub mod Regions
-- the occurrences of calendars
pub mod CalendarLines
-- the rates of flows
pub mod Rates
-- what requests are credited
pub mod Credits
-- the end of a report
pub mod Finals
-- all rules
pub mod Lawful
-- texts that are lawful
pub mod Texts
-- the output of a schedule
pub mod Output
-- laws: it is lawful
pub mod Laws
-- at small inputs: the stored run,
pub mod Examples
-- and each rule
pub mod HeadingExamples
pub mod RegionExamples
pub mod CalendarLineExamples
pub mod CreditExamples
pub mod FinalExamples
