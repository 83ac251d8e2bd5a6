-- Read in this order: the round and the schedule; then examples. What a channel comes to in a round stands in us_channel, and
-- what a round gives, its MAPs and its lines, in us_output. In a definition `≡` is equals, `×` and, `→` implies, `++` one list
-- behind another, `∷` one item before a list, and ℕ has the whole numbers from 0; `-` stops at 0.

-- a round, and the schedule
pub mod Rounds
-- the order in which claims are placed
pub mod TurnByTurn
-- the definitions at small inputs: who is pending,
pub mod PendingExamples
-- whole rounds,
pub mod RoundExamples
-- one turn after another,
pub mod TurnExamples
-- rounds with calendars,
pub mod CalendarExamples
-- and rounds with marks of activity
pub mod ActivityExamples
-- the last lines of a report, which the last state tells
pub mod FinalRows
-- what a round's grants take, and what a state keeps
pub mod States
-- laws of the schedule
pub mod ScheduleLaws
-- what its rounds plan first of flows with a minimum rate,
pub mod MinimumRates
-- and that at small inputs
pub mod MinimumExamples
-- the texts of faults
pub mod Faults
-- buckets that are refilled when they are asked for,
pub mod Buckets
-- a state without its calendars,
pub mod Cores
-- its parts at each stage of a round,
pub mod Parts
-- who does its phases,
pub mod Hands
-- and claims that go to a worker with their channel
pub mod Placing
