-- what lines credit
pub mod CreditLemmas
-- clusters in table order
pub mod SeatLemmas
-- what they ask for and are credited
pub mod LedgerLemmas
-- places
pub mod PlaceLemmas
-- levels of buckets, buckets through rounds, and what rates allow
pub mod LevelLemmas
pub mod WalkLemmas
pub mod BoundLemmas
-- accounts of flows
pub mod FlowLemmas
-- costs of any bytes
pub mod CostLemmas
-- lines of requests, and their channels
pub mod ChannelLemmas
pub mod RepeatLemmas
-- lines behind the last round
pub mod EndLemmas
pub mod TellingLemmas
pub mod TalkerLemmas
-- what is kept of lines, and the rules by it
pub mod KeptLemmas
pub mod RuleLemmas
pub mod LastLemmas
