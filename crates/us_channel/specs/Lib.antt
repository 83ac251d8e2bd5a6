-- Read in this order: the reserves of a board; where claims are granted; a channel, once its reserves and its calendar have
-- their minislots, and once its claims are placed; its MAP; laws; then examples. What calendars settle stands in
-- us_calendar. In a definition `≡` is equals, `≤` compares, `×` is and, `⊎` or, `→` implies, `++` one list behind another,
-- `∷` one item before a list, and ℕ has the whole numbers from 0; `-` stops at 0, `/` rounds down, and `%` is the remainder.

-- minislots that belong to all modems
pub mod Reserves
-- where a claim is granted
pub mod Placements
-- a channel in a round
pub mod Channels
-- its MAP
pub mod Maps
-- what its board has then, and whose its grants are
pub mod Laws
-- the definitions at small inputs
pub mod PlacementExamples
-- the memory of a channel
pub mod Tracks
