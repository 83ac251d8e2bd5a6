-- Read in this order: what a round gives; its texts; its laws; then examples. What a channel comes to in a round stands in
-- us_channel, and how a round comes to its channels in us_round. In a definition `≡` is equals, `×` and, `→` implies, `++`
-- one list behind another, `∷` one item before a list, and ℕ has the whole numbers from 0; `-` stops at 0.

-- the MAPs and the lines that a round comes to
pub mod Outputs
-- the text of a line
pub mod Lines
-- what a round writes to each file
pub mod Files
-- who is pending, by what is outstanding before and after the grants; what boards keep
pub mod Leftovers
-- inside the crate: G lines by where they start
pub mod Orders
-- inside the crate: what is written ahead
pub mod Ahead
-- laws of what a round gives
pub mod OutputLaws
-- the definitions at small inputs
pub mod OutputExamples
pub mod LineExamples
