-- Read in this order: what is answered of two texts; what that says of rules by their numbers; laws of the answers;
-- lines that credit too much; what faults are told as.
-- In a definition `≡` is equals, `×` is and, `⊎` or, `→` implies, and ℕ has the whole numbers from 0.

-- what a verdict says of two texts
pub mod Verdicts
-- what a judge is told of lines
pub mod Judges
-- laws: what a verdict names is the first that is broken
pub mod Named
-- laws: two texts have one answer, and those that are lawful hold
pub mod Laws
-- laws: lines that credit more than any burst carries fail
pub mod Bursts
-- what faults are told as
pub mod Faults
