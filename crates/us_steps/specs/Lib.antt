-- Read in this order: the steps that a round is made of; the machine that goes through them; the round that they come to,
-- and the laws of all these; plays one after another by the machine; what a replay does, as steps; then small lists of
-- steps. What a round is stands in us_round. In a definition `≡` is equals, `×` and, `→` implies, `∷` one item before a list,
-- `++` one list behind another, ℕ has the whole numbers from 0, and an `Option` is `Some` of a value, or `None`.

-- the steps that a round is made of: when a list of them is complete, and the cut that it makes,
pub mod Steps
-- the machine that goes through them,
pub mod Machines
-- the round that they come to, and runs of such rounds,
pub mod Plays
-- the laws of all these,
pub mod Laws
-- plays one after another, by the machine, and the law of them,
pub mod MachinePlays
-- what a replay does, as steps,
pub mod Replaying
-- and small lists of steps
pub mod Examples
-- inside the crate, and of no use to a reader of the promise: what the code keeps of a machine
pub mod Tallies
