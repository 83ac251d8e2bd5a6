-- Read in this order: what is requested; the division of bytes over channels; the plan of a round; its claims, channel by
-- channel; what holds of every plan.
-- In a definition `≡` is equals, `≤` compares, `×` is and, `⊎` or, `→` implies, `∷` one item before a list, and ℕ has
-- the whole numbers from 0; `-` stops at 0, and `/` rounds down.

-- what of a round's cut clusters request
pub mod Requested
-- bytes over channels, by their weights
pub mod Divisions
-- how many bytes each turn may send
pub mod Plans
-- what turns may send on each channel, and what it takes there
pub mod Claims
-- what holds of every plan
pub mod PlanLaws
-- laws: that one pass does where nothing is reserved, that full channels give nothing, and whose the claims of a plan are
pub mod Laws
-- who asks in a round, and that its plan is theirs
pub mod Asking
-- what plans one round after another
pub mod Planners
-- the definitions at small inputs
pub mod Examples
-- inside the crate, and of no use to a reader of the promise: a plan in the making,
pub mod PartialPlans
-- what grants on a channel cost,
pub mod KnownCosts
-- how it is kept who asks,
pub mod Askers
-- and turns by the places of their channels
pub mod TurnRows
