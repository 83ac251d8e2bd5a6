-- Read in this order: what a line of a report may tell; which bytes are reports, and how their lines are read; which places
-- go before which; what a rule's answer says; the codes of the rules.
-- In a definition `≡` is equals, `×` and, `⊎` or, `→` implies, `⊥` what never is, `∷` one item before a list, `++` one list
-- behind another, and ℕ has the whole numbers from 0; `-` stops at 0.

-- what lines may tell
pub mod Rows
-- which bytes are reports
pub mod Reports
-- how their lines are read
pub mod ReportReaders
-- what is remembered of a line
pub mod Fronts
-- which places go before which
pub mod Order
-- the first place at which a rule doesn't hold
pub mod Breaches
-- what the code of a rule is
pub mod Rules
-- lines and the order at small inputs
pub mod RowExamples
pub mod OrderExamples
