-- Read in this order: which bytes are the MAPs of a maps file, and what these say of themselves; the rounds and channels of
-- lines; who has each minislot of a MAP, told one line after another; and of calendars the entries, what lines name, what
-- fails, and what is kept of lines.
-- In a definition `≡` is equals, `≢` differs from, `×` is and, `⊎` or, `→` implies, `⊥` what never is, `∷` one item before a
-- list, `++` one list behind another, and ℕ has the whole numbers from 0; `/` rounds down, `%` is what is left then, and `-`
-- stops at 0.

-- the MAPs of a maps file
pub mod MapsReading
-- their bodies, judged where they stand
pub mod Bodies
-- what they say of themselves
pub mod Headings
-- the rounds and channels of lines
pub mod LackedPlaces
-- the first minislot of a MAP that isn't what it must be
pub mod Minislots
pub mod Pieces
-- which MAP a line is for
pub mod RegionLines
-- what must be in a MAP
pub mod MapRegions
-- the rule, told one line after another
pub mod Gathered
-- maps files at small inputs
pub mod Examples
-- the entries of all channels
pub mod Listed
-- what lines name
pub mod Naming
-- what fails
pub mod Failures
-- what is kept of lines
pub mod Told
