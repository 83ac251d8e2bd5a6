-- In a definition `≡` is equals, `×` is and, `→` implies, `++` is one list behind another, and ℕ has the whole numbers from
-- 0.

-- the law: what a replay wrote holds
pub mod OwnTexts
-- and texts of another trace
pub mod Examples
