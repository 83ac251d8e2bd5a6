-- In a definition `≡` is equals, `×` and, `¬` not, `⊤` what always is, and ℕ has the whole numbers from 0.

-- the worst that a listing tells, behind what is listed
pub mod Listings
