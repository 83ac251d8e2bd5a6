-- In a definition `≡` is equals, `×` and, `¬` not, and ℕ has the whole numbers from 0. `codes` has the bytes of a text.

-- which order the words are
pub mod Options
-- what help says behind the options
pub mod HelpTexts
