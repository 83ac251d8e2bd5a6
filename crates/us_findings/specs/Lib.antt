-- Read in this order: lines and columns of a text; where things stand in it; what the errors of a configuration and of a
-- trace are told against; the records of a trace, as they are read one by one. In a definition `≡` is equals.
pub mod Lines
pub mod Places
-- small values of lines and columns, computed
pub mod Examples
pub mod ConfigErrors
pub mod TraceErrors
pub mod Rows
-- inside the crate: the first of the errors that were found
pub mod Found
