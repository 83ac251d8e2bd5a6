-- The records of a text, as they are read one by one.
use Rattle.std.specs.Prelude.{List}
use Rattle.us_requests.specs.Texts.{Record}

-- the fields of the record that was read last, none at first, and the records that are left
pub record Reading : Type 0 where
  pub fields : Record
  pub left : List Record
