-- What a draft, which takes elements one by one, asks of the next one.
use Rattle.std.specs.Prelude.{Bool, true, nat_lt, Option, Some, None}
use Rattle.us_codec.specs.Elements.{MapElement}

-- whether the offset of an element is above that of the last one before it, if there is one
unfoldable pub is_above : Option MapElement → MapElement → Bool
is_above None e = true
is_above (Some last) e = nat_lt last.offset e.offset
