-- The first fault of bytes that are read as a MAP body, and of the parts that one is built of (ours): tests of whole
-- lists, in the order of the faults.
use Rattle.std.specs.Prelude.{ℕ, ◌+◌, ◌*◌, List, [], ◌∷◌, ◌++◌, length, drop, slice_index, find, Bool, true, false, not, ◌&&◌, ◌==◌, nat_lt, nat_le, if◌then◌else◌, Option, Some, None, option_to_list, is_some, Result, Ok, Err}
use Rattle.std.specs.List.{list_all}
use Rattle.std.specs.Int.{from_be_bytes, w32}
use Rattle.us_slots.specs.UsageCodes as codes
use Rattle.us_codec.specs.declared.faults.MapFault.{MapFault}
use Rattle.us_codec.specs.declared.faults.MapFault.TheVariants.{Short, LengthMismatch, Reserved, TooManyElements, NoNull, Order, AfterNull, Backoff, FirstOffset}
use Rattle.us_codec.specs.Elements.{MapElement, element_of, null_at}
use Rattle.us_codec.specs.declared.heads.Head.{Head}
use Rattle.us_codec.specs.Bodies.{MapBody, body_of, max_elements, max_backoff}

-- Tests of a list of elements.

-- a list ends at its first element of IUC 7
abbrev pub ends_list : MapElement → Bool
ends_list e = e.iuc == codes.null

-- that element
unfoldable pub end_of : List MapElement → Option MapElement
end_of es = find ends_list es

-- what stands before it, or all elements where there is none
unfoldable pub before_end : List MapElement → List MapElement
before_end [] = []
before_end (e ∷ es) = if ends_list e then [] else e ∷ before_end es

-- what stands behind it
unfoldable pub after_end : List MapElement → List MapElement
after_end [] = []
after_end (e ∷ es) = if ends_list e then es else after_end es

-- whether there is such an element and it is the Null: of SID 0
abbrev pub is_null : Option MapElement → Bool
is_null None = false
is_null (Some e) = e.sid == 0

-- whether each offset is below the next one
unfoldable pub rises : List MapElement → Bool
rises [] = true
rises (e ∷ []) = true
rises (e ∷ f ∷ es) = nat_lt e.offset f.offset && rises (f ∷ es)

-- whether offsets rise strictly, up to that of the element that ends the list
unfoldable pub rises_to_end : List MapElement → Bool
rises_to_end es = rises (before_end es ++ option_to_list (end_of es))

-- whether an element may stand behind a Null at `len`
abbrev pub is_pending : ℕ → MapElement → Bool
is_pending len e = not (ends_list e) && (e.offset == len)

-- whether these may stand behind this element
unfoldable pub are_pending_after : Option MapElement → List MapElement → Bool
are_pending_after None after = true
are_pending_after (Some end) after = list_all (is_pending end.offset) after

-- whether those behind the end may stand there
unfoldable pub ends_in_pendings : List MapElement → Bool
ends_in_pendings es = are_pending_after (end_of es) (after_end es)

-- whether the first offset, if there is one, is 0
unfoldable pub starts_at_zero : List MapElement → Bool
starts_at_zero [] = true
starts_at_zero (e ∷ es) = e.offset == 0

abbrev pub is_backoff : ℕ → Bool
is_backoff backoff = nat_le backoff max_backoff

-- The first fault.

-- of a head and of elements with a Null among them
unfoldable pub parts_fault : Head → List MapElement → Result (Unit {0}) MapFault
parts_fault h es =
    if not (rises_to_end es) then Err Order
    else if not (ends_in_pendings es) then Err AfterNull
    else if not (list_all is_backoff h.backoffs) then Err Backoff
    else if not (starts_at_zero es) then Err FirstOffset
    else Ok tt

-- of a head and of any elements
unfoldable pub list_fault : Head → List MapElement → Result (Unit {0}) MapFault
list_fault h es = if not (is_null (end_of es)) then Err NoNull else parts_fault h es

-- of the parts that a MAP of length `len` is built of
unfoldable pub build_fault : Head → List MapElement → ℕ → List MapElement → Result (Unit {0}) MapFault
build_fault h before len after =
    if nat_lt max_elements (length before + 1 + length after) then Err TooManyElements
    else if is_some (end_of before) then Err NoNull
    else parts_fault h (before ++ null_at len ∷ after)

-- Bytes that are read as a body.

-- the number of the four bytes from `at` on
abbrev pub word_at : List ℕ → ℕ → ℕ
word_at bytes at = from_be_bytes w32
    (slice_index bytes at ∷ slice_index bytes (at + 1) ∷ slice_index bytes (at + 2) ∷ slice_index bytes (at + 3) ∷ [])

-- the head that sixteen bytes spell
unfoldable pub head_at : List ℕ → Head
head_at bytes = record {
  channel = slice_index bytes 0;
  ucd_count = slice_index bytes 1;
  alloc_start = word_at bytes 4;
  ack = word_at bytes 8;
  backoffs = slice_index bytes 12 ∷ slice_index bytes 13 ∷ slice_index bytes 14 ∷ slice_index bytes 15 ∷ [];
}

-- the elements that bytes spell, four by four; up to three at the end spell none
unfoldable pub elements_at : List ℕ → List MapElement
elements_at (a ∷ b ∷ c ∷ d ∷ rest) = element_of (from_be_bytes w32 (a ∷ b ∷ c ∷ d ∷ [])) ∷ elements_at rest
elements_at (a ∷ b ∷ c ∷ []) = []
elements_at (a ∷ b ∷ []) = []
elements_at (a ∷ []) = []
elements_at [] = []

-- the first fault of a body's length and of its first four bytes
unfoldable pub front_fault : List ℕ → Result (Unit {0}) MapFault
front_fault bytes =
    if nat_lt (length bytes) 16 then Err Short
    else if not (length bytes == 16 + 4 * slice_index bytes 2) then Err LengthMismatch
    else if not (slice_index bytes 3 == 0) then Err Reserved
    else if nat_lt max_elements (slice_index bytes 2) then Err TooManyElements
    else Ok tt

-- one fault, or else another
abbrev pub or_else_fault : Result (Unit {0}) MapFault → Result (Unit {0}) MapFault → Result (Unit {0}) MapFault
or_else_fault (Ok u) later = later
or_else_fault (Err fault) later = Err fault

-- the first fault of a body
unfoldable pub read_fault : List ℕ → Result (Unit {0}) MapFault
read_fault bytes = or_else_fault (front_fault bytes) (list_fault (head_at bytes) (elements_at (drop 16 bytes)))

-- The answers.

-- a value, unless there is a fault
abbrev pub answer_unless : {A : Type 0} → Result (Unit {0}) MapFault → A → Result A MapFault
answer_unless (Ok u) x = Ok x
answer_unless (Err fault) x = Err fault

-- of bytes that are read as a body
unfoldable pub decode_answer : List ℕ → Result MapBody MapFault
decode_answer bytes =
    answer_unless (read_fault bytes) (record { head = head_at bytes; elements = elements_at (drop 16 bytes) })

-- of the parts that a MAP of length `len` is built of
unfoldable pub build_answer : Head → List MapElement → ℕ → List MapElement → Result MapBody MapFault
build_answer h before len after =
    answer_unless (build_fault h before len after) (body_of h before len after)
