-- The text of a trace (ours): its records, as `csv` reads them by default, their first fault, and the requests that they
-- tell where there is none.
use Rattle.std.specs.Prelude.{ℕ, ◌+◌, ◌-◌, ◌*◌, Bool, not, ◌==◌, nat_le, nat_lt, ◌&&◌, ◌||◌, if◌then◌else◌, List, [], ◌∷◌, length, map, drop, slice_index_or, codes, Option, Some, None}
use Rattle.std.specs.List.{list_all}
use Rattle.std.specs.Option.{option_or}
use Rattle.std.specs.Str.{bytes_eq}
use Rattle.csv.specs.Reading.{default_config, records, strip_bom}
use Rattle.us_slots.specs.Lists.{first_of}
use Rattle.us_requests.specs.declared.faults.TraceFault.{TraceFault}
use Rattle.us_requests.specs.declared.faults.TraceFault.TheVariants as fault
use Rattle.us_requests.specs.declared.requests.Kind.{Kind}
use Rattle.us_requests.specs.declared.requests.Kind.TheVariants as kinds
use Rattle.us_requests.specs.Asks.{Request}

-- a record: its fields, each as its bytes
abbrev pub Record : Type 0
Record = List (List ℕ)

-- the records of a text; a byte-order mark at its start isn't of the text
abbrev pub records_of : List ℕ → List Record
records_of text = records default_config (strip_bom text)

-- the most records of a trace, with the header
abbrev pub max_records : ℕ
max_records = 1000001

-- the field at a place of a record, counted from 0; no bytes where there is none
abbrev pub field_in : Record → ℕ → List ℕ
field_in fields place = slice_index_or fields place []

-- the columns of a trace: four, and in its second version a fifth, the kind of each request
unfoldable pub is_header : Record → Bool
is_header fields = (length fields == 4 || (length fields == 5 && bytes_eq (field_in fields 4) (codes "kind")))
    && (bytes_eq (field_in fields 0) (codes "tick") && (bytes_eq (field_in fields 1) (codes "channel")
    && (bytes_eq (field_in fields 2) (codes "sid") && bytes_eq (field_in fields 3) (codes "units"))))

-- an ASCII digit
abbrev pub is_digit : ℕ → Bool
is_digit byte = nat_le 48 byte && nat_le byte 57

-- the number that digits tell behind those that told `high`
unfoldable pub number_from : ℕ → List ℕ → ℕ
number_from high [] = high
number_from high (digit ∷ rest) = number_from (10 * high + (digit - 48)) rest

abbrev pub number_of : List ℕ → ℕ
number_of field = number_from 0 field

-- a field of 1 to 10 digits that tell a number up to the greatest
abbrev pub is_number : ℕ → List ℕ → Bool
is_number greatest field = (nat_le 1 (length field) && nat_le (length field) 10)
    && (list_all is_digit field && nat_le (number_of field) greatest)

-- a field that tells the kind of a request of so many units: 0, or 1 or 2 for a mark, which has no units
abbrev pub is_kind : ℕ → List ℕ → Bool
is_kind units field = is_number 2 field && (number_of field == 0 || units == 0)

abbrev pub kind_of : ℕ → Kind
kind_of number = if number == 1 then kinds.Silent else if number == 2 then kinds.Active else kinds.Request

-- the first four fields of a request, and its kind where there are more
unfoldable pub are_four_numbers : Record → Bool
are_four_numbers fields = is_number 4294967295 (field_in fields 0) && (is_number 255 (field_in fields 1)
    && (is_number 16383 (field_in fields 2) && is_number 65535 (field_in fields 3)))

abbrev pub are_numbers : Record → Bool
are_numbers fields = are_four_numbers fields
    && (length fields == 4 || is_kind (number_of (field_in fields 3)) (field_in fields 4))

-- without a fifth field its kind is 0
abbrev pub request_of : Record → Request
request_of fields = record {
  tick = number_of (field_in fields 0);
  channel = number_of (field_in fields 1);
  sid = number_of (field_in fields 2);
  units = number_of (field_in fields 3);
  kind = kind_of (number_of (field_in fields 4));
}

-- what is wrong with a record behind a header of so many columns, in the order in which it is looked for; records count
-- from 1
abbrev pub record_checks : ℕ → ℕ → Record → List (Bool × TraceFault)
record_checks columns number fields =
    (nat_lt max_records number, fault.TooLarge)
    ∷ (not (length fields == columns), fault.Fields number)
    ∷ (not (are_numbers fields), fault.Number number) ∷ []

-- the first fault of records behind such a header, the first of which has this number
unfoldable pub fault_from : ℕ → ℕ → List Record → Option TraceFault
fault_from columns number [] = None
fault_from columns number (fields ∷ rest) =
    option_or (first_of (record_checks columns number fields)) (fault_from columns (number + 1) rest)

-- the first fault of all records, with the header
abbrev pub records_fault : List Record → Option TraceFault
records_fault [] = Some fault.Header
records_fault (header ∷ rest) =
    if is_header header then fault_from (length header) 2 rest else Some fault.Header

-- the first fault of a text
unfoldable pub trace_fault : List ℕ → Option TraceFault
trace_fault text = records_fault (records_of text)

-- the requests that a text tells: those of its records behind the header
unfoldable pub requests_of : List ℕ → List Request
requests_of text = map request_of (drop 1 (records_of text))
