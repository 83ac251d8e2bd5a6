-- Small inputs, computed by the definitions alone.
use Rattle.std.specs.Prelude.{◌≡◌, ℕ, List, [], ◌∷◌, ◌++◌, replicate, Ok, Err, refl}
use Rattle.us_codec.specs.declared.faults.MapFault.TheVariants.{Short, LengthMismatch, Reserved, TooManyElements, NoNull, Order, AfterNull, Backoff, FirstOffset}
use Rattle.us_codec.specs.Elements.{MapElement, word_of, element_of, null_at}
use Rattle.us_codec.specs.declared.heads.Head.{Head}
use Rattle.us_codec.specs.Bodies.{MapBody, body_of, element_bytes, front, spelling}
use Rattle.us_codec.specs.Faults.{front_fault, end_of, before_end, after_end, rises, rises_to_end, are_pending_after, ends_in_pendings, starts_at_zero, parts_fault, list_fault, build_fault, head_at, elements_at, read_fault, decode_answer, build_answer}
use Rattle.us_codec.specs.MapsFiles.{record_bytes, maps_file}
use Rattle.us_codec.specs.Records.{places}

-- channel 1 at minislot 0, with ranging backoff 2 to 6 and data backoff 3 to 8
abbrev base_head : Head
base_head = record { channel = 1; ucd_count = 0; alloc_start = 0; ack = 0; backoffs = 2 ∷ 6 ∷ 3 ∷ 8 ∷ [] }

-- a broadcast request from this minislot on
abbrev request_from : ℕ → MapElement
request_from offset = record { sid = 16383; iuc = 1; offset = offset }

-- 150 and 10 minislots of broadcast request
abbrev base : MapBody
base = body_of base_head (request_from 0 ∷ request_from 150 ∷ []) 160 []

-- its front, with this Number of Elements, Reserved and first backoff
abbrev front_of : ℕ → ℕ → ℕ → List ℕ
front_of count reserved backoff =
    1 ∷ 0 ∷ count ∷ reserved ∷ 0 ∷ 0 ∷ 0 ∷ 0 ∷ 0 ∷ 0 ∷ 0 ∷ 0 ∷ backoff ∷ 6 ∷ 3 ∷ 8 ∷ []

abbrev request_bytes : List ℕ
request_bytes = 255 ∷ 252 ∷ 64 ∷ 0 ∷ []

abbrev later_bytes : List ℕ
later_bytes = 255 ∷ 252 ∷ 64 ∷ 150 ∷ []

abbrev null_bytes : List ℕ
null_bytes = 0 ∷ 1 ∷ 192 ∷ 160 ∷ []

spelled : spelling base ≡ front_of 3 0 2 ++ request_bytes ++ later_bytes ++ null_bytes
unfolding spelling front element_bytes word_of
spelled = refl

-- and read
read : decode_answer (front_of 3 0 2 ++ request_bytes ++ later_bytes ++ null_bytes) ≡ Ok base
unfolding decode_answer read_fault front_fault head_at elements_at element_of
    list_fault parts_fault end_of before_end after_end rises_to_end rises ends_in_pendings are_pending_after starts_at_zero
read = refl

-- with a data grant pending of SID 1 behind its Null
abbrev granted_later : MapBody
granted_later =
    body_of base_head (request_from 0 ∷ request_from 150 ∷ []) 160 (record { sid = 1; iuc = 10; offset = 160 } ∷ [])

read_pending :
    decode_answer (front_of 4 0 2 ++ request_bytes ++ later_bytes ++ null_bytes ++ 0 ∷ 6 ∷ 128 ∷ 160 ∷ []) ≡
    Ok granted_later
unfolding decode_answer read_fault front_fault head_at elements_at element_of
    list_fault parts_fault end_of before_end after_end rises_to_end rises ends_in_pendings are_pending_after starts_at_zero
read_pending = refl

-- faults
faults :
    -- fifteen zero bytes
    (decode_answer (replicate 15 0) ≡ Err Short) ×
    -- the last byte cut off
    (decode_answer (front_of 3 0 2 ++ request_bytes ++ later_bytes ++ 0 ∷ 1 ∷ 192 ∷ []) ≡ Err LengthMismatch) ×
    -- Reserved 1
    (decode_answer (front_of 3 1 2 ++ request_bytes ++ later_bytes ++ null_bytes) ≡ Err Reserved) ×
    -- 241 elements
    (decode_answer (front_of 241 0 2 ++ replicate 964 0) ≡ Err TooManyElements) ×
    -- an element of IUC 3 for the Null
    (decode_answer (front_of 3 0 2 ++ request_bytes ++ later_bytes ++ 0 ∷ 0 ∷ 192 ∷ 160 ∷ []) ≡ Err NoNull) ×
    -- one of IUC 7 and SID 1 before the Null
    (decode_answer (front_of 3 0 2 ++ request_bytes ++ (0 ∷ 5 ∷ 192 ∷ 150 ∷ []) ++ null_bytes) ≡ Err NoNull) ×
    -- two elements at offset 0
    (decode_answer (front_of 3 0 2 ++ request_bytes ++ request_bytes ++ null_bytes) ≡ Err Order) ×
    -- a pending at offset 159
    (decode_answer (front_of 4 0 2 ++ request_bytes ++ later_bytes ++ null_bytes ++ 0 ∷ 6 ∷ 128 ∷ 159 ∷ []) ≡ Err AfterNull) ×
    -- a backoff of 16
    (decode_answer (front_of 3 0 16 ++ request_bytes ++ later_bytes ++ null_bytes) ≡ Err Backoff) ×
    -- a first element at offset 1
    (decode_answer (front_of 3 0 2 ++ (255 ∷ 252 ∷ 64 ∷ 1 ∷ []) ++ later_bytes ++ null_bytes) ≡ Err FirstOffset)
unfolding decode_answer read_fault front_fault head_at elements_at element_of
    list_fault parts_fault end_of before_end after_end rises_to_end rises ends_in_pendings are_pending_after starts_at_zero
faults = (refl, refl, refl, refl, refl, refl, refl, refl, refl, refl)

-- of two faults the first
first_of_two :
    -- length and Reserved
    (decode_answer (front_of 4 1 2 ++ request_bytes ++ later_bytes ++ null_bytes) ≡ Err LengthMismatch) ×
    -- Reserved and 241 elements
    (decode_answer (front_of 241 1 2 ++ replicate 964 0) ≡ Err Reserved) ×
    -- no Null and falling offsets
    (decode_answer (front_of 3 0 2 ++ later_bytes ++ request_bytes ++ 0 ∷ 0 ∷ 192 ∷ 160 ∷ []) ≡ Err NoNull) ×
    -- falling offsets and a second Null
    (decode_answer (front_of 4 0 2 ++ later_bytes ++ request_bytes ++ null_bytes ++ null_bytes) ≡ Err Order) ×
    -- a second Null and a backoff of 16
    (decode_answer (front_of 3 0 16 ++ request_bytes ++ null_bytes ++ null_bytes) ≡ Err AfterNull) ×
    -- a backoff of 16 and a first offset of 150
    (decode_answer (front_of 2 0 16 ++ later_bytes ++ null_bytes) ≡ Err Backoff)
unfolding decode_answer read_fault front_fault head_at elements_at element_of
    list_fault parts_fault end_of before_end after_end rises_to_end rises ends_in_pendings are_pending_after starts_at_zero
first_of_two = (refl, refl, refl, refl, refl, refl)

-- every field of a head has its own place
abbrev marked : MapBody
marked = body_of
    (record { channel = 1; ucd_count = 2; alloc_start = 50595078; ack = 117967114; backoffs = 11 ∷ 12 ∷ 13 ∷ 14 ∷ [] }) [] 0 []

marked_spelled : spelling marked ≡
    1 ∷ 2 ∷ 1 ∷ 0 ∷ 3 ∷ 4 ∷ 5 ∷ 6 ∷ 7 ∷ 8 ∷ 9 ∷ 10 ∷ 11 ∷ 12 ∷ 13 ∷ 14 ∷ 0 ∷ 1 ∷ 192 ∷ 0 ∷ []
unfolding spelling front element_bytes word_of
marked_spelled = refl

marked_read : decode_answer (spelling marked) ≡ Ok marked
unfolding spelling front element_bytes word_of decode_answer read_fault front_fault head_at elements_at element_of
    list_fault parts_fault end_of before_end after_end rises_to_end rises ends_in_pendings are_pending_after starts_at_zero
marked_read = refl

-- building: the Null is put, and may not be among the elements
null_put : build_answer base_head (request_from 0 ∷ request_from 150 ∷ []) 160 [] ≡ Ok base
unfolding build_answer build_fault parts_fault end_of before_end after_end
    rises_to_end rises ends_in_pendings are_pending_after starts_at_zero
null_put = refl

null_among : build_answer base_head (request_from 0 ∷ null_at 150 ∷ []) 160 [] ≡ Err NoNull
unfolding build_answer build_fault end_of
null_among = refl

-- and with 240 elements before it there are too many
one_too_many : build_answer base_head (replicate 240 (request_from 0)) 160 [] ≡ Err TooManyElements
unfolding build_answer build_fault
one_too_many = refl

-- a record of round 1 with two bytes for its body
two_bytes : maps_file (record { round = 1; body = 7 ∷ 8 ∷ [] } ∷ []) ≡ 0 ∷ 0 ∷ 0 ∷ 1 ∷ 0 ∷ 2 ∷ 7 ∷ 8 ∷ []
unfolding maps_file record_bytes
two_bytes = refl

-- the places of its body and of an empty one behind it
two_places : places 0 (record { round = 1; body = 7 ∷ 8 ∷ [] } ∷ record { round = 2; body = [] } ∷ []) ≡
    record { round = 1; from = 6; to = 8 } ∷ record { round = 2; from = 14; to = 14 } ∷ []
unfolding places
two_places = refl
