-- Maps files at small inputs, computed by the definitions alone.
use Rattle.std.specs.Prelude.{ℕ, List, [], ◌∷◌, ◌++◌, length, refl}
use Rattle.std.proofs.Common.{ap, arith}
use Rattle.std.proofs.lemmas.List.{length-append}
use Rattle.us_codec.specs.Elements.{word_of}
use Rattle.us_codec.specs.Bodies.{MapBody, IsMapBody, body_of, element_bytes, front, spelling}
use Rattle.us_codec.specs.MapsFiles.{record_bytes, maps_file}
use Rattle.us_lawful.specs.Runs.{RoundMap}
use Rattle.us_lawful.specs.Lawful.{IsRoundMap}
use Rattle.us_map_rules.specs.MapsReading.{IsMapsOf, IsFirstBadRecord, BeginsNoRecord}

-- a body with no elements but a Null at 0, and it in round 7
abbrev empty_body : MapBody
empty_body = body_of
    (record { channel = 1; ucd_count = 2; alloc_start = 3; ack = 4; backoffs = 5 ∷ 6 ∷ 7 ∷ 8 ∷ [] }) [] 0 []

abbrev empty_map : RoundMap
empty_map = record { round = 7; body = empty_body }

-- its record: the round, a length of 20 bytes, and the body
abbrev empty_record : List ℕ
empty_record =
    0 ∷ 0 ∷ 0 ∷ 7 ∷ 0 ∷ 20 ∷
    1 ∷ 2 ∷ 1 ∷ 0 ∷ 0 ∷ 0 ∷ 0 ∷ 3 ∷ 0 ∷ 0 ∷ 0 ∷ 4 ∷ 5 ∷ 6 ∷ 7 ∷ 8 ∷ 0 ∷ 1 ∷ 192 ∷ 0 ∷ []

body_is : IsMapBody empty_body
body_is = record {
  head = record {
    channel = omega arith;
    ucd_count = omega arith;
    alloc_start = omega arith;
    ack = omega arith;
    four = refl;
    backoffs = (omega arith, (omega arith, (omega arith, (omega arith, tt))));
  };
  few = omega arith;
  fields = (record { sid = omega arith; iuc = omega arith; offset = omega arith }, tt);
  list = record { before = []; len = 0; after = []; joined = refl; others = tt; rising = tt; pending = tt };
  first = refl;
}

map_is : IsRoundMap empty_map
map_is = record { round = omega arith; body = body_is }

-- the file of one MAP,
one : IsMapsOf empty_record (empty_map ∷ [])
unfolding maps_file record_bytes spelling front element_bytes word_of
one = record { each = (map_is, tt); spelled = refl }

-- and with two bytes behind it, which begin no record, its second record is bad
cut : IsFirstBadRecord (empty_record ++ 0 ∷ 0 ∷ []) 1
unfolding maps_file record_bytes spelling front element_bytes word_of
cut = record {
  before = empty_map ∷ [];
  rest = 0 ∷ 0 ∷ [];
  each = (map_is, tt);
  spelled = refl;
  place = refl;
  some = omega arith;
  bad = none;
}
  where
    none : BeginsNoRecord (0 ∷ 0 ∷ [])
    none m more is spelled = omega (arith, ap length spelled, length-append {A = ℕ})
