-- P3, of each MAP: reserves and grants lie inside, no minislot has two owners, and the elements are these and the gaps
-- between them.
use Rattle.std.specs.Prelude.{ℕ, ◌+◌, ◌-◌, ◌*◌, ◌%◌, ◌==◌, nat_le, nat_lt, ◌&&◌, ◌||◌, not, Bool, true, if◌then◌else◌, List, [], ◌∷◌, ◌++◌, length, map, filter, count_by, position, slice_get, Option, Some, None}
use Rattle.std.specs.List.{list_all, list_any}
use Rattle.us_slots.specs.UsageCodes as codes
use Rattle.us_codec.specs.Elements.{MapElement}
use Rattle.us_flows.specs.declared.channels.Channel.{Channel}
use Rattle.us_flows.specs.Tables.{Tables, map_len, channel_with}
use Rattle.us_channel.specs.Reserves.{broadcast}
use Rattle.us_channel.specs.Maps.{gap}
use Rattle.us_output.specs.declared.rows.Grant.{Grant}
use Rattle.us_output.specs.declared.rows.Row.{Row}
use Rattle.us_reports.specs.declared.place.Place.{Place}
use Rattle.us_lawful.specs.Runs.{Run, RoundMap, Judged, grants_in}

-- Minislots side by side with one owner: from the start of a MAP, so many, a SID and an IUC.
pub record Region : Type 0 where
  pub start : ℕ
  pub slots : ℕ
  pub sid : ℕ
  pub iuc : ℕ

abbrev pub end_of : Region → ℕ
end_of s = s.start + s.slots

abbrev pub covers : ℕ → Region → Bool
covers at s = nat_le s.start at && nat_lt at (end_of s)

abbrev pub is_same : Region → Region → Bool
is_same a b = (a.start == b.start) && ((a.slots == b.slots) && ((a.sid == b.sid) && (a.iuc == b.iuc)))

-- What must be there.

-- a reserve is for all modems; one of 0 minislots is none
abbrev pub reserve_region : ℕ → ℕ → ℕ → List Region
reserve_region start slots iuc =
    if slots == 0 then [] else record { start = start; slots = slots; sid = broadcast; iuc = iuc } ∷ []

-- the reserves of a round: Initial Maintenance at the start, in each round that has one, and contention at the end
abbrev pub reserve_regions : Tables → ℕ → Channel → List Region
reserve_regions t round c =
    (if round % c.maintenance_every == 0 then reserve_region 0 c.maintenance_minislots codes.initial_maintenance else [])
    ++ reserve_region (map_len t c - c.contention_minislots) c.contention_minislots codes.request

abbrev pub region_of : Grant → Region
region_of g = record { start = g.start; slots = g.slots; sid = g.sid; iuc = g.iuc }

-- and the grants of a round and channel, by their lines
abbrev pub grant_regions : ℕ → ℕ → List Row → List Region
grant_regions round channel lines =
    map region_of (filter (λ g. (g.round == round) && (g.channel == channel)) (grants_in lines))

abbrev pub regions_of : Run → Judged → ℕ → Channel → List Region
regions_of run judged round c = reserve_regions run.tables round c ++ grant_regions round c.id judged.lines

-- What is there.

-- the elements before the Null, each of which reaches to the next one
unfoldable pub element_regions : List MapElement → List Region
element_regions [] = []
element_regions (e ∷ []) = []
element_regions (e ∷ next ∷ es) =
    if e.iuc == codes.null then []
    else record { start = e.offset; slots = next.offset - e.offset; sid = e.sid; iuc = e.iuc } ∷ element_regions (next ∷ es)

abbrev pub map_regions : Option RoundMap → List Region
map_regions None = []
map_regions (Some m) = element_regions m.body.elements

-- those of the MAP of a round and of the channel at this place of the table
abbrev pub told_regions : Run → Judged → ℕ → Option ℕ → List Region
told_regions run judged round None = []
told_regions run judged round (Some place) =
    map_regions (slice_get judged.maps (round * length run.tables.channels + place))

-- At a minislot.

-- how many of these have it
abbrev pub holder_count : ℕ → List Region → ℕ
holder_count at regions = count_by (covers at) regions

-- none of these has a minislot of this one
abbrev pub is_free : List Region → Region → Bool
is_free regions piece =
    list_all (λ s. (s.slots == 0) || (nat_le (end_of s) piece.start || nat_le (end_of piece) s.start)) regions

-- it reaches from a minislot that one of these has, or the start of the MAP, to the next such one, or the end of the MAP
abbrev pub is_between : ℕ → List Region → Region → Bool
is_between len regions piece =
    ((piece.start == 0) || list_any (covers (piece.start - 1)) regions)
    && ((end_of piece == len) || list_any (covers (end_of piece)) regions)

-- any modem may request there, if a request fits, and else nobody is addressed
abbrev pub is_gap_element : Channel → Region → Bool
is_gap_element c piece =
    (piece.sid == (gap c piece.start piece.slots).sid) && (piece.iuc == (gap c piece.start piece.slots).iuc)

abbrev pub is_gap : Channel → ℕ → List Region → Region → Bool
is_gap c len regions piece = is_free regions piece && (is_between len regions piece && is_gap_element c piece)

-- an element is a reserve or a grant, or a gap
abbrev pub is_right_element : Channel → ℕ → List Region → Region → Bool
is_right_element c len regions piece = list_any (is_same piece) regions || is_gap c len regions piece

-- what starts there isn't empty
abbrev pub none_empty_at : List Region → ℕ → Bool
none_empty_at regions at = list_all (λ s. not (s.start == at) || nat_lt 0 s.slots) regions

-- inside the MAP: one of these at most covers it, and its element is right;
abbrev pub inside_holds : Channel → ℕ → List Region → List Region → ℕ → Bool
inside_holds c len regions pieces at =
    not (nat_lt at len)
    || (nat_le (holder_count at regions) 1
    && list_any (λ piece. covers at piece && is_right_element c len regions piece) pieces)

-- and at its length: none of these starts there or behind
abbrev pub end_holds : ℕ → List Region → ℕ → Bool
end_holds len regions at = not (at == len) || list_all (λ s. (s.slots == 0) || nat_lt s.start len) regions

abbrev pub minislot_holds : Channel → ℕ → List Region → List Region → ℕ → Bool
minislot_holds c len regions pieces at =
    none_empty_at regions at && (inside_holds c len regions pieces at && end_holds len regions at)

-- so it is at minislot `third` of the MAP of this round and channel
abbrev pub channel_holds : Run → Judged → Place → Option Channel → Bool
channel_holds run judged p None = true
channel_holds run judged p (Some c) =
    minislot_holds c (map_len run.tables c) (regions_of run judged p.round c)
    (told_regions run judged p.round (position (λ other. other.id == p.channel) run.tables.channels)) p.third

abbrev pub regions_hold : Run → Judged → Place → Bool
regions_hold run judged p =
    not (nat_lt p.round run.rounds) || channel_holds run judged p (channel_with run.tables.channels p.channel)
