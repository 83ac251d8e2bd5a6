-- P2: what each MAP says of itself.
use Rattle.std.specs.Prelude.{◌≡◌, ℕ, ◌==◌, List, map, flat_map, find, slice_get, Option, Some, option_map}
use Rattle.std.specs.List.{range_with_len}
use Rattle.us_slots.specs.UsageCodes as codes
use Rattle.us_codec.specs.declared.heads.Head.{Head}
use Rattle.us_codec.specs.Elements.{MapElement}
use Rattle.us_flows.specs.declared.channels.Channel.{Channel}
use Rattle.us_flows.specs.Tables.{Tables, map_len}
use Rattle.us_channel.specs.Maps.{head_of}
use Rattle.us_reports.specs.declared.place.Place.{Place}
use Rattle.us_lawful.specs.Runs.{Run, RoundMap, Judged}

-- the round of a MAP, what stands before its elements, and its length
pub record Heading : Type 0 where
  pub round : ℕ
  pub head : Head
  pub len : Option ℕ

-- where the Null stands
abbrev pub null_offset : List MapElement → Option ℕ
null_offset elements = option_map (λ e. e.offset) (find (λ e. e.iuc == codes.null) elements)

-- as a MAP tells it
abbrev pub heading_told : RoundMap → Heading
heading_told m = record { round = m.round; head = m.body.head; len = null_offset m.body.elements }

-- as it must be: channel id, UCD Count and backoffs of the table, the Alloc Start Time and the Ack Time of the round, and
-- the length of the channel's MAPs
abbrev pub heading_of : Tables → ℕ → Channel → Heading
heading_of t round c = record { round = round; head = head_of t round c; len = Some (map_len t c) }

-- those of a run: by round, and then by channel in table order
abbrev pub headings_of : Run → List Heading
headings_of run = flat_map (λ round. map (heading_of run.tables round) run.tables.channels) (range_with_len 0 run.rounds)

-- MAP number `third` of the file says what MAP number `third` of the run must say; there is none where the run has none
abbrev pub HeadingsHold : Run → Judged → Place → Type 0
HeadingsHold run judged p =
    p.round ≡ 0 → p.channel ≡ 0 →
    slice_get (map heading_told judged.maps) p.third ≡ slice_get (headings_of run) p.third
