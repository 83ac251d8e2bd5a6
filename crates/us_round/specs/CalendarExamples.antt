-- Rounds with calendars in small, computed by the definitions alone.
use Rattle.std.specs.Prelude.{◌≡◌, ℕ, List, [], ◌∷◌, map, refl}
use Rattle.us_flows.specs.declared.flows.SchedulingType.TheVariants.{UnsolicitedGrant}
use Rattle.us_flows.specs.Tables.{FlowTable, Tables}
use Rattle.us_bucket.specs.Levels.{reserve_in}
use Rattle.us_codec.specs.Elements.{word_of}
use Rattle.us_calendar.specs.Occurrences.{coming, due}
use Rattle.us_calendar.specs.Settling.{settle_each, settle_entry}
use Rattle.us_split.specs.Plans.{Planned}
use Rattle.us_round.specs.Rounds.{begun, final, idle, fills_of, opening, round_plan, schedule}
use Rattle.us_output.specs.Outputs.{RoundOut, out_of}
use Rattle.us_round.specs.RoundExamples.{round_steps, channel_with, flow_with, base_flow, tables}
use Rattle.us_output.specs.declared.rows.Row.{Row}
use Rattle.us_output.specs.declared.rows.Row.TheVariants as rows
use Rattle.us_output.specs.declared.rows.EntryWord.TheVariants as words

-- MAPs of 16 minislots, the last 2 of which are for contention; a flow; and two grants of a minislot that are
-- ideal at minislot 6 of round 1, in a window that ends with it
abbrev split_for : FlowTable → Tables
split_for flow = record (tables (channel_with 1 2 0 1 ∷ []) (flow
    ∷ record (flow_with 2 0 (1 ∷ []) ((513 ∷ []) ∷ [])) {
      kind = UnsolicitedGrant;
      start_us = 275;
      interval_us = 10000;
      grant_bytes = 16;
      grants_per_interval = 2;
    } ∷ [])) { round_ticks = 32 }

abbrev split : Tables
split = split_for base_flow

-- rounds 0 and 1, in the second of which the base flow asks for so many bytes
abbrev outs : ℕ → List RoundOut
outs bytes = map (out_of split) (schedule (opening split) ((0 ∷ []) ∷ (bytes ∷ []) ∷ []))

-- the lines of the unsolicited grant that has its minislot, of the one that has none, and of a requested grant
abbrev unsolicited : Row
unsolicited = rows.Granted (record {
  round = 1;
  channel = 1;
  entry = words.Unsolicited;
  id = 2;
  i = 0;
  k = 0;
  sid = 513;
  iuc = 11;
  start = 6;
  slots = 1;
  credit = 0;
})

abbrev missed : Row
missed = rows.Missed (record { round = 1; channel = 1; entry = words.Unsolicited; id = 2; i = 0; k = 1 })

abbrev requested : Row
requested = rows.Granted (record {
  round = 1;
  channel = 1;
  entry = words.Requested;
  id = 1;
  i = 0;
  k = 0;
  sid = 291;
  iuc = 9;
  start = 7;
  slots = 7;
  credit = 200;
})

-- The first grant has its minislot, and the second has none and is missed. 13 minislots are idle then, and carry 392
-- bytes behind a header; but only 7 of them follow on, and these carry 200.
lines : map (λ out. out.rows) (outs 1000) ≡ [] ∷ (unsolicited ∷ requested ∷ missed ∷ []) ∷ []
unfolding round_steps coming due settle_each settle_entry
lines = refl

-- the plan pays for the minislots that are idle once the calendar has its own
planned :
    (idle (fills_of (begun (final (opening split) ((0 ∷ []) ∷ [])) (1000 ∷ []))) ≡ 13 ∷ []) ×
    (map (λ (p : Planned). p.shares) (round_plan (begun (final (opening split) ((0 ∷ []) ∷ [])) (1000 ∷ [])))
    ≡ (392 ∷ []) ∷ [])
unfolding round_steps coming due settle_each settle_entry
planned = (refl, refl)

elements : map (λ out. map (λ m. map word_of m.elements) out.maps) (outs 1000) ≡
    ((0xfffc4000 ∷ 0xfffc400e ∷ 0x0001c010 ∷ []) ∷ [])
    ∷ ((0xfffc4000 ∷ 0x0806c006 ∷ 0x048e4007 ∷ 0xfffc400e ∷ 0x0001c010 ∷ []) ∷ []) ∷ []
unfolding round_steps coming due settle_each settle_entry
elements = refl

-- what is not asked for credits nothing
left : (final (opening split) ((0 ∷ []) ∷ (1000 ∷ []) ∷ [])).outstanding ≡ 800 ∷ []
unfolding round_steps coming due settle_each settle_entry
left = refl

-- where the base flow's 3,044 bytes are reserved, those that are planned leave its reserve, and not those that are placed
reserve_left :
    map reserve_in (final (opening (split_for (record base_flow { min_rate = 1280000 }))) ((0 ∷ []) ∷ (1000 ∷ []) ∷ [])).reserves
    ≡ 2652 ∷ 0 ∷ []
unfolding round_steps coming due settle_each settle_entry
reserve_left = refl
