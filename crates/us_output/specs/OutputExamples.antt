-- What a round gives in small, computed by the definitions alone.
use Rattle.std.specs.Prelude.{◌≡◌, ℕ, true, false, [], ◌∷◌, replicate, Some, None, refl}
use Rattle.us_slots.specs.Examples.{base_profile, bursts_with}
use Rattle.us_bucket.specs.Levels.{Level, units_in}
use Rattle.us_flows.specs.declared.channels.Channel.{Channel}
use Rattle.us_flows.specs.declared.flows.SchedulingType.TheVariants.{BestEffort}
use Rattle.us_flows.specs.Tables.{FlowTable, Tables}
use Rattle.us_flows.specs.Clusters.{Turn}
use Rattle.us_holes.specs.Boards.{Owner, Board, empty_board, assign}
use Rattle.us_holes.specs.Runs.{runs_from}
use Rattle.us_calendar.specs.declared.kinds.Kind.TheVariants as kinds
use Rattle.us_calendar.specs.declared.settled.Settled.TheVariants as settled
use Rattle.us_channel.specs.Placements.{PlacedClaim}
use Rattle.us_channel.specs.Maps.{elements_of, head_of}
use Rattle.us_output.specs.Outputs.{pendings_on, in_order, settled_row, rows_on, final_row, activity_rows}
use Rattle.us_output.specs.Leftovers.{still_asking}
use Rattle.us_output.specs.declared.rows.Row.{Row}
use Rattle.us_output.specs.declared.rows.Row.TheVariants as rows
use Rattle.us_output.specs.declared.rows.EntryWord.TheVariants as words

-- Elements and heads.

-- a MAP has 160 minislots, and a request needs 2
abbrev channel : Channel
channel = record {
  id = 1;
  bursts = bursts_with base_profile;
  ucd_count = 3;
  ranging_backoff = 2 ∷ 6 ∷ [];
  data_backoff = 3 ∷ 8 ∷ [];
  request_minislots = 2;
  contention_minislots = 10;
  maintenance_minislots = 0;
  maintenance_every = 1;
  station_minislots = 4;
}

abbrev long_grant : Owner
long_grant = record { sid = 291; iuc = 10 }

-- 8 minislots: 2 are idle, 2 are granted, 1 is idle, and 3 are granted
abbrev board : Board
board = assign (assign (empty_board 8) 2 2 long_grant) 5 3 long_grant

-- a gap with room for a request goes to all modems, and one without to nobody
gaps : elements_of channel board ≡
    record { sid = 16383; iuc = 1; offset = 0 } ∷ record { sid = 291; iuc = 10; offset = 2 } ∷
    record { sid = 0; iuc = 1; offset = 4 } ∷ record { sid = 291; iuc = 10; offset = 5 } ∷ []
unfolding elements_of runs_from
gaps = refl

abbrev flow : FlowTable
flow = record {
  id = 7;
  kind = BestEffort;
  channels = 2 ∷ 1 ∷ [];
  clusters = (292 ∷ 291 ∷ []) ∷ (294 ∷ 293 ∷ []) ∷ [];
  priority = 0;
  rate = 0;
  burst = 3044;
  min_rate = 0;
  unit = 4;
  headers = true;
  start_us = 0;
  interval_us = 0;
  jitter_us = 0;
  grant_bytes = 0;
  grants_per_interval = 0;
}

abbrev tables : Tables
tables = record {
  round_ticks = 320;
  lead_ticks = 400;
  channels = channel ∷ [];
  flows = flow ∷ [];
  stations = [];
}

-- a MAP begins where the one before it ends
second_start : (head_of tables 2 channel).alloc_start ≡ 320
unfolding head_of
second_start = refl

-- a request of tick 240 may be served from tick 640 on; a minislot has 2 ticks
second_ack : (head_of tables 2 channel).ack ≡ 120
unfolding head_of
second_ack = refl

-- one of round 1 would have to lie before the first minislot
no_ack : (head_of tables 1 channel).ack ≡ 0
unfolding head_of
no_ack = refl

-- Lines.

-- a claim of the flow's first cluster that was placed at this minislot, with this credit, and its line
abbrev pub placed : ℕ → ℕ → PlacedClaim
placed start credit = record {
  claimant = record { cluster = 0; place = 0; flow = 7; list = 0 };
  assignment = record { start = start; slots = 1; owner = long_grant };
  credit = credit;
}

abbrev line : ℕ → ℕ → Row
line start credit = rows.Granted (record {
  round = 4;
  channel = 1;
  entry = words.Requested;
  id = 7;
  i = 0;
  k = 0;
  sid = 291;
  iuc = 10;
  start = start;
  slots = 1;
  credit = credit;
})

-- the line of a poll of 2 minislots, and that of a maintenance that was missed
abbrev polled : Row
polled = rows.Granted (record {
  round = 4;
  channel = 1;
  entry = words.RealTimePoll;
  id = 9;
  i = 6;
  k = 0;
  sid = 300;
  iuc = 1;
  start = 1;
  slots = 2;
  credit = 0;
})

abbrev unmaintained : Row
unmaintained = rows.Missed (record { round = 4; channel = 1; entry = words.Station; id = 2; i = 3; k = 0 })

-- lines stand by the start of their grants, whatever came first; then what was missed
lines_by_start : rows_on 4 (record {
  channel = channel;
  board = empty_board 8;
  calendar = record { pace = record { time = channel.bursts.time; len = 8 }; next_round = 5; states = [] };
  settled = settled.Granted kinds.RealTimePoll 9 6 0 1 2 (record { sid = 300; iuc = 1 })
      ∷ settled.Missed kinds.Station 2 3 0 ∷ [];
  grants = placed 5 30 ∷ placed 0 20 ∷ placed 3 10 ∷ [];
}) ≡ line 0 20 ∷ polled ∷ line 3 10 ∷ line 5 30 ∷ unmaintained ∷ []
unfolding rows_on in_order
lines_by_start = refl

-- the poll of a silent flow, in its second interval
polled_silent : settled_row 1 channel (settled.Granted kinds.Activity 9 1 0 0 2 (record { sid = 513; iuc = 1 })) ≡
    rows.Granted (record {
      round = 1;
      channel = 1;
      entry = words.Activity;
      id = 9;
      i = 1;
      k = 0;
      sid = 513;
      iuc = 1;
      start = 0;
      slots = 2;
      credit = 0;
    })
polled_silent = refl

-- the turn of the flow's second cluster
abbrev pub turn : Turn
turn = record { number = 1; place = 0; cluster = record { flow = flow; list = 1; sids = 294 ∷ 293 ∷ [] } }

abbrev bucket : ℕ → Level
bucket rate = record { rate = rate; burst = 1; units = 640000 }

-- the F line of a flow with a limit, and of one without
units_left : final_row (5 ∷ 6 ∷ []) (bucket 8 ∷ []) turn ≡
    rows.Final (record { flow = 7; cluster = 1; outstanding = 6; units = Some 640000 })
unfolding units_in
units_left = refl

no_units : final_row (5 ∷ 6 ∷ []) (bucket 0 ∷ []) turn ≡
    rows.Final (record { flow = 7; cluster = 1; outstanding = 6; units = None })
unfolding units_in
no_units = refl

-- the A lines of flows of which the first is active and the last silent; of the one between nothing is told
last_heard : activity_rows (flow ∷ record flow { id = 8 } ∷ record flow { id = 5 } ∷ []) (Some true ∷ None ∷ Some false ∷ []) ≡
    rows.Activity (record { flow = 7; active = 1 }) ∷ rows.Activity (record { flow = 5; active = 0 }) ∷ []
last_heard = refl

-- Pendings.

-- a turn with bytes left, as many as before, is pending on its flow's first channel, by the SID there,
pending : still_asking (20 ∷ 6 ∷ []) (0 ∷ 6 ∷ []) turn ≡ Some (2, 294)
pending = refl

-- but not where nothing is left,
none_left : still_asking (0 ∷ 0 ∷ []) (0 ∷ 0 ∷ []) turn ≡ None
none_left = refl

-- nor where fewer are left than before
fewer_left : still_asking (5 ∷ 9 ∷ []) (5 ∷ 6 ∷ []) turn ≡ None
fewer_left = refl

-- a MAP lists those on its channel, in their order,
on_channel : pendings_on 2 ((2, 294) ∷ (1, 300) ∷ (2, 292) ∷ []) ≡ 294 ∷ 292 ∷ []
unfolding pendings_on
on_channel = refl

-- and no more than 38
at_most_38 : pendings_on 2 (replicate 40 (2, 294)) ≡ replicate 38 294
unfolding pendings_on
at_most_38 = refl
