-- What stands in the calendars of two channels, computed by the definitions alone.
use Rattle.std.specs.Prelude.{◌≡◌, ℕ, [], ◌∷◌, true, Some, None, refl}
use Rattle.us_slots.specs.Examples.{base_profile, bursts_with}
use Rattle.us_slots.specs.Bursts.{burst_cost, coded_length}
use Rattle.us_flows.specs.declared.channels.Channel.{Channel}
use Rattle.us_flows.specs.declared.stations.Station.{Station}
use Rattle.us_flows.specs.declared.flows.SchedulingType.{SchedulingType}
use Rattle.us_flows.specs.declared.flows.SchedulingType.TheVariants.{BestEffort, NonRealTimePolling, RealTimePolling, ActivityDetection, UnsolicitedGrant}
use Rattle.us_flows.specs.Tables.{Tables, FlowTable}
use Rattle.us_calendar.specs.Entries.{Entry, WordedFlow, entry_of_flow, entry_of_station, entries}
use Rattle.us_calendar.specs.declared.kinds.Kind.{Kind}
use Rattle.us_calendar.specs.declared.kinds.Kind.TheVariants as kinds

-- The base channel with this id, but with polls of 3 minislots, so that no grant here is as long as one. Minislots have 64
-- symbols, and a station has 4.
abbrev channel : ℕ → Channel
channel id = record {
  id = id;
  bursts = bursts_with base_profile;
  ucd_count = 0;
  ranging_backoff = 2 ∷ 6 ∷ [];
  data_backoff = 3 ∷ 8 ∷ [];
  request_minislots = 3;
  contention_minislots = 10;
  maintenance_minislots = 0;
  maintenance_every = 1;
  station_minislots = 4;
}

-- a flow with this id and type on channels 2 and 1, in this order, that has two clusters
abbrev flow : ℕ → SchedulingType → FlowTable
flow id kind = record {
  id = id;
  kind = kind;
  channels = 2 ∷ 1 ∷ [];
  clusters = (292 ∷ 291 ∷ []) ∷ (294 ∷ 293 ∷ []) ∷ [];
  priority = 0;
  rate = 0;
  burst = 3044;
  min_rate = 0;
  unit = 4;
  headers = true;
  start_us = 1000;
  interval_us = 10000;
  jitter_us = 500;
  grant_bytes = 17;
  grants_per_interval = 3;
}

-- the maintenance of a station on channel 2
abbrev station : Station
station = record { id = 5; channel = 2; sid = 300; start_us = 1000; interval_us = 10000; jitter_us = 500 }

-- one whose first word has this number
abbrev worded : ℕ → ℕ → SchedulingType → WordedFlow
worded word id kind = record { word = word; flow = flow id kind }

-- an entry of these times, in quarter microseconds
abbrev entry : Kind → ℕ → ℕ → ℕ → ℕ → ℕ → Entry
entry kind id sid iuc slots grants = record {
  kind = kind;
  id = id;
  owner = record { sid = sid; iuc = iuc };
  slots = slots;
  start = 4000;
  interval = 40000;
  jitter = 2000;
  grants = grants;
  silence = None;
}

-- a flow is polled on its first channel, with the SID that its first cluster has there,
poll : entry_of_flow (channel 2) (worded 5 7 RealTimePolling) ≡ Some (entry kinds.RealTimePoll 7 292 1 3 1)
poll = refl

-- and on no other one
no_second_poll : entry_of_flow (channel 1) (worded 5 7 RealTimePolling) ≡ None
no_second_poll = refl

-- nobody polls a flow of best effort
best_effort : entry_of_flow (channel 2) (worded 5 7 BestEffort) ≡ None
best_effort = refl

-- 17 bytes are two symbols over a minislot, and no header comes to them
unsolicited : entry_of_flow (channel 2) (worded 5 7 UnsolicitedGrant) ≡ Some (entry kinds.Unsolicited 7 292 11 2 3)
unfolding burst_cost coded_length
unsolicited = refl

-- a flow whose activity is detected has the same grants, and the number of its first word with the minislots of a poll
activity : entry_of_flow (channel 2) (worded 5 7 ActivityDetection) ≡
    Some (record (entry kinds.Activity 7 292 11 2 3) { silence = Some (record { word = 5; slots = 3 }) })
unfolding burst_cost coded_length
activity = refl

maintenance : entry_of_station (channel 2) station ≡ Some (entry kinds.Station 5 300 4 4 1)
maintenance = refl

no_maintenance : entry_of_station (channel 1) station ≡ None
no_maintenance = refl

-- By kind, whatever the order in the tables is, and each kind by id. Flow 6 has words 2 and 3, behind those of the two
-- clusters of flow 4, and flow 5 has words 6 and 7.
abbrev tables : Tables
tables = record {
  round_ticks = 320;
  lead_ticks = 160;
  channels = channel 1 ∷ channel 2 ∷ [];
  flows = flow 4 NonRealTimePolling ∷ flow 9 UnsolicitedGrant ∷ flow 6 ActivityDetection ∷ flow 3 RealTimePolling
      ∷ flow 5 ActivityDetection ∷ flow 8 UnsolicitedGrant ∷ flow 1 BestEffort ∷ [];
  stations = station ∷ [];
}

all_entries : entries tables (channel 2) ≡
    entry kinds.Unsolicited 8 292 11 2 3 ∷ entry kinds.Unsolicited 9 292 11 2 3
    ∷ record (entry kinds.Activity 5 292 11 2 3) { silence = Some (record { word = 6; slots = 3 }) }
    ∷ record (entry kinds.Activity 6 292 11 2 3) { silence = Some (record { word = 2; slots = 3 }) }
    ∷ entry kinds.RealTimePoll 3 292 1 3 1
    ∷ entry kinds.NonRealTimePoll 4 292 1 3 1 ∷ entry kinds.Station 5 300 4 4 1 ∷ []
unfolding entries burst_cost coded_length
all_entries = refl

none_there : entries tables (channel 1) ≡ []
unfolding entries burst_cost coded_length
none_there = refl
