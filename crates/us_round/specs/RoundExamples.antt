-- Rounds in the base configuration and near it, computed by the definitions alone. Words are in hexadecimal.
use Rattle.std.specs.Prelude.{◌≡◌, ℕ, true, List, [], ◌∷◌, length, replicate, map, ⊤, refl}
use Rattle.std.specs.List.{range_with_len}
use Rattle.us_slots.specs.Bursts.{coded_length, burst_cost}
use Rattle.us_slots.specs.Capacities.{greatest_up_to, capacity_of}
use Rattle.us_slots.specs.Examples.{base_profile, bursts_with}
use Rattle.us_codec.specs.Elements.{word_of}
use Rattle.us_flows.specs.declared.channels.Channel.{Channel}
use Rattle.us_flows.specs.declared.flows.SchedulingType.TheVariants.{BestEffort}
use Rattle.us_flows.specs.Tables.{FlowTable, Tables}
use Rattle.us_flows.specs.Clusters.{Turn, table_order, turns_of}
use Rattle.us_bucket.specs.Levels.{bytes_in, refilled, reserve_in, spent, units_in}
use Rattle.us_holes.specs.Boards.{assign_all, first_of, longest_up_to}
use Rattle.us_holes.specs.Runs.{runs_from}
use Rattle.us_calendar.specs.Calendars.{run_entries}
use Rattle.us_calendar.specs.Entries.{entries}
use Rattle.us_split.specs.Divisions.{divided}
use Rattle.us_split.specs.Plans.{after_both, after_plan, after_turn, cost_on, more_shares, plan_for, plan_of, reserved_for, second_of, shares_of, two_passes, weights}
use Rattle.us_split.specs.Claims.{claims_from}
use Rattle.us_channel.specs.Reserves.{reserves}
use Rattle.us_channel.specs.Placements.{grants_of, spot}
use Rattle.us_channel.specs.Maps.{elements_of, head_of, map_of}
use Rattle.us_round.specs.Rounds.{RoundResult, build_planned, builds_of, final, opening, pending_sids, round_from, round_of, round_plan, schedule}
use Rattle.us_output.specs.Outputs.{pendings_on, RoundOut, in_order, out_of, rows_on}
use Rattle.us_round.specs.FinalRows.{final_rows}
use Rattle.us_output.specs.declared.rows.Grant.{Grant}
use Rattle.us_output.specs.declared.rows.Row.TheVariants as rows
use Rattle.us_output.specs.declared.rows.EntryWord.TheVariants as words

-- what these computations unfold
unfoldable pub round_steps : ⊤
unfolding coded_length burst_cost greatest_up_to capacity_of turns_of bytes_in refilled spent units_in assign_all
    first_of longest_up_to runs_from divided after_turn cost_on plan_of shares_of weights after_plan more_shares after_both
    second_of two_passes plan_for reserve_in reserved_for reserves claims_from grants_of spot build_planned builds_of final pending_sids pendings_on round_from round_of schedule in_order elements_of
    final_rows head_of map_of out_of rows_on word_of entries run_entries
round_steps = tt

-- Tables.

-- the base channel with this id, so many minislots of contention, and so many of maintenance in each `every`-th round
abbrev pub channel_with : ℕ → ℕ → ℕ → ℕ → Channel
channel_with id contention maintenance every = record {
  id = id;
  bursts = bursts_with base_profile;
  ucd_count = 0;
  ranging_backoff = 2 ∷ 6 ∷ [];
  data_backoff = 3 ∷ 8 ∷ [];
  request_minislots = 2;
  contention_minislots = contention;
  maintenance_minislots = maintenance;
  maintenance_every = every;
  station_minislots = 4;
}

-- the base flow with this id and priority, these channels and these clusters
abbrev pub flow_with : ℕ → ℕ → List ℕ → List (List ℕ) → FlowTable
flow_with id priority channels clusters = record {
  id = id;
  kind = BestEffort;
  channels = channels;
  clusters = clusters;
  priority = priority;
  rate = 0;
  burst = 3044;
  min_rate = 0;
  unit = 4;
  headers = true;
  start_us = 0;
  interval_us = 0;
  jitter_us = 0;
  grant_bytes = 0;
  grants_per_interval = 0;
}

abbrev pub tables : List Channel → List FlowTable → Tables
tables channels flows = record {
  round_ticks = 320;
  lead_ticks = 160;
  channels = channels;
  flows = flows;
  stations = [];
}

abbrev pub base_channel : Channel
base_channel = channel_with 1 10 0 1

abbrev pub base_flow : FlowTable
base_flow = flow_with 1 0 (1 ∷ []) ((291 ∷ []) ∷ [])

abbrev pub base : Tables
base = tables (base_channel ∷ []) (base_flow ∷ [])

abbrev pub without_flows : Tables
without_flows = tables (base_channel ∷ []) []

-- Single rounds.

-- round `round`, where nothing was outstanding, every bucket is full, and the clusters ask for this
abbrev step : Tables → ℕ → List ℕ → RoundResult
step t round cut = round_of (record (opening t) { round = round }) cut

abbrev given : Tables → ℕ → List ℕ → RoundOut
given t round cut = out_of t (step t round cut).scheduled

-- the elements of each MAP of that round, as words
abbrev elements : Tables → ℕ → List ℕ → List (List ℕ)
elements t round cut = map (λ m. map word_of m.elements) (given t round cut).maps

-- the line of a grant of the base flow's first cluster in round 1, but for its minislots and its credit
abbrev base_grant : Grant
base_grant = record {
  round = 1;
  channel = 1;
  entry = words.Requested;
  id = 1;
  i = 0;
  k = 0;
  sid = 291;
  iuc = 10;
  start = 0;
  slots = 0;
  credit = 0;
}

-- the word of a SID, an IUC and an offset
abbrev word : ℕ → ℕ → ℕ → ℕ
word sid iuc offset = word_of (record { sid = sid; iuc = iuc; offset = offset })

-- one flow, and so many bytes for round 1, whose unit a round doesn't see
one_flow :
    -- 33 minislots
    (elements base 1 (1001 ∷ []) ≡ (0x048e8000 ∷ 0xfffc4021 ∷ 0xfffc4096 ∷ 0x0001c0a0 ∷ []) ∷ []) ×
    -- 10 minislots: a short grant
    (elements base 1 (296 ∷ []) ≡ (0x048e4000 ∷ 0xfffc400a ∷ 0xfffc4096 ∷ 0x0001c0a0 ∷ []) ∷ []) ×
    -- 11 minislots: a long one
    (elements base 1 (300 ∷ []) ≡ (0x048e8000 ∷ 0xfffc400b ∷ 0xfffc4096 ∷ 0x0001c0a0 ∷ []) ∷ []) ×
    -- 149 minislots, and a gap of one is too short for a request
    (elements base 1 (4744 ∷ []) ≡ (0x048e8000 ∷ 0x00004095 ∷ 0xfffc4096 ∷ 0x0001c0a0 ∷ []) ∷ []) ×
    -- all 150 minislots that are idle; what is left over isn't pending
    (elements base 1 (262140 ∷ []) ≡ (0x048e8000 ∷ 0xfffc4096 ∷ 0x0001c0a0 ∷ []) ∷ [])
unfolding round_steps
one_flow = (refl, refl, refl, refl, refl)

-- the credit is what was asked for, and not what the minislots could carry
no_more_credit :
    ((given base 1 (1001 ∷ [])).rows ≡
    rows.Granted (record base_grant { slots = 33; credit = 1001 }) ∷ []) ×
    ((step base 1 (1001 ∷ [])).state.outstanding ≡ 0 ∷ [])
unfolding round_steps
no_more_credit = (refl, refl)

-- and the rest stays outstanding
rest_outstanding :
    ((given base 1 (262140 ∷ [])).rows ≡
    rows.Granted (record base_grant { slots = 150; credit = 4776 }) ∷ []) ×
    ((step base 1 (262140 ∷ [])).state.outstanding ≡ 257364 ∷ [])
unfolding round_steps
rest_outstanding = (refl, refl)

-- Initial Maintenance of 3 minislots in every second round
abbrev maintained : Tables
maintained = tables (channel_with 1 10 3 2 ∷ []) []

maintenance :
    (elements maintained 0 [] ≡ (0xfffcc000 ∷ 0xfffc4003 ∷ 0xfffc4096 ∷ 0x0001c0a0 ∷ []) ∷ []) ×
    (elements maintained 1 [] ≡ (0xfffc4000 ∷ 0xfffc4096 ∷ 0x0001c0a0 ∷ []) ∷ [])
unfolding round_steps
maintenance = (refl, refl)

-- contention in all minislots
abbrev contended : Tables
contended = tables (channel_with 1 160 0 1 ∷ []) (base_flow ∷ [])

-- nothing is idle: the SID is pending behind the Null, and its bytes stay outstanding
pending :
    (elements contended 1 (1000 ∷ []) ≡ (0xfffc4000 ∷ 0x0001c0a0 ∷ 0x048e80a0 ∷ []) ∷ []) ×
    ((given contended 1 (1000 ∷ [])).rows ≡ []) ×
    ((step contended 1 (1000 ∷ [])).state.outstanding ≡ 1000 ∷ [])
unfolding round_steps
pending = (refl, refl, refl)

-- two channels with so many minislots of contention, and the flow on the second
abbrev on_second : ℕ → ℕ → Tables
on_second one two =
    tables (channel_with 1 one 0 1 ∷ channel_with 2 two 0 1 ∷ []) (flow_with 1 0 (2 ∷ []) ((291 ∷ []) ∷ []) ∷ [])

-- each channel has its MAP, and the flow's alone has the grant
second_channel :
    (elements (on_second 10 11) 1 (1001 ∷ []) ≡
    (0xfffc4000 ∷ 0xfffc4096 ∷ 0x0001c0a0 ∷ []) ∷
    (0x048e8000 ∷ 0xfffc4021 ∷ 0xfffc4095 ∷ 0x0001c0a0 ∷ []) ∷ []) ×
    ((given (on_second 10 11) 1 (1001 ∷ [])).rows ≡
    rows.Granted (record base_grant { channel = 2; slots = 33; credit = 1001 }) ∷ []) ×
    ((step (on_second 10 11) 1 (1001 ∷ [])).state.outstanding ≡ 0 ∷ [])
unfolding round_steps
second_channel = (refl, refl, refl)

-- and the pending SID
second_pending :
    (elements (on_second 10 160) 1 (1001 ∷ []) ≡
    (0xfffc4000 ∷ 0xfffc4096 ∷ 0x0001c0a0 ∷ []) ∷ (0xfffc4000 ∷ 0x0001c0a0 ∷ 0x048e80a0 ∷ []) ∷ []) ×
    ((step (on_second 10 160) 1 (1001 ∷ [])).state.outstanding ≡ 1001 ∷ [])
unfolding round_steps
second_pending = (refl, refl)

-- Many clusters, and flows with several channels.

-- one flow of two clusters, and two of one
abbrev three_flows : Tables
three_flows =
    tables (base_channel ∷ [])
    (flow_with 7 0 (1 ∷ []) ((291 ∷ []) ∷ (292 ∷ []) ∷ []) ∷ flow_with 3 0 (1 ∷ []) ((293 ∷ []) ∷ [])
    ∷ flow_with 9 5 (1 ∷ []) ((294 ∷ []) ∷ []) ∷ [])

-- a turn: the number of its cluster, its flow, and the place in that
abbrev names : Turn → ℕ × ℕ × ℕ
names turn = (turn.number, turn.cluster.flow.id, turn.cluster.list)

-- by priority falling, then by flow id rising, then by place
turns_in_order : map names (turns_of three_flows) ≡
    (3, 9, 0) ∷ (2, 3, 0) ∷ (0, 7, 0) ∷ (1, 7, 1) ∷ []
unfolding round_steps
turns_in_order = refl

-- 500, 400, 300 and 200 bytes of each cluster in table order: 508 bytes are 17 minislots, 408 are 14, 308 are 11 and
-- 208 are 7, a short grant
shared_channel :
    (elements three_flows 1 (500 ∷ 400 ∷ 300 ∷ 200 ∷ []) ≡
    (word 294 9 0 ∷ word 293 10 7 ∷ word 291 10 18 ∷ word 292 10 35 ∷ 0xfffc4031 ∷ 0xfffc4096 ∷ 0x0001c0a0 ∷ []) ∷ [])
unfolding round_steps
shared_channel = refl

-- of 40 clusters that get nothing only 38 are pending
few_pendings :
    length (pendings_on 1 (pending_sids [] (replicate 40 1) (table_order
    (tables (base_channel ∷ []) (flow_with 1 0 (1 ∷ []) (map (λ sid. sid ∷ []) (range_with_len 291 40)) ∷ []))))) ≡ 38
unfolding round_steps
few_pendings = refl

-- two clusters of a flow over two channels, with so many minislots of contention
abbrev bonded : ℕ → ℕ → Tables
bonded one two =
    tables (channel_with 1 one 0 1 ∷ channel_with 2 two 0 1 ∷ [])
    (flow_with 1 0 (1 ∷ 2 ∷ []) ((291 ∷ 292 ∷ []) ∷ (293 ∷ 294 ∷ []) ∷ []) ∷ [])

-- the shares of each turn
abbrev shares : Tables → List ℕ → List (List ℕ)
shares t outstanding =
    map (λ planned. planned.shares) (round_plan (record (opening t) { outstanding = outstanding }))

-- 150 and 149 minislots carry 4,776 and 4,744 bytes behind a header; the first turn leaves 23 minislots of each, which
-- carry 712
bonded_shares :
    (shares (bonded 10 11) (8000 ∷ 1000 ∷ []) ≡ (4014 ∷ 3986 ∷ []) ∷ (500 ∷ 500 ∷ []) ∷ []) ×
    (shares (bonded 10 11) (8000 ∷ 2000 ∷ []) ≡ (4014 ∷ 3986 ∷ []) ∷ (712 ∷ 712 ∷ []) ∷ []) ×
    (shares (bonded 10 11) (9520 ∷ 1 ∷ []) ≡ (4776 ∷ 4744 ∷ []) ∷ (0 ∷ 0 ∷ []) ∷ []) ×
    -- the second channel carries nothing
    (shares (bonded 10 160) (8000 ∷ 1 ∷ []) ≡ (4776 ∷ 0 ∷ []) ∷ (0 ∷ 0 ∷ []) ∷ [])
unfolding round_steps
bonded_shares = (refl, refl, refl, refl)

-- each channel has its own MAP, and its SIDs of the clusters
bonded_round :
    (elements (bonded 10 11) 1 (8000 ∷ 1000 ∷ []) ≡
    (word 291 10 0 ∷ word 293 10 127 ∷ 0xfffc4090 ∷ 0xfffc4096 ∷ 0x0001c0a0 ∷ []) ∷
    (word 292 10 0 ∷ word 294 10 126 ∷ 0xfffc408f ∷ 0xfffc4095 ∷ 0x0001c0a0 ∷ []) ∷ []) ×
    ((given (bonded 10 11) 1 (8000 ∷ 1000 ∷ [])).rows ≡
    rows.Granted (record base_grant { slots = 127; credit = 4014 }) ∷
    rows.Granted (record base_grant { i = 1; sid = 293; start = 127; slots = 17; credit = 500 }) ∷
    rows.Granted (record base_grant { channel = 2; sid = 292; slots = 126; credit = 3986 }) ∷
    rows.Granted (record base_grant { channel = 2; i = 1; sid = 294; start = 126; slots = 17; credit = 500 }) ∷ []) ×
    ((step (bonded 10 11) 1 (8000 ∷ 2000 ∷ [])).state.outstanding ≡ 0 ∷ 576 ∷ [])
unfolding round_steps
bonded_round = (refl, refl, refl)

-- clusters are pending on the flow's first channel
bonded_pendings :
    elements (bonded 160 160) 1 (1 ∷ 1 ∷ []) ≡
    (0xfffc4000 ∷ 0x0001c0a0 ∷ word 291 10 160 ∷ word 293 10 160 ∷ []) ∷ (0xfffc4000 ∷ 0x0001c0a0 ∷ []) ∷ []
unfolding round_steps
bonded_pendings = refl

-- Limits of the rate.

-- the base flow with two clusters, 1,280,000 bit/s and a burst of 1,522 bytes: 320 bytes a round
abbrev limited : Tables
limited =
    tables (base_channel ∷ [])
    (record (flow_with 1 0 (1 ∷ []) ((291 ∷ []) ∷ (292 ∷ []) ∷ [])) { rate = 1280000; burst = 1522 } ∷ [])

-- a bucket is shared by its flow's clusters: the second gets what the first leaves, and then nothing
limited_round :
    ((given limited 1 (1000 ∷ 1000 ∷ [])).rows ≡
    rows.Granted (record base_grant { slots = 32; credit = 1000 }) ∷
    rows.Granted (record base_grant { i = 1; sid = 292; start = 32; slots = 18; credit = 522 }) ∷ []) ×
    ((step limited 1 (1000 ∷ 1000 ∷ [])).state.outstanding ≡ 0 ∷ 478 ∷ []) ×
    ((given limited 1 (2000 ∷ 1000 ∷ [])).rows ≡
    rows.Granted (record base_grant { slots = 49; credit = 1522 }) ∷ []) ×
    ((step limited 1 (2000 ∷ 1000 ∷ [])).state.outstanding ≡ 478 ∷ 1000 ∷ []) ×
    -- the second cluster is pending
    ((step limited 1 (2000 ∷ 1000 ∷ [])).scheduled.pending ≡ (1, 292) ∷ [])
unfolding round_steps
limited_round = (refl, refl, refl, refl, refl)

-- Minimum rates.

-- a flow of priority 7 that asks for all, and one for which 1,522 bytes are reserved, and 320 more in each round
abbrev pub reserved : Tables
reserved =
    tables (base_channel ∷ [])
    (flow_with 1 7 (1 ∷ []) ((291 ∷ []) ∷ [])
    ∷ record (flow_with 2 0 (1 ∷ []) ((292 ∷ []) ∷ [])) { burst = 1522; min_rate = 1280000 } ∷ [])

-- so many bytes are asked for in round 1
abbrev pub cuts : List (List ℕ)
cuts = (0 ∷ 0 ∷ []) ∷ (262140 ∷ 10000 ∷ []) ∷ (0 ∷ 0 ∷ []) ∷ []

-- the second flow has 1,544 bytes in round 1 and 328 in round 2, of which 22 and 8 aren't taken of its reserve
reserved_rounds :
    (map (λ scheduled. map (λ m. map word_of m.elements) (out_of reserved scheduled).maps) (schedule (opening reserved) cuts) ≡
    ((0xfffc4000 ∷ 0xfffc4096 ∷ 0x0001c0a0 ∷ []) ∷ [])
    ∷ ((0x048e8000 ∷ 0x04928065 ∷ 0xfffc4096 ∷ 0x0001c0a0 ∷ []) ∷ [])
    ∷ ((0x048e8000 ∷ 0x0492808b ∷ 0xfffc4096 ∷ 0x0001c0a0 ∷ []) ∷ []) ∷ []) ×
    ((final (opening reserved) cuts).outstanding ≡ 254508 ∷ 8128 ∷ []) ×
    (map reserve_in (opening reserved).reserves ≡ 0 ∷ 1522 ∷ []) ×
    (map reserve_in (final (opening reserved) cuts).reserves ≡ 0 ∷ 0 ∷ [])
unfolding round_steps
reserved_rounds = (refl, refl, refl, refl)
