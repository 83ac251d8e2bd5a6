-- Small inputs, computed by the definitions alone.
use Rattle.std.specs.Prelude.{◌≡◌, ℕ, true, false, List, [], ◌∷◌, codes, Some, None, refl}
use Rattle.csv.specs.Machine.{next_record}
use Rattle.csv.specs.Reading.{records_from, strip_bom}
use Rattle.us_flows.specs.Tables.{Tables, FlowTable}
use Rattle.us_flows.specs.Clusters.{lookup}
use Rattle.us_flows.specs.declared.flows.SchedulingType.TheVariants.{BestEffort, NonRealTimePolling, ActivityDetection, UnsolicitedGrant}
use Rattle.us_requests.specs.declared.asks.Ask.{Ask}
use Rattle.us_requests.specs.declared.requests.Kind.{Kind}
use Rattle.us_requests.specs.declared.requests.Kind.TheVariants as kinds
use Rattle.us_requests.specs.declared.faults.TraceFault.TheVariants.{Header, Fields, Number, TooLarge}
use Rattle.us_requests.specs.Asks.{Request, round_of_tick, asks_at, counts_of}
use Rattle.us_requests.specs.Cuts.{cut, cut_at, cut_of}
use Rattle.us_slots.specs.Lists.{first_of}
use Rattle.us_requests.specs.Texts.{is_header, number_from, are_four_numbers, record_checks, fault_from, records_fault, trace_fault, requests_of, Record}

-- one cluster with a unit of 4 bytes, and two of a flow of two channels with a unit of 16
abbrev narrow : FlowTable
narrow = record {
  id = 1;
  kind = BestEffort;
  channels = 1 ∷ [];
  clusters = (291 ∷ []) ∷ [];
  priority = 0;
  rate = 0;
  burst = 3044;
  min_rate = 0;
  unit = 4;
  headers = true;
  start_us = 0;
  interval_us = 0;
  jitter_us = 0;
  grant_bytes = 0;
  grants_per_interval = 0;
}

abbrev wide : FlowTable
wide = record narrow {
  id = 2;
  channels = 2 ∷ 1 ∷ [];
  clusters = (500 ∷ 501 ∷ []) ∷ (502 ∷ 503 ∷ []) ∷ [];
  priority = 3;
  unit = 16;
}

-- rounds of 320 ticks and a lead of 160
abbrev tables : Tables
tables = record { round_ticks = 320; lead_ticks = 160; channels = []; flows = narrow ∷ wide ∷ []; stations = [] }

-- a request is served at least the lead later, in the round that starts next
served :
    (round_of_tick tables 0 ∷ round_of_tick tables 160 ∷ round_of_tick tables 161 ∷ round_of_tick tables 480 ∷ []) ≡
    (1 ∷ 1 ∷ 2 ∷ 2 ∷ [])
unfolding round_of_tick
served = refl

-- the last tick doesn't wrap
last_tick : round_of_tick tables 4294967295 ≡ 13421774
unfolding round_of_tick
last_tick = refl

abbrev asks_for : ℕ → ℕ → ℕ → ℕ → Request
asks_for tick channel sid units =
    record { tick = tick; channel = channel; sid = sid; units = units; kind = kinds.Request }

abbrev requests : List Request
requests =
    asks_for 161 1 291 3 ∷ asks_for 0 1 291 10 ∷ asks_for 160 1 503 2 ∷ asks_for 0 1 999 10
    ∷ asks_for 0 2 291 10 ∷ asks_for 1000000 2 500 10 ∷ asks_for 1000000 1 999 10 ∷ asks_for 1 2 500 0 ∷ []

abbrev bytes_of : ℕ → ℕ → Ask
bytes_of cluster bytes = record { cluster = cluster; bytes = bytes }

-- in the order of the trace, each in bytes
first_round : asks_at tables 3 requests 1 ≡ bytes_of 0 40 ∷ bytes_of 2 32 ∷ bytes_of 1 0 ∷ []
unfolding asks_at round_of_tick lookup
first_round = refl

other_rounds : (asks_at tables 3 requests 0 ∷ asks_at tables 3 requests 2 ∷ asks_at tables 2 requests 2 ∷ []) ≡
    [] ∷ (bytes_of 0 12 ∷ []) ∷ [] ∷ []
unfolding asks_at round_of_tick lookup
other_rounds = refl

-- a request of a SID that no flow has is unknown and not late
no_asks : counts_of tables 3 requests ≡ record { unknown = 3; not_requestable = 0; late = 1 }
unfolding counts_of round_of_tick lookup
no_asks = refl

-- a flow with unsolicited grants between two of two clusters each: its cluster makes no requests, and has no number
abbrev granted : FlowTable
granted = record {
  id = 3;
  kind = UnsolicitedGrant;
  channels = 1 ∷ [];
  clusters = (700 ∷ []) ∷ [];
  priority = 0;
  rate = 0;
  burst = 0;
  min_rate = 0;
  unit = 0;
  headers = false;
  start_us = 0;
  interval_us = 20000;
  jitter_us = 500;
  grant_bytes = 64;
  grants_per_interval = 1;
}

abbrev polled : FlowTable
polled = record narrow {
  id = 4;
  kind = NonRealTimePolling;
  clusters = (600 ∷ []) ∷ (601 ∷ []) ∷ [];
  unit = 2;
  interval_us = 10000;
  jitter_us = 500;
}

abbrev more_tables : Tables
more_tables = record tables { flows = wide ∷ granted ∷ polled ∷ [] }

abbrev more_requests : List Request
more_requests =
    asks_for 0 1 601 3 ∷ asks_for 0 1 700 10 ∷ asks_for 0 1 503 1 ∷ asks_for 1000000 1 700 10 ∷ asks_for 0 1 600 5
    ∷ asks_for 0 2 700 10 ∷ []

more_asks : asks_at more_tables 3 more_requests 1 ≡ bytes_of 3 6 ∷ bytes_of 1 16 ∷ bytes_of 2 10 ∷ []
unfolding asks_at round_of_tick lookup
more_asks = refl

-- a request of such a flow isn't late either; on another channel its SID is nobody's
more_counts : counts_of more_tables 3 more_requests ≡ record { unknown = 1; not_requestable = 2; late = 0 }
unfolding counts_of round_of_tick lookup
more_counts = refl

-- each count by one request; one that would be late counts as unknown alone; late is the round of the end, not before
each_count :
    (counts_of more_tables 2 (asks_for 0 1 999 10 ∷ asks_for 0 1 700 10 ∷ asks_for 1000000 1 600 10 ∷ [])
    ∷ counts_of more_tables 2 (asks_for 1000000 1 999 10 ∷ [])
    ∷ counts_of more_tables 2 (asks_for 161 1 600 1 ∷ []) ∷ counts_of more_tables 3 (asks_for 161 1 600 1 ∷ []) ∷ []) ≡
    record { unknown = 1; not_requestable = 1; late = 1 } ∷ record { unknown = 1; not_requestable = 0; late = 0 }
    ∷ record { unknown = 0; not_requestable = 0; late = 1 } ∷ record { unknown = 0; not_requestable = 0; late = 0 } ∷ []
unfolding counts_of round_of_tick lookup
each_count = refl

-- a flow that tells its activity between two of two clusters each: marks are asks of one byte of its words, of which the
-- first is for silent, and of no other flow
abbrev talking : FlowTable
talking = record granted { id = 5; kind = ActivityDetection }

abbrev talking_tables : Tables
talking_tables = record tables { flows = wide ∷ talking ∷ polled ∷ record granted { id = 6; clusters = (701 ∷ []) ∷ [] } ∷ [] }

abbrev marks : ℕ → ℕ → ℕ → Kind → Request
marks tick channel sid kind = record { tick = tick; channel = channel; sid = sid; units = 0; kind = kind }

abbrev talk : List Request
talk =
    marks 0 1 700 kinds.Silent ∷ marks 161 1 700 kinds.Active ∷ marks 1 1 700 kinds.Active ∷ asks_for 0 1 600 5
    ∷ asks_for 0 1 700 0 ∷ marks 0 1 600 kinds.Silent ∷ marks 0 1 701 kinds.Active ∷ asks_for 0 1 701 9
    ∷ marks 0 2 700 kinds.Silent ∷ marks 1000000 1 700 kinds.Silent ∷ []

marks_are_asks :
    (asks_at talking_tables 3 talk 1 ≡ bytes_of 2 1 ∷ bytes_of 3 1 ∷ bytes_of 4 10 ∷ []) ×
    (asks_at talking_tables 3 talk 2 ≡ bytes_of 3 1 ∷ [])
unfolding asks_at round_of_tick lookup
marks_are_asks = (refl, refl)

-- not requestable: a request of such a flow, marks of a flow that requests or has grants at all times, and its request
marks_counted : counts_of talking_tables 3 talk ≡ record { unknown = 1; not_requestable = 4; late = 1 }
unfolding counts_of round_of_tick lookup
marks_counted = refl

marks_cut :
    (cut_at talking_tables 3 talk 1 ≡ 0 ∷ 0 ∷ 1 ∷ 1 ∷ 10 ∷ 0 ∷ []) ×
    (cut_at talking_tables 3 talk 2 ≡ 0 ∷ 0 ∷ 0 ∷ 1 ∷ 0 ∷ 0 ∷ [])
unfolding cut_at cut round_of_tick lookup
marks_cut = (refl, refl)

-- the same by sums over the requests, for three clusters, in rounds 1 and 2, and behind the end
cuts : (cut_at tables 3 requests 1 ∷ cut_at tables 3 requests 2 ∷ cut_at tables 2 requests 2 ∷ []) ≡
    (40 ∷ 0 ∷ 32 ∷ []) ∷ (12 ∷ 0 ∷ 0 ∷ []) ∷ (0 ∷ 0 ∷ 0 ∷ []) ∷ []
unfolding cut_at cut round_of_tick lookup
cuts = refl

-- two requests of one cluster in one round add up, in either order
twice : (cut_at tables 3 (asks_for 0 1 291 10 ∷ asks_for 0 1 999 5 ∷ asks_for 160 1 291 3 ∷ []) 1 ∷
    cut_at tables 3 (asks_for 160 1 291 3 ∷ asks_for 0 1 291 10 ∷ asks_for 0 1 999 5 ∷ []) 1 ∷ []) ≡
    (52 ∷ 0 ∷ 0 ∷ []) ∷ (52 ∷ 0 ∷ 0 ∷ []) ∷ []
unfolding cut_at cut round_of_tick lookup
twice = refl

-- a cluster that asks on both of its channels
both_channels : cut_at tables 3 (asks_for 0 2 500 3 ∷ asks_for 0 1 501 5 ∷ []) 1 ≡ 0 ∷ 128 ∷ 0 ∷ []
unfolding cut_at cut round_of_tick lookup
both_channels = refl

-- clusters before and behind a flow with unsolicited grants
around_grants : cut_at more_tables 3 more_requests 1 ≡ 0 ∷ 16 ∷ 10 ∷ 6 ∷ []
unfolding cut_at cut round_of_tick lookup
around_grants = refl

-- the sums of some asks
sums : cut_of 3 (bytes_of 0 40 ∷ bytes_of 2 32 ∷ bytes_of 0 12 ∷ []) ≡ 52 ∷ 0 ∷ 32 ∷ []
unfolding cut_of
sums = refl

-- records
abbrev header : Record
header = codes "tick" ∷ codes "channel" ∷ codes "sid" ∷ codes "units" ∷ []

-- and that of the second version
abbrev with_kind : Record
with_kind = codes "tick" ∷ codes "channel" ∷ codes "sid" ∷ codes "units" ∷ codes "kind" ∷ []

headers : (is_header header ∷ is_header (codes "tick" ∷ codes "channel" ∷ codes "sid" ∷ []) ∷
    is_header (codes "tick" ∷ codes "channel" ∷ codes "units" ∷ codes "sid" ∷ []) ∷
    is_header with_kind ∷ is_header (codes "tick" ∷ codes "channel" ∷ codes "sid" ∷ codes "units" ∷ codes "unit" ∷ []) ∷
    is_header (codes "tick" ∷ codes "channel" ∷ codes "sid" ∷ codes "units" ∷ codes "kind" ∷ codes "kind" ∷ []) ∷ []) ≡
    true ∷ false ∷ false ∷ true ∷ false ∷ false ∷ []
unfolding is_header
headers = refl

abbrev fields_of : List ℕ → List ℕ → Record
fields_of sid units = codes "0" ∷ codes "1" ∷ sid ∷ units ∷ []

-- the greatest values, and one over; eleven digits; no digit; no four fields; the last record, and one more
record_faults :
    (first_of (record_checks 4 2 (codes "4294967295" ∷ codes "255" ∷ codes "16383" ∷ codes "65535" ∷ [])) ∷
    first_of (record_checks 4 2 (fields_of (codes "291") (codes "65536"))) ∷
    first_of (record_checks 4 3 (fields_of (codes "16384") (codes "1"))) ∷
    first_of (record_checks 4 2 (fields_of (codes "291") (codes "00000000001"))) ∷
    first_of (record_checks 4 2 (fields_of (codes "291") (codes "x"))) ∷
    first_of (record_checks 4 2 (fields_of (codes "291") [])) ∷
    first_of (record_checks 4 4 (codes "x" ∷ codes "1" ∷ [])) ∷
    first_of (record_checks 4 2 (codes "0" ∷ codes "1" ∷ codes "291" ∷ codes "1" ∷ [] ∷ [])) ∷
    first_of (record_checks 4 2 (codes "4294967296" ∷ codes "1" ∷ codes "291" ∷ codes "1" ∷ [])) ∷
    first_of (record_checks 4 2 (codes "0" ∷ codes "256" ∷ codes "291" ∷ codes "1" ∷ [])) ∷
    first_of (record_checks 4 2 header) ∷
    first_of (record_checks 4 1000001 (fields_of (codes "291") (codes "1"))) ∷
    first_of (record_checks 4 1000002 (codes "x" ∷ codes "1" ∷ [])) ∷ []) ≡
    None ∷ Some (Number 2) ∷ Some (Number 3) ∷ Some (Number 2) ∷ Some (Number 2) ∷ Some (Number 2) ∷ Some (Fields 4) ∷
    Some (Fields 2) ∷ Some (Number 2) ∷ Some (Number 2) ∷ Some (Number 2) ∷
    None ∷ Some TooLarge ∷ []
unfolding are_four_numbers number_from
record_faults = refl

-- behind five columns: kinds 0, 1 and 2, a kind with a leading zero, a kind that is none, a mark with units, no kind, and
-- four fields; behind four columns five fields
abbrev of_kind : List ℕ → List ℕ → Record
of_kind units kind = codes "0" ∷ codes "1" ∷ codes "291" ∷ units ∷ kind ∷ []

kind_faults :
    (first_of (record_checks 5 2 (of_kind (codes "7") (codes "0"))) ∷
    first_of (record_checks 5 2 (of_kind (codes "0") (codes "1"))) ∷
    first_of (record_checks 5 2 (of_kind (codes "0") (codes "2"))) ∷
    first_of (record_checks 5 2 (of_kind (codes "0") (codes "01"))) ∷
    first_of (record_checks 5 2 (of_kind (codes "0") (codes "3"))) ∷
    first_of (record_checks 5 2 (of_kind (codes "1") (codes "1"))) ∷
    first_of (record_checks 5 2 (of_kind (codes "1") (codes "2"))) ∷
    first_of (record_checks 5 2 (of_kind (codes "0") [])) ∷
    first_of (record_checks 5 2 (fields_of (codes "291") (codes "1"))) ∷
    first_of (record_checks 4 2 (of_kind (codes "0") (codes "0"))) ∷ []) ≡
    None ∷ None ∷ None ∷ None ∷ Some (Number 2) ∷ Some (Number 2) ∷ Some (Number 2) ∷ Some (Number 2) ∷
    Some (Fields 2) ∷ Some (Fields 2) ∷ []
unfolding are_four_numbers number_from
kind_faults = refl

-- the first faulty record decides
first_faults :
    (records_fault [] ∷ records_fault (header ∷ []) ∷ records_fault ((codes "x" ∷ []) ∷ fields_of [] [] ∷ []) ∷
    records_fault (header ∷ fields_of (codes "1") (codes "1") ∷ fields_of [] [] ∷ (codes "x" ∷ []) ∷ []) ∷ []) ≡
    Some Header ∷ None ∷ Some Header ∷ Some (Number 3) ∷ []
unfolding fault_from is_header are_four_numbers number_from
first_faults = refl

-- texts
abbrev sound : List ℕ
sound = codes "tick,channel,sid,units\r\n\r\n161,1,291,3\n0,1,\"00291\",10"

no_fault : trace_fault sound ≡ None
unfolding trace_fault strip_bom records_from next_record fault_from is_header are_four_numbers number_from
no_fault = refl

told : requests_of sound ≡ asks_for 161 1 291 3 ∷ asks_for 0 1 291 10 ∷ []
unfolding requests_of strip_bom records_from next_record number_from
told = refl

-- in the second version
abbrev marked : List ℕ
marked = codes "tick,channel,sid,units,kind\n0,1,291,10,0\n0,1,700,0,1\n400,1,700,0,02\n"

no_fault_of_kinds : trace_fault marked ≡ None
unfolding trace_fault strip_bom records_from next_record fault_from is_header are_four_numbers number_from
no_fault_of_kinds = refl

told_with_kinds : requests_of marked ≡ asks_for 0 1 291 10 ∷ marks 0 1 700 kinds.Silent ∷ marks 400 1 700 kinds.Active ∷ []
unfolding requests_of strip_bom records_from next_record number_from
told_with_kinds = refl

text_faults :
    (trace_fault [] ∷ trace_fault (codes "tick,channel,sid\n") ∷
    trace_fault (codes "tick,channel,sid,units\n") ∷ trace_fault (codes "\n\"tick\",channel,sid,units\n \n") ∷
    trace_fault (239 ∷ 187 ∷ 191 ∷ codes "tick,channel,sid,units\r0,1,291,x") ∷
    trace_fault (codes "tick,channel,sid,units\n0,1,291") ∷
    trace_fault (codes "tick,channel,sid,units\n0,1,291,1\n0,1,291,65536\n") ∷ []) ≡
    Some Header ∷ Some Header ∷ None ∷ Some (Fields 2) ∷ Some (Number 2) ∷ Some (Fields 2) ∷ Some (Number 3) ∷ []
unfolding trace_fault strip_bom records_from next_record fault_from is_header are_four_numbers number_from
text_faults = refl
