-- Whole runs in the base configuration and near it, computed by the definitions alone. Words are in hexadecimal.
use Rattle.std.specs.Prelude.{◌≡◌, ℕ, List, [], ◌∷◌, ◌++◌, flat_map, codes, ⊤, refl}
use Rattle.std.specs.Int.{to_be_bytes, w16, w32}
use Rattle.std.specs.Fmt.{digits}
use Rattle.us_codec.specs.Bodies.{spelling, front, element_bytes}
use Rattle.us_codec.specs.MapsFiles.{record_bytes, maps_file}
use Rattle.us_flows.specs.declared.flows.SchedulingType.TheVariants.{UnsolicitedGrant}
use Rattle.us_flows.specs.Tables.{Tables}
use Rattle.us_flows.specs.Clusters.{lookup}
use Rattle.us_requests.specs.Asks.{Request, round_of_tick, counts_of}
use Rattle.us_requests.specs.Cuts.{cut, cut_at}
use Rattle.us_requests.specs.Texts.{kind_of}
use Rattle.us_calendar.specs.Entries.{entries}
use Rattle.us_calendar.specs.Occurrences.{due, coming}
use Rattle.us_calendar.specs.Settling.{settle_each, settle_entry}
use Rattle.us_calendar.specs.Calendars.{run_entries}
use Rattle.us_round.specs.RoundExamples.{base, base_channel, base_flow, round_steps, tables, without_flows}
use Rattle.us_output.specs.Files.{records, lines}
use Rattle.us_lawful.specs.Output.{Output, output_of, maps_text, report_text}
use Rattle.us_replay.specs.Replays.{cuts_of, summary_of}

-- what these computations unfold
unfoldable all_steps : ⊤
unfolding round_steps entries due coming settle_each settle_entry run_entries lookup round_of_tick counts_of cut cut_at cuts_of
    output_of summary_of lines digits element_bytes front spelling record_bytes records maps_file
all_steps = tt

-- at a tick this SID asks for so many units on channel 1
abbrev request : ℕ → ℕ → ℕ → Request
request tick sid units = record { tick = tick; channel = 1; sid = sid; units = units; kind = kind_of 0 }

-- so many rounds for these requests
abbrev run : Tables → ℕ → List Request → Output
run t rounds requests = output_of t (cuts_of t rounds requests) (counts_of t rounds requests)

-- one round, and no flow
quiet_run :
    (maps_text (run without_flows 1 []) ≡
    0x00 ∷ 0x00 ∷ 0x00 ∷ 0x00 ∷ 0x00 ∷ 0x1c ∷
    0x01 ∷ 0x00 ∷ 0x03 ∷ 0x00 ∷ 0x00 ∷ 0x00 ∷ 0x00 ∷ 0x00 ∷ 0x00 ∷ 0x00 ∷ 0x00 ∷ 0x00 ∷ 0x02 ∷ 0x06 ∷ 0x03 ∷ 0x08 ∷
    0xff ∷ 0xfc ∷ 0x40 ∷ 0x00 ∷ 0xff ∷ 0xfc ∷ 0x40 ∷ 0x96 ∷ 0x00 ∷ 0x01 ∷ 0xc0 ∷ 0xa0 ∷ []) ×
    (report_text (run without_flows 1 []) ≡ codes "U,0,0,0\n")
unfolding all_steps
quiet_run = (refl, refl)

-- a record of a round, with a body of so many bytes, in words of four
abbrev record_with : ℕ → ℕ → List ℕ → List ℕ
record_with round bytes words = to_be_bytes w32 round ++ to_be_bytes w16 bytes ++ flat_map (to_be_bytes w32) words

-- 250 units of 4 bytes, which the second of two rounds takes in
abbrev stored_requests : List Request
stored_requests = request 0 291 250 ∷ []

stored_run :
    (maps_text (run base 2 stored_requests) ≡
    record_with 0 28
    (0x01000300 ∷ 0 ∷ 0 ∷ 0x02060308 ∷ 0xfffc4000 ∷ 0xfffc4096 ∷ 0x0001c0a0 ∷ []) ++
    record_with 1 32
    (0x01000400 ∷ 0xa0 ∷ 0x50 ∷ 0x02060308 ∷ 0x048e8000 ∷ 0xfffc4020 ∷ 0xfffc4096 ∷ 0x0001c0a0 ∷ [])) ×
    (report_text (run base 2 stored_requests) ≡ codes "G,1,1,req,1,0,0,291,10,0,32,1000\nF,1,0,0,-\nU,0,0,0\n") ×
    (summary_of (run base 2 stored_requests) (counts_of base 2 stored_requests) ≡
    record { rounds = 2; granted = 1; missed = 0; unknown = 0; not_requestable = 0; late = 0 })
unfolding all_steps
stored_run = (refl, refl, refl)

-- two rows of a SID that no flow has, and one whose round isn't run
left_over_rows :
    report_text (run base 2 (request 0 999 10 ∷ request 1000000 291 10 ∷ request 1000000 999 10 ∷ [])) ≡
    codes "F,1,0,0,-\nU,2,0,1\n"
unfolding all_steps
left_over_rows = refl

-- 1,280,000 bit/s and a burst of 1,522 bytes: 320 bytes a round
abbrev limited : Tables
limited = tables (base_channel ∷ []) (record base_flow { rate = 1280000; burst = 1522 } ∷ [])

-- 10,000 bytes: the burst at once, and then what the rate allows
limited_run :
    (report_text (run limited 4 (request 0 291 2500 ∷ [])) ≡
    codes "G,1,1,req,1,0,0,291,10,0,49,1522\nG,2,1,req,1,0,0,291,10,0,11,320\n" ++
    codes "G,3,1,req,1,0,0,291,10,0,11,320\nF,1,0,7838,0\nU,0,0,0\n")
unfolding all_steps
limited_run = refl

-- a grant of 16 bytes, ideal at 1,900 microseconds; round 0 ends at 2,000, and its last minislots are contention
abbrev granted_later : ℕ → Tables
granted_later jitter_us = tables (base_channel ∷ []) (record base_flow {
  kind = UnsolicitedGrant;
  clusters = (513 ∷ []) ∷ [];
  start_us = 1900;
  interval_us = 10000;
  jitter_us = jitter_us;
  grant_bytes = 16;
  grants_per_interval = 1;
} ∷ [])

-- it waits for round 1 where its window reaches there, and is missed where not
unsolicited_runs :
    (report_text (run (granted_later 800) 2 []) ≡ codes "G,1,1,ugs,1,0,0,513,11,0,1,0\nU,0,0,0\n") ×
    (report_text (run (granted_later 80) 2 []) ≡ codes "M,0,1,ugs,1,0,0\nU,0,0,0\n") ×
    (summary_of (run (granted_later 80) 2 []) (counts_of (granted_later 80) 2 []) ≡
    record { rounds = 2; granted = 0; missed = 1; unknown = 0; not_requestable = 0; late = 0 })
unfolding all_steps
unsolicited_runs = (refl, refl, refl)
