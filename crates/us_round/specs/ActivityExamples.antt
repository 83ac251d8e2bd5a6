-- Rounds with marks of activity, in small, computed by the definitions alone. Words are in hexadecimal.
use Rattle.std.specs.Prelude.{◌≡◌, ℕ, List, [], ◌∷◌, map, None, refl}
use Rattle.us_flows.specs.declared.flows.SchedulingType.TheVariants.{ActivityDetection}
use Rattle.us_flows.specs.Tables.{FlowTable, Tables}
use Rattle.us_codec.specs.Elements.{word_of}
use Rattle.us_calendar.specs.Occurrences.{coming, due}
use Rattle.us_calendar.specs.Settling.{settle_each, settle_entry}
use Rattle.us_output.specs.Outputs.{RoundOut, out_of}
use Rattle.us_output.specs.declared.rows.Row.TheVariants as rows
use Rattle.us_round.specs.RoundExamples.{round_steps, channel_with, flow_with, tables}
use Rattle.us_round.specs.Rounds.{State, final, opening, schedule}
use Rattle.us_round.specs.FinalRows.{final_rows}

-- MAPs of 16 minislots, the last 2 of which are for contention; and three flows: one of a cluster, and around it two with a
-- grant or a poll in each round. Words 0 and 3 mark these as silent, 1 and 4 as active; word 2 is the cluster's.
abbrev call : ℕ → ℕ → FlowTable
call id sid = record (flow_with id 0 (1 ∷ []) ((sid ∷ []) ∷ [])) {
  kind = ActivityDetection;
  start_us = 0;
  interval_us = 200;
  jitter_us = 100;
  grant_bytes = 16;
  grants_per_interval = 1;
}

abbrev calls : Tables
calls = record
    (tables (channel_with 1 2 0 1 ∷ []) (call 7 513 ∷ flow_with 5 0 (1 ∷ []) ((291 ∷ []) ∷ []) ∷ call 3 514 ∷ []))
    { round_ticks = 32 }

abbrev elements : List (List ℕ) → List (List (List ℕ))
elements cuts =
    map (λ (out : RoundOut). map (λ m. map word_of m.elements) out.maps) (map (out_of calls) (schedule (opening calls) cuts))

abbrev last_of : List (List ℕ) → State
last_of cuts = final (opening calls) cuts

-- The first flow is silent from round 1 on, and both are marked in round 2, where both marks of one flow make it active.
abbrev cuts : List (List ℕ)
cuts = (0 ∷ 0 ∷ 0 ∷ 0 ∷ 0 ∷ []) ∷ (1 ∷ 0 ∷ 0 ∷ 0 ∷ 0 ∷ []) ∷ (0 ∷ 0 ∷ 50 ∷ 1 ∷ 1 ∷ []) ∷ []

-- By id the second call goes first. In round 1 the first one has a poll of 2 minislots, and none but the cluster asks.
rounds : elements cuts ≡
    ((0x080ac000 ∷ 0x0806c001 ∷ 0xfffc4002 ∷ 0xfffc400e ∷ 0x0001c010 ∷ []) ∷ []) ∷
    ((0x080ac000 ∷ 0x08044001 ∷ 0xfffc4003 ∷ 0xfffc400e ∷ 0x0001c010 ∷ []) ∷ []) ∷
    ((0x080ac000 ∷ 0x08044001 ∷ 0x048e4003 ∷ 0xfffc4006 ∷ 0xfffc400e ∷ 0x0001c010 ∷ []) ∷ []) ∷ []
unfolding round_steps coming due settle_each settle_entry
rounds = refl

-- Marks ask for nothing, whatever they have; only what the cluster asks for is outstanding.
outstanding : (last_of ((9 ∷ 0 ∷ 1000 ∷ 0 ∷ 9 ∷ []) ∷ [])).outstanding ≡ 0 ∷ 0 ∷ 672 ∷ 0 ∷ 0 ∷ []
unfolding round_steps coming due settle_each settle_entry
outstanding = refl

-- The last lines: what is left of the cluster, and behind that each call's activity, in table order.
last_lines : final_rows (last_of cuts) ≡
    rows.Final (record { flow = 5; cluster = 0; outstanding = 0; units = None })
    ∷ rows.Activity (record { flow = 7; active = 0 }) ∷ rows.Activity (record { flow = 3; active = 1 }) ∷ []
unfolding round_steps coming due settle_each settle_entry
last_lines = refl
