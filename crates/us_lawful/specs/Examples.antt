-- The stored run, in which one modem asks for 1,000 bytes: what it is judged by, and what is judged of it. Beside it lines
-- of rounds and channels that it lacks.
use Rattle.std.specs.Prelude.{◌≡◌, ℕ, zero, suc, ◌^◌, ◌<◌, true, false, List, [], ◌∷◌, ◌++◌, slice_index, sum_by, codes, Some, None, Ok, ⊤, refl}
use Rattle.std.specs.List.{AllByRecursion}
use Rattle.std.proofs.Common.{arith}
use Rattle.std.specs.Fmt.{digits}
use Rattle.us_slots.specs.Bursts.{coded_length, burst_cost}
use Rattle.us_codec.specs.Elements.{MapElement, null_at}
use Rattle.us_codec.specs.Bodies.{MapBody}
use Rattle.us_flows.specs.declared.flows.SchedulingType.TheVariants.{ActivityDetection}
use Rattle.us_flows.specs.Tables.{Tables, FlowTable, rounds_fit}
use Rattle.us_flows.specs.Lawful.{AreTables}
use Rattle.us_bucket.specs.Levels.{refilled, spent, units_in}
use Rattle.us_calendar.specs.Occurrences.{coming, due}
use Rattle.us_calendar.specs.Settling.{settle_each, settle_entry}
use Rattle.us_channel.specs.Maps.{head_of}
use Rattle.us_output.specs.declared.rows.EntryWord.TheVariants as words
use Rattle.us_output.specs.declared.rows.Grant.{Grant}
use Rattle.us_output.specs.declared.rows.Row.{Row}
use Rattle.us_output.specs.declared.rows.Row.TheVariants as rows
use Rattle.us_requests.specs.declared.asks.Counts.{Counts}
use Rattle.us_requests.specs.Traces.{TraceAsks, cuts_in}
use Rattle.us_requests.specs.Readings.{Reads}
use Rattle.us_round.specs.Rounds.{final, schedule}
use Rattle.us_round.specs.FinalRows.{final_rows}
use Rattle.us_round.specs.RoundExamples.{base, base_channel, base_flow, round_steps, without_flows}
use Rattle.us_reports.specs.declared.place.Place.{Place}
use Rattle.us_lawful.specs.Runs.{Run, RoundMap, Judged, run_in}
use Rattle.us_lawful.specs.Places.{places_hold}
use Rattle.us_lawful.specs.Regions.{element_regions, regions_hold}
use Rattle.us_lawful.specs.Credits.{credits_hold}
use Rattle.us_lawful.specs.Finals.{level_left, counts_hold, finals_hold}
use Rattle.us_output.specs.Files.{lines}
use Rattle.us_output.specs.Lines.{HasFields}
use Rattle.us_lawful.specs.Output.{judged_of, maps_text, output_of, report_text}
use Rattle.us_lawful.specs.Texts.{AreLawful}
use Rattle.us_lawful.specs.Laws.{AreSmall, LinesHaveFields, TextsOfSchedulesAreLawful, TextsOfTracesAreLawful}

-- The stored run.

abbrev pub at : ℕ → ℕ → ℕ → Place
at round channel third = record { round = round; channel = channel; third = third }

-- two rounds; in the second one 1,000 bytes are asked for
abbrev pub stored : Run
stored = record {
  tables = base;
  rounds = 2;
  cuts = (0 ∷ []) ∷ (1000 ∷ []) ∷ [];
  counts = record { unknown = 0; not_requestable = 0; late = 0 };
}

abbrev pub element : ℕ → ℕ → ℕ → MapElement
element sid iuc offset = record { sid = sid; iuc = iuc; offset = offset }

-- the MAP of a round of the base channel, with these elements before the Null
abbrev pub base_map : ℕ → List MapElement → RoundMap
base_map round elements =
    let body : MapBody = record { head = head_of base round base_channel; elements = elements ++ null_at 160 ∷ [] } in
    record { round = round; body = body }

abbrev pub quiet_map : RoundMap
quiet_map = base_map 0 (element 16383 1 0 ∷ element 16383 1 150 ∷ [])

abbrev pub granted_map : RoundMap
granted_map = base_map 1 (element 291 10 0 ∷ element 16383 1 32 ∷ element 16383 1 150 ∷ [])

-- the G line of the stored run
abbrev pub stored_grant : Grant
stored_grant = record {
  round = 1;
  channel = 1;
  entry = words.Requested;
  id = 1;
  i = 0;
  k = 0;
  sid = 291;
  iuc = 10;
  start = 0;
  slots = 32;
  credit = 1000;
}

abbrev pub ends : ℕ → List Row
ends outstanding =
    rows.Final (record { flow = 1; cluster = 0; outstanding = outstanding; units = None })
    ∷ rows.Counts (record { unknown = 0; not_requestable = 0; late = 0 }) ∷ []

-- the MAPs of the stored run with other lines
abbrev pub with_lines : List Row → Judged
with_lines lines = record { maps = quiet_map ∷ granted_map ∷ []; lines = lines }

-- and its lines with two other MAPs
abbrev pub with_maps : RoundMap → RoundMap → Judged
with_maps first second = record { maps = first ∷ second ∷ []; lines = rows.Granted stored_grant ∷ ends 0 }

-- with these G lines
abbrev pub with_grants : List Row → Judged
with_grants lines = with_lines (lines ++ ends 0)

abbrev pub told : Judged
told = with_grants (rows.Granted stored_grant ∷ [])

-- what these computations unfold
unfoldable pub steps : ⊤
unfolding coded_length burst_cost refilled spent units_in head_of element_regions level_left
steps = tt

-- It is what the schedule gives.
stored_output : judged_of (output_of base stored.cuts stored.counts) ≡ told
unfolding steps round_steps output_of
stored_output = refl

stored_report :
    report_text (output_of base stored.cuts stored.counts) ≡ codes "G,1,1,req,1,0,0,291,10,0,32,1000\nF,1,0,0,-\nU,0,0,0\n"
unfolding steps round_steps output_of lines digits
stored_report = refl

-- A call over the base channel, with two grants in each round, or a poll: silent in round 1, and active again in round 2.
abbrev silent_call : FlowTable
silent_call = record base_flow {
  kind = ActivityDetection;
  clusters = (513 ∷ []) ∷ [];
  start_us = 0;
  interval_us = 2000;
  jitter_us = 1000;
  grant_bytes = 16;
  grants_per_interval = 2;
}

silent_report :
    report_text (output_of (record base { flows = silent_call ∷ [] }) ((0 ∷ 0 ∷ []) ∷ (1 ∷ 0 ∷ []) ∷ (0 ∷ 1 ∷ []) ∷ [])
    stored.counts)
    ≡ codes "G,0,1,ad,1,0,0,513,11,0,1,0\nG,0,1,ad,1,0,1,513,11,1,1,0\n"
    ++ (codes "G,1,1,ad,1,1,0,513,1,0,2,0\n"
    ++ codes "G,2,1,ad,1,2,0,513,11,0,1,0\nG,2,1,ad,1,2,1,513,11,1,1,0\nA,1,1\nU,0,0,0\n")
unfolding steps round_steps output_of lines digits coming due settle_each settle_entry
silent_report = refl

-- Rounds and channels.

-- A line of a round that the run lacks: all else holds, and the F line is as if nothing was credited.
round_past_the_end :
    let judged : Judged = record {
      maps = quiet_map ∷ base_map 1 (element 16383 1 0 ∷ element 16383 1 150 ∷ []) ∷ [];
      lines = rows.Granted (record stored_grant { round = 2 }) ∷ ends 1000;
    } in
    (places_hold stored judged (at 2 1 0) ≡ false) × (places_hold stored judged (at 1 1 0) ≡ true)
    × (regions_hold stored judged (at 1 1 0) ≡ true) × (credits_hold stored judged (at 2 1 1) ≡ true)
    × (credits_hold stored judged (at 1 0 1) ≡ true) × (finals_hold stored judged (at 2 0 1) ≡ true)
unfolding steps
round_past_the_end = (refl, refl, refl, refl, refl, refl)

-- and of a channel that it lacks: its sums and its F line balance, and no cluster has a SID there
unknown_channel :
    let judged : Judged = record {
      maps = quiet_map ∷ base_map 1 (element 16383 1 0 ∷ element 16383 1 150 ∷ []) ∷ [];
      lines = rows.Granted (record stored_grant { channel = 2 }) ∷ ends 0;
    } in
    (places_hold stored judged (at 1 2 0) ≡ false) × (places_hold stored judged (at 1 1 0) ≡ true)
    × (regions_hold stored judged (at 1 1 0) ≡ true) × (credits_hold stored judged (at 1 2 1) ≡ false)
    × (credits_hold stored judged (at 1 0 1) ≡ true) × (finals_hold stored judged (at 2 0 1) ≡ true)
unfolding steps
unknown_channel = (refl, refl, refl, refl, refl, refl)

-- The laws of texts.

-- of the one word 1,000 bytes are cut in all
stored_asked : (number : ℕ) → sum_by (λ cut. slice_index cut number) ((0 ∷ []) ∷ (1000 ∷ []) ∷ []) < 2 ^ 64
stored_asked zero = omega arith
stored_asked (suc number) =
    let none : sum_by (λ cut. slice_index cut (suc number)) ((0 ∷ []) ∷ (1000 ∷ []) ∷ []) ≡ 0 = refl in
    omega (arith, none)

stored_small : AreSmall stored.cuts stored.counts
stored_small = record { asked = stored_asked; unknown = omega arith; not_requestable = omega arith; late = omega arith }

-- so the texts of its schedule are lawful for the stored run
stored_texts : LinesHaveFields → TextsOfSchedulesAreLawful → AreTables base →
    AreLawful stored (maps_text (output_of base stored.cuts stored.counts))
    (report_text (output_of base stored.cuts stored.counts))
stored_texts fields texts lawful =
    texts base stored.cuts stored.counts lawful (refl, (refl, tt)) refl
    (fields base stored.cuts stored.counts lawful (refl, (refl, tt)) refl stored_small)

-- So are those of any text of which a trace was read;
read_texts : TextsOfTracesAreLawful → (t : Tables) (rounds : ℕ) (text : List ℕ) (trace : TraceAsks) → AreTables t →
    rounds_fit t rounds ≡ true → Reads t rounds (Some text) (Ok trace) →
    AreLawful (run_in t trace) (maps_text (output_of t (cuts_in t trace) trace.counts))
    (report_text (output_of t (cuts_in t trace) trace.counts))
read_texts law t rounds text trace lawful fits (read, told, fine, is) = law t rounds read trace lawful fits fine is

-- but the lines of the stored run are wrong for a trace with a row more, which is unknown;
other_trace : counts_hold (record stored { counts = record { unknown = 1; not_requestable = 0; late = 0 } }) told (at 2 0 0)
    ≡ false
other_trace = refl

-- and a count of 65 bits has no line
abbrev too_many : Counts
too_many = record { unknown = 0; not_requestable = 0; late = 2 ^ 64 }

no_fields : ¬ AllByRecursion HasFields (judged_of (output_of without_flows [] too_many)).lines
unfolding output_of schedule final final_rows
no_fields all = omega (arith, all.0.1.1.0)
