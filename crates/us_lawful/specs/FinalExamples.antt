-- The rules of F, A and U lines at small inputs: the stored run, and the same with other lines at the end.
use Rattle.std.specs.Prelude.{◌≡◌, ℕ, ◌*◌, true, false, List, [], ◌∷◌, map, Some, None, refl}
use Rattle.us_flows.specs.declared.flows.SchedulingType.TheVariants.{ActivityDetection}
use Rattle.us_flows.specs.Clusters.{table_order}
use Rattle.us_flows.specs.Tables.{FlowTable}
use Rattle.us_output.specs.declared.rows.FinalState.{FinalState}
use Rattle.us_output.specs.declared.rows.Grant.{Grant}
use Rattle.us_output.specs.declared.rows.Row.{Row}
use Rattle.us_output.specs.declared.rows.Row.TheVariants as rows
use Rattle.us_output.specs.declared.rows.TraceCounts.{TraceCounts}
use Rattle.us_round.specs.RoundExamples.{base, base_flow}
use Rattle.us_lawful.specs.Runs.{Run, Judged, counts_told}
use Rattle.us_lawful.specs.Finals.{activities_hold, activity_of, final_of, finals_hold, counts_hold, talking}
use Rattle.us_lawful.specs.Examples.{at, ends, steps, stored, stored_grant, told, with_lines}
use Rattle.us_lawful.specs.CreditExamples.{limited, slow, with_credits}

-- F lines.

-- that of the one cluster, by other lines: with its grant, and without,
final_lines :
    (map (final_of stored told.lines) (table_order base)
    ≡ record { flow = 1; cluster = 0; outstanding = 0; units = None } ∷ [])
    × (map (final_of stored (ends 1000)) (table_order base)
    ≡ record { flow = 1; cluster = 0; outstanding = 1000; units = None } ∷ [])
unfolding steps
final_lines = (refl, refl)

-- and with the rate: the burst less 999 bytes, for the bucket is full again in round 1
final_units :
    let grant : Grant = record stored_grant { credit = 999 } in
    map (final_of limited (rows.Granted grant ∷ [])) (table_order limited.tables)
    ≡ record { flow = 1; cluster = 0; outstanding = 1; units = Some 0 } ∷ []
unfolding steps limited
final_units = refl

-- between two rounds it grows once, by 320 bytes here: 220 of them are left
slow_units :
    map (final_of slow (with_credits 1522 100).lines) (table_order slow.tables)
    ≡ record { flow = 1; cluster = 0; outstanding = 378; units = Some (220 * 1280000) } ∷ []
unfolding steps slow
slow_units = refl

abbrev stored_final : FinalState
stored_final = record { flow = 1; cluster = 0; outstanding = 0; units = None }

abbrev stored_counts : TraceCounts
stored_counts = record { unknown = 0; not_requestable = 0; late = 0 }

-- with these F lines
abbrev with_finals : List Row → Judged
with_finals finals = with_lines (rows.Granted stored_grant ∷ rows.Counts stored_counts ∷ finals)

lawful_ends : (finals_hold stored told (at 2 0 1) ≡ true) × (counts_hold stored told (at 2 0 0) ≡ true)
unfolding steps
lawful_ends = (refl, refl)

-- none, two, and one that tells a byte more
wrong_finals :
    let twice : Judged = with_finals (rows.Final stored_final ∷ rows.Final stored_final ∷ []) in
    let more : Judged = with_finals (rows.Final (record stored_final { outstanding = 1 }) ∷ []) in
    (finals_hold stored (with_finals []) (at 2 0 1) ≡ false) × (finals_hold stored (with_finals []) (at 2 0 2) ≡ true)
    × (finals_hold stored twice (at 2 0 1) ≡ false) × (finals_hold stored twice (at 2 0 2) ≡ true)
    × (finals_hold stored more (at 2 0 1) ≡ false) × (finals_hold stored more (at 1 0 1) ≡ true)
unfolding steps
wrong_finals = (refl, refl, refl, refl, refl, refl)

-- an empty bucket for none; one more of a cluster that isn't there, and of a flow that isn't
other_finals :
    let empty : Judged = with_finals (rows.Final (record stored_final { units = Some 0 }) ∷ []) in
    let second : Judged =
    with_finals (rows.Final stored_final ∷ rows.Final (record stored_final { cluster = 1 }) ∷ []) in
    let unknown : Judged = with_finals (rows.Final stored_final ∷ rows.Final (record stored_final { flow = 2 }) ∷ []) in
    (finals_hold stored empty (at 2 0 1) ≡ false) × (finals_hold stored second (at 2 0 1) ≡ false)
    × (finals_hold stored unknown (at 2 0 2) ≡ false) × (finals_hold stored unknown (at 2 0 1) ≡ true)
unfolding steps
other_finals = (refl, refl, refl, refl)

-- Two flows, and one flow with two clusters: what one F line tells doesn't stand for the other.
abbrev with_flows : List FlowTable → Run
with_flows flows = record stored { tables = record base { flows = flows }; cuts = (0 ∷ 0 ∷ []) ∷ (1000 ∷ 7 ∷ []) ∷ [] }

two_flows :
    let second : FinalState = record stored_final { flow = 2 } in
    let run : Run = with_flows (base_flow ∷ record base_flow { id = 2; clusters = (292 ∷ []) ∷ [] } ∷ []) in
    let told : Judged = with_finals (rows.Final stored_final ∷ rows.Final (record second { outstanding = 7 }) ∷ []) in
    let turned : Judged = with_finals (rows.Final (record stored_final { outstanding = 7 }) ∷ rows.Final second ∷ []) in
    (finals_hold run told (at 2 0 1) ≡ true) × (finals_hold run told (at 2 0 2) ≡ true)
    × (finals_hold run turned (at 2 0 1) ≡ false) × (finals_hold run turned (at 2 0 2) ≡ false)
unfolding steps
two_flows = (refl, refl, refl, refl)

two_clusters :
    let second : FinalState = record stored_final { cluster = 1 } in
    let run : Run = with_flows (record base_flow { clusters = (291 ∷ []) ∷ (292 ∷ []) ∷ [] } ∷ []) in
    let told : Judged = with_finals (rows.Final stored_final ∷ rows.Final (record second { outstanding = 7 }) ∷ []) in
    let turned : Judged = with_finals (rows.Final (record stored_final { outstanding = 7 }) ∷ rows.Final second ∷ []) in
    (finals_hold run told (at 2 0 1) ≡ true) × (finals_hold run turned (at 2 0 1) ≡ false)
unfolding steps
two_clusters = (refl, refl)

-- A lines.

-- Two calls: the words 1 and 3 mark them as silent in round 0, and word 2 marks the first one as active again in round 1. Word
-- 0 is what a flow before them requests.
abbrev call : ℕ → ℕ → FlowTable
call id sid = record base_flow {
  id = id;
  kind = ActivityDetection;
  clusters = (sid ∷ []) ∷ [];
  start_us = 0;
  interval_us = 2000;
  jitter_us = 1000;
  grant_bytes = 16;
  grants_per_interval = 2;
}

unfoldable calls : Run
calls = record stored {
  tables = record base { flows = base_flow ∷ call 3 513 ∷ call 2 514 ∷ [] };
  cuts = (0 ∷ 1 ∷ 0 ∷ 1 ∷ 0 ∷ []) ∷ (1000 ∷ 0 ∷ 1 ∷ 0 ∷ 0 ∷ []) ∷ [];
}

abbrev activity : ℕ → ℕ → Row
activity flow active = rows.Activity (record { flow = flow; active = active })

-- the lines of the flows that tell it
told_activities :
    (map (activity_of calls) (talking calls.tables)
    ≡ record { flow = 3; active = 1 } ∷ record { flow = 2; active = 0 } ∷ [])
    × (map (activity_of stored) (talking base) ≡ [])
unfolding steps calls
told_activities = (refl, refl)

lawful_activities :
    let judged : Judged = with_lines (activity 3 1 ∷ activity 2 0 ∷ []) in
    (activities_hold calls judged (at 2 0 3) ≡ true) × (activities_hold calls judged (at 2 0 2) ≡ true)
    × (activities_hold calls judged (at 2 0 1) ≡ true) × (activities_hold stored told (at 2 0 1) ≡ true)
unfolding steps calls
lawful_activities = (refl, refl, refl, refl)

-- none, two, one that tells the other activity, and one whose number says neither
wrong_activities :
    let none : Judged = with_lines (activity 2 0 ∷ []) in
    let twice : Judged = with_lines (activity 3 1 ∷ activity 3 1 ∷ activity 2 0 ∷ []) in
    let turned : Judged = with_lines (activity 3 0 ∷ activity 2 0 ∷ []) in
    let neither : Judged = with_lines (activity 3 2 ∷ activity 2 0 ∷ []) in
    (activities_hold calls none (at 2 0 3) ≡ false) × (activities_hold calls none (at 2 0 2) ≡ true)
    × (activities_hold calls none (at 1 0 3) ≡ true) × (activities_hold calls none (at 2 1 3) ≡ true)
    × (activities_hold calls twice (at 2 0 3) ≡ false) × (activities_hold calls twice (at 2 0 2) ≡ true)
    × (activities_hold calls turned (at 2 0 3) ≡ false) × (activities_hold calls turned (at 2 0 2) ≡ true)
    × (activities_hold calls neither (at 2 0 3) ≡ false) × (activities_hold calls neither (at 2 0 2) ≡ true)
unfolding steps calls
wrong_activities = (refl, refl, refl, refl, refl, refl, refl, refl, refl, refl)

-- one of a flow that makes requests, and of one that isn't there
other_activities :
    let requests : Judged = with_lines (activity 3 1 ∷ activity 2 0 ∷ activity 1 1 ∷ []) in
    let unknown : Judged = with_lines (activity 3 1 ∷ activity 2 0 ∷ activity 4 1 ∷ []) in
    (activities_hold calls requests (at 2 0 1) ≡ false) × (activities_hold calls requests (at 2 0 3) ≡ true)
    × (activities_hold calls unknown (at 2 0 4) ≡ false) × (activities_hold calls unknown (at 2 0 1) ≡ true)
unfolding steps calls
other_activities = (refl, refl, refl, refl)

-- two lines of one call, of which one is right
right_and_wrong :
    let judged : Judged = with_lines (activity 3 1 ∷ activity 3 0 ∷ activity 2 0 ∷ []) in
    (activities_hold calls judged (at 2 0 3) ≡ false) × (activities_hold calls judged (at 2 0 2) ≡ true)
unfolding steps calls
right_and_wrong = (refl, refl)

-- U lines: none, two, and one that tells a row more.
wrong_counts :
    let none : Judged = with_lines (rows.Granted stored_grant ∷ rows.Final stored_final ∷ []) in
    let twice : Judged = with_lines (rows.Counts stored_counts ∷ ends 0) in
    let more : Judged = with_lines (rows.Final stored_final ∷ rows.Counts (record stored_counts { late = 1 }) ∷ []) in
    (counts_hold stored none (at 2 0 0) ≡ false) × (counts_hold stored twice (at 2 0 0) ≡ false)
    × (counts_hold stored more (at 2 0 0) ≡ false) × (counts_hold stored more (at 2 0 1) ≡ true)
unfolding steps
wrong_counts = (refl, refl, refl, refl)

-- each number of a U line is read, at its own place
counted : Run
counted = record stored { counts = record { unknown = 1; not_requestable = 2; late = 3 } }

other_counts :
    let told : TraceCounts = record { unknown = 1; not_requestable = 2; late = 3 } in
    (counts_told counted.counts ≡ told)
    × (counts_hold counted (with_lines (rows.Counts told ∷ [])) (at 2 0 0) ≡ true)
    × (counts_hold counted (with_lines (rows.Counts (record told { unknown = 3 }) ∷ [])) (at 2 0 0) ≡ false)
    × (counts_hold counted (with_lines (rows.Counts (record told { not_requestable = 1 }) ∷ [])) (at 2 0 0) ≡ false)
    × (counts_hold counted (with_lines (rows.Counts (record told { late = 1 }) ∷ [])) (at 2 0 0) ≡ false)
unfolding steps counted
other_counts = (refl, refl, refl, refl, refl)
