-- The rule of calendar lines at small inputs: a flow with one unsolicited grant, ideal at 1,900 microseconds; and flows that
-- fall silent.
use Rattle.std.specs.Prelude.{◌≡◌, ℕ, ◌∷◌, ◌++◌, true, false, List, [], length, replicate, ⊤, refl}
use Rattle.us_slots.specs.Bursts.{coded_length, burst_cost}
use Rattle.us_flows.specs.declared.flows.SchedulingType.TheVariants.{ActivityDetection, UnsolicitedGrant}
use Rattle.us_flows.specs.Tables.{FlowTable}
use Rattle.us_calendar.specs.Entries.{entries}
use Rattle.us_output.specs.declared.rows.EntryWord.TheVariants as words
use Rattle.us_output.specs.declared.rows.Grant.{Grant}
use Rattle.us_output.specs.declared.rows.MissedOccurrence.{MissedOccurrence}
use Rattle.us_output.specs.declared.rows.Row.{Row}
use Rattle.us_output.specs.declared.rows.Row.TheVariants as rows
use Rattle.us_round.specs.RoundExamples.{base_channel, base_flow, tables}
use Rattle.us_lawful.specs.Runs.{Run, Judged}
use Rattle.us_lawful.specs.Examples.{at}
use Rattle.us_lawful.specs.Places.{places_hold}
use Rattle.us_lawful.specs.CalendarLines.{closing_in, calendar_lines_hold}

-- so many rounds of 2,000 microseconds
abbrev run : ℕ → ℕ → Run
run jitter_us rounds = record {
  tables = tables (base_channel ∷ []) (record base_flow {
    kind = UnsolicitedGrant;
    clusters = (513 ∷ []) ∷ [];
    start_us = 1900;
    interval_us = 10000;
    jitter_us = jitter_us;
    grant_bytes = 16;
    grants_per_interval = 1;
  } ∷ []);
  rounds = rounds;
  cuts = replicate rounds [];
  counts = record { unknown = 0; not_requestable = 0; late = 0 };
}

abbrev with : List Row → Judged
with lines = record { maps = []; lines = lines }

-- the grant at the start of round 1
abbrev grant : Grant
grant = record {
  round = 1;
  channel = 1;
  entry = words.Unsolicited;
  id = 1;
  i = 0;
  k = 0;
  sid = 513;
  iuc = 11;
  start = 0;
  slots = 1;
  credit = 0;
}

-- the same occurrence, missed in a round
abbrev missed_in : ℕ → MissedOccurrence
missed_in round = record { round = round; channel = 1; entry = words.Unsolicited; id = 1; i = 0; k = 0 }

-- what these computations unfold
unfoldable steps : ⊤
unfolding coded_length burst_cost entries closing_in
steps = tt

-- With a jitter of 800 microseconds the window closes in round 1, and reaches to minislot 56 of its MAP.

in_window :
    let judged : Judged = with (rows.Granted grant ∷ []) in
    (calendar_lines_hold (run 800 2) judged (at 0 1 1) ≡ true)
    × (calendar_lines_hold (run 800 2) judged (at 1 1 1) ≡ true)
unfolding steps
in_window = (refl, refl)

-- minislot 57 starts after it,
late_grant :
    let judged : Judged = with (rows.Granted (record grant { start = 57 }) ∷ []) in
    (calendar_lines_hold (run 800 2) judged (at 1 1 1) ≡ false)
    × (calendar_lines_hold (run 800 2) judged (at 0 1 1) ≡ true)
unfolding steps
late_grant = (refl, refl)

-- and round 0 has nothing of it
early_grant :
    let judged : Judged = with (rows.Granted (record grant { round = 0 }) ∷ []) in
    (calendar_lines_hold (run 800 2) judged (at 0 1 1) ≡ false)
    × (calendar_lines_hold (run 800 2) judged (at 0 1 2) ≡ true)
unfolding steps
early_grant = (refl, refl)

-- without its line, with the line twice, and with a credit
missing_line :
    (calendar_lines_hold (run 800 2) (with []) (at 1 1 1) ≡ false)
    × (calendar_lines_hold (run 800 2) (with []) (at 0 1 1) ≡ true)
unfolding steps
missing_line = (refl, refl)

line_told_twice :
    let judged : Judged = with (rows.Granted grant ∷ rows.Granted grant ∷ []) in
    (calendar_lines_hold (run 800 2) judged (at 1 1 1) ≡ false)
    × (calendar_lines_hold (run 800 2) judged (at 1 1 2) ≡ true)
unfolding steps
line_told_twice = (refl, refl)

grant_with_credit :
    let judged : Judged = with (rows.Granted (record grant { credit = 16 }) ∷ []) in
    (calendar_lines_hold (run 800 2) judged (at 1 1 1) ≡ false)
    × (calendar_lines_hold (run 800 2) judged (at 1 2 1) ≡ true)
unfolding steps
grant_with_credit = (refl, refl)

-- With a jitter of 80 microseconds the window closes in round 0, and that is where it is missed.
missed :
    let judged : Judged = with (rows.Missed (missed_in 0) ∷ []) in
    (calendar_lines_hold (run 80 2) judged (at 0 1 1) ≡ true)
    × (calendar_lines_hold (run 80 2) judged (at 1 1 1) ≡ true)
unfolding steps
missed = (refl, refl)

missed_a_round_late :
    let judged : Judged = with (rows.Missed (missed_in 1) ∷ []) in
    (calendar_lines_hold (run 80 2) judged (at 1 1 1) ≡ false)
    × (calendar_lines_hold (run 80 2) judged (at 0 1 1) ≡ true)
unfolding steps
missed_a_round_late = (refl, refl)

-- In one round a window that closes in the next one is still open: it isn't missed, not even in a round past the end.
open_is_missed :
    let judged : Judged = with (rows.Missed (missed_in 1) ∷ []) in
    (calendar_lines_hold (run 800 1) judged (at 1 1 1) ≡ false)
    × (calendar_lines_hold (run 800 1) judged (at 0 1 1) ≡ true)
    × (places_hold (run 800 1) judged (at 1 1 0) ≡ false)
unfolding steps
open_is_missed = (refl, refl, refl)

-- A grant starts before the window, and at its first minislot; in one round it may be told though the window is open, once.
begin_of_window :
    let first : Grant = record grant { round = 0; start = 152 } in
    let once : Judged = with (rows.Granted first ∷ []) in
    let twice : Judged = with (rows.Granted first ∷ rows.Granted first ∷ []) in
    let early : Judged = with (rows.Granted (record first { start = 151 }) ∷ []) in
    (calendar_lines_hold (run 800 2) once (at 0 1 1) ≡ true)
    × (calendar_lines_hold (run 800 2) early (at 0 1 1) ≡ false)
    × (calendar_lines_hold (run 800 1) once (at 0 1 1) ≡ true)
    × (calendar_lines_hold (run 800 1) twice (at 0 1 1) ≡ false)
unfolding steps
begin_of_window = (refl, refl, refl, refl)

-- and at its last one
end_of_window :
    calendar_lines_hold (run 800 2) (with (rows.Granted (record grant { start = 56 }) ∷ [])) (at 1 1 1) ≡ true
unfolding steps
end_of_window = refl

-- by another word, with another SID, IUC or length, of another id, on another channel
other_grants :
    let word : Judged = with (rows.Granted (record grant { entry = words.Station }) ∷ []) in
    let sid : Judged = with (rows.Granted (record grant { sid = 514 }) ∷ []) in
    let iuc : Judged = with (rows.Granted (record grant { iuc = 10 }) ∷ []) in
    let slots : Judged = with (rows.Granted (record grant { slots = 2 }) ∷ []) in
    (calendar_lines_hold (run 800 2) word (at 1 1 1) ≡ false)
    × (calendar_lines_hold (run 800 2) sid (at 1 1 1) ≡ false)
    × (calendar_lines_hold (run 800 2) iuc (at 1 1 1) ≡ false)
    × (calendar_lines_hold (run 800 2) slots (at 1 1 1) ≡ false)
    × (calendar_lines_hold (run 800 2) slots (at 0 1 1) ≡ true)
unfolding steps
other_grants = (refl, refl, refl, refl, refl)

elsewhere :
    let id : Judged = with (rows.Granted (record grant { id = 2 }) ∷ []) in
    let channel : Judged = with (rows.Granted (record grant { channel = 2 }) ∷ []) in
    let missed_there : Judged = with (rows.Missed (record (missed_in 0) { channel = 2 }) ∷ []) in
    (calendar_lines_hold (run 800 2) id (at 1 1 2) ≡ false) × (calendar_lines_hold (run 800 2) id (at 0 1 2) ≡ true)
    × (calendar_lines_hold (run 800 2) channel (at 1 2 1) ≡ false)
    × (calendar_lines_hold (run 800 2) channel (at 1 1 1) ≡ true)
    × (calendar_lines_hold (run 80 2) missed_there (at 0 2 1) ≡ false)
    × (calendar_lines_hold (run 80 2) missed_there (at 0 1 1) ≡ true)
unfolding steps
elsewhere = (refl, refl, refl, refl, refl, refl)

-- A call each 2,000 microseconds from the start on, with one grant in an interval: that of interval 1 isn't told as a
-- second one of interval 0.
each_round : Run
each_round = record {
  tables = tables (base_channel ∷ []) (record base_flow {
    kind = UnsolicitedGrant;
    clusters = (513 ∷ []) ∷ [];
    start_us = 0;
    interval_us = 2000;
    jitter_us = 800;
    grant_bytes = 16;
    grants_per_interval = 1;
  } ∷ []);
  rounds = 2;
  cuts = [] ∷ [] ∷ [];
  counts = record { unknown = 0; not_requestable = 0; late = 0 };
}

told_as_second :
    let first : Grant = record grant { round = 0 } in
    let judged : Judged = with (rows.Granted first ∷ rows.Granted (record grant { k = 1 }) ∷ []) in
    (calendar_lines_hold each_round judged (at 1 1 1) ≡ false)
    × (calendar_lines_hold each_round judged (at 0 1 1) ≡ true)
unfolding steps each_round
told_as_second = (refl, refl)

-- The interval that begins as the run ends isn't there, though its line is right but for that: in round 2 of 2 it fails here
-- too, beside the rule of rounds and channels. In a run of 3 rounds it is there.
behind_the_run :
    let first : Grant = record grant { round = 0 } in
    let second : Grant = record grant { i = 1 } in
    let third : Grant = record grant { round = 2; i = 2 } in
    let judged : Judged = with (rows.Granted first ∷ rows.Granted second ∷ rows.Granted third ∷ []) in
    let longer : Run = record each_round { rounds = 3; cuts = [] ∷ [] ∷ [] ∷ [] } in
    (calendar_lines_hold each_round judged (at 2 1 1) ≡ false)
    × (places_hold each_round judged (at 2 1 0) ≡ false)
    × (calendar_lines_hold each_round judged (at 1 1 1) ≡ true)
    × (calendar_lines_hold longer judged (at 2 1 1) ≡ true)
unfolding steps each_round
behind_the_run = (refl, refl, refl, refl)

-- Two grants in an interval: the second interval has the occurrences 2 and 3.
paired : Run
paired = record each_round {
  tables = tables (base_channel ∷ []) (record base_flow {
    kind = UnsolicitedGrant;
    clusters = (513 ∷ []) ∷ [];
    start_us = 0;
    interval_us = 2000;
    jitter_us = 800;
    grant_bytes = 16;
    grants_per_interval = 2;
  } ∷ []);
}

two_in_an_interval :
    let first : List Row = rows.Granted (record grant { round = 0 })
    ∷ rows.Granted (record grant { round = 0; k = 1; start = 1 }) ∷ rows.Granted (record grant { i = 1 }) ∷ [] in
    let told : Judged = with (rows.Granted (record grant { i = 1; k = 1; start = 1 }) ∷ first) in
    let third : Judged = with (rows.Granted (record grant { i = 1; k = 2; start = 1 }) ∷ first) in
    (calendar_lines_hold paired told (at 0 1 1) ≡ true) × (calendar_lines_hold paired told (at 1 1 1) ≡ true)
    × (calendar_lines_hold paired third (at 0 1 1) ≡ true) × (calendar_lines_hold paired third (at 1 1 1) ≡ false)
unfolding steps each_round paired
two_in_an_interval = (refl, refl, refl, refl)

-- A window that ends as the run does is still open.
open_to_the_end : Run
open_to_the_end = record each_round {
  tables = tables (base_channel ∷ []) (record base_flow {
    kind = UnsolicitedGrant;
    clusters = (513 ∷ []) ∷ [];
    start_us = 3200;
    interval_us = 10000;
    jitter_us = 800;
    grant_bytes = 16;
    grants_per_interval = 1;
  } ∷ []);
}

open_at_the_end :
    (calendar_lines_hold open_to_the_end (with []) (at 1 1 1) ≡ true)
    × (calendar_lines_hold open_to_the_end (with []) (at 2 1 1) ≡ true)
    × (calendar_lines_hold open_to_the_end (with (rows.Missed (missed_in 1) ∷ [])) (at 1 1 1) ≡ false)
unfolding steps each_round open_to_the_end
open_at_the_end = (refl, refl, refl)

-- Silence.

-- a call with two grants of a minislot in each interval, or a poll of 2, an interval a round: word 0 marks it as silent, word 1
-- as active
abbrev call : FlowTable
call = record base_flow {
  kind = ActivityDetection;
  clusters = (513 ∷ []) ∷ [];
  start_us = 0;
  interval_us = 2000;
  jitter_us = 1000;
  grant_bytes = 16;
  grants_per_interval = 2;
}

unfoldable heard_of : List FlowTable → List (List ℕ) → Run
heard_of flows cuts = record {
  tables = tables (base_channel ∷ []) flows;
  rounds = length cuts;
  cuts = cuts;
  counts = record { unknown = 0; not_requestable = 0; late = 0 };
}

-- silent in round 1, and active again in round 2
abbrev with_silence : Run
with_silence = heard_of (call ∷ []) ((0 ∷ 0 ∷ []) ∷ (1 ∷ 0 ∷ []) ∷ (0 ∷ 1 ∷ []) ∷ [])

-- grant `k` of interval `i`, and its poll
abbrev spoken : ℕ → ℕ → Grant
spoken i k = record grant { round = i; entry = words.Activity; i = i; k = k; start = k }

abbrev polled : ℕ → Grant
polled i = record (spoken i 0) { iuc = 1; slots = 2 }

abbrev both_grants : ℕ → List Row
both_grants i = rows.Granted (spoken i 0) ∷ rows.Granted (spoken i 1) ∷ []

-- lines of the rounds 0 and 2, with these of round 1
abbrev around : List Row → Judged
around lines = with (both_grants 0 ++ (lines ++ both_grants 2))

silent_interval :
    let judged : Judged = around (rows.Granted (polled 1) ∷ []) in
    (calendar_lines_hold with_silence judged (at 0 1 1) ≡ true)
    × (calendar_lines_hold with_silence judged (at 1 1 1) ≡ true)
    × (calendar_lines_hold with_silence judged (at 2 1 1) ≡ true)
unfolding steps heard_of
silent_interval = (refl, refl, refl)

-- both grants there, one of them, and one that stands for the poll
grants_while_silent :
    let both : Judged = around (both_grants 1) in
    let first : Judged = around (rows.Granted (spoken 1 0) ∷ []) in
    let iuc : Judged = around (rows.Granted (record (polled 1) { iuc = 11 }) ∷ []) in
    let slots : Judged = around (rows.Granted (record (polled 1) { slots = 1 }) ∷ []) in
    (calendar_lines_hold with_silence both (at 1 1 1) ≡ false)
    × (calendar_lines_hold with_silence both (at 2 1 1) ≡ true)
    × (calendar_lines_hold with_silence first (at 1 1 1) ≡ false)
    × (calendar_lines_hold with_silence iuc (at 1 1 1) ≡ false)
    × (calendar_lines_hold with_silence slots (at 1 1 1) ≡ false)
unfolding steps heard_of
grants_while_silent = (refl, refl, refl, refl, refl)

-- a poll for each grant, none at all, and another poll that is missed
other_polls :
    let second : Judged =
    around (rows.Granted (polled 1) ∷ rows.Granted (record (polled 1) { k = 1; start = 2 }) ∷ []) in
    let missed_second : Judged = around (rows.Granted (polled 1) ∷ rows.Missed (record {
      round = 1;
      channel = 1;
      entry = words.Activity;
      id = 1;
      i = 1;
      k = 1;
    }) ∷ []) in
    (calendar_lines_hold with_silence second (at 1 1 1) ≡ false)
    × (calendar_lines_hold with_silence (around []) (at 1 1 1) ≡ false)
    × (calendar_lines_hold with_silence missed_second (at 1 1 1) ≡ false)
    × (calendar_lines_hold with_silence missed_second (at 2 1 1) ≡ true)
unfolding steps heard_of
other_polls = (refl, refl, refl, refl)

-- the poll may be missed, as what else closes
missed_poll :
    let missed : MissedOccurrence = record (missed_in 1) { entry = words.Activity; i = 1 } in
    (calendar_lines_hold with_silence (around (rows.Missed missed ∷ [])) (at 1 1 1) ≡ true)
    × (calendar_lines_hold with_silence (around (rows.Missed (record missed { round = 2 }) ∷ [])) (at 2 1 1) ≡ false)
unfolding steps heard_of
missed_poll = (refl, refl)

-- a poll of an interval that begins while the call is active: without the mark as silent, and with both marks in one round
poll_while_active :
    let unmarked : Run = heard_of (call ∷ []) ((0 ∷ 0 ∷ []) ∷ (0 ∷ 0 ∷ []) ∷ (0 ∷ 1 ∷ []) ∷ []) in
    let both : Run = heard_of (call ∷ []) ((0 ∷ 0 ∷ []) ∷ (1 ∷ 1 ∷ []) ∷ (0 ∷ 0 ∷ []) ∷ []) in
    let judged : Judged = around (rows.Granted (polled 1) ∷ []) in
    (calendar_lines_hold unmarked judged (at 1 1 1) ≡ false)
    × (calendar_lines_hold unmarked judged (at 2 1 1) ≡ true)
    × (calendar_lines_hold both judged (at 1 1 1) ≡ false)
    × (calendar_lines_hold both (around (both_grants 1)) (at 1 1 1) ≡ true)
unfolding steps heard_of
poll_while_active = (refl, refl, refl, refl)

-- of two calls each has its own marks; that of the second one are the words 2 and 3
marks_of_another_call :
    let calls : List FlowTable = call ∷ record call { id = 2; clusters = (514 ∷ []) ∷ [] } ∷ [] in
    let first_silent : Run = heard_of calls ((1 ∷ 0 ∷ 0 ∷ 0 ∷ []) ∷ []) in
    let second_silent : Run = heard_of calls ((0 ∷ 0 ∷ 1 ∷ 0 ∷ []) ∷ []) in
    let other : Grant = record (polled 0) { id = 2; sid = 514; start = 2 } in
    let judged : Judged = with (rows.Granted other ∷ both_grants 0) in
    (calendar_lines_hold second_silent judged (at 0 1 1) ≡ true)
    × (calendar_lines_hold second_silent judged (at 0 1 2) ≡ true)
    × (calendar_lines_hold first_silent judged (at 0 1 1) ≡ false)
    × (calendar_lines_hold first_silent judged (at 0 1 2) ≡ false)
unfolding steps heard_of
marks_of_another_call = (refl, refl, refl, refl)

-- Of what kind an interval is, the round says that holds its ideal time: this one is ideal in round 0, and granted in round 1,
-- in which the call is silent.
granted_in_silence :
    let late : FlowTable =
    record call { start_us = 1900; interval_us = 10000; jitter_us = 800; grants_per_interval = 1 } in
    let run : Run = heard_of (late ∷ []) ((0 ∷ 0 ∷ []) ∷ (1 ∷ 0 ∷ []) ∷ []) in
    let first : Grant = record grant { entry = words.Activity } in
    (calendar_lines_hold run (with (rows.Granted first ∷ [])) (at 1 1 1) ≡ true)
    × (calendar_lines_hold run (with (rows.Granted (record first { iuc = 1; slots = 2 }) ∷ [])) (at 1 1 1) ≡ false)
unfolding steps heard_of
granted_in_silence = (refl, refl)
