-- Lines of the report, computed by the definitions alone.
use Rattle.std.specs.Prelude.{◌≡◌, ◌^◌, ◌-◌, ◌<◌, codes, [], ◌∷◌, Some, None, refl}
use Rattle.std.proofs.Common.{arith}
use Rattle.std.specs.Fmt.{digits}
use Rattle.us_output.specs.declared.rows.EntryWord.TheVariants as words
use Rattle.us_output.specs.declared.rows.FinalActivity.{FinalActivity}
use Rattle.us_output.specs.declared.rows.FinalState.{FinalState}
use Rattle.us_output.specs.declared.rows.Grant.{Grant}
use Rattle.us_output.specs.declared.rows.MissedOccurrence.{MissedOccurrence}
use Rattle.us_output.specs.declared.rows.Row.TheVariants as rows
use Rattle.us_output.specs.declared.rows.TraceCounts.{TraceCounts}
use Rattle.us_output.specs.Files.{lines}
use Rattle.us_output.specs.Lines.{Fit, HasFields, grant_text, missed_text, final_text, activity_text, counts_text}

abbrev requested : Grant
requested = record {
  round = 1;
  channel = 1;
  entry = words.Requested;
  id = 1;
  i = 0;
  k = 0;
  sid = 291;
  iuc = 10;
  start = 0;
  slots = 32;
  credit = 1000;
}

granted : grant_text requested ≡ codes "G,1,1,req,1,0,0,291,10,0,32,1000\n"
unfolding digits
granted = refl

-- what nobody asked for
abbrev poll : Grant
poll = record requested { round = 0; entry = words.RealTimePoll; iuc = 1; slots = 2; credit = 0 }

polled : grant_text poll ≡ codes "G,0,1,rtp,1,0,0,291,1,0,2,0\n"
unfolding digits
polled = refl

abbrev maintenance : Grant
maintenance = record poll { entry = words.Station; sid = 5; iuc = 4; start = 2; slots = 4 }

maintained : grant_text maintenance ≡ codes "G,0,1,station,1,0,0,5,4,2,4,0\n"
unfolding digits
maintained = refl

polled_seldom :
    missed_text (record { round = 7; channel = 2; entry = words.NonRealTimePoll; id = 65535; i = 9; k = 0 }) ≡
    codes "M,7,2,nrtp,65535,9,0\n"
unfolding digits
polled_seldom = refl

-- the poll of a silent flow, and a second grant that an active one missed
polled_silent : grant_text (record poll { round = 1; entry = words.Activity; i = 1; sid = 513 }) ≡
    codes "G,1,1,ad,1,1,0,513,1,0,2,0\n"
unfolding digits
polled_silent = refl

missed_active : missed_text (record { round = 2; channel = 1; entry = words.Activity; id = 1; i = 2; k = 1 }) ≡
    codes "M,2,1,ad,1,2,1\n"
unfolding digits
missed_active = refl

abbrev pub late_call : MissedOccurrence
late_call = record { round = 5; channel = 1; entry = words.Unsolicited; id = 1; i = 1; k = 0 }

missed : missed_text late_call ≡ codes "M,5,1,ugs,1,1,0\n"
unfolding digits
missed = refl

abbrev first_cluster : FinalState
first_cluster = record { flow = 1; cluster = 0; outstanding = 0; units = None }

without_bucket : final_text first_cluster ≡ codes "F,1,0,0,-\n"
unfolding digits
without_bucket = refl

with_bucket :
    final_text (record { flow = 1; cluster = 0; outstanding = 7838; units = Some 0 }) ≡ codes "F,1,0,7838,0\n"
unfolding digits
with_bucket = refl

abbrev silent_call : FinalActivity
silent_call = record { flow = 2; active = 0 }

silent : activity_text silent_call ≡ codes "A,2,0\n"
unfolding digits
silent = refl

active : activity_text (record silent_call { active = 1 }) ≡ codes "A,2,1\n"
unfolding digits
active = refl

abbrev none_left_out : TraceCounts
none_left_out = record { unknown = 0; not_requestable = 0; late = 0 }

counts : counts_text none_left_out ≡ codes "U,0,0,0\n"
unfolding digits
counts = refl

-- a report: each row gives its line
told :
    lines (rows.Granted requested ∷ rows.Missed late_call ∷ rows.Final first_cluster ∷ rows.Activity silent_call ∷
    rows.Counts none_left_out ∷ []) ≡
    codes "G,1,1,req,1,0,0,291,10,0,32,1000\nM,5,1,ugs,1,1,0\nF,1,0,0,-\nA,2,0\nU,0,0,0\n"
unfolding digits lines
told = refl

-- The numbers of a line have 64 bits.
widest : HasFields (rows.Counts (record none_left_out { late = 2 ^ 64 - 1 }))
widest = (omega arith, (omega arith, (omega arith, tt)))

too_wide : HasFields (rows.Counts (record none_left_out { late = 2 ^ 64 })) → ⊥
too_wide fit = omega (arith, fit.1.1.0)

-- and it is all of them
fields_of_lines :
    (HasFields (rows.Granted requested) ≡ Fit (1 ∷ 1 ∷ 1 ∷ 0 ∷ 0 ∷ 291 ∷ 10 ∷ 0 ∷ 32 ∷ 1000 ∷ []))
    × (HasFields (rows.Missed late_call) ≡ Fit (5 ∷ 1 ∷ 1 ∷ 1 ∷ 0 ∷ []))
    × (HasFields (rows.Final (record first_cluster { outstanding = 7; units = Some 9 })) ≡
    (Fit (1 ∷ 0 ∷ 7 ∷ []) × (9 < 2 ^ 64)))
    × (HasFields (rows.Activity silent_call) ≡ Fit (2 ∷ 0 ∷ []))
fields_of_lines = (refl, refl, refl, refl)
