-- Small inputs, computed by the definitions alone.
use Rattle.std.specs.Prelude.{◌≡◌, ℕ, Bool, true, false, List, [], ◌∷◌, map, Some, refl}
use Rattle.us_flows.specs.Tables.{Tables, FlowTable}
use Rattle.us_flows.specs.declared.flows.SchedulingType.TheVariants.{BestEffort, ActivityDetection}
use Rattle.us_requests.specs.declared.asks.Ask.{Ask}
use Rattle.us_requests.specs.Cuts.{cut_of}
use Rattle.us_requests.specs.Traces.{TraceAsks, of_round, cuts_in}
use Rattle.us_calendar.specs.Activity.{active_in}
use Rattle.us_activity.specs.declared.marks.Mark.{Mark}
use Rattle.us_activity.specs.Kept.{marks_in, silent_words}
use Rattle.us_activity.specs.Marks.{is_active}

-- a flow that tells its activity, one with a cluster, and another that tells its activity: words 0 and 1, 2, and 3 and 4
abbrev talking : FlowTable
talking = record {
  id = 1;
  kind = ActivityDetection;
  channels = 1 ∷ [];
  clusters = (700 ∷ []) ∷ [];
  priority = 0;
  rate = 0;
  burst = 0;
  min_rate = 0;
  unit = 0;
  headers = false;
  start_us = 0;
  interval_us = 20000;
  jitter_us = 500;
  grant_bytes = 64;
  grants_per_interval = 1;
}

abbrev tables : Tables
tables = record {
  round_ticks = 320;
  lead_ticks = 160;
  channels = [];
  flows = talking
      ∷ record talking { id = 2; kind = BestEffort; clusters = (291 ∷ []) ∷ []; unit = 4 }
      ∷ record talking { id = 3; clusters = (701 ∷ []) ∷ [] } ∷ [];
  stations = [];
}

abbrev bytes_of : ℕ → ℕ → Ask
bytes_of word bytes = record { cluster = word; bytes = bytes }

-- The first flow is silent from round 1 on, and active again in round 3. The other one says both in round 2, and in round 3
-- that it is silent.
abbrev trace : TraceAsks
trace = record {
  rounds = 4;
  asks = record { round = 1; ask = bytes_of 0 1 } ∷ record { round = 1; ask = bytes_of 2 40 }
      ∷ record { round = 2; ask = bytes_of 4 1 } ∷ record { round = 2; ask = bytes_of 3 1 }
      ∷ record { round = 3; ask = bytes_of 1 1 } ∷ record { round = 3; ask = bytes_of 0 0 }
      ∷ record { round = 3; ask = bytes_of 3 1 } ∷ [];
  counts = record { unknown = 0; not_requestable = 0; late = 0 };
}

abbrev mark : ℕ → ℕ → Bool → Mark
mark word round active = record { word = word; round = round; active = active }

abbrev marks : List Mark
marks = mark 0 1 false ∷ mark 3 2 true ∷ mark 3 2 false ∷ mark 0 3 true ∷ mark 3 3 false ∷ []

-- requests mark nothing, and neither does an ask of no bytes
its_marks : marks_in (silent_words tables) trace ≡ marks
unfolding of_round
its_marks = refl

abbrev in_rounds : (ℕ → Bool) → List Bool
in_rounds active = map active (0 ∷ 1 ∷ 2 ∷ 3 ∷ 4 ∷ 9 ∷ [])

-- by the marks, in whatever order they stand, in the rounds and behind them,
by_marks :
    (in_rounds (is_active marks 0) ≡ true ∷ false ∷ false ∷ true ∷ true ∷ true ∷ [])
    × (in_rounds (is_active marks 3) ≡ true ∷ true ∷ true ∷ false ∷ false ∷ false ∷ [])
by_marks = (refl, refl)

-- and by the cuts
by_cuts :
    (in_rounds (active_in (Some (record { word = 0; slots = 2 })) (cuts_in tables trace))
    ≡ true ∷ false ∷ false ∷ true ∷ true ∷ true ∷ [])
    × (in_rounds (active_in (Some (record { word = 3; slots = 2 })) (cuts_in tables trace))
    ≡ true ∷ true ∷ true ∷ false ∷ false ∷ false ∷ [])
unfolding cuts_in cut_of of_round
by_cuts = (refl, refl)

-- By a word that marks no flow as silent nothing is told, be it a cluster's or one that marks a flow as active;
by_other_words :
    (in_rounds (is_active marks 2) ≡ true ∷ true ∷ true ∷ true ∷ true ∷ true ∷ [])
    × (in_rounds (is_active marks 1) ≡ true ∷ true ∷ true ∷ true ∷ true ∷ true ∷ [])
    × (in_rounds (is_active marks 4) ≡ true ∷ true ∷ true ∷ true ∷ true ∷ true ∷ [])
by_other_words = (refl, refl, refl)

-- read as marks, what the cuts have of the cluster's word would tell that some flow is silent in round 1
as_marks :
    in_rounds (active_in (Some (record { word = 2; slots = 2 })) (cuts_in tables trace))
    ≡ true ∷ false ∷ true ∷ true ∷ true ∷ true ∷ []
unfolding cuts_in cut_of of_round
as_marks = refl

-- without marks
none : in_rounds (is_active [] 0) ≡ true ∷ true ∷ true ∷ true ∷ true ∷ true ∷ []
none = refl
