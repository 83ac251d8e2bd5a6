-- A lines, as they are judged: each is of a flow that tells its activity, and each such flow has one, which tells what its last
-- mark says.
use Rattle.std.specs.Prelude.{◌≡◌, ℕ, ◌==◌, if◌then◌else◌, List, length, map, slice_index_or, Option, Some, None}
use Rattle.std.specs.List.{list_any}
use Rattle.std.specs.Option.{is_some}
use Rattle.us_flows.specs.Tables.{Tables}
use Rattle.us_requests.specs.Traces.{TraceAsks}
use Rattle.us_activity.specs.Marks.{Marks, is_active}
use Rattle.us_calendar.specs.Entries.{WordedFlow}
use Rattle.us_output.specs.declared.rows.FinalActivity.{FinalActivity}
use Rattle.us_reports.specs.declared.place.Place.{Place}
use Rattle.us_lawful.specs.Finals.{is_same_activity, talking}
use Rattle.us_credit_rules.specs.declared.talkers.Talker.{Talker}
use Rattle.us_credit_rules.specs.declared.talkers.Talkers.{Talkers}
use Rattle.us_credit_rules.specs.declared.told.Told.{Told}
use Rattle.us_credit_rules.specs.Ends.{end_place, unless}
use Rattle.us_credit_rules.specs.Tellings.{AreTold, is_once, nothing}

-- Flows that tell their activity.

-- such a flow, by its id and its silent word
abbrev pub talker_of : WordedFlow → Talker
talker_of f = record { id = f.flow.id; word = f.word }

-- its A line behind so many rounds
abbrev pub line_of : Marks → ℕ → Talker → FinalActivity
line_of marks rounds talker =
    record { flow = talker.id; active = if is_active marks talker.word rounds then 1 else 0 }

-- Lines.

-- the number that stands for a flow, its id, if the flow tells its activity
abbrev pub talker_at : Tables → ℕ → Option ℕ
talker_at t id = if list_any (λ f. f.flow.id == id) (talking t) then Some id else None

-- what is kept of A lines
pub record AreTalkers (t : Tables) (v : TraceAsks) (lines : List FinalActivity) (kept : Talkers) : Type 0 where
  pub all : kept.all.items ≡ map talker_of (talking t)
  pub ids : (id : ℕ) → is_some (slice_index_or kept.ids.items id None) ≡ list_any (λ f. f.flow.id == id) (talking t)
  pub told :
      AreTold t.channels v.rounds (length kept.ids.items) (λ a. a.flow) (λ a. talker_at t a.flow) lines kept.told

-- the place of a flow that hasn't just its own A line, by what is told of each id
abbrev pub talker_place : Marks → ℕ → List (Told FinalActivity) → Talker → Option Place
talker_place marks rounds told talker =
    unless (is_once (is_same_activity (line_of marks rounds talker)) (slice_index_or told talker.id nothing))
    (end_place rounds talker.id)
