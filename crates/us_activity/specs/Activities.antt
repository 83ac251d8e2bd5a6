-- Who is active in which round of a trace (ours).
use Rattle.std.specs.Prelude.{◌≡◌, ◌≢◌, ℕ, true, Some, slice_get}
use Rattle.us_flows.specs.Tables.{Tables, FlowTable}
use Rattle.us_flows.specs.Clusters.{Silent, words_of}
use Rattle.us_requests.specs.Traces.{TraceAsks, cuts_in}
use Rattle.us_calendar.specs.declared.silences.Silence.{Silence}
use Rattle.us_calendar.specs.Activity.{active_in}
use Rattle.us_activity.specs.Marks.{Marks, is_active}

-- Marks tell of each flow that has a word for its silence in which rounds it is active, as these cuts do. Behind the last
-- round it is as in that one. How many minislots its polls have is nothing to it.
pub record AreMarksOf (t : Tables) (v : TraceAsks) (marks : Marks) : Type 0 where
  pub told : (flow : FlowTable) (silence : Silence) (round : ℕ) →
      slice_get (words_of t) silence.word ≡ Some (Silent flow) →
      is_active marks silence.word round ≡ active_in (Some silence) (cuts_in t v) round
  -- By each other word nothing is told: an ask by a cluster's word is no mark.
  pub others : (word round : ℕ) → ((flow : FlowTable) → slice_get (words_of t) word ≢ Some (Silent flow)) →
      is_active marks word round ≡ true
