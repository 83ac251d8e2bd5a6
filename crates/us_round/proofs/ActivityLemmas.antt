-- The channels of a state know the activity of its flows.
use Rattle.std.proofs.Common.{◌≡◌, ℕ, ◌==◌, if◌then◌else◌, List, [], ◌∷◌, map, zip, None, refl, ap, ap₂, ◌∙◌, inl, inr}
use Rattle.std.specs.Prelude.{option_and_then}
use Rattle.std.specs.List.{find}
use Rattle.std.proofs.lemmas.Bool.{cases_Bool}
use Rattle.us_flows.specs.Tables.{FlowTable}
use Rattle.us_flows.specs.Clusters.{tells_activity}
use Rattle.us_calendar.specs.Calendars.{activity_in}
use Rattle.us_channel.specs.Channels.{Built}
use Rattle.us_round.specs.Cores.{Core}
use Rattle.us_round.specs.Parts.{activity_by, activity_heard, state_of}
use Rattle.us_round.specs.FinalRows.{activity_of, activity_on}

-- beside its calendar a channel stands in both tables
heard_in : (bs : List Built) (id flow : ℕ) → activity_heard bs id flow ≡
    option_and_then (λ pair. activity_in flow pair.1)
    (find (λ pair. pair.0.id == id) (zip (map (λ b. b.channel) bs) (map (λ b. b.calendar) bs)))
heard_in [] id flow = refl
heard_in (b ∷ bs) id flow = elim (cases_Bool (b.channel.id == id)) [
  | inl own ↦ rw own refl
  | inr other ↦ rw other (heard_in bs id flow)
]

heard_on : (core : Core) (bs : List Built) (id flow : ℕ) → map (λ b. b.channel) bs ≡ core.tables.channels →
    activity_heard bs id flow ≡ activity_on (state_of core bs) id flow
heard_on core bs id flow are =
    heard_in bs id flow
    ∙ ap (λ cs. option_and_then (λ pair. activity_in flow pair.1)
    (find (λ pair. pair.0.id == id) (zip cs (map (λ (b : Built). b.calendar) bs)))) are

-- so what they tell of flows is what the state tells
pub activities_are : (core : Core) (bs : List Built) (flows : List FlowTable) → map (λ b. b.channel) bs ≡ core.tables.channels →
    map (activity_by bs) flows ≡ map (activity_of (state_of core bs)) flows
activities_are core bs [] are = refl
activities_are core bs (flow ∷ flows) are =
    ap₂ (λ o more. (if tells_activity flow.kind then o else None) ∷ more) (heard_on core bs _ flow.id are)
    (activities_are core bs flows are)
