use Rattle.std.proofs.Common.{◌≡◌, ◌++◌, map, ap, ap₂, ◌∙◌}
use Rattle.us_flows.specs.Clusters.{table_order}
use Rattle.us_flows.specs.Tables.{Tables}
use Rattle.us_output.specs.Outputs.{activity_rows, final_row}
use Rattle.us_round.specs.Parts.{activity_by}
use Rattle.us_round.specs.Rounds.{State}
use Rattle.us_round.specs.FinalRows.{activity_of, final_rows}
use Rattle.us_round.proofs.ActivityLemmas.{activities_are}
use Rattle.us_round.proofs.states.State.last_rows.Goals as goal

pub returns : goal.returns
unfolding final_rows
returns c =
    let s = c.args.self.now in
    let parts = c.self.inside.parts in
    let config = c.config-config.ensures.value ∙ c.core-core.ensures.tables in
    let outstanding = c.outstanding.ensures ∙ c.core-core.ensures.outstanding in
    let buckets = c.deref-2.ensures.value ∙ c.in_ok-buckets.ensures ∙ c.core-core.ensures.buckets in
    let finals : c.in_ok-rows.rows.items ≡ map (final_row s.outstanding s.buckets) (table_order s.tables) =
    c.in_ok-rows.ensures
    ∙ ap₂ (λ os bs. map (final_row os bs) (table_order c.config-config.result.now)) outstanding buckets
    ∙ ap (λ t. map (final_row s.outstanding s.buckets) (table_order t)) config in
    let told : c.deref-3.result.now ≡ map (activity_of s) s.tables.flows =
    c.deref-3.ensures.value ∙ c.in_ok-told.ensures
    ∙ ap₂ (λ bs (t : Tables). map (activity_by bs) t.flows) c.deref.ensures.value config
    ∙ activities_are parts.core parts.channels.items s.tables.flows c.self.invariant.channels
    ∙ ap (λ (now : State). map (activity_of now) s.tables.flows) c.self.view_is in
    c.in_ok-append.ensures.items
    ∙ ap₂ (λ xs ys. xs ++ ys) finals
    (c.in_ok-active.ensures ∙ ap₂ (λ (t : Tables) told. activity_rows t.flows told) config told)
