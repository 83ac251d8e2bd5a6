use Rattle.std.proofs.Common.{rules, ◌≡◌, ◌<◌, ◌∙◌, sym, ap, Some, set, if◌then◌else◌}
use Rattle.std.specs.Prelude.{string_bytes}
use Rattle.toml.specs.Data.{member, no_members}
use Rattle.toml.specs.View.{view, table_view, members_view}
use Rattle.us_flows.specs.KeyValues.{place_of}
use Rattle.us_flows.proofs.FoundLemmas.{found-step, found-none, strayed, walked}
use Rattle.us_flows.proofs.flow_values.FlowValues.new.Goals as goal
use Rattle.us_flows.proofs.flow_values.FlowValues.new.Goals.{then-is_none, else-is_none}

pub loop-name-preserved-then-strays : goal.loop-name-preserved-then-strays
loop-name-preserved-then-strays c =
    let l = c.loop-name in
    let rest = members_view c.next.new.self in
    let name = string_bytes c.in-Some.name.now in
    let place = c.in-Some-place_of.place in
    let step : members_view l.name-iterator ≡ member name (view c.in-Some.value.now) rest = search rules in
    let is = ap place_of (sym c.deref.ensures) ∙ sym c.place_of.ensures.value ∙ c.in-Some-place_of.is in
    let within : place < 17 = search rules in
    let put : c.if-is_none.values ≡ (if c.is_none.result then set l.values place (Some c.in-Some.value) else l.values) =
    elim c.if-is_none.branch [
      | then-is_none w ↦ rw w.if-is_none.true w.values-is
      | else-is_none w ↦ rw w.if-is_none.false w.values-is
    ] in (
      found-step l.values c.if-is_none.values c.in-Some.value name rest (table_view c.args.table.now) place _
          c.is_none.result is within c.is_none.ensures put (rw step at l.invariant.0),
      rw c.if-strays.true (rw c.if-strays.true at l.invariant.1),
    )

pub loop-name-preserved-else-strays : goal.loop-name-preserved-else-strays
loop-name-preserved-else-strays c =
    let l = c.loop-name in
    let rest = members_view c.next.new.self in
    let name = string_bytes c.in-Some.name.now in
    let place = c.in-Some-place_of.place in
    let step : members_view l.name-iterator ≡ member name (view c.in-Some.value.now) rest = search rules in
    let is = ap place_of (sym c.deref.ensures) ∙ sym c.place_of.ensures.value ∙ c.in-Some-place_of.is in
    let within : place < 17 = search rules in
    let put : c.if-is_none.values ≡ (if c.is_none.result then set l.values place (Some c.in-Some.value) else l.values) =
    elim c.if-is_none.branch [
      | then-is_none w ↦ rw w.if-is_none.true w.values-is
      | else-is_none w ↦ rw w.if-is_none.false w.values-is
    ] in (
      found-step l.values c.if-is_none.values c.in-Some.value name rest (table_view c.args.table.now) place _
          c.is_none.result is within c.is_none.ensures put (rw step at l.invariant.0),
      rw (c.allows_at.ensures, c.deref-else-strays.ensures) (rw (c.if-strays.false, step) at l.invariant.1),
    )

pub loop-name-preserved : goal.loop-name-preserved
loop-name-preserved c =
    let l = c.loop-name in
    let rest = members_view c.next.new.self in
    let name = string_bytes c.in-Some.name.now in
    let step : members_view l.name-iterator ≡ member name (view c.in-Some.value.now) rest = search rules in
    let none = ap place_of (sym c.deref.ensures) ∙ sym c.place_of.ensures.value ∙ c.in-None-place_of.is in (
      found-none l.values (view c.in-Some.value.now) name rest (table_view c.args.table.now) none (rw step at l.invariant.0),
      strayed c.kind_at-kind.result l.strays _ name (view c.in-Some.value.now) rest none (rw step at l.invariant.1),
    )

pub invariant_of-result : goal.invariant_of-result
invariant_of-result c =
    let l = c.loop-name in
    let done : members_view l.name-iterator ≡ no_members = search rules in
    walked c.kind_at-kind.result l.values l.strays (table_view c.args.table.now) c.kind_at-kind.ensures
    (rw done at l.invariant.0) (rw done at l.invariant.1)
