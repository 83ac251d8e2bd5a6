use Rattle.std.proofs.Common.{◌<◌, ◌^◌, refl, ap₂, ◌∙◌}
use Rattle.std.specs.Prelude.{slice_get, zip}
use Rattle.std.specs.List.{AllByRecursion}
use Rattle.us_output.proofs.PartLemmas.{all_found}
use Rattle.us_output.proofs.PendingLemmas.{list_found, no_list}
use Rattle.us_output.proofs.pendings.first_sid.Goals as goal

pub sid_of-requires : goal.sid_of-requires
sid_of-requires c =
    let h = c.in-Some.ensures.lookup in
    let found = list_found (λ sids. sids.items) c.clusters.result.now c.args.flow.now.clusters c.args.turn.now.list
    c.in-Some.sids.now c.clusters.ensures.value h.3.0 h.1 in
    rw c.deref.ensures.value (all_found (λ sids. AllByRecursion (λ sid. sid < 2 ^ 14) sids) c.args.flow.now.clusters
    c.args.turn.now.list c.in-Some.sids.now.items c.requires found)

pub returns-in-Some : goal.returns-in-Some
returns-in-Some c =
    let h = c.in-Some.ensures.lookup in
    let found = list_found (λ sids. sids.items) c.clusters.result.now c.args.flow.now.clusters c.args.turn.now.list
    c.in-Some.sids.now c.clusters.ensures.value h.3.0 h.1 in
    let same = ap₂ (λ xs ys. slice_get (zip xs ys) 0) c.channels.ensures.value c.deref.ensures.value in
    rw found (c.sid_of.ensures ∙ same)

pub returns-in-None : goal.returns-in-None
returns-in-None c =
    let h = c.in-None.ensures.lookup in
    let none = no_list (λ sids. sids.items) c.clusters.result.now c.args.flow.now.clusters c.args.turn.now.list
    c.clusters.ensures.value h.3 in
    rw none refl
