use Rattle.std.proofs.Common.{ap, length, ◌∙◌, arith}
use Rattle.std.specs.List.{list_any}
use Rattle.us_flows.specs.Tables.{sids_of}
use Rattle.us_flows.specs.Checks.{is_taken}
use Rattle.us_flows.proofs.ListedLemmas.{IsPushed, pushed}
use Rattle.us_flows.proofs.IndexLemmas.{index-push}
use Rattle.us_flows.proofs.WordLemmas.{few_words}
use Rattle.us_flows.proofs.listed.flows.Flows.pushed.Goals as goal

put : (c : goal.In_ok-map) →
    IsPushed (λ flow. flow.id) c.self.inside.map.entries c.args.self c.args.flow c.in_ok-map.map.entries
put c =
    pushed (λ flow. flow.id) c.self.inside.map c.self.invariant.flows _ c.self.view_is c.args.flow c.requires.id _
    c.in_ok-map.ensures

pub invariant_of-result : goal.invariant_of-result
invariant_of-result c =
    let taken = ap (λ flows. list_any (is_taken flows) (sids_of c.args.flow)) c.self.view_is ∙ c.requires.sids in
    let all = index-push c.self.inside.map.entries c.self.inside.sids.entries c.self.inside.words c.self.invariant
    c.args.flow taken c.requires.apart c.requires.clusters in
    rw ((put c).last, c.in_ok-sids.ensures, c.words-more.ensures.value) all

pub returns : goal.returns
returns c = (put c).values

pub overflow_cast-more : goal.overflow_cast-more
overflow_cast-more c = omega (arith, few_words c.args.flow c.requires.clusters, c.words-more.ensures.value)

pub overflow_add-result : goal.overflow_add-result
overflow_add-result c =
    omega (
      arith,
      few_words c.args.flow c.requires.clusters,
      c.words-more.ensures.value,
      c.self.invariant.few,
      ap length c.self.view_is,
      c.requires.few,
    )
