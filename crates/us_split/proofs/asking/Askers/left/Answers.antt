use Rattle.std.proofs.Common.{◌≡◌, sym, subst}
use Rattle.std.specs.List.{AllByRecursion}
use Rattle.us_flows.specs.Clusters.{words_of}
use Rattle.us_split.specs.Requested.{requested_in}
use Rattle.us_split.proofs.AskerStepLemmas.{IsSmall, small-left}
use Rattle.us_split.proofs.RequestedLemmas.{requested-left}
use Rattle.us_split.proofs.asking.Askers.left.Goals as goal

pub returns-clause-requested : goal.returns-clause-requested
returns-clause-requested c =
    let a = c.self.inside in
    let are = c.self.invariant in
    let own : requested_in (words_of a.tables.value) a.left.items ≡ a.left.items =
    requested-left (words_of a.tables.value) a.outstanding.items a.left.items are.requested are.bytes.one_each
    are.bytes.within in
    let told : requested_in (words_of c.args.self.now.tables) a.left.items ≡ a.left.items =
    subst (λ s. requested_in (words_of s.tables) a.left.items ≡ a.left.items) c.self.view_is own in
    rw c.deref.ensures.value told

pub returns-clause-range : goal.returns-clause-range
returns-clause-range c =
    let a = c.self.inside in
    let are = c.self.invariant in
    subst (AllByRecursion IsSmall) (sym c.deref.ensures.value)
    (small-left a.outstanding.items a.left.items are.bytes.range are.bytes.one_each are.bytes.within)
