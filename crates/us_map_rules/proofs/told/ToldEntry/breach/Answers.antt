use Rattle.std.proofs.Common.{◌≡◌, ◌+◌, ℕ, true, cond, ◌==◌, IsPermutation, ap, ap₂, subst}
use Rattle.std.proofs.lemmas.List.Sorted.{All-permutation, sum_by-IsPermutation}
use Rattle.us_reports.specs.Breaches.{Any, IsFirstFailure}
use Rattle.us_map_rules.specs.Failures.{ClosingFails, OpenFails, comes_in, times_named}
use Rattle.us_map_rules.specs.Told.{times_told}
use Rattle.us_map_rules.proofs.CountLemmas.{before}
use Rattle.us_map_rules.proofs.RuleLemmas.{told_first}
use Rattle.us_map_rules.proofs.told.ToldEntry.breach.Goals as goal

pub returns : goal.returns
returns c = λ lines told.
    let run = c.args.run.now in
    let l = c.args.of.now in
    let t = c.args.self.now in
    let channels = run.tables.channels in
    let ns = c.put_in_order.new.numbers.items in
    let named : ℕ → ℕ = times_named c.self.inside.next ns in
    let moved : IsPermutation t.others ns =
    subst (λ t. IsPermutation t.others ns) c.self.view_is c.put_in_order.ensures.moved in
    let same : (n : ℕ) → named n ≡ times_told t n = λ n.
    ap₂ (λ k m. m + before k n) (ap (λ t. t.next) c.self.view_is)
    (sum_by-IsPermutation (λ m. cond (m == n) 1 0) t.others ns moved) in
    let closing : IsFirstFailure channels (ClosingFails run l named) c.closing_breach-closing.result =
    (rw c.deref.ensures.value at c.closing_breach-closing.ensures)
    (All-permutation (λ n. comes_in run l n ≡ true) t.others ns moved told.come) in
    let doubled : IsFirstFailure channels (Any (OpenFails named) t.open_lines) c.doubled_breach-doubled.result =
    subst (λ t. IsFirstFailure channels (Any (OpenFails named) t.open_lines) c.doubled_breach-doubled.result)
    c.self.view_is (rw (c.deref-2.ensures.value, c.deref-3.ensures.value) at c.doubled_breach-doubled.ensures) in
    rw (c.earlier.ensures, c.channels.ensures)
    (told_first run lines l t named channels c.closing_breach-closing.result c.doubled_breach-doubled.result same told
    closing doubled)
