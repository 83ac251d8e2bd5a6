use Rattle.std.proofs.Common.{◌≡◌, ◌+◌, ◌<◌, ltb, ltb-true, ltb-false, not, get_or, length, ap, sym, ◌∙◌, arith, rules, inl, inr, eq-eqb, ne_eqb}
use Rattle.std.proofs.lemmas.Bool.{cases_eq}
use Rattle.std.proofs.lemmas.Grind.{get_or_default_zero}
use Rattle.std.proofs.lemmas.List.Sorted.{IsPartitionPoint-from_clause, IsPartitionedBy-ltb}
use Rattle.us_map_rules.proofs.CountLemmas.{once_named, twice_named}
use Rattle.us_map_rules.proofs.closings.is_once.Goals as goal

pub returns-in-Some : goal.returns-in-Some
returns-in-Some c =
    let ns = c.args.others.now in
    let n = c.args.number in
    let next = c.args.next in
    let at = c.partition_point-first.result in
    let second = at + c.from.result in
    let point = IsPartitionPoint-from_clause (λ m. ltb m n) ns _ c.partition_point-first.ensures.partitioned
    (IsPartitionedBy-ltb (λ m. m) ns n c.requires) (λ a r q k. search rules) in
    let is = ap (λ k. at + k) c.from.ensures in
    let more : second < length ns = ltb-true second (length ns) (sym c.in-Some.ensures.lookup.0) in
    let there : get_or ns second 0 ≡ c.in-Some.other.now =
    sym (get_or_default_zero ns second c.in-Some.other.now more) ∙ sym c.in-Some.ensures.lookup.1 in
    elim (cases_eq c.in-Some.other.now n) [
      | inl same ↦
          ap not (eq-eqb c.in-Some.other.now n same)
          ∙ sym (twice_named ns c.requires n at c.partition_point-first.ensures.bound point next second is more (there ∙ same))
      | inr other ↦
          ap not (ne_eqb c.in-Some.other.now n other)
          ∙ sym (once_named ns c.requires n at c.partition_point-first.ensures.bound point next second is
          (λ _ is. other (sym there ∙ is)))
    ]

pub returns-in-None : goal.returns-in-None
returns-in-None c =
    let ns = c.args.others.now in
    let n = c.args.number in
    let at = c.partition_point-first.result in
    let second = at + c.from.result in
    let past = ltb-false second (length ns) (sym c.in-None.ensures.lookup.0) in
    sym (once_named ns c.requires n at c.partition_point-first.ensures.bound
    (IsPartitionPoint-from_clause (λ m. ltb m n) ns _ c.partition_point-first.ensures.partitioned
    (IsPartitionedBy-ltb (λ m. m) ns n c.requires) (λ a r q k. search rules))
    c.args.next second (ap (λ k. at + k) c.from.ensures) (λ inside. absurd (omega (arith, inside, past))))
