use Rattle.std.proofs.Common.{◌≡◌, ◌+◌, [], ◌∷◌, ◌++◌, drop, length, ap, ◌∙◌, arith}
use Rattle.std.proofs.lemmas.List.{length-map}
use Rattle.us_flows.specs.Clusters.{Turn, clusters_from, turns_for}
use Rattle.us_credit_rules.proofs.SeatLemmas.{drop_given, seat_more}
use Rattle.us_credit_rules.proofs.seats.push_seats.Goals as goal

pub overflow_add-word : goal.overflow_add-word
overflow_add-word c = omega (
  arith,
  length-map c.clusters-sids-items.result.now (λ sids. sids.items),
  ap length c.clusters-sids-items.ensures.value,
  c.loop-list-test.true,
  c.requires.few_clusters,
  c.requires.few_words,
)

pub loop-list-preserved : goal.loop-list-preserved
loop-list-preserved c =
    let flow = c.args.flow.now in
    let seats = c.loop-list.seats.items in
    let list = c.loop-list.list in
    let sids = c.sids-item.result in
    let word = c.args.word + list in
    let turn : Turn = record {
      number = word;
      place = c.args.place;
      cluster = record { flow = flow; list = list; sids = c.deref.result.now };
    } in
    let next : c.args.word + (list + 1) ≡ word + 1 = omega arith in
    let here : drop list flow.clusters ≡ sids.items ∷ drop (list + 1) flow.clusters =
    rw c.clusters-sids-items.ensures.value at
    (drop_given (λ sids. sids.items) c.clusters-sids-items.result.now list sids c.loop-list-test.true c.sids-item.is) in
    ap (λ turns. turns ++ turns_for c.args.place (c.args.word + (list + 1))
    (clusters_from flow (list + 1) (drop (list + 1) flow.clusters))) c.in_ok-push.ensures.items
    ∙ ap (λ n. (seats ++ turn ∷ []) ++ turns_for c.args.place n
    (clusters_from flow (list + 1) (drop (list + 1) flow.clusters))) next
    ∙ seat_more seats c.args.place word list flow sids.items turn here
    (ap (λ these. record {
      number = word;
      place = c.args.place;
      cluster = record { flow = flow; list = list; sids = these };
    }) c.deref.ensures.value)
    ∙ c.loop-list.invariant
