use Rattle.std.proofs.Common.{◌++◌, rules, IsPermutation, filter_map, subst, sym, ap, ◌∙◌}
use Rattle.std.proofs.lemmas.Fn.{always_returns_same}
use Rattle.us_flows.specs.Lawful.{IsFlow, IsStation}
use Rattle.std.specs.List.{AllByRecursion}
use Rattle.us_calendar.specs.Entries.{rank_of, with_words, entry_of_flow, entry_of_station}
use Rattle.us_calendar.proofs.OrderLemmas.{entries-are, entries-few}
use Rattle.us_calendar.proofs.listing.entries_of.Goals as goal

pub push_flows-requires-clause-flows : goal.push_flows-requires-clause-flows
push_flows-requires-clause-flows c =
    (c.args.config.now, subst (AllByRecursion (IsFlow c.args.config.now)) (sym c.flows.ensures.value) c.flows.ensures.lawful.flows)

pub push_stations-requires-clause-stations : goal.push_stations-requires-clause-stations
push_stations-requires-clause-stations c =
    (c.args.config.now, subst (AllByRecursion (IsStation c.args.config.now)) (sym c.stations.ensures.value) c.stations.ensures.lawful.stations)

pub returns-clause-value : goal.returns-clause-value
returns-clause-value c =
    let t = c.args.config.now in
    let channel = c.args.channel.now in
    let list = c.in_ok-push_stations.ensures ∙
    ap (λ es. es ++ filter_map (entry_of_station channel) c.stations.result.now)
    (c.in_ok-push_flows.ensures ∙ ap (λ es. es ++ filter_map (entry_of_flow channel) (with_words 0 c.flows.result.now))
    c.new-entries.ensures.items ∙ ap (λ fs. filter_map (entry_of_flow channel) (with_words 0 fs)) c.flows.ensures.value) ∙
    ap (λ ss. filter_map (entry_of_flow channel) (with_words 0 t.flows) ++ filter_map (entry_of_station channel) ss)
    c.stations.ensures.value in
    let moved = subst (λ es. IsPermutation es c.sort_unstable_by_key.new.self.items) list
    c.sort_unstable_by_key.ensures.permutation in
    let sorted = c.sort_unstable_by_key.ensures.sorted (λ e. (rank_of e.kind, e.id))
    (always_returns_same _ _ _ (λ a r f' call. search rules)) in
    entries-are t channel c.flows.ensures.lawful c.sort_unstable_by_key.new.self.items moved sorted

pub returns-clause-few : goal.returns-clause-few
returns-clause-few c =
    let t = c.args.config.now in
    let channel = c.args.channel.now in
    let list = c.in_ok-push_stations.ensures ∙
    ap (λ es. es ++ filter_map (entry_of_station channel) c.stations.result.now)
    (c.in_ok-push_flows.ensures ∙ ap (λ es. es ++ filter_map (entry_of_flow channel) (with_words 0 c.flows.result.now))
    c.new-entries.ensures.items ∙ ap (λ fs. filter_map (entry_of_flow channel) (with_words 0 fs)) c.flows.ensures.value) ∙
    ap (λ ss. filter_map (entry_of_flow channel) (with_words 0 t.flows) ++ filter_map (entry_of_station channel) ss)
    c.stations.ensures.value in
    let moved = subst (λ es. IsPermutation es c.sort_unstable_by_key.new.self.items) list
    c.sort_unstable_by_key.ensures.permutation in
    entries-few t channel c.flows.ensures.lawful c.sort_unstable_by_key.new.self.items moved
