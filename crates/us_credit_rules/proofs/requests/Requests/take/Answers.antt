use Rattle.std.proofs.Common.{◌≡◌, ◌+◌, ◌*◌, ◌<◌, ◌≤◌, [], ◌∷◌, length, ap, sym, ◌∙◌, arith}
use Rattle.std.specs.Prelude.{find}
use Rattle.std.specs.Option.{option_copied}
use Rattle.std.proofs.lemmas.List.{with_items_is}
use Rattle.std.proofs.lemmas.List.Sums.{fold-append}
use Rattle.us_flows.specs.Clusters.{Turn, table_order, words_of}
use Rattle.us_output.specs.declared.rows.Grant.{Grant}
use Rattle.us_output.proofs.PartLemmas.{all_both, all_weaker}
use Rattle.us_credit_rules.specs.Buckets.{credited_by}
use Rattle.us_credit_rules.specs.Seats.{flow_in, names}
use Rattle.us_credit_rules.proofs.FlowLemmas.{all_long, rises_most, rises_push}
use Rattle.us_credit_rules.proofs.RepeatLemmas.{noted_more, wrong_more}
use Rattle.us_credit_rules.proofs.SeatLemmas.{are_named, are_placed, found_all, place_is, seat_is}
use Rattle.us_credit_rules.proofs.requests.Requests.take.Goals as goal

pub take_credit-requires : goal.take_credit-requires
take_credit-requires c =
    let t = c.args.config.now in
    let g = c.args.grant.now in
    let lawful = c.round_ticks.ensures.lawful in
    let inside : Turn → Type 0 = λ turn. turn.place < length t.flows in
    let place : c.flow-place.result ≡ flow_in (find (names g.id 0) (table_order t)) =
    rw c.requires.seats at (c.flow-place.ensures t g.i lawful c.requires.seats c.find-seat.ensures) in
    rw (place, c.deref_mut.ensures.value, c.requires.told.1.flows, all_long c.args.trace.now.rounds t c.requires.told.0)
    (place_is (λ n. n < length t.flows) (find (names g.id 0) (table_order t))
    (found_all inside (names g.id 0) (table_order t) (are_placed t)))

pub take-requires-clause-known : goal.take-requires-clause-known
take-requires-clause-known c =
    let t = c.args.config.now in
    let g = c.args.grant.now in
    let inside : Turn → Type 0 = λ turn. turn.number < length (words_of t) in
    let known : Turn → Type 0 = λ turn. (turn.number < length (words_of t)) × (turn.number < length (words_of t)) in
    let all = (are_named t c.round_ticks.ensures.lawful).inside in
    rw (c.requires.told.1.long, c.requires.told.1.words)
    (seat_is known c.find-seat.result (find (names g.id g.i) (table_order t)) (rw c.requires.seats at c.find-seat.ensures)
    (found_all known (names g.id g.i) (table_order t) (all_both inside inside (table_order t) all all)))

pub take-requires-2-clause-apart : goal.take-requires-2-clause-apart
take-requires-2-clause-apart c = rw c.channels.ensures.value c.channels.ensures.lawful.channels_apart

pub take-requires-2-clause-room : goal.take-requires-2-clause-room
take-requires-2-clause-room c =
    let t = c.args.config.now in
    let g = c.args.grant.now in
    let room : Turn → Type 0 = λ turn. turn.number * 256 + 256 ≤ length c.args.self.now.repeats.last.items in
    seat_is room c.find-seat.result (find (names g.id g.i) (table_order t)) (rw c.requires.seats at c.find-seat.ensures)
    (found_all room (names g.id g.i) (table_order t) c.requires.told.1.noted.long)

pub returns-clause-kept : goal.returns-clause-kept
returns-clause-kept c = λ grants are.
    let t = c.args.config.now in
    let v = c.args.trace.now in
    let g = c.args.grant.now in
    let before = c.args.self.now.flows in
    let upto = rises_most 0 c.args.self.now.latest grants are.rises in
    let kept : length c.take_credit.new.flows ≡ length before.items =
    c.take_credit.auto.flows ∙ ap length c.deref_mut.ensures.value in
    let place : c.flow-place.result ≡ flow_in (find (names g.id 0) (table_order t)) =
    rw c.requires.seats at (c.flow-place.ensures t g.i c.round_ticks.ensures.lawful c.requires.seats c.find-seat.ensures) in
    let found : option_copied c.find-seat.result ≡ find (names g.id g.i) (table_order t) =
    rw c.requires.seats at c.find-seat.ensures in
    let taken = c.take.ensures (table_order t) (rw are.long (are_named t c.round_ticks.ensures.lawful)) found in
    record {
      fits = are.fits;
      rises = rises_push 0 c.args.self.now.latest grants g are.rises c.requires.due;
      begun = taken.ordered;
      words = taken.words ∙ are.words;
      long = taken.long ∙ are.long;
      asked = taken.asked;
      credited = taken.credited grants
          (all_weaker (λ (o : Grant). o.round ≤ c.args.self.now.latest) (λ o. o.round ≤ g.round)
          (λ o early. omega (arith, early, c.requires.due)) grants upto)
          are.credited;
      flows = with_items_is before c.take_credit.new.flows (kept ∙ sym before.ok.0)
          ∙ rw (c.deref_mut.ensures.value, are.flows, c.rounds.ensures.value, c.round_ticks.ensures.value, place) at c.take_credit.ensures
          ∙ sym (fold-append (credited_by v.rounds t.round_ticks (table_order t)) _ grants (g ∷ []));
      noted = rw (c.take-2.ensures.last, found)
          (noted_more t grants c.args.self.now.latest c.args.self.now.repeats.last.items are.noted upto g c.requires.due);
      wrong = rw (c.take-2.ensures.first, c.channels.ensures.value, found)
          (wrong_more t grants c.args.self.now.latest c.args.self.now.repeats.last.items g c.args.self.now.repeats.first
          c.round_ticks.ensures.lawful are.noted c.requires.due are.wrong);
    }
