use Rattle.std.proofs.Common.{◌≡◌, ℕ, ◌+◌, ◌≤◌, Bool, true, false, nat_lt, if◌then◌else◌, List, [], ◌∷◌, ◌++◌, drop, get_or, length, ap, ◌∙◌, sym, append_assoc, append-nil, arith}
use Rattle.std.proofs.lemmas.List.{drop_all, drop_more}
use Rattle.us_split.specs.Asking.{asks, places_from}
use Rattle.us_split.proofs.asking.places_asking.Goals as goal

-- a turn that is noted where it asks
noted : (outstanding items new rest : List ℕ) (place number : ℕ) (b : Bool) → b ≡ asks outstanding number →
    new ≡ items ++ (if b then place ∷ [] else []) →
    new ++ places_from (asks outstanding) (place + 1) rest ≡ items ++ places_from (asks outstanding) place (number ∷ rest)
unfolding places_from
noted outstanding items new rest place number true is are =
    rw (sym is) (ap (λ xs. xs ++ places_from (asks outstanding) (place + 1) rest) are ∙
    append_assoc items (place ∷ []) (places_from (asks outstanding) (place + 1) rest))
noted outstanding items new rest place number false is are =
    rw (sym is) (ap (λ xs. xs ++ places_from (asks outstanding) (place + 1) rest) (are ∙ append-nil items))

pub loop-place-preserved : goal.loop-place-preserved
loop-place-preserved c =
    let i : ℕ = c.loop-place.place in
    let items : List ℕ = c.loop-place.places.items in
    let number : ℕ = get_or c.args.numbers.now i 0 in
    let rest : List ℕ = drop (i + 1) c.args.numbers.now in
    let here : drop i c.args.numbers.now ≡ number ∷ rest = drop_more c.args.numbers.now i 0 c.loop-place-test.true in
    record {
      items =
          noted c.args.outstanding.now items c.note.new.pending.items rest i number
          (nat_lt 0 (get_or c.args.outstanding.now c.from.result 0))
          (ap (λ n. nat_lt 0 (get_or c.args.outstanding.now n 0)) c.from.ensures) c.note.ensures.items ∙
          ap (λ numbers. items ++ places_from (asks c.args.outstanding.now) i numbers) (sym here) ∙
          c.loop-place.invariant.items;
      len = omega (arith, c.note.ensures.len, c.loop-place.invariant.len);
      capacity = omega (arith, c.note.ensures.capacity, c.loop-place.invariant.capacity);
    }

pub returns : goal.returns
unfolding places_from
returns c =
    let place : ℕ = c.loop-place.place in
    let past : length c.args.numbers.now ≤ place = omega arith in
    sym (append-nil c.loop-place.places.items) ∙
    ap (λ rest. c.loop-place.places.items ++ places_from (asks c.args.outstanding.now) place rest)
    (sym (drop_all place c.args.numbers.now past)) ∙
    c.loop-place.invariant.items
