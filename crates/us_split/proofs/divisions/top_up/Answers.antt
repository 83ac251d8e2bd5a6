use Rattle.std.proofs.Common.{ℕ, List, ◌++◌, ◌+◌, ◌-◌, ◌*◌, ◌/◌, ◌<◌, ◌≤◌, get_or, set, take, drop, length, map, ap, ◌∙◌, sym, append-nil, arith}
use Rattle.std.specs.Prelude.{sum}
use Rattle.std.proofs.lemmas.List.{drop-set-lt, drop_all, take_all, take-append-drop}
use Rattle.us_split.specs.Divisions.{topped_up}
use Rattle.us_split.proofs.DivisionLemmas.{next_part, top_up-divided, topped-nothing, topped_more}
use Rattle.us_split.proofs.divisions.top_up.Goals as goal

pub loop-i-preserved : goal.loop-i-preserved
loop-i-preserved c =
    let f : ℕ → ℕ = λ w. c.args.bytes * w / c.args.total in
    let i : ℕ = c.loop-i.i in
    let ws : List ℕ = c.args.weights.now in
    let shares : List ℕ = c.loop-i.shares in
    let left : ℕ = c.loop-i.left in
    let more : ℕ = c.byte_more-more.result in
    let within : i < length ws = omega arith in
    let inside : i < length shares = omega (arith, c.loop-i.auto.shares, c.requires.same_length) in
    let all : List ℕ = topped_up (c.args.bytes - sum (map f ws)) (map (λ w. (f w, w)) ws) in
    record {
      topped = ap (λ n. take (i + 1) (set shares i (get_or shares i 0 + more)) ++
          topped_up (left - n) (map (λ w. (f w, w)) (drop (i + 1) ws))) c.from-left.ensures ∙
          topped_more f shares ws all left i more inside within c.loop-i.invariant.parts c.byte_more-more.ensures.value
          c.loop-i.invariant.topped;
      parts = drop-set-lt (i + 1) shares i (get_or shares i 0 + more) (omega arith) ∙
          (next_part f shares ws i inside within c.loop-i.invariant.parts).1;
    }

-- none is left, so the other channels get their parts
pub returns-then-left-eq0 : goal.returns-then-left-eq0
returns-then-left-eq0 c =
    let f : ℕ → ℕ = λ w. c.args.bytes * w / c.args.total in
    let i : ℕ = c.loop-i.i in
    let ws : List ℕ = drop i c.args.weights.now in
    let shares : List ℕ = c.loop-i.shares in
    sym (take-append-drop i shares) ∙
    ap (λ xs. take i shares ++ xs) (c.loop-i.invariant.parts ∙ sym (topped-nothing f ws)) ∙
    ap (λ n. take i shares ++ topped_up n (map (λ w. (f w, w)) ws)) (sym c.if-left-eq0.true) ∙
    c.loop-i.invariant.topped ∙
    top_up-divided c.args.bytes c.args.total c.args.weights.now c.requires.total c.requires.below

pub returns : goal.returns
returns c =
    let f : ℕ → ℕ = λ w. c.args.bytes * w / c.args.total in
    let i : ℕ = c.loop-i.i in
    let ws : List ℕ = c.args.weights.now in
    let shares : List ℕ = c.loop-i.shares in
    let past : length ws ≤ i = omega arith in
    let over : length shares ≤ i = omega (arith, c.loop-i.auto.shares, c.requires.same_length) in
    sym (take_all i shares over) ∙ sym (append-nil (take i shares)) ∙
    ap (λ rest. take i shares ++ topped_up c.loop-i.left (map (λ w. (f w, w)) rest)) (sym (drop_all i ws past)) ∙
    c.loop-i.invariant.topped ∙
    top_up-divided c.args.bytes c.args.total ws c.requires.total c.requires.below
