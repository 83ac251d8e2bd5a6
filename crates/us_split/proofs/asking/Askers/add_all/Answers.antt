use Rattle.std.proofs.Common.{◌≡◌, ◌+◌, ◌<◌, ◌≤◌, ap, refl, ◌∙◌, length, List, ℕ, subst, sym, drop, zip, arith}
use Rattle.std.specs.Prelude.{slice_index}
use Rattle.std.specs.List.{AllByRecursion}
use Rattle.std.proofs.lemmas.List.{length-set}
use Rattle.us_flows.specs.Tables.{Tables}
use Rattle.us_flows.specs.Clusters.{words_of}
use Rattle.us_split.specs.Asking.{more_of}
use Rattle.us_split.specs.Requested.{requested_at, requested_in, with_cut}
use Rattle.us_split.proofs.AskerStepLemmas.{Fits, room-more, same_asking, walked, walked-all, walked-more}
use Rattle.us_split.proofs.AskerCutLemmas.{none-requested, room-passed, walked-passed}
use Rattle.us_split.proofs.RequestedLemmas.{requested-at, requested-length}
use Rattle.us_split.proofs.asking.Askers.add_all.Goals as goal

-- what a cut asks of one word, as it is added
added : (t own : Tables) (k : ℕ) (counts cuts : List ℕ) → own ≡ t → k < length cuts →
    length (requested_in (words_of t) cuts) ≡ length cuts →
    walked (k + 1) (more_of k (requested_at (words_of own) k (slice_index cuts k)) counts) (requested_in (words_of t) cuts) ≡
    walked k counts (requested_in (words_of t) cuts)
added t own k counts cuts same inside long =
    let asked : List ℕ = requested_in (words_of t) cuts in
    ap (λ u. walked (k + 1) (more_of k (requested_at (words_of u) k (slice_index cuts k)) counts) asked) same ∙
    ap (λ bytes. walked (k + 1) (more_of k bytes counts) asked) (sym (requested-at (words_of t) cuts k inside)) ∙
    walked-more k counts asked (omega (arith, inside, long))

pub loop-word-init : goal.loop-word-init
loop-word-init c =
    let a = c.args.self.now in
    let cuts = c.args.cuts.now in
    let next = c.first_in_cut-word in
    let words : length cuts ≡ length (words_of a.tables) =
    c.requires.words ∙ ap (λ s. length s.outstanding) (sym c.self.view_is) ∙ c.self.invariant.words ∙
    ap (λ s. length (words_of s.tables)) c.self.view_is in
    let asked : List ℕ = requested_in (words_of a.tables) cuts in
    let long : length asked ≡ length cuts = requested-length (words_of a.tables) cuts words in
    let none = none-requested (words_of a.tables) cuts 0 next.result next.ensures.none in
    let reached : next.result ≤ length asked = omega (arith, next.ensures.inside, long) in
    let left_each : length a.left ≡ length cuts =
    ap (λ s. length s.left) (sym c.self.view_is) ∙ c.self.invariant.bytes.one_each ∙
    ap (λ s. length s.outstanding) c.self.view_is ∙ sym c.requires.words in
    record {
      tables = refl;
      pending = refl;
      outstanding = walked-passed 0 next.result a.outstanding asked (omega arith) reached none;
      left = walked-passed 0 next.result a.left asked (omega arith) reached none;
      one_each = sym c.requires.words;
      left_each = left_each;
      inside = next.ensures.inside;
      room = room-passed 0 next.result a.outstanding cuts (omega arith) next.ensures.inside next.ensures.none c.requires.room;
    }

pub loop-word-preserved : goal.loop-word-preserved
loop-word-preserved c =
    let a = c.loop-word.self in
    let b = c.add.new.self in
    let t = c.args.self.now.tables in
    let k = c.loop-word.word in
    let cuts = c.args.cuts.now in
    let inv = c.loop-word.invariant in
    let next = c.first_in_cut-word-in-loop-word in
    let inside : k < length cuts = omega (
      arith,
      c.loop-word-test.true,
      c.len-words.ensures,
      c.self.inside.outstanding.ok.0,
      c.requires.words,
      ap (λ s. length s.outstanding) c.self.view_is,
    ) in
    let words : length cuts ≡ length (words_of t) =
    c.requires.words ∙ ap (λ s. length s.outstanding) (sym c.self.view_is) ∙ c.self.invariant.words ∙
    ap (λ s. length (words_of s.tables)) c.self.view_is in
    let asked : List ℕ = requested_in (words_of t) cuts in
    let long : length asked ≡ length cuts = requested-length (words_of t) cuts words in
    let none = none-requested (words_of t) cuts (k + 1) next.result next.ensures.none in
    let reached : next.result ≤ length asked = omega (arith, next.ensures.inside, long) in
    let room : AllByRecursion Fits (zip (drop (k + 1) b.outstanding) (drop (k + 1) cuts)) =
    subst (λ s. AllByRecursion Fits (zip (drop (k + 1) s.outstanding) (drop (k + 1) cuts))) (sym c.add.ensures)
    (room-more k (requested_at (words_of a.tables) k (slice_index cuts k)) a.outstanding cuts inside inv.room) in
    record {
      tables = ap (λ s. s.tables) c.add.ensures ∙ inv.tables;
      pending = ap (λ s. s.pending) c.add.ensures ∙ inv.pending;
      outstanding = walked-passed (k + 1) next.result b.outstanding asked next.ensures.order reached none ∙
          ap (λ s. walked (k + 1) s.outstanding asked) c.add.ensures ∙
          added t a.tables k a.outstanding cuts inv.tables inside long ∙ inv.outstanding;
      left = walked-passed (k + 1) next.result b.left asked next.ensures.order reached none ∙
          ap (λ s. walked (k + 1) s.left asked) c.add.ensures ∙
          added t a.tables k a.left cuts inv.tables inside long ∙ inv.left;
      one_each = ap (λ s. length s.outstanding) c.add.ensures ∙ length-set a.outstanding k _ ∙ inv.one_each;
      left_each = ap (λ s. length s.left) c.add.ensures ∙ length-set a.left k _ ∙ inv.left_each;
      inside = next.ensures.inside;
      room = room-passed (k + 1) next.result b.outstanding cuts next.ensures.order next.ensures.inside next.ensures.none room;
    }

pub returns : goal.returns
returns c =
    let a = c.loop-word.self in
    let now = c.args.self.now in
    let cuts = c.args.cuts.now in
    let inv = c.loop-word.invariant in
    let words : length cuts ≡ length (words_of now.tables) =
    c.requires.words ∙ ap (λ s. length s.outstanding) (sym c.self.view_is) ∙ c.self.invariant.words ∙
    ap (λ s. length (words_of s.tables)) c.self.view_is in
    let asked : List ℕ = requested_in (words_of now.tables) cuts in
    let long : length asked ≡ length cuts = requested-length (words_of now.tables) cuts words in
    let past : length asked ≤ c.loop-word.word = omega (
      arith,
      long,
      c.loop-word-test.false,
      c.len-words.ensures,
      c.self.inside.outstanding.ok.0,
      c.requires.words,
      ap (λ s. length s.outstanding) c.self.view_is,
    ) in
    same_asking a now.tables (with_cut now.tables now.outstanding cuts) (with_cut now.tables now.left cuts) now.pending
    inv.tables
    (walked-all c.loop-word.word a.outstanding asked (inv.one_each ∙ sym long) past ∙ inv.outstanding)
    (walked-all c.loop-word.word a.left asked (inv.left_each ∙ sym long) past ∙ inv.left) inv.pending
