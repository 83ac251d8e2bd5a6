-- What the batch holds between two sends: the texts of the rounds that were made since the first.
use Rattle.std.proofs.Common.{◌≡◌, ℕ, ◌+◌, ◌-◌, ◌≤◌, List, [], ◌∷◌, ◌++◌, length, take, drop, flat_map, refl, ap, sym, ◌∙◌, inl, inr, arith, append-nil, length-drop}
use Rattle.std.proofs.lemmas.List.{drop_all, drop-drop, length-take-le, take-append-drop}
use Rattle.us_round.proofs.PlacingLemmas.{next-of}
use Rattle.us_output.specs.declared.rows.Row.{Row}
use Rattle.us_output.specs.Outputs.{RoundOut}
use Rattle.us_output.specs.Files.{round_lines, lines}
use Rattle.us_lawful.specs.Output.{Output}
use Rattle.us_replay.specs.Batches.{Batch, batch_of, no_rounds, with_next}
use Rattle.us_replay.specs.Progress.{Holds}
use Rattle.us_replay.proofs.BatchLemmas.{empty-batch, next-batch}
use Rattle.us_replay.proofs.ReplayStopLemmas.{IsPart}

-- the rounds that it holds
abbrev pub held : Output → ℕ → ℕ → List RoundOut
held out sent k = take (k - sent) (drop sent out.given)

pub length-held : (out : Output) (sent k : ℕ) → sent ≤ k → k ≤ length out.given → sent + length (held out sent k) ≡ k
length-held out sent k from inside =
    omega (arith, length-take-le (k - sent) (drop sent out.given) (omega (arith, length-drop sent out.given, from, inside)), from)

pub holds-none : (out : Output) (k : ℕ) → Holds out k k no_rounds
holds-none out k =
    let none : k - k ≡ 0 = omega arith in
    record { from = omega arith; rounds = empty-batch ∙ ap (λ n. batch_of (take n (drop k out.given)) []) (sym none) }

pub holds-next : (out : Output) (sent k : ℕ) (b : Batch) (round : RoundOut) (rest : List RoundOut) → Holds out sent k b →
    drop k out.given ≡ round ∷ rest → Holds out sent (k + 1) (with_next b round)
holds-next out sent k b round rest holds here =
    let at : sent + (k - sent) ≡ k = omega (arith, holds.from) in
    let more : k - sent + 1 ≡ k + 1 - sent = omega (arith, holds.from) in
    let now : drop (k - sent) (drop sent out.given) ≡ round ∷ rest =
    drop-drop (k - sent) sent out.given ∙ ap (λ n. drop n out.given) at ∙ here in
    record {
      from = omega (arith, holds.from);
      rounds = ap (λ b. with_next b round) holds.rounds ∙ next-batch (held out sent k) round ∙
          ap (λ rounds. batch_of rounds []) (sym (next-of (drop sent out.given) (k - sent) round rest now).taken ∙
          ap (λ n. take n (drop sent out.given)) more);
    }

-- it is a part of the output
pub held-part : (out : Output) (sent k : ℕ) (b : Batch) → Holds out sent k b → IsPart out sent (held out sent k) b
unfolding lines
held-part out sent k b holds = record {
  rest = drop (k - sent) (drop sent out.given);
  here = sym (take-append-drop (k - sent) (drop sent out.given));
  records_are = ap (λ b. b.records) holds.rounds;
  ends_are = ap (λ b. b.ends) holds.rounds;
  own = [];
  lines_are = ap (λ b. b.lines) holds.rounds;
  behind = flat_map round_lines (drop (k - sent) (drop sent out.given)) ++ lines out.last;
  lines_behind = refl;
  at_end = inl refl;
}

pub held-own : (out : Output) (sent k : ℕ) (b : Batch) (holds : Holds out sent k b) → (held-part out sent k b holds).own ≡ []
unfolding held-part
held-own out sent k b holds = refl

-- behind all rounds, with the lines at the end of the report
pub last-part : (out : Output) (sent k : ℕ) (b last : Batch) (rows : List Row) → Holds out sent k b → k ≡ length out.given →
    rows ≡ out.last → last ≡ record b { lines = b.lines ++ lines rows } →
    (part : IsPart out sent (held out sent k) last) × (part.rest ≡ []) × (part.behind ≡ [])
unfolding held-part
last-part out sent k b last rows holds all are is =
    let none : drop (k - sent) (drop sent out.given) ≡ [] =
    drop_all (k - sent) (drop sent out.given) (omega (arith, length-drop sent out.given, holds.from, all)) in
    let part = held-part out sent k b holds in (
      record {
        rest = [];
        here = part.here ∙ ap (λ rest. held out sent k ++ rest) none;
        records_are = ap (λ b. b.records) is ∙ part.records_are;
        ends_are = ap (λ b. b.ends) is ∙ part.ends_are;
        own = lines out.last;
        lines_are = ap (λ b. b.lines) is ∙ rw (are, part.lines_are, append-nil) refl;
        behind = [];
        lines_behind = sym (append-nil (lines out.last));
        at_end = inr refl;
      },
      refl,
      refl,
    )
