use Rattle.std.proofs.Common.{ℕ, suc, ◌+◌, ◌^◌, ◌<◌, List, [], ◌∷◌, length, zip, arith}
use Rattle.std.specs.Prelude.{slice_index}
use Rattle.std.specs.List.{AllByRecursion}
use Rattle.us_split.proofs.AskerStepLemmas.{Fits}
use Rattle.us_split_tests.proofs.tests.asking.has_room.Goals as goal

fits_all : (counts cut : List ℕ) → ((k : ℕ) → k < length cut → slice_index counts k + slice_index cut k < 2 ^ 62) →
    AllByRecursion Fits (zip counts cut)
fits_all [] cut each = tt
fits_all (c ∷ counts) [] each = tt
fits_all (c ∷ counts) (b ∷ cut) each =
    let here : c + b < 2 ^ 62 = each 0 (omega arith) in
    (here, fits_all counts cut (λ k below. each (suc k) (omega (arith, below))))

pub returns-clause-room : goal.returns-clause-room
returns-clause-room c true =
    fits_all c.args.outstanding.now c.args.cuts.now (λ k below. c.loop-word.invariant k (omega (arith, below)))
