-- What a hand holds behind a lint.
use Rattle.std.proofs.Common.{ℕ, List, Option, Some, None, inl, inr, sym, subst}
use Rattle.us_page.specs.declared.calls.Status.{Status}
use Rattle.us_page.specs.declared.calls.Status.TheVariants as status
use Rattle.us_page.specs.Runs.{Run}
use Rattle.us_page.specs.Calls.{IsHeld}
use Rattle.us_page.specs.Lints.{HasLinesBeside, IsLinted, StandsLinted}

stands-some : (config trace : List ℕ) (s : Status) (r : Run) → IsLinted config trace s → HasLinesBeside s r →
    StandsLinted config trace s (Some r)
stands-some config trace status.Given r is has = (is, has)
stands-some config trace status.NoMemory r is has = (is, has)
stands-some config trace status.Config r is has = (is, has)
stands-some config trace status.Replay r is has = (is, has)

pub stands_linted : (config trace : List ℕ) (r : Run) (wanted answered : Status) (held : Option Run) →
    IsLinted config trace wanted → HasLinesBeside wanted r → IsHeld r wanted answered held →
    StandsLinted config trace answered held
stands_linted config trace r wanted answered held is lines (inl (same, has)) =
    subst (λ s. StandsLinted config trace s held) (sym same)
    (subst (λ h. StandsLinted config trace wanted h) (sym has) (stands-some config trace wanted r is lines))
stands_linted config trace r wanted answered held is lines (inr (same, has)) =
    subst (λ s. StandsLinted config trace s held) (sym same)
    (subst (λ h. StandsLinted config trace status.NoMemory h) (sym has) tt)
