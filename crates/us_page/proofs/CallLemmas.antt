-- What a hand holds behind a run of two texts.
use Rattle.std.proofs.Common.{ℕ, List, Option, Some, refl, inl, inr, sym, subst}
use Rattle.us_page.specs.declared.faults.PageFault.{PageFault}
use Rattle.us_page.specs.declared.faults.PageFault.TheVariants as page
use Rattle.us_page.specs.declared.calls.Status.{Status}
use Rattle.us_page.specs.declared.calls.Status.TheVariants as status
use Rattle.us_page.specs.Runs.{Run, IsGiven, IsRefused, refused_by}
use Rattle.us_page.specs.Calls.{IsHeld, IsHeldFault, Stands}

-- a run that is held by a status, or nothing is and memory was wanting
held-stands : (config trace : List ℕ) (rounds : ℕ) (r : Run) (wanted answered : Status) (held : Option Run) →
    Stands config trace rounds wanted (Some r) → IsHeld r wanted answered held → Stands config trace rounds answered held
held-stands config trace rounds r wanted answered held stands (inl (is, has)) =
    subst (λ s. Stands config trace rounds s held) (sym is) (subst (λ h. Stands config trace rounds wanted h) (sym has) stands)
held-stands config trace rounds r wanted answered held stands (inr (is, has)) =
    subst (λ s. Stands config trace rounds s held) (sym is) (subst (λ h. Stands config trace rounds status.NoMemory h) (sym has) tt)

pub stands_given : (config trace : List ℕ) (rounds : ℕ) (r : Run) (answered : Status) (held : Option Run) →
    IsGiven config trace rounds r → IsHeld r status.Given answered held → Stands config trace rounds answered held
stands_given config trace rounds r answered held given is =
    held-stands config trace rounds r status.Given answered held given is

pub stands_refused : (config trace : List ℕ) (rounds : ℕ) (f : PageFault) (answered : Status) (held : Option Run) →
    IsRefused config trace rounds f → IsHeldFault f answered held → Stands config trace rounds answered held
stands_refused config trace rounds page.NoMemory answered held refused (is, has) =
    subst (λ s. Stands config trace rounds s held) (sym is) (subst (λ h. Stands config trace rounds status.NoMemory h) (sym has) tt)
stands_refused config trace rounds (page.Config f) answered held refused is =
    held-stands config trace rounds (refused_by (page.Config f)) status.Config answered held
    (record { fault = page.Config f; refused = refused; told = refl; held = refl }) is
stands_refused config trace rounds (page.Replay f) answered held refused is =
    held-stands config trace rounds (refused_by (page.Replay f)) status.Replay answered held
    (record { fault = page.Replay f; refused = refused; told = refl; held = refl }) is
