use Rattle.std.proofs.Common.{◌≡◌, ◌==◌, ℕ, None, drop, get_or}
use Rattle.std.specs.Prelude.{find, option_and_then, slice_get}
use Rattle.us_credit_rules.specs.Seats.{code_of}
use Rattle.us_credit_rules.proofs.seats.places_of.Given as goal

-- those from this one on are there
abbrev pub invariant-loop-place : goal.invariant-loop-place
invariant-loop-place l =
    (code : ℕ) → option_and_then (slice_get l.seats) (get_or l.places.items code None)
    ≡ find (λ turn. code_of turn == code) (drop l.place l.seats)
