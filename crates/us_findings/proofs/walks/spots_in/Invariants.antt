use Rattle.std.proofs.Common.{◌≡◌, length}
use Rattle.std.specs.List.{All}
use Rattle.us_findings.specs.Places.{IsWithin}
use Rattle.us_findings.proofs.walks.spots_in.Given as goal

-- one spot for each thing so far, and each lies in the text
abbrev pub invariant-loop-place : goal.invariant-loop-place
invariant-loop-place l = (length l.spots.items ≡ l.place) × All (IsWithin l.len) l.spots.items
