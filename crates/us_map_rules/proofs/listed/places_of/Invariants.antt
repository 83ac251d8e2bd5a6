use Rattle.us_map_rules.specs.Listed.{ArePlaces}
use Rattle.us_map_rules.proofs.listed.places_of.Given as goal

-- the entries so far have their places
abbrev pub invariant-loop-place : goal.invariant-loop-place
invariant-loop-place l = ArePlaces l.entries l.place l.places.items
