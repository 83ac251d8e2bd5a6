-- Elements as regions.
use Rattle.std.specs.Prelude.{◌≡◌, ℕ, ◌-◌, List, ◌∷◌, Option}
use Rattle.us_codec.specs.Elements.{MapElement}
use Rattle.us_codec.specs.Faults.{elements_at}
use Rattle.us_lawful.specs.Runs.{RoundMap}
use Rattle.us_lawful.specs.Regions.{Region, element_regions, map_regions}
use Rattle.us_map_rules.specs.Minislots.{AreSideBySide}

-- an element reaches to the next one
abbrev pub piece_of : MapElement → MapElement → Region
piece_of e next = record { start = e.offset; slots = next.offset - e.offset; sid = e.sid; iuc = e.iuc }

-- an element, and those that the bytes behind it spell
abbrev pub pieces_from : MapElement → List ℕ → List Region
pieces_from e behind = element_regions (e ∷ elements_at behind)

-- the elements that bytes spell stand side by side, and are those of a MAP
abbrev pub AreElementsOf : Option RoundMap → List ℕ → Type 0
AreElementsOf m bytes =
    AreSideBySide 0 (element_regions (elements_at bytes)) × (element_regions (elements_at bytes) ≡ map_regions m)
