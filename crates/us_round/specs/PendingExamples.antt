-- Who is pending in small, by the credits of grants, computed by the definitions alone.
use Rattle.std.specs.Prelude.{◌≡◌, [], ◌∷◌, Some, None, refl}
use Rattle.us_output.specs.OutputExamples.{placed, turn}
use Rattle.us_round.specs.Rounds.{uncredited, pending_sid}

-- a turn with bytes left and no credit is pending on its flow's first channel, by the SID there,
pending : pending_sid (placed 0 20 ∷ []) (uncredited (placed 0 20 ∷ []) 0 (20 ∷ 6 ∷ [])) turn ≡ Some (2, 294)
pending = refl

-- but not where nothing is left,
none_left : pending_sid [] (0 ∷ 0 ∷ []) turn ≡ None
none_left = refl

-- nor where any grant credits some bytes
credited : pending_sid (record (placed 0 20) { claimant = record { cluster = 1; place = 0; flow = 7; list = 1 } } ∷ [])
    (5 ∷ 6 ∷ []) turn ≡ None
credited = refl
