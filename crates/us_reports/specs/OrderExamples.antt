-- The order at small inputs, computed by the definitions alone.
use Rattle.std.specs.Prelude.{◌≡◌, ℕ, ◌-◌, ◌^◌, true, false, List, [], ◌∷◌, Some, None, refl}
use Rattle.us_flows.specs.declared.channels.Channel.{Channel}
use Rattle.us_reports.specs.declared.place.Place.{Place}
use Rattle.us_reports.specs.Order.{goes_before, earlier}

-- a table of channel 5 and, behind it, channel 2, whatever else it says of them
abbrev pub table : Channel → List Channel
table c = record c { id = 5 } ∷ record c { id = 2 } ∷ []

abbrev pub at : ℕ → ℕ → ℕ → Place
at round channel third = record { round = round; channel = channel; third = third }

-- a place of an earlier round goes before one of a later round, whatever their channels are
by_round : (c : Channel) →
    (goes_before (table c) (at 0 300 9) (at 1 0 0) ≡ true) × (goes_before (table c) (at 1 0 0) (at 0 300 9) ≡ false)
by_round c = (refl, refl)

-- 0 goes before every channel of the table,
zero_first : (c : Channel) →
    (goes_before (table c) (at 1 0 9) (at 1 5 0) ≡ true) × (goes_before (table c) (at 1 5 0) (at 1 0 9) ≡ false)
zero_first c = (refl, refl)

-- these go in its order and not by number,
table_order : (c : Channel) →
    (goes_before (table c) (at 1 5 9) (at 1 2 0) ≡ true) × (goes_before (table c) (at 1 2 0) (at 1 5 9) ≡ false)
table_order c = (refl, refl)

-- and all of them before channels that it lacks, however small the number of these is,
unknown_last : (c : Channel) →
    (goes_before (table c) (at 1 2 9) (at 1 1 0) ≡ true) × (goes_before (table c) (at 1 1 0) (at 1 2 9) ≡ false)
unknown_last c = (refl, refl)

-- which go by number
unknown_by_number : (c : Channel) →
    (goes_before (table c) (at 1 1 9) (at 1 3 0) ≡ true) × (goes_before (table c) (at 1 3 9) (at 1 (2 ^ 64 - 1) 0) ≡ true)
    × (goes_before (table c) (at 1 3 0) (at 1 1 9) ≡ false)
unknown_by_number c = (refl, refl, refl)

-- on one channel the third number counts, and no place goes before itself
by_third : (c : Channel) →
    (goes_before (table c) (at 1 2 8) (at 1 2 9) ≡ true) × (goes_before (table c) (at 1 2 9) (at 1 2 8) ≡ false)
    × (goes_before (table c) (at 1 2 8) (at 1 2 8) ≡ false)
by_third c = (refl, refl, refl)

-- of two places one is answered, whichever stands first;
earlier_of_two : (c : Channel) →
    (earlier (table c) (Some (at 1 2 0)) (Some (at 1 5 9)) ≡ Some (at 1 5 9))
    × (earlier (table c) (Some (at 1 5 9)) (Some (at 1 2 0)) ≡ Some (at 1 5 9))
earlier_of_two c = (refl, refl)

-- of one place that
earlier_of_one : (c : Channel) →
    (earlier (table c) None (Some (at 1 5 9)) ≡ Some (at 1 5 9))
    × (earlier (table c) (Some (at 1 5 9)) None ≡ Some (at 1 5 9)) × (earlier (table c) None None ≡ None)
earlier_of_one c = (refl, refl, refl)
