-- Small inputs, computed by the definitions alone.
use Rattle.std.specs.Prelude.{◌≡◌, refl}
use Rattle.std.proofs.Common.{arith}
use Rattle.us_lint.specs.Windows.{EmptyMaps, reserve_of, Fits, HasRoom}

-- MAPs of 10 minislots, of which each second begins with 4 of maintenance and each ends with 2 of contention
abbrev pub maps : EmptyMaps
maps = record { len = 10; maintenance = 4; maintenance_every = 2; contention = 2 }

of_map_two : reserve_of maps 2 ≡ 4
of_map_two = refl

of_map_three : reserve_of maps 3 ≡ 0
of_map_three = refl

-- between the reserves of MAP 2 a grant of 4 minislots has room from minislot 24 on, and not from 25 on
fits_from_24 : Fits maps 2 4 24
fits_from_24 = record { behind = omega arith; before = omega arith }

not_from_25 : ¬ Fits maps 2 4 25
not_from_25 f = omega (arith, f.before)

-- so a window from minislot 25 to 29 has no room there
no_room : ¬ HasRoom maps 2 4 25 29
no_room h = omega (arith, h.from, h.fits.before)
