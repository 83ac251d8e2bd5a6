-- The rule of minislots at small inputs: the stored run, and the same with one thing changed. It fails at one place there,
-- and holds beside it.
use Rattle.std.specs.Prelude.{◌≡◌, true, false, [], ◌∷◌, refl}
use Rattle.us_flows.specs.declared.channels.Channel.{Channel}
use Rattle.us_output.specs.declared.rows.Grant.{Grant}
use Rattle.us_output.specs.declared.rows.Row.TheVariants as rows
use Rattle.us_round.specs.RoundExamples.{base, base_channel}
use Rattle.us_lawful.specs.Runs.{Run, RoundMap, Judged}
use Rattle.us_lawful.specs.Regions.{regions_hold}
use Rattle.us_lawful.specs.Examples.{at, base_map, element, ends, granted_map, quiet_map, steps, stored, stored_grant, told, with_grants, with_lines, with_maps}

-- Lines.

lawful_minislots :
    (regions_hold stored told (at 0 1 0) ≡ true) × (regions_hold stored told (at 1 1 0) ≡ true)
    × (regions_hold stored told (at 1 1 32) ≡ true) × (regions_hold stored told (at 1 1 160) ≡ true)
unfolding steps
lawful_minislots = (refl, refl, refl, refl)

-- a grant that is a minislot too long
too_long :
    let judged : Judged = with_grants (rows.Granted (record stored_grant { slots = 33 }) ∷ []) in
    (regions_hold stored judged (at 1 1 0) ≡ false) × (regions_hold stored judged (at 1 1 150) ≡ true)
unfolding steps
too_long = (refl, refl)

-- the last minislot of the grant has a second owner
two_owners :
    let second : Grant = record stored_grant { sid = 300; start = 31; slots = 1 } in
    let judged : Judged = with_grants (rows.Granted stored_grant ∷ rows.Granted second ∷ []) in
    (regions_hold stored judged (at 1 1 31) ≡ false) × (regions_hold stored judged (at 1 1 30) ≡ true)
unfolding steps
two_owners = (refl, refl)

-- a grant that starts where the MAP ends, and one without a minislot
at_the_end :
    let judged : Judged = with_grants (rows.Granted (record stored_grant { start = 160 }) ∷ []) in
    (regions_hold stored judged (at 1 1 160) ≡ false) × (regions_hold stored judged (at 1 1 159) ≡ true)
unfolding steps
at_the_end = (refl, refl)

empty_grant :
    let second : Grant = record stored_grant { start = 40; slots = 0 } in
    let judged : Judged = with_grants (rows.Granted stored_grant ∷ rows.Granted second ∷ []) in
    (regions_hold stored judged (at 1 1 40) ≡ false) × (regions_hold stored judged (at 1 1 41) ≡ true)
unfolding steps
empty_grant = (refl, refl)

-- a grant that starts a minislot later than its element
late_line :
    let judged : Judged = with_grants (rows.Granted (record stored_grant { start = 1 }) ∷ []) in
    (regions_hold stored judged (at 1 1 0) ≡ false) × (regions_hold stored judged (at 1 1 150) ≡ true)
unfolding steps
late_line = (refl, refl)

-- a line without its element, and an element without its line
line_without_element :
    let judged : Judged = with_maps quiet_map (base_map 1 (element 16383 1 0 ∷ element 16383 1 150 ∷ [])) in
    (regions_hold stored judged (at 1 1 0) ≡ false) × (regions_hold stored judged (at 1 1 150) ≡ true)
unfolding steps
line_without_element = (refl, refl)

element_without_line :
    (regions_hold stored (with_lines (ends 1000)) (at 1 1 0) ≡ false)
    × (regions_hold stored (with_lines (ends 1000)) (at 1 1 150) ≡ true)
unfolding steps
element_without_line = (refl, refl)

-- Elements.

-- of another SID, and of another IUC than the grant
other_element :
    let other_sid : RoundMap = base_map 1 (element 292 10 0 ∷ element 16383 1 32 ∷ element 16383 1 150 ∷ []) in
    let other_iuc : RoundMap = base_map 1 (element 291 9 0 ∷ element 16383 1 32 ∷ element 16383 1 150 ∷ []) in
    (regions_hold stored (with_maps quiet_map other_sid) (at 1 1 0) ≡ false)
    × (regions_hold stored (with_maps quiet_map other_sid) (at 1 1 32) ≡ true)
    × (regions_hold stored (with_maps quiet_map other_iuc) (at 1 1 0) ≡ false)
    × (regions_hold stored (with_maps quiet_map other_iuc) (at 1 1 32) ≡ true)
unfolding steps
other_element = (refl, refl, refl, refl)

-- a gap that addresses nobody though a request fits, and one of another IUC
other_gap :
    let nobody : RoundMap = base_map 0 (element 0 1 0 ∷ element 16383 1 150 ∷ []) in
    let maintenance : RoundMap = base_map 0 (element 16383 3 0 ∷ element 16383 1 150 ∷ []) in
    (regions_hold stored (with_maps nobody granted_map) (at 0 1 0) ≡ false)
    × (regions_hold stored (with_maps nobody granted_map) (at 0 1 150) ≡ true)
    × (regions_hold stored (with_maps maintenance granted_map) (at 0 1 0) ≡ false)
    × (regions_hold stored (with_maps maintenance granted_map) (at 0 1 150) ≡ true)
unfolding steps
other_gap = (refl, refl, refl, refl)

-- a gap of two elements
two_gaps :
    let parted : RoundMap = base_map 0 (element 16383 1 0 ∷ element 16383 1 75 ∷ element 16383 1 150 ∷ []) in
    (regions_hold stored (with_maps parted granted_map) (at 0 1 0) ≡ false)
    × (regions_hold stored (with_maps parted granted_map) (at 0 1 75) ≡ false)
    × (regions_hold stored (with_maps parted granted_map) (at 0 1 150) ≡ true)
unfolding steps
two_gaps = (refl, refl, refl)

-- Channels and reserves.

-- a line counts on its own channel alone
two_channels :
    let second : Channel = record base_channel { id = 2 } in
    let run : Run = record stored { tables = record base { channels = base_channel ∷ second ∷ [] } } in
    let quiet : RoundMap = base_map 1 (element 16383 1 0 ∷ element 16383 1 150 ∷ []) in
    let judged : Judged = record {
      maps = quiet_map ∷ quiet_map ∷ granted_map ∷ quiet ∷ [];
      lines = rows.Granted stored_grant ∷ ends 0;
    } in
    (regions_hold run judged (at 1 1 0) ≡ true) × (regions_hold run judged (at 1 2 0) ≡ true)
    × (regions_hold run judged (at 0 2 0) ≡ true)
unfolding steps
two_channels = (refl, refl, refl)

-- Initial Maintenance of 3 minislots in every other round
maintained :
    let run : Run = record stored {
      tables = record base {
        channels = record base_channel {
          maintenance_minislots = 3;
          maintenance_every = 2;
        } ∷ [];
      };
    } in
    let kept : RoundMap = base_map 0 (element 16383 3 0 ∷ element 16383 1 3 ∷ element 16383 1 150 ∷ []) in
    (regions_hold run (with_maps kept granted_map) (at 0 1 0) ≡ true)
    × (regions_hold run (with_maps kept granted_map) (at 0 1 3) ≡ true)
    × (regions_hold run (with_maps kept granted_map) (at 1 1 0) ≡ true)
    × (regions_hold run (with_maps quiet_map granted_map) (at 0 1 0) ≡ false)
unfolding steps
maintained = (refl, refl, refl, refl)
