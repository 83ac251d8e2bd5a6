-- The reserves of a MAP, each alone.
use Rattle.std.specs.Prelude.{ℕ, ◌-◌, ◌%◌, ◌==◌, if◌then◌else◌, List, []}
use Rattle.us_slots.specs.UsageCodes as codes
use Rattle.us_flows.specs.declared.channels.Channel.{Channel}
use Rattle.us_flows.specs.Tables.{Tables, map_len}
use Rattle.us_lawful.specs.Regions.{Region, reserve_region}

abbrev pub maintenance_region : ℕ → Channel → List Region
maintenance_region round c =
    if round % c.maintenance_every == 0 then reserve_region 0 c.maintenance_minislots codes.initial_maintenance else []

abbrev pub contention_region : Tables → Channel → List Region
contention_region t c = reserve_region (map_len t c - c.contention_minislots) c.contention_minislots codes.request
