use Rattle.std.proofs.Common.{rules, ◌+◌, ◌<◌, ◌^◌, vec_len}
use Rattle.us_crew.proofs.PlaceLemmas.{each-of_places, tells-sound, tells-first}
use Rattle.us_crew.proofs.FunctionLemmas.{tells-named}
use Rattle.us_crew.proofs.mapping.map_owned.Goals as goal

pub by_own_crew-requires-after_bounds : goal.by_own_crew-requires-after_bounds
by_own_crew-requires-after_bounds g c κs within =
    let room : 0 + vec_len c.args.items < 2 ^ 64 = search rules in (room, each-of_places _ _ c.requires)

pub returns-clause-sound : goal.returns-clause-sound
returns-clause-sound g c = tells-sound _ _ _ _ _ _ c.by_own_crew.ensures

pub returns-clause-first : goal.returns-clause-first
returns-clause-first g c = tells-first _ _ _ _ _ _ c.by_own_crew.ensures

pub returns-clause-named : goal.returns-clause-named
returns-clause-named g c = λ fault_of are. tells-named fault_of _ _ are _ _ _ _ c.by_own_crew.ensures
