use Rattle.us_map_rules.proofs.MapsLemmas.{one_reading_of_maps}
use Rattle.us_check.proofs.VerdictLaws.{lawful_texts_hold}
use Rattle.us_check.proofs.laws.lawful_texts_hold.Goals as goal

pub returns : goal.returns
returns c = lawful_texts_hold one_reading_of_maps
