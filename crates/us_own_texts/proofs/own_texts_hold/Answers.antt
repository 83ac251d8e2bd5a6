use Rattle.us_map_rules.proofs.MapsLemmas.{one_reading_of_maps}
use Rattle.us_own_texts.proofs.OwnLaws.{own_texts_hold}
use Rattle.us_own_texts.proofs.own_texts_hold.Goals as goal

pub returns : goal.returns
returns c = own_texts_hold one_reading_of_maps
