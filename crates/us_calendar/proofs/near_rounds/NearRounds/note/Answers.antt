use Rattle.us_calendar.proofs.BitLemmas.{bit_set_at}
use Rattle.us_calendar.proofs.near_rounds.NearRounds.note.Goals as goal

pub returns : goal.returns
returns c =
    bit_set_at c.args.self.now c.self.inside.words.items c.args.round c.args.place c.word_of.result c.index_mut.result.now
    c.self.view_is c.word_of.ensures c.index_mut.ensures.value c.requires c.self.invariant
