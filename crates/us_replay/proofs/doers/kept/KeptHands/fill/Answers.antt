use Rattle.us_replay.proofs.doers.kept.KeptHands.fill.Goals as goal

-- The trait asks that channels meet the work's condition without an entry, and so they do behind one.
pub fill-requires-clause-ready : goal.fill-requires-clause-ready
fill-requires-clause-ready g c = λ place item is entered. c.requires.ready place item is tt
