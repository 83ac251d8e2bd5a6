use Rattle.us_round.proofs.crewed.CrewedHands.TheImpl.Goals as goal

-- The trait asks that channels meet the work's condition without an entry, and so they do behind one.
pub fill-asks : goal.fill-asks
fill-asks g c = record { ready = λ place item is entered. c.requires.ready place item is tt; known = c.requires.known }

pub build-asks : goal.build-asks
build-asks g c = record { claims = λ place item is entered. c.requires.claims place item is tt }
