use Rattle.us_lawful.proofs.TraceTextLaws.{texts_of_traces_are_lawful}
use Rattle.us_lawful.proofs.laws.texts_of_traces_are_lawful.Goals as goal

pub returns : goal.returns
returns c = texts_of_traces_are_lawful
