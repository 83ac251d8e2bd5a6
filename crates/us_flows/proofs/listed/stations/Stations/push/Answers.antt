use Rattle.us_flows.proofs.ListedLemmas.{IsPushed, pushed}
use Rattle.us_flows.proofs.listed.stations.Stations.push.Goals as goal

put : (c : goal.In_ok-insert) →
    IsPushed (λ station. station.id) c.self.inside.map.entries c.args.self.now c.args.station c.insert.new.self.entries
put c =
    pushed (λ station. station.id) c.self.inside.map c.self.invariant _ c.self.view_is c.args.station c.requires _
    c.in_ok-insert.ensures.entries

pub invariant_of-self-2 : goal.invariant_of-self-2
invariant_of-self-2 c = (put c).by_ids

pub returns : goal.returns
returns c = (put c).values
