use Rattle.std.proofs.Common.{◌≡◌, Some, None, ◌∙◌, ap, sym}
use Rattle.us_lawful.specs.Regions.{region_of}
use Rattle.us_lawful.specs.Runs.{Run, run_in}
use Rattle.us_map_rules.specs.RegionLines.{PlacedRegion, map_at, number_behind, placed_line, placed_lines}
use Rattle.us_map_rules.proofs.RegionRuleLemmas.{map_inside, told_aside, told_more}
use Rattle.us_map_rules.proofs.TakenLemmas.{answer_aside, answer_lacked, answer_late, answer_next, none_granted, none_lacked, none_told, of_map, one_granted}
use Rattle.us_map_rules.proofs.gathered.MapRegions.take.Goals as goal

pub returns-in_default-clause-told : goal.returns-in_default-clause-told
returns-in_default-clause-told c = λ _ maps lines told.
    told_aside (run_in c.args.config.now c.args.trace.now) c.args.file.now maps lines c.args.line.now c.args.self.now
    (none_told c.args.config.now c.args.trace.now.rounds c.args.line.now (sym c.place_told.ensures ∙ c.in_default.is)) told

pub returns-in_default-map_at-clause-answer : goal.returns-in_default-map_at-clause-answer
returns-in_default-map_at-clause-answer c =
    answer_lacked (run_in c.args.config.now c.args.trace.now) c.args.self.now.number c.args.line.now c.in-Some.place
    (sym c.place_told.ensures ∙ c.in-Some.is) (rw c.rounds.ensures.value at (sym c.map_at.ensures ∙ c.in_default-map_at.is))

pub returns-in_default-map_at-clause-told : goal.returns-in_default-map_at-clause-told
returns-in_default-map_at-clause-told c = λ _ maps lines told.
    told_aside (run_in c.args.config.now c.args.trace.now) c.args.file.now maps lines c.args.line.now c.args.self.now
    (none_lacked c.args.config.now c.args.trace.now.rounds c.args.line.now c.in-Some.place
    (sym c.place_told.ensures ∙ c.in-Some.is) (rw c.rounds.ensures.value at (sym c.map_at.ensures ∙ c.in_default-map_at.is))) told

pub returns-in_default-line : goal.returns-in_default-line
returns-in_default-line c =
    let run : Run = run_in c.args.config.now c.args.trace.now in
    let none : placed_line run.tables run.rounds c.args.line.now ≡ None =
    none_granted run.tables run.rounds c.args.line.now c.in_default-line.not-Granted in
    let at : map_at run.tables run.rounds c.in-Some.place.round c.in-Some.place.channel ≡ Some c.in-Some-map_at.map =
    rw c.rounds.ensures.value at (sym c.map_at.ensures ∙ c.in-Some-map_at.is) in
    record {
      answer = answer_aside run c.args.self.now.number c.args.line.now none
          (of_map run c.args.self.now.number c.args.line.now c.in-Some.place c.in-Some-map_at.map
          (sym c.place_told.ensures ∙ c.in-Some.is) at);
      told = λ _ maps lines told. told_aside run c.args.file.now maps lines c.args.line.now c.args.self.now none told;
      number = λ _. sym (ap (number_behind c.args.self.now.number) none);
      late = λ no. absurd (cc no);
    }

pub returns-then-map-self-clause-answer : goal.returns-then-map-self-clause-answer
returns-then-map-self-clause-answer c =
    let run : Run = run_in c.args.config.now c.args.trace.now in
    let q : PlacedRegion = record { map = c.in-Some-map_at.map; region = region_of c.in-Granted.grant } in
    let tells = sym c.place_told.ensures ∙ c.in-Some.is in
    let at : map_at run.tables run.rounds c.in-Some.place.round c.in-Some.place.channel ≡ Some c.in-Some-map_at.map =
    rw c.rounds.ensures.value at (sym c.map_at.ensures ∙ c.in-Some-map_at.is) in
    answer_late run c.args.self.now.number c.args.line.now q
    (one_granted run.tables run.rounds c.args.line.now c.in-Granted.grant c.in-Some.place c.in-Some-map_at.map c.in-Granted.is tells at)
    c.if-map-self.true
    (of_map run c.args.self.now.number c.args.line.now c.in-Some.place c.in-Some-map_at.map tells at)

pub returns-clause-answer : goal.returns-clause-answer
returns-clause-answer c =
    let run : Run = run_in c.args.config.now c.args.trace.now in
    let q : PlacedRegion = record { map = c.in-Some-map_at.map; region = region_of c.in-Granted.grant } in
    let tells = sym c.place_told.ensures ∙ c.in-Some.is in
    let at : map_at run.tables run.rounds c.in-Some.place.round c.in-Some.place.channel ≡ Some c.in-Some-map_at.map =
    rw c.rounds.ensures.value at (sym c.map_at.ensures ∙ c.in-Some-map_at.is) in
    answer_next run c.args.self.now.number c.args.line.now q
    (one_granted run.tables run.rounds c.args.line.now c.in-Granted.grant c.in-Some.place c.in-Some-map_at.map c.in-Granted.is tells at)
    c.if-map-self.false
    (of_map run c.args.self.now.number c.args.line.now c.in-Some.place c.in-Some-map_at.map tells at)

pub returns-clause-told : goal.returns-clause-told
returns-clause-told c = λ _ maps lines told.
    let run : Run = run_in c.args.config.now c.args.trace.now in
    let q : PlacedRegion = record { map = c.in-Some-map_at.map; region = region_of c.in-Granted.grant } in
    let at : map_at run.tables run.rounds c.in-Some.place.round c.in-Some.place.channel ≡ Some c.in-Some-map_at.map =
    rw c.rounds.ensures.value at (sym c.map_at.ensures ∙ c.in-Some-map_at.is) in
    told_more run c.args.file.now maps lines c.args.line.now q c.put.new.self
    (one_granted run.tables run.rounds c.args.line.now c.in-Granted.grant c.in-Some.place c.in-Some-map_at.map c.in-Granted.is
    (sym c.place_told.ensures ∙ c.in-Some.is) at)
    (rw c.region_of.ensures at (c.in_ok-put.ensures.told run.rounds maps (placed_lines run.tables run.rounds lines)
    (map_inside run.tables run.rounds c.in-Some.place.round c.in-Some.place.channel c.in-Some-map_at.map at) told))
