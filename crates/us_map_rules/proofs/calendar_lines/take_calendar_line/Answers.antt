use Rattle.std.proofs.Common.{◌≡◌, false, Some, get_or, ap, sym, subst, ◌∙◌}
use Rattle.std.proofs.lemmas.List.{length-set}
use Rattle.std.specs.List.{list_any}
use Rattle.us_map_rules.specs.Naming.{calendar_line, tells_right}
use Rattle.us_map_rules.specs.Told.{IsToldMore}
use Rattle.us_map_rules.proofs.ListedLemmas.{listed_among}
use Rattle.us_map_rules.proofs.TakingLemmas.{line_first, none_more, none_right, one_more, one_right}
use Rattle.us_map_rules.proofs.calendar_lines.take_calendar_line.Goals as goal

pub returns-in_default-called-clause-told : goal.returns-in_default-called-clause-told
returns-in_default-called-clause-told c = λ lines before.
    none_more c.args.run.now c.args.row.now c.args.listed.now (Some c.in-Some.line)
    (sym c.calendar_line.ensures ∙ c.in-Some.is) c.in_default-called.ensures lines c.args.told.now.items before

pub returns-in_default-called-clause-first : goal.returns-in_default-called-clause-first
returns-in_default-called-clause-first c =
    let run = c.args.run.now in
    let es = c.args.listed.now in
    let row = c.args.row.now in
    let line = c.in-Some.line in
    line_first run row es line (sym c.calendar_line.ensures ∙ c.in-Some.is) false
    (none_right run row es line c.in_default-called.ensures)

pub take-requires-clause-entry : goal.take-requires-clause-entry
take-requires-clause-entry c =
    listed_among c.args.run.now.tables c.args.listed.now c.requires.listed c.index-entries-place.result (
      c.in-Some-called.place,
      c.in-Some-called.ensures.0,
      sym (c.index-entries-place.is
          ∙ ap (λ es. get_or es c.in-Some-called.place c.index-entries-place.result) c.entries.ensures),
    )

pub returns : goal.returns
returns c =
    let run = c.args.run.now in
    let es = c.args.listed.now in
    let row = c.args.row.now in
    let line = c.in-Some.line in
    let place = c.in-Some-called.place in
    let named = c.in-Some-called.ensures in
    let l = c.index-entries-place.result in
    let at : l ≡ get_or es place l = c.index-entries-place.is ∙ ap (λ es. get_or es place l) c.entries.ensures in
    let is : calendar_line row ≡ Some line = (sym c.calendar_line.ensures ∙ c.in-Some.is) in
    let holds : list_any (tells_right run row line) es ≡ c.in_ok-right.right =
    one_right run row es line c.requires.listed place named.0 named.1 l
    ∙ ap (tells_right run row line) (sym at) ∙ sym c.in_ok-right.ensures.right in
    record {
      long = length-set c.args.told.now.items place c.take.new.self ∙ c.requires.long;
      told = λ lines before.
          one_more run row es line c.requires.listed place named.0 named.1 lines c.args.told.now.items c.take.new.self
          c.index_mut.result.now l is c.requires.long
          (subst (λ t. IsToldMore run (get_or es place l) row t c.take.new.self) c.index_mut.ensures.value
          (subst (λ m. IsToldMore run m row c.index_mut.result.now c.take.new.self) at c.in_ok-right.ensures.told)) before;
      first = line_first run row es line is c.in_ok-right.right holds;
    }
