use Rattle.std.proofs.Common.{drop, refl, ap, ◌∙◌}
use Rattle.std.proofs.lemmas.List.{take_rest}
use Rattle.us_codec.specs.MapsFiles.{Piece}
use Rattle.us_map_rules.proofs.PieceLemmas.{none_read, record_read}
use Rattle.us_map_rules.proofs.ToldLemmas.{drop_least}
use Rattle.us_map_rules.proofs.pieces.first_elements.Goals as goal

pub returns-in_default-clause-read : goal.returns-in_default-clause-read
returns-in_default-clause-read c = none_read c.args.bytes.now c.in_default.ensures.none

pub returns-clause-read : goal.returns-clause-read
returns-clause-read c =
    let piece : Piece = record { round = c.in-Some.field-0-0; body = c.in-Some.body.now } in
    record_read c.args.bytes.now piece c.in-Some.behind.now _ _ c.in-Some.ensures.found.0 c.in-Some.ensures.found.1 refl
    (take_rest piece.body c.min.result ∙ ap (λ i. drop i piece.body) c.min.ensures ∙ drop_least 16 piece.body)
