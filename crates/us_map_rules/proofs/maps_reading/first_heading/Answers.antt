use Rattle.std.proofs.Common.{sym, subst}
use Rattle.std.specs.Prelude.{IfNone}
use Rattle.us_codec.specs.MapsFiles.{Piece}
use Rattle.us_map_rules.specs.MapsReading.{BeginsNoRecord}
use Rattle.us_map_rules.proofs.RecordLemmas.{map_told, no_body, no_record}
use Rattle.us_map_rules.proofs.maps_reading.first_heading.Goals as goal

pub returns-in_err-round-clause-none : goal.returns-in_err-round-clause-none
returns-in_err-round-clause-none c =
    subst (λ r. IfNone r (BeginsNoRecord c.args.bytes.now)) (sym c.from_residual.ensures)
    (no_record c.args.bytes.now c.in_err-round.ensures.none)

pub returns-in_err-head-clause-none : goal.returns-in_err-head-clause-none
returns-in_err-head-clause-none c =
    let piece : Piece = record { round = c.in_ok-round.round; body = c.in_ok-round.body.now } in
    let found = c.in_ok-round.ensures.found in
    subst (λ r. IfNone r (BeginsNoRecord c.args.bytes.now)) (sym c.from_residual-in_err-head.ensures)
    (no_body c.args.bytes.now piece c.in_ok-round.behind.now found.0 found.1 c.in_err-head.ensures.none)

pub returns-clause-some : goal.returns-clause-some
returns-clause-some c =
    let piece : Piece = record { round = c.in_ok-round.round; body = c.in_ok-round.body.now } in
    let found = c.in_ok-round.ensures.found in
    map_told c.args.bytes.now piece c.in_ok-round.behind.now c.in_ok-head.head c.in_ok-head.len found.0 found.1
    c.in_ok-head.ensures.some
