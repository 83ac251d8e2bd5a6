use Rattle.std.proofs.Common.{◌≡◌, ◌^◌, ◌<◌, drop}
use Rattle.std.specs.List.{list_all}
use Rattle.us_requests.specs.Texts.{is_digit, number_from, number_of}
use Rattle.us_requests.proofs.fields.decimal.Given as goal

abbrev pub invariant-loop-byte : goal.invariant-loop-byte
invariant-loop-byte l =
    (number_from l.number (drop l.byte-index l.field) ≡ number_of l.field)
    × (list_all is_digit (drop l.byte-index l.field) ≡ list_all is_digit l.field) × (l.number < 10 ^ l.byte-index)
