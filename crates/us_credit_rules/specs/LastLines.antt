-- F lines, as they are judged: each names a cluster, and each cluster has one, which tells what is left.
use Rattle.std.specs.Prelude.{ℕ, ◌-◌, ◌==◌, ◌&&◌, nat_eq, Bool, List, slice_index, slice_index_or, Option}
use Rattle.std.specs.Option.{option_eq}
use Rattle.us_flows.specs.Clusters.{Turn}
use Rattle.us_output.specs.declared.rows.FinalState.{FinalState}
use Rattle.us_reports.specs.declared.place.Place.{Place}
use Rattle.us_credit_rules.specs.declared.told.Told.{Told}
use Rattle.us_credit_rules.specs.declared.requests.Requests.{Requests}
use Rattle.us_credit_rules.specs.Buckets.{account_of, units_of}
use Rattle.us_credit_rules.specs.Ends.{end_place, unless}
use Rattle.us_credit_rules.specs.Ledgers.{account_at}
use Rattle.us_credit_rules.specs.Tellings.{is_once, nothing}

-- a line tells this
abbrev pub tells : ℕ → Option ℕ → FinalState → Bool
tells outstanding units f = (outstanding == f.outstanding) && option_eq nat_eq units f.units

-- just one tells of a cluster what is left of all that its word asks for, and in the bucket of its flow
abbrev pub is_right : ℕ → ℕ → List ℕ → Requests → Told FinalState → Turn → Bool
is_right rounds ticks all kept told turn =
    is_once (tells
    (slice_index all turn.number - (account_at kept.ledger.accounts.items turn.number).credited)
    (units_of ticks (rounds - 1) (account_of kept.flows.items turn.place))) told

-- the place of a cluster that hasn't just its own F line, by what is told of each word
abbrev pub final_place : ℕ → ℕ → List ℕ → Requests → List (Told FinalState) → Turn → Option Place
final_place rounds ticks all kept told turn =
    unless (is_right rounds ticks all kept (slice_index_or told turn.number nothing) turn)
    (end_place rounds turn.cluster.flow.id)
