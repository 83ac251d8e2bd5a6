-- The buckets of flows, told one line of a request after another.
use Rattle.std.specs.Prelude.{ℕ, ◌-◌, ◌*◌, ◌==◌, nat_le, nat_lt, not, Bool, true, if◌then◌else◌, Option, Some, None, List, find, map, fold, slice_index_or, slice_set}
use Rattle.us_flows.specs.Tables.{FlowTable, Tables}
use Rattle.us_flows.specs.Clusters.{Turn, table_order}
use Rattle.us_bucket.specs.Levels.{Level, full, refilled, spent, bytes_in, units_in}
use Rattle.us_output.specs.declared.rows.Grant.{Grant}
use Rattle.us_reports.specs.declared.place.Place.{Place}
use Rattle.us_credit_rules.specs.declared.buckets.FlowAccount.{FlowAccount}
use Rattle.us_credit_rules.specs.Seats.{flow_in, names}
use Rattle.us_credit_rules.specs.Shorts.{flow_place, short_then}

-- the bucket has so many bytes
abbrev pub is_within : ℕ → Option ℕ → Bool
is_within bytes None = true
is_within bytes (Some most) = nat_le bytes most

abbrev pub has : Level → ℕ → Bool
has l bytes = is_within bytes (bytes_in l)

-- a bucket in which `l` was left in round `at`, in that round or when a later one starts
abbrev pub level_in : ℕ → ℕ → Level → ℕ → Level
level_in ticks at l round = if at == round then l else refilled ((round - at) * ticks) l

-- Accounts of flows.

-- that of a flow with a rate and a burst before all rounds
abbrev pub full_account : ℕ → ℕ → FlowAccount
full_account rate burst = record {
  bucket = full rate burst;
  empty = spent burst (full rate burst);
  as_of = 0;
  short = None;
}

-- with a credit more, which takes its bytes from the bucket, or all that it has
abbrev pub with_bytes : ℕ → ℕ → ℕ → FlowAccount → FlowAccount
with_bytes ticks round bytes a =
    let now : Level = level_in ticks a.as_of a.bucket round in
    record {
      bucket = if has now bytes then spent bytes now else a.empty;
      empty = a.empty;
      as_of = round;
      short = short_then round (not (has now bytes)) a.short;
    }

-- the units in the bucket in a later round
abbrev pub units_of : ℕ → ℕ → FlowAccount → Option ℕ
units_of ticks round a = units_in (level_in ticks a.as_of a.bucket round)

-- All of them, by the places of flows.

abbrev pub no_flow : FlowAccount
no_flow = full_account 0 0

abbrev pub account_of : List FlowAccount → ℕ → FlowAccount
account_of flows place = slice_index_or flows place no_flow

-- a line credits the flow at a place
abbrev pub credited_at : ℕ → Grant → Option ℕ → List FlowAccount → List FlowAccount
credited_at ticks g None flows = flows
credited_at ticks g (Some place) flows =
    slice_set flows place (with_bytes ticks g.round g.credit (account_of flows place))

-- and one of a round of the run that whose id it tells
abbrev pub credited_by : ℕ → ℕ → List Turn → List FlowAccount → Grant → List FlowAccount
credited_by rounds ticks turns flows g =
    if nat_lt g.round rounds then credited_at ticks g (flow_in (find (names g.id 0) turns)) flows else flows

-- behind all lines
abbrev pub credited_all : ℕ → Tables → List Grant → List FlowAccount
credited_all rounds t grants =
    fold (credited_by rounds t.round_ticks (table_order t)) (map (λ flow. full_account flow.rate flow.burst) t.flows) grants

-- where the bucket of a flow first lacks the bytes of a credit
abbrev pub rate_place : FlowTable → FlowAccount → Option Place
rate_place flow a = if flow.rate == 0 then None else flow_place flow.id a.short
