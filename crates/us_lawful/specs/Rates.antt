-- P5: over every span of rounds, the bytes credited to a flow are at most its burst, and its rate over the time from the
-- first round of the span to the last.
use Rattle.std.specs.Prelude.{ℕ, ◌+◌, ◌-◌, ◌*◌, ◌==◌, nat_le, nat_lt, ◌&&◌, ◌||◌, not, Bool, List, map, filter, sum_by}
use Rattle.std.specs.List.{list_all, range_with_len}
use Rattle.us_flows.specs.Tables.{Tables, FlowTable}
use Rattle.us_bucket.specs.Levels.{units_per_byte}
use Rattle.us_bucket.specs.Spans.{credited}
use Rattle.us_output.specs.declared.rows.Row.{Row}
use Rattle.us_reports.specs.declared.place.Place.{Place}
use Rattle.us_lawful.specs.Runs.{Run, Judged, requested_in}

-- the bytes that lines of requests credit to a flow in a round
abbrev pub flow_credit : List Row → ℕ → ℕ → ℕ
flow_credit lines id round = sum_by (λ g. g.credit) (filter (λ g. (g.id == id) && (g.round == round)) (requested_in lines))

-- and in each round of a run
abbrev pub flow_credits : Run → List Row → ℕ → List ℕ
flow_credits run lines id = map (flow_credit lines id) (range_with_len 0 run.rounds)

-- the credits of the rounds from `first` to `last` keep the flow's bound
abbrev pub span_holds : Tables → FlowTable → List ℕ → ℕ → ℕ → Bool
span_holds t flow credits last first =
    nat_le (credited credits first last * units_per_byte)
    (flow.burst * units_per_byte + (last - first) * (t.round_ticks * flow.rate))

-- so it is of every span that ends in this round, for a flow that has a rate
abbrev pub flow_rate_holds : Run → Judged → ℕ → FlowTable → Bool
flow_rate_holds run judged last flow =
    (flow.rate == 0)
    || list_all (span_holds run.tables flow (flow_credits run judged.lines flow.id) last) (range_with_len 0 (last + 1))

-- of the flow with the id `third`, where the channel is 0
abbrev pub rates_hold : Run → Judged → Place → Bool
rates_hold run judged p =
    not ((p.channel == 0) && nat_lt p.round run.rounds)
    || list_all (λ flow. not (flow.id == p.third) || flow_rate_holds run judged p.round flow) run.tables.flows
