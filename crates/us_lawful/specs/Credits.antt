-- P6: what lines of requests credit was asked for, and is what the grant carries.
use Rattle.std.specs.Prelude.{ℕ, ◌+◌, ◌-◌, ◌==◌, nat_le, nat_lt, ◌&&◌, ◌||◌, not, Bool, false, List, filter, sum_by, count_by, take, slice_index, Option, Some, None}
use Rattle.std.specs.List.{list_all, list_any}
use Rattle.us_slots.specs.Bursts.{grant_cost}
use Rattle.us_flows.specs.declared.channels.Channel.{Channel}
use Rattle.us_flows.specs.Tables.{channel_with, header_bytes}
use Rattle.us_flows.specs.Clusters.{Cluster, Turn, has_sid, table_order}
use Rattle.us_output.specs.declared.rows.Grant.{Grant}
use Rattle.us_output.specs.declared.rows.Row.{Row}
use Rattle.us_reports.specs.declared.place.Place.{Place}
use Rattle.us_lawful.specs.Runs.{Run, Judged, requested_in}

-- Lines.

-- a line is of this cluster: it tells the flow's id, and the place among the flow's clusters
abbrev pub is_of : Cluster → Grant → Bool
is_of cluster g = (g.id == cluster.flow.id) && (g.i == cluster.list)

-- the minislots and the IUC are those of a grant of the credit behind the header
abbrev pub has_cost : Cluster → Grant → Option Channel → Bool
has_cost cluster g None = false
has_cost cluster g (Some c) =
    let cost : ℕ × ℕ = grant_cost c.bursts (g.credit + header_bytes cluster.flow) in
    (g.slots == cost.0) && (g.iuc == cost.1)

-- a line of the same cluster, channel and round
abbrev pub is_like : Grant → Grant → Bool
is_like g other = (other.round == g.round) && ((other.channel == g.channel) && ((other.id == g.id) && (other.i == g.i)))

-- a line is right for its cluster: its third number is 0, the SID is the cluster's on the channel, something is credited, the
-- cost is right, and there is no other such line
abbrev pub is_right_for : Run → List Row → Grant → Cluster → Bool
is_right_for run lines g cluster =
    is_of cluster g
    && ((g.k == 0) && (has_sid g.channel g.sid cluster && (nat_lt 0 g.credit
    && (has_cost cluster g (channel_with run.tables.channels g.channel)
    && (count_by (is_like g) (requested_in lines) == 1)))))

-- the clusters that make requests, each with its number
abbrev pub is_right_credit : Run → List Row → Grant → Bool
is_right_credit run lines g = list_any (λ turn. is_right_for run lines g turn.cluster) (table_order run.tables)

-- a line with this round, channel and id
abbrev pub is_credit_at : Place → Grant → Bool
is_credit_at p g = (g.round == p.round) && ((g.channel == p.channel) && (g.id == p.third))

abbrev pub credit_lines_hold : Run → Judged → Place → Bool
credit_lines_hold run judged p =
    list_all (λ g. not (is_credit_at p g) || is_right_credit run judged.lines g) (requested_in judged.lines)

-- Sums.

-- the bytes that are credited to a cluster in a round,
abbrev pub credited_in : List Row → ℕ → Cluster → ℕ
credited_in lines round cluster =
    sum_by (λ g. g.credit) (filter (λ g. is_of cluster g && (g.round == round)) (requested_in lines))

-- and in the first so many rounds, and those that it asks for in them
abbrev pub credited_within : List Row → ℕ → Cluster → ℕ
credited_within lines rounds cluster =
    sum_by (λ g. g.credit) (filter (λ g. is_of cluster g && nat_lt g.round rounds) (requested_in lines))

abbrev pub asked_within : Run → ℕ → ℕ → ℕ
asked_within run rounds number = sum_by (λ cut. slice_index cut number) (take rounds run.cuts)

-- no more is credited in a round than is outstanding: what was asked for up to there and not credited before
abbrev pub sum_holds : Run → List Row → ℕ → Turn → Bool
sum_holds run lines round turn =
    nat_le (credited_in lines round turn.cluster)
    (asked_within run (round + 1) turn.number - credited_within lines round turn.cluster)

-- so it is of the clusters of the flow with the id `third`, where the channel is 0
abbrev pub sums_hold : Run → Judged → Place → Bool
sums_hold run judged p =
    not ((p.channel == 0) && nat_lt p.round run.rounds)
    || list_all (λ turn. not (turn.cluster.flow.id == p.third) || sum_holds run judged.lines p.round turn)
    (table_order run.tables)

abbrev pub credits_hold : Run → Judged → Place → Bool
credits_hold run judged p = credit_lines_hold run judged p && sums_hold run judged p
