-- No round credits more to a cluster than is outstanding, and what is left is outstanding behind it.
use Rattle.std.proofs.Common.{◌≡◌, ℕ, ◌+◌, ◌-◌, ◌==◌, Bool, true, false, List, length, take, cond, sym, ap, ◌∙◌, arith}
use Rattle.std.specs.Prelude.{◌&&◌, ◌||◌, not, nat_lt, slice_index, sum_by}
use Rattle.std.specs.List.{list_all}
use Rattle.std.specs.Option.{option_map_or}
use Rattle.std.proofs.lemmas.Bool.{le-leb, or_right}
use Rattle.std.proofs.lemmas.Bool.Decides.{nat_tests}
use Rattle.us_flows.specs.Tables.{Tables, rounds_fit}
use Rattle.us_flows.specs.Clusters.{Cluster, Turn, IsTurnIn, table_order, words_of}
use Rattle.us_flows.specs.Lawful.{AreTables}
use Rattle.us_flows.proofs.TurnLaws.{table_order-turns}
use Rattle.us_requests.specs.declared.asks.Counts.{Counts}
use Rattle.us_split.specs.Requested as requested
use Rattle.us_split.specs.Requested.{requested_by}
use Rattle.us_split.proofs.RequestedLemmas.{requested-at}
use Rattle.us_channel.specs.Placements.{credits}
use Rattle.us_output.specs.declared.rows.Grant.{Grant}
use Rattle.us_output.specs.declared.rows.Row.{Row}
use Rattle.us_round.specs.Rounds.{opening, builds_of, all_grants, is_of_cluster, schedule, final}
use Rattle.us_round.specs.ScheduleLaws.{AreCuts, asked_of, credited_of}
use Rattle.us_round.proofs.ByteLaws.{bytes_are_kept}
use Rattle.us_output.proofs.PartLemmas.{all_taken, all_weaker}
use Rattle.us_reports.specs.declared.place.Place.{Place}
use Rattle.us_lawful.specs.Runs.{Run, requested_in}
use Rattle.us_lawful.specs.Credits.{asked_within, credited_in, credited_within, is_of, sum_holds, sums_hold}
use Rattle.us_lawful.specs.Output.{output_of, judged_of, run_of}
use Rattle.us_lawful.proofs.SameLemmas.{sum_filter}
use Rattle.us_lawful.proofs.SumLemmas.{sum_both, sum_same}
use Rattle.us_lawful.proofs.CreditLineLaws.{all_placed}
use Rattle.us_lawful.proofs.TestLemmas.{all_pass}
use Rattle.us_lawful.proofs.WithinLemmas.{credited_is, sum_within}
use Rattle.us_lawful.proofs.CreditSumLemmas.{cluster_grants, lines_credit}

-- Rounds.

-- a number is below the next one if it is below this one, or is this one
one_more : (a : Bool) (n rounds bytes : ℕ) →
    cond (a && nat_lt n (rounds + 1)) bytes 0 ≡ cond (a && nat_lt n rounds) bytes 0 + cond (a && (n == rounds)) bytes 0
one_more false n rounds bytes = omega arith
one_more true n rounds bytes = grind (arith, nat_tests)

-- so that with one round more, what it credits is credited too
one_round_more : (lines : List Row) (rounds : ℕ) (cluster : Cluster) →
    credited_within lines (rounds + 1) cluster ≡ credited_within lines rounds cluster + credited_in lines rounds cluster
one_round_more lines rounds cluster =
    let all : List Grant = requested_in lines in
    let bytes : (ℕ → Bool) → Grant → ℕ = λ when g. cond (is_of cluster g && when g.round) g.credit 0 in
    let before : ℕ → Bool = λ n. nat_lt n rounds in
    let now : ℕ → Bool = λ n. n == rounds in
    let by_then : ℕ → Bool = λ n. nat_lt n (rounds + 1) in
    omega (
      arith,
      sum_filter (λ (g : Grant). g.credit) (λ g. is_of cluster g && by_then g.round) all,
      sum_filter (λ (g : Grant). g.credit) (λ g. is_of cluster g && before g.round) all,
      sum_filter (λ (g : Grant). g.credit) (λ g. is_of cluster g && now g.round) all,
      sum_both (bytes before) (bytes now) all,
      sum_same (bytes by_then) (λ g. bytes before g + bytes now g) all
          (all_placed (λ g. bytes by_then g ≡ bytes before g + bytes now g) all
          (λ place g at. one_more (is_of cluster g) g.round rounds g.credit)),
    )

-- Balances.

-- what lines credit to a cluster within the first rounds is what these rounds do
credited_is_within : (t : Tables) (cuts : List (List ℕ)) (counts : Counts) → AreTables t → AreCuts t cuts →
    (rounds : ℕ) (turn : Turn) → IsTurnIn t turn →
    credited_within (judged_of (output_of t cuts counts)).lines rounds turn.cluster
    ≡ credited_of turn.number (schedule (opening t) (take rounds cuts))
credited_is_within t cuts counts lawful long rounds turn known =
    lines_credit (λ id list. (id == turn.cluster.flow.id) && (list == turn.cluster.list)) (λ n. nat_lt n rounds)
    (is_of_cluster turn.number) t cuts counts lawful long (cluster_grants t cuts turn lawful long known)
    ∙ sum_within (λ s. credits (is_of_cluster turn.number) (all_grants (builds_of s))) (opening t) cuts rounds rounds
    (omega arith)
    ∙ sym (credited_is turn.number (opening t) (take rounds cuts))

-- a cluster requests all bytes that cuts have of its word
requested_is : (t : Tables) (cuts : List (List ℕ)) (turn : Turn) → AreCuts t cuts → IsTurnIn t turn →
    asked_of t turn.number cuts ≡ sum_by (λ cut. slice_index cut turn.number) cuts
requested_is t cuts turn long known =
    let n : ℕ = turn.number in
    sum_same (λ cut. slice_index (requested.requested_in (words_of t) cut) n) (λ cut. slice_index cut n) cuts
    (all_weaker (λ cut. length cut ≡ length (words_of t))
    (λ cut. slice_index (requested.requested_in (words_of t) cut) n ≡ slice_index cut n)
    (λ cut same. requested-at (words_of t) cut n (omega (arith, same, known.number))
    ∙ ap (λ word. option_map_or (λ word. requested_by word (slice_index cut n)) word 0) known.word) cuts long)

-- what it asks for in them is credited to it there, or outstanding behind them
pub bytes_balance : (t : Tables) (cuts : List (List ℕ)) (counts : Counts) → AreTables t → AreCuts t cuts →
    (rounds : ℕ) (turn : Turn) → IsTurnIn t turn →
    slice_index (final (opening t) (take rounds cuts)).outstanding turn.number
    + credited_within (judged_of (output_of t cuts counts)).lines rounds turn.cluster
    ≡ asked_within (run_of t cuts counts) rounds turn.number
bytes_balance t cuts counts lawful long rounds turn known =
    let first : List (List ℕ) = take rounds cuts in
    let are : AreCuts t first = all_taken (λ cut. length cut ≡ length (words_of t)) rounds cuts long in
    omega (
      arith,
      credited_is_within t cuts counts lawful long rounds turn known,
      bytes_are_kept t first turn.number lawful are,
      requested_is t first turn are known,
    )

-- In every run no round credits more than is outstanding.
pub sums_are_lawful : (t : Tables) (cuts : List (List ℕ)) (counts : Counts) → AreTables t → AreCuts t cuts →
    rounds_fit t (length cuts) ≡ true → (p : Place) →
    sums_hold (run_of t cuts counts) (judged_of (output_of t cuts counts)) p ≡ true
sums_are_lawful t cuts counts lawful long fit p =
    let run : Run = run_of t cuts counts in
    let lines : List Row = (judged_of (output_of t cuts counts)).lines in
    let each : Turn → Bool = λ turn. not (turn.cluster.flow.id == p.third) || sum_holds run lines p.round turn in
    or_right (not ((p.channel == 0) && nat_lt p.round run.rounds)) (list_all each (table_order t))
    (all_pass each (table_order t) (all_weaker (IsTurnIn t) (λ turn. each turn ≡ true)
    (λ turn known. or_right (not (turn.cluster.flow.id == p.third)) (sum_holds run lines p.round turn)
    (le-leb (credited_in lines p.round turn.cluster)
    (asked_within run (p.round + 1) turn.number - credited_within lines p.round turn.cluster)
    (omega (
      arith,
      bytes_balance t cuts counts lawful long (p.round + 1) turn known,
      one_round_more lines p.round turn.cluster,
    ))))
    (table_order t) (table_order-turns t)))
