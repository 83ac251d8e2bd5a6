-- The ledger of clusters: what words ask for and clusters are credited, told one line of a request after another.
use Rattle.std.specs.Prelude.{◌≡◌, ℕ, ◌+◌, ◌-◌, ◌<◌, ◌≤◌, ◌==◌, ◌^◌, nat_le, nat_lt, ◌&&◌, Bool, None, Option, List, [], ◌∷◌, ◌++◌, length, filter, sum_by, slice_index, slice_index_or}
use Rattle.std.specs.List.{AllByRecursion, range_with_len}
use Rattle.us_flows.specs.Clusters.{Cluster, Turn}
use Rattle.us_requests.specs.Cuts.{asked}
use Rattle.us_requests.specs.Traces.{TraceAsks, asks_in}
use Rattle.us_output.specs.declared.rows.Grant.{Grant}
use Rattle.us_reports.specs.declared.place.Place.{Place}
use Rattle.us_lawful.specs.Credits.{is_of}
use Rattle.us_credit_rules.specs.declared.ledgers.Account.{Account}
use Rattle.us_credit_rules.specs.declared.ledgers.Ledger.{Ledger}
use Rattle.us_credit_rules.specs.Shorts.{IsFirstRound, flow_place, short_then}

-- Accounts of words.

abbrev pub nothing : Account
nothing = record { credited = 0; short = None }

abbrev pub account_at : List Account → ℕ → Account
account_at accounts word = slice_index_or accounts word nothing

-- Where so much was asked for, a credit more leaves so much less of whatever is asked, in 64 bits.
pub record TakesCredit (asked round bytes : ℕ) (before after : Account) : Type 0 where
  pub left : (all : ℕ) → all < 2 ^ 64 → all - after.credited ≡ all - before.credited - bytes
  pub short : after.short ≡ short_then round (nat_lt (asked - before.credited) bytes) before.short

-- where a cluster is credited more than is outstanding
abbrev pub sum_place : List Account → Turn → Option Place
sum_place accounts turn = flow_place turn.cluster.flow.id (account_at accounts turn.number).short

-- Sums over lines of requests.

-- the bytes that a word asks for in the first so many rounds
abbrev pub asked_in : TraceAsks → ℕ → ℕ → ℕ
asked_in v rounds word = sum_by (λ round. asked (asks_in v round) word) (range_with_len 0 rounds)

-- those that a cluster is credited in a round, and in the first so many rounds
abbrev pub credit_in : List Grant → ℕ → Cluster → ℕ
credit_in grants round cluster = sum_by (λ g. g.credit) (filter (λ g. is_of cluster g && (g.round == round)) grants)

abbrev pub credit_within : List Grant → ℕ → Cluster → ℕ
credit_within grants rounds cluster = sum_by (λ g. g.credit) (filter (λ g. is_of cluster g && nat_lt g.round rounds) grants)

-- no more is credited in a round than is outstanding
abbrev pub holds : TraceAsks → List Grant → Turn → ℕ → Bool
holds v grants turn round =
    nat_le (credit_in grants round turn.cluster)
    (asked_in v (round + 1) turn.number - credit_within grants round turn.cluster)

-- The ledger, behind some lines, where so many rounds are begun.

-- what words ask for in these rounds
pub record AreAsked (v : TraceAsks) (begun : ℕ) (sums : List ℕ) : Type 0 where
  pub inside : begun ≤ v.rounds
  pub asked : (word : ℕ) → word < length sums → slice_index sums word ≡ asked_in v begun word

-- what is left of whatever a cluster asks for, in 64 bits, and the first round in which it is credited more
pub record IsCredited (v : TraceAsks) (grants : List Grant) (turn : Turn) (a : Account) : Type 0 where
  pub left : (all : ℕ) → all < 2 ^ 64 → all - a.credited ≡ all - credit_within grants v.rounds turn.cluster
  pub short : IsFirstRound v.rounds (holds v grants turn) a.short

abbrev pub AreCredited : TraceAsks → List Turn → List Grant → List Account → Type 0
AreCredited v turns grants accounts =
    AllByRecursion (λ turn. IsCredited v grants turn (account_at accounts turn.number)) turns

-- One line more, which is of no earlier round than those before it.
pub record TakesLine (v : TraceAsks) (turns : List Turn) (g : Grant) (before after : Ledger) : Type 0 where
  pub ordered : after.begun ≤ g.round + 1
  pub words : length after.asked.items ≡ length before.asked.items
  pub long : length after.accounts.items ≡ length before.accounts.items
  pub asked : AreAsked v after.begun after.asked.items
  pub credited : (grants : List Grant) → AllByRecursion (λ other. other.round ≤ g.round) grants →
      AreCredited v turns grants before.accounts.items → AreCredited v turns (grants ++ g ∷ []) after.accounts.items
