-- Where no flow has a minimum rate, nothing is reserved in any round, and so one pass does.
use Rattle.std.proofs.Common.{ℕ, ◌==◌, List, [], ◌∷◌, map, ◌∙◌, inl, inr}
use Rattle.std.specs.List.{AllByRecursion}
use Rattle.std.proofs.lemmas.Bool.{cases_Bool}
use Rattle.std.proofs.lemmas.List.{length-map}
use Rattle.us_bucket.specs.Levels.{Level, bytes_in, reserve_in}
use Rattle.us_split.proofs.OnePassLaws as plans
use Rattle.us_round.specs.Rounds.{State, opening, brought, begun, fills_of, idle, reserved_in, round_from, round_of}
use Rattle.us_round.specs.States.{IsState}
use Rattle.us_round.specs.ScheduleLaws.{begun_rounds, AreCuts, IsPlannedOnce, OnePassDoes}
use Rattle.us_round.specs.Cores.{NoRates}
use Rattle.us_round.proofs.CalendarLemmas.{opening_state}
use Rattle.us_round.proofs.NoRateLemmas.{none_full, none_left, none_refilled, none_reserved}
use Rattle.us_round.proofs.ScheduleLaws.{begun_state, next_state}

none_brought : (s : State) (levels : List Level) → NoRates levels → NoRates (brought s levels)
none_brought s levels none = elim (cases_Bool (s.round == 0)) [
  | inl first ↦ rw first none
  | inr later ↦ rw later (none_refilled s.tables.round_ticks levels none)
]

once : (s : State) → IsState s → NoRates s.reserves → IsPlannedOnce s
once s is none =
    plans.one_pass_does s.tables s.outstanding (map bytes_in s.buckets) (map reserve_in s.reserves) (idle (fills_of s))
    (length-map s.buckets bytes_in ∙ is.flows) (none_reserved s.reserves none)

all_once : (s : State) (cuts : List (List ℕ)) → IsState s → NoRates s.reserves → AreCuts s.tables cuts →
    AllByRecursion IsPlannedOnce (begun_rounds s cuts)
unfolding begun_rounds round_of round_from
all_once s [] is none long = tt
all_once s (cut ∷ cuts) is none long =
    let now : IsState (begun s cut) = begun_state s cut is long.0 in
    let left : NoRates (begun s cut).reserves = none_brought s s.reserves none in (
      once (begun s cut) now left,
      all_once (round_of s cut).state cuts (next_state (begun s cut) now)
          (none_left (reserved_in (begun s cut)) 0 (begun s cut).reserves left) long.1,
    )

pub one_pass_does : OnePassDoes
one_pass_does t cuts none long = all_once (opening t) cuts (opening_state t) (none_full t.flows none) long
