-- Small inputs, computed by the definitions alone.
use Rattle.std.specs.Prelude.{◌≡◌, ℕ, ◌+◌, List, [], ◌∷◌, slice_index, Option, Some, None, refl}
use Rattle.std.proofs.Common.{arith}
use Rattle.std.proofs.Math.Nat.{le_refl}
use Rattle.atomic_table.specs.Seated.{TableId}
use Rattle.us_flows.specs.Tables.{Tables}
use Rattle.us_round.specs.Rounds.{opening, round_of, schedule}
use Rattle.us_output.specs.Outputs.{RoundOut, out_of}
use Rattle.us_slots.specs.Lists.{added}
use Rattle.us_intake.specs.Seats.{Intake, Seat, first_seat, seat_after_submit, seat_after_cut}
use Rattle.us_live.specs.Lives.{Live, first_live, with_entry, failed_live, rounds_of, logged, IsCut, IsNext}
use Rattle.us_live.specs.Laws.{CutByRounds, opened, submitted, made, LogBalances}

module _ (tables : Tables) where
  abbrev live : List (List ℕ) → Option Tables → Live
  live log standing = record { clusters = 2; rounds = 3; log = log; tables = standing }

  -- before the first round none is scheduled
  no_round : rounds_of tables [] ≡ []
  unfolding schedule
  no_round = refl

  -- a round of 1,000 bytes of the first cluster, and one of nothing
  first_round : with_entry (live [] (Some tables)) (1000 ∷ 0 ∷ []) ≡ live ((1000 ∷ 0 ∷ []) ∷ []) (Some tables)
  first_round = refl

  second_round : with_entry (live ((1000 ∷ 0 ∷ []) ∷ []) (Some tables)) (0 ∷ 0 ∷ [])
      ≡ live ((1000 ∷ 0 ∷ []) ∷ (0 ∷ 0 ∷ []) ∷ []) (Some tables)
  second_round = refl

  -- want of memory in the second one leaves the log as it was
  no_memory : failed_live (live ((1000 ∷ 0 ∷ []) ∷ []) (Some tables)) ≡ live ((1000 ∷ 0 ∷ []) ∷ []) None
  no_memory = refl

-- by cluster, over all entries
first_cluster : logged ((1000 ∷ 7 ∷ []) ∷ (20 ∷ 0 ∷ []) ∷ []) 0 ≡ 1020
first_cluster = refl

second_cluster : logged ((1000 ∷ 7 ∷ []) ∷ (20 ∷ 0 ∷ []) ∷ []) 1 ≡ 7
second_cluster = refl

no_such_cluster : logged ((1000 ∷ 7 ∷ []) ∷ []) 2 ≡ 0
no_such_cluster = refl

-- an intake of 10,000 bytes for one cluster: the first seat submits 1,000 bytes, which the first round cuts
module _ (id : TableId) (tables : Tables) where
  abbrev intake : Intake
  intake = record { id = id; clusters = 1; quota = 10000 }

  abbrev before : Seat
  before = seat_after_submit (first_seat intake) 0 1000

  abbrev after : Seat
  after = seat_after_cut before (1000 ∷ [])

  takes_all : IsCut before after (1000 ∷ [])
  takes_all = record { grown = refl; row = refl; least = λ cluster. le_refl _; whole = λ is. refl }

  abbrev opening_live : Live
  opening_live = first_live tables 3

  abbrev next_live : Live
  next_live = with_entry opening_live (1000 ∷ [])

  abbrev first_out : RoundOut
  first_out = out_of tables (round_of (opening tables) (1000 ∷ [])).scheduled

  is_next : IsNext opening_live next_live before after (1000 ∷ []) first_out
  unfolding schedule
  is_next = record { cut_is = takes_all; logs = refl; answer = refl }

  one_round : CutByRounds intake next_live after
  one_round =
      made opening_live next_live before after (1000 ∷ []) first_out
      (submitted opening_live (first_seat intake) 0 1000 (opened tables 3)) is_next

  -- so nothing of it is left when the intake is closed
  all_logged : LogBalances → (left : List ℕ) → after.submitted ≡ added after.taken left → slice_index left 0 ≡ 0
  all_logged law left closed =
      let account : 1000 + slice_index left 0 ≡ 1000 = law.closed intake next_live after left one_round closed 0 in
      omega (arith, account)

  -- what is cut besides is in no entry: such a seat isn't cut by rounds alone
  cut_besides : LogBalances → ¬ CutByRounds intake opening_live after
  cut_besides law rounds =
      let same : 1000 ≡ 0 = law.took intake opening_live after rounds 0 in
      omega (arith, same)
