-- Small inputs, computed by the definitions alone.
use Rattle.std.specs.Prelude.{◌≡◌, ℕ, Bool, true, false, List, [], ◌∷◌, sum_by, count_by, slice_index, refl}
use Rattle.atomic_table.specs.Seated.{TableId}
use Rattle.us_slots.specs.Lists.{added}
use Rattle.us_intake.specs.Tallies.{empty_tally, raised}
use Rattle.us_intake.specs.Seats.{Intake, Seat, spent, first_seat, new_seat, seat_after_split, joined_seat, seat_after_submit, seat_after_take, seat_after_cut}
use Rattle.us_intake.specs.Accounts.{Part, first_part, part_after_submit, part_after_swap, part_after_split, new_part, joined_part, part_after_look, spent_part}

-- two clusters
one_more : raised (0 ∷ 500 ∷ []) 1 200 ≡ 0 ∷ 700 ∷ []
one_more = refl

no_such_cluster : raised (0 ∷ 500 ∷ []) 2 200 ≡ 0 ∷ 500 ∷ []
no_such_cluster = refl

both : added (1 ∷ 2 ∷ []) (30 ∷ 40 ∷ []) ≡ 31 ∷ 42 ∷ []
both = refl

-- the longer one stays
one_longer : added (1 ∷ 2 ∷ []) (30 ∷ []) ≡ 31 ∷ 2 ∷ []
one_longer = refl

nothing_yet : empty_tally 3 ≡ 0 ∷ 0 ∷ 0 ∷ []
nothing_yet = refl

-- an intake of 10,000 bytes for one cluster
module _ (id : TableId) where
  abbrev intake : Intake
  intake = record { id = id; clusters = 1; quota = 10000 }

  -- its bytes, submitted in so many additions, and taken by swaps of these words
  abbrev seat : ℕ → Bool → ℕ → ℕ → ℕ → List ℕ → Seat
  seat quota takes submitted additions taken swapped =
      record {
        intake = intake;
        quota = quota;
        takes = takes;
        submitted = submitted ∷ [];
        taken = taken ∷ [];
        additions = additions;
        swapped = swapped;
      }

  first : first_seat intake ≡ seat 10000 true 0 0 0 []
  first = refl

  -- 4,000 bytes are split off
  first_quota : seat_after_split (first_seat intake) 4000 ≡ seat 6000 true 0 0 0 []
  first_quota = refl

  second_quota : new_seat intake 4000 ≡ seat 4000 false 0 0 0 []
  second_quota = refl

  -- they submit 500 and 700
  first_submits : seat_after_submit (seat 6000 true 0 0 0 []) 0 500 ≡ seat 6000 true 500 1 0 []
  first_submits = refl

  second_submits : seat_after_submit (seat 4000 false 0 0 0 []) 0 700 ≡ seat 4000 false 700 1 0 []
  second_submits = refl

  second_spent : spent (seat 4000 false 700 1 0 []) ≡ 700
  second_spent = refl

  -- joined, the seat has the whole quota and takes, whichever of the two comes first
  joined : joined_seat (seat 6000 true 500 1 0 []) (seat 4000 false 700 1 0 []) ≡ seat 10000 true 1200 2 0 []
  joined = refl

  joined_other_way : joined_seat (seat 4000 false 700 1 0 []) (seat 6000 true 500 1 0 []) ≡ seat 10000 true 1200 2 0 []
  joined_other_way = refl

  -- a cut finds 1,200, the next one 0
  first_cut : seat_after_cut (seat 10000 true 1200 2 0 []) (1200 ∷ []) ≡ seat 10000 true 1200 2 1200 (0 ∷ [])
  first_cut = refl

  second_cut : seat_after_cut (seat 10000 true 1200 2 1200 (0 ∷ [])) (0 ∷ [])
      ≡ seat 10000 true 1200 2 1200 (0 ∷ 0 ∷ [])
  second_cut = refl

  one_word : seat_after_take (seat 10000 true 1200 2 0 []) 0 1200 ≡ seat 10000 true 1200 2 1200 (0 ∷ [])
  one_word = refl

  -- of two clusters, the words are swapped in their order
  both_words : (seat_after_cut (first_seat (record { id = id; clusters = 2; quota = 10000 })) (7 ∷ 0 ∷ [])).swapped
      ≡ 0 ∷ 1 ∷ []
  both_words = refl

-- the same in the account: of two parts, one takes, the quotas add up, and 1,200 bytes were submitted
abbrev part : ℕ → Bool → ℕ → ℕ → ℕ → List ℕ → Bool → Part
part quota takes submitted additions taken words looks =
    record {
      whole = 10000;
      quota = quota;
      takes = takes;
      submitted = submitted ∷ [];
      taken = taken ∷ [];
      additions = additions;
      swapped = words;
      looks = looks;
    }

abbrev parts : List Part
parts = part 6000 true 500 1 0 [] false ∷ part 4000 false 700 1 0 [] false ∷ []

quotas : sum_by (λ its. its.quota) parts ≡ 10000
quotas = refl

takers : count_by (λ its. its.takes) parts ≡ 1
takers = refl

submitted : sum_by (λ its. slice_index its.submitted 0) parts ≡ 1200
submitted = refl

opening : first_part (record { clusters = 1; quota = 10000 }) ≡ part 10000 true 0 0 0 [] false
opening = refl

split : part_after_split (part 10000 true 0 0 0 [] false) 4000 ≡ part 6000 true 0 0 0 [] false
split = refl

split_off : new_part (part 10000 true 0 0 0 [] false) 4000 ≡ part 4000 false 0 0 0 [] false
split_off = refl

swaps : part_after_swap (part 6000 true 500 1 0 [] false) 0 1200 ≡ part 6000 true 500 1 1200 (0 ∷ []) false
swaps = refl

submits : part_after_submit (part 4000 false 0 0 0 [] false) 0 700 ≡ part 4000 false 700 1 0 [] false
submits = refl

-- and what a join leaves counts nothing
abbrev joined_parts : List Part
joined_parts = joined_part (part 6000 true 500 1 0 [] false) (part 4000 false 700 1 0 [] false) ∷ spent_part ∷ []

joined_account : joined_parts ≡ part 10000 true 1200 2 0 [] true ∷ spent_part ∷ []
joined_account = refl

joined_quotas : sum_by (λ its. its.quota) joined_parts ≡ 10000
joined_quotas = refl

-- the load behind it
looked : part_after_look (part 10000 true 1200 2 0 [] true) ≡ part 10000 true 1200 2 0 [] false
looked = refl
