-- Where shares are granted on small boards, computed by the definitions alone.
use Rattle.std.specs.Prelude.{◌≡◌, ℕ, ◌+◌, [], ◌∷◌, replicate, Some, None, refl}
use Rattle.us_slots.specs.Examples.{base_profile}
use Rattle.us_slots.specs.Bursts.{ChannelBursts, coded_length, burst_cost, grant_cost}
use Rattle.us_slots.specs.Capacities.{greatest_up_to, capacity_of}
use Rattle.us_holes.specs.Boards.{Owner, Board, empty_board, assign, first_of, longest_up_to}
use Rattle.us_split.specs.Claims.{Claimant, Claim}
use Rattle.us_channel.specs.Placements.{PlacedClaim, spot, grant_of, grants_of}

-- minislots of 2 ticks, at 5,120 ksym/s for a rate of 5, at half of that for 4
abbrev bursts_at : ℕ → ChannelBursts
bursts_at rate = record {
  time = record { minislot_log2 = 1; rate_log2 = rate };
  long = base_profile;
  short = base_profile;
  short_max = 10;
  unsolicited = base_profile;
}

abbrev broadcast_request : Owner
broadcast_request = record { sid = 16383; iuc = 1 }

-- 160 minislots, of which this one and that one are held
abbrev held_at : ℕ → ℕ → Board
held_at one other = assign (assign (empty_board 160) one 1 broadcast_request) other 1 broadcast_request

abbrev claimant : Claimant
claimant = record { cluster = 0; place = 0; flow = 1; list = 0 }

-- the claim of a share behind a header, at a rate of 5
abbrev claim : ℕ → ℕ → Claim
claim header share = record {
  claimant = claimant;
  turn = 0;
  position = 0;
  sid = 291;
  header = header;
  share = share;
  slots = (grant_cost (bursts_at 5) (share + header)).0;
  iuc = (grant_cost (bursts_at 5) (share + header)).1;
}

-- a grant by its start, its minislots, its IUC and its credit
abbrev grant : ℕ → ℕ → ℕ → ℕ → PlacedClaim
grant start slots iuc credit = record {
  claimant = claimant;
  assignment = record { start = start; slots = slots; owner = record { sid = 291; iuc = iuc } };
  credit = credit;
}

-- 3,008 bytes take 95 minislots
whole : grant_of (bursts_at 5) (held_at 0 96) (claim 8 3000) ≡ Some (grant 1 95 10 3000)
unfolding spot first_of longest_up_to burst_cost coded_length greatest_up_to capacity_of
whole = refl

-- no idle run has them, and the first of two with 79 carries 2,512 bytes
first_longest : grant_of (bursts_at 5) (held_at 0 80) (claim 8 3000) ≡ Some (grant 1 79 10 2504)
unfolding spot first_of longest_up_to burst_cost coded_length greatest_up_to capacity_of
first_longest = refl

-- a run of 93 starts later
later_longest : grant_of (bursts_at 5) (held_at 0 66) (claim 8 3000) ≡ Some (grant 67 93 10 2952)
unfolding spot first_of longest_up_to burst_cost coded_length greatest_up_to capacity_of
later_longest = refl

-- 8 idle minislots, and so many assignments
abbrev assigned : ℕ → Board
assigned count = record { cells = replicate 8 None; standing = count }

-- with 100 assignments a MAP has no room
most_assignments :
    (grant_of (bursts_at 5) (assigned 99) (claim 0 16) ≡ Some (grant 0 1 9 16)) ×
    (grant_of (bursts_at 5) (assigned 100) (claim 0 16) ≡ None)
unfolding spot first_of longest_up_to burst_cost coded_length greatest_up_to capacity_of
most_assignments = (refl, refl)

-- an idle run is taken where it carries a byte at least: of minislots of 32 symbols one carries a burst without bytes
carries_nothing :
    (grant_of (bursts_at 5) (assign (empty_board 2) 1 1 broadcast_request) (claim 8 9) ≡ Some (grant 0 1 9 8)) ×
    (grant_of (bursts_at 4) (assign (empty_board 2) 1 1 broadcast_request) (claim 8 9) ≡ None)
unfolding spot first_of longest_up_to burst_cost coded_length greatest_up_to capacity_of
carries_nothing = (refl, refl)

-- the second of two claims finds what the first one left
one_after_another :
    grants_of (bursts_at 5) (empty_board 4) (claim 8 40 ∷ claim 8 100 ∷ []) ≡ grant 0 2 9 40 ∷ grant 2 2 9 40 ∷ []
unfolding grants_of spot first_of longest_up_to burst_cost coded_length greatest_up_to capacity_of
one_after_another = refl
