-- Small inputs, computed by the definitions alone.
use Rattle.std.specs.Prelude.{◌≡◌, ℕ, true, List, [], ◌∷◌, map, Option, Some, None, ⊤, refl}
use Rattle.us_slots.specs.Bursts.{coded_length, burst_cost}
use Rattle.us_slots.specs.Capacities.{greatest_up_to, capacity_of}
use Rattle.us_slots.specs.Examples.{base_profile, bursts_with}
use Rattle.us_flows.specs.declared.channels.Channel.{Channel}
use Rattle.us_flows.specs.declared.flows.SchedulingType.TheVariants.{ActivityDetection, BestEffort}
use Rattle.us_flows.specs.Tables.{FlowTable, Tables}
use Rattle.us_flows.specs.Clusters.{turns_of}
use Rattle.us_split.specs.Divisions.{divided}
use Rattle.us_split.specs.Plans.{weights, shares_of, cost_on, after_turn, plan_of, after_plan, more_shares, after_both, second_of, two_passes, plan_for, reserved_for}
use Rattle.us_split.specs.Claims.{Claim, claims_from, all_claims, share_of}
use Rattle.us_split.specs.Asking.{asked_more, asking, asking_in, claims_at, nobody_asks, numbers_of, places_from, plan_of_askers, pending_places}
use Rattle.us_split.specs.Requested.{with_cut}

-- what these computations unfold
unfoldable all_steps : ⊤
unfolding coded_length burst_cost greatest_up_to capacity_of turns_of divided weights shares_of cost_on after_turn
    plan_of after_plan more_shares after_both second_of two_passes plan_for reserved_for claims_from
all_steps = tt

-- Division.

-- parts of 150, 300 and 50 bytes, and a byte that is left over; then no byte more than the weights
three_weights :
    (divided 501 (300 ∷ 600 ∷ 100 ∷ []) ≡ 151 ∷ 300 ∷ 50 ∷ []) ×
    (divided 1000 (300 ∷ 600 ∷ 100 ∷ []) ≡ 300 ∷ 600 ∷ 100 ∷ []) ×
    (divided 2000 (300 ∷ 600 ∷ 100 ∷ []) ≡ 300 ∷ 600 ∷ 100 ∷ []) ×
    (divided 0 (300 ∷ 600 ∷ 100 ∷ []) ≡ 0 ∷ 0 ∷ 0 ∷ [])
unfolding divided
three_weights = (refl, refl, refl, refl)

-- a channel that carries nothing gets no byte that is left over
no_weight : divided 1 (0 ∷ 2 ∷ 2 ∷ []) ≡ 0 ∷ 1 ∷ 0 ∷ []
unfolding divided
no_weight = refl

-- Tables.

-- a channel with this id; a minislot has 2 ticks and 64 symbols of 4 bits
abbrev channel : ℕ → Channel
channel id = record {
  id = id;
  bursts = bursts_with base_profile;
  ucd_count = 0;
  ranging_backoff = 2 ∷ 6 ∷ [];
  data_backoff = 3 ∷ 8 ∷ [];
  request_minislots = 2;
  contention_minislots = 10;
  maintenance_minislots = 0;
  maintenance_every = 1;
  station_minislots = 4;
}

-- a flow of these channels and clusters, with segment headers of 8 bytes
abbrev flow : List ℕ → List (List ℕ) → FlowTable
flow channels clusters = record {
  id = 1;
  kind = BestEffort;
  channels = channels;
  clusters = clusters;
  priority = 0;
  rate = 0;
  burst = 3044;
  min_rate = 0;
  unit = 4;
  headers = true;
  start_us = 0;
  interval_us = 0;
  jitter_us = 0;
  grant_bytes = 0;
  grants_per_interval = 0;
}

-- two channels, and a flow of them in this order with two clusters
abbrev bonded : List ℕ → Tables
bonded channels = record {
  round_ticks = 320;
  lead_ticks = 160;
  channels = channel 1 ∷ channel 2 ∷ [];
  flows = flow channels ((291 ∷ 292 ∷ []) ∷ (293 ∷ 294 ∷ []) ∷ []) ∷ [];
  stations = [];
}

-- the shares of all turns, of so many outstanding bytes of both clusters, an allowance of their flow, no reserve, and so
-- many idle minislots of both channels
abbrev shares_for : List ℕ → ℕ → ℕ → Option ℕ → ℕ → ℕ → List (List ℕ)
shares_for channels first second allowance one two =
    map (λ planned. planned.shares)
    (plan_for (bonded channels) (first ∷ second ∷ []) (allowance ∷ []) [] (one ∷ two ∷ []))

-- Plans.

-- 150 minislots carry 4,784 bytes: a header, and 4,776 bytes. A grant of 4,008 bytes costs 126 minislots, and the 24
-- that are left carry 752: a header, and 744 bytes
two_clusters : shares_for (1 ∷ 2 ∷ []) 8000 2000 None 150 150 ≡ (4000 ∷ 4000 ∷ []) ∷ (744 ∷ 744 ∷ []) ∷ []
unfolding all_steps
two_clusters = refl

-- the second channel is asked first for what is left over, and has less room
other_order : shares_for (2 ∷ 1 ∷ []) 1001 0 None 150 24 ≡ (135 ∷ 866 ∷ []) ∷ (0 ∷ 0 ∷ []) ∷ []
unfolding all_steps
other_order = refl

-- the clusters of a flow share its allowance: the second has what the first one left
one_allowance :
    (shares_for (1 ∷ 2 ∷ []) 1000 1000 (Some 1500) 150 150 ≡ (500 ∷ 500 ∷ []) ∷ (250 ∷ 250 ∷ []) ∷ []) ×
    (shares_for (1 ∷ 2 ∷ []) 1000 1000 (Some 1000) 150 150 ≡ (500 ∷ 500 ∷ []) ∷ (0 ∷ 0 ∷ []) ∷ []) ×
    (shares_for (1 ∷ 2 ∷ []) 1000 1000 (Some 701) 150 150 ≡ (351 ∷ 350 ∷ []) ∷ (0 ∷ 0 ∷ []) ∷ [])
unfolding all_steps
one_allowance = (refl, refl, refl)

-- no room on the one channel, and none on both
no_room :
    (shares_for (1 ∷ 2 ∷ []) 1000 0 None 0 150 ≡ (0 ∷ 1000 ∷ []) ∷ (0 ∷ 0 ∷ []) ∷ []) ×
    (shares_for (1 ∷ 2 ∷ []) 1000 1000 None 0 0 ≡ (0 ∷ 0 ∷ []) ∷ (0 ∷ 0 ∷ []) ∷ [])
unfolding all_steps
no_room = (refl, refl)

-- Reserves.

-- a channel with a flow of priority 7 and without a minimum rate, and one of priority 0 with these clusters and this minimum
-- rate
abbrev beside : ℕ → List (List ℕ) → Tables
beside min_rate clusters = record {
  round_ticks = 320;
  lead_ticks = 160;
  channels = channel 1 ∷ [];
  flows =
      record (flow (1 ∷ []) ((291 ∷ []) ∷ [])) { priority = 7 } ∷
      record (flow (1 ∷ []) clusters) { id = 2; burst = 1522; min_rate = min_rate } ∷ [];
  stations = [];
}

-- the shares of all turns, the flow of priority 7 first, where so much is reserved for the other one, and 150 minislots are
-- idle
abbrev shares_beside : ℕ → List (List ℕ) → List ℕ → ℕ → List (List ℕ)
shares_beside min_rate clusters outstanding reserve =
    map (λ planned. planned.shares)
    (plan_for (beside min_rate clusters) outstanding (None ∷ None ∷ []) (0 ∷ reserve ∷ []) (150 ∷ []))

-- and what is taken of that
abbrev taken_beside : ℕ → List (List ℕ) → List ℕ → ℕ → ℕ
taken_beside min_rate clusters outstanding reserve =
    reserved_for (beside min_rate clusters) outstanding (None ∷ None ∷ []) (0 ∷ reserve ∷ []) (150 ∷ []) 1

-- 1,530 bytes are 49 minislots, and the 101 that are left carry 3,216: a header, and 3,208 bytes. So 49 minislots are left
-- for the reserved bytes and 22 more. 328 bytes are 11 minislots; without a reserve nothing is left
one_reserve :
    (shares_beside 1280000 ((292 ∷ []) ∷ []) (262140 ∷ 10000 ∷ []) 1522 ≡ (3208 ∷ []) ∷ (1544 ∷ []) ∷ []) ×
    (taken_beside 1280000 ((292 ∷ []) ∷ []) (262140 ∷ 10000 ∷ []) 1522 ≡ 1522) ×
    (shares_beside 1280000 ((292 ∷ []) ∷ []) (258932 ∷ 8456 ∷ []) 320 ≡ (4424 ∷ []) ∷ (328 ∷ []) ∷ []) ×
    (shares_beside 1280000 ((292 ∷ []) ∷ []) (262140 ∷ 10000 ∷ []) 0 ≡ (4776 ∷ []) ∷ (0 ∷ []) ∷ [])
unfolding all_steps
one_reserve = (refl, refl, refl, refl)

-- a flow without a minimum rate has no part in the first pass, whatever is said to be reserved for it
no_minimum_rate :
    (shares_beside 0 ((292 ∷ []) ∷ []) (262140 ∷ 10000 ∷ []) 1522 ≡ (4776 ∷ []) ∷ (0 ∷ []) ∷ []) ×
    (taken_beside 0 ((292 ∷ []) ∷ []) (262140 ∷ 10000 ∷ []) 1522 ≡ 0)
unfolding all_steps
no_minimum_rate = (refl, refl)

-- both clusters of a flow have their bytes of its reserve
both_reserved :
    (shares_beside 1280000 ((292 ∷ []) ∷ (293 ∷ []) ∷ []) (262140 ∷ 700 ∷ 700 ∷ []) 1522 ≡
    (3304 ∷ []) ∷ (700 ∷ []) ∷ (700 ∷ []) ∷ []) ×
    (taken_beside 1280000 ((292 ∷ []) ∷ (293 ∷ []) ∷ []) (262140 ∷ 700 ∷ 700 ∷ []) 1522 ≡ 1400)
unfolding all_steps
both_reserved = (refl, refl)

-- Claims.

-- a claim of this turn at this position, of the cluster whose word has this number, with this SID, share, minislots and IUC
abbrev claim : ℕ → ℕ → ℕ → ℕ → ℕ → ℕ → ℕ → Claim
claim turn position number sid share slots iuc = record {
  claimant = record { cluster = number; place = 0; flow = 1; list = number };
  turn = turn;
  position = position;
  sid = sid;
  header = 8;
  share = share;
  slots = slots;
  iuc = iuc;
}

-- the claims on each channel, where the flow has these channels, and so much is outstanding
abbrev claims_for : List ℕ → ℕ → ℕ → ℕ → ℕ → List (List Claim)
claims_for channels first second one two =
    all_claims (bonded channels)
    (plan_for (bonded channels) (first ∷ second ∷ []) (None ∷ []) [] (one ∷ two ∷ []))

-- both clusters on both channels: 4,008 bytes are 126 minislots, 752 bytes 24, all of them long data grants
bonded_claims : claims_for (1 ∷ 2 ∷ []) 8000 2000 150 150 ≡
    (claim 0 0 0 291 4000 126 10 ∷ claim 1 0 1 293 744 24 10 ∷ []) ∷
    (claim 0 1 0 292 4000 126 10 ∷ claim 1 1 1 294 744 24 10 ∷ []) ∷ []
unfolding all_steps
bonded_claims = refl

-- a channel's claim has the SID that stands at the channel's position among the flow's, wherever the channel stands in the
-- table; 143 bytes are 5 minislots, a short data grant, and a share of 0 is no claim
turned_claims :
    (claims_for (2 ∷ 1 ∷ []) 1001 0 150 24 ≡
    (claim 0 1 0 292 866 28 10 ∷ []) ∷ (claim 0 0 0 291 135 5 9 ∷ []) ∷ []) ×
    (claims_for (1 ∷ 2 ∷ []) 1000 0 0 150 ≡ [] ∷ (claim 0 1 0 292 1000 32 10 ∷ []) ∷ [])
unfolding all_steps
turned_claims = (refl, refl)

-- the first cluster asks for nothing, and the second one's shares are looked up
abbrev second_only : List (List Claim)
second_only = claims_for (1 ∷ 2 ∷ []) 0 7 150 150

looked_up :
    (share_of second_only 1 0 ≡ 4) ×
    (share_of second_only 1 1 ≡ 3) ×
    (share_of second_only 1 2 ≡ 0) ×
    (share_of second_only 0 0 ≡ 0)
unfolding all_steps
looked_up = (refl, refl, refl, refl)

-- Who asks.

-- words 2, 0 and 1 in the order of turns: the first of these turns asks, and the last one; and the second is pending, where
-- word 1 was credited 5 bytes, and word 2 all that was outstanding
three_turns :
    (asking (0 ∷ 9 ∷ 7 ∷ []) (2 ∷ 0 ∷ 1 ∷ []) ≡ 0 ∷ 2 ∷ []) ×
    (pending_places (4 ∷ 9 ∷ 7 ∷ []) (4 ∷ 4 ∷ 0 ∷ []) (2 ∷ 0 ∷ 1 ∷ []) ≡ 1 ∷ [])
unfolding places_from
three_turns = (refl, refl)

-- between two flows of best effort one that tells its activity
abbrev with_activity : Tables
with_activity = record {
  round_ticks = 320;
  lead_ticks = 160;
  channels = channel 1 ∷ [];
  flows =
      flow (1 ∷ []) ((291 ∷ []) ∷ []) ∷
      record (flow (1 ∷ []) ((292 ∷ []) ∷ [])) { id = 2; kind = ActivityDetection } ∷
      record (flow (1 ∷ []) ((293 ∷ []) ∷ [])) { id = 3; priority = 5 } ∷ [];
  stations = [];
}

-- words 1 and 2 are of activity. What a cut has of them isn't outstanding, nor is what is added to one of them; the turns are
-- of words 3 and 0, and both ask
activity_between :
    (with_cut with_activity (5 ∷ 0 ∷ 0 ∷ 7 ∷ []) (1 ∷ 1 ∷ 2 ∷ 4 ∷ []) ≡ 6 ∷ 0 ∷ 0 ∷ 11 ∷ []) ×
    ((asked_more 2 9 (nobody_asks with_activity)).outstanding ≡ 0 ∷ 0 ∷ 0 ∷ 0 ∷ []) ×
    ((asked_more 3 9 (nobody_asks with_activity)).outstanding ≡ 0 ∷ 0 ∷ 0 ∷ 9 ∷ []) ×
    (numbers_of (turns_of with_activity) ≡ 3 ∷ 0 ∷ []) ×
    (asking_in with_activity (6 ∷ 0 ∷ 0 ∷ 11 ∷ []) ≡ 0 ∷ 1 ∷ [])
unfolding all_steps places_from
activity_between = (refl, refl, refl, refl, refl)

-- the second cluster alone asks, and claims as it does among all turns
second_asks :
    map (λ c. claims_at c (asking_in (bonded (1 ∷ 2 ∷ [])) (0 ∷ 7 ∷ []))
    (plan_of_askers (bonded (1 ∷ 2 ∷ [])) (0 ∷ 7 ∷ []) (None ∷ []) [] (150 ∷ 150 ∷ []))) (channel 1 ∷ channel 2 ∷ [])
    ≡ second_only
unfolding all_steps places_from
second_asks = refl
