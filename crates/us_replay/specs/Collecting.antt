-- How the requests of a round are collected: chunks of asks, the seats that submit them, and what stands between rounds.
use Rattle.std.specs.Prelude.{◌≡◌, ℕ, ◌+◌, ◌*◌, ◌<◌, ◌≤◌, ⊤, true, List, [], ◌∷◌, ◌++◌, length, map, replicate, slice_index, sum, Option, Some, None}
use Rattle.std.specs.List.{AllByRecursion}
use Rattle.us_slots.specs.Lists.{added}
use Rattle.us_intake.specs.Seats.{Intake, Seat, IsWhole, new_seat, joined_seat, spent}
use Rattle.us_requests.specs.declared.asks.Ask.{Ask}
use Rattle.us_requests.specs.Cuts.{asked, cut_of}
use Rattle.us_requests.specs.Traces.{max_ask, max_asked, max_asks}

-- Chunks.

-- asks of so many words, none of them too great
abbrev pub AreAsks : ℕ → List Ask → Type 0
AreAsks clusters asks = AllByRecursion (λ ask. (ask.cluster < clusters) × (ask.bytes ≤ max_ask)) asks

-- the bytes for which a seat is split off for a chunk: as many as its asks can name
abbrev pub chunk_quota : List Ask → ℕ
chunk_quota asks = max_ask * length asks

-- a seat of an intake that may submit these asks yet
pub record CanSubmit (intake : Intake) (seat : Seat) (asks : List Ask) : Type 0 where
  pub own : seat.intake ≡ intake
  pub row : length seat.submitted ≡ intake.clusters
  pub room : spent seat + chunk_quota asks ≤ seat.quota
  pub asks_are : AreAsks intake.clusters asks

-- a seat that was split off for a chunk, and the chunk
abbrev pub IsChunk : Intake → Seat → List Ask → Type 0
IsChunk intake seat asks = (seat ≡ new_seat intake (chunk_quota asks)) × AreAsks intake.clusters asks

-- a seat of an intake with which some asks may be submitted, whole or in chunks
pub record CanGather (intake : Intake) (seat : Seat) (asks : List Ask) : Type 0 where
  pub own : seat.intake ≡ intake
  pub submitted_row : length seat.submitted ≡ intake.clusters
  pub taken_row : length seat.taken ≡ intake.clusters
  pub some : 1 ≤ length asks
  pub few : length asks ≤ max_asks
  pub room : spent seat + chunk_quota asks < seat.quota
  pub asks_are : AreAsks intake.clusters asks

-- the seat that submitted these asks, by one addition each
abbrev pub seat_after_asks : Seat → List Ask → Seat
seat_after_asks seat asks = record seat {
  submitted = added seat.submitted (cut_of seat.intake.clusters asks);
  additions = seat.additions + length asks;
}

-- a seat and others made one
abbrev pub joined_seats : Seat → List Seat → Seat
joined_seats seat [] = seat
joined_seats seat (other ∷ others) = joined_seats (joined_seat seat other) others

-- Taking.

-- a whole seat that took all that was submitted but these asks
pub record IsDue (seat : Seat) (asks : List Ask) : Type 0 where
  pub whole : IsWhole seat
  pub takes : seat.takes ≡ true
  pub row : length seat.taken ≡ seat.intake.clusters
  pub known : AllByRecursion (λ ask. ask.cluster < seat.intake.clusters) asks
  pub due : seat.submitted ≡ added seat.taken (cut_of seat.intake.clusters asks)

-- the seat that took all that was submitted, by one swap for each of these asks, of the word that it names
abbrev pub seat_after_takes : Seat → List Ask → Seat
seat_after_takes seat asks = record seat {
  taken = seat.submitted;
  swapped = seat.swapped ++ map (λ ask. ask.cluster) asks;
}

-- Between rounds.

-- the bytes that may be submitted in a run: one more than the asks of a trace can name
abbrev pub run_quota : ℕ
run_quota = max_asked + 1

-- the cut of the last round, and the bytes that were collected so far
pub record Collector : Type 0 where
  pub cut : List ℕ
  pub collected : ℕ

-- only words that these asks name have something in a cut
pub record IsTold (asks : List Ask) (cut : List ℕ) : Type 0 where
  pub known : AllByRecursion (λ ask. ask.cluster < length cut) asks
  pub only : (word : ℕ) → asked asks word ≡ 0 → slice_index cut word ≡ 0

-- before round 0 of so many words
abbrev pub opening_collector : ℕ → Collector
opening_collector clusters = record { cut = replicate clusters 0; collected = 0 }

-- the asks of a round were collected
abbrev pub with_asks : Collector → List Ask → Collector
with_asks c asks = record {
  cut = cut_of (length c.cut) asks;
  collected = c.collected + sum (cut_of (length c.cut) asks);
}

-- the bytes that were collected with a seat
abbrev pub collected_by : Option Seat → ℕ
collected_by None = 0
collected_by (Some seat) = spent seat

-- the seat is whole, and all that was submitted was taken
pub record IsSettled (clusters : ℕ) (intake : Intake) (seat : Seat) : Type 0 where
  pub clusters_are : intake.clusters ≡ clusters
  pub quota_is : intake.quota ≡ run_quota
  pub own : seat.intake ≡ intake
  pub whole : seat.quota ≡ run_quota
  pub takes : seat.takes ≡ true
  pub row : length seat.submitted ≡ clusters
  pub even : seat.taken ≡ seat.submitted

-- where there is a seat, it is of the intake, and so
abbrev pub AreSettled : ℕ → Option Intake → Option Seat → Type 0
AreSettled clusters intake None = ⊤
AreSettled clusters None (Some seat) = ⊥
AreSettled clusters (Some intake) (Some seat) = IsSettled clusters intake seat

-- an intake that was opened for so many words, and its seat
abbrev pub AreOpen : ℕ → Option Intake → Option Seat → Type 0
AreOpen clusters intake seat = AreSettled clusters intake seat × (collected_by seat ≡ 0)
