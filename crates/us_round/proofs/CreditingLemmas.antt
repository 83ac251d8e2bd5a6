-- Grants credited one after another, and channel after channel.
use Rattle.std.proofs.Common.{◌≡◌, ℕ, ◌+◌, ◌-◌, ◌<◌, List, [], ◌∷◌, length, slice_index, slice_index_or, slice_set, refl, ap, sym, ◌∙◌, arith}
use Rattle.us_bucket.specs.Levels.{Level, Has, spent, full}
use Rattle.us_split.specs.Asking.{Asking, credited}
use Rattle.us_channel.specs.Placements.{PlacedClaim}
use Rattle.us_channel.specs.Channels.{Built}
use Rattle.us_round.specs.Buckets.{Buckets}
use Rattle.us_round.specs.Cores.{AreCredited, IsCrediting}
use Rattle.us_round.specs.Rounds.{all_grants, uncredited, spent_of}
use Rattle.us_round.specs.States.{Covers}
use Rattle.us_round.proofs.StateLemmas.{after_channel, after_grant, channel_covered, first_asked, left_none, may_spend, spent_none}

-- the buckets of the flows of grants have what is credited
pub may_leave : (g : PlacedClaim) (gs all : List PlacedClaim) (first now : Asking) (before after : Buckets) →
    IsCrediting (g ∷ gs) all first now before after →
    (g.claimant.place < length after.levels)
    × ((d : Level) → Has (slice_index_or after.levels g.claimant.place d) g.credit)
may_leave g gs all first now before after is =
    (is.covers.known.0.place, λ d. may_spend g gs now.left after.levels g.claimant.place g.credit d is.covers refl refl)

pub crediting_one : (g : PlacedClaim) (gs all : List PlacedClaim) (first now next : Asking) (before after last : Buckets) →
    IsCrediting (g ∷ gs) all first now before after → next ≡ credited g.claimant.cluster g.credit now →
    ((d : Level) → last.levels ≡ slice_set after.levels g.claimant.place
    (spent g.credit (slice_index_or after.levels g.claimant.place d))) →
    last.ticks ≡ after.ticks → last.round ≡ after.round → IsCrediting gs all first next before last
crediting_one g gs all first now next before after last is takes spends ticks round =
    let none : Level = full 0 0 in
    let cluster : ℕ = g.claimant.cluster in
    let left : ℕ = slice_index now.left cluster - g.credit in
    let took : left + g.credit ≡ slice_index_or now.left cluster 0 =
    omega (arith, first_asked g gs now.left after.levels is.covers) in
    let done = after_grant g gs now.left (uncredited all 0 first.left) after.levels (spent_of all 0 before.levels)
    cluster g.claimant.place g.credit left 0 (spent g.credit (slice_index_or after.levels g.claimant.place none)) none
    is.covers is.left is.levels refl refl refl took refl in
    let lefts : next.left ≡ slice_set now.left cluster left = ap (λ a. a.left) takes in
    record {
      covers = rw (lefts, spends none) done.0;
      left = ap (λ os. uncredited gs 0 os) lefts ∙ done.1;
      levels = ap (λ bs. spent_of gs 0 bs) (spends none) ∙ done.2;
      outstanding = ap (λ a. a.outstanding) takes ∙ is.outstanding;
      tables = ap (λ a. a.tables) takes ∙ is.tables;
      ticks = ticks ∙ is.ticks;
      round = round ∙ is.round;
    }

pub crediting_end : (all : List PlacedClaim) (first now : Asking) (before after : Buckets) →
    IsCrediting [] all first now before after → AreCredited all first now before after
crediting_end all first now before after is = record {
  left = sym (left_none 0 now.left) ∙ is.left;
  levels = sym (spent_none 0 after.levels) ∙ is.levels;
  outstanding = is.outstanding;
  tables = is.tables;
  ticks = is.ticks;
  round = is.round;
}

-- Channels.

pub channel_may : (b : Built) (bs : List Built) (all gs : List PlacedClaim) (first now : Asking) (before after : Buckets) →
    gs ≡ b.grants → IsCrediting (all_grants (b ∷ bs)) all first now before after → Covers now.left after.levels gs
channel_may b bs all gs first now before after same is = channel_covered b bs gs now.left after.levels same is.covers

pub crediting_channel : (b : Built) (bs : List Built) (all gs : List PlacedClaim) (first now next : Asking)
    (before after last : Buckets) → gs ≡ b.grants → IsCrediting (all_grants (b ∷ bs)) all first now before after →
    AreCredited gs now next after last → IsCrediting (all_grants bs) all first next before last
crediting_channel b bs all gs first now next before after last same is done =
    let more = after_channel b bs gs now.left (uncredited all 0 first.left) after.levels (spent_of all 0 before.levels)
    next.left last.levels same is.covers is.left is.levels done.left done.levels in
    record {
      covers = more.0;
      left = more.1;
      levels = more.2;
      outstanding = done.outstanding ∙ is.outstanding;
      tables = done.tables ∙ is.tables;
      ticks = done.ticks ∙ is.ticks;
      round = done.round ∙ is.round;
    }
