-- Small inputs, computed by the definitions alone.
use Rattle.std.specs.Prelude.{◌≡◌, ◌*◌, List, [], ◌∷◌, None, Some, refl}
use Rattle.us_bucket.specs.Levels.{Level, full, refilled, spent, bytes_in, reserve_in, units_in}
use Rattle.us_bucket.specs.RoundBuckets.{Kept, full_at_first, after_rounds, level_in, brought_to, less}
use Rattle.us_bucket.specs.Spans.{credits_of, credited}
use Rattle.us_bucket.specs.Laws.{level_after}
use Rattle.us_bucket.specs.declared.events.Event.{Event}
use Rattle.us_bucket.specs.declared.events.Event.TheVariants.{NextRound, Credit}

-- 1.28 Mbit/s, and bursts of at most 1,522 bytes
abbrev pub first : Level
first = full 1280000 1522

full_bucket : bytes_in first ≡ Some 1522
unfolding bytes_in
full_bucket = refl

-- of which all is granted in round 0
empty_bucket : bytes_in (spent 1522 first) ≡ Some 0
unfolding bytes_in spent
empty_bucket = refl

-- a round of 320 ticks is 2 ms, and brings 320 bytes
second_round : bytes_in (refilled 320 (spent 1522 first)) ≡ Some 320
unfolding bytes_in spent refilled
second_round = refl

-- rounds in which all is granted: 1,522, then 320 and 320
abbrev pub greedy : List Event
greedy = Credit 1522 ∷ NextRound ∷ Credit 320 ∷ NextRound ∷ Credit 320 ∷ []

all_granted : bytes_in (level_after 320 greedy first) ≡ Some 0
unfolding bytes_in spent refilled
all_granted = refl

by_round : credits_of greedy ≡ 1522 ∷ 320 ∷ 320 ∷ []
by_round = refl

last_two_rounds : credited (credits_of greedy) 1 2 ≡ 640
last_two_rounds = refl

-- a refill stops at the cap: 1,500 bytes are left, and 320 more are cut at 1,522
cut_at_cap : units_in (refilled 320 (spent 22 first)) ≡ Some (1522 * 1280000)
unfolding units_in spent refilled
cut_at_cap = refl

-- at 1 bit/s a tick brings one unit, and a byte is whole after 1,280,000 of them
part_of_a_byte : bytes_in (refilled 1279999 (spent 1522 (full 1 1522))) ≡ Some 0
unfolding bytes_in spent refilled
part_of_a_byte = refl

whole_byte : bytes_in (refilled 1280000 (spent 1522 (full 1 1522))) ≡ Some 1
unfolding bytes_in spent refilled
whole_byte = refl

-- a rate of 0 is no limit, whatever is granted
no_limit : bytes_in (refilled 320 (spent 9999 (full 0 1522))) ≡ None
unfolding bytes_in spent refilled
no_limit = refl

-- all is granted in round 0 and nothing until round 4, which has the bytes of four rounds
abbrev pub drained : Kept
drained = less 1522 (full_at_first 1280000 1522)

fourth_round : bytes_in (level_in 320 4 drained) ≡ Some 1280
unfolding bytes_in spent refilled after_rounds
fourth_round = refl

-- the next one fills the bucket, whether it was asked for in between or not
filled_at_once : bytes_in (level_in 320 5 drained) ≡ Some 1522
unfolding bytes_in spent refilled after_rounds
filled_at_once = refl

filled_in_two_steps : bytes_in (level_in 320 5 (brought_to 320 2 drained)) ≡ Some 1522
unfolding bytes_in spent refilled after_rounds
filled_in_two_steps = refl

-- the reserve of a minimum rate of 1.28 Mbit/s: full in round 0, and 320 bytes a round after all of it was planned first
full_reserve : reserve_in first ≡ 1522
unfolding bytes_in reserve_in
full_reserve = refl

next_reserve : reserve_in (refilled 320 (spent 1522 first)) ≡ 320
unfolding bytes_in spent refilled reserve_in
next_reserve = refl

-- without a minimum rate nothing is reserved, however large the burst is
no_reserve : reserve_in (refilled 320 (full 0 1522)) ≡ 0
unfolding bytes_in refilled reserve_in
no_reserve = refl
