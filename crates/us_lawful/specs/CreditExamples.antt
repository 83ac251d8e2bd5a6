-- The rules of credits and rates at small inputs: the stored run, and the same with one thing changed.
use Rattle.std.specs.Prelude.{◌≡◌, ℕ, true, false, [], ◌∷◌, refl}
use Rattle.us_flows.specs.Tables.{FlowTable}
use Rattle.us_output.specs.declared.rows.Grant.{Grant}
use Rattle.us_output.specs.declared.rows.Row.{Row}
use Rattle.us_output.specs.declared.rows.Row.TheVariants as rows
use Rattle.us_round.specs.RoundExamples.{base, base_channel, base_flow}
use Rattle.us_lawful.specs.Runs.{Run, Judged}
use Rattle.us_lawful.specs.Rates.{rates_hold}
use Rattle.us_lawful.specs.Credits.{credits_hold}
use Rattle.us_lawful.specs.Examples.{at, steps, stored, stored_grant, told, with_grants}

-- Lines and sums.

lawful_credits : (credits_hold stored told (at 1 1 1) ≡ true) × (credits_hold stored told (at 1 0 1) ≡ true)
unfolding steps
lawful_credits = (refl, refl)

-- a grant that credits nothing, though it costs what the header does, and one whose third number isn't 0
nothing_credited :
    let judged : Judged = with_grants (rows.Granted (record stored_grant { credit = 0; slots = 1; iuc = 9 }) ∷ []) in
    (credits_hold stored judged (at 1 1 1) ≡ false) × (credits_hold stored judged (at 1 0 1) ≡ true)
unfolding steps
nothing_credited = (refl, refl)

third_number :
    let judged : Judged = with_grants (rows.Granted (record stored_grant { k = 1 }) ∷ []) in
    (credits_hold stored judged (at 1 1 1) ≡ false) × (credits_hold stored judged (at 1 0 1) ≡ true)
unfolding steps
third_number = (refl, refl)

-- 1,004 bytes take 33 minislots, and nobody asked for 4 of them
more_than_asked :
    let judged : Judged = with_grants (rows.Granted (record stored_grant { credit = 1004; slots = 33 }) ∷ []) in
    (credits_hold stored judged (at 1 0 1) ≡ false) × (credits_hold stored judged (at 1 1 1) ≡ true)
unfolding steps
more_than_asked = (refl, refl)

-- a flow with a rate of 10 Mbit/s and bursts of 999 bytes
unfoldable pub limited : Run
limited = record stored { tables = record base { flows = record base_flow { rate = 10000000; burst = 999 } ∷ [] } }

above_the_bucket : (rates_hold limited told (at 1 0 1) ≡ false) × (rates_hold limited told (at 0 0 1) ≡ true)
unfolding steps limited
above_the_bucket = (refl, refl)

-- a grant in a round before which nothing was asked for
early_credit :
    let judged : Judged = with_grants (rows.Granted (record stored_grant { round = 0 }) ∷ []) in
    (credits_hold stored judged (at 0 0 1) ≡ false) × (credits_hold stored judged (at 1 0 1) ≡ true)
unfolding steps
early_credit = (refl, refl)

-- of a flow and of a cluster that aren't there
unknown_flow :
    let judged : Judged = with_grants (rows.Granted (record stored_grant { id = 2 }) ∷ []) in
    (credits_hold stored judged (at 1 1 2) ≡ false) × (credits_hold stored judged (at 1 1 1) ≡ true)
unfolding steps
unknown_flow = (refl, refl)

unknown_cluster :
    let judged : Judged = with_grants (rows.Granted (record stored_grant { i = 1 }) ∷ []) in
    (credits_hold stored judged (at 1 1 1) ≡ false) × (credits_hold stored judged (at 1 0 1) ≡ true)
unfolding steps
unknown_cluster = (refl, refl)

-- with another SID, and at another cost
other_sid :
    let judged : Judged = with_grants (rows.Granted (record stored_grant { sid = 292 }) ∷ []) in
    (credits_hold stored judged (at 1 1 1) ≡ false) × (credits_hold stored judged (at 1 0 1) ≡ true)
unfolding steps
other_sid = (refl, refl)

other_cost :
    let longer : Judged = with_grants (rows.Granted (record stored_grant { slots = 33 }) ∷ []) in
    let short : Judged = with_grants (rows.Granted (record stored_grant { iuc = 9 }) ∷ []) in
    (credits_hold stored longer (at 1 1 1) ≡ false) × (credits_hold stored longer (at 1 0 1) ≡ true)
    × (credits_hold stored short (at 1 1 1) ≡ false) × (credits_hold stored short (at 1 0 1) ≡ true)
unfolding steps
other_cost = (refl, refl, refl, refl)

-- two grants of a cluster on a channel in a round
two_grants :
    let half : Grant = record stored_grant { credit = 500; slots = 17 } in
    let judged : Judged = with_grants (rows.Granted half ∷ rows.Granted (record half { start = 17 }) ∷ []) in
    (credits_hold stored judged (at 1 1 1) ≡ false) × (credits_hold stored judged (at 1 0 1) ≡ true)
unfolding steps
two_grants = (refl, refl)

-- a grant on each of two channels, by the SIDs there
bonded : Run
bonded = record stored {
  tables = record base {
    channels = base_channel ∷ record base_channel { id = 2 } ∷ [];
    flows = record base_flow { channels = 1 ∷ 2 ∷ []; clusters = (291 ∷ 292 ∷ []) ∷ [] } ∷ [];
  };
}

on_two_channels :
    let half : Grant = record stored_grant { credit = 500; slots = 17 } in
    let told : Judged = with_grants (rows.Granted half ∷ rows.Granted (record half { channel = 2; sid = 292 }) ∷ []) in
    let one_sid : Judged = with_grants (rows.Granted half ∷ rows.Granted (record half { channel = 2 }) ∷ []) in
    (credits_hold bonded told (at 1 1 1) ≡ true) × (credits_hold bonded told (at 1 2 1) ≡ true)
    × (credits_hold bonded told (at 1 0 1) ≡ true) × (credits_hold bonded one_sid (at 1 1 1) ≡ true)
    × (credits_hold bonded one_sid (at 1 2 1) ≡ false)
unfolding steps bonded
on_two_channels = (refl, refl, refl, refl, refl)

-- a grant in each of two rounds: what is credited once must be asked for again
in_two_rounds :
    let once : Run = record stored { rounds = 3; cuts = (0 ∷ []) ∷ (1000 ∷ []) ∷ (0 ∷ []) ∷ [] } in
    let twice : Run = record stored { rounds = 3; cuts = (0 ∷ []) ∷ (1000 ∷ []) ∷ (1000 ∷ []) ∷ [] } in
    let judged : Judged =
    with_grants (rows.Granted stored_grant ∷ rows.Granted (record stored_grant { round = 2 }) ∷ []) in
    (credits_hold twice judged (at 2 0 1) ≡ true) × (credits_hold twice judged (at 2 1 1) ≡ true)
    × (credits_hold once judged (at 2 0 1) ≡ false) × (credits_hold once judged (at 1 0 1) ≡ true)
unfolding steps
in_two_rounds = (refl, refl, refl, refl)

-- Rates over more than a round: 1,280,000 bit/s are 320 bytes a round.
abbrev slow_flow : FlowTable
slow_flow = record base_flow { rate = 1280000; burst = 1522 }

unfoldable pub slow : Run
slow = record stored {
  tables = record base { flows = slow_flow ∷ [] };
  rounds = 3;
  cuts = (0 ∷ []) ∷ (2000 ∷ []) ∷ (0 ∷ []) ∷ [];
}

abbrev pub with_credits : ℕ → ℕ → Judged
with_credits first second = with_grants (rows.Granted (record stored_grant { credit = first })
    ∷ rows.Granted (record stored_grant { round = 2; credit = second }) ∷ [])

over_two_rounds :
    (rates_hold slow (with_credits 1522 320) (at 2 0 1) ≡ true)
    × (rates_hold slow (with_credits 1522 321) (at 2 0 1) ≡ false)
    × (rates_hold slow (with_credits 1522 321) (at 1 0 1) ≡ true)
unfolding steps slow
over_two_rounds = (refl, refl, refl)

-- each flow has a rate of its own
two_rates :
    let run : Run = record slow { tables = record base { flows = slow_flow ∷ record slow_flow { id = 2 } ∷ [] } } in
    let first : Row = rows.Granted (record stored_grant { credit = 1522 }) in
    let told : Judged = with_grants (first ∷ rows.Granted (record stored_grant { id = 2; credit = 1522 }) ∷ []) in
    let more : Judged = with_grants (first ∷ rows.Granted (record stored_grant { id = 2; credit = 1523 }) ∷ []) in
    (rates_hold run told (at 1 0 1) ≡ true) × (rates_hold run told (at 1 0 2) ≡ true)
    × (rates_hold run more (at 1 0 1) ≡ true) × (rates_hold run more (at 1 0 2) ≡ false)
unfolding steps slow
two_rates = (refl, refl, refl, refl)
