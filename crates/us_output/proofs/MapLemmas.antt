-- The MAP of a lawful board is lawful.
use Rattle.std.proofs.Common.{◌≡◌, ℕ, zero, suc, ◌-◌, ◌*◌, ◌/◌, ◌^◌, ◌<◌, ◌≤◌, ◌==◌, List, [], ◌∷◌, length, map, take, filter, refl, ap, ◌∙◌, mul_assoc, div-le_self, pow_pos, arith}
use Rattle.std.specs.List.{AllByRecursion}
use Rattle.std.proofs.lemmas.Nat.{mul-le}
use Rattle.std.proofs.lemmas.List.{length-append}
use Rattle.us_slots.specs.Times.{minislot_ticks}
use Rattle.us_codec.specs.Bodies.{IsHead, IsMapBody}
use Rattle.us_flows.specs.declared.channels.Channel.{Channel}
use Rattle.us_flows.specs.Tables.{Tables, map_len, max_run_ticks}
use Rattle.us_flows.specs.Lawful.{IsChannel}
use Rattle.us_holes.specs.Boards.{Board}
use Rattle.us_holes.specs.Kept.{IsBoard}
use Rattle.us_holes.proofs.RunLemmas.{runs_follow, board_few}
use Rattle.us_channel.specs.Channels.{Built}
use Rattle.us_channel.specs.Maps.{head_of, elements_of, map_of}
use Rattle.us_output.specs.Outputs.{pendings_on, built_map}
use Rattle.us_output.specs.Leftovers.{IsBuiltFor}
use Rattle.us_output.proofs.PartLemmas.{all_append, all_filtered, all_mapped, all_taken}
use Rattle.us_channel.proofs.MapLemmas.{board_map, follow_starts}
use Rattle.us_output.proofs.OwnerLemmas.{AreOwned, elements_lawful}

-- Heads.

start_small : (round len ticks round_ticks : ℕ) → len * ticks ≡ round_ticks → 1 ≤ ticks → round * round_ticks ≤ 67108864 →
    round * len < 2 ^ 32
start_small round len ticks round_ticks whole some time =
    let same : round * len * ticks ≡ round * round_ticks = mul_assoc round len ticks ∙ ap (λ n. round * n) whole in
    let least : round * len * 1 ≤ round * len * ticks =
    mul-le (round * len) 1 (round * len) ticks (omega arith) some in
    omega (arith, same, least, time)

ack_small : (start lead ticks : ℕ) → start ≤ 67108864 → (start - lead) / ticks < 2 ^ 32
ack_small start lead ticks time = omega (arith, div-le_self (start - lead) ticks, time)

head_lawful : (t : Tables) (round : ℕ) (c : Channel) → IsChannel t c → round * t.round_ticks ≤ max_run_ticks →
    IsHead (head_of t round c)
unfolding head_of
head_lawful t round c is time =
    let ticks : ℕ = minislot_ticks c.bursts.time in
    record {
      channel = omega (arith, is.id.1);
      ucd_count = omega (arith, is.ucd_count);
      alloc_start = start_small round (map_len t c) ticks t.round_ticks is.whole (pow_pos c.bursts.time.minislot_log2) time;
      ack = ack_small (round * t.round_ticks) t.lead_ticks ticks time;
      four = omega (
        arith,
        length-append c.ranging_backoff c.data_backoff,
        is.ranging_backoff.two,
        is.data_backoff.two,
      );
      backoffs = all_append (λ backoff. backoff ≤ 15) c.ranging_backoff c.data_backoff is.ranging_backoff.each
          is.data_backoff.each;
    }

-- Pendings.

abbrev pub IsSmall : ℕ × ℕ → Type 0
IsSmall pending = pending.1 < 2 ^ 14

take_few : {A : Type 0} (n : ℕ) (xs : List A) → length (take n xs) ≤ n
take_few zero xs = omega arith
take_few (suc n) [] = omega arith
take_few (suc n) (x ∷ xs) = omega (arith, take_few n xs)

sids_few : (id : ℕ) (pendings : List (ℕ × ℕ)) → length (pendings_on id pendings) ≤ 38
unfolding pendings_on
sids_few id pendings = take_few 38 (map (λ pending. pending.1) (filter (λ pending. pending.0 == id) pendings))

sids_small : (id : ℕ) (pendings : List (ℕ × ℕ)) → AllByRecursion IsSmall pendings →
    AllByRecursion (λ sid. sid < 2 ^ 14) (pendings_on id pendings)
unfolding pendings_on
sids_small id pendings all =
    all_taken (λ sid. sid < 2 ^ 14) 38 (map (λ pending. pending.1) (filter (λ pending. pending.0 == id) pendings))
    (all_mapped (λ sid. sid < 2 ^ 14) (λ (pending : ℕ × ℕ). pending.1) (filter (λ pending. pending.0 == id) pendings)
    (all_filtered IsSmall (λ pending. pending.0 == id) pendings all))

-- MAPs.

-- a board of assignments, whose owners are lawful
abbrev pub IsMade : Board → Type 0
IsMade board = IsBoard board × AreOwned board.cells

-- its MAP
pub map_lawful : (t : Tables) (round : ℕ) (pending : List (ℕ × ℕ)) (b : Built) → IsBuiltFor t b → IsMade b.board →
    round * t.round_ticks ≤ max_run_ticks → AllByRecursion IsSmall pending → IsMapBody (built_map t round pending b)
unfolding map_of elements_of
map_lawful t round pending b built made time small =
    let c : Channel = b.channel in
    let most : length b.board.cells ≤ 4096 = made.0.most in
    let follow = runs_follow 0 (length b.board.cells) b.board.cells (omega arith) in
    let elements = elements_lawful c b.board.cells made.1 (follow_starts b.board.cells follow most) in
    board_map (head_of t round c) c b.board (map_len t c) (pendings_on c.id pending) (elements_of c b.board) _
    (head_lawful t round c built.channel time) made.0 built.len follow (board_few b.board made.0)
    (sids_few c.id pending) (sids_small c.id pending small) refl refl elements.0 elements.1
