-- Records, joined of their parts.
use Rattle.std.proofs.Common.{◌≡◌, ℕ, ◌+◌, ◌*◌, ◌≤◌, List, [], ◌∷◌, ◌++◌, length, map, flat_map, refl, ap, ap₂, sym, ◌∙◌, append_assoc, arith}
use Rattle.std.specs.Int.{to_be_bytes, w16, w32}
use Rattle.std.proofs.lemmas.List.{length-append, length-map}
use Rattle.std.proofs.lemmas.Grind.{flat_map-append}
use Rattle.us_codec.specs.declared.heads.Head.{Head}
use Rattle.us_codec.specs.Elements.{MapElement, word_of, null_at}
use Rattle.us_codec.specs.Bodies.{MapBody, body_of, element_bytes, front, spelling}
use Rattle.us_codec.specs.MapsFiles.{Piece, record_bytes, maps_file}
use Rattle.us_codec.proofs.PutLemmas.{length-spelling}
use Rattle.us_flows.specs.declared.channels.Channel.{Channel}
use Rattle.us_flows.specs.Tables.{Tables, map_len}
use Rattle.us_holes.specs.Runs.{Run, runs_of}
use Rattle.us_holes.specs.Boards.{max_assignments}
use Rattle.us_holes.specs.Kept.{IsBoard}
use Rattle.us_channel.specs.Maps.{head_of, elements_of, map_of, pending_element, run_element}
use Rattle.us_channel.specs.Channels.{Built}
use Rattle.us_output.specs.Outputs.{IsWithinLimits, built_map, out_of, pendings_on}
use Rattle.us_output.specs.Leftovers.{told}
use Rattle.us_output.specs.Files.{records}

-- the record of a channel's MAP
abbrev pub piece_on : Tables → ℕ → List (ℕ × ℕ) → Built → Piece
piece_on t round pending built = record { round = round; body = spelling (built_map t round pending built) }

-- the bytes of what is made into elements
bytes_of : {A : Type 0} (element : A → MapElement) (xs : List A) →
    element_bytes (map element xs) ≡ flat_map (λ x. to_be_bytes w32 (word_of (element x))) xs
unfolding element_bytes
bytes_of element [] = refl
bytes_of element (x ∷ xs) = ap (λ more. to_be_bytes w32 (word_of (element x)) ++ more) (bytes_of element xs)

-- the elements of a body, in the parts that are written
body_bytes : (before after : List MapElement) (null : MapElement) →
    element_bytes (before ++ null ∷ after) ≡ (element_bytes before ++ to_be_bytes w32 (word_of null)) ++ element_bytes after
unfolding element_bytes
body_bytes before after null =
    flat_map-append (λ e. to_be_bytes w32 (word_of e)) before (null ∷ after) ∙
    sym (append_assoc (element_bytes before) (to_be_bytes w32 (word_of null)) (element_bytes after))

joined : (text a b f x n y : List ℕ) →
    (((((text ++ a) ++ b) ++ f) ++ x) ++ n) ++ y ≡ text ++ ((a ++ b) ++ (f ++ ((x ++ n) ++ y)))
joined text a b f x n y =
    rw (append_assoc text a b, append_assoc text (a ++ b) f, append_assoc text ((a ++ b) ++ f) x, append_assoc text (((a ++ b) ++ f) ++ x) n, append_assoc text ((((a ++ b) ++ f) ++ x) ++ n) y, append_assoc (a ++ b) f x, append_assoc (a ++ b) (f ++ x) n, append_assoc (a ++ b) ((f ++ x) ++ n) y, append_assoc f x n, append_assoc f (x ++ n) y) refl

-- the parts of a record, one behind another
pub record_joined : (t : Tables) (round : ℕ) (pending : List (ℕ × ℕ)) (b : Built) (h : Head) (len count : ℕ)
    (runs : List Run) (sids text one two three new : List ℕ) →
    h ≡ head_of t round b.channel → length h.backoffs ≡ 4 → len ≡ map_len t b.channel → runs ≡ runs_of b.board.cells →
    sids ≡ pendings_on b.channel.id pending → count ≡ length runs + 1 + length sids →
    one ≡ text ++ to_be_bytes w32 round ++ to_be_bytes w16 (16 + 4 * count) ++ front h count →
    two ≡ one ++ flat_map (λ run. to_be_bytes w32 (word_of (run_element b.channel run))) runs →
    three ≡ two ++ to_be_bytes w32 (word_of (null_at len)) →
    new ≡ three ++ flat_map (λ sid. to_be_bytes w32 (word_of (pending_element len sid))) sids →
    new ≡ text ++ record_bytes (piece_on t round pending b)
unfolding record_bytes spelling map_of elements_of
record_joined t round pending b h len count runs sids text one two three new is-head four is-len is-runs is-sids is-count
    first second third last =
    let c : Channel = b.channel in
    let before : List MapElement = map (run_element c) runs in
    let after : List MapElement = map (pending_element len) sids in
    let m : MapBody = body_of h before len after in
    let same : m ≡ built_map t round pending b = rw (is-head, is-len, is-runs, is-sids) refl in
    let many : length m.elements ≡ count =
    omega (arith, length-append before (null_at len ∷ after), length-map runs (run_element c), length-map sids (pending_element len), is-count) in
    let size : length (spelling m) ≡ 16 + 4 * count = omega (arith, length-spelling m four, many) in
    let bytes : spelling m ≡ front h count ++ ((element_bytes before ++ to_be_bytes w32 (word_of (null_at len))) ++ element_bytes after) =
    ap₂ (λ n bs. front h n ++ bs) many (body_bytes before after (null_at len)) in
    let written : new ≡ text ++ record_bytes (record { round = round; body = spelling m }) =
    rw (last, third, second, first, sym (bytes_of (run_element c) runs), sym (bytes_of (pending_element len) sids))
    (joined text (to_be_bytes w32 round) (to_be_bytes w16 (16 + 4 * count)) (front h count) (element_bytes before)
    (to_be_bytes w32 (word_of (null_at len))) (element_bytes after)) ∙
    ap₂ (λ n bs. text ++ ((to_be_bytes w32 round ++ to_be_bytes w16 n) ++ bs)) (sym size) (sym bytes) in
    written ∙ ap (λ body. text ++ record_bytes (record { round = round; body = spelling body })) same

-- a board's MAP keeps the limits
pub within : (t : Tables) (round : ℕ) (pending : List (ℕ × ℕ)) (b : Built) (sids : List ℕ) → IsBoard b.board →
    length (runs_of b.board.cells) ≤ 2 * max_assignments + 1 → length (head_of t round b.channel).backoffs ≡ 4 →
    sids ≡ pendings_on b.channel.id pending → length sids ≤ 38 → IsWithinLimits t round pending b
unfolding map_of elements_of
within t round pending b sids is few four is-sids few-sids =
    let c : Channel = b.channel in
    let len : ℕ = map_len t c in
    let before : List MapElement = map (run_element c) (runs_of b.board.cells) in
    let after : List MapElement = map (pending_element len) (pendings_on c.id pending) in
    let listed : length (pendings_on c.id pending) ≤ 38 = rw (sym is-sids) few-sids in
    let elements : length (built_map t round pending b).elements ≤ 240 =
    omega (arith, length-append before (null_at len ∷ after), length-map (runs_of b.board.cells) (run_element c), length-map (pendings_on c.id pending) (pending_element len), few, is.standing, listed) in
    record {
      assignments = is.standing;
      pendings = listed;
      elements = elements;
      bytes = omega (arith, length-spelling (built_map t round pending b) four, elements);
    }

-- The records of all channels.
each_record : (t : Tables) (round : ℕ) (pending : List (ℕ × ℕ)) (channels : List Built) →
    flat_map (λ part. record_bytes (piece_on t round pending part)) channels ≡
    flat_map record_bytes (map (λ body. record { round = round; body = spelling body }) (map (built_map t round pending) channels))
each_record t round pending [] = refl
each_record t round pending (b ∷ channels) =
    ap (λ more. record_bytes (piece_on t round pending b) ++ more) (each_record t round pending channels)

pub records_are : (t : Tables) (round : ℕ) (pending : List (ℕ × ℕ)) (channels : List Built) →
    flat_map (λ part. record_bytes (piece_on t round pending part)) channels ≡ records (out_of t (told round channels pending))
unfolding records maps_file out_of
records_are t round pending channels = each_record t round pending channels
