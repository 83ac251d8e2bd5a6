-- Division (ours): how some bytes are divided over channels by their weights.
use Rattle.std.specs.Prelude.{ℕ, ◌+◌, ◌-◌, ◌*◌, ◌/◌, ◌==◌, nat_lt, nat_le, ◌||◌, not, if◌then◌else◌, List, [], ◌∷◌, map, zip, sum}

-- a channel gets bytes in proportion to its weight, rounded down
abbrev pub floors : ℕ → List ℕ → List ℕ
floors bytes ws = map (λ w. bytes * w / sum ws) ws

-- and the bytes that are left over go, one each, to the first channels whose share is below the weight
abbrev pub topped_up : ℕ → List (ℕ × ℕ) → List ℕ
topped_up left [] = []
topped_up left (share ∷ shares) =
    if (left == 0) || not (nat_lt share.0 share.1) then share.0 ∷ topped_up left shares
    else (share.0 + 1) ∷ topped_up (left - 1) shares

-- bytes divided over weights: all weights where these are no more than the bytes
unfoldable pub divided : ℕ → List ℕ → List ℕ
divided bytes ws =
    if nat_le (sum ws) bytes then ws
    else topped_up (bytes - sum (floors bytes ws)) (zip (floors bytes ws) ws)
