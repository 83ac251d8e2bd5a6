-- The order of places.
use Rattle.std.specs.Prelude.{ℕ, ◌==◌, nat_lt, Bool, if◌then◌else◌, List, position, Option, Some, None}
use Rattle.us_flows.specs.declared.channels.Channel.{Channel}
use Rattle.us_reports.specs.declared.place.Place.{Place}

-- the place of a channel in the table, by its id
abbrev pub place_of : List Channel → ℕ → Option ℕ
place_of channels id = position (λ channel. channel.id == id) channels

-- 0, which stands for all channels, goes first, then the channels of the table in its order, then other ids by number
abbrev pub rank_among : ℕ → Option ℕ → ℕ × ℕ
rank_among id (Some place) = (1, place)
rank_among id None = (2, id)

abbrev pub rank_of : List Channel → ℕ → ℕ × ℕ
rank_of channels id = if id == 0 then (0, 0) else rank_among id (place_of channels id)

abbrev pub rank_goes_before : ℕ × ℕ → ℕ × ℕ → Bool
rank_goes_before a b = if a.0 == b.0 then nat_lt a.1 b.1 else nat_lt a.0 b.0

-- by round; in a round by channel; on a channel by the third number
abbrev pub goes_before : List Channel → Place → Place → Bool
goes_before channels a b =
    if a.round == b.round
    then (if a.channel == b.channel then nat_lt a.third b.third
    else rank_goes_before (rank_of channels a.channel) (rank_of channels b.channel))
    else nat_lt a.round b.round

-- of two places the one that goes before the other
abbrev pub earlier : List Channel → Option Place → Option Place → Option Place
earlier channels None b = b
earlier channels a None = a
earlier channels (Some a) (Some b) = if goes_before channels b a then Some b else Some a
