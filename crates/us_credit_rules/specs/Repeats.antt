-- Which line of a request isn't right.
use Rattle.std.specs.Prelude.{◌≡◌, ℕ, ◌+◌, ◌*◌, ◌≤◌, ◌==◌, nat_eq, nat_lt, ◌&&◌, not, Bool, false, if◌then◌else◌, List, length, find, count_by, slice_index_or, slice_set, Option, Some, None}
use Rattle.std.specs.List.{AllByRecursion, list_any}
use Rattle.std.specs.Option.{option_eq}
use Rattle.us_flows.specs.declared.channels.Channel.{Channel}
use Rattle.us_flows.specs.Tables.{channel_with}
use Rattle.us_flows.specs.Clusters.{Turn, has_sid}
use Rattle.us_output.specs.declared.rows.Grant.{Grant}
use Rattle.us_reports.specs.declared.place.Place.{Place}
use Rattle.us_lawful.specs.Credits.{has_cost, is_like}
use Rattle.us_reports.specs.Breaches.{Any, At}
use Rattle.us_credit_rules.specs.Ends.{unless}
use Rattle.us_credit_rules.specs.Seats.{names, word_in, word_of}

-- the word of a cluster and a channel as one number; none where no cluster is named, or where the channel is none of 8 bits
abbrev pub key_for : Option ℕ → ℕ → Option ℕ
key_for None channel = None
key_for (Some word) channel = if nat_lt channel 256 then Some (word * 256 + channel) else None

-- those of a line: lines with the same cluster and channel have the same
abbrev pub key_of : List Turn → Grant → Option ℕ
key_of turns g = key_for (word_of g.id g.i turns) g.channel

-- a line has the minislots and the IUC that a grant costs
abbrev pub is_cost : ℕ × ℕ → Grant → Bool
is_cost cost g = (g.slots == cost.0) && (g.iuc == cost.1)

-- a line is right for its channel and the cluster that it names, whatever other lines there are
abbrev pub is_right_on : Option Channel → Grant → Option Turn → Bool
is_right_on channel g None = false
is_right_on channel g (Some turn) =
    (g.k == 0) && (has_sid g.channel g.sid turn.cluster && (nat_lt 0 g.credit && has_cost turn.cluster g channel))

abbrev pub is_right_for : List Channel → Grant → Option Turn → Bool
is_right_for channels g found = is_right_on (channel_with channels g.channel) g found

abbrev pub is_right_line : List Channel → List Turn → Grant → Bool
is_right_line channels turns g = is_right_for channels g (find (names g.id g.i) turns)

-- a line that isn't right, or isn't the only one like it, fails at its place
abbrev pub line_place : Grant → Place
line_place g = record { round = g.round; channel = g.channel; third = g.id }

abbrev pub IsWrong : List Channel → List Turn → List Grant → Grant → Place → Type 0
IsWrong channels turns lines g =
    At (line_place g) (is_right_line channels turns g && (count_by (is_like g) lines == 1))

abbrev pub AreWrong : List Channel → List Turn → List Grant → Place → Type 0
AreWrong channels turns lines = Any (IsWrong channels turns lines) lines

-- Lines told one after another.

-- of each key, the last round in which a line was told
abbrev pub noted : List (Option ℕ) → Option ℕ → ℕ → List (Option ℕ)
noted last None round = last
noted last (Some key) round = slice_set last key (Some round)

-- whether that is this round
abbrev pub is_told : List (Option ℕ) → Option ℕ → ℕ → Bool
is_told last None round = false
is_told last (Some key) round = option_eq nat_eq (slice_index_or last key None) (Some round)

-- where a line fails by these, which names this cluster, if any
abbrev pub wrong_place : List Channel → List (Option ℕ) → Grant → Option Turn → Option Place
wrong_place channels last g found =
    unless (not (is_told last (key_for (word_in found) g.channel) g.round) && is_right_for channels g found) (line_place g)

-- so they say of a line, whose round is no earlier than this one, whether a line like it was told
pub record AreNoted (turns : List Turn) (lines : List Grant) (latest : ℕ) (last : List (Option ℕ)) : Type 0 where
  pub long : AllByRecursion (λ turn. turn.number * 256 + 256 ≤ length last) turns
  pub told : (g : Grant) (key : ℕ) → latest ≤ g.round → key_of turns g ≡ Some key →
      is_told last (Some key) g.round ≡ list_any (is_like g) lines
