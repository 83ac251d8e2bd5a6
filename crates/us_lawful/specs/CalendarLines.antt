-- P4: each occurrence of a calendar's entry is granted in its window, or missed in the round in which that closes.
use Rattle.std.specs.Prelude.{ℕ, ◌+◌, ◌*◌, ◌/◌, ◌==◌, nat_le, nat_lt, ◌&&◌, ◌||◌, not, Bool, true, false, List, map, flat_map, filter, count_by}
use Rattle.std.specs.List.{list_all, list_any, range_with_len}
use Rattle.us_slots.specs.Times.{quarters_per_tick}
use Rattle.us_flows.specs.declared.channels.Channel.{Channel}
use Rattle.us_flows.specs.Tables.{Tables, map_len}
use Rattle.us_calendar.specs.declared.kinds.Kind.{Kind}
use Rattle.us_calendar.specs.declared.kinds.Kind.TheVariants as kinds
use Rattle.us_calendar.specs.Activity.{active_in}
use Rattle.us_calendar.specs.Entries.{Entry, entries, owner_of, slots_of}
use Rattle.us_calendar.specs.Occurrences.{comes, ideal, starts_within, window_end}
use Rattle.us_output.specs.declared.rows.EntryWord.{EntryWord}
use Rattle.us_output.specs.declared.rows.EntryWord.TheVariants as words
use Rattle.us_output.specs.declared.rows.Grant.{Grant}
use Rattle.us_output.specs.declared.rows.Row.{Row}
use Rattle.us_output.specs.declared.rows.Row.TheVariants as rows
use Rattle.us_reports.specs.declared.place.Place.{Place}
use Rattle.us_lawful.specs.Runs.{Run, Judged}
use Rattle.us_reports.specs.Rows.{is_requested}

-- What there is.

-- an entry of a calendar, and the channel that it is on
pub record ChannelEntry : Type 0 where
  pub channel : Channel
  pub entry : Entry

-- all of them
abbrev pub channel_entries : Tables → List ChannelEntry
channel_entries t = flat_map (λ c. map (λ e. record { channel = c; entry = e }) (entries t c)) t.channels

-- the quarter microseconds of a round
abbrev pub round_quarters : Tables → ℕ
round_quarters t = quarters_per_tick * t.round_ticks

-- the round in which the window of an occurrence closes: the one that holds its end
abbrev pub closing_round : Tables → Entry → ℕ → ℕ
closing_round t e n = window_end e n / round_quarters t

-- it closes in the run
abbrev pub closes : Run → Entry → ℕ → Bool
closes run e n = nat_lt (window_end e n) (run.rounds * round_quarters run.tables)

-- whether the flow of an entry is active in the round that holds a time: so it is but for what the run's marks say
abbrev pub speaks_in : Run → Entry → ℕ → Bool
speaks_in run e time = active_in e.silence run.cuts (time / round_quarters run.tables)

-- an occurrence is there: it is ideal before the run ends; and of an interval that begins while the flow is active all come, of
-- a silent one the first alone
abbrev pub is_there : Run → Entry → ℕ → Bool
is_there run e n = nat_lt (ideal e n) (run.rounds * round_quarters run.tables) && comes e (speaks_in run e) n

-- the occurrences that close in a round of the run. An interval lasts a quarter microsecond at least, so that all of them
-- are among these numbers.
unfoldable pub closing_in : Run → ℕ → Entry → List ℕ
closing_in run round e =
    filter (λ n. is_there run e n && (closes run e n && (closing_round run.tables e n == round)))
    (range_with_len 0 (run.rounds * round_quarters run.tables * e.grants))

-- Names.

-- the word of an entry of this kind
abbrev pub is_word : Kind → EntryWord → Bool
is_word kinds.Unsolicited words.Unsolicited = true
is_word kinds.Activity words.Activity = true
is_word kinds.RealTimePoll words.RealTimePoll = true
is_word kinds.NonRealTimePoll words.NonRealTimePoll = true
is_word kinds.Station words.Station = true
is_word _ _ = false

-- word and id are those of an entry, and interval and place are those of its occurrence `n`
abbrev pub is_named : Entry → ℕ → EntryWord → ℕ → ℕ → ℕ → Bool
is_named e n word id i k =
    is_word e.kind word && ((id == e.id) && (nat_lt k e.grants && (i * e.grants + k == n)))

-- a line names occurrence `n` of an entry, whatever round and channel it tells
abbrev pub names : Entry → ℕ → Row → Bool
names e n (rows.Granted g) = is_named e n g.entry g.id g.i g.k
names e n (rows.Missed m) = is_named e n m.entry m.id m.i m.k
names e n _ = false

-- and which one that is
abbrev pub number_of : Entry → Row → ℕ
number_of e (rows.Granted g) = g.i * e.grants + g.k
number_of e (rows.Missed m) = m.i * e.grants + m.k
number_of e _ = 0

-- how many lines name it
abbrev pub times : Entry → ℕ → List Row → ℕ
times e n lines = count_by (names e n) lines

-- Lines.

-- a grant of an occurrence has the SID, the IUC and the minislots of the entry, as a grant or as a poll, and credits nothing
abbrev pub is_grant_of : Entry → Bool → Grant → Bool
is_grant_of e active g =
    (g.sid == (owner_of e active).sid)
    && ((g.iuc == (owner_of e active).iuc) && ((g.slots == slots_of e active) && (g.credit == 0)))

-- a line is right for an occurrence: it tells the entry's channel; a grant starts in its window, and is what the entry has
-- then; a missed one closes in the run, in the round that is told
abbrev pub is_right_line : Run → ChannelEntry → ℕ → Row → Bool
is_right_line run l n (rows.Granted g) =
    (g.channel == l.channel.id)
    && (starts_within l.channel.bursts.time l.entry n (g.round * map_len run.tables l.channel + g.start)
    && is_grant_of l.entry (speaks_in run l.entry (ideal l.entry n)) g)
is_right_line run l n (rows.Missed m) =
    (m.channel == l.channel.id) && (closes run l.entry n && (m.round == closing_round run.tables l.entry n))
is_right_line run l n _ = false

-- it names an occurrence of this entry that is there and is right for it, and no other line names that while it is open
abbrev pub tells_one_of : Run → List Row → Row → ChannelEntry → Bool
tells_one_of run lines row l =
    let n : ℕ = number_of l.entry row in
    names l.entry n row && (is_there run l.entry n
    && (is_right_line run l n row && (closes run l.entry n || nat_le (times l.entry n lines) 1)))

-- a calendar's line with this round, channel and id
abbrev pub is_calendar_line_at : Place → Row → Bool
is_calendar_line_at p (rows.Granted g) =
    not (is_requested g.entry) && ((g.round == p.round) && ((g.channel == p.channel) && (g.id == p.third)))
is_calendar_line_at p (rows.Missed m) = (m.round == p.round) && ((m.channel == p.channel) && (m.id == p.third))
is_calendar_line_at p _ = false

-- every line there marks an occurrence
abbrev pub told_lines_hold : Run → Judged → Place → Bool
told_lines_hold run judged p =
    list_all (λ row. not (is_calendar_line_at p row)
    || list_any (tells_one_of run judged.lines row) (channel_entries run.tables)) judged.lines

-- an entry of this channel with this id
abbrev pub is_entry_at : Place → ChannelEntry → Bool
is_entry_at p l = (l.channel.id == p.channel) && (l.entry.id == p.third)

-- every occurrence that closes there is named by exactly one line
abbrev pub closings_hold : Run → Judged → Place → Bool
closings_hold run judged p =
    list_all (λ l. not (is_entry_at p l)
    || list_all (λ n. times l.entry n judged.lines == 1) (closing_in run p.round l.entry)) (channel_entries run.tables)

-- so it is at the entries of this id, on this channel in this round
abbrev pub calendar_lines_hold : Run → Judged → Place → Bool
calendar_lines_hold run judged p = told_lines_hold run judged p && closings_hold run judged p
