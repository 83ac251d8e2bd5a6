-- The entries of all channels, found by kind and id.
use Rattle.std.specs.Prelude.{◌≡◌, ℕ, ◌+◌, ◌*◌, ◌<◌, ◌==◌, ◌&&◌, Bool, true, false, List, All, length, slice_index_or, Option, Some, None}
use Rattle.us_flows.specs.Tables.{Tables}
use Rattle.us_flows.specs.Lawful.{AreTables}
use Rattle.us_calendar.specs.Entries.{Entry, rank_of}
use Rattle.us_output.specs.declared.rows.EntryWord.{EntryWord}
use Rattle.us_output.specs.declared.rows.EntryWord.TheVariants as words
use Rattle.us_lawful.specs.CalendarLines.{ChannelEntry, channel_entries, is_word}

-- all entries of accepted tables
pub record AreListed (t : Tables) (es : List ChannelEntry) : Type 0 where
  pub tables : AreTables t
  pub all : es ≡ channel_entries t

-- what entries are found by: their id, and of one id their kind. There are five kinds.
abbrev pub key_of : Entry → ℕ
key_of e = e.id * 5 + rank_of e.kind

-- of so many entries one with this key stands there; where there is no place, none has it
abbrev pub HasKey : ℕ → List ChannelEntry → ℕ → Option ℕ → Type 0
HasKey key es count None =
    (place : ℕ) (d : ChannelEntry) → place < count → (key_of (slice_index_or es place d).entry == key) ≡ false
HasKey key es count (Some place) =
    (place < count) × ((d : ChannelEntry) → (key_of (slice_index_or es place d).entry == key) ≡ true)

-- by keys, the places of so many entries
abbrev pub ArePlaces : List ChannelEntry → ℕ → List (Option ℕ) → Type 0
ArePlaces es count places = (key : ℕ) → HasKey key es count (slice_index_or places key None)

-- word and id are those of an entry
abbrev pub is_called : EntryWord → ℕ → ChannelEntry → Bool
is_called word id l = is_word l.entry.kind word && (id == l.entry.id)

-- the place of the one that they call; where there is none, they call none
abbrev pub IsPlace : EntryWord → ℕ → List ChannelEntry → Option ℕ → Type 0
IsPlace word id es None = All (λ l. is_called word id l ≡ false) es
IsPlace word id es (Some place) =
    (place < length es) × ((d : ChannelEntry) → is_called word id (slice_index_or es place d) ≡ true)

-- the rank of the kind that a word calls; a request has none
abbrev pub rank_called : EntryWord → Option ℕ
rank_called words.Unsolicited = Some 0
rank_called words.Activity = Some 1
rank_called words.RealTimePoll = Some 2
rank_called words.NonRealTimePoll = Some 3
rank_called words.Station = Some 4
rank_called words.Requested = None
