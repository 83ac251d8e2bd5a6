-- Boards: which assignment holds each minislot of a MAP (ours).
use Rattle.std.specs.Prelude.{◌≡◌, ◌≢◌, ℕ, ◌^◌, zero, suc, ◌+◌, ◌-◌, ◌<◌, ◌≤◌, nat_le, nat_lt, ◌==◌, Bool, true, false, ◌&&◌, if◌then◌else◌, List, [], ◌∷◌, ◌++◌, length, take, drop, replicate, count_by, Option, Some, None, is_none, is_some, option_map}
use Rattle.std.specs.List.{list_all}
use Rattle.us_slots.specs.UsageCodes as codes

-- to whom minislots are assigned, and what for
pub record Owner : Type 0 where
  pub sid : ℕ
  pub iuc : ℕ

-- a SID of 14 bits, and an IUC that ends no list
pub record IsOwner (o : Owner) : Type 0 where
  pub sid : o.sid < 2 ^ 14
  pub usage : codes.IsUsageCode o.iuc
  pub other : o.iuc ≢ codes.null

-- the most assignments of a MAP, and the most minislots: it has at most as many ticks
abbrev pub max_assignments : ℕ
max_assignments = 100

abbrev pub max_minislots : ℕ
max_minislots = 4096

-- the assignment that holds a minislot, which is told by where it starts, and whose it is
pub record Holder : Type 0 where
  pub start : ℕ
  pub owner : Owner

-- the minislots of a MAP in order, each idle (`None`) or held by one assignment, and how many assignments stand
pub record Board : Type 0 where
  pub cells : List (Option Holder)
  pub standing : ℕ

-- all minislots are idle
abbrev pub empty_board : ℕ → Board
empty_board len = record { cells = replicate len None; standing = 0 }

-- `slots` minislots from `start` on are idle, and inside
abbrev pub is_idle_at : List (Option Holder) → ℕ → ℕ → Bool
is_idle_at cells slots start = nat_le (start + slots) (length cells) && list_all is_none (take slots (drop start cells))

-- there are as many assignments as there may be
abbrev pub is_full : Board → Bool
is_full board = nat_le max_assignments board.standing

-- an assignment of `slots` minislots fits at `start`: they are idle and inside, and it may be one more
abbrev pub fits : Board → ℕ → ℕ → Bool
fits board slots start = nat_lt board.standing max_assignments && is_idle_at board.cells slots start

-- one more assignment
abbrev pub assign : Board → ℕ → ℕ → Owner → Board
assign board start slots owner =
    record {
      cells = take start board.cells ++ replicate slots (Some (record { start = start; owner = owner }))
          ++ drop (start + slots) board.cells;
      standing = board.standing + 1;
    }

-- so many minislots for an owner; none are no assignment
abbrev pub assign_some : Board → ℕ → ℕ → Owner → Board
assign_some board start slots owner = if slots == 0 then board else assign board start slots owner

-- `len` minislots, of which one owner has the first `head`, and one the last `tail`
abbrev pub ends_held : ℕ → ℕ → Owner → ℕ → Owner → Board
ends_held len head first tail last =
    assign_some (assign_some (empty_board len) 0 head first) (len - tail) tail last

abbrev pub free_count : List (Option Holder) → ℕ
free_count cells = count_by is_none cells

-- the first of the `count` numbers from `from` on that passes
unfoldable pub first_of : (ℕ → Bool) → ℕ → ℕ → Option ℕ
first_of passes from zero = None
first_of passes from (suc count) = if passes from then Some from else first_of passes (from + 1) count

-- the least start from `from` to `to` where `slots` minislots fit
abbrev pub least_fit : Board → ℕ → ℕ → ℕ → Option ℕ
least_fit board from to slots = first_of (fits board slots) from (to + 1 - from)

-- the least number from `from` to `to` that passes, told as a property
pub record IsLeastWithin (passes : ℕ → Bool) (from to least : ℕ) : Type 0 where
  pub passing : passes least ≡ true
  pub above : from ≤ least
  pub below : least ≤ to
  pub first : (number : ℕ) → from ≤ number → number < least → passes number ≡ false

-- `slots` idle minislots from `start` on: no idle run is longer, and none as long starts earlier
pub record IsFirstLongest (cells : List (Option Holder)) (start slots : ℕ) : Type 0 where
  pub some : 0 < slots
  pub idle : is_idle_at cells slots start ≡ true
  pub longest : (at many : ℕ) → is_idle_at cells many at ≡ true → 0 < many → many ≤ slots
  pub first : (at : ℕ) → is_idle_at cells slots at ≡ true → start ≤ at

-- the first of the longest idle runs of at most `limit` minislots: its start and its minislots
unfoldable pub longest_up_to : List (Option Holder) → ℕ → Option (ℕ × ℕ)
longest_up_to cells zero = None
longest_up_to cells (suc limit) =
    let found : Option ℕ = first_of (is_idle_at cells (suc limit)) 0 (length cells) in
    if is_some found then option_map (λ start. (start, suc limit)) found else longest_up_to cells limit

-- the first longest idle run as a function, for definitions above this one
abbrev pub longest_idle : List (Option Holder) → Option (ℕ × ℕ)
longest_idle cells = longest_up_to cells (length cells)

-- Assignments, as they are told outside a board.

pub record Assignment : Type 0 where
  pub start : ℕ
  pub slots : ℕ
  pub owner : Owner

-- these assignments, one after another
unfoldable pub assign_all : Board → List Assignment → Board
assign_all board [] = board
assign_all board (i ∷ more) = assign_all (assign board i.start i.slots i.owner) more

-- each fits where it is placed, after those before it
unfoldable pub AllFit : Board → List Assignment → Type 0
AllFit board [] = Unit {0}
AllFit board (i ∷ more) = (fits board i.slots i.start ≡ true) × AllFit (assign board i.start i.slots i.owner) more
