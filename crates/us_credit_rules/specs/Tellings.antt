-- What lines at the end of a report tell of things, each by one line, by none or by several.
use Rattle.std.specs.Prelude.{◌≡◌, ℕ, ◌<◌, Bool, false, List, [], ◌∷◌, length, filter, slice_index_or, slice_set, Option, Some, None}
use Rattle.std.specs.Option.{is_some}
use Rattle.us_flows.specs.declared.channels.Channel.{Channel}
use Rattle.us_reports.specs.Breaches.{Any, At, IsFirstFailure}
use Rattle.us_credit_rules.specs.declared.told.Told.{Told}
use Rattle.us_credit_rules.specs.declared.told.Told.TheVariants.{Nothing, Once, Several}
use Rattle.us_credit_rules.specs.declared.told.Tellings.{Tellings}
use Rattle.us_credit_rules.specs.Ends.{end_place}
use Rattle.us_credit_rules.specs.Seats.{is_number}

abbrev pub nothing : {L : Type 0} → Told L
nothing = Nothing

-- what lines tell of one thing,
abbrev pub told_by : {L : Type 0} → List L → Told L
told_by [] = Nothing
told_by (line ∷ []) = Once line
told_by (line ∷ next ∷ more) = Several

-- and with one more
abbrev pub told_more : {L : Type 0} → L → Told L → Told L
told_more line Nothing = Once line
told_more line _ = Several

-- just one tells what it should
abbrev pub is_once : {L : Type 0} → (L → Bool) → Told L → Bool
is_once right (Once line) = right line
is_once right _ = false

-- of things by their numbers, with one line more
abbrev pub told_with : {L : Type 0} → Option ℕ → L → List (Told L) → List (Told L)
told_with None line told = told
told_with (Some thing) line told = slice_set told thing (told_more line (slice_index_or told thing Nothing))

-- What is kept of lines, of which each is of the flow with an id and tells of a thing with a number, if of any.
pub record AreTold {L : Type 0} (channels : List Channel) (rounds count : ℕ) (id : L → ℕ) (thing : L → Option ℕ)
    (lines : List L) (kept : Tellings L) : Type 0 where
  pub long : length kept.told.items ≡ count
  pub told : (n : ℕ) → n < count →
      slice_index_or kept.told.items n Nothing ≡ told_by (filter (λ line. is_number n (thing line)) lines)
  pub strange :
      IsFirstFailure channels (Any (λ line. At (end_place rounds (id line)) (is_some (thing line))) lines) kept.strange
