use Rattle.std.proofs.Common.{◌≡◌, ℕ, ◌-◌, ◌%◌, ◌<◌, ◌≤◌, length, slice_index}
use Rattle.us_calendar.proofs.near_rounds.first_word.Given as goal

abbrev pub invariant-loop-word : goal.invariant-loop-word
invariant-loop-word l = record {
  behind : l.from ≤ l.word;
  same : l.word % 64 ≡ l.from % 64;
  none : (word : ℕ) → l.from ≤ word → word < l.word → word % 64 ≡ l.from % 64 → slice_index l.words word ≡ 0;
}

abbrev pub decreases-loop-word : goal.decreases-loop-word
decreases-loop-word l = length l.words - l.word
