-- The cuts and the counts of a trace are small, and so what its schedule writes is lawful.
use Rattle.std.proofs.Common.{◌≡◌, ℕ, zero, suc, ◌+◌, ◌≤◌, ◌==◌, true, List, [], ◌∷◌, length, map, ap, subst, ◌∙◌, inl, inr, arith}
use Rattle.std.specs.Prelude.{filter, slice_index, sum_by}
use Rattle.std.specs.List.{range_with_len}
use Rattle.std.proofs.lemmas.Bool.{cases_Bool, cases_lt}
use Rattle.std.proofs.lemmas.List.{get_or_past}
use Rattle.std.proofs.lemmas.List.FromFn.{get_or-map-range_with_len, length-map-range_with_len}
use Rattle.std.proofs.lemmas.List.Sums.{count_by-le-length, sum_by-cons, sum_by-le-sum_by}
use Rattle.us_flows.specs.Tables.{Tables, rounds_fit}
use Rattle.us_flows.specs.Clusters.{words_of}
use Rattle.us_flows.specs.Lawful.{AreTables}
use Rattle.us_requests.specs.declared.asks.Ask.{Ask}
use Rattle.us_requests.specs.declared.asks.Counts.{Counts}
use Rattle.us_requests.specs.Asks.{Request, counts_of, is_late, is_not_requestable, is_unknown}
use Rattle.us_requests.specs.Cuts.{asked, cut_of}
use Rattle.us_requests.specs.Readings.{AreRequests}
use Rattle.us_requests.specs.Texts.{requests_of}
use Rattle.us_requests.specs.Traces.{TraceAsks, IsTraceOf, asked_before, asks_in, cuts_in}
use Rattle.us_requests.proofs.SoundTextLaws.{sound_text}
use Rattle.us_requests.proofs.TotalLemmas.{asked-of}
use Rattle.us_round.specs.ScheduleLaws.{AreCuts}
use Rattle.us_lawful.specs.Runs.{Run}
use Rattle.us_lawful.specs.Output.{maps_text, output_of, report_text, run_of}
use Rattle.us_lawful.specs.Texts.{AreLawful}
use Rattle.us_lawful.specs.Laws.{AreSmall, TextsOfTracesAreLawful}
use Rattle.us_lawful.proofs.SameLemmas.{sum_map}
use Rattle.us_lawful.proofs.FieldLaws.{lines_have_fields}
use Rattle.us_lawful.proofs.LawfulLaws.{texts_of_schedules_are_lawful}

-- Cuts.

pub length-cuts : (t : Tables) (v : TraceAsks) → length (cuts_in t v) ≡ v.rounds
unfolding cuts_in
length-cuts t v = length-map-range_with_len (λ round. cut_of (length (words_of t)) (asks_in v round)) 0 v.rounds

length-cut : (words : ℕ) (asks : List Ask) → length (cut_of words asks) ≡ words
unfolding cut_of
length-cut words asks = length-map-range_with_len (asked asks) 0 words

-- each has a number for each word
pub are-cuts : (t : Tables) (v : TraceAsks) → AreCuts t (cuts_in t v)
unfolding cuts_in
are-cuts t v = each 0 v.rounds
  where
    each : (from n : ℕ) →
        AreCuts t (map (λ round. cut_of (length (words_of t)) (asks_in v round)) (range_with_len from n))
    each from zero = tt
    each from (suc n) = (length-cut (length (words_of t)) (asks_in v from), each (from + 1) n)

-- what asks name of a word is no more than what they name
asked_few : (asks : List Ask) (word : ℕ) → asked asks word ≤ sum_by (λ ask. ask.bytes) asks
asked_few [] word = omega arith
asked_few (ask ∷ asks) word = elim (cases_Bool (ask.cluster == word)) [
  | inl same ↦ rw same (omega (
    arith,
    sum_by-cons (λ (a : Ask). a.bytes) ask (filter (λ a. a.cluster == word) asks),
    sum_by-cons (λ (a : Ask). a.bytes) ask asks,
    asked_few asks word,
  ))
  | inr other ↦ rw other (omega (arith, sum_by-cons (λ (a : Ask). a.bytes) ask asks, asked_few asks word))
]

cut_few : (words : ℕ) (asks : List Ask) (word : ℕ) → slice_index (cut_of words asks) word ≤ sum_by (λ ask. ask.bytes) asks
unfolding cut_of
cut_few words asks word = elim (cases_lt word words) [
  | inl below ↦
      let at : slice_index (map (asked asks) (range_with_len 0 words)) word ≡ asked asks word =
      get_or-map-range_with_len (asked asks) 0 words word word 0 below (omega arith) in
      omega (arith, at, asked_few asks word)
  | inr past ↦
      let long : length (map (asked asks) (range_with_len 0 words)) ≡ words = length-map-range_with_len (asked asks) 0 words in
      let none : slice_index (map (asked asks) (range_with_len 0 words)) word ≡ 0 =
      get_or_past (map (asked asks) (range_with_len 0 words)) word 0 (omega (arith, long, past)) in
      omega (arith, none)
]

-- so all cuts of a word together are no more than all asks
cuts_few : (t : Tables) (v : TraceAsks) (word : ℕ) → sum_by (λ cut. slice_index cut word) (cuts_in t v) ≤ asked_before v v.rounds
unfolding cuts_in
cuts_few t v word =
    let cut : ℕ → List ℕ = λ round. cut_of (length (words_of t)) (asks_in v round) in
    let few : sum_by (λ round. slice_index (cut round) word) (range_with_len 0 v.rounds)
    ≤ sum_by (λ round. sum_by (λ ask. ask.bytes) (asks_in v round)) (range_with_len 0 v.rounds) =
    sum_by-le-sum_by (λ round. slice_index (cut round) word) (λ round. sum_by (λ ask. ask.bytes) (asks_in v round))
    (range_with_len 0 v.rounds) (λ round. cut_few (length (words_of t)) (asks_in v round) word) in
    omega (arith, sum_map (λ (bytes : List ℕ). slice_index bytes word) cut (range_with_len 0 v.rounds), few)

-- Counts.

counts_few : (t : Tables) (rounds : ℕ) (requests : List Request) →
    ((counts_of t rounds requests).unknown ≤ length requests)
    × ((counts_of t rounds requests).not_requestable ≤ length requests)
    × ((counts_of t rounds requests).late ≤ length requests)
unfolding counts_of
counts_few t rounds requests = (
  count_by-le-length (is_unknown t) requests,
  count_by-le-length (is_not_requestable t) requests,
  count_by-le-length (is_late t rounds) requests,
)

trace_small : (t : Tables) (rounds : ℕ) (requests : List Request) (v : TraceAsks) → AreTables t → AreRequests requests →
    IsTraceOf t rounds requests v → AreSmall (cuts_in t v) v.counts
trace_small t rounds requests v lawful sound is =
    let counts = counts_few t rounds requests in
    record {
      asked = λ word. omega (arith, cuts_few t v word, asked-of t rounds requests v lawful sound is.asks v.rounds);
      unknown = omega (arith, ap (λ (c : Counts). c.unknown) is.counts, counts.0, sound.few);
      not_requestable = omega (arith, ap (λ (c : Counts). c.not_requestable) is.counts, counts.1, sound.few);
      late = omega (arith, ap (λ (c : Counts). c.late) is.counts, counts.2, sound.few);
    }

pub texts_of_traces_are_lawful : TextsOfTracesAreLawful
texts_of_traces_are_lawful t rounds text v lawful fits sound is =
    let cuts : List (List ℕ) = cuts_in t v in
    let maps : List ℕ = maps_text (output_of t cuts v.counts) in
    let report : List ℕ = report_text (output_of t cuts v.counts) in
    let fitting : rounds_fit t (length cuts) ≡ true = ap (rounds_fit t) (length-cuts t v ∙ is.run) ∙ fits in
    let fields = lines_have_fields t cuts v.counts lawful (are-cuts t v) fitting
    (trace_small t rounds (requests_of text) v lawful (sound_text text sound) is) in
    let all : AreLawful (run_of t cuts v.counts) maps report =
    texts_of_schedules_are_lawful t cuts v.counts lawful (are-cuts t v) fitting fields in
    let run : ℕ → Run = λ n. record { tables = t; rounds = n; cuts = cuts; counts = v.counts } in
    subst (λ n. AreLawful (run n) maps report) (length-cuts t v) all
