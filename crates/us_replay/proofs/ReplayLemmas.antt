-- The run of a trace that was read is that of the requests that its text tells.
use Rattle.std.proofs.Common.{◌≡◌, ℕ, true, Bool, List, length, map, Option, Result, Ok, Err, OnOk, ap, subst, ◌∙◌}
use Rattle.std.specs.List.{range_with_len}
use Rattle.us_flows.specs.Tables.{Tables, rounds_fit}
use Rattle.us_flows.specs.Clusters.{words_of}
use Rattle.us_requests.specs.Asks.{Request, counts_of}
use Rattle.us_requests.specs.Cuts.{cut_at, cut_of}
use Rattle.us_requests.specs.Traces.{TraceAsks, IsTraceOf, asks_in, cuts_in}
use Rattle.us_requests.specs.Texts.{requests_of}
use Rattle.us_requests.specs.Readings.{Reads}
use Rattle.us_replay.specs.declared.summaries.Summary.{Summary}
use Rattle.us_replay.specs.declared.faults.RunFault.{RunFault}
use Rattle.us_replay.specs.Endings.{Ending, Refused, StoppedBy, ended, rounds_done}
use Rattle.us_lawful.specs.Output.{maps_text, output_of, report_text, run_of}
use Rattle.us_lawful.specs.Texts.{AreLawful}
use Rattle.us_replay.specs.Replays.{Growth, Ran, RanText, KeptLimits, Replayed, Stands, WroteLawful, cuts_of, output_for}
use Rattle.us_replay.specs.Progress.{IsLawfulOutput, RanTrace, output_in}

-- the asks of each round add up to the cut of the rows
pub cuts-same : (t : Tables) (rounds : ℕ) (requests : List Request) (v : TraceAsks) → IsTraceOf t rounds requests v →
    cuts_in t v ≡ cuts_of t rounds requests
unfolding cuts_in cuts_of
cuts-same t rounds requests v is =
    let asked : ℕ → List ℕ = λ round. cut_of (length (words_of t)) (asks_in v round) in
    let cut : asked ≡ cut_at t rounds requests = λ i round. is.cut round i in
    ap (λ n. map asked (range_with_len 0 n)) is.run ∙ ap (λ f. map f (range_with_len 0 rounds)) cut

-- so the output is that of the rows
output-same : (t : Tables) (rounds : ℕ) (requests : List Request) (v : TraceAsks) → IsTraceOf t rounds requests v →
    output_of t (cuts_in t v) v.counts ≡ output_of t (cuts_of t rounds requests) (counts_of t rounds requests)
output-same t rounds requests v is =
    ap (λ cuts. output_of t cuts v.counts) (cuts-same t rounds requests v is) ∙
    ap (output_of t (cuts_of t rounds requests)) is.counts

ran-text : (t : Tables) (rounds : ℕ) (told : Option (List ℕ)) (v : TraceAsks) (to_maps to_report : Growth) (failed : Bool)
    (result : Result Summary RunFault) → Reads t rounds told (Ok v) → RanTrace t v to_maps to_report failed result →
    RanText t rounds told to_maps to_report failed (ended result)
unfolding output_for
ran-text t rounds told v to_maps to_report failed result (text, is_text, no_fault, is) (ran, kept) = (
  text,
  is_text,
  no_fault,
  subst (λ out. Ran out (counts_of t rounds (requests_of text)) to_maps to_report failed (ended result))
      (output-same t rounds (requests_of text) v is)
      (subst (λ counts. Ran (output_of t (cuts_in t v) v.counts) counts to_maps to_report failed (ended result))
      is.counts ran),
  subst (λ cuts. KeptLimits t cuts (rounds_done (ended result))) (cuts-same t rounds (requests_of text) v is) kept,
)

-- nothing of a run is refused
stands : (t : Tables) (rounds : ℕ) (told : Option (List ℕ)) (to_maps to_report : Growth) (failed : Bool)
    (end : Result Summary Ending) → rounds_fit t rounds ≡ true → RanText t rounds told to_maps to_report failed end →
    Stands t rounds told to_maps to_report failed end
stands t rounds told to_maps to_report failed (Ok summary) can ran = (can, ran)
stands t rounds told to_maps to_report failed (Err (StoppedBy what done)) can ran = (can, ran)
stands t rounds told to_maps to_report failed (Err (Refused why)) can (text, is_text, sound, never, kept) = absurd never

-- whatever `run` answers
pub replayed : (t : Tables) (rounds : ℕ) (told : Option (List ℕ)) (v : TraceAsks) (to_maps to_report : Growth) (failed : Bool)
    (result : Result Summary RunFault) → rounds_fit t rounds ≡ true → Reads t rounds told (Ok v) →
    RanTrace t v to_maps to_report failed result → Replayed t rounds told to_maps to_report failed result
replayed t rounds told v to_maps to_report failed result can read ran =
    stands t rounds told to_maps to_report failed (ended result) can
    (ran-text t rounds told v to_maps to_report failed result read ran)

-- and what it writes is lawful
pub wrote-lawful : (t : Tables) (rounds : ℕ) (told : Option (List ℕ)) (v : TraceAsks) (to_maps to_report : Growth)
    (failed : Bool) (result : Result Summary RunFault) → Reads t rounds told (Ok v) → RanTrace t v to_maps to_report failed result →
    OnOk result (IsLawfulOutput t v) → OnOk result (WroteLawful t rounds told to_maps to_report)
wrote-lawful t rounds told v to_maps to_report failed (Err fault) read ran lawful = tt
wrote-lawful t rounds told v to_maps to_report failed (Ok summary) (text, is_text, no_fault, is) (ran, kept) lawful =
    let requests : List Request = requests_of text in
    let maps : List ℕ = maps_text (output_in t v) in
    let report : List ℕ = report_text (output_in t v) in
    record {
      text = text;
      is_text = is_text;
      sound = no_fault;
      maps = maps;
      report = report;
      took_maps = ran.0;
      took_report = ran.1;
      lawful = subst (λ counts. AreLawful (run_of t (cuts_of t rounds requests) counts) maps report) is.counts
          (subst (λ cuts. AreLawful (run_of t cuts v.counts) maps report) (cuts-same t rounds requests v is) lawful);
    }
