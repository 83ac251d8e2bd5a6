-- What a replay wrote holds.
use Rattle.std.proofs.Common.{◌≡◌, ℕ, List, [], ◌∷◌, ◌++◌, Some, Ok, ap, sym, subst, ◌∙◌}
use Rattle.us_flows.specs.Tables.{Tables}
use Rattle.us_requests.specs.Asks.{Request, counts_of}
use Rattle.us_requests.specs.Readings.{Reads}
use Rattle.us_requests.specs.Texts.{requests_of}
use Rattle.us_requests.specs.Traces.{TraceAsks, IsTraceOf, cuts_in}
use Rattle.us_lawful.specs.Runs.{run_in, Run}
use Rattle.us_lawful.specs.Output.{run_of}
use Rattle.us_lawful.specs.Texts.{AreLawful}
use Rattle.us_replay.specs.Replays.{WroteLawful, run_for}
use Rattle.us_lawful.proofs.TraceTextLaws.{length-cuts}
use Rattle.us_replay.proofs.ReplayLemmas.{cuts-same}
use Rattle.us_map_rules.specs.MapsReading.{OneReadingOfMaps}
use Rattle.us_own_texts.specs.OwnTexts.{OwnTextsHold, grown_by}
use Rattle.us_check.proofs.VerdictLaws.{lawful_texts_hold}

-- the run of a trace that was read is that of the requests of its text
same_run : (t : Tables) (rounds : ℕ) (requests : List Request) (v : TraceAsks) → IsTraceOf t rounds requests v →
    run_for t rounds requests ≡ run_in t v
same_run t rounds requests v is =
    ap (λ cuts. run_of t cuts (counts_of t rounds requests)) (sym (cuts-same t rounds requests v is)) ∙
    ap (run_of t (cuts_in t v)) (sym is.counts) ∙
    ap (λ n. record { tables = t; rounds = n; cuts = cuts_in t v; counts = v.counts }) (length-cuts t v)

-- what stands behind the same bytes is the same
rest_same : (had xs ys : List ℕ) → had ++ xs ≡ had ++ ys → xs ≡ ys
rest_same [] xs ys same = same
rest_same (b ∷ had) xs ys same =
    let all : b ∷ (had ++ xs) ≡ b ∷ (had ++ ys) = same in
    let rest : had ++ xs ≡ had ++ ys = cc in
    rest_same had xs ys rest

-- the texts that a replay wrote are lawful for a trace that was read of the same source
own_lawful : (t : Tables) (rounds : ℕ) (text had_maps maps had_report report : List ℕ) (trace : TraceAsks) →
    WroteLawful t rounds (Some text) (grown_by had_maps maps) (grown_by had_report report) →
    Reads t rounds (Some text) (Ok trace) → AreLawful (run_in t trace) maps report
own_lawful t rounds text had_maps maps had_report report trace wrote (read, is_text, no_fault, is) =
    let one_text : wrote.text ≡ read = sym wrote.is_text.tells ∙ is_text.tells in
    let run : run_for t rounds (requests_of wrote.text) ≡ run_in t trace =
    ap (λ bytes. run_for t rounds (requests_of bytes)) one_text ∙ same_run t rounds (requests_of read) trace is in
    let maps_are : wrote.maps ≡ maps = sym (rest_same had_maps maps wrote.maps wrote.took_maps) in
    let report_is : wrote.report ≡ report = sym (rest_same had_report report wrote.report wrote.took_report) in
    subst (λ r. AreLawful (run_in t trace) maps r) report_is
    (subst (λ m. AreLawful (run_in t trace) m wrote.report) maps_are
    (subst (λ (r : Run). AreLawful r wrote.maps wrote.report) run wrote.lawful))

pub own_texts_hold : OneReadingOfMaps → OwnTextsHold
own_texts_hold one t rounds text had_maps maps had_report report trace result wrote read answers =
    lawful_texts_hold one (run_in t trace) maps report result
    (own_lawful t rounds text had_maps maps had_report report trace wrote read) answers
