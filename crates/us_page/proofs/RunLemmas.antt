-- What a replay in memory comes to, and by which fault it is refused.
use Rattle.std.proofs.Common.{◌≡◌, ℕ, Bool, List, [], Some, None, Ok, Err, refl, ap, sym, subst, ◌∙◌}
use Rattle.us_flows.specs.Tables.{Tables}
use Rattle.us_flows.specs.Answers.{Answers}
use Rattle.us_flows.specs.declared.faults.ConfigFault.{ConfigFault}
use Rattle.us_flows.specs.declared.faults.ConfigFault.TheVariants as config
use Rattle.us_requests.specs.Texts.{requests_of, trace_fault}
use Rattle.us_requests.specs.declared.faults.TraceFault.TheVariants as trace
use Rattle.us_lawful.specs.Output.{maps_text, report_text}
use Rattle.us_lawful.specs.Texts.{AreLawful}
use Rattle.us_replay.specs.declared.summaries.Summary.{Summary}
use Rattle.us_replay.specs.declared.faults.RunFault.{RunFault}
use Rattle.us_replay.specs.declared.faults.RunFault.TheVariants as run
use Rattle.us_replay.specs.Replays.{Growth, Replayed, WroteLawful, grown, output_for, run_for}
use Rattle.us_page.specs.declared.faults.PageFault.{PageFault}
use Rattle.us_page.specs.declared.faults.PageFault.TheVariants as page
use Rattle.us_page.specs.Runs.{Run, Gives, IsGiven, IsRefused, RefusesTrace, of_config, of_run}

-- a replay in memory, into lists that were empty, that was Ok
pub gives : (t : Tables) (text : List ℕ) (rounds : ℕ) (summary : Summary) (maps report line : List ℕ) (failed : Bool) →
    Replayed t rounds (Some text) (grown (Some []) (Some maps)) (grown (Some []) (Some report)) failed (Ok summary) →
    WroteLawful t rounds (Some text) (grown (Some []) (Some maps)) (grown (Some []) (Some report)) → line ≡ [] →
    Gives t text rounds (record { maps = maps; report = report; line = line })
gives t text rounds summary maps report line failed (fit, (told, is_text, sound, (to_maps, to_report, counted), kept)) wrote none =
    let same : told ≡ text = sym is_text.tells in
    record {
      fit = fit;
      sound = subst (λ it. trace_fault it ≡ None) same sound;
      maps_whole = to_maps ∙ ap (λ it. maps_text (output_for t rounds it)) same;
      report_whole = to_report ∙ ap (λ it. report_text (output_for t rounds it)) same;
      lawful = subst (λ it. AreLawful (run_for t rounds (requests_of it)) maps report) (sym wrote.is_text.tells)
          (subst (λ it. AreLawful (run_for t rounds (requests_of wrote.text)) it report) (sym wrote.took_maps)
          (subst (λ it. AreLawful (run_for t rounds (requests_of wrote.text)) wrote.maps it) (sym wrote.took_report)
          wrote.lawful));
      no_fault = none;
    }

-- one that a fault ended, which is none of the workers
pub refuses : (t : Tables) (text : List ℕ) (rounds : ℕ) (to_maps to_report : Growth) (failed : Bool) (f : RunFault) →
    Replayed t rounds (Some text) to_maps to_report failed (Err f) → ¬ (f ≡ run.Workers) → RefusesTrace t text rounds (of_run f)
refuses t text rounds to_maps to_report failed run.Rounds (refused, took) other = refused
refuses t text rounds to_maps to_report failed run.Workers (refused, took) other = absurd (other refl)
refuses t text rounds to_maps to_report failed (run.Trace trace.Header) (refused, took) other = refused
refuses t text rounds to_maps to_report failed (run.Trace (trace.Fields n)) (refused, took) other = refused
refuses t text rounds to_maps to_report failed (run.Trace (trace.Number n)) (refused, took) other = refused
refuses t text rounds to_maps to_report failed (run.Trace trace.TooLarge) (refused, took) other = refused
refuses t text rounds to_maps to_report failed (run.Trace trace.Read) (refused, took) other = tt
refuses t text rounds to_maps to_report failed (run.Trace trace.NoMemory) (refused, took) other = tt
refuses t text rounds to_maps to_report failed (run.WriteMaps n) stopped other = tt
refuses t text rounds to_maps to_report failed (run.WriteReport n) stopped other = tt
refuses t text rounds to_maps to_report failed (run.NoMemory n) stopped other = tt

-- of two texts: a configuration that has a fault,
pub config_refuses : (config_text trace_text : List ℕ) (rounds : ℕ) (f : ConfigFault) → Answers config_text (Err f) →
    IsRefused config_text trace_text rounds (of_config f)
config_refuses config_text trace_text rounds config.Text answer = answer
config_refuses config_text trace_text rounds (config.Missing p) answer = answer
config_refuses config_text trace_text rounds (config.Range p) answer = answer
config_refuses config_text trace_text rounds (config.UnknownChannel p) answer = answer
config_refuses config_text trace_text rounds (config.DuplicateId p) answer = answer
config_refuses config_text trace_text rounds (config.DuplicateSid p) answer = answer
config_refuses config_text trace_text rounds (config.ClusterLength p) answer = answer
config_refuses config_text trace_text rounds (config.RoundNotMultiple p) answer = answer
config_refuses config_text trace_text rounds (config.ReservesTooLong p) answer = answer
config_refuses config_text trace_text rounds (config.Jitter p) answer = answer
config_refuses config_text trace_text rounds (config.GrantLongerThanMap p) answer = answer
config_refuses config_text trace_text rounds (config.Headers p) answer = answer
config_refuses config_text trace_text rounds (config.MinRate p) answer = answer
config_refuses config_text trace_text rounds config.NoMemory answer = tt

-- one that is accepted, beside rounds or a trace that have one,
pub trace_refuses : (config_text trace_text : List ℕ) (rounds : ℕ) (t : Tables) (f : PageFault) →
    Answers config_text (Ok t) → RefusesTrace t trace_text rounds f → IsRefused config_text trace_text rounds f
trace_refuses config_text trace_text rounds t page.NoMemory accepted refused = tt
trace_refuses config_text trace_text rounds t (page.Config f) accepted refused = absurd refused
trace_refuses config_text trace_text rounds t (page.Replay f) accepted refused =
    record { tables = t; accepted = accepted; refuses = refused }

-- and texts without a fault
pub is_given : (config_text trace_text : List ℕ) (rounds : ℕ) (t : Tables) (r : Run) → Answers config_text (Ok t) →
    Gives t trace_text rounds r → IsGiven config_text trace_text rounds r
is_given config_text trace_text rounds t r accepted given = record { tables = t; accepted = accepted; gives = given }
