-- What a replay in memory and what is printed of it come to.
use Rattle.std.proofs.Common.{◌≡◌, ℕ, Bool, List, [], ◌++◌, Option, Some, None, Result, Ok, Err, IfSome, OnOk, refl, ap, sym, subst, ◌∙◌}
use Rattle.std.specs.Io.KnownBytes.{Appends, Keeps}
use Rattle.us_slots.proofs.DeviceLemmas.{appends_join, appends_keep}
use Rattle.us_flows.specs.Tables.{Tables, rounds_fit}
use Rattle.us_flows.specs.Answers.{Answers}
use Rattle.us_requests.specs.Texts.{trace_fault}
use Rattle.us_replay.specs.declared.summaries.Summary.{Summary}
use Rattle.us_lawful.specs.Output.{maps_text, report_text}
use Rattle.us_replay.specs.Replays.{Replayed, grown, output_for}
use Rattle.us_command_line.specs.declared.orders.Order.{Order}
use Rattle.us_command_line.specs.declared.orders.Order.TheVariants as order
use Rattle.mapsim.specs.Marks.{IsSplit}
use Rattle.mapsim.specs.Dumps.{IsDump}
use Rattle.mapsim.specs.Printouts.{Gives, Replays, Prints, PrintsAsAsked}

-- a replay in memory, into lists that were empty, that was Ok
pub gives : (t : Tables) (rounds : ℕ) (trace : List ℕ) (summary : Summary) (maps report : List ℕ) (failed : Bool) →
    Replayed t rounds (Some trace) (grown (Some []) (Some maps)) (grown (Some []) (Some report)) failed (Ok summary) →
    Gives t rounds trace maps report
gives t rounds trace summary maps report failed (fit, (text, is_text, sound, (to_maps, to_report, told), kept)) =
    let same : text ≡ trace = sym is_text.tells in
    record {
      fit = fit;
      sound = subst (λ text. trace_fault text ≡ None) same sound;
      maps_whole = to_maps ∙ ap (λ text. maps_text (output_for t rounds text)) same;
      report_whole = to_report ∙ ap (λ text. report_text (output_for t rounds text)) same;
    }

-- the same of a text
pub replays : (rounds : ℕ) (text config trace : List ℕ) (t : Tables) (maps report : List ℕ) →
    IsSplit text config trace → Answers config (Ok t) → Gives t rounds trace maps report →
    Replays rounds text maps report
replays rounds text config trace t maps report split accepted given = record {
  config = config;
  trace = trace;
  split = split;
  tables = t;
  accepted = accepted;
  gives = given;
}

-- the lines of the MAPs, and then the report, as far as that was taken
pub prints : {T E : Type 0} (rounds : ℕ) (told : Option (List ℕ)) (items read maps file report piece : List ℕ)
    (before between after : Option (List ℕ)) (result : Result T E) →
    IfSome told (λ text. items ≡ text) → read ≡ items → Replays rounds read maps report →
    file ≡ maps → (dump : List ℕ) × IsDump file dump × Appends before between dump →
    piece ≡ report → OnOk result (Appends between after piece) → OnOk result (Prints rounds told before after)
prints rounds told items read maps file report piece before between after (Err e) one two replayed three dumped four took = tt
prints rounds None items read maps file report piece before between after (Ok x) one two replayed three dumped four took = tt
prints rounds (Some text) items read maps file report piece before between after (Ok x) one two replayed three
    (dump, dumped, lines) four took =
    subst (λ text. Prints rounds (Some text) before after) (two ∙ one) (
      dump ++ report,
      record {
        maps = maps;
        report = report;
        replayed = replayed;
        dump = dump;
        dumped = subst (λ file. IsDump file dump) three dumped;
        whole = refl;
      },
      appends_join before between after dump report lines (subst (Appends between after) four took),
    )

-- what was printed stays so where standard output keeps what it took
prints_kept : (rounds : ℕ) (told before between after : Option (List ℕ)) → Prints rounds told before between →
    Keeps between after → Prints rounds told before after
prints_kept rounds None before between after printed kept = tt
prints_kept rounds (Some text) before between after (printout, is, took) kept =
    (printout, is, appends_keep before between after printout took kept)

pub asked_kept : (o : Order) (told before between after : Option (List ℕ)) → PrintsAsAsked o told before between →
    Keeps between after → PrintsAsAsked o told before after
asked_kept (order.Replay files) told before between after printed kept = tt
asked_kept (order.Check files) told before between after printed kept = tt
asked_kept (order.Lint files) told before between after printed kept = tt
asked_kept (order.Dump path) told before between after printed kept = tt
asked_kept (order.Pipe rounds workers) told before between after printed kept =
    prints_kept rounds told before between after printed kept
asked_kept (order.Help text) told before between after printed kept = tt
