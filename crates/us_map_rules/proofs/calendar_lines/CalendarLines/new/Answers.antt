use Rattle.std.proofs.Common.{[], length, get_or, ap, subst, sym, ◌∙◌, arith}
use Rattle.std.proofs.lemmas.List.{get_or-replicate}
use Rattle.us_map_rules.specs.Told.{IsTold, nothing}
use Rattle.us_map_rules.proofs.TakingLemmas.{nothing_told}
use Rattle.us_map_rules.proofs.calendar_lines.CalendarLines.new.Goals as goal

pub returns-clause-told : goal.returns-clause-told
returns-clause-told c =
    let run = c.in_ok-run.run' in
    let es = c.in_ok-listed.listed in
    record {
      told = λ place l t inside.
          subst (IsTold run [] (get_or es place l))
          (sym (ap (λ ts. get_or ts place t) c.loop.invariant
          ∙ get_or-replicate c.loop.counter place nothing t (omega (arith, inside, ap length c.entries-end.ensures))))
          (nothing_told run (get_or es place l));
      first = λ p fails. fails;
    }
