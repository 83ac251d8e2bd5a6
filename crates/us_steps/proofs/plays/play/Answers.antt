use Rattle.std.proofs.Common.{length, ap, subst, ◌∙◌, arith, refl}
use Rattle.us_round.specs.Rounds.{round_of}
use Rattle.us_output.specs.Outputs.{out_of}
use Rattle.us_steps.specs.Steps.{IsComplete}
use Rattle.us_steps.proofs.PlayLemmas.{cut-long, cut-room}
use Rattle.us_steps.proofs.plays.play.Goals as goal

pub tallied-requires-clause-room : goal.tallied-requires-clause-room
tallied-requires-clause-room c = λ q below. omega (arith, c.requires.room q below)

pub round_alone-requires-clause-words : goal.round_alone-requires-clause-words
round_alone-requires-clause-words c =
    let told = rw c.in-Some.is at c.in_ok-cut.ensures in
    rw (c.deref.ensures.value, told.1) (cut-long c.args.rows.now c.args.words.now c.args.steps.now ∙ c.requires.words)

pub round_alone-requires-clause-room : goal.round_alone-requires-clause-room
round_alone-requires-clause-room c =
    let told = rw c.in-Some.is at c.in_ok-cut.ensures in
    rw (c.deref.ensures.value, told.1) (cut-room c.args.state.outstanding c.args.words.now c.args.rows.now c.channels.result
    c.args.steps.now c.requires.room told.0)

pub returns-clause-played : goal.returns-clause-played
returns-clause-played c =
    let told = rw c.in-Some.is at c.in_ok-cut.ensures in
    let cut = c.deref.ensures.value ∙ told.1 in
    let s = c.args.state in (
      subst (λ n. IsComplete (length c.args.rows.now) (length c.args.words.now) n c.args.steps.now) c.channels.ensures told.0,
      rw (
        c.in_ok-state.ensures.state ∙ ap (λ xs. (round_of s xs).state) cut,
        told.2,
        c.in_ok-state.ensures.out ∙ ap (λ xs. out_of s.tables (round_of s xs).scheduled) cut,
      ) refl,
    )
