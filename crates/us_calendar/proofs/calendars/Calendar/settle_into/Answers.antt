use Rattle.std.proofs.Common.{◌≡◌, ◌+◌, ◌∙◌, ◌++◌, length, take, drop, sym, ap, ap₂, subst, arith}
use Rattle.std.specs.List.{AllByRecursion}
use Rattle.us_calendar.specs.Calendars.{run_entries, StartsInside, granted_in, settled_in, Ran}
use Rattle.us_calendar.specs.Kept.{IsEntryState}
use Rattle.us_calendar.specs.Agendas.{IsAgenda}
use Rattle.us_calendar.proofs.RunLaws.{run_kept, run_ended, settled_by, written}
use Rattle.us_calendar.proofs.calendars.Calendar.settle_into.Goals as goal

pub settle_due-requires-clause-known : goal.settle_due-requires-clause-known
settle_due-requires-clause-known c =
    subst (AllByRecursion IsEntryState) (sym c.deref_mut.ensures.value) c.self.invariant.states

pub settle_due-requires-clause-agenda : goal.settle_due-requires-clause-agenda
settle_due-requires-clause-agenda c =
    let round_is : c.args.round ≡ c.self.inside.agenda.round =
    c.requires.next ∙ sym (ap (λ v. v.next_round) c.self.view_is) in
    subst (λ n. IsAgenda c.self.inside.pace n 0 c.deref_mut.result.now c.self.inside.agenda) (sym round_is)
    (subst (λ ss. IsAgenda c.self.inside.pace c.self.inside.agenda.round 0 ss c.self.inside.agenda)
    (sym c.deref_mut.ensures.value) c.self.invariant.notes)

pub invariant_of-self : goal.invariant_of-self
invariant_of-self c =
    let round_is : c.args.round ≡ c.self.inside.agenda.round =
    c.requires.next ∙ sym (ap (λ v. v.next_round) c.self.view_is) in
    let states_is = c.deref_mut.ensures.value in
    let new = c.settle_due.new.agenda in
    run_kept (record {
      pace = c.self.inside.pace;
      next_round = c.self.inside.agenda.round;
      states = c.self.inside.states.items;
    }) c.settle_due.new.states new.round c.self.inside.states.len c.self.inside.heard.from c.self.inside.heard.to
    c.args.board.now c.self.inside.agenda new c.self.invariant
    (c.in-Ok.ensures.states ∙ ap₂ (λ r rs. (run_entries c.self.inside.pace r rs c.args.board.now).states) round_is states_is)
    c.in-Ok.ensures.known c.self.inside.states.ok.0
    (subst (λ n. IsAgenda c.self.inside.pace n 0 c.settle_due.new.states new) (sym c.in-Ok.ensures.agenda.now)
    c.in-Ok.ensures.agenda)

pub returns-in-Ok-clause-inside : goal.returns-in-Ok-clause-inside
returns-in-Ok-clause-inside c =
    let ran : Ran = run_entries c.self.inside.pace c.args.round c.deref_mut.result.now c.args.board.now in
    let told = c.in-Ok.ensures.settled ∙ ap (λ xs. xs ++ ran.settled) c.clear.ensures.items in
    let ended = run_ended c.self.inside.pace c.args.round c.deref_mut.result.now c.args.board.now in
    let len = ap (λ v. v.pace.len) c.self.view_is ∙ sym c.requires.len in
    subst (λ n. AllByRecursion (StartsInside n) c.settle_due.new.settled.items) len
    (subst (AllByRecursion (StartsInside c.self.inside.pace.len)) (sym told) ended.inside)

pub returns-in-Ok-clause-granted : goal.returns-in-Ok-clause-granted
returns-in-Ok-clause-granted c =
    let ran : Ran = run_entries c.self.inside.pace c.args.round c.deref_mut.result.now c.args.board.now in
    let told = c.in-Ok.ensures.settled ∙ ap (λ xs. xs ++ ran.settled) c.clear.ensures.items in
    let ended = run_ended c.self.inside.pace c.args.round c.deref_mut.result.now c.args.board.now in
    ap (λ ts. granted_in ts + c.args.board.now.standing) told ∙ ended.granted ∙ sym
    (ap (λ b. b.standing) c.in-Ok.ensures.board)

pub returns-in-Ok-clause-counts : goal.returns-in-Ok-clause-counts
returns-in-Ok-clause-counts c =
    let ran : Ran = run_entries c.self.inside.pace c.args.round c.deref_mut.result.now c.args.board.now in
    let told = c.in-Ok.ensures.settled ∙ ap (λ xs. xs ++ ran.settled) c.clear.ensures.items in
    let ended = run_ended c.self.inside.pace c.args.round c.deref_mut.result.now c.args.board.now in
    let states_is = c.deref_mut.ensures.value in
    let states = c.in-Ok.ensures.states in
    let many : length c.settle_due.new.states ≡ length c.self.inside.states.items =
    ap length states ∙ ended.many ∙ ap length states_is in
    let back = ap (λ n. take n (c.settle_due.new.states ++ drop (length c.settle_due.new.states) c.self.inside.states.items))
    c.self.inside.states.ok.0 ∙ written c.self.inside.states.items c.settle_due.new.states many in
    let before : settled_in c.args.self.now ≡ settled_by c.deref_mut.result.now =
    sym (ap (λ v. settled_in v) c.self.view_is) ∙ sym (ap settled_by states_is) in
    let then = ap settled_by back ∙ ap settled_by states in
    let long = ap length told in
    omega (arith, before, then, long, ended.counts)
