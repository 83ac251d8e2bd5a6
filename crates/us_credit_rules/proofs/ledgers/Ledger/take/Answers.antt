use Rattle.std.proofs.lemmas.List.{with_items_is}
use Rattle.std.proofs.lemmas.Bool.{and_left, and_right, le-ltb}
use Rattle.std.proofs.Common.{◌≡◌, ◌+◌, ◌<◌, ◌≤◌, length, ap, ap₂, refl, subst, sym, ◌∙◌, arith}
use Rattle.std.specs.Prelude.{nat_lt, slice_index}
use Rattle.us_flows.specs.Clusters.{Turn}
use Rattle.us_lawful.specs.Credits.{is_of}
use Rattle.us_credit_rules.specs.Ledgers.{AreAsked, asked_in}
use Rattle.us_credit_rules.specs.Seats.{is_number, word_in}
use Rattle.us_credit_rules.proofs.LedgerLemmas.{kept_taken, named_taken}
use Rattle.us_credit_rules.proofs.ledgers.Ledger.take.Goals as goal

pub returns-then-grant-from : goal.returns-then-grant-from
returns-then-grant-from c = λ turns named found.
    let g = c.args.grant.now in
    let v = c.args.trace.now in
    kept_taken v turns g c.args.self.now c.args.self.now named c.requires.ordered refl c.requires.asked
    (λ turn own. and_right (is_of turn.cluster g) (nat_lt g.round v.rounds)
    (le-ltb g.round v.rounds (omega (arith, c.if-grant-from.true, c.from.ensures, c.rounds.ensures.value)))) refl

pub credit-requires : goal.credit-requires
credit-requires c =
    omega (
      arith,
      (rw c.in-Some.is at c.requires.known).1,
      c.word-in-Some.ensures,
      ap length c.deref_mut.ensures.value,
      ap (λ accounts. length accounts.items) c.begin.ensures.accounts,
    )

pub returns-in_default : goal.returns-in_default
returns-in_default c = λ turns named found.
    let g = c.args.grant.now in
    let v = c.args.trace.now in
    kept_taken v turns g c.args.self.now c.begin.new.self named (omega (arith, c.begin.ensures.begun)) c.begin.ensures.words
    (subst (λ n. AreAsked v n c.begin.new.self.asked.items) (sym c.begin.ensures.begun) c.begin.ensures.asked)
    (λ turn own. and_left (is_of turn.cluster g) (nat_lt g.round v.rounds)
    (own ∙ ap (λ found. is_number turn.number (word_in found)) (sym (rw c.in_default.is at found))))
    (ap (λ accounts. accounts.items) c.begin.ensures.accounts)

pub returns-in-Some : goal.returns-in-Some
returns-in-Some c = λ turns named found.
    let g = c.args.grant.now in
    let v = c.args.trace.now in
    let u : Turn = c.in-Some.seat.now in
    let begun = c.begin.new.self in
    let inside : g.round < v.rounds = omega (arith, c.if-grant-from.false, c.from.ensures, c.rounds.ensures.value) in
    let ordered : begun.begun ≤ g.round + 1 = omega (arith, c.begin.ensures.begun) in
    let asked : AreAsked v begun.begun begun.asked.items =
    subst (λ n. AreAsked v n begun.asked.items) (sym c.begin.ensures.begun) c.begin.ensures.asked in
    let known = rw c.in-Some.is at c.requires.known in
    let word : u.number < length begun.asked.items = omega (arith, known.0, c.begin.ensures.words) in
    let bytes : c.bytes_at-asked.result ≡ asked_in v (g.round + 1) u.number =
    c.bytes_at-asked.ensures ∙ ap₂ (λ sums n. slice_index sums n) c.deref.ensures.value c.word.ensures
    ∙ c.begin.ensures.asked.asked u.number word in
    let same : begun.accounts.items ≡ c.args.self.now.accounts.items =
    ap (λ accounts. accounts.items) c.begin.ensures.accounts in
    let kept : length c.credit.new.accounts ≡ length begun.accounts.items =
    c.credit.auto.accounts ∙ ap length c.deref_mut.ensures.value in
    let items = with_items_is begun.accounts c.credit.new.accounts (kept ∙ sym begun.accounts.ok.0) in
    let own = rw (bytes, c.deref_mut.ensures.value, c.word-in-Some.ensures, same) at c.credit.ensures.own in
    let others = rw (c.deref_mut.ensures.value, c.word-in-Some.ensures, same) at c.credit.ensures.others in
    named_taken v turns g c.args.self.now _ named ordered c.begin.ensures.words asked u (sym (rw c.in-Some.is at found)) inside
    c.rounds.ensures.lawful (ap length items ∙ kept ∙ ap length same) (rw items own) (rw items others)
