use Rattle.std.proofs.Common.{◌+◌, ◌-◌, ◌*◌, ◌/◌, ◌%◌, ◌^◌, ◌<◌, false, length, bit_and, subst, sym, arith}
use Rattle.std.proofs.Math.ListN.{set}
use Rattle.us_calendar.specs.Agendas.{is_near, IsFirst, IsBitChanged, NoneBefore}
use Rattle.us_calendar.proofs.BitLemmas.{first_found, first_cleared}
use Rattle.us_calendar.proofs.near_rounds.NearRounds.take_from.Goals as goal

pub returns-clause-first : goal.returns-clause-first
returns-clause-first c =
    let words = c.self.inside.words.items in
    let none = subst (λ words. NoneBefore (is_near words c.args.round) c.args.from) (sym c.self.view_is) c.requires in
    let is = rw (c.deref.ensures.value, c.word_of.ensures) at c.first_word-word.ensures in
    let inside : c.first_word-word.result < length words = omega (arith, c.if-word-len.false, c.len.ensures) in
    subst (λ old. IsFirst (is_near old c.args.round) (c.first_word-word.result / 64 * 64 + c.lowest-bit.result)) c.self.view_is
    (first_found words c.args.round c.args.from c.first_word-word.result none is c.index-bits.result.now c.lowest-bit.result
    c.index-bits.ensures inside c.lowest-bit.ensures)

pub returns-clause-taken : goal.returns-clause-taken
returns-clause-taken c =
    let words = c.self.inside.words.items in
    let none = subst (λ words. NoneBefore (is_near words c.args.round) c.args.from) (sym c.self.view_is) c.requires in
    let is = rw (c.deref.ensures.value, c.word_of.ensures) at c.first_word-word.ensures in
    let inside : c.first_word-word.result < length words = omega (arith, c.if-word-len.false, c.len.ensures) in
    subst (λ old. IsBitChanged old c.args.round (c.first_word-word.result / 64 * 64 + c.lowest-bit.result) false
    (set words c.first_word-word.result
    (bit_and c.index-bits.result.now (18446744073709551615 - 1 * 2 ^ c.lowest-bit.result % 2 ^ 64)))) c.self.view_is
    (first_cleared words c.args.round c.args.from c.first_word-word.result none is c.index-bits.result.now
    c.lowest-bit.result c.index-bits.ensures inside c.lowest-bit.ensures)
