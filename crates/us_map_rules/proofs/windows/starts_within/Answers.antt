use Rattle.std.proofs.Common.{◌≡◌, ◌+◌, ◌*◌, ◌<◌, ◌^◌, ◌&&◌, nat_le, ap, inl, inr, sym, ◌∙◌, arith, le-leb}
use Rattle.std.proofs.lemmas.Bool.{lt-leb}
use Rattle.us_slots.specs.Times.{minislot_ticks, start_of}
use Rattle.us_flows.specs.Tables.{map_len}
use Rattle.us_map_rules.proofs.ClosingLemmas.{begins_at, begins_late, begins_soon}
use Rattle.us_map_rules.proofs.ListedLemmas.{channel_of}
use Rattle.us_map_rules.proofs.windows.starts_within.Goals as goal
use Rattle.us_map_rules.proofs.windows.starts_within.Goals.{then-grant-ge-LATE-via-then-grant-ge-LATE, then-grant-ge-LATE-via-else-grant-ge-LATE+then-grant-ge-LATE-2}

pub returns-then-grant-ge-LATE : goal.returns-then-grant-ge-LATE
returns-then-grant-ge-LATE c =
    let t = c.args.run.now.tables in
    let l = c.args.of.now in
    let grant = c.args.grant.now in
    let tables = c.round_quarters-quarters.ensures.lawful in
    let jitter : c.from.result ≡ l.entry.jitter =
    c.from.ensures ∙ ap (λ m. m.entry.jitter) c.of-inside.view_is ∙ ap (λ m. m.entry.jitter) c.of.view_is in
    let near : c.args.ideal + l.entry.jitter < 2 ^ 50 =
    omega (arith, jitter, c.from.ensures, c.of-inside.invariant.jitter, c.of-inside.invariant.interval, c.requires.before) in
    let late = begins_late t l.channel (channel_of t l tables c.requires.entry) grant.round grant.start l.entry c.args.ideal
    tables.round_ticks.0 in
    elim c.then-grant-ge-LATE.branch [
      | then-grant-ge-LATE-via-then-grant-ge-LATE w ↦ sym (late (inl w.if-grant-ge-LATE.true) near)
      | then-grant-ge-LATE-via-else-grant-ge-LATE+then-grant-ge-LATE-2 w ↦ sym (late (inr w.if-grant-ge-LATE-2.true) near)
    ]

pub overflow_add-start : goal.overflow_add-start
overflow_add-start c =
    let t = c.args.run.now.tables in
    let l = c.args.of.now in
    let grant = c.args.grant.now in
    let tables = c.round_quarters-quarters.ensures.lawful in
    let lawful = channel_of t l tables c.requires.entry in
    let ticks : c.from-ticks.result ≡ minislot_ticks l.channel.bursts.time =
    c.from-ticks.ensures ∙ c.minislot_ticks.ensures.value ∙ ap minislot_ticks c.time.ensures.value
    ∙ ap (λ m. minislot_ticks m.channel.bursts.time) c.of-inside.view_is
    ∙ ap (λ m. minislot_ticks m.channel.bursts.time) c.of.view_is in
    let begins = begins_at t l.channel lawful grant.round grant.start c.round_quarters-quarters.result c.from-ticks.result
    c.round_quarters-quarters.ensures.value ticks in
    let soon = begins_soon t l.channel lawful grant.round grant.start tables.round_ticks.1 c.if-grant-ge-LATE.false
    c.if-grant-ge-LATE-2.false in
    omega (arith, begins, soon)

pub returns-then-ideal-start : goal.returns-then-ideal-start
returns-then-ideal-start c =
    let t = c.args.run.now.tables in
    let l = c.args.of.now in
    let grant = c.args.grant.now in
    let tables = c.round_quarters-quarters.ensures.lawful in
    let ideal = c.args.ideal in
    let jitter : c.from.result ≡ l.entry.jitter =
    c.from.ensures ∙ ap (λ m. m.entry.jitter) c.of-inside.view_is ∙ ap (λ m. m.entry.jitter) c.of.view_is in
    let ticks : c.from-ticks.result ≡ minislot_ticks l.channel.bursts.time =
    c.from-ticks.ensures ∙ c.minislot_ticks.ensures.value ∙ ap minislot_ticks c.time.ensures.value
    ∙ ap (λ m. minislot_ticks m.channel.bursts.time) c.of-inside.view_is
    ∙ ap (λ m. minislot_ticks m.channel.bursts.time) c.of.view_is in
    let start = start_of l.channel.bursts.time (grant.round * map_len t l.channel + grant.start) in
    let begins = begins_at t l.channel (channel_of t l tables c.requires.entry) grant.round grant.start
    c.round_quarters-quarters.result c.from-ticks.result c.round_quarters-quarters.ensures.value ticks in
    ap (λ s. nat_le s (ideal + c.from.result)) begins
    ∙ ap (λ j. nat_le start (ideal + j)) jitter
    ∙ sym (ap (λ b. b && nat_le start (ideal + l.entry.jitter))
    (le-leb ideal start (omega (arith, begins, c.if-ideal-start.true))))

pub returns-else-ideal-start : goal.returns-else-ideal-start
returns-else-ideal-start c =
    let t = c.args.run.now.tables in
    let l = c.args.of.now in
    let grant = c.args.grant.now in
    let tables = c.round_quarters-quarters.ensures.lawful in
    let ideal = c.args.ideal in
    let ticks : c.from-ticks.result ≡ minislot_ticks l.channel.bursts.time =
    c.from-ticks.ensures ∙ c.minislot_ticks.ensures.value ∙ ap minislot_ticks c.time.ensures.value
    ∙ ap (λ m. minislot_ticks m.channel.bursts.time) c.of-inside.view_is
    ∙ ap (λ m. minislot_ticks m.channel.bursts.time) c.of.view_is in
    let start = start_of l.channel.bursts.time (grant.round * map_len t l.channel + grant.start) in
    let begins = begins_at t l.channel (channel_of t l tables c.requires.entry) grant.round grant.start
    c.round_quarters-quarters.result c.from-ticks.result c.round_quarters-quarters.ensures.value ticks in
    ap (λ s. nat_le ideal s) begins ∙ lt-leb ideal start (omega (arith, begins, c.if-ideal-start.false))
    ∙ sym (ap (λ b. b && nat_le start (ideal + l.entry.jitter))
    (lt-leb ideal start (omega (arith, begins, c.if-ideal-start.false))))
