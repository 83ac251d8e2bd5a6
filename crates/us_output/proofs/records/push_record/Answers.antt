use Rattle.std.proofs.Common.{◌≡◌, ℕ, List, ◌+◌, ◌*◌, ◌++◌, [], length, take, ap, refl, ◌∙◌, arith}
use Rattle.std.specs.Int.{to_be_bytes, w16, w32}
use Rattle.us_codec.specs.Bodies.{front}
use Rattle.us_holes.specs.Runs.{Run, runs_of}
use Rattle.us_channel.specs.Maps.{head_of}
use Rattle.us_output.specs.Leftovers.{AreDealt}
use Rattle.us_output.specs.Outputs.{pendings_on}
use Rattle.us_output.proofs.RecordLemmas.{record_joined, within}
use Rattle.us_output.proofs.records.push_record.Goals as goal

pub returns-clause-record : goal.returns-clause-record
unfolding AreDealt
returns-clause-record c = λ pendings dealt.
    let b = c.args.part.now in
    let runs : List Run = runs_of b.board.cells in
    let count : ℕ = length runs + (1 + length c.on-sids.result.now) in
    let opening : List ℕ =
    to_be_bytes w32 c.args.round ++ to_be_bytes w16 (16 + 4 * count) ++ front c.head_of-head.result count in
    let is : c.channel-channel.result.now ≡ b.channel =
    rw c.channel_round.ensures at c.channel-channel.ensures in
    let head : c.head_of-head.result ≡ head_of c.args.config.now c.args.round b.channel =
    rw is at c.head_of-head.ensures.value in
    let sids : c.on-sids.result.now ≡ pendings_on b.channel.id pendings =
    rw is at c.on-sids.ensures.value ∙ dealt b.channel.id in
    let put = record_joined c.args.config.now c.args.round pendings b c.head_of-head.result c.len-len.result
    count runs c.on-sids.result.now []
    opening (take c.put_granted-end.result c.put_granted-end.new.out)
    (take c.put_next-end.result c.put_next-end.new.out) (take c.put_pendings-end.result c.put_pendings-end.new.out)
    head c.head_of-head.ensures.lawful.four
    (rw (c.board.ensures, c.channel_round-2.ensures) at c.len-len.ensures.value ∙ c.requires.built.len) refl
    sids
    (omega arith)
    refl c.put_granted-end.ensures.bytes
    (rw c.null_at.ensures at c.put_next-end.ensures.bytes)
    c.put_pendings-end.ensures.bytes in
    c.in_ok-push_first.ensures ∙ ap (λ bytes. c.args.text.now.items ++ bytes) put

pub returns-clause-limits : goal.returns-clause-limits
unfolding AreDealt
returns-clause-limits c = λ pendings dealt.
    let b = c.args.part.now in
    let is : c.channel-channel.result.now ≡ b.channel =
    rw c.channel_round.ensures at c.channel-channel.ensures in
    let head : c.head_of-head.result ≡ head_of c.args.config.now c.args.round b.channel =
    rw is at c.head_of-head.ensures.value in
    within c.args.config.now c.args.round pendings b c.on-sids.result.now
    (rw (c.board.ensures, c.channel_round-2.ensures) at c.len-len.ensures.known) c.put_granted-end.ensures.few
    (rw head at c.head_of-head.ensures.lawful.four) (rw is at c.on-sids.ensures.value ∙ dealt b.channel.id)
    c.on-sids.ensures.few
