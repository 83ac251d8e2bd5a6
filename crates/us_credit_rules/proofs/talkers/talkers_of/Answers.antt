use Rattle.std.proofs.Common.{◌≡◌, ◌++◌, [], ◌∷◌, length, ap, append-nil, sym, ◌∙◌, arith}
use Rattle.us_flows.specs.Clusters.{tells_activity}
use Rattle.us_credit_rules.proofs.SeatLemmas.{few_of}
use Rattle.us_credit_rules.proofs.TalkerLemmas.{no_talker, one_talker, own_talker, talker_more}
use Rattle.us_credit_rules.proofs.talkers.talkers_of.Goals as goal
use Rattle.us_credit_rules.proofs.talkers.talkers_of.Goals.{then-tells_activity+in_ok-push, else-tells_activity}

pub overflow_cast-word : goal.overflow_cast-word
overflow_cast-word c =
    let few = few_of c.args.config.now c.flows-flow-items.result.now c.loop-flow.flow-index c.flow-item.result
    c.flows-flow-items.ensures.value c.flows-flow-items.ensures.lawful c.loop-flow-test.true c.flow-item.is in
    omega (arith, few.1, c.words.ensures.value)

pub overflow_add-word : goal.overflow_add-word
overflow_add-word c =
    let few = few_of c.args.config.now c.flows-flow-items.result.now c.loop-flow.flow-index c.flow-item.result
    c.flows-flow-items.ensures.value c.flows-flow-items.ensures.lawful c.loop-flow-test.true c.flow-item.is in
    omega (
      arith,
      few.1,
      c.words.ensures.value,
      c.loop-flow.invariant.few,
      c.loop-flow-test.true,
      ap length c.flows-flow-items.ensures.value,
      c.flows-flow-items.ensures.lawful.few_flows,
    )

pub loop-flow-preserved : goal.loop-flow-preserved
loop-flow-preserved c =
    let flows = c.flows-flow-items.result.now in
    let flow = c.flow-item.result in
    let i = c.loop-flow.flow-index in
    let word = c.loop-flow.word in
    let talkers = c.loop-flow.talkers.items in
    let few = few_of c.args.config.now c.flows-flow-items.result.now c.loop-flow.flow-index c.flow-item.result
    c.flows-flow-items.ensures.value c.flows-flow-items.ensures.lawful c.loop-flow-test.true c.flow-item.is in
    let tells : c.tells_activity.result ≡ tells_activity flow.kind =
    c.tells_activity.ensures.value ∙ ap tells_activity c.kind.ensures.value in
    let put : c.if-tells_activity.talkers.items ≡ talkers ++ own_talker word flow =
    elim c.if-tells_activity.branch [
      | then-tells_activity+in_ok-push w ↦
          ap (λ v. v.items) w.talkers-is ∙ w.in_ok-push.ensures.items
          ∙ ap (λ id. talkers ++ record { id = id; word = word } ∷ []) w.id.ensures.value
          ∙ ap (λ own. talkers ++ own) (sym (one_talker word flow (sym tells ∙ w.if-tells_activity.true)))
      | else-tells_activity w ↦
          ap (λ v. v.items) w.talkers-is ∙ sym (append-nil talkers)
          ∙ ap (λ own. talkers ++ own) (sym (no_talker word flow (sym tells ∙ w.if-tells_activity.false)))
    ] in
    record {
      left = talker_more talkers c.if-tells_activity.talkers.items _ word c.words.result flows i flow c.loop-flow-test.true
          c.flow-item.is c.words.ensures.value put c.loop-flow.invariant.left;
      few = omega (
        arith,
        few.1,
        c.words.ensures.value,
        c.loop-flow.invariant.few,
      );
    }
