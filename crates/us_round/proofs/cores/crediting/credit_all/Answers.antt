use Rattle.std.proofs.Common.{◌≡◌, ℕ, ◌+◌, ◌<◌, ◌∷◌, ◌++◌, [], List, drop, take, length, slice_index_or, sym, ap, subst, ◌∙◌, arith}
use Rattle.std.specs.List.{AllByRecursion}
use Rattle.std.proofs.lemmas.List.{drop_more, drop_all, take_more}
use Rattle.us_channel.specs.Channels.{Built, IsBuilt}
use Rattle.us_output.proofs.PartLemmas.{all_append}
use Rattle.us_round.specs.Cores.{IsCrediting}
use Rattle.us_round.specs.Rounds.{all_grants}
use Rattle.us_round.proofs.CreditingLemmas.{channel_may, crediting_channel, crediting_end}
use Rattle.us_round.proofs.cores.crediting.credit_all.Goals as goal

-- the channels that are left begin with this one,
rest : (built : List Built) (at : ℕ) (b : Built) → at < length built → b ≡ slice_index_or built at b →
    drop at built ≡ b ∷ drop (at + 1) built
rest built at b inside is = drop_more built at b inside ∙ ap (λ x. x ∷ drop (at + 1) built) (sym is)

-- and those before end with it
known_more : (built : List Built) (at : ℕ) (b : Built) → at < length built → b ≡ slice_index_or built at b →
    IsBuilt b → AllByRecursion IsBuilt (take at built) → AllByRecursion IsBuilt (take (at + 1) built)
known_more built at b inside is known before =
    subst (AllByRecursion IsBuilt) (sym (take_more built at b inside ∙ ap (λ x. take at built ++ x ∷ []) (sym is)))
    (all_append IsBuilt (take at built) (b ∷ []) before (known, tt))

pub credit_grants-requires : goal.credit_grants-requires
credit_grants-requires c =
    let b = c.channel-item.result in
    let all = c.args.built.now in
    let more = drop (c.loop-channel.channel-index + 1) all in
    let same = rest all c.loop-channel.channel-index b c.loop-channel-test.true c.channel-item.is in
    let is = subst (λ bs. IsCrediting (all_grants bs) (all_grants all) c.args.askers.now c.loop-channel.askers
    c.args.buckets.now c.loop-channel.buckets) same c.loop-channel.invariant.0 in
    channel_may b more (all_grants all) c.grants.result.now c.args.askers.now c.loop-channel.askers c.args.buckets.now
    c.loop-channel.buckets (rw c.channel_round.ensures at c.grants.ensures.value) is

pub loop-channel-preserved : goal.loop-channel-preserved
loop-channel-preserved c =
    let b = c.channel-item.result in
    let all = c.args.built.now in
    let at = c.loop-channel.channel-index in
    let more = drop (at + 1) all in
    let same = rest all at b c.loop-channel-test.true c.channel-item.is in
    let is = subst (λ bs. IsCrediting (all_grants bs) (all_grants all) c.args.askers.now c.loop-channel.askers
    c.args.buckets.now c.loop-channel.buckets) same c.loop-channel.invariant.0 in (
      crediting_channel b more (all_grants all) c.grants.result.now c.args.askers.now c.loop-channel.askers
          c.credit_grants.new.askers c.args.buckets.now c.loop-channel.buckets c.credit_grants.new.buckets
          (rw c.channel_round.ensures at c.grants.ensures.value) is c.credit_grants.ensures,
      known_more all at b c.loop-channel-test.true c.channel-item.is
          (rw c.channel_round.ensures at c.grants.ensures.known) c.loop-channel.invariant.1,
    )

pub returns-clause-credited : goal.returns-clause-credited
returns-clause-credited c =
    let all = c.args.built.now in
    let none = drop_all c.loop-channel.channel-index all (omega (arith, c.loop-channel-test.false)) in
    crediting_end (all_grants all) c.args.askers.now c.loop-channel.askers c.args.buckets.now c.loop-channel.buckets
    (subst (λ bs. IsCrediting (all_grants bs) (all_grants all) c.args.askers.now c.loop-channel.askers c.args.buckets.now
    c.loop-channel.buckets) none c.loop-channel.invariant.0)
