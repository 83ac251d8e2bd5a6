-- What is planned first of a flow with a minimum rate, round after round: its second bucket has it, and is left with the rest.
use Rattle.std.proofs.Common.{◌≡◌, ℕ, zero, suc, ◌+◌, ◌<◌, ◌≤◌, List, [], ◌∷◌, ◌++◌, map, take, Some, None, append_assoc, refl, ap, ap₂, sym, subst, ◌∙◌, ne_eqb, arith}
use Rattle.std.specs.Prelude.{slice_get, slice_index, option_map}
use Rattle.std.specs.List.{AllByRecursion}
use Rattle.std.proofs.lemmas.List.{append-nil}
use Rattle.std.proofs.lemmas.Option.{slice_get-map, get_or_from_slice_get}
use Rattle.us_flows.specs.Tables.{Tables, FlowTable}
use Rattle.us_bucket.specs.Levels.{Level, full, refilled, spent, reserve_in, Has}
use Rattle.us_bucket.specs.Allowances.{Limit, KeepsBound}
use Rattle.us_bucket.proofs.LevelLemmas.{has_reserved}
use Rattle.us_bucket.proofs.ReserveLaws.{IsBehind, behind-none, behind-one, keeps-one, reserve-most}
use Rattle.us_round.specs.Rounds.{State, opening, brought, begun, builds_of, unreserved, reserved_in, round_from, round_of}
use Rattle.us_round.specs.States.{IsState, AreSound}
use Rattle.us_round.specs.ScheduleLaws.{begun_rounds}
use Rattle.us_round.specs.MinimumRates.{min_limit, IsMostNext, MinimumRatesAreKept}
use Rattle.us_output.proofs.PartLemmas.{all_weaker}
use Rattle.us_round.proofs.ScheduleLaws.{rounds_are_sound}

-- One round.

-- what the plan reserves leaves one bucket
unreserved_at : (reserved : ℕ → ℕ) (from : ℕ) (buckets : List Level) (n : ℕ) (l : Level) → slice_get buckets n ≡ Some l →
    slice_get (unreserved reserved from buckets) n ≡ Some (spent (reserved (from + n)) l)
unreserved_at reserved from [] n l at = absurd (cc at)
unreserved_at reserved from (bucket ∷ more) zero l at =
    let same : bucket ≡ l = cc in
    let own : from ≡ from + 0 = omega arith in
    ap₂ (λ k b. Some (spent (reserved k) b)) own same
unreserved_at reserved from (bucket ∷ more) (suc n) l at =
    let own : from + 1 + n ≡ from + suc n = omega arith in
    unreserved_at reserved (from + 1) more n l at ∙ ap (λ k. Some (spent (reserved k) l)) own

after_round : (s : State) (cut : List ℕ) (place : ℕ) (l : Level) → slice_get (brought s s.reserves) place ≡ Some l →
    slice_get (round_of s cut).state.reserves place ≡ Some (spent (reserved_in (begun s cut) place) l)
unfolding round_of round_from
after_round s cut place l at =
    let own : 0 + place ≡ place = omega arith in
    unreserved_at (reserved_in (begun s cut)) 0 (brought s s.reserves) place l at
    ∙ ap (λ k. Some (spent (reserved_in (begun s cut) k) l)) own

-- and before it, in all rounds but the first, the bucket grows
grown_later : (s : State) (place : ℕ) (l : Level) → 1 ≤ s.round → slice_get s.reserves place ≡ Some l →
    slice_get (brought s s.reserves) place ≡ Some (refilled s.tables.round_ticks l)
grown_later s place l later at =
    rw (ne_eqb s.round 0 (omega (arith, later)))
    (slice_get-map (refilled s.tables.round_ticks) s.reserves place ∙ ap (option_map (refilled s.tables.round_ticks)) at)

opening_reserve : (t : Tables) (place : ℕ) (flow : FlowTable) → slice_get t.flows place ≡ Some flow →
    slice_get (opening t).reserves place ≡ Some (full flow.min_rate flow.burst)
opening_reserve t place flow at =
    slice_get-map (λ (flow : FlowTable). full flow.min_rate flow.burst) t.flows place
    ∙ ap (option_map (λ (flow : FlowTable). full flow.min_rate flow.burst)) at

-- All rounds.

module _ (t : Tables) (place : ℕ) (flow : FlowTable) (some : 0 < flow.min_rate) where
  abbrev limit : Limit
  limit = min_limit t flow

  abbrev shares : List State → List ℕ
  shares rounds = map (λ s. reserved_in s place) rounds

  -- of rounds behind others with these shares
  record Keeps (before : List ℕ) (rounds : List State) : Type 0 where
    pub keeps : KeepsBound limit (before ++ shares rounds)
    pub most : (round : ℕ) (s : State) → slice_get rounds round ≡ Some s →
        IsMostNext limit (before ++ take round (shares rounds)) (slice_index (map reserve_in s.reserves) place)

  -- none,
  keeps_none : (before : List ℕ) → KeepsBound limit before → Keeps before []
  keeps_none before all = record {
    keeps = subst (KeepsBound limit) (sym (append-nil before)) all;
    most = λ round s is. let never : None ≡ Some s = is in absurd cc;
  }

  -- and one more
  keeps_more : (before : List ℕ) (l : Level) (now : State) (rounds : List State) → IsBehind limit before l →
      slice_get now.reserves place ≡ Some l → Keeps (before ++ reserved_in now place ∷ []) rounds → Keeps before (now ∷ rounds)
  keeps_more before l now rounds is at more = record {
    keeps = subst (KeepsBound limit) (append_assoc before (reserved_in now place ∷ []) (shares rounds)) more.keeps;
    most = each;
  }
    where
      own : slice_index (map reserve_in now.reserves) place ≡ reserve_in l
      own =
          get_or_from_slice_get (map reserve_in now.reserves) place (reserve_in l) 0
          (slice_get-map reserve_in now.reserves place ∙ ap (option_map reserve_in) at)

      each : (round : ℕ) (s : State) → slice_get (now ∷ rounds) round ≡ Some s →
          IsMostNext limit (before ++ take round (shares (now ∷ rounds))) (slice_index (map reserve_in s.reserves) place)
      each zero s here =
          let same : Some now ≡ Some s = here in
          let equal : now ≡ s = cc in
          let best = reserve-most limit before l some is in
          let first : IsMostNext limit before (reserve_in l) = record { keeps = best.0; greatest = best.1 } in
          subst (λ (x : State). IsMostNext limit (before ++ []) (slice_index (map reserve_in x.reserves) place)) equal
          (subst (λ n. IsMostNext limit (before ++ []) n) (sym own)
          (subst (λ b. IsMostNext limit b (reserve_in l)) (sym (append-nil before)) first))
      each (suc round) s there =
          subst (λ b. IsMostNext limit b (slice_index (map reserve_in s.reserves) place))
          (append_assoc before (reserved_in now place ∷ []) (take round (shares rounds))) (more.most round s there)

  rounds_keep : (s : State) (cuts : List (List ℕ)) (before : List ℕ) (l : Level) → s.tables ≡ t →
      AllByRecursion (λ now. AreSound now (builds_of now)) (begun_rounds s cuts) →
      slice_get (brought s s.reserves) place ≡ Some l → IsBehind limit before l → KeepsBound limit before →
      Keeps before (begun_rounds s cuts)
  unfolding begun_rounds round_of round_from
  rounds_keep s [] before l tables sound at is all = keeps_none before all
  rounds_keep s (cut ∷ cuts) before l tables sound at is all =
      let now : State = begun s cut in
      let share : ℕ = reserved_in now place in
      let next : State = (round_of s cut).state in
      let left : Level = spent share l in
      let has : Has l share = has_reserved l share (sound.0.reserved place l at) in
      let ticks : refilled s.tables.round_ticks left ≡ refilled t.round_ticks left =
      ap (λ (u : Tables). refilled u.round_ticks left) tables in
      let grows : slice_get (brought next next.reserves) place ≡ Some (refilled t.round_ticks left) =
      grown_later next place left (omega arith) (after_round s cut place l at) ∙ ap Some ticks in
      keeps_more before l now (begun_rounds next cuts) is at
      (rounds_keep next cuts (before ++ share ∷ []) (refilled t.round_ticks left) tables sound.1 grows
      (behind-one limit before l share is has) (keeps-one limit before l share some is has))

pub minimum_rates_are_kept : MinimumRatesAreKept
minimum_rates_are_kept t cuts lawful long place flow at some =
    let limit : Limit = min_limit t flow in
    let sound : AllByRecursion (λ s. AreSound s (builds_of s)) (begun_rounds (opening t) cuts) =
    all_weaker (λ s. IsState s × AreSound s (builds_of s)) (λ s. AreSound s (builds_of s)) (λ s is. is.1)
    (begun_rounds (opening t) cuts) (rounds_are_sound t cuts lawful long) in
    let all = rounds_keep t place flow some (opening t) cuts [] (full flow.min_rate flow.burst) refl sound
    (opening_reserve t place flow at) (behind-none limit) (λ i j order inside. absurd (omega (arith, inside))) in
    record { keeps = all.keeps; most = all.most }
