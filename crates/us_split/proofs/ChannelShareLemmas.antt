-- The shares of a turn, channel by channel: channels with ids that are apart have different shares of it.
use Rattle.std.proofs.Common.{◌≡◌, ◌≢◌, ℕ, suc, ◌+◌, ◌==◌, ◌≤◌, Bool, true, false, nat_lt, List, [], ◌∷◌, length, map, Option, Some, None, option_map, refl, sym, ap, ◌∙◌, inl, inr, eq-eqb, ne_eqb, lt-ltb, le-ltb, arith}
use Rattle.std.specs.Prelude.{sum, sum_by, position}
use Rattle.std.specs.List.{AllByRecursion, position_or_len}
use Rattle.std.proofs.lemmas.Bool.{cases_eq, cases_lt}
use Rattle.std.proofs.lemmas.List.Sums.{sum_by-cons}
use Rattle.us_flows.specs.declared.channels.Channel.{Channel}
use Rattle.us_flows.specs.Lawful.{AreApart}
use Rattle.us_split.specs.Plans.{Planned, share_at, share_on}
use Rattle.us_split.proofs.DivisionLemmas.{sum-cons}

-- positions

pub first_place : (p : ℕ → Bool) (x : ℕ) (xs : List ℕ) → p x ≡ true → position p (x ∷ xs) ≡ Some 0
first_place p x xs t =
    let within : nat_lt 0 (suc (length xs)) ≡ true = lt-ltb 0 (suc (length xs)) (omega arith) in
    rw (t, within) refl

pub later_place : (p : ℕ → Bool) (x : ℕ) (xs : List ℕ) → p x ≡ false → position p (x ∷ xs) ≡ option_map suc (position p xs)
later_place p x xs f =
    let k : ℕ = position_or_len p xs in
    let next : 1 + k ≡ suc k = omega arith in
    elim (cases_lt k (length xs)) [
      | inl within ↦
          let here : nat_lt k (length xs) ≡ true = lt-ltb k (length xs) within in
          let there : nat_lt (suc k) (suc (length xs)) ≡ true = lt-ltb (suc k) (suc (length xs)) (omega arith) in
          rw (f, next, there, here) refl
      | inr past ↦
          let here : nat_lt k (length xs) ≡ false = le-ltb k (length xs) past in
          let there : nat_lt (suc k) (suc (length xs)) ≡ false = le-ltb (suc k) (suc (length xs)) (omega arith) in
          rw (f, next, there, here) refl
    ]

later_share : (share : ℕ) (shares : List ℕ) (found : Option ℕ) →
    share_at (share ∷ shares) (option_map suc found) ≡ share_at shares found
later_share share shares None = refl
later_share share shares (Some k) = refl

-- the share on the channel with an id, of shares on these channels
abbrev pub share_for : List ℕ → List ℕ → Channel → ℕ
share_for ids shares c = share_at shares (position (λ id. id == c.id) ids)

pub first_share : (id share : ℕ) (ids shares : List ℕ) (c : Channel) → c.id ≡ id → share_for (id ∷ ids) (share ∷ shares) c ≡ share
first_share id share ids shares c same =
    ap (share_at (share ∷ shares)) (first_place (λ i. i == c.id) id ids (eq-eqb id c.id (sym same)))

pub other_share : (id share : ℕ) (ids shares : List ℕ) (c : Channel) → c.id ≢ id →
    share_for (id ∷ ids) (share ∷ shares) c ≡ share_for ids shares c
other_share id share ids shares c other =
    ap (share_at (share ∷ shares)) (later_place (λ i. i == c.id) id ids (ne_eqb id c.id (λ same. other (sym same)))) ∙
    later_share share shares (position (λ i. i == c.id) ids)

-- sums

no_sum : (f : Channel → ℕ) → ((c : Channel) → f c ≡ 0) → (channels : List Channel) → sum_by f channels ≡ 0
no_sum f none [] = refl
no_sum f none (c ∷ channels) = omega (arith, sum_by-cons f c channels, none c, no_sum f none channels)

others_sum : (f g : Channel → ℕ) (id : ℕ) → ((c : Channel) → c.id ≢ id → f c ≡ g c) → (channels : List Channel) →
    AllByRecursion (λ other. id ≢ other) (map (λ c. c.id) channels) → sum_by f channels ≡ sum_by g channels
others_sum f g id same [] apart = refl
others_sum f g id same (c ∷ channels) apart =
    omega (arith, sum_by-cons f c channels, sum_by-cons g c channels, same c (λ e. apart.0 (sym e)), others_sum f g id same channels apart.1)

one_more : (f g : Channel → ℕ) (id share : ℕ) → ((c : Channel) → c.id ≡ id → f c ≡ share) →
    ((c : Channel) → c.id ≢ id → f c ≡ g c) → (channels : List Channel) → AreApart (map (λ c. c.id) channels) →
    sum_by f channels ≤ share + sum_by g channels
one_more f g id share own same [] apart = omega arith
one_more f g id share own same (c ∷ channels) apart = elim (cases_eq c.id id) [
  | inl here ↦
      let rest : sum_by f channels ≡ sum_by g channels =
      others_sum f g c.id (λ x other. same x (λ e. other (e ∙ sym here))) channels apart.0 in
      omega (arith, sum_by-cons f c channels, sum_by-cons g c channels, own c here, rest)
  | inr other ↦
      omega (arith, sum_by-cons f c channels, sum_by-cons g c channels, same c other, one_more f g id share own same channels apart.1)
]

shares_apart : (ids shares : List ℕ) (channels : List Channel) → AreApart (map (λ c. c.id) channels) →
    sum_by (share_for ids shares) channels ≤ sum shares
shares_apart [] shares channels apart = omega (arith, no_sum (share_for [] shares) (λ c. refl) channels)
shares_apart (id ∷ ids) [] channels apart =
    omega (arith, no_sum (share_for (id ∷ ids) []) (λ c. none (position (λ i. i == c.id) (id ∷ ids))) channels)
  where
    none : (found : Option ℕ) → share_at [] found ≡ 0
    none None = refl
    none (Some k) = refl
shares_apart (id ∷ ids) (share ∷ shares) channels apart =
    omega (arith, one_more (share_for (id ∷ ids) (share ∷ shares)) (share_for ids shares) id share (first_share id share ids shares) (other_share id share ids shares) channels apart, shares_apart ids shares channels apart, sum-cons share shares)

-- What a turn plans on channels with ids that are apart is no more than all its shares.
pub channel_shares : (planned : Planned) (channels : List Channel) → AreApart (map (λ c. c.id) channels) →
    sum_by (λ c. share_on c.id planned) channels ≤ sum planned.shares
channel_shares planned channels apart =
    shares_apart planned.turn.cluster.flow.channels planned.shares channels apart
