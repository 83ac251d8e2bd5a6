-- What a line of a calendar names: the occurrence that the calendar settled, and nothing else.
use Rattle.std.proofs.Common.{◌≡◌, ℕ, zero, suc, ◌+◌, ◌*◌, ◌/◌, ◌%◌, ◌≤◌, ◌==◌, nat_lt, ◌&&◌, ◌||◌, Bool, true, false, refl, sym, ap, ap₂, ◌∙◌, arith, inl, inr, lt-ltb, le-ltb, eq-eqb, ne_eqb, eqb-true, div-add-mod'}
use Rattle.std.proofs.lemmas.Bool.{and_parts, and_right, cases_eq, cases_lt, or_cases}
use Rattle.std.proofs.lemmas.Nat.{div-mul-add, mod-mul-add, mod_below}
use Rattle.us_flows.specs.declared.channels.Channel.{Channel}
use Rattle.us_calendar.specs.declared.kinds.Kind.{Kind}
use Rattle.us_calendar.specs.declared.kinds.Kind.TheVariants as kinds
use Rattle.us_calendar.specs.declared.settled.Settled.{Settled}
use Rattle.us_calendar.specs.declared.settled.Settled.TheVariants as settled
use Rattle.us_calendar.specs.Entries.{Entry, rank_of}
use Rattle.us_calendar.specs.Runs.{is_name, grants, misses}
use Rattle.us_channel.specs.Placements.{PlacedClaim}
use Rattle.us_output.specs.declared.rows.EntryWord.TheVariants as words
use Rattle.us_output.specs.Outputs.{entry_word, settled_row, grant_row}
use Rattle.us_lawful.specs.CalendarLines.{is_word, is_named, names, number_of}

-- Kinds.

-- the kind of a rank
kind_at : ℕ → Kind
kind_at zero = kinds.Unsolicited
kind_at (suc zero) = kinds.Activity
kind_at (suc (suc zero)) = kinds.RealTimePoll
kind_at (suc (suc (suc zero))) = kinds.NonRealTimePoll
kind_at _ = kinds.Station

unranked : (kind : Kind) → kind_at (rank_of kind) ≡ kind
unfolding kind_at
unranked kinds.Unsolicited = refl
unranked kinds.Activity = refl
unranked kinds.RealTimePoll = refl
unranked kinds.NonRealTimePoll = refl
unranked kinds.Station = refl

-- kinds with one rank are one
pub same_kind : (a b : Kind) → rank_of a ≡ rank_of b → a ≡ b
same_kind a b same = sym (unranked a) ∙ ap kind_at same ∙ unranked b

-- the word of a kind is that of an entry of this kind alone
pub word_is : (a b : Kind) → is_word a (entry_word b) ≡ (rank_of b == rank_of a)
word_is kinds.Unsolicited kinds.Unsolicited = refl
word_is kinds.Unsolicited kinds.Activity = refl
word_is kinds.Unsolicited kinds.RealTimePoll = refl
word_is kinds.Unsolicited kinds.NonRealTimePoll = refl
word_is kinds.Unsolicited kinds.Station = refl
word_is kinds.Activity kinds.Unsolicited = refl
word_is kinds.Activity kinds.Activity = refl
word_is kinds.Activity kinds.RealTimePoll = refl
word_is kinds.Activity kinds.NonRealTimePoll = refl
word_is kinds.Activity kinds.Station = refl
word_is kinds.RealTimePoll kinds.Unsolicited = refl
word_is kinds.RealTimePoll kinds.Activity = refl
word_is kinds.RealTimePoll kinds.RealTimePoll = refl
word_is kinds.RealTimePoll kinds.NonRealTimePoll = refl
word_is kinds.RealTimePoll kinds.Station = refl
word_is kinds.NonRealTimePoll kinds.Unsolicited = refl
word_is kinds.NonRealTimePoll kinds.Activity = refl
word_is kinds.NonRealTimePoll kinds.RealTimePoll = refl
word_is kinds.NonRealTimePoll kinds.NonRealTimePoll = refl
word_is kinds.NonRealTimePoll kinds.Station = refl
word_is kinds.Station kinds.Unsolicited = refl
word_is kinds.Station kinds.Activity = refl
word_is kinds.Station kinds.RealTimePoll = refl
word_is kinds.Station kinds.NonRealTimePoll = refl
word_is kinds.Station kinds.Station = refl

-- no entry has the word of a request
pub no_request : (kind : Kind) → is_word kind words.Requested ≡ false
no_request kinds.Unsolicited = refl
no_request kinds.Activity = refl
no_request kinds.RealTimePoll = refl
no_request kinds.NonRealTimePoll = refl
no_request kinds.Station = refl

-- Names.

-- interval and place of a number, by a product or by quotient and rest
pub number_is : (g n i k : ℕ) → 1 ≤ g → (nat_lt k g && (i * g + k == n)) ≡ ((i == n / g) && (k == n % g))
number_is g n i k some = elim (cases_lt k g) [
  | inl inside ↦ elim (cases_eq (i * g + k) n) [
    | inl same ↦
        let interval : i ≡ n / g = sym (div-mul-add i g k inside) ∙ ap (λ m. m / g) same in
        let place : k ≡ n % g = sym (mod-mul-add i g k inside) ∙ ap (λ m. m % g) same in
        rw (lt-ltb k g inside, eq-eqb (i * g + k) n same, eq-eqb i (n / g) interval, eq-eqb k (n % g) place) refl
    | inr other ↦ rw (lt-ltb k g inside, ne_eqb (i * g + k) n other) (elim (cases_eq i (n / g)) [
      | inl interval ↦
          let apart : k ≡ n % g → ⊥ = λ place. other (ap₂ (λ i k. i * g + k) interval place ∙ div-add-mod' n g) in
          sym (and_right (i == n / g) (k == n % g) (ne_eqb k (n % g) apart))
      | inr apart ↦ rw (ne_eqb i (n / g) apart) refl
    ])
  ]
  | inr past ↦
      let apart : k ≡ n % g → ⊥ = λ same. omega (arith, mod_below n g some, same, past) in
      rw (le-ltb k g past) (sym (and_right (i == n / g) (k == n % g) (ne_eqb k (n % g) apart)))
]

regrouped : (a b c d : Bool) → (a && (b && (c && d))) ≡ (a && b && c && d)
regrouped true true c d = refl
regrouped true false c d = refl
regrouped false b c d = refl

-- a line tells the name that the calendar tells
pub named_is : (e : Entry) (n : ℕ) (kind : Kind) (id i k : ℕ) → 1 ≤ e.grants →
    is_named e n (entry_word kind) id i k ≡ is_name e n (rank_of kind) id i k
named_is e n kind id i k some =
    ap₂ (λ word number. word && ((id == e.id) && number)) (word_is e.kind kind) (number_is e.grants n i k some)
    ∙ regrouped (rank_of kind == rank_of e.kind) (id == e.id) (i == n / e.grants) (k == n % e.grants)

-- a calendar's line names what the calendar settled
pub row_names : (e : Entry) (n round : ℕ) (c : Channel) (s : Settled) → 1 ≤ e.grants →
    names e n (settled_row round c s) ≡ (grants e n s || misses e n s)
row_names e n round c (settled.Granted kind id i k start slots owner) some =
    named_is e n kind id i k some ∙ alone (is_name e n (rank_of kind) id i k)
  where
    alone : (b : Bool) → b ≡ (b || false)
    alone true = refl
    alone false = refl
row_names e n round c (settled.Missed kind id i k) some = named_is e n kind id i k some

-- and the line of a request names nothing
pub request_names : (e : Entry) (n round : ℕ) (c : Channel) (g : PlacedClaim) → names e n (grant_row round c g) ≡ false
request_names e n round c g =
    ap (λ word. word && ((g.claimant.flow == e.id) && (nat_lt 0 e.grants && (g.claimant.list * e.grants + 0 == n))))
    (no_request e.kind)

-- What a name tells.

-- rank, id, interval and place of occurrence `n` of an entry
pub record IsNameOf (e : Entry) (n r key i k : ℕ) : Type 0 where
  pub rank : r ≡ rank_of e.kind
  pub id : key ≡ e.id
  pub number : i * e.grants + k ≡ n

pub name_tells : (e : Entry) (n rank id i k : ℕ) → is_name e n rank id i k ≡ true → IsNameOf e n rank id i k
name_tells e n rank id i k named =
    let numbers = and_parts ((rank == rank_of e.kind) && (id == e.id) && (i == n / e.grants)) (k == n % e.grants) named in
    let intervals = and_parts ((rank == rank_of e.kind) && (id == e.id)) (i == n / e.grants) numbers.0 in
    let kinds = and_parts (rank == rank_of e.kind) (id == e.id) intervals.0 in
    let interval : i ≡ n / e.grants = eqb-true i (n / e.grants) intervals.1 in
    let place : k ≡ n % e.grants = eqb-true k (n % e.grants) numbers.1 in
    record {
      rank = eqb-true rank (rank_of e.kind) kinds.0;
      id = eqb-true id e.id kinds.1;
      number = ap₂ (λ i k. i * e.grants + k) interval place ∙ div-add-mod' n e.grants;
    }

-- what is told of an occurrence has its number,
pub number_told : (e : Entry) (n round : ℕ) (c : Channel) (s : Settled) → (grants e n s || misses e n s) ≡ true →
    number_of e (settled_row round c s) ≡ n
number_told e n round c (settled.Granted kind id i k start slots owner) named =
    elim (or_cases (is_name e n (rank_of kind) id i k) false named) [
      | inl is ↦ (name_tells e n (rank_of kind) id i k is).number
      | inr never ↦ absurd (cc never)
    ]
number_told e n round c (settled.Missed kind id i k) named = (name_tells e n (rank_of kind) id i k named).number

-- and the kind and the id of its entry
rank_told : Settled → ℕ
rank_told (settled.Granted kind id i k start slots owner) = rank_of kind
rank_told (settled.Missed kind id i k) = rank_of kind

id_told : Settled → ℕ
id_told (settled.Granted kind id i k start slots owner) = id
id_told (settled.Missed kind id i k) = id

entry_told : (e : Entry) (n : ℕ) (s : Settled) → (grants e n s || misses e n s) ≡ true →
    (rank_told s ≡ rank_of e.kind) × (id_told s ≡ e.id)
unfolding rank_told id_told
entry_told e n (settled.Granted kind id i k start slots owner) named =
    elim (or_cases (is_name e n (rank_of kind) id i k) false named) [
      | inl is ↦
          let tells = name_tells e n (rank_of kind) id i k is in
          (tells.rank, tells.id)
      | inr never ↦ absurd (cc never)
    ]
entry_told e n (settled.Missed kind id i k) named =
    let tells = name_tells e n (rank_of kind) id i k named in
    (tells.rank, tells.id)

-- two entries of which it names an occurrence each have one kind and one id
pub same_told : (e f : Entry) (n m : ℕ) (s : Settled) → (grants e n s || misses e n s) ≡ true →
    (grants f m s || misses f m s) ≡ true → (e.kind ≡ f.kind) × (e.id ≡ f.id)
same_told e f n m s one other =
    let first = entry_told e n s one in
    let second = entry_told f m s other in
    (same_kind e.kind f.kind (sym first.0 ∙ second.0), sym first.1 ∙ second.1)
