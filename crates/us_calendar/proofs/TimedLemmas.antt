-- An occurrence by interval and place: its number, and when it is ideal.
use Rattle.std.proofs.Common.{◌≡◌, ◌+◌, ◌*◌, ◌/◌, ◌%◌, ◌^◌, ◌<◌, ◌≤◌, ap, ◌∙◌, sym, arith}
use Rattle.std.proofs.lemmas.Nat.{mul-le, div-mul-add, mod-mul-add}
use Rattle.us_calendar.specs.Entries.{Entry, IsEntry}
use Rattle.us_calendar.specs.Occurrences.{ideal}
use Rattle.us_calendar.specs.declared.occurrences.Occurrence.{Occurrence}
use Rattle.us_calendar.specs.Kept.{IsTimed, number_of}

pub interval_is : (e : Entry) (o : Occurrence) → IsTimed e o → number_of e o / e.grants ≡ o.i
interval_is e o is = div-mul-add o.i e.grants o.k is.grant

pub place_is : (e : Entry) (o : Occurrence) → IsTimed e o → number_of e o % e.grants ≡ o.k
place_is e o is = mod-mul-add o.i e.grants o.k is.grant

pub ideal_is : (e : Entry) (o : Occurrence) → IsTimed e o → ideal e (number_of e o) ≡ o.ideal
ideal_is e o is = ap (λ i. e.start + i * e.interval) (interval_is e o is) ∙ sym is.time

-- an interval lasts a quarter microsecond at least
pub interval_most : (e : Entry) (o : Occurrence) → IsTimed e o → o.i ≤ 1717721600
interval_most e o is =
    let product : o.i * 1 ≤ o.i * e.interval = mul-le o.i 1 o.i e.interval (omega arith) (omega (arith, is.entry.jitter)) in
    omega (arith, product, is.time, is.soon)

pub number_most : (e : Entry) (o : Occurrence) → IsTimed e o → number_of e o < 2 ^ 38
number_most e o is =
    let product : o.i * e.grants ≤ 1717721600 * 127 =
    mul-le o.i e.grants 1717721600 127 (interval_most e o is) is.entry.few_grants in
    omega (arith, product, is.grant, is.entry.few_grants)

-- the first one,
pub first_timed : (e : Entry) → IsEntry e → IsTimed e (record { i = 0; k = 0; ideal = e.start })
first_timed e known = record { entry = known; grant = omega (arith, known.grants); time = omega arith; soon = omega (arith, known.start) }

-- and the one behind one
module _ (e : Entry) (o : Occurrence) (is : IsTimed e o) (soon : o.ideal < 25 * 67108864) where
  pub next_grant : o.k + 1 < e.grants → IsTimed e (record { i = o.i; k = o.k + 1; ideal = o.ideal })
  next_grant more = record { entry = is.entry; grant = more; time = is.time; soon = is.soon }

  pub next_interval : IsTimed e (record { i = o.i + 1; k = 0; ideal = o.ideal + e.interval })
  next_interval =
      let later : (o.i + 1) * e.interval ≡ o.i * e.interval + e.interval = grind arith in
      record {
        entry = is.entry;
        grant = omega (arith, is.entry.grants);
        time = omega (arith, is.time, later);
        soon = omega (arith, soon, is.entry.interval);
      }

  pub next_number : e.grants ≤ o.k + 1 → (o.i + 1) * e.grants + 0 ≡ number_of e o + 1
  next_number last =
      let more : (o.i + 1) * e.grants ≡ o.i * e.grants + e.grants = grind arith in
      omega (arith, more, last, is.grant)

pub ruleset timed_facts = (first_timed, next_grant, next_interval, next_number, interval_most)

pub ruleset told_facts = (interval_is, place_is, ideal_is)
