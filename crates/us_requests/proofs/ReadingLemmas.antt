-- Reading a trace: what is answered where its source was not read to its end.
use Rattle.std.proofs.Common.{◌≡◌, ℕ, suc, ◌<◌, List, length, replicate, Option, Some, None, refl, sym, ◌∙◌, inl, arith}
use Rattle.std.specs.Prelude.{Result, Ok, Err, IsErrAnd, IfSome}
use Rattle.std.proofs.lemmas.List.{length-replicate}
use Rattle.us_slots.specs.declared.devices.reading.ReadFault.{ReadFault}
use Rattle.us_slots.specs.declared.devices.reading.ReadFault.TheVariants as read_fault
use Rattle.us_flows.specs.Tables.{Tables}
use Rattle.us_requests.specs.declared.faults.TraceFault.{TraceFault}
use Rattle.us_requests.specs.declared.faults.TraceFault.TheVariants as fault
use Rattle.us_requests.specs.Traces.{TraceAsks}
use Rattle.us_requests.specs.Readings.{Reads, TellsOf, max_bytes, of_read_fault}

-- a text longer than a number
long-text : (n : ℕ) → (text : List ℕ) × (n < length text)
long-text n = (replicate (suc n) 0, omega (arith, length-replicate {A = ℕ} (suc n) 0))

too-long : (told : Option (List ℕ)) → IfSome told (λ bytes. max_bytes < length bytes) →
    (text : List ℕ) × TellsOf told text × (max_bytes < length text)
too-long None long = let text : (text : List ℕ) × (max_bytes < length text) = long-text max_bytes in (
  text.0,
  tt,
  text.1,
)
too-long (Some bytes) long = (bytes, refl, long)

pub not-read : (t : Tables) (rounds : ℕ) (told : Option (List ℕ)) (r : Result TraceAsks TraceFault) (f : ReadFault) →
    IsErrAnd r (λ given. given ≡ of_read_fault f) →
    (f ≡ read_fault.TooLarge → IfSome told (λ bytes. max_bytes < length bytes)) → Reads t rounds told r
not-read t rounds told (Ok trace) f given large = absurd given
not-read t rounds told (Err g) read_fault.TooLarge given large =
    let long : (text : List ℕ) × TellsOf told text × (max_bytes < length text) = too-long told (large refl) in
    rw given (long.0, long.1, inl long.2)
not-read t rounds told (Err g) read_fault.Failed given large = rw given tt
not-read t rounds told (Err g) read_fault.NoMemory given large = rw given tt

-- where that is want of memory, so was the answer of the reading of its source
pub was_wanting : (r : Result TraceAsks TraceFault) (f : ReadFault) → IsErrAnd r (λ given. given ≡ of_read_fault f) →
    r ≡ Err fault.NoMemory → f ≡ read_fault.NoMemory
was_wanting (Ok trace) f given is = absurd given
was_wanting (Err g) read_fault.TooLarge given is =
    let same : g ≡ fault.NoMemory = cc is in
    let never : fault.TooLarge ≡ fault.NoMemory = sym given ∙ same in
    absurd (cc never)
was_wanting (Err g) read_fault.Failed given is =
    let same : g ≡ fault.NoMemory = cc is in
    let never : fault.Read ≡ fault.NoMemory = sym given ∙ same in
    absurd (cc never)
was_wanting (Err g) read_fault.NoMemory given is = refl
