-- SIDs that are kept, with what each asks for.
use Rattle.std.proofs.Common.{◌≡◌, ℕ, zero, suc, ◌<◌, List, [], ◌∷◌, length, get_or, set, replicate, ◌∙◌, arith}
use Rattle.std.specs.List.{AllByRecursion}
use Rattle.std.proofs.lemmas.List.{length-set, length-replicate}
use Rattle.us_flows.specs.Tables.{Tables}
use Rattle.us_flows.specs.Clusters.{lookup}
use Rattle.us_requests.specs.declared.known_sids.KnownSid.{KnownSid}
use Rattle.us_requests.specs.Outcomes.{AreKnown}

all-same : {A : Type 0} (P : A → Type 0) (n : ℕ) (x : A) → P x → AllByRecursion P (replicate n x)
all-same P zero x holds = tt
all-same P (suc n) x holds = (holds, all-same P n x holds)

all-at : {A : Type 0} (P : A → Type 0) (xs : List A) (i : ℕ) (d : A) → i < length xs → AllByRecursion P xs →
    P (get_or xs i d)
all-at P [] i d within all = absurd (omega (arith, within))
all-at P (x ∷ xs) zero d within all = all.0
all-at P (x ∷ xs) (suc i) d within all = all-at P xs i d (omega (arith, within)) all.1

all-set : {A : Type 0} (P : A → Type 0) (xs : List A) (i : ℕ) (y : A) → P y → AllByRecursion P xs →
    AllByRecursion P (set xs i y)
all-set P [] i y holds all = tt
all-set P (x ∷ xs) zero y holds all = (holds, all.1)
all-set P (x ∷ xs) (suc i) y holds all = (all.0, all-set P xs i y holds all.1)

abbrev Kept : Tables → KnownSid → Type 0
Kept t k = k.found ≡ lookup t k.channel k.sid

pub all-known : (t : Tables) (k : KnownSid) → k.found ≡ lookup t k.channel k.sid → AreKnown t (replicate 4096 k)
all-known t k is = record { count = length-replicate 4096 k; found = all-same (Kept t) 4096 k is }

pub known-at : (t : Tables) (known : List KnownSid) (place : ℕ) (d : KnownSid) → AreKnown t known → place < 4096 →
    (get_or known place d).found ≡ lookup t (get_or known place d).channel (get_or known place d).sid
known-at t known place d are within = all-at (Kept t) known place d (omega (arith, are.count, within)) are.found

pub known-set : (t : Tables) (known : List KnownSid) (place : ℕ) (k : KnownSid) → AreKnown t known →
    k.found ≡ lookup t k.channel k.sid → AreKnown t (set known place k)
known-set t known place k are is = record {
  count = length-set known place k ∙ are.count;
  found = all-set (Kept t) known place k is are.found;
}
