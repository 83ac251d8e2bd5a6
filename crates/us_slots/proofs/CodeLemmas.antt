-- How many bytes are sent for a burst's bytes, and how many bytes are sent as at most so many: each is the other's
-- inverse.
use Rattle.std.proofs.Common.{◌≡◌, ℕ, ◌+◌, ◌-◌, ◌*◌, ◌/◌, ◌%◌, ◌<◌, ◌≤◌, true, false, arith, refl, ap, inl, inr}
use Rattle.std.specs.Int.{div_ceil}
use Rattle.std.proofs.lemmas.Nat.{mul-le, mod_below, div-add-mod'}
use Rattle.std.proofs.lemmas.Bool.{cases_lt, cases_Bool}
use Rattle.us_slots.specs.Bursts.{BurstProfile, IsBurstProfile, codeword_of, shortened_codeword_of, coded_length}
use Rattle.us_slots.specs.Capacities.{Carries}
use Rattle.us_slots.proofs.RoundingLemmas.{ceil-fits, ceil-least, floor-fits, floor-most}

-- each further one adds a whole length
one_more : (a b long : ℕ) → a < b → a * long + long ≤ b * long
one_more a b long h =
    let product : (a + 1) * long ≤ b * long = mul-le (a + 1) long b long (omega arith) (omega arith) in
    omega arith

-- a shortened codeword is no longer than a full one
shortened-le : (p : BurstProfile) (bytes : ℕ) → IsBurstProfile p → bytes < p.fec_k →
    shortened_codeword_of p bytes ≤ codeword_of p
shortened-le p bytes lawful h = grind (arith, lawful.least_fec_k)

-- more bytes are a longer shortened codeword
shortened-mono : (p : BurstProfile) (fewer more : ℕ) → fewer ≤ more →
    shortened_codeword_of p fewer ≤ shortened_codeword_of p more
shortened-mono p fewer more h = grind arith

-- of the codewords that fit, each full, and a rest whose shortened codeword fits behind them: so many bytes are
-- sent as at most `room`
pub shortened-sent : (p : BurstProfile) (room rest bytes : ℕ) → IsBurstProfile p → rest < p.fec_k →
    shortened_codeword_of p rest ≤ room % codeword_of p → bytes ≤ room / codeword_of p * p.fec_k + rest →
    bytes / p.fec_k * codeword_of p + shortened_codeword_of p (bytes % p.fec_k) ≤ room
shortened-sent p room rest bytes lawful small fits h =
    let k : ℕ = p.fec_k in
    let long : ℕ = codeword_of p in
    let some : 0 < k = omega (arith, lawful.least_fec_k) in
    let parts : bytes / k * k + bytes % k ≡ bytes = div-add-mod' bytes k in
    let whole : room / long * long + room % long ≡ room = div-add-mod' room long in
    let below : bytes % k < k = mod_below bytes k some in
    elim (cases_lt (bytes / k) (room / long)) [
      | inl fewer ↦
          let product : bytes / k * long + long ≤ room / long * long = one_more (bytes / k) (room / long) long fewer in
          omega (arith, shortened-le p (bytes % k) lawful below)
      | inr most ↦ elim (cases_lt (room / long) (bytes / k)) [
        | inl more ↦
            let product : room / long * k + k ≤ bytes / k * k = one_more (room / long) (bytes / k) k more in
            absurd (omega arith)
        | inr least ↦
            let same : bytes / k ≡ room / long = omega arith in
            let left : bytes % k ≤ rest = omega (arith, ap (λ n. n * k) same) in
            let last : shortened_codeword_of p (bytes % k) ≤ shortened_codeword_of p rest = shortened-mono p (bytes % k) rest left in
            omega (arith, ap (λ n. n * long) same)
      ]
    ]

-- no more bytes than those are sent as at most `room`, where no more of the rest's shortened codeword fit
pub shortened-most : (p : BurstProfile) (room rest bytes : ℕ) → IsBurstProfile p →
    ((more : ℕ) → shortened_codeword_of p more ≤ room % codeword_of p → more ≤ rest) →
    bytes / p.fec_k * codeword_of p + shortened_codeword_of p (bytes % p.fec_k) ≤ room →
    bytes ≤ room / codeword_of p * p.fec_k + rest
shortened-most p room rest bytes lawful most h =
    let k : ℕ = p.fec_k in
    let long : ℕ = codeword_of p in
    let some : 0 < k = omega (arith, lawful.least_fec_k) in
    let parts : bytes / k * k + bytes % k ≡ bytes = div-add-mod' bytes k in
    let whole : room / long * long + room % long ≡ room = div-add-mod' room long in
    let below : bytes % k < k = mod_below bytes k some in
    let within : room % long < long = mod_below room long (omega arith) in
    elim (cases_lt (bytes / k) (room / long)) [
      | inl fewer ↦
          let product : bytes / k * k + k ≤ room / long * k = one_more (bytes / k) (room / long) k fewer in
          omega arith
      | inr least ↦ elim (cases_lt (room / long) (bytes / k)) [
        | inl more ↦
            let product : room / long * long + long ≤ bytes / k * long = one_more (room / long) (bytes / k) long more in
            absurd (omega arith)
        | inr most_full ↦
            let same : bytes / k ≡ room / long = omega arith in
            let last : shortened_codeword_of p (bytes % k) ≤ room % long = omega (arith, ap (λ n. n * long) same) in
            omega (arith, most (bytes % k) last, ap (λ n. n * k) same)
      ]
    ]

pub coded_length-plain : (p : BurstProfile) (bytes : ℕ) → p.fec_t ≡ 0 → coded_length p bytes ≡ bytes
unfolding coded_length
coded_length-plain p bytes e = rw e refl

pub coded_length-fixed : (p : BurstProfile) (bytes : ℕ) → 0 < p.fec_t → p.shortened ≡ false →
    coded_length p bytes ≡ div_ceil bytes p.fec_k * codeword_of p
unfolding coded_length
coded_length-fixed p bytes code fixed = grind arith

pub coded_length-shortened : (p : BurstProfile) (bytes : ℕ) → 0 < p.fec_t → p.shortened ≡ true →
    coded_length p bytes ≡ bytes / p.fec_k * codeword_of p + shortened_codeword_of p (bytes % p.fec_k)
unfolding coded_length
coded_length-shortened p bytes code short = grind arith

-- Without a code as many bytes are carried as there is room for.
pub plain_carries : (p : BurstProfile) (room : ℕ) → p.fec_t ≡ 0 → Carries p room room
plain_carries p room plain = record {
  fits = λ bytes h. rw (coded_length-plain p bytes plain) h;
  greatest = λ bytes h. rw (coded_length-plain p bytes plain) at h;
}

-- With a fixed last codeword the full codewords that fit are carried.
pub fixed_carries : (p : BurstProfile) (room : ℕ) → IsBurstProfile p → 0 < p.fec_t → p.shortened ≡ false →
    Carries p room (room / codeword_of p * p.fec_k)
fixed_carries p room lawful code fixed =
    let some : 0 < p.fec_k = omega (arith, lawful.least_fec_k) in
    let long : ℕ = codeword_of p in
    record {
      fits = λ bytes h. rw (coded_length-fixed p bytes code fixed) (floor-fits room long (div_ceil bytes p.fec_k) (ceil-least bytes p.fec_k (room / long) some h));
      greatest = λ bytes h. ceil-fits bytes p.fec_k (room / long) some (floor-most room long (div_ceil bytes p.fec_k) (omega arith) (rw (coded_length-fixed p bytes code fixed) at h));
    }

-- With a shortened last codeword so is what the rest of the room carries in one: nothing below 16 bytes and the
-- parity.
pub full_carries : (p : BurstProfile) (room : ℕ) → IsBurstProfile p → 0 < p.fec_t → p.shortened ≡ true →
    room % codeword_of p < 16 + 2 * p.fec_t → Carries p room (room / codeword_of p * p.fec_k)
full_carries p room lawful code short little = record {
  fits = λ bytes h. rw (coded_length-shortened p bytes code short) (shortened-sent p room 0 bytes lawful (omega (arith, lawful.least_fec_k)) (omega arith) (omega arith));
  greatest = λ bytes h.
      let most : (more : ℕ) → shortened_codeword_of p more ≤ room % codeword_of p → more ≤ 0 = λ more fits. grind arith in
      omega (arith, shortened-most p room 0 bytes lawful most (rw (coded_length-shortened p bytes code short) at h));
}

pub rest_carries : (p : BurstProfile) (room : ℕ) → IsBurstProfile p → 0 < p.fec_t → p.shortened ≡ true →
    16 + 2 * p.fec_t ≤ room % codeword_of p →
    Carries p room (room / codeword_of p * p.fec_k + (room % codeword_of p - 2 * p.fec_t))
rest_carries p room lawful code short enough =
    let within : room % codeword_of p < codeword_of p = mod_below room (codeword_of p) (omega (arith, lawful.least_fec_k)) in
    let rest : ℕ = room % codeword_of p - 2 * p.fec_t in
    let fits : shortened_codeword_of p rest ≤ room % codeword_of p = grind arith in
    let most : (more : ℕ) → shortened_codeword_of p more ≤ room % codeword_of p → more ≤ rest = λ more h. grind arith in
    record {
      fits = λ bytes h. rw (coded_length-shortened p bytes code short) (shortened-sent p room rest bytes lawful (omega arith) fits h);
      greatest = λ bytes h. shortened-most p room rest bytes lawful most (rw (coded_length-shortened p bytes code short) at h);
    }

-- For any room there is a number of bytes that it carries.
carries : (p : BurstProfile) (room : ℕ) → IsBurstProfile p → (most : ℕ) × Carries p room most
carries p room lawful =
    elim (cases_lt 0 p.fec_t) [
      | inr plain ↦ (room, plain_carries p room (omega arith))
      | inl code ↦ elim (cases_Bool p.shortened) [
        | inr fixed ↦ (room / codeword_of p * p.fec_k, fixed_carries p room lawful code fixed)
        | inl short ↦ elim (cases_lt (room % codeword_of p) (16 + 2 * p.fec_t)) [
          | inl little ↦ (room / codeword_of p * p.fec_k, full_carries p room lawful code short little)
          | inr enough ↦ (room / codeword_of p * p.fec_k + (room % codeword_of p - 2 * p.fec_t), rest_carries p room lawful code short enough)
        ]
      ]
    ]

-- More bytes are sent as more.
pub coded_length-mono : (p : BurstProfile) (a b : ℕ) → IsBurstProfile p → a ≤ b → coded_length p a ≤ coded_length p b
coded_length-mono p a b lawful h =
    let room : (most : ℕ) × Carries p (coded_length p b) most = carries p (coded_length p b) lawful in
    let all : b ≤ room.0 = room.1.greatest b (omega arith) in
    room.1.fits a (omega arith)

-- Full codewords take as many bytes as they carry, and at most three times as many.
codewords : (p : BurstProfile) (n : ℕ) → IsBurstProfile p →
    (n * p.fec_k ≤ n * codeword_of p) × (n * codeword_of p ≤ 3 * (n * p.fec_k))
codewords p n lawful =
    let least : n * p.fec_k ≤ n * codeword_of p = mul-le n p.fec_k n (codeword_of p) (omega arith) (omega arith) in
    let most : n * codeword_of p ≤ n * (3 * p.fec_k) = mul-le n (codeword_of p) n (3 * p.fec_k) (omega arith) (omega (arith, lawful.fec_t, lawful.least_fec_k)) in
    (least, omega arith)

-- Bytes are sent as no fewer, and as at most three times as many and a codeword.
pub coded_length-bounds : (p : BurstProfile) (bytes : ℕ) → IsBurstProfile p →
    (bytes ≤ coded_length p bytes) × (coded_length p bytes ≤ 3 * bytes + 255)
coded_length-bounds p bytes lawful =
    let some : 0 < p.fec_k = omega (arith, lawful.least_fec_k) in
    let parts : bytes / p.fec_k * p.fec_k + bytes % p.fec_k ≡ bytes = div-add-mod' bytes p.fec_k in
    let below : bytes % p.fec_k < p.fec_k = mod_below bytes p.fec_k some in
    let full : (bytes / p.fec_k * p.fec_k ≤ bytes / p.fec_k * codeword_of p) × (bytes / p.fec_k * codeword_of p ≤ 3 * (bytes / p.fec_k * p.fec_k)) = codewords p (bytes / p.fec_k) lawful in
    elim (cases_lt 0 p.fec_t) [
      | inr plain ↦ rw (coded_length-plain p bytes (omega arith)) (omega arith, omega arith)
      | inl code ↦ elim (cases_Bool p.shortened) [
        | inr fixed ↦
            let started : div_ceil bytes p.fec_k * codeword_of p ≤ (bytes / p.fec_k + 1) * codeword_of p = mul-le (div_ceil bytes p.fec_k) (codeword_of p) (bytes / p.fec_k + 1) (codeword_of p) (omega arith) (omega arith) in
            let held : bytes ≤ div_ceil bytes p.fec_k * p.fec_k = ceil-fits bytes p.fec_k (div_ceil bytes p.fec_k) some (omega arith) in
            rw (coded_length-fixed p bytes code fixed) (omega (arith, codewords p (div_ceil bytes p.fec_k) lawful), omega (arith, lawful.codeword))
        | inl short ↦
            let last : shortened_codeword_of p (bytes % p.fec_k) ≤ codeword_of p = shortened-le p (bytes % p.fec_k) lawful below in
            let held : bytes % p.fec_k ≤ shortened_codeword_of p (bytes % p.fec_k) = grind arith in
            rw (coded_length-shortened p bytes code short) (omega arith, omega (arith, lawful.codeword))
      ]
    ]

pub coded_length-most : (p : BurstProfile) (bytes : ℕ) → IsBurstProfile p → coded_length p bytes ≤ 3 * bytes + 255
coded_length-most p bytes lawful = (coded_length-bounds p bytes lawful).1

-- what the proof of `bytes_within` rests on
pub ruleset code_facts = (plain_carries, fixed_carries, full_carries, rest_carries)
