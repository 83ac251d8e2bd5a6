-- Burst cost: how many minislots a burst of some bytes takes. The bits per symbol of a modulation are the standard's,
-- and the ranges and formulas are ours. `/` rounds down, `div_ceil` up, and `%` is the rest.
use Rattle.std.specs.Prelude.{ℕ, ◌+◌, ◌*◌, ◌/◌, ◌%◌, ◌≤◌, max, Bool, ◌==◌, nat_le, ◌&&◌, if◌then◌else◌}
use Rattle.std.specs.Int.{div_ceil}
use Rattle.us_slots.specs.Times.{Timing, IsTiming, symbols_per_minislot}
use Rattle.us_slots.specs.UsageCodes.{short_data_grant, long_data_grant}

-- a burst profile, the attributes of one kind of burst
pub record BurstProfile : Type 0 where
  pub bits : ℕ  -- bits per symbol: QPSK 2, 8QAM 3, 16QAM 4, 32QAM 5, 64QAM 6
  pub preamble : ℕ  -- symbols before the bytes
  pub guard : ℕ  -- symbols of silence at the end
  pub fec_t : ℕ  -- T: a codeword has 2 T bytes of parity; 0 is no code
  pub fec_k : ℕ  -- K: the data bytes of a full codeword
  pub shortened : Bool  -- the last codeword is shortened; else it is fixed, as long as the others

-- its fields are in range
pub record IsBurstProfile (p : BurstProfile) : Type 0 where
  pub least_bits : 2 ≤ p.bits
  pub most_bits : p.bits ≤ 6
  pub preamble : p.preamble ≤ 1024
  pub guard : p.guard ≤ 255
  pub fec_t : p.fec_t ≤ 16
  pub least_fec_k : 16 ≤ p.fec_k
  pub most_fec_k : p.fec_k ≤ 253
  pub codeword : p.fec_k + 2 * p.fec_t ≤ 255

-- a full codeword: its data bytes and the parity
abbrev pub codeword_of : BurstProfile → ℕ
codeword_of p = p.fec_k + 2 * p.fec_t

-- a shortened last codeword: its bytes, at least 16, and the parity; none where no byte is left
abbrev pub shortened_codeword_of : BurstProfile → ℕ → ℕ
shortened_codeword_of p bytes = if bytes == 0 then 0 else max bytes 16 + 2 * p.fec_t

-- the bytes that are sent for some bytes: the same without a code; else full codewords, the last one shortened or fixed
unfoldable pub coded_length : BurstProfile → ℕ → ℕ
coded_length p bytes =
    if p.fec_t == 0 then bytes
    else if p.shortened then bytes / p.fec_k * codeword_of p + shortened_codeword_of p (bytes % p.fec_k)
    else div_ceil bytes p.fec_k * codeword_of p

-- the minislots of a burst: preamble, guard time and the coded bytes as symbols, in whole minislots
unfoldable pub burst_cost : Timing → BurstProfile → ℕ → ℕ
burst_cost t p bytes =
    div_ceil (p.preamble + p.guard + div_ceil (8 * coded_length p bytes) p.bits) (symbols_per_minislot t)

-- what the cost of a channel's bursts depends on
pub record ChannelBursts : Type 0 where
  pub time : Timing
  pub long : BurstProfile  -- of long data grants, IUC 10
  pub short : BurstProfile  -- of short data grants, IUC 9
  pub short_max : ℕ  -- the most minislots of a short data grant
  pub unsolicited : BurstProfile  -- of unsolicited grants, IUC 11, which cost `burst_cost` in this profile

-- its fields are in range
pub record IsChannelBursts (b : ChannelBursts) : Type 0 where
  pub time : IsTiming b.time
  pub long : IsBurstProfile b.long
  pub short : IsBurstProfile b.short
  pub least_short_max : 1 ≤ b.short_max
  pub most_short_max : b.short_max ≤ 255
  pub unsolicited : IsBurstProfile b.unsolicited

-- the minislots and the IUC of a data grant: short where its cost is at most the short maximum and at most the long
-- one's, so that short wins a tie, and else long
abbrev pub grant_cost : ChannelBursts → ℕ → ℕ × ℕ
grant_cost b bytes =
    let short : ℕ = burst_cost b.time b.short bytes in
    let long : ℕ = burst_cost b.time b.long bytes in
    if nat_le short b.short_max && nat_le short long then (short, short_data_grant) else (long, long_data_grant)
