-- Small inputs, computed by the definitions alone.
use Rattle.std.specs.Prelude.{◌≡◌, ℕ, ◌+◌, Bool, true, false, refl}
use Rattle.us_slots.specs.Times.{Timing, minislot_ticks, symbols_per_minislot, start_of}
use Rattle.us_slots.specs.UsageCodes.{short_data_grant, long_data_grant}
use Rattle.us_slots.specs.Bursts.{BurstProfile, coded_length, burst_cost, ChannelBursts, grant_cost}
use Rattle.us_slots.specs.Capacities.{greatest_up_to, capacity_of}

-- minislots of 2 ticks at 5,120 ksym/s
abbrev pub base_time : Timing
base_time = record { minislot_log2 = 1; rate_log2 = 5 }

two_ticks : minislot_ticks base_time ≡ 2
two_ticks = refl

sixty_four_symbols : symbols_per_minislot base_time ≡ 64
sixty_four_symbols = refl

-- minislots 152 and 216 start after 1,900 and 2,700 microseconds
first_start : start_of base_time 152 ≡ 7600
first_start = refl

last_start : start_of base_time 216 ≡ 7600 + 3200
last_start = refl

-- 16QAM, a preamble of 24 symbols and a guard time of 8, with this T and codewords of 200 data bytes
abbrev pub coded_profile : ℕ → Bool → BurstProfile
coded_profile fec_t shortened =
    record { bits = 4; preamble = 24; guard = 8; fec_t = fec_t; fec_k = 200; shortened = shortened }

-- without a code bytes are sent as they are
no_codewords : coded_length (coded_profile 0 true) 201 ≡ 201
unfolding coded_length
no_codewords = refl

-- two codewords of 216 bytes
fixed_codewords : coded_length (coded_profile 8 false) 201 ≡ 432
unfolding coded_length
fixed_codewords = refl

-- one of 216, and one of 16 bytes and 16 of parity
shortened_codewords : coded_length (coded_profile 8 true) 201 ≡ 248
unfolding coded_length
shortened_codewords = refl

abbrev pub base_profile : BurstProfile
base_profile = coded_profile 0 false

-- 24 + 8 + 2,016 symbols
full_minislots : burst_cost base_time base_profile 1008 ≡ 32
unfolding burst_cost coded_length
full_minislots = refl

-- and two symbols more
started_minislot : burst_cost base_time base_profile 1009 ≡ 33
unfolding burst_cost coded_length
started_minislot = refl

-- this profile for short data grants, of at most 10 minislots, and the base profile for all others
abbrev pub bursts_with : BurstProfile → ChannelBursts
bursts_with short =
    record { time = base_time; long = base_profile; short = short; short_max = 10; unsolicited = base_profile }

-- 640 symbols: at the short maximum, and short wins the tie
short_grant : grant_cost (bursts_with base_profile) 304 ≡ (10, short_data_grant)
unfolding burst_cost coded_length
short_grant = refl

-- 648 symbols: over the short maximum
long_grant : grant_cost (bursts_with base_profile) 308 ≡ (11, long_data_grant)
unfolding burst_cost coded_length
long_grant = refl

-- QPSK with shortened codewords of 16 bytes and 4 of parity
abbrev pub robust_profile : BurstProfile
robust_profile = record { bits = 2; preamble = 16; guard = 8; fec_t = 2; fec_k = 16; shortened = true }

-- 8 bytes cost 2 minislots as a short grant: allowed, but dearer than a long one
dear_short_grant : grant_cost (bursts_with robust_profile) 8 ≡ (1, long_data_grant)
unfolding burst_cost coded_length
dear_short_grant = refl

-- (9,600 - 32) symbols of 4 bits
carried : capacity_of base_time base_profile 150 ≡ 4784
unfolding capacity_of greatest_up_to burst_cost coded_length
carried = refl
