-- The least and the greatest of what a configuration may say (ours, where nothing else is said). A least number without
-- a name is 0 or 1.
use Rattle.std.specs.Prelude.{ℕ}

-- the bytes of a text
abbrev pub max_config_bytes : ℕ
max_config_bytes = 4194304

-- tables
abbrev pub max_channels : ℕ
max_channels = 16

abbrev pub max_flows : ℕ
max_flows = 1024

abbrev pub max_stations : ℕ
max_stations = 256

-- the ticks of a round, which is as long as each MAP, and from a request to a MAP that serves it
abbrev pub max_round_ticks : ℕ
max_round_ticks = 4096

abbrev pub max_lead_ticks : ℕ
max_lead_ticks = 65536

-- of a channel: its id, the logarithms of its minislot and its symbol rate, the count of its UCDs, and the exponents of
-- its backoff windows (the standard's, but for the logarithms)
abbrev pub max_channel_id : ℕ
max_channel_id = 255

abbrev pub max_minislot_log2 : ℕ
max_minislot_log2 = 7

abbrev pub max_rate_log2 : ℕ
max_rate_log2 = 5

abbrev pub max_ucd_count : ℕ
max_ucd_count = 255

abbrev pub max_exponent : ℕ
max_exponent = 15

-- the minislots of a request, of a reserve, and of Station Maintenance, and the rounds between maintenance reserves
abbrev pub max_request_minislots : ℕ
max_request_minislots = 64

abbrev pub max_reserve_minislots : ℕ
max_reserve_minislots = 4096

abbrev pub max_station_minislots : ℕ
max_station_minislots = 64

abbrev pub max_maintenance_every : ℕ
max_maintenance_every = 65536

-- of a burst profile: the bits of a symbol, the symbols before and behind a burst, the code's T and K, the bytes of a
-- codeword with its parity, and the minislots of a short data grant
abbrev pub min_bits : ℕ
min_bits = 2

abbrev pub max_bits : ℕ
max_bits = 6

abbrev pub max_preamble : ℕ
max_preamble = 1024

abbrev pub max_guard : ℕ
max_guard = 255

abbrev pub max_fec_t : ℕ
max_fec_t = 16

abbrev pub min_fec_k : ℕ
min_fec_k = 16

abbrev pub max_fec_k : ℕ
max_fec_k = 253

abbrev pub max_codeword : ℕ
max_codeword = 255

abbrev pub max_short_minislots : ℕ
max_short_minislots = 255

-- ids of flows and of stations, and unicast SIDs (the standard's)
abbrev pub max_id : ℕ
max_id = 65535

abbrev pub max_unicast_sid : ℕ
max_unicast_sid = 15871

-- of a flow: its channels and clusters,
abbrev pub max_channels_of_flow : ℕ
max_channels_of_flow = 8

abbrev pub max_clusters_of_flow : ℕ
max_clusters_of_flow = 2

-- its priority (the standard's), its rates in bit/s, maximum and minimum, its burst in bytes, and the bytes of a unit of
-- its requests,
abbrev pub max_priority : ℕ
max_priority = 7

abbrev pub max_rate : ℕ
max_rate = 1000000000

abbrev pub max_burst : ℕ
max_burst = 16777216

abbrev pub max_unit : ℕ
max_unit = 16

-- and the bytes and the number of its unsolicited grants
abbrev pub max_grant_bytes : ℕ
max_grant_bytes = 65535

abbrev pub max_grants : ℕ
max_grants = 127

-- the words of all flows, of which none has more than two
abbrev pub max_clusters : ℕ
max_clusters = 2048

-- when intervals begin, how long each is, and the jitter, in microseconds
abbrev pub min_interval_us : ℕ
min_interval_us = 100

abbrev pub max_us : ℕ
max_us = 10000000
