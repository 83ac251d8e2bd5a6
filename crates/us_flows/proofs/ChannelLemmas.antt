-- A channel's table without a fault in its shape: all its values are in their ranges.
use Rattle.std.proofs.Common.{◌≡◌, ℕ, zero, suc, ◌+◌, ◌*◌, ◌≤◌, Bool, true, false, ◌||◌, List, codes, Some, refl, sym, ◌∙◌, arith, nat_lt, leb}
use Rattle.std.proofs.lemmas.Bool.{or_parts, and_parts, false≢true, ltb-false, leb-true}
use Rattle.std.specs.Int.{IsInRange, is_in_range}
use Rattle.toml.specs.Data.{Data, string, integer, float, boolean, datetime, array, table, Items, no_items, item, Members, no_members}
use Rattle.us_slots.specs.Times.{IsTiming}
use Rattle.us_slots.specs.Bursts.{IsBurstProfile, IsChannelBursts}
use Rattle.us_flows.specs.Ranges.{min_bits, min_fec_k, max_bits, max_channel_id, max_codeword, max_exponent, max_fec_k, max_fec_t, max_guard, max_maintenance_every, max_minislot_log2, max_preamble, max_rate_log2, max_request_minislots, max_reserve_minislots, max_short_minislots, max_station_minislots, max_ucd_count}
use Rattle.us_flows.specs.Keys.{Key, channel_keys, profile_keys, short_keys}
use Rattle.us_flows.specs.Lawful.{IsBackoff}
use Rattle.us_flows.specs.Documents.{number_at, number_in, items_at, items_of, table_of, pair_at, table_at, read_or}
use Rattle.us_flows.specs.Shapes.{is_number, is_list, count, all_items, is_table, allows, lacks, strays}
use Rattle.us_flows.specs.Checks.{lacks_within, is_table_without, profile_strays, channel_lacks, channel_strays}
use Rattle.us_flows.specs.Reading.{profile_of, time_of, bursts_of}
use Rattle.us_flows.proofs.ShapeLemmas.{value_kept, number_in_range, number_between, demands}

-- the numbers of a list
number_in_below : (least most i : ℕ) (ds : Items) → all_items (is_number least most) ds ≡ true → number_in i ds ≤ most
number_in_below least most i no_items h = omega arith
number_in_below least most zero (item d ds) h =
    (number_between least most d (and_parts (is_number least most d) (all_items (is_number least most) ds) h).0).1
number_in_below least most (suc i) (item d ds) h =
    number_in_below least most i ds (and_parts (is_number least most d) (all_items (is_number least most) ds) h).1

pub list_items : (fewest many : ℕ) (passes : Data → Bool) (d : Data) → is_list fewest many passes d ≡ true →
    (IsInRange fewest many (count (items_of d))) × (all_items passes (items_of d) ≡ true)
list_items fewest many passes (array ds) h =
    let parts = and_parts (is_in_range fewest many (count ds)) (all_items passes ds) h in
    let bounds = and_parts (leb fewest (count ds)) (leb (count ds) many) parts.0 in
    ((leb-true fewest (count ds) bounds.0, leb-true (count ds) many bounds.1), parts.1)
list_items fewest many passes (integer z) h = absurd (false≢true h)
list_items fewest many passes (string s) h = absurd (false≢true h)
list_items fewest many passes (float x) h = absurd (false≢true h)
list_items fewest many passes (boolean b) h = absurd (false≢true h)
list_items fewest many passes (datetime x) h = absurd (false≢true h)
list_items fewest many passes (table ms) h = absurd (false≢true h)

pub list_in_range : (keys : List Key) (t : Members) (k : List ℕ) (fewest many : ℕ) (passes : Data → Bool) →
    lacks keys t ≡ false → strays keys t ≡ false → demands keys k ≡ true →
    ((d : Data) → allows keys k d ≡ is_list fewest many passes d) →
    (IsInRange fewest many (count (items_at k t))) × (all_items passes (items_at k t) ≡ true)
list_in_range keys t k fewest many passes whole ranged listed by_rule =
    let kept = value_kept keys k t whole ranged listed in
    rw kept.1 (list_items fewest many passes kept.0 (sym (by_rule kept.0) ∙ kept.2))

backoff : (t : Members) (k : List ℕ) → lacks channel_keys t ≡ false → strays channel_keys t ≡ false →
    demands channel_keys k ≡ true → ((d : Data) → allows channel_keys k d ≡ is_list 2 2 (is_number 0 max_exponent) d) →
    IsBackoff (pair_at k t)
backoff t k whole ranged listed by_rule =
    let range = list_in_range channel_keys t k 2 2 (is_number 0 max_exponent) whole ranged listed by_rule in
    record {
      two = refl;
      each = (
        number_in_below 0 max_exponent 0 (items_at k t) range.1,
        (number_in_below 0 max_exponent 1 (items_at k t) range.1, tt),
      );
    }

-- a profile
profile_is : (t : Members) → lacks profile_keys t ≡ false → profile_strays profile_keys t ≡ false →
    IsBurstProfile (profile_of t)
unfolding profile_keys
profile_is t whole h =
    let parts = or_parts (strays profile_keys t) (nat_lt max_codeword (number_at (codes "fec_k") t + 2 * number_at
    (codes "fec_t") t)) h in
    let bits = number_in_range profile_keys t (codes "bits") min_bits max_bits whole parts.0 refl (λ d. refl) in
    let preamble = number_in_range profile_keys t (codes "preamble") 0 max_preamble whole parts.0 refl (λ d. refl) in
    let guard = number_in_range profile_keys t (codes "guard") 0 max_guard whole parts.0 refl (λ d. refl) in
    let fec_t = number_in_range profile_keys t (codes "fec_t") 0 max_fec_t whole parts.0 refl (λ d. refl) in
    let fec_k = number_in_range profile_keys t (codes "fec_k") min_fec_k max_fec_k whole parts.0 refl (λ d. refl) in
    record {
      least_bits = bits.0;
      most_bits = bits.1;
      preamble = preamble.1;
      guard = guard.1;
      fec_t = fec_t.1;
      least_fec_k = fec_k.0;
      most_fec_k = fec_k.1;
      codeword = omega (arith, ltb-false max_codeword (number_at (codes "fec_k") t + 2 * number_at (codes "fec_t") t) parts.1);
    }

short_profile_is : (t : Members) → lacks short_keys t ≡ false → profile_strays short_keys t ≡ false →
    IsBurstProfile (profile_of t) × IsInRange 1 max_short_minislots (number_at (codes "max_minislots") t)
unfolding short_keys profile_keys
short_profile_is t whole h =
    let parts = or_parts (strays short_keys t) (nat_lt max_codeword (number_at (codes "fec_k") t + 2 * number_at
    (codes "fec_t") t)) h in
    let bits = number_in_range short_keys t (codes "bits") min_bits max_bits whole parts.0 refl (λ d. refl) in
    let preamble = number_in_range short_keys t (codes "preamble") 0 max_preamble whole parts.0 refl (λ d. refl) in
    let guard = number_in_range short_keys t (codes "guard") 0 max_guard whole parts.0 refl (λ d. refl) in
    let fec_t = number_in_range short_keys t (codes "fec_t") 0 max_fec_t whole parts.0 refl (λ d. refl) in
    let fec_k = number_in_range short_keys t (codes "fec_k") min_fec_k max_fec_k whole parts.0 refl (λ d. refl) in
    let profile : IsBurstProfile (profile_of t) = record {
      least_bits = bits.0;
      most_bits = bits.1;
      preamble = preamble.1;
      guard = guard.1;
      fec_t = fec_t.1;
      least_fec_k = fec_k.0;
      most_fec_k = fec_k.1;
      codeword = omega (arith, ltb-false max_codeword (number_at (codes "fec_k") t + 2 * number_at (codes "fec_t") t) parts.1);
    } in
    (profile, number_in_range short_keys t (codes "max_minislots") 1 max_short_minislots whole parts.0 refl (λ d. refl))

-- a profile that has to be there is a table, and so lacks nothing
whole_of_table : (keys : List Key) (d : Data) → is_table d ≡ true → is_table_without keys d ≡ false →
    lacks keys (read_or no_members table_of (Some d)) ≡ false
whole_of_table keys (table ms) is h = h
whole_of_table keys (integer z) is h = absurd (false≢true is)
whole_of_table keys (string s) is h = absurd (false≢true is)
whole_of_table keys (float x) is h = absurd (false≢true is)
whole_of_table keys (boolean b) is h = absurd (false≢true is)
whole_of_table keys (datetime x) is h = absurd (false≢true is)
whole_of_table keys (array ds) is h = absurd (false≢true is)

whole_within : (keys : List Key) (t : Members) (k : List ℕ) → lacks channel_keys t ≡ false → strays channel_keys t ≡
    false →
    demands channel_keys k ≡ true → ((d : Data) → allows channel_keys k d ≡ is_table d) →
    lacks_within keys k t ≡ false → lacks keys (table_at k t) ≡ false
whole_within keys t k whole ranged listed by_rule h =
    let kept = value_kept channel_keys k t whole ranged listed in
    rw kept.1 (whole_of_table keys kept.0 (sym (by_rule kept.0) ∙ kept.2) (rw kept.1 at h))

pub record ChannelRanges (t : Members) : Type 0 where
  pub id : IsInRange 1 max_channel_id (number_at (codes "id") t)
  pub bursts : IsChannelBursts (bursts_of t)
  pub ucd_count : number_at (codes "ucd_count") t ≤ max_ucd_count
  pub ranging : IsBackoff (pair_at (codes "ranging_backoff") t)
  pub data_backoff : IsBackoff (pair_at (codes "data_backoff") t)
  pub request_minislots : IsInRange 1 max_request_minislots (number_at (codes "request_minislots") t)
  pub contention_minislots : number_at (codes "contention_minislots") t ≤ max_reserve_minislots
  pub maintenance_minislots : number_at (codes "maintenance_minislots") t ≤ max_reserve_minislots
  pub maintenance_every : IsInRange 1 max_maintenance_every (number_at (codes "maintenance_every") t)
  pub station_minislots : IsInRange 1 max_station_minislots (number_at (codes "station_minislots") t)

pub channel_ranges : (t : Members) → channel_lacks t ≡ false → channel_strays t ≡ false → ChannelRanges t
unfolding channel_keys channel_lacks channel_strays
channel_ranges t whole ranged =
    let long_lacks : Bool = lacks_within profile_keys (codes "long") t in
    let short_lacks : Bool = lacks_within short_keys (codes "short") t in
    let unsolicited_lacks : Bool = lacks_within profile_keys (codes "unsolicited") t in
    let has = or_parts (lacks channel_keys t) (long_lacks || (short_lacks || unsolicited_lacks)) whole in
    let long_has = or_parts long_lacks (short_lacks || unsolicited_lacks) has.1 in
    let others_have = or_parts short_lacks unsolicited_lacks long_has.1 in
    let long_strays : Bool = profile_strays profile_keys (table_at (codes "long") t) in
    let short_strays : Bool = profile_strays short_keys (table_at (codes "short") t) in
    let unsolicited_strays : Bool = profile_strays profile_keys (table_at (codes "unsolicited") t) in
    let keeps = or_parts (strays channel_keys t) (long_strays || (short_strays || unsolicited_strays)) ranged in
    let long_keeps = or_parts long_strays (short_strays || unsolicited_strays) keeps.1 in
    let others_keep = or_parts short_strays unsolicited_strays long_keeps.1 in
    let w = has.0 in
    let r = keeps.0 in
    let minislot = number_in_range channel_keys t (codes "minislot_log2") 0 max_minislot_log2 w r refl (λ d. refl) in
    let rate = number_in_range channel_keys t (codes "rate_log2") 0 max_rate_log2 w r refl (λ d. refl) in
    let time : IsTiming (time_of t) = record { longest_minislot = minislot.1; highest_rate = rate.1 } in
    let long_whole = whole_within profile_keys t (codes "long") w r refl (λ d. refl) long_has.0 in
    let short_whole = whole_within short_keys t (codes "short") w r refl (λ d. refl) others_have.0 in
    let unsolicited_whole = whole_within profile_keys t (codes "unsolicited") w r refl (λ d. refl) others_have.1 in
    let short = short_profile_is (table_at (codes "short") t) short_whole others_keep.0 in
    record {
      id = number_in_range channel_keys t (codes "id") 1 max_channel_id w r refl (λ d. refl);
      bursts = record {
        time = time;
        long = profile_is (table_at (codes "long") t) long_whole long_keeps.0;
        short = short.0;
        least_short_max = short.1.0;
        most_short_max = short.1.1;
        unsolicited = profile_is (table_at (codes "unsolicited") t) unsolicited_whole others_keep.1;
      };
      ucd_count = (number_in_range channel_keys t (codes "ucd_count") 0 max_ucd_count w r refl (λ d. refl)).1;
      ranging = backoff t (codes "ranging_backoff") w r refl (λ d. refl);
      data_backoff = backoff t (codes "data_backoff") w r refl (λ d. refl);
      request_minislots = number_in_range channel_keys t (codes "request_minislots") 1 max_request_minislots w r refl (λ d. refl);
      contention_minislots = (number_in_range channel_keys t (codes "contention_minislots") 0 max_reserve_minislots w r refl
          (λ d. refl)).1;
      maintenance_minislots = (number_in_range channel_keys t (codes "maintenance_minislots") 0 max_reserve_minislots w r refl
          (λ d. refl)).1;
      maintenance_every = number_in_range channel_keys t (codes "maintenance_every") 1 max_maintenance_every w r refl (λ d. refl);
      station_minislots = number_in_range channel_keys t (codes "station_minislots") 1 max_station_minislots w r refl (λ d. refl);
    }

-- so that they fit the types of their fields
pub record ChannelWidths (t : Members) : Type 0 where
  pub id : number_at (codes "id") t ≤ 255
  pub ucd_count : number_at (codes "ucd_count") t ≤ 255
  pub ranging : IsBackoff (pair_at (codes "ranging_backoff") t)
  pub data_backoff : IsBackoff (pair_at (codes "data_backoff") t)
  pub request_minislots : number_at (codes "request_minislots") t ≤ 255
  pub contention_minislots : number_at (codes "contention_minislots") t ≤ 65535
  pub maintenance_minislots : number_at (codes "maintenance_minislots") t ≤ 65535
  pub maintenance_every : number_at (codes "maintenance_every") t ≤ 4294967295
  pub station_minislots : number_at (codes "station_minislots") t ≤ 255

widths : (t : Members) → ChannelRanges t → ChannelWidths t
widths t ranges = record {
  id = ranges.id.1;
  ucd_count = ranges.ucd_count;
  ranging = ranges.ranging;
  data_backoff = ranges.data_backoff;
  request_minislots = omega (arith, ranges.request_minislots.1);
  contention_minislots = omega (arith, ranges.contention_minislots);
  maintenance_minislots = omega (arith, ranges.maintenance_minislots);
  maintenance_every = omega (arith, ranges.maintenance_every.1);
  station_minislots = omega (arith, ranges.station_minislots.1);
}

pub channel_widths : (t : Members) → channel_lacks t ≡ false → channel_strays t ≡ false → ChannelWidths t
channel_widths t whole ranged = widths t (channel_ranges t whole ranged)
