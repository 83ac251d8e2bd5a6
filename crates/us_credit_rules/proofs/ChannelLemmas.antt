-- The place of a channel in the table.
use Rattle.std.proofs.Common.{◌≡◌, ℕ, ◌<◌, ◌==◌, Bool, List, length, map, get_or, refl, sym, ◌∙◌, inl, inr, arith}
use Rattle.std.specs.Prelude.{position, slice_get, unwrap_or}
use Rattle.std.specs.List.{position_or_len}
use Rattle.std.proofs.lemmas.Bool.{cases_lt, lt-ltb, le-ltb}
use Rattle.std.proofs.lemmas.List.Folds.{find_at}
use Rattle.std.proofs.lemmas.Option.{slice_get_past, slice_get_read}
use Rattle.us_flows.specs.declared.channels.Channel.{Channel}
use Rattle.us_flows.specs.Lawful.{AreApart}
use Rattle.us_flows.specs.Tables.{channel_with}
use Rattle.us_flows.proofs.KeyLaws.{found_by_key}

-- where a channel has an id, it is the one with that id
pub channel_at : (channels : List Channel) (i : ℕ) (c : Channel) → AreApart (map (λ c. c.id) channels) →
    i < length channels → c ≡ get_or channels i c → slice_get channels i ≡ channel_with channels c.id
channel_at channels i c apart inside is =
    let at = slice_get_read channels (length channels) i c refl inside is in
    at ∙ sym (found_by_key (λ c. c.id) channels i c apart at)

-- it is the first one, or there is none
pub channel_else : (channels : List Channel) (id : ℕ) →
    slice_get channels (unwrap_or (position (λ c. c.id == id) channels) (length channels)) ≡ channel_with channels id
channel_else channels id =
    let test : Channel → Bool = λ c. c.id == id in
    let i : ℕ = position_or_len test channels in
    elim (cases_lt i (length channels)) [
      | inl inside ↦ rw (lt-ltb i (length channels) inside) (sym (find_at test channels))
      | inr over ↦ rw (le-ltb i (length channels) over)
          (slice_get_past channels (length channels) (omega arith) ∙ sym (find_at test channels ∙ slice_get_past channels i over))
    ]
