-- The body of a MAP, judged where it stands.
use Rattle.std.specs.Prelude.{◌≡◌, ℕ, ◌+◌, ◌*◌, ◌^◌, ◌<◌, ◌≤◌, ◌==◌, ◌&&◌, Bool, if◌then◌else◌, List, length, slice_index, Option, Some, None}
use Rattle.std.specs.List.{list_all}
use Rattle.us_codec.specs.declared.heads.Head.{Head}
use Rattle.us_codec.specs.Elements.{MapElement}
use Rattle.us_codec.specs.Bodies.{max_elements}
use Rattle.us_codec.specs.Faults.{end_of, ends_in_pendings, is_null, is_pending, rises_to_end}
use Rattle.us_lawful.specs.Headings.{null_offset}

-- a body is as long as its elements make it, has no more than a MAP may have, and has 0 for Reserved
pub record IsFront (bytes : List ℕ) : Type 0 where
  pub long : 16 ≤ length bytes
  pub counted : length bytes ≡ 16 + 4 * slice_index bytes 2
  pub reserved : slice_index bytes 3 ≡ 0
  pub few : slice_index bytes 2 ≤ max_elements

-- the fields of a head keep to their bytes
pub record Fits (h : Head) : Type 0 where
  pub channel : h.channel < 2 ^ 8
  pub ucd_count : h.ucd_count < 2 ^ 8
  pub alloc_start : h.alloc_start < 2 ^ 32
  pub ack : h.ack < 2 ^ 32
  pub four : length h.backoffs ≡ 4

-- where an element of the Null's IUC stands, if it is the Null and only pendings are behind it
abbrev pub null_here : MapElement → List MapElement → Option ℕ
null_here e behind = if (e.sid == 0) && list_all (is_pending e.offset) behind then Some e.offset else None

-- elements rise up to a Null, and only pendings are behind it
abbrev pub is_list : List MapElement → Bool
is_list es = is_null (end_of es) && (rises_to_end es && ends_in_pendings es)

-- where that Null stands
abbrev pub null_told : List MapElement → Option ℕ
null_told es = if is_list es then null_offset es else None
