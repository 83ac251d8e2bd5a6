-- Lines in another order hold alike: all that rules read of them are sums, and what passes somewhere or everywhere.
use Rattle.std.proofs.Common.{◌≡◌, ℕ, ◌==◌, nat_lt, ◌&&◌, ◌||◌, if◌then◌else◌, Bool, true, List, [], ◌∷◌, map, length, Option, None, Some, take, refl, ap, ap₂, sym, ◌∙◌, arith}
use Rattle.std.specs.Prelude.{filter, not, sum_by}
use Rattle.std.specs.List.{list_all, list_any, range_with_len}
use Rattle.std.proofs.lemmas.List.Sums.{sum_by-cons}
use Rattle.std.proofs.Math.Path.{fun_ext}
use Rattle.us_flows.specs.declared.channels.Channel.{Channel}
use Rattle.us_flows.specs.Tables.{map_len, channel_with}
use Rattle.us_flows.specs.Clusters.{Cluster, Turn, table_order}
use Rattle.us_calendar.specs.Entries.{Entry, WordedFlow}
use Rattle.us_output.specs.declared.rows.Grant.{Grant}
use Rattle.us_output.specs.declared.rows.Row.{Row}
use Rattle.us_output.proofs.PartLemmas.{all_weaker}
use Rattle.us_reports.specs.declared.place.Place.{Place}
use Rattle.us_lawful.specs.Runs.{Run, RoundMap, Judged, activities_in, as_activity, as_counts, as_final, as_grant, counts_in, counts_told, finals_in, grants_in, requested_in}
use Rattle.us_reports.specs.Rows.{is_requested}
use Rattle.us_lawful.specs.Places.{is_told_at, places_hold}
use Rattle.us_lawful.specs.Regions.{channel_holds, grant_regions, region_of, regions_hold, regions_of, reserve_regions}
use Rattle.us_lawful.specs.CalendarLines.{ChannelEntry, calendar_lines_hold, channel_entries, closings_hold, is_calendar_line_at, names, number_of, tells_one_of, times, told_lines_hold}
use Rattle.us_lawful.specs.Rates.{flow_credits, rates_hold}
use Rattle.us_lawful.specs.Credits.{credit_lines_hold, credited_in, credited_within, credits_hold, is_credit_at, is_like, is_of, is_right_credit, sums_hold}
use Rattle.us_lawful.specs.Finals.{activities_hold, activity_holds, activity_of, counts_hold, final_holds, final_of, finals_hold, is_final_of, is_same_activity, is_same_counts, is_same_final, talking}
use Rattle.us_lawful.proofs.RegionLemmas.{moved_holds}
use Rattle.us_lawful.proofs.SameLemmas.{Same, same_all, same_any, same_append, same_count, same_filter, same_filter_map, same_map}
use Rattle.us_reports.proofs.AnyLemmas.{any_each}
use Rattle.us_reports.specs.declared.rules.Breach.{Breach}
use Rattle.us_check.specs.Verdicts.{Activities, CalendarLines, Counts, Credits, Finals, Headings, Holds, HoldsAll, IsAnswer, IsPartBroken, Part, Places, Rates, Regions, order_of, parts, rule_of}

length_sum : {X : Type 0} (xs : List X) → length xs ≡ sum_by (λ _. 1) xs
length_sum [] = refl
length_sum (x ∷ xs) = omega (arith, length_sum xs, sum_by-cons (λ _. 1) x xs)

same_length : {X : Type 0} (xs ys : List X) → Same xs ys → length xs ≡ length ys
same_length xs ys h = length_sum xs ∙ h (λ _. 1) ∙ sym (length_sum ys)

module _ (lines moved : List Row) (h : Same lines moved) where
  -- a rule says the same of both
  abbrev Moves : (Run → Judged → Place → Bool) → Type 0
  Moves holds = (run : Run) (maps : List RoundMap) (p : Place) →
      holds run (record { maps = maps; lines = lines }) p ≡ holds run (record { maps = maps; lines = moved }) p

  -- Lines of a kind.

  grants : Same (grants_in lines) (grants_in moved)
  grants = same_filter_map as_grant lines moved h

  requests : Same (requested_in lines) (requested_in moved)
  requests = same_filter (λ g. is_requested g.entry) (grants_in lines) (grants_in moved) grants

  finals : Same (finals_in lines) (finals_in moved)
  finals = same_filter_map as_final lines moved h

  activities : Same (activities_in lines) (activities_in moved)
  activities = same_filter_map as_activity lines moved h

  counts : Same (counts_in lines) (counts_in moved)
  counts = same_filter_map as_counts lines moved h

  -- MAPs.

  places_moved : Moves places_hold
  places_moved run maps p = rw (same_any (is_told_at p.round p.channel) lines moved h) refl

  channel_moved : (run : Run) (maps : List RoundMap) (p : Place) (c : Option Channel) →
      channel_holds run (record { maps = maps; lines = lines }) p c
      ≡ channel_holds run (record { maps = maps; lines = moved }) p c
  channel_moved run maps p None = refl
  channel_moved run maps p (Some c) =
      let its : Grant → Bool = λ g. (g.round == p.round) && (g.channel == c.id) in
      let reserves = reserve_regions run.tables p.round c in
      moved_holds c (map_len run.tables c) (regions_of run (record { maps = maps; lines = lines }) p.round c)
      (regions_of run (record { maps = maps; lines = moved }) p.round c) _ p.third
      (same_append reserves reserves (grant_regions p.round c.id lines) (grant_regions p.round c.id moved) (λ f. refl)
      (same_map region_of (filter its (grants_in lines)) (filter its (grants_in moved))
      (same_filter its (grants_in lines) (grants_in moved) grants)))

  regions_moved : Moves regions_hold
  regions_moved run maps p = rw (channel_moved run maps p (channel_with run.tables.channels p.channel)) refl

  -- Occurrences.

  times_moved : (e : Entry) (n : ℕ) → times e n lines ≡ times e n moved
  times_moved e n = same_count (names e n) lines moved h

  tells_moved : (run : Run) (row : Row) (l : ChannelEntry) → tells_one_of run lines row l ≡ tells_one_of run moved row l
  tells_moved run row l = rw (times_moved l.entry (number_of l.entry row)) refl

  told_moved : Moves told_lines_hold
  told_moved run maps p =
      let entries = channel_entries run.tables in
      same_all (λ row. not (is_calendar_line_at p row) || list_any (tells_one_of run lines row) entries) lines moved h
      ∙ ap (λ tells. list_all (λ row. not (is_calendar_line_at p row) || list_any (tells row) entries) moved)
      (fun_ext (λ row. fun_ext (tells_moved run row)))

  closings_moved : Moves closings_hold
  closings_moved run maps p = simp times_moved

  calendar_lines_moved : Moves calendar_lines_hold
  calendar_lines_moved run maps p = ap₂ (λ told closings. told && closings) (told_moved run maps p) (closings_moved run maps p)

  -- Credits.

  flow_moved : (run : Run) (id : ℕ) → flow_credits run lines id ≡ flow_credits run moved id
  flow_moved run id =
      ap (λ credit. map credit (range_with_len 0 run.rounds))
      (fun_ext (λ round. same_filter (λ g. (g.id == id) && (g.round == round)) (requested_in lines) (requested_in moved)
      requests (λ g. g.credit)))

  rates_moved : Moves rates_hold
  rates_moved run maps p = simp flow_moved

  in_moved : (round : ℕ) (cluster : Cluster) → credited_in lines round cluster ≡ credited_in moved round cluster
  in_moved round cluster =
      same_filter (λ g. is_of cluster g && (g.round == round)) (requested_in lines) (requested_in moved) requests
      (λ g. g.credit)

  within_moved : (rounds : ℕ) (cluster : Cluster) → credited_within lines rounds cluster ≡ credited_within moved rounds cluster
  within_moved rounds cluster =
      same_filter (λ g. is_of cluster g && nat_lt g.round rounds) (requested_in lines) (requested_in moved) requests
      (λ g. g.credit)

  right_moved : (run : Run) (g : Grant) → is_right_credit run lines g ≡ is_right_credit run moved g
  right_moved run g = rw (same_count (is_like g) (requested_in lines) (requested_in moved) requests) refl

  credit_lines_moved : Moves credit_lines_hold
  credit_lines_moved run maps p =
      same_all (λ g. not (is_credit_at p g) || is_right_credit run lines g) (requested_in lines) (requested_in moved) requests
      ∙ ap (λ right. list_all (λ g. not (is_credit_at p g) || right g) (requested_in moved)) (fun_ext (right_moved run))

  sums_moved : Moves sums_hold
  sums_moved run maps p = simp (in_moved, within_moved)

  credits_moved : Moves credits_hold
  credits_moved run maps p = ap₂ (λ each sums. each && sums) (credit_lines_moved run maps p) (sums_moved run maps p)

  -- The end of a report.

  final_of_moved : (run : Run) (turn : Turn) → final_of run lines turn ≡ final_of run moved turn
  final_of_moved run turn = rw (flow_moved run turn.cluster.flow.id, within_moved run.rounds turn.cluster) refl

  final_moved : (run : Run) (turn : Turn) → final_holds run lines turn ≡ final_holds run moved turn
  final_moved run turn =
      rw (
        final_of_moved run turn,
        same_count (is_final_of turn) (finals_in lines) (finals_in moved) finals,
        same_any (is_same_final (final_of run moved turn)) (finals_in lines) (finals_in moved) finals,
      )
      refl

  finals_moved : Moves finals_hold
  finals_moved run maps p =
      rw (same_all (λ f. if f.flow == p.third then list_any (λ turn. is_final_of turn f) (table_order run.tables) else true)
      (finals_in lines) (finals_in moved) finals)
      (simp final_moved)

  activity_moved : (run : Run) (f : WordedFlow) → activity_holds run lines f ≡ activity_holds run moved f
  activity_moved run f =
      rw (
        same_count (λ a. a.flow == f.flow.id) (activities_in lines) (activities_in moved) activities,
        same_any (is_same_activity (activity_of run f)) (activities_in lines) (activities_in moved) activities,
      )
      refl

  activities_moved : Moves activities_hold
  activities_moved run maps p =
      rw (same_all (λ a. if a.flow == p.third then list_any (λ f. f.flow.id == p.third) (talking run.tables) else true)
      (activities_in lines) (activities_in moved) activities)
      (simp activity_moved)

  counts_moved : Moves counts_hold
  counts_moved run maps p =
      rw (
        same_length (counts_in lines) (counts_in moved) counts,
        same_any (is_same_counts (counts_told run.counts)) (counts_in lines) (counts_in moved) counts,
      )
      refl

-- So each part says the same of them,
holds_same : (part : Part) (run : Run) (maps : List RoundMap) (lines moved : List Row) (p : Place) →
    Same lines moved → Holds run (record { maps = maps; lines = lines }) part p →
    Holds run (record { maps = maps; lines = moved }) part p
holds_same Headings run maps lines moved p h is = is
holds_same Places run maps lines moved p h is = sym (places_moved lines moved h run maps p) ∙ is
holds_same Regions run maps lines moved p h is = sym (regions_moved lines moved h run maps p) ∙ is
holds_same CalendarLines run maps lines moved p h is = sym (calendar_lines_moved lines moved h run maps p) ∙ is
holds_same Rates run maps lines moved p h is = sym (rates_moved lines moved h run maps p) ∙ is
holds_same Credits run maps lines moved p h is = sym (credits_moved lines moved h run maps p) ∙ is
holds_same Finals run maps lines moved p h is = sym (finals_moved lines moved h run maps p) ∙ is
holds_same Activities run maps lines moved p h is = sym (activities_moved lines moved h run maps p) ∙ is
holds_same Counts run maps lines moved p h is = sym (counts_moved lines moved h run maps p) ∙ is

-- and so do all of them
pub answer_same : (run : Run) (maps : List RoundMap) (lines moved : List Row) (answer : Option Breach) →
    Same lines moved → IsAnswer run (record { maps = maps; lines = moved }) answer →
    IsAnswer run (record { maps = maps; lines = lines }) answer
answer_same run maps lines moved answer h is = by answer is
  where
    back : Same moved lines
    back f = sym (h f)

    all : (part : Part) → HoldsAll run (record { maps = maps; lines = moved }) part →
        HoldsAll run (record { maps = maps; lines = lines }) part
    all part holds p = holds_same part run maps moved lines p back (holds p)

    broken : (part : Part) (place : Place) → IsPartBroken run (record { maps = maps; lines = moved }) part place →
        IsPartBroken run (record { maps = maps; lines = lines }) part place
    broken part place is = record {
      earlier = all_weaker (HoldsAll run (record { maps = maps; lines = moved }))
          (HoldsAll run (record { maps = maps; lines = lines })) all (take (order_of part) parts) is.earlier;
      first = (
        λ holds. is.first.0 (holds_same part run maps lines moved place h holds),
        λ p before. holds_same part run maps moved lines p back (is.first.1 p before),
      );
    }

    by : (answer : Option Breach) → IsAnswer run (record { maps = maps; lines = moved }) answer →
        IsAnswer run (record { maps = maps; lines = lines }) answer
    by None is = all_weaker (HoldsAll run (record { maps = maps; lines = moved }))
        (HoldsAll run (record { maps = maps; lines = lines })) all parts is
    by (Some breach) is =
        any_each (λ part place. (breach.rule ≡ rule_of part) × IsPartBroken run (record { maps = maps; lines = moved }) part place)
        (λ part place. (breach.rule ≡ rule_of part) × IsPartBroken run (record { maps = maps; lines = lines }) part place) parts
        breach.place (λ part one. (one.0, broken part breach.place one.1)) is
