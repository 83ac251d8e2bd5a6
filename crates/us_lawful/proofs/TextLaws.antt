-- The texts of an output spell its MAPs and lines, and a schedule's lines can be told.
use Rattle.std.proofs.Common.{◌≡◌, ℕ, List, [], ◌∷◌, ◌++◌, map, true, false, refl, sym, ap, ap₂, ◌∙◌}
use Rattle.std.specs.Prelude.{flat_map}
use Rattle.std.specs.List.{AllByRecursion}
use Rattle.std.proofs.lemmas.Grind.{flat_map-append}
use Rattle.us_codec.specs.Bodies.{MapBody}
use Rattle.us_codec.specs.MapsFiles.{Piece, record_bytes, maps_file}
use Rattle.us_flows.specs.declared.channels.Channel.{Channel}
use Rattle.us_flows.specs.Tables.{Tables}
use Rattle.us_flows.specs.Lawful.{AreTables}
use Rattle.us_requests.specs.declared.asks.Counts.{Counts}
use Rattle.us_calendar.specs.declared.kinds.Kind.TheVariants as kinds
use Rattle.us_calendar.specs.declared.kinds.Kind.{Kind}
use Rattle.us_calendar.specs.declared.settled.Settled.{Settled}
use Rattle.us_calendar.specs.declared.settled.Settled.TheVariants as settled
use Rattle.us_channel.specs.Placements.{PlacedClaim}
use Rattle.us_channel.specs.Channels.{Built}
use Rattle.us_output.specs.declared.rows.Row.{Row}
use Rattle.us_round.specs.Rounds.{State, builds_of}
use Rattle.us_output.specs.Outputs.{RoundOut, entry_word, settled_row, grant_row}
use Rattle.us_round.specs.ScheduleLaws.{AreCuts}
use Rattle.us_output.proofs.PartLemmas.{all_append, all_both}
use Rattle.us_lawful.specs.Runs.{Run}
use Rattle.us_reports.specs.Rows.{is_requested}
use Rattle.us_output.specs.Files.{records, round_lines, lines}
use Rattle.us_output.specs.Lines.{text_of, HasFields}
use Rattle.us_lawful.specs.Output.{Output, output_of, maps_text, report_text, all_rows, round_maps, judged_of}
use Rattle.us_lawful.specs.Lawful.{IsLawful}
use Rattle.us_lawful.specs.Texts.{AreLawful, record_of}
use Rattle.us_reports.specs.Rows.{IsRow, can_be_told}
use Rattle.us_lawful.specs.Laws.{ReportsReadBack}
use Rattle.us_lawful.proofs.TestLemmas.{all_pass, each_passes}
use Rattle.us_lawful.proofs.SameLemmas.{same_all}
use Rattle.us_lawful.proofs.RoundLemmas.{last_all, last_rows, round_rows, rounds_of, rows_in}
use Rattle.us_lawful.proofs.TimesLemmas.{all_lines}

-- The maps file.

file_append : (xs ys : List Piece) → maps_file (xs ++ ys) ≡ maps_file xs ++ maps_file ys
unfolding maps_file
file_append xs ys = flat_map-append record_bytes xs ys

map_append : {X Y : Type 0} (f : X → Y) (xs ys : List X) → map f (xs ++ ys) ≡ map f xs ++ map f ys
map_append f [] ys = refl
map_append f (x ∷ xs) ys = ap (λ more. f x ∷ more) (map_append f xs ys)

round_pieces : (round : ℕ) (bodies : List MapBody) →
    map (λ (body : MapBody). record_of (record { round = round; body = body })) bodies
    ≡ map record_of (map (λ (body : MapBody). record { round = round; body = body }) bodies)
round_pieces round [] = refl
round_pieces round (body ∷ bodies) =
    ap (λ more. record_of (record { round = round; body = body }) ∷ more) (round_pieces round bodies)

spelled : (given : List RoundOut) → flat_map records given ≡ maps_file (map record_of (flat_map round_maps given))
unfolding records maps_file
spelled [] = refl
spelled (out ∷ given) =
    ap₂ (λ first more. first ++ more) (ap maps_file (round_pieces out.round out.maps)) (spelled given)
    ∙ sym (file_append (map record_of (round_maps out)) (map record_of (flat_map round_maps given)))
    ∙ ap maps_file (sym (map_append record_of (round_maps out) (flat_map round_maps given)))

-- The report.

lines_append : (xs ys : List Row) → lines (xs ++ ys) ≡ lines xs ++ lines ys
unfolding lines
lines_append xs ys = flat_map-append text_of xs ys

told_lines : (given : List RoundOut) → flat_map round_lines given ≡ lines (all_rows given)
unfolding lines
told_lines [] = refl
told_lines (out ∷ given) =
    ap (λ more. lines out.rows ++ more) (told_lines given) ∙ sym (lines_append out.rows (all_rows given))

report_spelled : (out : Output) → report_text out ≡ lines (judged_of out).lines
report_spelled out =
    ap (λ text. text ++ lines out.last) (told_lines out.given) ∙ sym (lines_append (all_rows out.given) out.last)

-- An output whose lines may be told, and that is lawful, has lawful texts.
pub texts_are_lawful : (run : Run) (out : Output) → AllByRecursion IsRow (judged_of out).lines →
    IsLawful run (judged_of out) → AreLawful run (maps_text out) (report_text out)
texts_are_lawful run out told lawful = record {
  judged = judged_of out;
  maps_spelled = spelled out.given;
  rows = told;
  report_spelled = report_spelled out;
  lawful = lawful;
}

-- Lines of a schedule.

calendar_word : (kind : Kind) → is_requested (entry_word kind) ≡ false
calendar_word kinds.Unsolicited = refl
calendar_word kinds.Activity = refl
calendar_word kinds.RealTimePoll = refl
calendar_word kinds.NonRealTimePoll = refl
calendar_word kinds.Station = refl

settled_told : (round : ℕ) (c : Channel) (all : List Settled) →
    AllByRecursion (λ row. can_be_told row ≡ true) (map (settled_row round c) all)
settled_told round c [] = tt
settled_told round c (settled.Granted kind id i k start slots owner ∷ all) = (refl, settled_told round c all)
settled_told round c (settled.Missed kind id i k ∷ all) = (rw (calendar_word kind) refl, settled_told round c all)

grants_told : (round : ℕ) (c : Channel) (grants : List PlacedClaim) →
    AllByRecursion (λ row. can_be_told row ≡ true) (map (grant_row round c) grants)
grants_told round c [] = tt
grants_told round c (g ∷ grants) = (refl, grants_told round c grants)

builds_told : (round : ℕ) (bs : List Built) → AllByRecursion (λ row. can_be_told row ≡ true) (flat_map (rows_in round) bs)
builds_told round [] = tt
builds_told round (b ∷ bs) =
    all_append (λ row. can_be_told row ≡ true) (rows_in round b) (flat_map (rows_in round) bs)
    (all_append (λ row. can_be_told row ≡ true) (map (settled_row round b.channel) b.settled)
    (map (grant_row round b.channel) b.grants) (settled_told round b.channel b.settled)
    (grants_told round b.channel b.grants))
    (builds_told round bs)

rounds_told : (rounds : List State) → AllByRecursion (λ row. can_be_told row ≡ true) (flat_map round_rows rounds)
rounds_told [] = tt
rounds_told (s ∷ rounds) =
    all_append (λ row. can_be_told row ≡ true) (round_rows s) (flat_map round_rows rounds) (builds_told s.round (builds_of s))
    (rounds_told rounds)

-- no request is missed there
pub lines_told : (t : Tables) (cuts : List (List ℕ)) (counts : Counts) → AreTables t → AreCuts t cuts →
    AllByRecursion (λ row. can_be_told row ≡ true) (judged_of (output_of t cuts counts)).lines
lines_told t cuts counts lawful long =
    let rounds : List Row = flat_map round_rows (rounds_of t cuts) in
    let ends : List Row = last_rows t cuts counts in
    each_passes can_be_told (judged_of (output_of t cuts counts)).lines
    (same_all can_be_told (judged_of (output_of t cuts counts)).lines (rounds ++ ends) (all_lines t cuts counts lawful long)
    ∙ all_pass can_be_told (rounds ++ ends) (all_append (λ row. can_be_told row ≡ true) rounds ends
    (rounds_told (rounds_of t cuts)) (last_all (λ row. can_be_told row ≡ true) t cuts counts (λ state. refl) (λ activity. refl) refl)))

pub rows_are : (t : Tables) (cuts : List (List ℕ)) (counts : Counts) → AreTables t → AreCuts t cuts →
    AllByRecursion HasFields (judged_of (output_of t cuts counts)).lines →
    AllByRecursion IsRow (judged_of (output_of t cuts counts)).lines
rows_are t cuts counts lawful long fields =
    all_both HasFields (λ row. can_be_told row ≡ true) (judged_of (output_of t cuts counts)).lines fields
    (lines_told t cuts counts lawful long)

pub reports_read_back : ReportsReadBack
reports_read_back t cuts counts lawful long fields =
    record { each = rows_are t cuts counts lawful long fields; spelled = report_spelled (output_of t cuts counts) }
