-- What stands where a run ended early: of each text the parts of so many rounds, and the front of what follows.
use Rattle.std.proofs.Common.{◌≡◌, ℕ, ◌+◌, ◌<◌, ◌≤◌, ◌⊎◌, Bool, List, [], ◌∷◌, ◌++◌, length, take, drop, flat_map, Option, Result, Ok, Err, IsErrAnd, refl, ap, sym, subst, ◌∙◌, inl, inr, arith, append_assoc, append-nil, length-append, length-drop}
use Rattle.std.proofs.Math.Seq.{take-add, take-append-add, take-append_seam, take-length}
use Rattle.std.proofs.lemmas.Bool.{cases_lt}
use Rattle.std.proofs.lemmas.Grind.{flat_map-append}
use Rattle.std.proofs.lemmas.List.{take-append-drop, take-append-le, take-take, take_all}
use Rattle.std.specs.Io.KnownBytes.{Keeps}
use Rattle.std.specs.List.{AllByRecursion}
use Rattle.us_round.proofs.PlacingLemmas.{next-of}
use Rattle.us_slots.proofs.DeviceLemmas.{appends_nothing, appends_join, appends_keep}
use Rattle.us_flows.specs.Tables.{Tables}
use Rattle.us_requests.specs.Traces.{TraceAsks, cuts_in}
use Rattle.us_replay.specs.declared.faults.RunFault.{RunFault}
use Rattle.us_output.specs.Outputs.{RoundOut}
use Rattle.us_output.specs.Files.{records, round_lines, lines}
use Rattle.us_output.proofs.PartLemmas.{all_taken}
use Rattle.us_replay.specs.Endings.{Ending, Refused, StoppedBy, Maps, Report, Memory, rounds_done}
use Rattle.us_lawful.specs.Output.{Output, maps_text, report_text}
use Rattle.us_replay.specs.Batches.{Batch, StoppedAtMaps, StoppedAtReport, Sent, ends_of, lines_before, rounds_within}
use Rattle.us_replay.specs.Replays.{Growth, HasRounds, HasWhole, KeptLimits, Ran, Stopped, StoppedEarly, Took, TookLines, TookRounds, grown}
use Rattle.us_replay.specs.Progress.{Flushed, output_in}
use Rattle.us_replay.proofs.BatchLemmas.{AreWithin, lines-before, parts-grow, parts-most, push-part, within-greatest, within-hold, within-most, within-next}

-- Lists.

-- its part, behind the parts before it
pub next-part : {X Y : Type 0} (f : X → List Y) (xs : List X) (k : ℕ) (x : X) (rest : List X) → drop k xs ≡ x ∷ rest →
    flat_map f (take (k + 1) xs) ≡ flat_map f (take k xs) ++ f x
next-part f xs k x rest h = ap (flat_map f) (next-of xs k x rest h).taken ∙ push-part f (take k xs) x

-- the parts before a place, and those from there on
parts-split : {X : Type 0} (f : X → List ℕ) (xs : List X) (k : ℕ) →
    flat_map f (take k xs) ++ flat_map f (drop k xs) ≡ flat_map f xs
parts-split f xs k = sym (flat_map-append f (take k xs) (drop k xs)) ∙ ap (flat_map f) (take-append-drop k xs)

-- the parts before a place are a front of all, with whatever behind
front-part : {X : Type 0} (f : X → List ℕ) (xs : List X) (k : ℕ) (behind : List ℕ) →
    take (length (flat_map f (take k xs))) (flat_map f xs ++ behind) ≡ flat_map f (take k xs)
front-part f xs k behind =
    rw (← parts-split f xs k, append_assoc) (take-append_seam (flat_map f (take k xs)) (flat_map f (drop k xs) ++ behind))

-- the front of a text, of which a part stands behind others
front-of : (text before part behind : List ℕ) (n : ℕ) → text ≡ before ++ (part ++ behind) → n ≤ length part →
    before ++ take n part ≡ take (length before + n) text
front-of text before part behind n whole inside =
    rw (whole, take-append-add before (part ++ behind) n, take-append-le n part behind inside) refl

front-short : (text before part behind : List ℕ) (n : ℕ) → text ≡ before ++ (part ++ behind) → n ≤ length part →
    length before + n ≤ length text
front-short text before part behind n whole inside =
    omega (arith, inside, ap length whole, length-append before (part ++ behind), length-append part behind)

-- The texts of the first rounds, and both whole.

abbrev records_to : Output → ℕ → List ℕ
records_to out k = flat_map records (take k out.given)

abbrev lines_to : Output → ℕ → List ℕ
lines_to out k = flat_map round_lines (take k out.given)

abbrev pub TookAll : Output → Growth → Growth → Type 0
TookAll out to_maps to_report = Took to_maps (maps_text out) × Took to_report (report_text out)

-- Stops.

-- the writers took so many bytes, which hold k rounds and no more
stopped-with : (out : Output) (k m n : ℕ) (to_maps to_report : Growth) → k ≤ length out.given →
    m ≤ length (maps_text out) → n ≤ length (report_text out) →
    Took to_maps (take m (maps_text out)) → Took to_report (take n (report_text out)) →
    HasRounds records out.given k m → HasRounds round_lines out.given k n →
    (k < length out.given → HasRounds records out.given (k + 1) m → HasRounds round_lines out.given (k + 1) n → ⊥) →
    (stopped : Stopped out to_maps to_report k) × (stopped.maps_taken ≡ m)
stopped-with out k m n to_maps to_report inside maps_short report_short maps_front report_front maps_hold report_hold no_more = (
  record {
    maps_taken = m;
    report_taken = n;
    maps_short = maps_short;
    report_short = report_short;
    maps_front = maps_front;
    report_front = report_front;
    rounds = inside;
    maps_hold = maps_hold;
    report_hold = report_hold;
    greatest = λ more within in_maps in_report. elim (cases_lt k more) [
      | inl over ↦ absurd (no_more (omega (arith, over, within))
          (omega (arith, in_maps, parts-grow records out.given (k + 1) more (omega (arith, over))))
          (omega (arith, in_report, parts-grow round_lines out.given (k + 1) more (omega (arith, over)))))
      | inr most ↦ most
    ];
  },
  refl,
)

-- On the way.

-- what `?` passes on
pub passed-on : {A : Type 0} {reason : RunFault} (result : Result A RunFault) → IsErrAnd result (λ given. given ≡ reason) →
    result ≡ Err reason
passed-on (Ok value) never = absurd never
passed-on (Err given) is = ap (λ r. Err r) is

pub nothing-yet : (out : Output) (a d : Option (List ℕ)) → TookRounds out 0 (grown a a) (grown d d)
nothing-yet out a d = record { rounds = omega arith; maps = appends_nothing a; report = appends_nothing d }

-- a stop where just the texts of k rounds were taken, and each round has records
pub stops-between : (out : Output) (k : ℕ) (failed : Bool) (to_maps to_report : Growth) → TookRounds out k to_maps to_report →
    ((next : RoundOut) (rest : List RoundOut) → drop k out.given ≡ next ∷ rest → 0 < length (records next)) →
    StoppedEarly Memory out k to_maps to_report failed
stops-between out k failed to_maps to_report so_far some = (
  (stopped-with out k (length (records_to out k)) (length (lines_to out k)) to_maps to_report so_far.rounds
      (parts-most records out.given k)
      (omega (arith, parts-most round_lines out.given k, length-append (flat_map round_lines out.given) (lines out.last)))
      (subst (λ text. Took to_maps (take (length (records_to out k)) text)) (append-nil (maps_text out))
      (rw (front-part records out.given k []) so_far.maps))
      (rw (front-part round_lines out.given k (lines out.last)) so_far.report) (omega arith) (omega arith)
      (λ below in_maps in_report. next (drop k out.given) refl below in_maps)).0,
  so_far,
)
  where
    next : (rest : List RoundOut) → drop k out.given ≡ rest → k < length out.given →
        HasRounds records out.given (k + 1) (length (records_to out k)) → ⊥
    next [] none below holds = omega (arith, ap length none, length-drop k out.given, below)
    next (round ∷ rest) here below holds =
        omega (
          arith,
          holds,
          ap length (next-part records out.given k round rest here),
          length-append (records_to out k) (records round),
          some round rest here,
        )

-- What a batch holds.

-- the texts of these rounds, which stand behind k others, and maybe the lines at the end
pub record IsPart (out : Output) (k : ℕ) (rounds : List RoundOut) (b : Batch) : Type 0 where
  pub rest : List RoundOut
  pub here : drop k out.given ≡ rounds ++ rest
  pub records_are : b.records ≡ flat_map records rounds
  pub ends_are : b.ends ≡ ends_of rounds
  pub own : List ℕ
  pub lines_are : b.lines ≡ flat_map round_lines rounds ++ own
  pub behind : List ℕ
  pub lines_behind : flat_map round_lines rest ++ lines out.last ≡ own ++ behind
  pub at_end : (own ≡ []) ⊎ (rest ≡ [])

module _ (out : Output) (k : ℕ) (rounds : List RoundOut) (b : Batch) (part : IsPart out k rounds b) (inside : k ≤ length out.given) where
  maps-whole : maps_text out ≡ records_to out k ++ (b.records ++ flat_map records part.rest)
  maps-whole =
      sym (parts-split records out.given k) ∙
      rw (part.here, flat_map-append records rounds part.rest, part.records_are) refl

  report-whole : report_text out ≡ lines_to out k ++ (b.lines ++ part.behind)
  report-whole =
      ap (λ bs. bs ++ lines out.last) (sym (parts-split round_lines out.given k)) ∙
      rw (part.here, flat_map-append round_lines rounds part.rest, part.lines_are)
      (simp append_assoc (ap (λ bs. lines_to out k ++ (flat_map round_lines rounds ++ bs)) part.lines_behind))

  counted : k + length rounds + length part.rest ≡ length out.given
  counted =
      omega (arith, inside, length-drop k out.given, ap length part.here, length-append rounds part.rest)

  -- the parts of the rounds up to one of them
  parts-upto : (f : RoundOut → List ℕ) (j : ℕ) → j ≤ length rounds →
      flat_map f (take (k + j) out.given) ≡ flat_map f (take k out.given) ++ flat_map f (take j rounds)
  parts-upto f j within =
      rw (take-add k j out.given, part.here, take-append-le j rounds part.rest within)
      (flat_map-append f (take k out.given) (take j rounds))

  bytes-upto : (f : RoundOut → List ℕ) (j : ℕ) → j ≤ length rounds →
      length (flat_map f (take (k + j) out.given)) ≡ length (flat_map f (take k out.given)) + length (flat_map f (take j rounds))
  bytes-upto f j within =
      ap length (parts-upto f j within) ∙ length-append (flat_map f (take k out.given)) (flat_map f (take j rounds))

  records-upto : records_to out (k + length rounds) ≡ records_to out k ++ b.records
  records-upto =
      parts-upto records (length rounds) (omega arith) ∙ rw (take-length rounds, part.records_are) refl

  -- all lines of its rounds are there
  pub lines-there : length (flat_map round_lines rounds) ≤ length b.lines
  lines-there = omega (arith, ap length part.lines_are, length-append (flat_map round_lines rounds) part.own)

  -- a front of the lines of some of its rounds
  front-lines : (j n : ℕ) → n ≤ length (flat_map round_lines (take j rounds)) →
      take n b.lines ≡ take n (flat_map round_lines (take j rounds))
  front-lines j n short =
      sym (take-take n (length (flat_map round_lines (take j rounds))) b.lines short) ∙
      ap (take n) (rw part.lines_are (front-part round_lines rounds j part.own))

  -- it isn't all there
  not-all : (m n : ℕ) → m < length b.records → rounds_within m n (ends_of rounds) ≡ length rounds → ⊥
  not-all m n short all =
      let held = within-hold rounds m n (length rounds) (omega (arith, all)) in
      omega (arith, short, held.records, ap length part.records_are, ap (λ xs. length (flat_map records xs)) (take-length rounds))

  -- and the next round doesn't end within so many bytes
  beyond : (m n w : ℕ) → w ≡ rounds_within m n (ends_of rounds) → k + w < length out.given →
      HasRounds records out.given (k + w + 1) (length (records_to out k) + m) →
      (w < length rounds → length (flat_map round_lines (take (w + 1) rounds)) ≤ n) → (w ≡ length rounds → part.rest ≡ []) → ⊥
  beyond m n w is below in_maps in_lines only_at_end =
      let next : k + w + 1 ≡ k + (w + 1) = omega arith in
      elim (cases_lt w (length rounds)) [
        | inl early ↦ within-next rounds m n w is early (record {
          records = omega (arith, in_maps, ap (λ j. length (records_to out j)) next, bytes-upto records (w + 1) (omega (arith, early)));
          lines = in_lines early;
        })
        | inr late ↦
            let all : w ≡ length rounds = omega (arith, late, is, within-most rounds m n) in
            omega (arith, counted, below, all, ap length (only_at_end all))
      ]

  -- a stop where so many bytes of it were taken
  stopped-at : (m n : ℕ) (to_maps to_report : Growth) → m ≤ length b.records → n ≤ length b.lines →
      Took to_maps (records_to out k ++ take m b.records) → Took to_report (lines_to out k ++ take n b.lines) →
      (rounds_within m n (ends_of rounds) ≡ length rounds → part.rest ≡ []) →
      (stopped : Stopped out to_maps to_report (k + rounds_within m n (ends_of rounds)))
      × (stopped.maps_taken ≡ length (records_to out k) + m)
  stopped-at m n to_maps to_report in_records in_lines took_maps took_report only_at_end =
      let w : ℕ = rounds_within m n (ends_of rounds) in
      let most : w ≤ length rounds = within-most rounds m n in
      let held : AreWithin rounds m n w = within-hold rounds m n w (omega arith) in
      stopped-with out (k + w) (length (records_to out k) + m) (length (lines_to out k) + n)
      to_maps to_report (omega (arith, counted, most))
      (front-short (maps_text out) _ b.records _ m maps-whole in_records)
      (front-short (report_text out) _ b.lines _ n report-whole in_lines)
      (subst (Took to_maps) (front-of (maps_text out) _ b.records _ m maps-whole in_records) took_maps)
      (subst (Took to_report) (front-of (report_text out) _ b.lines _ n report-whole in_lines) took_report)
      (omega (arith, bytes-upto records w most, held.records))
      (omega (arith, bytes-upto round_lines w most, held.lines))
      (λ below in_maps in_report. beyond m n w refl below in_maps (lines-in w in_report) only_at_end)
    where
      lines-in : (w : ℕ) → HasRounds round_lines out.given (k + w + 1) (length (lines_to out k) + n) →
          w < length rounds → length (flat_map round_lines (take (w + 1) rounds)) ≤ n
      lines-in w holds early =
          let next : k + w + 1 ≡ k + (w + 1) = omega arith in
          omega (arith, holds, ap (λ j. length (lines_to out j)) next, bytes-upto round_lines (w + 1) (omega (arith, early)))

  -- so many bytes of records hold so many whole rounds
  whole-there : (m : ℕ) → m < length b.records →
      HasWhole out (length (records_to out k) + m) (k + rounds_within m (length b.lines) (ends_of rounds))
  whole-there m short =
      let n : ℕ = length b.lines in
      let w : ℕ = rounds_within m n (ends_of rounds) in
      let most : w ≤ length rounds = within-most rounds m n in
      let held : AreWithin rounds m n w = within-hold rounds m n w (omega arith) in
      record {
        rounds = omega (arith, counted, most);
        hold = omega (arith, bytes-upto records w most, held.records);
        greatest = λ more within holds. elim (cases_lt (k + w) more) [
          | inl over ↦ absurd (beyond m n w refl (omega (arith, over, within))
              (omega (arith, holds, parts-grow records out.given (k + w + 1) more (omega (arith, over))))
              (λ early. omega (arith, parts-most round_lines rounds (w + 1), lines-there)) (λ all. absurd (not-all m n short all)))
          | inr no_more ↦ no_more
        ];
      }

  -- the maps file's writer stops it
  maps-stop : (done : ℕ) (failed : Bool) (a c d f g h : Option (List ℕ)) →
      TookRounds out k (grown a c) (grown f g) → StoppedAtMaps b k done (grown c d) (grown g h) failed →
      StoppedEarly Maps out done (grown a d) (grown f h) failed
  maps-stop done failed a c d f g h so_far at =
      let m : ℕ = at.record_bytes in
      let n : ℕ = at.line_bytes in
      let w : ℕ = rounds_within m n (ends_of rounds) in
      let whole : ℕ = rounds_within m (length b.lines) (ends_of rounds) in
      let most : whole ≤ length rounds = within-most rounds m (length b.lines) in
      let own : List ℕ = flat_map round_lines (take whole rounds) in
      let recorded : lines_before (rounds_within m (length b.lines) b.ends) b.ends ≡ length own =
      ap (λ ends. lines_before (rounds_within m (length b.lines) ends) ends) part.ends_are ∙ lines-before rounds whole most in
      let n_short : n ≤ length own = omega (arith, at.no_more, recorded) in
      let in_lines : n ≤ length b.lines = omega (arith, n_short, parts-most round_lines rounds whole, lines-there) in
      let took_report = appends_join f g h (lines_to out k) (take n b.lines) so_far.report at.report in
      let done_is : done ≡ k + w = at.done_is ∙ ap (λ ends. k + rounds_within m n ends) part.ends_are in
      let stopped = stopped-at m n (grown a d) (grown f h) (omega (arith, at.short)) in_lines
      (appends_join a c d (records_to out k) (take m b.records) so_far.maps at.maps) took_report
      (λ all. absurd (not-all m n at.short all)) in
      let held : AreWithin rounds m n w = within-hold rounds m n w (omega arith) in
      let fewer : w ≤ whole =
      within-greatest rounds m (length b.lines) w (within-most rounds m n)
      (record { records = held.records; lines = omega (arith, held.lines, in_lines) }) in
      let text : lines_to out k ++ take n b.lines ≡ take (length (lines_to out k) + n) (lines_to out (k + whole)) =
      rw (parts-upto round_lines whole most, take-append-add (lines_to out k) own n)
      (ap (λ bs. lines_to out k ++ bs) (front-lines whole n n_short)) in
      subst (λ j. StoppedEarly Maps out j (grown a d) (grown f h) failed) (sym done_is) (
        stopped.0,
        subst (λ taken. TookLines out (k + w) taken (grown f h) failed) (sym stopped.1) (elim at.all_or_failed [
          | inl all ↦
              let held_whole = within-hold rounds m (length b.lines) whole (omega arith) in
              let more : whole ≤ w =
              within-greatest rounds m n whole most (record { records = held_whole.records; lines = omega (arith, all, recorded) }) in
              let same : whole ≡ w = omega (arith, fewer, more) in
              let every = take_all (length (lines_to out k) + n) (lines_to out (k + whole))
              (omega (arith, bytes-upto round_lines whole most, all, recorded)) in
              inl (subst (Took (grown f h)) (text ∙ every ∙ ap (λ j. lines_to out (k + j)) same) took_report)
          | inr both ↦ inr (inr (
            both,
            record {
              whole = k + whole;
              has_whole = whole-there m at.short;
              no_fewer = omega (arith, fewer);
              bytes = length (lines_to out k) + n;
              front = subst (Took (grown f h)) text took_report;
            },
          ))
        ]),
      )

  -- the report's does
  report-stops : (done : ℕ) (failed : Bool) (a c d f g h : Option (List ℕ)) →
      TookRounds out k (grown a c) (grown f g) → StoppedAtReport b k done (grown c d) (grown g h) →
      StoppedEarly Report out done (grown a d) (grown f h) failed
  report-stops done failed a c d f g h so_far at =
      let m : ℕ = length b.records in
      let n : ℕ = at.line_bytes in
      let done_is : done ≡ k + rounds_within m n (ends_of rounds) =
      at.done_is ∙ ap (λ ends. k + rounds_within m n ends) part.ends_are in
      let took_maps = appends_join a c d (records_to out k) b.records so_far.maps at.maps in
      subst (λ j. StoppedEarly Report out j (grown a d) (grown f h) failed) (sym done_is) (
        (stopped-at m n (grown a d) (grown f h) (omega arith) (omega (arith, at.short))
            (subst (λ bs. Took (grown a d) (records_to out k ++ bs)) (sym (take-length b.records)) took_maps)
            (appends_join f g h (lines_to out k) (take n b.lines) so_far.report at.report) at_end).0,
        (
          k + length rounds,
          omega (arith, within-most rounds m n),
          omega (arith, counted),
          subst (Took (grown a d)) (sym records-upto) took_maps,
        ),
      )
    where
      at_end : rounds_within (length b.records) at.line_bytes (ends_of rounds) ≡ length rounds → part.rest ≡ []
      at_end all = elim part.at_end [
        | inl none ↦
            let held = within-hold rounds (length b.records) at.line_bytes (length rounds) (omega (arith, all)) in
            absurd (omega (
              arith,
              at.short,
              held.lines,
              ap length part.lines_are,
              length-append (flat_map round_lines rounds) part.own,
              ap length none,
              ap (λ xs. length (flat_map round_lines xs)) (take-length rounds),
            ))
        | inr last ↦ last
      ]

  -- or both took it
  pub part-sent : (a c d f g h : Option (List ℕ)) → TookRounds out k (grown a c) (grown f g) → part.own ≡ [] →
      Took (grown c d) b.records → Took (grown g h) b.lines → TookRounds out (k + length rounds) (grown a d) (grown f h)
  part-sent a c d f g h so_far none took_records took_lines =
      let all_lines : lines_to out (k + length rounds) ≡ lines_to out k ++ b.lines =
      parts-upto round_lines (length rounds) (omega arith) ∙ rw (take-length rounds, part.lines_are, none, append-nil) refl in
      record {
        rounds = omega (arith, counted);
        maps = subst (Took (grown a d)) (sym records-upto) (appends_join a c d (records_to out k) b.records so_far.maps took_records);
        report = subst (Took (grown f h)) (sym all_lines) (appends_join f g h (lines_to out k) b.lines so_far.report took_lines);
      }

  pub last-sent : (a c d f g h : Option (List ℕ)) → part.rest ≡ [] → part.behind ≡ [] → TookRounds out k (grown a c) (grown f g) →
      Took (grown c d) b.records → Took (grown g h) b.lines → TookAll out (grown a d) (grown f h)
  last-sent a c d f g h none nothing so_far took_records took_lines =
      let all_records : maps_text out ≡ records_to out k ++ b.records = maps-whole ∙ rw (none, append-nil) refl in
      let all_lines : report_text out ≡ lines_to out k ++ b.lines = report-whole ∙ rw (nothing, append-nil) refl in (
        subst (Took (grown a d)) (sym all_records) (appends_join a c d (records_to out k) b.records so_far.maps took_records),
        subst (Took (grown f h)) (sym all_lines) (appends_join f g h (lines_to out k) b.lines so_far.report took_lines),
      )

-- Limits.

pub kept-before : (t : Tables) (cuts : List (List ℕ)) (done k : ℕ) → done ≤ k → KeptLimits t cuts k → KeptLimits t cuts done
unfolding KeptLimits
kept-before t cuts done k fewer kept =
    subst (AllByRecursion _) (take-take done k _ fewer) (all_taken _ done (take k _) kept)

-- how a run ends with a batch that wasn't all taken, which names no more rounds than those that it ends with
pub sent-stops : (t : Tables) (v : TraceAsks) (k last : ℕ) (rounds : List RoundOut) (b : Batch) (failed : Bool)
    (a c d f g h : Option (List ℕ)) (end : Ending) → IsPart (output_in t v) k rounds b → k + length rounds ≡ last →
    KeptLimits t (cuts_in t v) last → TookRounds (output_in t v) k (grown a c) (grown f g) →
    Sent b k (grown c d) (grown g h) failed (Err end) →
    Ran (output_in t v) v.counts (grown a d) (grown f h) failed (Err end) × KeptLimits t (cuts_in t v) (rounds_done (Err end))
sent-stops t v k last rounds b failed a c d f g h (StoppedBy Maps done) part all kept so_far at = (
  maps-stop (output_in t v) k rounds b part so_far.rounds done failed a c d f g h so_far at,
  kept-before t (cuts_in t v) done last (omega (
    arith,
    all,
    at.done_is,
    ap (rounds_within at.record_bytes at.line_bytes) part.ends_are,
    within-most rounds at.record_bytes at.line_bytes,
  )) kept,
)
sent-stops t v k last rounds b failed a c d f g h (StoppedBy Report done) part all kept so_far at = (
  report-stops (output_in t v) k rounds b part so_far.rounds done failed a c d f g h so_far at,
  kept-before t (cuts_in t v) done last (omega (
    arith,
    all,
    at.done_is,
    ap (rounds_within (length b.records) at.line_bytes) part.ends_are,
    within-most rounds (length b.records) at.line_bytes,
  )) kept,
)
sent-stops t v k last rounds b failed a c d f g h (StoppedBy Memory done) part all kept so_far never = absurd never
sent-stops t v k last rounds b failed a c d f g h (Refused why) part all kept so_far never = absurd never

-- The end.

-- a stop behind both texts
stops-after : (out : Output) (to_maps to_report : Growth) → TookAll out to_maps to_report →
    Stopped out to_maps to_report (length out.given)
stops-after out to_maps to_report took =
    let report : List ℕ = report_text out in
    (stopped-with out (length out.given) (length (maps_text out)) (length report) to_maps to_report (omega arith)
    (omega arith) (omega arith) (rw (take-length (maps_text out)) took.0) (rw (take-length report) took.1)
    (parts-most records out.given (length out.given))
    (omega (arith, parts-most round_lines out.given (length out.given), length-append (flat_map round_lines out.given) (lines out.last)))
    (λ below. absurd (omega (arith, below)))).0

pub flushed-all : (out : Output) (a b c d e f : Option (List ℕ)) → TookAll out (grown a b) (grown d e) →
    Keeps b c → Keeps e f → TookAll out (grown a c) (grown d f)
flushed-all out a b c d e f took maps report =
    (appends_keep a b c (maps_text out) took.0 maps, appends_keep d e f (report_text out) took.1 report)

-- how it ends with a fault of a flush
pub flush-stops : (t : Tables) (v : TraceAsks) (k : ℕ) (failed : Bool) (a b c d e f : Option (List ℕ)) (end : Ending) →
    k ≡ length (output_in t v).given → KeptLimits t (cuts_in t v) k → TookAll (output_in t v) (grown a b) (grown d e) →
    Flushed k (grown b c) (grown e f) (Err end) →
    Ran (output_in t v) v.counts (grown a c) (grown d f) failed (Err end) × KeptLimits t (cuts_in t v) (rounds_done (Err end))
flush-stops t v k failed a b c d e f (StoppedBy Maps done) all kept took (maps, report, is) =
    let whole : TookAll (output_in t v) (grown a c) (grown d f) = flushed-all (output_in t v) a b c d e f took maps report in
    rw (is, all) ((stops-after (output_in t v) _ _ whole, inr (inl (refl, whole.1))), rw all at kept)
flush-stops t v k failed a b c d e f (StoppedBy Report done) all kept took (maps, report, is) =
    let whole : TookAll (output_in t v) (grown a c) (grown d f) = flushed-all (output_in t v) a b c d e f took maps report in
    rw (is, all) (
      (
        stops-after (output_in t v) _ _ whole,
        (length (output_in t v).given, omega arith, omega arith, rw (take-length (output_in t v).given) whole.0),
      ),
      rw all at kept,
    )
flush-stops t v k failed a b c d e f (StoppedBy Memory done) all kept took never = absurd never
flush-stops t v k failed a b c d e f (Refused why) all kept took never = absurd never

pub none-kept : (t : Tables) (cuts : List (List ℕ)) → KeptLimits t cuts 0
unfolding KeptLimits
none-kept t cuts = tt
