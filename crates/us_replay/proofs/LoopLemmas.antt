-- The loop over rounds: how state, progress and writers stand after each.
use Rattle.std.proofs.Common.{◌≡◌, ℕ, zero, suc, ◌+◌, ◌*◌, ◌^◌, ◌<◌, ◌≤◌, List, [], ◌∷◌, length, map, take, drop, cond, nat_le, Bool, sum, sum_by, count_by, true, Option, Err, refl, ap, sym, subst, ◌∙◌, arith}
use Rattle.std.specs.List.{AllByRecursion, drop-map, range_with_len, zip}
use Rattle.std.proofs.lemmas.Bool.{and_parts, leb-true}
use Rattle.std.proofs.lemmas.Nat.{mul-le}
use Rattle.std.proofs.lemmas.List.{length-map, length-replicate, drop_more, drop_all, take_all}
use Rattle.std.proofs.lemmas.List.Sums.{sum_by-append, sum-map, count_by-le-length}
use Rattle.std.proofs.lemmas.List.FromFn.{length-map-range_with_len, get_or-map-range_with_len, sum_by-map-range_with_len_more}
use Rattle.us_flows.specs.Tables.{Tables, max_run_ticks, rounds_fit}
use Rattle.us_flows.specs.Clusters.{words_of}
use Rattle.us_flows.specs.Lawful.{AreTables}
use Rattle.us_intake.proofs.TallyLemmas.{sum-empty}
use Rattle.us_requests.specs.declared.asks.Ask.{Ask}
use Rattle.us_requests.specs.declared.asks.Counts.{Counts}
use Rattle.us_requests.specs.Cuts.{cut_of}
use Rattle.us_requests.specs.Traces.{TraceAsks, asks_in, max_asked, IsTrace, cuts_in}
use Rattle.us_output.specs.declared.rows.Row.{Row}
use Rattle.us_output.specs.Outputs.{Scheduled, RoundOut, AreWithinLimits, out_of}
use Rattle.us_output.specs.Files.{records, is_granted, is_missed}
use Rattle.us_output.specs.Lines.{HasFields}
use Rattle.us_output.proofs.PartLemmas.{all_append}
use Rattle.us_round.specs.Rounds.{State, round_of, opening, schedule, final}
use Rattle.us_round.specs.States.{settled_by}
use Rattle.us_round.proofs.PlacingLemmas.{next-of}
use Rattle.us_lawful.specs.Output.{Output, all_rows, output_of}
use Rattle.us_lawful.proofs.LawfulLaws.{texts_of_schedules_are_lawful}
use Rattle.us_lawful.proofs.TraceTextLaws.{are-cuts, length-cuts}
use Rattle.us_replay.specs.declared.faults.RunFault.{RunFault}
use Rattle.us_replay.specs.declared.faults.RunFault.TheVariants as fault
use Rattle.us_replay.specs.Batches.{AreInside, Batch, Sent}
use Rattle.us_replay.specs.Endings.{ending_of}
use Rattle.us_replay.specs.Replays.{Growth, KeptLimits, Took, TookRounds, grown, summary_of}
use Rattle.us_replay.specs.Progress.{Progress, Along, CanMake, Holds, IsLawfulOutput, IsMade, RanTrace, last_rows, max_requested, opening_progress, out_after, output_in, step_of, summary_after, with_last, with_round}
use Rattle.us_replay.proofs.BatchLemmas.{all-inside, length-ends}
use Rattle.us_replay.proofs.RoundLemmas.{After, added-below, after, HasCalendars, opening-calendars, next-calendars, some-records}
use Rattle.us_replay.proofs.CollectingLemmas.{all-within, are-asks}
use Rattle.us_replay.proofs.CutLemmas.{bytes_of, length-cut, sum-cut}
use Rattle.us_replay.proofs.ReplayStopLemmas.{IsPart, TookAll, last-sent, lines-there, part-sent, kept-before, next-part, none-kept, nothing-yet, sent-stops, stops-between}
use Rattle.us_replay.proofs.HeldLemmas.{held, held-own, held-part, holds-next, last-part, length-held}

-- Before round 0.

pub along-opening : (t : Tables) (v : TraceAsks) (state : State) (p : Progress) → AreTables t → state ≡ opening t →
    p ≡ opening_progress (length (words_of t)) → Along t v 0 state p
unfolding KeptLimits
along-opening t v state p lawful opened empty = rw (opened, empty) (record {
  within = omega arith;
  lawful = lawful;
  tables = refl;
  round = refl;
  clusters = length-replicate {A = ℕ} (length (words_of t)) 0;
  asked = omega (arith, sum-empty (length (words_of t)));
  collected = omega arith;
  rest = refl;
  ends = refl;
  granted = refl;
  missed = refl;
  few_granted = omega arith;
  few_missed = omega arith;
  limits = tt;
  fields = tt;
})

-- One round.

next-cut : (t : Tables) (v : TraceAsks) (k : ℕ) (state : State) (p : Progress) → Along t v k state p → k < v.rounds →
    drop k (cuts_in t v) ≡ cut_of (length p.cut) (asks_in v k) ∷ drop (k + 1) (cuts_in t v)
unfolding cuts_in
next-cut t v k state p along below =
    let cut : ℕ → List ℕ = λ round. cut_of (length (words_of t)) (asks_in v round) in
    drop_more (cuts_in t v) k [] (omega (arith, below, length-map-range_with_len cut 0 v.rounds)) ∙
    rw (along.clusters, get_or-map-range_with_len cut 0 v.rounds k k [] below (omega arith)) refl

sum-more : (f : ℕ → ℕ) (k : ℕ) → sum_by f (range_with_len 0 (k + 1)) ≡ sum_by f (range_with_len 0 k) + f k
sum-more f k =
    let more = sum_by-map-range_with_len_more (λ n. n) f 0 k k (omega arith) in
    omega (arith, more, sum-map f (range_with_len 0 (k + 1)), sum-map f (range_with_len 0 k))

-- what a round asks for, in bytes and in asks
abbrev bytes_in : TraceAsks → ℕ → ℕ
bytes_in v round = bytes_of (asks_in v round)

abbrev count_in : TraceAsks → ℕ → ℕ
count_in v round = length (asks_in v round)

next-round : (t : Tables) (v : TraceAsks) (k : ℕ) (state : State) (p : Progress) → Along t v k state p → k < v.rounds →
    drop k (schedule (opening t) (cuts_in t v)) ≡
    (step_of state p (asks_in v k)).scheduled ∷ schedule (step_of state p (asks_in v k)).state (drop (k + 1) (cuts_in t v))
unfolding schedule
next-round t v k state p along below = sym along.rest ∙ ap (schedule state) (next-cut t v k state p along below)

next-here : (t : Tables) (v : TraceAsks) (k : ℕ) (state : State) (p : Progress) → Along t v k state p → k < v.rounds →
    drop k (output_in t v).given ≡ out_after state p (asks_in v k) ∷ drop (k + 1) (output_in t v).given
unfolding output_of
next-here t v k state p along below =
    let all : List Scheduled = schedule (opening t) (cuts_in t v) in
    let now = next-round t v k state p along below in
    let here : Scheduled = (step_of state p (asks_in v k)).scheduled in
    drop-map (out_of t) k all ∙ ap (map (out_of t)) now ∙
    ap (λ rest. out_of t here ∷ rest) (ap (map (out_of t)) (sym (next-of all k _ _ now).behind) ∙ sym (drop-map (out_of t) (k + 1) all)) ∙
    ap (λ u. out_of u here ∷ drop (k + 1) (output_in t v).given) (sym along.tables)

count-next : (passes : Row → Bool) (given : List RoundOut) (k : ℕ) (here : RoundOut) (rest : List RoundOut) →
    drop k given ≡ here ∷ rest →
    count_by passes (all_rows (take (k + 1) given)) ≡ count_by passes (all_rows (take k given)) + count_by passes here.rows
count-next passes given k here rest is =
    ap (count_by passes) (next-part (λ out. out.rows) given k here rest is) ∙
    sum_by-append (λ row. cond (passes row) 1 0) (all_rows (take k given)) here.rows

pub along-next : (t : Tables) (v : TraceAsks) (k : ℕ) (state next : State) (p q : Progress) → IsTrace v → Along t v k state p →
    k < v.rounds → IsMade state p (asks_in v k) next q → Along t v (k + 1) next q
unfolding with_round final KeptLimits
along-next t v k state next p q lawful along below made =
    let cut : List ℕ = cut_of (length p.cut) (asks_in v k) in
    let here : RoundOut = out_after state p (asks_in v k) in
    let ends : After state cut (round_of state cut).state = after state cut in
    let now = next-round t v k state p along below in
    let given = next-here t v k state p along below in
    let few : length here.rows + settled_by state ≤ max_requested + settled_by (round_of state cut).state =
    rw made.state_is at made.few in
    rw (made.state_is, made.progress_is) (record {
      within = omega (arith, below);
      lawful = along.lawful;
      tables = ends.tables_are ∙ along.tables;
      round = omega (arith, ends.round_is, along.round);
      clusters = length-cut (length p.cut) (asks_in v k) ∙ along.clusters;
      asked = omega (arith, ends.asked_for, sum-cut (length p.cut) (asks_in v k), along.asked, sum-more (bytes_in v) k);
      collected = omega (
        arith,
        sum-cut (length p.cut) (asks_in v k),
        all-within (asks_in v k) (lawful.small k),
        along.collected,
        sum-more (count_in v) k,
      );
      rest = sym (next-of (schedule (opening t) (cuts_in t v)) k _ _ now).behind;
      ends = sym (ap (final state) (next-cut t v k state p along below)) ∙ along.ends;
      granted = ap (λ n. n + count_by is_granted here.rows) along.granted ∙
          sym (count-next is_granted (output_in t v).given k here _ given);
      missed = ap (λ n. n + count_by is_missed here.rows) along.missed ∙
          sym (count-next is_missed (output_in t v).given k here _ given);
      few_granted = omega (arith, along.few_granted, few, ends.round_is, count_by-le-length is_granted here.rows);
      few_missed = omega (arith, along.few_missed, few, ends.round_is, count_by-le-length is_missed here.rows);
      limits = subst (AllByRecursion _) (sym (next-of (schedule (opening t) (cuts_in t v)) k _ _ now).taken)
          (all_append _ (take k (schedule (opening t) (cuts_in t v))) _ along.limits
          (subst (λ u. AreWithinLimits u (step_of state p (asks_in v k)).scheduled) along.tables made.limits, tt));
      fields = subst (AllByRecursion HasFields) (sym (next-part (λ out. out.rows) (output_in t v).given k here _ given))
          (all_append HasFields (all_rows (take k (output_in t v).given)) here.rows along.fields made.fields);
    })

-- what the batch holds then
pub holds-made : (t : Tables) (v : TraceAsks) (sent k : ℕ) (state next : State) (p q : Progress) → Along t v k state p →
    k < v.rounds → IsMade state p (asks_in v k) next q → Holds (output_in t v) sent k p.batch →
    Holds (output_in t v) sent (k + 1) q.batch
unfolding with_round
holds-made t v sent k state next p q along below made holds =
    rw made.progress_is
    (holds-next (output_in t v) sent k p.batch (out_after state p (asks_in v k)) _ holds (next-here t v k state p along below))

-- each round has records
some-in : (state : State) (cuts : List (List ℕ)) (k : ℕ) (next : RoundOut) (rest : List RoundOut) →
    HasCalendars state → 1 ≤ length state.tables.channels →
    drop k (map (out_of state.tables) (schedule state cuts)) ≡ next ∷ rest → 0 < length (records next)
unfolding schedule
some-in state [] zero next rest calendars some here = let no : [] ≡ next ∷ rest = here in cc
some-in state [] (suc k) next rest calendars some here = let no : [] ≡ next ∷ rest = here in cc
some-in state (cut ∷ cuts) zero next rest calendars some here =
    let same : out_of state.tables (round_of state cut).scheduled ≡ next = cc in
    omega (arith, some-records state cut calendars some, ap (λ out. length (records out)) same)
some-in state (cut ∷ cuts) (suc k) next rest calendars some here =
    let same : (round_of state cut).state.tables ≡ state.tables = (after state cut).tables_are in
    some-in (round_of state cut).state cuts k next rest (next-calendars state cut calendars)
    (omega (arith, some, ap (λ t. length t.channels) same))
    (ap (λ t. drop k (map (out_of t) (schedule (round_of state cut).state cuts))) same ∙ here)

pub some-next : (t : Tables) (v : TraceAsks) (k : ℕ) → AreTables t → (next : RoundOut) (rest : List RoundOut) →
    drop k (output_in t v).given ≡ next ∷ rest → 0 < length (records next)
unfolding output_of
some-next t v k lawful next rest here =
    some-in (opening t) (cuts_in t v) k next rest (opening-calendars t) lawful.some_channels.0 here

-- where nothing was written
pub ends-at-once : (t : Tables) (v : TraceAsks) (a d : Option (List ℕ)) (failed : Bool) → AreTables t →
    RanTrace t v (grown a a) (grown d d) failed (Err (fault.NoMemory 0))
ends-at-once t v a d failed lawful = (
  stops-between (output_in t v) 0 failed _ _ (nothing-yet (output_in t v) a d) (some-next t v 0 lawful),
  none-kept t (cuts_in t v),
)

-- All rounds.

length-schedule : (state : State) (cuts : List (List ℕ)) → length (schedule state cuts) ≡ length cuts
unfolding schedule
length-schedule state [] = refl
length-schedule state (cut ∷ cuts) = omega (arith, length-schedule (round_of state cut).state cuts)

pub length-given : (t : Tables) (v : TraceAsks) → length (output_in t v).given ≡ v.rounds
unfolding output_of
length-given t v =
    length-map (schedule (opening t) (cuts_in t v)) (out_of t) ∙ length-schedule (opening t) (cuts_in t v) ∙ length-cuts t v

-- What is sent.

-- the batch, as it is lent to be sent
pub record IsHeld (t : Tables) (v : TraceAsks) (sent k : ℕ) (b : Batch) : Type 0 where
  pub inside : sent ≤ length (output_in t v).given
  pub part : IsPart (output_in t v) sent (held (output_in t v) sent k) b
  pub count : sent + length (held (output_in t v) sent k) ≡ k
  pub few : sent + length b.ends ≡ k
  pub ends_inside : AreInside b

is-held : (t : Tables) (v : TraceAsks) (sent k : ℕ) (b : Batch) → sent ≤ k → k ≤ v.rounds →
    IsPart (output_in t v) sent (held (output_in t v) sent k) b → IsHeld t v sent k b
is-held t v sent k b from most part =
    let rounds : List RoundOut = held (output_in t v) sent k in
    let inside : sent ≤ length (output_in t v).given = omega (arith, from, most, length-given t v) in
    let count = length-held (output_in t v) sent k from (omega (arith, most, length-given t v)) in
    record {
      inside = inside;
      part = part;
      count = count;
      few = omega (arith, count, ap length part.ends_are, length-ends rounds);
      ends_inside = subst (AllByRecursion (λ end. end.lines ≤ length b.lines)) (sym part.ends_are)
          (all-inside rounds (length b.lines) (lines-there (output_in t v) sent rounds b part inside));
    }

-- behind a round that was made,
pub held-then : (t : Tables) (v : TraceAsks) (sent k : ℕ) (b : Batch) → Holds (output_in t v) sent k b → k ≤ v.rounds →
    IsHeld t v sent k b
held-then t v sent k b holds within = is-held t v sent k b holds.from within (held-part (output_in t v) sent k b holds)

-- how the run stands then
pub record IsMore (t : Tables) (v : TraceAsks) (sent k : ℕ) (state : State) (p : Progress) : Type 0 where
  pub along : Along t v k state p
  pub holds : Holds (output_in t v) sent k p.batch
  pub held : IsHeld t v sent k p.batch

pub one-more : (t : Tables) (v : TraceAsks) (sent k : ℕ) (state next : State) (p q : Progress) → IsTrace v →
    Along t v k state p → Holds (output_in t v) sent k p.batch → k < v.rounds → IsMade state p (asks_in v k) next q →
    IsMore t v sent (k + 1) next q
one-more t v sent k state next p q lawful along holds below made =
    let then : Holds (output_in t v) sent (k + 1) q.batch = holds-made t v sent k state next p q along below made holds in
    record {
      along = along-next t v k state next p q lawful along below made;
      holds = then;
      held = held-then t v sent (k + 1) q.batch then (omega (arith, below));
    }

-- and at the end, where all rounds were made
pub record IsAll (t : Tables) (v : TraceAsks) (sent rounds : ℕ) (state : State) (q : Progress) (counts : Counts) : Type 0 where
  pub held : IsHeld t v sent rounds q.batch
  pub limits : KeptLimits t (cuts_in t v) rounds
  pub long : rounds ≡ length (output_in t v).given
  pub took : (a c d f g h : Option (List ℕ)) → TookRounds (output_in t v) sent (grown a c) (grown f g) →
      Took (grown c d) q.batch.records → Took (grown g h) q.batch.lines → TookAll (output_in t v) (grown a d) (grown f h)
  pub summary : summary_after q rounds counts ≡ summary_of (output_in t v) v.counts
  pub lawful : rounds_fit t v.rounds ≡ true → AllByRecursion HasFields (last_rows state counts) → IsLawfulOutput t v

module _ (t : Tables) (v : TraceAsks) (sent k : ℕ) (state : State) (p q : Progress) (counts : Counts) (along : Along t v k state p)
    (holds : Holds (output_in t v) sent k p.batch) (all : k ≡ v.rounds) (same : counts ≡ v.counts)
    (made : q ≡ with_last p state counts) where
  ended : state ≡ final (opening t) (cuts_in t v)
  unfolding final
  ended =
      sym (ap (final state) (drop_all k (cuts_in t v) (omega (arith, all, length-cuts t v)))) ∙ along.ends

  whole : take k (output_in t v).given ≡ (output_in t v).given
  whole = take_all k (output_in t v).given (omega (arith, all, length-given t v))

  rows-last : last_rows state counts ≡ (output_in t v).last
  unfolding output_of
  rows-last = rw (ended, same) refl

  part-last : (part : IsPart (output_in t v) sent (held (output_in t v) sent k) q.batch) × (part.rest ≡ []) × (part.behind ≡ [])
  unfolding with_last
  part-last =
      last-part (output_in t v) sent k p.batch q.batch (last_rows state counts) holds (all ∙ sym (length-given t v)) rows-last
      (ap (λ p. p.batch) made)

  held-last : IsHeld t v sent k q.batch
  held-last = is-held t v sent k q.batch holds.from (omega (arith, all)) part-last.0

  summary-is : summary_after q k counts ≡ summary_of (output_in t v) v.counts
  unfolding summary_of with_last
  summary-is =
      let granted : p.granted ≡ count_by is_granted (all_rows (output_in t v).given) =
      along.granted ∙ ap (λ given. count_by is_granted (all_rows given)) whole in
      let missed : p.missed ≡ count_by is_missed (all_rows (output_in t v).given) =
      along.missed ∙ ap (λ given. count_by is_missed (all_rows given)) whole in
      let rounds : length (output_in t v).given ≡ k = length-given t v ∙ sym all in
      rw (made, same, granted, missed, rounds) refl

  made-all : IsAll t v sent k state q counts
  made-all = record {
    held = held-last;
    limits = along.limits;
    long = all ∙ sym (length-given t v);
    took = λ a c d f g h. last-sent (output_in t v) sent (held (output_in t v) sent k) q.batch part-last.0 held-last.inside
        a c d f g h part-last.1 part-last.2;
    summary = summary-is;
    lawful = λ fits fields. texts_of_schedules_are_lawful t (cuts_in t v) v.counts along.lawful (are-cuts t v)
        (ap (rounds_fit t) (length-cuts t v) ∙ fits)
        (all_append HasFields (all_rows (output_in t v).given) (output_in t v).last
        (subst (λ given. AllByRecursion HasFields (all_rows given)) whole along.fields)
        (subst (AllByRecursion HasFields) rows-last fields));
  }

pub all-made : (t : Tables) (v : TraceAsks) (sent k rounds : ℕ) (state : State) (p q : Progress) (counts : Counts) →
    Along t v k state p → Holds (output_in t v) sent k p.batch → rounds ≤ k → rounds ≡ v.rounds → counts ≡ v.counts →
    q ≡ with_last p state counts → IsAll t v sent rounds state q counts
all-made t v sent k rounds state p q counts along holds end is same made =
    let all : k ≡ rounds = omega (arith, along.within, end, is) in
    rw (← all) (made-all t v sent k state p q counts along holds (all ∙ is) same made)

-- a batch that wasn't all taken
pub sent-ends : (t : Tables) (v : TraceAsks) (sent k : ℕ) (b : Batch) (failed : Bool) (a c d f g h : Option (List ℕ))
    (why : RunFault) → IsHeld t v sent k b → TookRounds (output_in t v) sent (grown a c) (grown f g) →
    KeptLimits t (cuts_in t v) k → Sent b sent (grown c d) (grown g h) failed (Err (ending_of why)) →
    RanTrace t v (grown a d) (grown f h) failed (Err why)
sent-ends t v sent k b failed a c d f g h why is so_far kept at =
    sent-stops t v sent k (held (output_in t v) sent k) b failed a c d f g h (ending_of why) is.part is.count kept so_far at

-- or that was
pub next-took : (t : Tables) (v : TraceAsks) (sent k : ℕ) (b : Batch) (a c d f g h : Option (List ℕ)) →
    Holds (output_in t v) sent k b → k ≤ v.rounds → TookRounds (output_in t v) sent (grown a c) (grown f g) →
    Took (grown c d) b.records → Took (grown g h) b.lines → TookRounds (output_in t v) k (grown a d) (grown f h)
next-took t v sent k b a c d f g h holds within so_far took_records took_lines =
    let out : Output = output_in t v in
    let is : IsHeld t v sent k b = held-then t v sent k b holds within in
    subst (λ n. TookRounds out n (grown a d) (grown f h)) is.count
    (part-sent out sent (held out sent k) b (held-part out sent k b holds) is.inside a c d f g h so_far
    (held-own out sent k b holds) took_records took_lines)

-- want of memory
pub wanting-ends : (t : Tables) (v : TraceAsks) (sent k : ℕ) (state : State) (p : Progress) (failed : Bool) (to_maps to_report : Growth) →
    Along t v k state p → Holds (output_in t v) sent k p.batch → TookRounds (output_in t v) sent to_maps to_report →
    RanTrace t v to_maps to_report failed (Err (fault.NoMemory sent))
wanting-ends t v sent k state p failed to_maps to_report along holds so_far = (
  stops-between (output_in t v) sent failed to_maps to_report so_far (some-next t v sent along.lawful),
  kept-before t (cuts_in t v) sent k holds.from along.limits,
)

-- What a round needs.

-- the rounds of a run keep their ends
time-next : (t : Tables) (rounds k : ℕ) → rounds_fit t rounds ≡ true → k < rounds →
    (k + 1) * t.round_ticks ≤ max_run_ticks
time-next t rounds k fits below =
    let all = leb-true (rounds * t.round_ticks) max_run_ticks
    (and_parts (nat_le 1 rounds) (nat_le (rounds * t.round_ticks) max_run_ticks) fits).1 in
    omega (arith, all, mul-le (k + 1) t.round_ticks rounds t.round_ticks (omega (arith, below)) (omega arith))

-- what is outstanding and what is asked for stay below all that is ever asked for
pub can-make : (t : Tables) (v : TraceAsks) (k : ℕ) (state : State) (p : Progress) (asks : List Ask) → IsTrace v →
    Along t v k state p → rounds_fit t v.rounds ≡ true → k < v.rounds →
    AllByRecursion (λ ask. ask.cluster < length (words_of t)) (asks_in v k) → asks ≡ asks_in v k → CanMake state p asks
can-make t v k state p asks lawful along fits below known are = rw are (record {
  lawful = rw along.tables along.lawful;
  clusters = rw along.tables along.clusters;
  asks_are = rw along.clusters (are-asks (length (words_of t)) (asks_in v k) known (lawful.small k));
  few_asks = omega (arith, sum-more (count_in v) k, lawful.few (k + 1));
  room = omega (arith, along.collected, sum-more (count_in v) k, lawful.few (k + 1));
  asked = omega (arith, along.asked, sum-more (bytes_in v) k, lawful.asked (k + 1));
  time = rw (along.round, along.tables) (time-next t v.rounds k fits below);
  few_granted = along.few_granted;
  few_missed = along.few_missed;
})

-- Making a round.

pub pairs-room : (outstanding cut : List ℕ) (n : ℕ) (asks : List Ask) → cut ≡ cut_of n asks →
    sum outstanding + bytes_of asks ≤ max_asked → AllByRecursion (λ pair. pair.0 + pair.1 < 2 ^ 62) (zip outstanding cut)
pairs-room outstanding cut n asks is room =
    added-below (2 ^ 62) outstanding cut (omega (arith, ap sum is, sum-cut n asks, room))
