-- Between rounds: the seat is whole and took all that was submitted, so what it takes is what was asked for since.
use Rattle.std.proofs.Common.{◌≡◌, ℕ, ◌+◌, List, length, replicate, refl, ap, sym, ◌∙◌, arith, Option, None, Some}
use Rattle.std.proofs.lemmas.List.{nil_from_length}
use Rattle.us_intake.specs.Seats.{Intake, Seat, spent}
use Rattle.us_intake.proofs.TallyLemmas.{sum-added, length-added}
use Rattle.us_requests.specs.declared.asks.Ask.{Ask}
use Rattle.us_requests.specs.Cuts.{cut_of}
use Rattle.us_replay.specs.Collecting.{AreAsks, AreSettled, Collector, IsDue, IsSettled, IsTold, collected_by, seat_after_asks, seat_after_takes, with_asks}
use Rattle.us_replay.proofs.CutLemmas.{cut-none, length-cut, sum-none}
use Rattle.us_replay.proofs.CollectingLemmas.{are-known}
use Rattle.us_replay.proofs.TakingLemmas.{clear-is-told, cut-is-told}

-- what a collector whose value this is was asked for
pub asks-here : (value here : Collector) (asks : List Ask) → value ≡ here → AreAsks (length here.cut) asks →
    AreAsks (length value.cut) asks
asks-here value here asks is are = rw is are

-- with no seat nothing is asked of the intake, and the cut is clear
pub given-up : (old cut : List ℕ) (intakes : Option Intake) (seats : Option Seat) (asks : List Ask) → seats ≡ None →
    AreAsks (length old) asks → cut ≡ replicate (length old) 0 → AreSettled (length cut) intakes seats × IsTold asks cut
given-up old cut intakes seats asks none are is =
    (rw none tt, clear-is-told (length old) asks cut (are-known (length old) asks are) is)

-- where nobody asks
pub empty-round : (old cut : List ℕ) (collected : ℕ) (asks : List Ask) → length asks ≡ 0 →
    cut ≡ replicate (length old) 0 →
    record { cut = cut; collected = collected } ≡ with_asks (record { cut = old; collected = collected }) asks
empty-round old cut collected asks none is =
    let same : collected + 0 ≡ collected = omega arith in
    rw (nil_from_length asks none, is, sum-none (length old), cut-none (length old), same) refl

-- a round with asks: the seat submits them, takes them, and is settled again
pub record IsNext (old cut : List ℕ) (intakes : Option Intake) (seats : Option Seat) (next : Seat) (asks : List Ask) : Type 0 where
  pub settled : AreSettled (length cut) intakes (Some next)
  pub told : IsTold asks cut
  pub value : record { cut = cut; collected = spent next } ≡ with_asks (record { cut = old; collected = collected_by seats }) asks

module _ (old : List ℕ) (intakes : Option Intake) (seats : Option Seat) (intake : Intake) (seat full : Seat) (asks : List Ask)
    (before : AreSettled (length old) intakes seats) (intake_is : intakes ≡ Some intake) (seat_is : seats ≡ Some seat)
    (full_is : full ≡ seat_after_asks seat asks) (are : AreAsks (length old) asks) where
  settled : IsSettled (length old) intake seat
  settled = rw (intake_is, seat_is) at before

  row : seat.intake.clusters ≡ length old
  row = ap (λ (i : Intake). i.clusters) settled.own ∙ settled.clusters_are

  pub due-here : IsDue full asks
  due-here = rw full_is (record {
    whole = settled.whole ∙ sym settled.quota_is ∙ sym (ap (λ (i : Intake). i.quota) settled.own);
    takes = settled.takes;
    row = ap length settled.even ∙ settled.row ∙ sym row;
    known = rw row (are-known (length old) asks are);
    due = rw settled.even refl;
  })

  pub next-round : (next : Seat) (cut : List ℕ) → next ≡ seat_after_takes full asks → cut ≡ cut_of intake.clusters asks →
      IsNext old cut intakes seats next asks
  next-round next cut next_is cut_is =
      let each : List ℕ = cut_of (length old) asks in
      let long : length each ≡ length old = length-cut (length old) asks in
      rw (cut_is, settled.clusters_are, intake_is, seat_is, next_is, full_is) (record {
        settled = record {
          clusters_are = settled.clusters_are ∙ sym long;
          quota_is = settled.quota_is;
          own = settled.own;
          whole = settled.whole;
          takes = settled.takes;
          row = rw row (length-added seat.submitted each (settled.row ∙ sym long) ∙ settled.row ∙ sym long);
          even = refl;
        };
        told = cut-is-told (length old) asks each (are-known (length old) asks are) refl;
        value = rw (row, sum-added seat.submitted each) refl;
      })
