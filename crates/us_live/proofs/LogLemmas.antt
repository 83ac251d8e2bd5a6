-- What a log has of each cluster, and what seats took of it.
use Rattle.std.proofs.Common.{◌≡◌, ℕ, ◌+◌, ◌⊎◌, ◌||◌, Bool, true, false, List, [], ◌∷◌, ◌++◌, slice_index, refl, ap, sym, subst, inl, inr, ◌∙◌, arith}
use Rattle.std.proofs.lemmas.List.Sums.{sum_by-append}
use Rattle.us_intake.specs.Seats.{Intake, Seat, first_seat, joined_seat}
use Rattle.us_intake.proofs.TallyLemmas.{index-added, index-empty}
use Rattle.us_live.specs.Lives.{Live, logged, with_entry, Feeds, IsCut}
use Rattle.us_live.specs.Laws.{CutByRounds, opened, submitted, split, joined, joined_to, made, not_made, LogBalances, SeatsFeed}

pub logged-more : (log : List (List ℕ)) (cut : List ℕ) (cluster : ℕ) →
    logged (log ++ cut ∷ []) cluster ≡ logged log cluster + slice_index cut cluster
logged-more log cut cluster = omega (arith, sum_by-append (λ entry. slice_index entry cluster) log (cut ∷ []))

-- what a seat took, once it cut
taken-more : (seat after : Seat) (cut : List ℕ) → IsCut seat after cut → (cluster : ℕ) →
    slice_index after.taken cluster ≡ slice_index seat.taken cluster + slice_index cut cluster
taken-more seat after cut is cluster =
    ap (λ (s : Seat). slice_index s.taken cluster) is.grown ∙ index-added seat.taken cut cluster

-- Fit to be cut by.

-- after a round that was made,
pub feeds-made : (live after : Live) (intake : Intake) (seat next : Seat) (cut : List ℕ) → Feeds live intake seat →
    IsCut seat next cut → after ≡ with_entry live cut → Feeds after intake next
feeds-made live after intake seat next cut feeds is logs = record {
  clusters = feeds.clusters ∙ sym (ap (λ (l : Live). l.clusters) logs);
  own = ap (λ (s : Seat). s.intake) is.grown ∙ feeds.own;
  takes = ap (λ (s : Seat). s.takes) is.grown ∙ feeds.takes;
  took = λ cluster. omega (
    arith,
    ap (λ (l : Live). logged l.log cluster) logs,
    logged-more live.log cut cluster,
    taken-more seat next cut is cluster,
    feeds.took cluster,
  );
}

-- and after one that wasn't,
feeds-cut : (live after : Live) (intake : Intake) (seat next : Seat) (cut : List ℕ) → Feeds live intake seat →
    IsCut seat next cut → after.clusters ≡ live.clusters → after.log ≡ live.log → Feeds after intake next
feeds-cut live after intake seat next cut feeds is clusters log = record {
  clusters = feeds.clusters ∙ sym clusters;
  own = ap (λ (s : Seat). s.intake) is.grown ∙ feeds.own;
  takes = ap (λ (s : Seat). s.takes) is.grown ∙ feeds.takes;
  took = λ cluster. omega (
    arith,
    ap (λ (l : List (List ℕ)). logged l cluster) log,
    taken-more seat next cut is cluster,
    feeds.took cluster,
  );
}

feeds-same : (live after : Live) (intake : Intake) (seat next : Seat) → Feeds live intake seat → next ≡ seat →
    after.clusters ≡ live.clusters → after.log ≡ live.log → Feeds after intake next
feeds-same live after intake seat next feeds same clusters log = record {
  clusters = feeds.clusters ∙ sym clusters;
  own = ap (λ (s : Seat). s.intake) same ∙ feeds.own;
  takes = ap (λ (s : Seat). s.takes) same ∙ feeds.takes;
  took = λ cluster. omega (
    arith,
    ap (λ (l : List (List ℕ)). logged l cluster) log,
    ap (λ (s : Seat). slice_index s.taken cluster) same,
    feeds.took cluster,
  );
}

pub feeds-left : (live after : Live) (intake : Intake) (seat next : Seat) → Feeds live intake seat →
    (next ≡ seat) ⊎ ((cut : List ℕ) × IsCut seat next cut) → after.clusters ≡ live.clusters → after.log ≡ live.log →
    Feeds after intake next
feeds-left live after intake seat next feeds (inl same) clusters log =
    feeds-same live after intake seat next feeds same clusters log
feeds-left live after intake seat next feeds (inr is) clusters log =
    feeds-cut live after intake seat next is.0 feeds is.1 clusters log

-- and at first
pub feeds-first : (live : Live) (intake : Intake) (seat : Seat) → live.log ≡ [] → intake.clusters ≡ live.clusters →
    seat ≡ first_seat intake → Feeds live intake seat
feeds-first live intake seat none clusters first = record {
  clusters = clusters;
  own = ap (λ (s : Seat). s.intake) first;
  takes = ap (λ (s : Seat). s.takes) first;
  took = λ cluster. omega (arith, ap (λ (log : List (List ℕ)). logged log cluster) none);
}

or-true : (b : Bool) → b || true ≡ true
or-true true = refl
or-true false = refl

pub seats-feed : SeatsFeed
seats-feed = record {
  submitting = λ live intake seat cluster bytes feeds. record {
    clusters = feeds.clusters;
    own = feeds.own;
    takes = feeds.takes;
    took = feeds.took;
  };
  splitting = λ live intake seat quota feeds. record {
    clusters = feeds.clusters;
    own = feeds.own;
    takes = feeds.takes;
    took = feeds.took;
  };
  joining = λ live intake seat other feeds own. (
    record {
      clusters = feeds.clusters;
      own = feeds.own;
      takes = ap (λ b. b || other.takes) feeds.takes;
      took = λ cluster. omega (arith, feeds.took cluster, index-added seat.taken other.taken cluster);
    },
    record {
      clusters = feeds.clusters;
      own = own;
      takes = ap (λ b. other.takes || b) feeds.takes ∙ or-true other.takes;
      took = λ cluster. omega (arith, feeds.took cluster, index-added other.taken seat.taken cluster);
    },
  );
}

pub feeds-joined : (live : Live) (intake : Intake) (seat other both : Seat) → Feeds live intake seat →
    other.intake ≡ intake → both ≡ joined_seat seat other → Feeds live intake both
feeds-joined live intake seat other both feeds own same =
    subst (λ (s : Seat). Feeds live intake s) (sym same) (seats-feed.joining live intake seat other feeds own).0

-- The account of the log.

took-log : {intake : Intake} {live : Live} {seat : Seat} → CutByRounds intake live seat → (cluster : ℕ) →
    slice_index seat.taken cluster ≡ logged live.log cluster
took-log {intake} (opened t rounds) cluster = index-empty intake.clusters cluster
took-log (submitted live seat at bytes so_far) cluster = took-log so_far cluster
took-log (split live seat quota so_far) cluster = took-log so_far cluster
took-log (joined live seat other so_far known idle) cluster =
    omega (arith, took-log so_far cluster, index-added seat.taken other.taken cluster, known.idle idle cluster)
took-log (joined_to live seat other so_far known idle) cluster =
    omega (arith, took-log so_far cluster, index-added other.taken seat.taken cluster, known.idle idle cluster)
took-log (made live after seat next cut out so_far is) cluster =
    omega (
      arith,
      took-log so_far cluster,
      taken-more seat next cut is.cut_is cluster,
      logged-more live.log cut cluster,
      ap (λ (l : Live). logged l.log cluster) is.logs,
    )
took-log (not_made live after seat next so_far log same) cluster =
    ap (λ (s : Seat). slice_index s.taken cluster) same ∙ took-log so_far cluster
    ∙ sym (ap (λ (l : List (List ℕ)). logged l cluster) log)

pub log-balances : LogBalances
log-balances = record {
  took = λ intake live seat rounds. took-log rounds;
  closed = λ intake live seat left rounds balanced cluster. omega (
    arith,
    took-log rounds cluster,
    ap (λ tally. slice_index tally cluster) balanced,
    index-added seat.taken left cluster,
  );
}
