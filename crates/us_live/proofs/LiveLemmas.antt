-- How a Live is kept, from its opening through its rounds.
use Rattle.std.proofs.Common.{◌≡◌, ℕ, ◌+◌, ◌*◌, ◌<◌, ◌≤◌, List, [], ◌∷◌, ◌++◌, length, map, slice_index, Option, Some, true, ap, subst, sym, ◌∙◌, arith, length-append}
use Rattle.std.specs.Prelude.{IfSome, IsSomeAnd}
use Rattle.us_flows.specs.Tables.{Tables, max_run_ticks, rounds_fit}
use Rattle.us_flows.specs.Clusters.{words_of}
use Rattle.us_intake.specs.Seats.{Seat}
use Rattle.us_round.specs.Rounds.{State, opening, final, round_of}
use Rattle.us_output.specs.Outputs.{RoundOut, out_of}
use Rattle.us_live.specs.Lives.{Live, logged, rounds_of, with_entry, IsCut, IsNext}
use Rattle.us_live.specs.Insides.{live_at, IsRunning, IsInside, IsMade}
use Rattle.us_live.proofs.ScheduleLemmas.{after, final-more, outstanding-logged, round-logged, rounds-more, time-next}

-- Opening.

pub inside-opening : {A : Type 0} (entry : A → List ℕ) (clusters rounds : ℕ) (entries : List A) (t : Tables)
    (state : State) → entries ≡ [] → state ≡ opening t → clusters ≡ length (words_of t) →
    rounds_fit t rounds ≡ true → IsInside clusters rounds (map entry entries) (Some state)
unfolding final
inside-opening entry clusters rounds entries t state none first same fits =
    let tables : state.tables ≡ t = ap (λ s. s.tables) first in
    record {
      few = omega (arith, ap (λ xs. length (map entry xs)) none);
      running = record {
        fits = ap (λ t. rounds_fit t rounds) tables ∙ fits;
        clusters_are = same ∙ ap (λ t. length (words_of t)) (sym tables);
        state_is = first ∙ ap opening (sym tables) ∙ ap (λ xs. final (opening state.tables) (map entry xs)) (sym none);
      };
    }

-- What a round asks for.

-- of a state that was taken out of where it was kept
pub running : (clusters rounds : ℕ) (log : List (List ℕ)) (kept taken : Option State) (state : State) →
    IfSome kept (IsRunning clusters rounds log) → taken ≡ kept → taken ≡ Some state → IsRunning clusters rounds log state
running clusters rounds log kept taken state is same some =
    subst (λ s. IfSome s (IsRunning clusters rounds log)) (sym same ∙ some) is

pub running-took : (clusters rounds : ℕ) (log : List (List ℕ)) (state : State) (taken : List ℕ) →
    IsRunning clusters rounds log state → ((cluster : ℕ) → logged log cluster ≤ slice_index taken cluster) →
    (cluster : ℕ) → slice_index state.outstanding cluster ≤ slice_index taken cluster
running-took clusters rounds log state taken is took cluster =
    omega (arith, outstanding-logged state.tables log state is.state_is cluster, took cluster)

pub running-time : (clusters rounds : ℕ) (log : List (List ℕ)) (state : State) → IsRunning clusters rounds log state →
    length log < rounds → (state.round + 1) * state.tables.round_ticks ≤ max_run_ticks
running-time clusters rounds log state is more =
    subst (λ n. (n + 1) * state.tables.round_ticks ≤ max_run_ticks)
    (sym (round-logged state.tables log state is.state_is)) (time-next state.tables rounds (length log) is.fits more)

-- What it leaves.

made-tables : (state made : State) (log more : List (List ℕ)) (cut : List ℕ) (out : RoundOut) →
    IsMade state made log more cut out → made.tables ≡ state.tables
made-tables state made log more cut out is = ap (λ s. s.tables) is.state_is ∙ (after state cut).tables_are

pub inside-made : (clusters rounds : ℕ) (log more : List (List ℕ)) (state made : State) (cut : List ℕ) (out : RoundOut) →
    IsRunning clusters rounds log state → length log < rounds → IsMade state made log more cut out →
    IsInside clusters rounds more (Some made)
inside-made clusters rounds log more state made cut out is below now =
    let same : made.tables ≡ state.tables = made-tables state made log more cut out now in
    record {
      few = omega (arith, ap length now.logs, length-append log (cut ∷ []), below);
      running = record {
        fits = ap (λ t. rounds_fit t rounds) same ∙ is.fits;
        clusters_are = is.clusters_are ∙ ap (λ t. length (words_of t)) (sym same);
        state_is = now.state_is ∙ ap (λ s. (round_of s cut).state) is.state_is
            ∙ sym (final-more (opening state.tables) log cut) ∙ ap (final (opening state.tables)) (sym now.logs)
            ∙ ap (λ t. final (opening t) more) (sym same);
      };
    }

-- its answer is the next round of the schedule
pub next-made : (clusters rounds : ℕ) (log more : List (List ℕ)) (kept : Option State) (state made : State) (live : Live)
    (seat next : Seat) (cut : List ℕ) (out : RoundOut) → live_at clusters rounds log kept ≡ live → kept ≡ Some state →
    IsRunning clusters rounds log state → IsCut seat next cut → IsMade state made log more cut out →
    IsNext live (live_at clusters rounds more (Some made)) seat next cut out
next-made clusters rounds log more kept state made live seat next cut out view some is cuts now =
    let same : made.tables ≡ state.tables = made-tables state made log more cut out now in
    let was : live_at clusters rounds log (Some state) ≡ live =
    ap (λ s. live_at clusters rounds log s) (sym some) ∙ view in
    let last : out ≡ out_of state.tables (round_of (final (opening state.tables) log) cut).scheduled =
    now.out_is ∙ ap (λ s. out_of state.tables (round_of s cut).scheduled) is.state_is in
    let answer : rounds_of state.tables more ≡ rounds_of state.tables log ++ out ∷ [] =
    ap (rounds_of state.tables) now.logs ∙ rounds-more state.tables log cut
    ∙ ap (λ o. rounds_of state.tables log ++ o ∷ []) (sym last) in
    record {
      cut_is = cuts;
      logs = ap (λ l. live_at clusters rounds l (Some made)) now.logs
          ∙ ap (λ t. record { clusters = clusters; rounds = rounds; log = log ++ cut ∷ []; tables = Some t }) same
          ∙ ap (λ (l : Live). with_entry l cut) was;
      answer = subst (λ (l : Live). IsSomeAnd l.tables (λ t. rounds_of t more ≡ rounds_of t l.log ++ out ∷ [])) was answer;
    }
