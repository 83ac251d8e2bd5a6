-- The elements of runs, read off a MAP, are the pieces of these runs.
use Rattle.std.proofs.Common.{◌≡◌, ◌≢◌, ℕ, ◌+◌, ◌-◌, ne_eqb, List, [], ◌∷◌, ◌++◌, map, Option, Some, None, refl, sym, ap, ◌∙◌, arith}
use Rattle.std.specs.List.{AllByRecursion}
use Rattle.us_slots.specs.UsageCodes as codes
use Rattle.us_codec.specs.Elements.{MapElement, null_at}
use Rattle.us_flows.specs.declared.channels.Channel.{Channel}
use Rattle.us_holes.specs.Boards.{Owner}
use Rattle.us_holes.specs.Runs.{Run, FollowOn}
use Rattle.us_channel.specs.Maps.{element_by, run_element}
use Rattle.us_lawful.specs.Regions.{element_regions}
use Rattle.us_lawful.specs.Laws.{element_region_for}

-- an element before another one, if it isn't a Null
one_piece : (e next : MapElement) (es : List MapElement) (len : ℕ) → e.iuc ≢ codes.null → e.offset + len ≡ next.offset →
    element_regions (e ∷ next ∷ es)
    ≡ record { start = e.offset; slots = len; sid = e.sid; iuc = e.iuc } ∷ element_regions (next ∷ es)
unfolding element_regions
one_piece e next es len other reaches =
    let slots : next.offset - e.offset ≡ len = omega (arith, reaches) in
    rw (ne_eqb e.iuc codes.null other, slots) refl

none_behind : (len : ℕ) (after : List MapElement) → element_regions (null_at len ∷ after) ≡ []
unfolding element_regions
none_behind len [] = refl
none_behind len (e ∷ after) = refl

-- an element stands where its run starts
element_start : (c : Channel) (run : Run) → (run_element c run).offset ≡ run.start
element_start c run = by run.owner
  where
    by : (owner : Option Owner) → (element_by c run.start run.len owner).offset ≡ run.start
    by None = refl
    by (Some owner) = refl

-- the element of a run before another one, which stands where the run ends
run_piece : (c : Channel) (run : Run) (next : MapElement) (es : List MapElement) →
    (run_element c run).iuc ≢ codes.null → run.start + run.len ≡ next.offset →
    element_regions (run_element c run ∷ next ∷ es) ≡ element_region_for c run ∷ element_regions (next ∷ es)
run_piece c run next es other reaches =
    one_piece (run_element c run) next es run.len other (rw (element_start c run) reaches)
    ∙ ap (λ start. record { start = start; slots = run.len; sid = (run_element c run).sid; iuc = (run_element c run).iuc }
    ∷ element_regions (next ∷ es)) (element_start c run)

pub element_regions_of_runs : (c : Channel) (from len : ℕ) (runs : List Run) (after : List MapElement) → FollowOn from len runs →
    AllByRecursion (λ run. (run_element c run).iuc ≢ codes.null) runs →
    element_regions (map (run_element c) runs ++ null_at len ∷ after) ≡ map (element_region_for c) runs
unfolding FollowOn
element_regions_of_runs c from len [] after follow others = none_behind len after
element_regions_of_runs c from len (run ∷ []) after follow others =
    rw (run_piece c run (null_at len) after others.0 follow.2, none_behind len after) refl
element_regions_of_runs c from len (run ∷ next ∷ runs) after follow others =
    let reaches : run.start + run.len ≡ (run_element c next).offset = sym follow.2.0 ∙ sym (element_start c next) in
    rw (
      run_piece c run (run_element c next) (map (run_element c) runs ++ null_at len ∷ after) others.0 reaches,
      element_regions_of_runs c (run.start + run.len) len (next ∷ runs) after follow.2 others.1,
    ) refl
