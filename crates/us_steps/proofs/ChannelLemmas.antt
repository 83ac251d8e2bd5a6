-- That channels may be opened and built in any order: wherever each stands, it is the round's.
use Rattle.std.proofs.Common.{◌≡◌, ℕ, zero, suc, true, false, ◌||◌, List, [], ◌∷◌, length, map, get_or, slice_set, Option, Some, None, refl, ap, ap₂, sym, subst, ◌∙◌, arith}
use Rattle.std.specs.Prelude.{slice_get, zip, option_map, option_and_then, ⊤}
use Rattle.us_requests.specs.declared.asks.Ask.{Ask}
use Rattle.us_flows.specs.declared.channels.Channel.{Channel}
use Rattle.us_calendar.specs.Calendars.{Calendar, heard_by}
use Rattle.us_channel.specs.Channels.{Built, fill}
use Rattle.us_round.specs.Rounds.{State, begun, builds_of}
use Rattle.us_round.proofs.FillLemmas.{calendars_long}
use Rattle.us_steps.specs.declared.steps.Step.{Step}
use Rattle.us_steps.specs.declared.steps.Step.TheVariants as step
use Rattle.us_steps.specs.Machines.{Stand, Home, Out, Done, Machine, opening_machine, with_row, without_word, with_channel, filled_by, placed, opened, built, is_built, any_open, after_step, are_set, is_done, run, builds_in}
use Rattle.us_steps.specs.Laws.{EachChannelIsFilled}
use Rattle.us_steps.proofs.TallyLemmas as step_of
use Rattle.us_steps.proofs.TallyLemmas.{neither}
use Rattle.us_steps.proofs.StepLemmas.{found-true, last-three}

-- where a channel of a state may stand, once this is cut
abbrev Stands : State → List ℕ → Channel × Calendar → Stand → Type 0
Stands s cut pair (Home c calendar) = (c ≡ pair.0) × (calendar ≡ pair.1)
Stands s cut pair (Out now) = now ≡ filled_by s cut pair.0 pair.1
Stands s cut pair (Done b) = b ≡ placed (begun s cut) (filled_by s cut pair.0 pair.1)

abbrev pub AllStand : State → List ℕ → List (Channel × Calendar) → List Stand → Type 0
AllStand s cut [] [] = ⊤
AllStand s cut [] (channel ∷ channels) = ⊥
AllStand s cut (pair ∷ pairs) [] = ⊥
AllStand s cut (pair ∷ pairs) (channel ∷ channels) = Stands s cut pair channel × AllStand s cut pairs channels

homes-stand : (s : State) (cut : List ℕ) (pairs : List (Channel × Calendar)) →
    AllStand s cut pairs (map (λ pair. Home pair.0 pair.1) pairs)
homes-stand s cut [] = tt
homes-stand s cut (pair ∷ pairs) = ((refl, refl), homes-stand s cut pairs)

-- where none is open, nothing says which cut it is
none-open : (s : State) (cut other : List ℕ) (pairs : List (Channel × Calendar)) (channels : List Stand) →
    any_open channels ≡ false → AllStand s cut pairs channels → AllStand s other pairs channels
none-open s cut other [] [] none all = tt
none-open s cut other [] (channel ∷ channels) none all = all
none-open s cut other (pair ∷ pairs) [] none all = all
none-open s cut other (pair ∷ pairs) (Home c calendar ∷ channels) none all =
    (all.0, none-open s cut other pairs channels none all.1)
none-open s cut other (pair ∷ pairs) (Out now ∷ channels) none all = absurd (cc none)
none-open s cut other (pair ∷ pairs) (Done b ∷ channels) none all = absurd (cc none)

stand-set : (s : State) (cut : List ℕ) (pairs : List (Channel × Calendar)) (channels : List Stand) (n : ℕ)
    (was now : Stand) → slice_get channels n ≡ Some was →
    ((pair : Channel × Calendar) → Stands s cut pair was → Stands s cut pair now) → AllStand s cut pairs channels →
    AllStand s cut pairs (slice_set channels n now)
stand-set s cut [] [] n was now is goes all = tt
stand-set s cut [] (channel ∷ channels) n was now is goes all = absurd all
stand-set s cut (pair ∷ pairs) [] n was now is goes all = absurd all
stand-set s cut (pair ∷ pairs) (channel ∷ channels) zero was now is goes all =
    let same : channel ≡ was = cc in
    (goes pair (subst (λ c. Stands s cut pair c) same all.0), all.1)
stand-set s cut (pair ∷ pairs) (channel ∷ channels) (suc n) was now is goes all =
    (all.0, stand-set s cut pairs channels n was now is goes all.1)

-- the channels of a state, each with its calendar
abbrev channels_of : State → List (Channel × Calendar)
channels_of s = zip s.tables.channels s.calendars

-- The channels of a machine are those of the round that its cut has so far.
abbrev pub AreChannels : State → Machine → Type 0
AreChannels s m = AllStand s m.cut (channels_of s) m.channels

channels-after : (s : State) (rows : List Ask) (m after : Machine) (next : Step) → AreChannels s m →
    after_step s rows m next ≡ Some after → AreChannels s after
unfolding after_step
channels-after s rows m after (step.Add row by) all to =
    let at = step_of.placed (get_or m.added row true) (with_row rows m row by) after to in
    subst (λ n. AreChannels s n) at.1 all
channels-after s rows m after (step.Take word by) all to =
    let at = step_of.placed (any_open m.channels || get_or m.taken word true) (without_word m word by) after to in
    let none = (neither (any_open m.channels) (get_or m.taken word true) at.0).0 in
    subst (λ n. AreChannels s n) at.1
    (none-open s m.cut (without_word m word by).cut (channels_of s) m.channels none all)
channels-after s rows m after (step.Open channel) all to = by (slice_get m.channels channel) refl to
  where
    by : (found : Option Stand) → slice_get m.channels channel ≡ found →
        option_map (with_channel m channel) (option_and_then (opened s m.cut) found) ≡ Some after → AreChannels s after
    by None is to = absurd (cc to)
    by (Some (Home c calendar)) is to =
        let out : Stand = Out (filled_by s m.cut c calendar) in
        let same : with_channel m channel out ≡ after = cc in
        subst (λ n. AreChannels s n) same
        (stand-set s m.cut (channels_of s) m.channels channel (Home c calendar) out is
        (λ pair at. ap₂ (λ c calendar. filled_by s m.cut c calendar) at.0 at.1) all)
    by (Some (Out f)) is to = absurd (cc to)
    by (Some (Done b)) is to = absurd (cc to)
channels-after s rows m after (step.Built channel) all to = by (slice_get m.channels channel) refl to
  where
    by : (found : Option Stand) → slice_get m.channels channel ≡ found →
        option_map (with_channel m channel) (option_and_then (built (begun s m.cut)) found) ≡ Some after →
        AreChannels s after
    by None is to = absurd (cc to)
    by (Some (Home c calendar)) is to = absurd (cc to)
    by (Some (Out f)) is to =
        let done : Stand = Done (placed (begun s m.cut) f) in
        let same : with_channel m channel done ≡ after = cc in
        subst (λ n. AreChannels s n) same
        (stand-set s m.cut (channels_of s) m.channels channel (Out f) done is
        (λ pair at. ap (λ f. placed (begun s m.cut) f) at) all)
    by (Some (Done b)) is to = absurd (cc to)

-- what stands after all steps
pub run-channels : (s : State) (rows : List Ask) (m end : Machine) (steps : List Step) → AreChannels s m →
    run s rows m steps ≡ Some end → AreChannels s end × (are_set (map is_built end.channels) ≡ true)
unfolding run
run-channels s rows m end [] all to =
    let is = found-true (is_done m) m end to in
    subst (λ e. AreChannels s e × (are_set (map is_built e.channels) ≡ true)) is.1
    (all, last-three (are_set m.added) (are_set m.taken) (are_set (map is_built m.channels)) is.0)
run-channels s rows m end (next ∷ steps) all to =
    by (after_step s rows m next) refl (λ after. run-channels s rows after end steps)
  where
    by : (found : Option Machine) → after_step s rows m next ≡ found →
        ((after : Machine) → AreChannels s after → run s rows after steps ≡ Some end →
        AreChannels s end × (are_set (map is_built end.channels) ≡ true)) →
        AreChannels s end × (are_set (map is_built end.channels) ≡ true)
    by None none rest = absurd (cc (ap (λ o. option_and_then (λ n. run s rows n steps) o) (sym none) ∙ to))
    by (Some after) made rest =
        rest after (channels-after s rows m after next all made)
        (ap (λ o. option_and_then (λ n. run s rows n steps) o) (sym made) ∙ to)

-- where all are done, each is what the round's plan makes of it
all-done : (s : State) (cut : List ℕ) (pairs : List (Channel × Calendar)) (channels : List Stand) →
    are_set (map is_built channels) ≡ true → AllStand s cut pairs channels →
    channels ≡ map (λ b. Done b) (map (λ pair. placed (begun s cut) (filled_by s cut pair.0 pair.1)) pairs)
all-done s cut [] [] done all = refl
all-done s cut [] (channel ∷ channels) done all = absurd all
all-done s cut (pair ∷ pairs) [] done all = absurd all
all-done s cut (pair ∷ pairs) (Home c calendar ∷ channels) done all = absurd (cc done)
all-done s cut (pair ∷ pairs) (Out now ∷ channels) done all = absurd (cc done)
all-done s cut (pair ∷ pairs) (Done b ∷ channels) done all =
    ap (λ b. Done b ∷ channels) all.0
    ∙ ap (λ cs. Done (placed (begun s cut) (filled_by s cut pair.0 pair.1)) ∷ cs) (all-done s cut pairs channels done all.1)

-- From the opening.

-- the channels of a round that has begun are those whose calendars have heard its cut
fills-begun : (s : State) (cut : List ℕ) (cs : List Channel) (calendars : List Calendar) →
    map (λ pair. placed (begun s cut) (filled_by s cut pair.0 pair.1)) (zip cs calendars)
    ≡ map (placed (begun s cut)) (map (λ pair. fill s.tables s.round pair.0 pair.1) (zip cs (map (heard_by cut) calendars)))
fills-begun s cut [] calendars = refl
fills-begun s cut (c ∷ cs) [] = refl
fills-begun s cut (c ∷ cs) (calendar ∷ calendars) =
    ap (λ more. placed (begun s cut) (filled_by s cut c calendar) ∷ more) (fills-begun s cut cs calendars)

pub builds-of : (s : State) (cut : List ℕ) →
    map (λ pair. placed (begun s cut) (filled_by s cut pair.0 pair.1)) (channels_of s) ≡ builds_of (begun s cut)
unfolding builds_of
builds-of s cut = fills-begun s cut s.tables.channels s.calendars

pub end-channels : (s : State) (rows : List Ask) (words : List ℕ) (end : Machine) (steps : List Step) →
    run s rows (opening_machine s words (length rows)) steps ≡ Some end →
    end.channels ≡ map (λ b. Done b) (builds_of (begun s end.cut))
end-channels s rows words end steps to =
    let m : Machine = opening_machine s words (length rows) in
    let is = run-channels s rows m end steps (homes-stand s m.cut (channels_of s)) to in
    all-done s end.cut (channels_of s) end.channels is.1 is.0
    ∙ ap (λ bs. map (λ b. Done b) bs) (builds-of s end.cut)

-- the channels that are done, where all are
pub builds-in : (bs : List Built) → builds_in (map (λ b. Done b) bs) ≡ bs
builds-in [] = refl
builds-in (b ∷ bs) = ap (λ more. b ∷ more) (builds-in bs)

-- as many channels are filled as have a calendar
pub each-long : {X Y Z : Type 0} (f : X × Y → Z) (xs : List X) (ys : List Y) → length ys ≡ length xs →
    length (map f (zip xs ys)) ≡ length xs
each-long f [] [] same = refl
each-long f [] (y ∷ ys) same = absurd (omega (arith, same))
each-long f (x ∷ xs) [] same = absurd (omega (arith, same))
each-long f (x ∷ xs) (y ∷ ys) same = ap (λ n. suc n) (each-long f xs ys (omega (arith, same)))

pub each_channel_is_filled : EachChannelIsFilled
each_channel_is_filled s is =
    each-long (λ pair. fill s.tables s.round pair.0 pair.1) s.tables.channels s.calendars
    (calendars_long s.tables s.round s.calendars (record { paces = is.paces; rounds = is.rounds }))
