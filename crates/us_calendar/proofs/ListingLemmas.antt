-- Entries are listed one after another.
use Rattle.std.proofs.Common.{◌≡◌, ℕ, zero, suc, ◌+◌, ◌<◌, List, [], ◌∷◌, ◌++◌, length, drop, get_or, filter_map, Option, Some, None, add-one, drop-cons, append_assoc, ap, sym, ◌∙◌, subst, arith}
use Rattle.std.specs.List.{AllByRecursion, cons_option}
use Rattle.std.specs.Option.{option_to_list}
use Rattle.us_flows.specs.Tables.{FlowTable}
use Rattle.us_flows.specs.Clusters.{words_in}
use Rattle.us_calendar.specs.Entries.{Entry, WordedFlow, with_words}

pub listed_as : {X : Type 0} (P : X → Type 0) (xs : List X) (i : ℕ) (x d : X) → AllByRecursion P xs → i < length xs →
    x ≡ get_or xs i d → P x
listed_as P [] i x d all inside is = absurd (omega (arith, inside))
listed_as P (y ∷ xs) zero x d all inside is = subst P (sym is) all.0
listed_as P (y ∷ xs) (suc i) x d all inside is = listed_as P xs i x d all.1 (omega (arith, inside)) is

pub listed_at : {X : Type 0} (P : X → Type 0) (xs : List X) (i : ℕ) (x : X) → AllByRecursion P xs → i < length xs →
    x ≡ get_or xs i x → P x
listed_at P xs i x all inside is = listed_as P xs i x x all inside is

put : (es : List Entry) (o : Option Entry) (rest : List Entry) → (es ++ option_to_list o) ++ rest ≡ es ++ cons_option o rest
put es None rest = append_assoc es [] rest
put es (Some e) rest = append_assoc es (e ∷ []) rest

next_of : {X : Type 0} (xs : List X) (i : ℕ) (x d : X) → i < length xs → x ≡ get_or xs i d → drop i xs ≡ x ∷ drop (i + 1) xs
next_of xs i x d inside is =
    let next : drop i xs ≡ get_or xs i d ∷ drop (i + 1) xs = rw add-one (drop-cons xs i d inside) in
    next ∙ ap (λ y. y ∷ drop (i + 1) xs) (sym is)

pub station_step : {X : Type 0} (h : X → Option Entry) (xs : List X) (i : ℕ) (x d : X) (o : Option Entry)
    (es now all : List Entry) → i < length xs → x ≡ get_or xs i d → o ≡ h x → now ≡ es ++ option_to_list o →
    es ++ filter_map h (drop i xs) ≡ all → now ++ filter_map h (drop (i + 1) xs) ≡ all
station_step h xs i x d o es now all inside is made put_is so_far =
    let rest : List Entry = filter_map h (drop (i + 1) xs) in
    ap (λ ns. ns ++ rest) put_is ∙ put es o rest ∙ ap (λ m. es ++ cons_option m rest) made ∙
    ap (λ ys. es ++ filter_map h ys) (sym (next_of xs i x d inside is)) ∙ so_far

pub flow_step : (h : WordedFlow → Option Entry) (xs : List FlowTable) (i : ℕ) (x : FlowTable) (word count : ℕ)
    (o : Option Entry) (es now all : List Entry) → i < length xs → x ≡ get_or xs i x → count ≡ length (words_in x) →
    o ≡ h (record { word = word; flow = x }) → now ≡ es ++ option_to_list o →
    es ++ filter_map h (with_words word (drop i xs)) ≡ all →
    now ++ filter_map h (with_words (word + count) (drop (i + 1) xs)) ≡ all
flow_step h xs i x word count o es now all inside is many made put_is so_far =
    let rest : List Entry = filter_map h (with_words (word + length (words_in x)) (drop (i + 1) xs)) in
    ap (λ c. now ++ filter_map h (with_words (word + c) (drop (i + 1) xs))) many ∙
    ap (λ ns. ns ++ rest) put_is ∙ put es o rest ∙ ap (λ m. es ++ cons_option m rest) made ∙
    ap (λ ys. es ++ filter_map h (with_words word ys)) (sym (next_of xs i x x inside is)) ∙ so_far
