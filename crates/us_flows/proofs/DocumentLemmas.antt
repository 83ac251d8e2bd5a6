-- Lists of values, and what their items are in the words of a document.
use Rattle.std.proofs.Common.{◌≡◌, ℕ, ◌<◌, ◌≤◌, List, [], ◌∷◌, length, get_or, refl, ap, sym, arith}
use Rattle.toml.specs.declared.value.Value.{Value}
use Rattle.toml.specs.View.{view, items_view}
use Rattle.toml.proofs.Views.{get_item_within, get_item_past}
use Rattle.us_flows.specs.Documents.{number_of, number_in, read_or}
use Rattle.us_flows.specs.Shapes.{count}

pub count_view : (values : List Value) → count (items_view values) ≡ length values
count_view [] = refl
count_view (value ∷ values) = omega (arith, count_view values)

pub number_within : (values : List Value) (i : ℕ) (d : Value) → i < length values →
    number_in i (items_view values) ≡ number_of (view (get_or values i d))
number_within values i d within = ap (read_or 0 number_of) (sym (get_item_within values i d within))

pub number_past : (values : List Value) (i : ℕ) → length values ≤ i → number_in i (items_view values) ≡ 0
number_past values i past = ap (read_or 0 number_of) (sym (get_item_past values i past))
