use Rattle.std.proofs.Common.{◌∷◌, length, ap, ap₂, arith, sym, ◌∙◌, length-drop}
use Rattle.std.proofs.lemmas.List.{take_rest}
use Rattle.us_codec.specs.Elements.{element_of}
use Rattle.us_codec.specs.Faults.{elements_at}
use Rattle.us_map_rules.proofs.ElementLemmas.{none_at, one_at}
use Rattle.us_map_rules.proofs.elements.first_element.Goals as goal

pub returns-in_default-clause-none : goal.returns-in_default-clause-none
returns-in_default-clause-none c = none_at c.args.bytes.now c.in_default.len_below

pub returns-clause-some : goal.returns-clause-some
returns-clause-some c =
    let bytes = c.args.bytes.now in
    let element = c.of_word.ensures ∙ ap (λ word. element_of word) c.from_be_bytes-word.ensures in (
      one_at bytes c.in-len4-up.len_at_least
          ∙ ap₂ (λ e behind. e ∷ elements_at behind) (sym element) (sym (take_rest bytes 4)),
      omega (arith, c.in-len4-up.len_at_least, ap length (take_rest bytes 4), length-drop 4 bytes),
    )
