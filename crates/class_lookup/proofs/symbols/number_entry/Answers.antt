use Rattle.std.proofs.Common.{◌≡◌, ◌∷◌, [], sym, ap, ◌∙◌, subst}
use Rattle.std.specs.Prelude.{unwrap_or}
use Rattle.std.specs.Result.{OnOk}
use Rattle.std.specs.List.{cons_option}
use Rattle.class_lookup.specs.Parts.{same_text}
use Rattle.class_lookup.specs.Lists.{with_items}
use Rattle.class_lookup.specs.Symbols.{pool_texts}
use Rattle.class_lookup.specs.Numbered.{number_in}
use Rattle.class_lookup.proofs.SymbolLemmas.{no_text}
use Rattle.class_lookup.proofs.symbols.number_entry.Goals as goal

pub returns-in-Utf8-clause-texts : goal.returns-in-Utf8-clause-texts
returns-in-Utf8-clause-texts c =
    subst (λ xs. OnOk c.insert.result (c.insert.new.self ≡ with_items same_text c.args.texts.now xs))
    (ap (λ u. u ∷ []) c.as_slice.ensures ∙ sym (ap (λ e. pool_texts (e ∷ [])) c.in-Utf8.is)) c.insert.ensures.texts

pub returns-in_default : goal.returns-in_default
returns-in_default c =
    let none = no_text c.args.entry.now c.in_default.not-Utf8 in
    record {
      texts = ap (λ o. with_items same_text c.args.texts.now (cons_option o [])) (sym none);
      number = ap (λ o. number_in c.args.texts.now (unwrap_or o [])) none ∙ c.requires;
    }
