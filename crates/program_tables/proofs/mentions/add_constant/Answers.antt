use Rattle.std.proofs.Common.{◌≡◌, ℕ, List, [], ◌∷◌, Option, Some, slice_get, sym, ap, ◌∙◌, arith}
use Rattle.std.specs.Option.{option_copied, option_map_or}
use Rattle.class_pool.specs.declared.class.ClassFile.{ClassFile}
use Rattle.class_pool.specs.declared.entry.Entry.{Entry}
use Rattle.class_pool.specs.declared.entry.Entry.TheVariants as entries
use Rattle.class_pool.specs.Grammar.{entry_at, text_at}
use Rattle.class_lookup.specs.Parts.{same_text}
use Rattle.lists.proofs.Lemmas.{some_same}
use Rattle.program_tables.specs.Lists.{with_item, with_items}
use Rattle.program_tables.specs.Marks.{text_of}
use Rattle.program_tables.specs.Numbers.{string_in}
use Rattle.class_lookup.specs.Symbols.{texts, symbol}
use Rattle.program_tables.proofs.TextLemmas.{text_there, symbol_within}
use Rattle.program_tables.proofs.mentions.add_constant.Goals as goal

pub text-requires : goal.text-requires
text-requires c = symbol_within c.args.classes.now _ c.symbol-symbol.result (c.symbol-symbol.ensures c.args.class.now c.requires.class)

pub add_literal-requires : goal.add_literal-requires
add_literal-requires c =
    let within = symbol_within c.args.classes.now _ c.symbol-symbol.result (c.symbol-symbol.ensures c.args.class.now c.requires.class) in
    let long = c.requires.added.long in
    omega (arith, within, long)

-- the text of the symbol is the entry's
same_unit : (cs : List ClassFile) (text units : List ℕ) (n : ℕ) → symbol cs text ≡ Some n → slice_get (texts cs) n ≡ Some units → units ≡ text
same_unit cs text units n s e = some_same units text (sym e ∙ text_there cs text n s)

pub returns-in_ok-add_literal-in-Some-Text-clause-strings : goal.returns-in_ok-add_literal-in-Some-Text-clause-strings
returns-in_ok-add_literal-in-Some-Text-clause-strings c =
    let cs = c.args.classes.now in
    let pool = c.args.class.now.pool in
    let n = c.symbol-symbol.result in
    let old = c.args.literals.now.strings in
    let text = text_at pool c.in-Some-Text.units in
    let same = same_unit cs text c.text.result.now n (c.symbol-symbol.ensures c.args.class.now c.requires.class) c.text.ensures.text in
    let items : text_of cs n ≡ c.text.result.now ∷ [] = ap (λ (o : Option (List ℕ)). option_map_or (λ t. t ∷ []) o []) c.text.ensures.text in
    let entry : Some (entries.Text c.in-Some-Text.units) ≡ entry_at pool c.args.index = ap Some (sym c.in-Some-Text.field-0-is) ∙ (ap option_copied (sym c.in-Some-Text.is) ∙ c.entry_at.ensures) in
    (c.in_ok-add_literal-in-Some-Text.ensures.put (text_of cs) c.requires.added.added items).0
    ∙ (ap (λ (t : List ℕ). with_item same_text old t) same ∙ ap (λ (o : Option Entry). with_items same_text old (string_in pool o)) entry)

pub returns-in_ok-add_literal-in-Some-Text-clause-added : goal.returns-in_ok-add_literal-in-Some-Text-clause-added
returns-in_ok-add_literal-in-Some-Text-clause-added c =
    let cs = c.args.classes.now in
    let n = c.symbol-symbol.result in
    let items : text_of cs n ≡ c.text.result.now ∷ [] = ap (λ (o : Option (List ℕ)). option_map_or (λ t. t ∷ []) o []) c.text.ensures.text in
    record {
      long = c.in_ok-add_literal-in-Some-Text.ensures.long ∙ c.requires.added.long;
      added = (c.in_ok-add_literal-in-Some-Text.ensures.put (text_of cs) c.requires.added.added items).1;
    }
