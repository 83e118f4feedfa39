use Rattle.std.proofs.Common.{◌≡◌, ℕ, List, [], Option, Some, sym, ap, ◌∙◌, arith}
use Rattle.std.specs.Option.{option_map, option_map_or}
use Rattle.bytecode_model.specs.Types.{Kind, same_kind}
use Rattle.bytecode_model.specs.Lists.{onto}
use Rattle.class_lookup.specs.Parts.{class_text}
use Rattle.program_tables.specs.Lists.{with_items}
use Rattle.program_tables.specs.Marks.{arrays_of_text}
use Rattle.program_tables.specs.Numbers.{reference_arrays, used_by}
use Rattle.program_tables.specs.Tables.{kinds_of, kind_seen}
use Rattle.program_tables.specs.Texts.{kind_of_text}
use Rattle.program_tables.proofs.TextLemmas.{text_there, symbol_within}
use Rattle.program_tables.proofs.mentions.add_class.Goals as goal

pub add_used-requires-clause-number : goal.add_used-requires-clause-number
add_used-requires-clause-number c =
    let within = symbol_within c.args.texts.now _ c.class_symbol-symbol.result (c.class_symbol-symbol.ensures c.args.class.now c.requires.class) in
    let long = c.requires.added.long in
    omega (arith, within, long)

pub returns-in_ok-add_used-clause-types : goal.returns-in_ok-add_used-clause-types
returns-in_ok-add_used-clause-types c =
    let cs = c.args.texts.now in
    let n = c.class_symbol-symbol.result in
    let text = class_text c.args.class.now.pool c.args.index in
    let s = c.class_symbol-symbol.ensures c.args.class.now c.requires.class in
    let kind : Some (kind_seen c.in-Some.kind) ≡ kind_of_text cs text = ap (option_map kind_seen) (sym c.in-Some.is) ∙ c.kind.ensures.kind text s in
    let items : arrays_of_text cs n ≡ reference_arrays (kind_seen c.in-Some.kind) =
    ap (λ (o : Option (List ℕ)). option_map_or reference_arrays (onto o (kind_of_text cs)) []) (text_there cs text n s) ∙ ap (λ (o : Option Kind). option_map_or reference_arrays o []) (sym kind) in
    (c.in_ok-add_used.ensures.put (arrays_of_text cs) c.requires.added.added items).0
    ∙ ap (λ (o : Option Kind). with_items same_kind (kinds_of c.args.arrays.now.types) (used_by c.args.op o)) kind

pub returns-in_ok-add_used-clause-added : goal.returns-in_ok-add_used-clause-added
returns-in_ok-add_used-clause-added c =
    let cs = c.args.texts.now in
    let n = c.class_symbol-symbol.result in
    let text = class_text c.args.class.now.pool c.args.index in
    let s = c.class_symbol-symbol.ensures c.args.class.now c.requires.class in
    let kind : Some (kind_seen c.in-Some.kind) ≡ kind_of_text cs text = ap (option_map kind_seen) (sym c.in-Some.is) ∙ c.kind.ensures.kind text s in
    let items : arrays_of_text cs n ≡ reference_arrays (kind_seen c.in-Some.kind) =
    ap (λ (o : Option (List ℕ)). option_map_or reference_arrays (onto o (kind_of_text cs)) []) (text_there cs text n s) ∙ ap (λ (o : Option Kind). option_map_or reference_arrays o []) (sym kind) in
    record {
      long = c.in_ok-add_used.ensures.long ∙ c.requires.added.long;
      added = (c.in_ok-add_used.ensures.put (arrays_of_text cs) c.requires.added.added items).1;
    }
