use Rattle.std.proofs.Common.{◌≡◌, ◌++◌, ℕ, List, Option, Some, sym, ap, ◌∙◌, arith}
use Rattle.std.specs.Prelude.{is_some, slice_get}
use Rattle.std.specs.List.{flat_map}
use Rattle.std.specs.Option.{option_to_list}
use Rattle.std.proofs.lemmas.Result.{IfOk-weaker, on_ok_weaker}
use Rattle.bytecode_model.specs.declared.Value.{Value}
use Rattle.class_pool.specs.declared.class.ClassFile.{ClassFile}
use Rattle.class_pool.specs.declared.class.Member.{Member}
use Rattle.class_pool.specs.Found.{constant_value_of}
use Rattle.class_pool.specs.Grammar.{entry_at}
use Rattle.class_lookup.specs.Lookup.{Place, field_at}
use Rattle.image_facts.specs.Words.{words_of}
use Rattle.lists.specs.Lists.{onto}
use Rattle.program_tables.specs.Numbers.{constant_entry}
use Rattle.program_tables.specs.Resolved.{constant_at, constant_of}
use Rattle.image_words.specs.Layout.{outline_of}
use Rattle.image_words.specs.Regions.{first_place}
use Rattle.image_builder.proofs.ListLemmas.{get_below}
use Rattle.image_layout.proofs.statics.add_constant_of.Goals as goal

constant_there : (cs : List ClassFile) (f : Place) (k : ClassFile) (m : Member) (index : ℕ) → slice_get cs f.0 ≡ Some k → field_at cs f ≡ Some m → constant_value_of m ≡ Some index
    → onto (entry_at k.pool index) (constant_of cs k.pool) ≡ constant_at cs f
constant_there cs f k m index class field value =
    sym (ap (λ o. onto o (λ c. onto (field_at cs f) (λ m. onto (constant_entry c m) (constant_of cs c.pool)))) class
    ∙ ap (λ o. onto o (λ m. onto (constant_entry k m) (constant_of cs k.pool))) field
    ∙ ap (λ o. onto (onto o (entry_at k.pool)) (constant_of cs k.pool)) value)

class_there : (c : goal.After-add_constant) → (k : ClassFile) × (slice_get c.args.program.now c.place.inside.class ≡ Some k)
class_there c =
    let cs = c.args.program.now in
    let below = c.if-place-class_count.false in
    let count = c.class_count.ensures in
    get_below cs c.place.inside.class (omega (arith, below, count))

known : (c : goal.After-add_constant) → onto (entry_at (class_there c).0.pool c.in-Some-constant_value.index) (constant_of c.args.program.now (class_there c).0.pool) ≡ constant_at c.args.program.now c.args.place
known c =
    let cs = c.args.program.now in
    let same = ap (λ (q : ℕ × ℕ). q.0) c.place.view_is in
    let field = c.in-Some.ensures ∙ ap (λ (ks : List ClassFile). field_at ks c.args.place) (c.classes.ensures ∙ c.hierarchy.ensures) in
    constant_there cs c.args.place (class_there c).0 c.in-Some.field.now c.in-Some-constant_value.index (ap (slice_get cs) (sym same) ∙ (class_there c).1) (sym field) (sym c.in-Some-constant_value.ensures)

pub returns-clause-words : goal.returns-clause-words
returns-clause-words c =
    let cs = c.args.program.now in
    let k = class_there c in
    on_ok_weaker c.add_constant.result
    (λ made. made k.0 k.1 ∙ ap (λ (o : Option Value). c.args.words.now.items ++ flat_map (words_of (first_place cs (outline_of cs))) (option_to_list o)) (known c))
    c.add_constant.ensures.words

pub returns-clause-is : goal.returns-clause-is
returns-clause-is c =
    let k = class_there c in
    IfOk-weaker c.add_constant.result _ _ (λ is made. made k.0 k.1 ∙ ap (λ (o : Option Value). is_some o) (known c)) c.add_constant.ensures.is
