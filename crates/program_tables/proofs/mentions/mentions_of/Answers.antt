use Rattle.std.proofs.Common.{[], ◌<◌, ◌≤◌, List, length, slice_get, take_all, sym, ap, ◌∙◌, arith}
use Rattle.std.specs.List.{flat_map}
use Rattle.class_pool.specs.declared.class.ClassFile.{ClassFile}
use Rattle.bytecode_model.specs.Types.{same_kind}
use Rattle.class_lookup.specs.Parts.{same_text}
use Rattle.program_tables.specs.Lists.{with_items}
use Rattle.program_tables.specs.Numbers.{arrays_mentioned_in, first_types, strings_in}
use Rattle.program_tables.specs.Tables.{kinds_of, HasFileLimits}
use Rattle.program_tables.proofs.ListLemmas.{got_index}
use Rattle.program_tables.proofs.MentionLemmas.{next_part, types_are, strings_are}
use Rattle.program_tables.proofs.TableLemmas.{all_at}
use Rattle.program_tables.proofs.mentions.mentions_of.Goals as goal

pub loop-number-preserved : goal.loop-number-preserved
loop-number-preserved c =
    let cs = c.args.texts.now in
    let i = c.loop-number.number in
    let k = c.class.result.now in
    let m = c.loop-number.mentions in
    let lt : i < length cs = omega (arith, c.class_count-number-end.ensures, ap length c.classes-classes.ensures, c.loop-number-test.true) in
    let is = got_index cs i k (ap (λ (xs : List ClassFile). slice_get xs i) (sym c.classes-classes.ensures) ∙ c.class.ensures) in
    record {
      types = next_part same_kind (arrays_mentioned_in cs) cs i k (first_types (length cs)) (kinds_of m.arrays.types) (kinds_of c.add_class_file.new.self.arrays.types) lt is c.loop-number.invariant.types c.in_ok-add_class_file.ensures.types;
      strings = next_part same_text strings_in cs i k [] m.literals.strings c.add_class_file.new.self.literals.strings lt is c.loop-number.invariant.strings c.in_ok-add_class_file.ensures.strings;
      added = c.in_ok-add_class_file.ensures.added;
    }

pub returns-clause-types : goal.returns-clause-types
returns-clause-types c =
    let cs = c.args.texts.now in
    let past : length cs ≤ c.loop-number.number = omega (arith, c.class_count-number-end.ensures, ap length c.classes-classes.ensures, c.loop-number-test.false) in
    c.loop-number.invariant.types
    ∙ (ap (λ (xs : List ClassFile). with_items same_kind (first_types (length cs)) (flat_map (arrays_mentioned_in cs) xs)) (take_all c.loop-number.number cs past) ∙ types_are cs)

pub returns-clause-strings : goal.returns-clause-strings
returns-clause-strings c =
    let cs = c.args.texts.now in
    let past : length cs ≤ c.loop-number.number = omega (arith, c.class_count-number-end.ensures, ap length c.classes-classes.ensures, c.loop-number-test.false) in
    c.loop-number.invariant.strings
    ∙ (ap (λ (xs : List ClassFile). with_items same_text [] (flat_map strings_in xs)) (take_all c.loop-number.number cs past) ∙ strings_are cs)

pub add_class_file-requires-clause-bounds : goal.add_class_file-requires-clause-bounds
add_class_file-requires-clause-bounds c =
    let cs = c.args.texts.now in
    let i = c.loop-number.number in
    all_at HasFileLimits cs i c.class.result.now c.requires (ap (λ (xs : List ClassFile). slice_get xs i) (sym c.classes-classes.ensures) ∙ c.class.ensures)
