use Rattle.std.proofs.Common.{List, slice_get, sym, ap, ◌∙◌}
use Rattle.class_pool.specs.declared.class.ClassFile.{ClassFile}
use Rattle.program_tables.specs.Numbers.{strings_of}
use Rattle.program_tables.specs.Operands.{constant_operand}
use Rattle.program_tables.specs.Tables.{numbers_among}
use Rattle.resolved_program.proofs.entries.constant_meaning.Goals as goal

pub returns : goal.returns
returns c =
    let same = c.classes-listed.ensures in
    let class = c.args.class.now in
    let there = ap (λ (xs : List ClassFile). slice_get xs c.args.current) same ∙ c.requires.class in
    let numbers = c.requires.tables.numbers ∙ ap (λ (xs : List ClassFile). numbers_among (strings_of xs) xs) (sym same) in
    let told = c.constant_operand.ensures class there numbers ∙ ap (λ (xs : List ClassFile). constant_operand xs class.pool c.args.entry.now) same in
    record {
      usual = ap (λ m. m.usual) c.plain.ensures ∙ told;
      special = ap (λ m. m.special) c.plain.ensures ∙ told;
      guarded = ap (λ m. m.guarded) c.plain.ensures;
    }
