use Rattle.std.proofs.Common.{ℕ, Option, sym, ap, ◌∙◌}
use Rattle.std.specs.Option.{option_map_or}
use Rattle.bytecode_model.specs.Program.{AString, NoOperand}
use Rattle.class_pool.specs.Grammar.{text_at}
use Rattle.program_tables.specs.Numbers.{strings_of}
use Rattle.program_tables.specs.Operands.{string_object, constant_operand}
use Rattle.program_tables.proofs.TextLemmas.{number_at}
use Rattle.program_tables.proofs.meanings.constant_operand.Goals as goal

pub returns-in-Some : goal.returns-in-Some
returns-in-Some c = λ k e h.
    let cs = c.args.classes.now in
    let number = number_at cs (strings_of cs) c.args.numbers.now h (text_at k.pool c.in-Text.units) c.symbol.result (c.symbol.ensures k e) in
    ap (λ (o : Option ℕ). option_map_or (λ n. AString (string_object n)) o NoOperand) (sym (sym number ∙ (sym c.number.ensures.number ∙ c.in-Some.is)))
    ∙ ap (constant_operand cs k.pool) (sym c.in-Text.is)

pub returns-in-None : goal.returns-in-None
returns-in-None c = λ k e h.
    let cs = c.args.classes.now in
    let number = number_at cs (strings_of cs) c.args.numbers.now h (text_at k.pool c.in-Text.units) c.symbol.result (c.symbol.ensures k e) in
    ap (λ (o : Option ℕ). option_map_or (λ n. AString (string_object n)) o NoOperand) (sym (sym number ∙ (sym c.number.ensures.number ∙ c.in-None.is)))
    ∙ ap (constant_operand cs k.pool) (sym c.in-Text.is)
