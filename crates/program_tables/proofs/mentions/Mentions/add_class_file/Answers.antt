use Rattle.std.proofs.Common.{List, ℕ, sym, ap, ◌∙◌}
use Rattle.std.specs.List.{flat_map}
use Rattle.class_lookup.specs.Parts.{same_text}
use Rattle.program_tables.specs.Instructions.{instructions_of, named_in}
use Rattle.program_tables.specs.Lists.{with_items}
use Rattle.program_tables.specs.Numbers.{string_in, constant_entry, constant_named}
use Rattle.program_tables.proofs.MentionLemmas.{with_items-append}
use Rattle.program_tables.proofs.mentions.Mentions.add_class_file.Goals as goal

pub returns-clause-strings : goal.returns-clause-strings
returns-clause-strings c =
    let class = c.args.class.now in
    let fields = flat_map (λ f. string_in class.pool (constant_entry class f)) class.fields in
    let code = flat_map (λ m. flat_map (λ p. string_in class.pool (constant_named (named_in class p.instr))) (instructions_of m)) class.methods in
    c.in_ok-add_methods.ensures.strings
    ∙ (ap (λ (xs : List (List ℕ)). with_items same_text xs code) c.in_ok-add_fields.ensures.strings
    ∙ sym (with_items-append same_text c.args.self.now.literals.strings fields code))
