use Rattle.std.proofs.Common.{◌<◌, List, ℕ, [], Option, Some, length, get_or, take_all, refl, sym, ap, ◌∙◌, subst}
use Rattle.std.specs.Option.{option_map_or}
use Rattle.std.specs.List.{flat_map}
use Rattle.std.proofs.lemmas.List.Elements.{Contains-get_or}
use Rattle.opcodes.specs.declared.instruction.Instr.{Instr}
use Rattle.opcodes.specs.Instruction.{decoded}
use Rattle.opcodes.specs.Start.{starts_of}
use Rattle.bytecode_model.specs.Program.{as_instr}
use Rattle.bytecode_model.specs.Types.{Kind, same_kind}
use Rattle.class_lookup.specs.Parts.{same_text}
use Rattle.program_tables.specs.Instructions.{Placed, placed_at, named_in}
use Rattle.program_tables.specs.Lists.{with_items}
use Rattle.program_tables.specs.declared.mentions.Mentions.{Mentions}
use Rattle.program_tables.specs.Marks.{AreMentions}
use Rattle.program_tables.specs.Numbers.{arrays_mentioned_by, used_by, class_kind, string_in, constant_named}
use Rattle.program_tables.specs.Tables.{kinds_of}
use Rattle.program_tables.proofs.ListLemmas.{no_value}
use Rattle.program_tables.proofs.MentionLemmas.{next_place, all_places}
use Rattle.program_tables.proofs.NamingLemmas.{nothing_there}
use Rattle.program_tables.proofs.mentions.Mentions.add_code.Goals as goal
use Rattle.program_tables.proofs.mentions.Mentions.add_code.Goals.{in-Some+in_ok-add_instruction, in_default}

pub naming_at-requires-clause-inside : goal.naming_at-requires-clause-inside
naming_at-requires-clause-inside c =
    let code = c.args.code.now in
    let i = c.loop-pc.pc-index in
    let e = c.deref-pc-items.ensures.value ∙ c.in_ok-starts.ensures in
    let lt = subst (λ (xs : List ℕ). i < length xs) e c.loop-pc-test.true in
    subst (λ (xs : List ℕ). get_or xs i 0 < length code) (sym e) ((c.starts_follow_one_another.ensures code).within_code (get_or (starts_of code) i 0) (Contains-get_or (starts_of code) i 0 lt))

pub loop-pc-preserved : goal.loop-pc-preserved
loop-pc-preserved c =
    let class = c.args.class.now in
    let code = c.args.code.now in
    let ps = c.deref-pc-items.result.now in
    let i = c.loop-pc.pc-index in
    let pc = get_or ps i 0 in
    let self = c.loop-pc.self in
    let types_at = arrays_mentioned_by c.args.texts.now class in
    let strings_at = λ (p : Placed). string_in class.pool (constant_named (named_in class p.instr)) in
    let types = λ (after : List Kind) (o : Option Instr).
    next_place same_kind types_at code ps i pc (kinds_of c.args.self.now.arrays.types) (kinds_of self.arrays.types) after o c.loop-pc-test.true refl c.loop-pc.invariant.types in
    let strings = λ (after : List (List ℕ)) (o : Option Instr).
    next_place same_text strings_at code ps i pc c.args.self.now.literals.strings self.literals.strings after o c.loop-pc-test.true refl c.loop-pc.invariant.strings in
    elim c.match-naming_at.branch [
      | in-Some+in_ok-add_instruction w ↦
          let e = ap as_instr w.in-Some.ensures.there in
          record {
            types = ap (λ (s : Mentions). kinds_of s.arrays.types) w.self-is ∙ types (kinds_of w.add_instruction.new.self.arrays.types) (Some w.in-Some.instr) e w.in_ok-add_instruction.ensures.types;
            strings = ap (λ (s : Mentions). s.literals.strings) w.self-is ∙ strings w.add_instruction.new.self.literals.strings (Some w.in-Some.instr) e w.in_ok-add_instruction.ensures.strings;
            added = subst (AreMentions c.args.texts.now) (sym w.self-is) w.in_ok-add_instruction.ensures.added;
          }
      | in_default w ↦
          let o = as_instr (decoded code pc) in
          let none = c.naming_at.ensures.none (no_value c.naming_at.result w.in_default.not-Some) in
          record {
            types = ap (λ (s : Mentions). kinds_of s.arrays.types) w.self-is
                ∙ types (kinds_of self.arrays.types) o refl (ap (with_items same_kind (kinds_of self.arrays.types)) (sym (nothing_there types_at class (λ p h. ap (λ n. used_by p.instr.op (class_kind c.args.texts.now class n)) h) code pc none)));
            strings = ap (λ (s : Mentions). s.literals.strings) w.self-is
                ∙ strings self.literals.strings o refl (ap (with_items same_text self.literals.strings) (sym (nothing_there strings_at class (λ p h. ap (λ n. string_in class.pool (constant_named n)) h) code pc none)));
            added = subst (AreMentions c.args.texts.now) (sym w.self-is) c.loop-pc.invariant.added;
          }
    ]

pub returns-clause-types : goal.returns-clause-types
returns-clause-types c =
    let f = arrays_mentioned_by c.args.texts.now c.args.class.now in
    let code = c.args.code.now in
    let ps = c.deref-pc-items.result.now in
    let e = c.deref-pc-items.ensures.value ∙ c.in_ok-starts.ensures in
    c.loop-pc.invariant.types
    ∙ ap (with_items same_kind (kinds_of c.args.self.now.arrays.types)) (ap (flat_map (λ q. option_map_or f (placed_at code q) [])) (take_all c.loop-pc.pc-index ps c.loop-pc-test.false ∙ e) ∙ all_places f code)

pub returns-clause-strings : goal.returns-clause-strings
returns-clause-strings c =
    let class = c.args.class.now in
    let f = λ (p : Placed). string_in class.pool (constant_named (named_in class p.instr)) in
    let code = c.args.code.now in
    let ps = c.deref-pc-items.result.now in
    let e = c.deref-pc-items.ensures.value ∙ c.in_ok-starts.ensures in
    c.loop-pc.invariant.strings
    ∙ ap (with_items same_text c.args.self.now.literals.strings) (ap (flat_map (λ q. option_map_or f (placed_at code q) [])) (take_all c.loop-pc.pc-index ps c.loop-pc-test.false ∙ e) ∙ all_places f code)
