use Rattle.std.proofs.Common.{◌≡◌, ◌<◌, List, ℕ, Option, Some, None, length, get_or, refl, sym, ap, ◌∙◌, subst}
use Rattle.std.specs.Option.{option_copied}
use Rattle.std.specs.List.{flat_map}
use Rattle.class_pool.specs.declared.class.Code.{Code}
use Rattle.class_pool.specs.declared.class.Member.{Member}
use Rattle.bytecode_model.specs.Types.{Kind, same_kind}
use Rattle.class_lookup.specs.Parts.{same_text}
use Rattle.program_tables.specs.Instructions.{Placed, instructions_in, named_in}
use Rattle.program_tables.specs.Lists.{with_items}
use Rattle.program_tables.specs.declared.mentions.Mentions.{Mentions}
use Rattle.program_tables.specs.Marks.{AreMentions}
use Rattle.program_tables.specs.Numbers.{arrays_mentioned_by, string_in, constant_named}
use Rattle.program_tables.specs.Tables.{kinds_of}
use Rattle.program_tables.proofs.ListLemmas.{no_copy}
use Rattle.program_tables.proofs.MentionLemmas.{next_method}
use Rattle.program_tables.proofs.mentions.Mentions.add_methods.Goals as goal
use Rattle.program_tables.proofs.mentions.Mentions.add_methods.Goals.{in-Some+in_ok-add_code, in_default}

pub loop-method-preserved : goal.loop-method-preserved
loop-method-preserved c =
    let class = c.args.class.now in
    let ms = class.methods in
    let i = c.loop-method.method-index in
    let m = c.method-item.result in
    let same = c.as_slice-method-items.ensures in
    let lt = subst (λ (xs : List Member). i < length xs) same c.loop-method-test.true in
    let is = subst (λ (xs : List Member). m ≡ get_or xs i m) same c.method-item.is in
    let types = λ (after : List Kind) (o : Option Code).
    next_method same_kind (arrays_mentioned_by c.args.texts.now class) ms i m (kinds_of c.args.self.now.arrays.types) (kinds_of c.loop-method.self.arrays.types) after o lt is c.loop-method.invariant.types in
    let strings = λ (after : List (List ℕ)) (o : Option Code).
    next_method same_text (λ (p : Placed). string_in class.pool (constant_named (named_in class p.instr))) ms i m c.args.self.now.literals.strings c.loop-method.self.literals.strings after o lt is c.loop-method.invariant.strings in
    elim c.match-code.branch [
      | in-Some+in_ok-add_code w ↦
          let e = sym c.code.ensures ∙ ap option_copied w.in-Some.is in
          let code = w.as_slice.ensures in
          record {
            types = ap (λ (s : Mentions). kinds_of s.arrays.types) w.self-is
                ∙ types (kinds_of w.add_code.new.self.arrays.types) (Some w.in-Some.code.now) e
                (w.in_ok-add_code.ensures.types ∙ ap (λ (k : List ℕ). with_items same_kind (kinds_of c.loop-method.self.arrays.types) (flat_map (arrays_mentioned_by c.args.texts.now class) (instructions_in k))) code);
            strings = ap (λ (s : Mentions). s.literals.strings) w.self-is
                ∙ strings w.add_code.new.self.literals.strings (Some w.in-Some.code.now) e
                (w.in_ok-add_code.ensures.strings ∙ ap (λ (k : List ℕ). with_items same_text c.loop-method.self.literals.strings (flat_map (λ (p : Placed). string_in class.pool (constant_named (named_in class p.instr))) (instructions_in k))) code);
            added = subst (AreMentions c.args.texts.now) (sym w.self-is) w.in_ok-add_code.ensures.added;
          }
      | in_default w ↦
          let e = sym c.code.ensures ∙ no_copy c.code.result w.in_default.not-Some in
          record {
            types = ap (λ (s : Mentions). kinds_of s.arrays.types) w.self-is ∙ types (kinds_of c.loop-method.self.arrays.types) None e refl;
            strings = ap (λ (s : Mentions). s.literals.strings) w.self-is ∙ strings c.loop-method.self.literals.strings None e refl;
            added = subst (AreMentions c.args.texts.now) (sym w.self-is) c.loop-method.invariant.added;
          }
    ]
