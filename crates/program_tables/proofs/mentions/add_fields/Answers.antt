use Rattle.std.proofs.Common.{◌≡◌, ◌<◌, List, ℕ, Option, Some, None, length, get_or, refl, sym, ap, ◌∙◌, subst}
use Rattle.class_pool.specs.declared.class.Member.{Member}
use Rattle.class_pool.specs.Grammar.{entry_at}
use Rattle.bytecode_model.specs.Lists.{onto}
use Rattle.class_lookup.specs.Parts.{same_text}
use Rattle.program_tables.specs.Lists.{with_items}
use Rattle.program_tables.specs.declared.mentions.Literals.{Literals}
use Rattle.program_tables.specs.Marks.{AreLiterals}
use Rattle.program_tables.specs.Numbers.{string_in, constant_entry}
use Rattle.program_tables.proofs.ListLemmas.{no_value}
use Rattle.program_tables.proofs.MentionLemmas.{next_part}
use Rattle.program_tables.proofs.mentions.add_fields.Goals as goal
use Rattle.program_tables.proofs.mentions.add_fields.Goals.{in-Some+in_ok-add_constant, in_default}

pub loop-field-preserved : goal.loop-field-preserved
loop-field-preserved c =
    let pool = c.args.class.now.pool in
    let fs = c.args.class.now.fields in
    let i = c.loop-field.field-index in
    let f = c.field-item.result in
    let ks = c.loop-field.literals.strings in
    let same = c.as_slice-field-items.ensures in
    let lt = subst (λ (xs : List Member). i < length xs) same c.loop-field-test.true in
    let is = subst (λ (xs : List Member). f ≡ get_or xs i f) same c.field-item.is in
    let by = λ (after : List (List ℕ)) (o : Option ℕ) (e : c.constant_value.result ≡ o) (h : after ≡ with_items same_text ks (string_in pool (onto o (entry_at pool)))).
    next_part same_text (λ (x : Member). string_in pool (constant_entry c.args.class.now x)) fs i f c.args.literals.now.strings ks after lt is c.loop-field.invariant.strings
    (h ∙ ap (λ x. with_items same_text ks (string_in pool (onto x (entry_at pool)))) (sym e ∙ c.constant_value.ensures)) in
    elim c.match-constant_value.branch [
      | in-Some+in_ok-add_constant w ↦
          record {
            strings = ap (λ (x : Literals). x.strings) w.literals-is
                ∙ by w.add_constant.new.literals.strings (Some w.in-Some.index) w.in-Some.is w.in_ok-add_constant.ensures.strings;
            added = subst (AreLiterals c.args.classes.now) (sym w.literals-is) w.in_ok-add_constant.ensures.added;
          }
      | in_default w ↦
          record {
            strings = ap (λ (x : Literals). x.strings) w.literals-is ∙ by ks None (no_value c.constant_value.result w.in_default.not-Some) refl;
            added = subst (AreLiterals c.args.classes.now) (sym w.literals-is) c.loop-field.invariant.added;
          }
    ]
