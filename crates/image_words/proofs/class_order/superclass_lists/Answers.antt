use Rattle.std.proofs.Common.{◌≡◌, ◌++◌, ◌∷◌, [], ℕ, List, length, sym, ap, ◌∙◌, arith}
use Rattle.std.specs.Option.{option_to_list}
use Rattle.std.proofs.lemmas.List.FromFn.{map-range_with_len_more, length-map-range_with_len}
use Rattle.class_lookup.specs.Hierarchy.{superclass}
use Rattle.class_lookup.proofs.Numbering.{none_of}
use Rattle.image_words.proofs.class_order.superclass_lists.Goals as goal
use Rattle.image_words.proofs.class_order.superclass_lists.Goals.{in-Some+in_ok-push, in_default}

list_is : (c : goal.In_ok-push-2) → c.match-superclass.list.items ≡ option_to_list (superclass c.args.classes.now c.loop-class.class)
list_is c =
    elim c.match-superclass.branch [
      | in-Some+in_ok-push w ↦
          ap (λ v. v.items) w.list-is ∙ (w.in_ok-push.ensures.items ∙ (ap (λ (xs : List ℕ). xs ++ w.in-Some.upper ∷ []) c.new-list.ensures.items
          ∙ ap option_to_list (sym w.in-Some.is ∙ c.superclass.ensures)))
      | in_default w ↦
          ap (λ v. v.items) w.list-is ∙ (c.new-list.ensures.items ∙ ap option_to_list (sym (none_of c.superclass.result w.in_default.not-Some) ∙ c.superclass.ensures))
    ]

pub loop-class-preserved : goal.loop-class-preserved
loop-class-preserved c =
    let cs = c.args.classes.now in
    let i = c.loop-class.class in
    let old = c.loop-class.lists.items in
    c.in_ok-push-2.ensures.items ∙ (ap (λ (x : List ℕ). old ++ x ∷ []) (c.new.ensures ∙ list_is c)
    ∙ (ap (λ xs. xs ++ option_to_list (superclass cs i) ∷ []) c.loop-class.invariant ∙ sym (map-range_with_len_more (λ n. option_to_list (superclass cs n)) 0 i i (omega arith))))

pub returns-clause-short : goal.returns-clause-short
returns-clause-short c =
    let long = ap length c.loop-class.invariant ∙ length-map-range_with_len (λ n. option_to_list (superclass c.args.classes.now n)) 0 c.loop-class.class in
    let end = c.loop-class.auto.class-end in
    let fits = c.class_count-class-end.type_inv in
    omega (arith, long, end, fits)
