use Rattle.std.proofs.Common.{◌≡◌, ◌++◌, ◌<◌, ◌≤◌, List, ℕ, [], map, length, get_or, take_all, append-nil, sym, ap, ◌∙◌, subst}
use Rattle.std.specs.List.{filter_map, cons_option}
use Rattle.class_pool.specs.declared.class.ClassFile.{ClassFile}
use Rattle.class_lookup.specs.Parts.{class_text}
use Rattle.class_lookup.specs.Hierarchy.{find_class}
use Rattle.class_lookup.proofs.Numbering.{none_of}
use Rattle.class_lookup.proofs.NameLemmas.{next_found}
use Rattle.class_lookup.proofs.SymbolLemmas.{read_is}
use Rattle.class_lookup.proofs.names.superinterfaces_of.Goals as goal
use Rattle.class_lookup.proofs.names.superinterfaces_of.Goals.{in-Some+in_ok-push, in_default}

pub loop-index-preserved : goal.loop-index-preserved
loop-index-preserved c k at =
    let cs = c.args.classes.now in
    let xs = k.interfaces in
    let i = c.loop-index.index-index in
    let same : c.as_slice-index-items.result.now ≡ xs = c.as_slice-index-items.ensures ∙ ap (λ (x : ClassFile). x.interfaces) (read_is cs c.args.class k c.index-classes-class.result at) in
    let found : find_class cs (class_text k.pool (get_or xs i 0)) ≡ c.class_named.result =
    ap (λ (z : List ℕ). find_class cs (class_text k.pool (get_or z i 0))) (sym same) ∙ sym (c.class_named.ensures k at) in
    let lt = subst (λ (z : List ℕ). i < length z) same c.loop-index-test.true in
    let next = next_found (find_class cs) (class_text k.pool) xs i c.loop-index.found.items c.class_named.result lt (c.loop-index.invariant k at) found in
    elim c.match-class_named.branch [
      | in-Some+in_ok-push w ↦
          ap (λ v. v.items) w.found-is ∙ (w.in_ok-push.ensures.items ∙ (ap (λ o. c.loop-index.found.items ++ cons_option o []) (sym w.in-Some.is) ∙ next))
      | in_default w ↦
          ap (λ v. v.items) w.found-is ∙ (sym (append-nil c.loop-index.found.items) ∙ (ap (λ o. c.loop-index.found.items ++ cons_option o []) (sym (none_of c.class_named.result w.in_default.not-Some)) ∙ next))
    ]

pub returns : goal.returns
returns c k at =
    let same : c.as_slice-index-items.result.now ≡ k.interfaces = c.as_slice-index-items.ensures ∙ ap (λ (x : ClassFile). x.interfaces) (read_is c.args.classes.now c.args.class k c.index-classes-class.result at) in
    let past = subst (λ (z : List ℕ). length z ≤ c.loop-index.index-index) same c.loop-index-test.false in
    c.loop-index.invariant k at ∙ ap (λ xs. filter_map (find_class c.args.classes.now) (map (class_text k.pool) xs)) (take_all c.loop-index.index-index k.interfaces past)
