use Rattle.std.proofs.Common.{◌≡◌, ℕ, Bool, List, [], ◌∷◌, length, sym, ap, ◌∙◌, subst, arith}
use Rattle.std.proofs.lemmas.Bool.{eqb-true, eqb-false}
use Rattle.std.proofs.lemmas.List.{nil_from_length}
use Rattle.loop_nest.specs.Entered.{names, AreBackEdgesTold, AreBackEdges}
use Rattle.loop_nest.proofs.Ends.{reducible_is_reached}
use Rattle.loop_nest.proofs.Nested.{leaves_names, told_of}
use Rattle.loop_nest.proofs.nest.Goals as goal

pub returns-then-not-is_empty-clause-cause : goal.returns-then-not-is_empty-clause-cause
returns-then-not-is_empty-clause-cause c =
    let g = c.args.g.now in
    let new' = c.in_ok-class.class.items in
    let is : c.deref.result.now ≡ new' = c.deref.ensures.value in
    let P : List ℕ → Type 0 = λ ls. names ls ≡ 0 ∷ c.in_ok-left.left.items in
    let ok = c.in_ok-left.left.ok in (
      leaves_names g new' c.in_ok-left.left.items c.in_ok-class.ensures.classes c.in_ok-class.ensures.none (subst P is c.in_ok-left.ensures),
      λ e. eqb-false c.in_ok-left.left.len 0 (sym c.if-not-is_empty.ensures) (omega (arith, ok.0, ap length e)),
    )

pub back_edges-requires : goal.back_edges-requires
back_edges-requires c =
    let g = c.args.g.now in
    let new' = c.in_ok-class.class.items in
    let is : c.deref.result.now ≡ new' = c.deref.ensures.value in
    let ok = c.in_ok-left.left.ok in
    let none : c.in_ok-left.left.items ≡ [] =
    nil_from_length c.in_ok-left.left.items (omega (arith, ok.0, eqb-true c.in_ok-left.left.len 0 (sym c.if-not-is_empty.ensures))) in
    let P : List ℕ → Type 0 = λ ls. names ls ≡ 0 ∷ [] in
    let Q : List Bool → Type 0 = λ bs. AreBackEdgesTold g bs in
    let alone = subst P is (c.in_ok-left.ensures ∙ ap (λ ls. 0 ∷ ls) none) in
    subst Q (sym c.deref-2.ensures.value) (told_of g new' c.in_ok-class.back.items c.in_ok-class.ensures.valid c.in_ok-class.ensures.classes c.in_ok-class.ensures.none alone c.in_ok-class.ensures.marked)

pub nest_by-requires-clause-back_edges : goal.nest_by-requires-clause-back_edges
nest_by-requires-clause-back_edges c =
    let P : List (ℕ × ℕ) → Type 0 = λ es. AreBackEdges c.args.g.now es in
    subst P (sym c.deref-3.ensures.value) c.in_ok-back_edges.ensures

pub nest_by-requires-clause-reached : goal.nest_by-requires-clause-reached
nest_by-requires-clause-reached c =
    let g = c.args.g.now in
    let wf = c.in_ok-class.ensures.valid in
    let new' = c.in_ok-class.class.items in
    let is : c.deref.result.now ≡ new' = c.deref.ensures.value in
    let ok = c.in_ok-left.left.ok in
    let none : c.in_ok-left.left.items ≡ [] =
    nil_from_length c.in_ok-left.left.items (omega (arith, ok.0, eqb-true c.in_ok-left.left.len 0 (sym c.if-not-is_empty.ensures))) in
    let P : List ℕ → Type 0 = λ ls. names ls ≡ 0 ∷ [] in
    let alone = subst P is (c.in_ok-left.ensures ∙ ap (λ ls. 0 ∷ ls) none) in
    let leaves = leaves_names g new' [] c.in_ok-class.ensures.classes c.in_ok-class.ensures.none alone in
    reducible_is_reached g wf leaves

pub returns-clause-reducible : goal.returns-clause-reducible
returns-clause-reducible c =
    let g = c.args.g.now in
    let new' = c.in_ok-class.class.items in
    let is : c.deref.result.now ≡ new' = c.deref.ensures.value in
    let ok = c.in_ok-left.left.ok in
    let none : c.in_ok-left.left.items ≡ [] =
    nil_from_length c.in_ok-left.left.items (omega (arith, ok.0, eqb-true c.in_ok-left.left.len 0 (sym c.if-not-is_empty.ensures))) in
    let P : List ℕ → Type 0 = λ ls. names ls ≡ 0 ∷ [] in
    let alone = subst P is (c.in_ok-left.ensures ∙ ap (λ ls. 0 ∷ ls) none) in
    leaves_names g new' [] c.in_ok-class.ensures.classes c.in_ok-class.ensures.none alone
