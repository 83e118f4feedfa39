use Rattle.std.proofs.Common.{◌≡◌, ℕ, ◌<◌, Bool, List, ◌++◌, length, take, drop, Contains, sym, ap, ◌∙◌, subst, arith}
use Rattle.std.proofs.lemmas.Bool.{MatchBool-at_true, MatchBool-at_false}
use Rattle.std.proofs.lemmas.List.{take_at}
use Rattle.loop_nest.specs.Classes.{NoneCanMerge}
use Rattle.loop_nest.specs.Entered.{class_of, names, AreBackEdgesMarked}
use Rattle.loop_nest.specs.Pointers.{ArePointers, AreNames, AreAllNodes, CannotMerge}
use Rattle.loop_nest.proofs.Pointing.{class_pointers, named_classes, as_many_left, none_left, kept_marks}
use Rattle.loop_nest.proofs.passes.reduced.Goals as goal

pub pass-requires-clause-pointers : goal.pass-requires-clause-pointers
pass-requires-clause-pointers c =
    let g = c.args.g.now in
    let P : List ℕ → Type 0 = λ ls. ArePointers g ls c.deref_mut-in-loop-alloc.result.now in
    let Q : List Bool → Type 0 = λ bs. ArePointers g c.loop-alloc.class.items bs in
    subst P (sym c.deref_mut.ensures.value) (subst Q (sym c.deref_mut-in-loop-alloc.ensures.value) (class_pointers c.loop-alloc.invariant.classes c.loop-alloc.invariant.marked))

pub loop-alloc-smaller : goal.loop-alloc-smaller
loop-alloc-smaller c =
    let class = c.loop-alloc.class.items in
    let into = c.pass.new.into in
    let pointers = c.pass.ensures.pointers in
    let long = pointers.long in
    let old_long = c.loop-alloc.invariant.classes.long in
    let ok = c.loop-alloc.class.ok in
    let into_is : c.deref-in-loop-alloc.result.now ≡ into = c.deref-in-loop-alloc.ensures.value ∙ take_at into (drop (length into) class) c.loop-alloc.class.len (omega (arith, ok.0)) in
    let P : List ℕ → Type 0 = λ ls. AreNames ls c.in_ok-class-2.class.items in
    let few = as_many_left into c.in_ok-class-2.class.items (subst P into_is c.in_ok-class-2.ensures) in
    let fell = MatchBool-at_true _ _ c.loop-alloc-test.true c.pass.ensures.fewer in
    let e = ap (λ ls. length (names ls)) c.deref_mut.ensures.value in
    let r : length (names c.in_ok-class-2.class.items) < length (names class) = omega arith in
    r

pub loop-alloc-preserved : goal.loop-alloc-preserved
loop-alloc-preserved c =
    let g = c.args.g.now in
    let class = c.loop-alloc.class.items in
    let into = c.pass.new.into in
    let back = c.pass.new.back in
    let pointers = c.pass.ensures.pointers in
    let long = pointers.long in
    let old_long = c.loop-alloc.invariant.classes.long in
    let ok = c.loop-alloc.class.ok in
    let into_is : c.deref-in-loop-alloc.result.now ≡ into = c.deref-in-loop-alloc.ensures.value ∙ take_at into (drop (length into) class) c.loop-alloc.class.len (omega (arith, ok.0)) in
    let P : List ℕ → Type 0 = λ ls. AreNames ls c.in_ok-class-2.class.items in
    let r = named_classes pointers (subst P into_is c.in_ok-class-2.ensures) in
    let marks = pointers.marked.long in
    let old_marks = c.loop-alloc.invariant.marked.long in
    let back_ok = c.loop-alloc.back.ok in
    let back_is : take c.loop-alloc.back.len (back ++ drop (length back) c.loop-alloc.back.items) ≡ back = take_at back (drop (length back) c.loop-alloc.back.items) c.loop-alloc.back.len (omega (arith, back_ok.0)) in
    let Q : List Bool → Type 0 = λ bs. AreBackEdgesMarked g c.in_ok-class-2.class.items bs in
    record { classes = r.0; marked = subst Q (sym back_is) r.1 }

pub returns-clause-none : goal.returns-clause-none
returns-clause-none c =
    let g = c.args.g.now in
    let class = c.loop-alloc.class.items in
    let into = c.pass.new.into in
    let pointers = c.pass.ensures.pointers in
    let long = pointers.long in
    let old_long = c.loop-alloc.invariant.classes.long in
    let ok = c.loop-alloc.class.ok in
    let kept : into ≡ class = MatchBool-at_false _ _ c.loop-alloc-test.false c.pass.ensures.kept ∙ c.deref_mut.ensures.value in
    let is : take c.loop-alloc.class.len (into ++ drop (length into) class) ≡ class = take_at into (drop (length into) class) c.loop-alloc.class.len (omega (arith, ok.0)) ∙ kept in
    let A : ℕ → Type 0 = λ n. AreAllNodes n c.deref.result.now in
    let B : List ℕ → Type 0 = λ ls. AreAllNodes c.nodes.result ls in
    let all = subst A c.nodes.ensures.nodes (subst B (sym c.deref.ensures.value) c.in_ok-order.ensures) in
    let L : List ℕ → Type 0 = λ ls. (x : ℕ) → Contains c.deref.result.now x → CannotMerge g ls x in
    let none = subst L c.deref_mut.ensures.value (MatchBool-at_false _ _ c.loop-alloc-test.false c.pass.ensures.none) in
    let P : List ℕ → Type 0 = λ ls. NoneCanMerge g (class_of ls) in
    subst P (sym is) (none_left c.nodes.ensures.valid c.loop-alloc.invariant.classes all none)

pub returns-clause-marked : goal.returns-clause-marked
returns-clause-marked c =
    let g = c.args.g.now in
    let class = c.loop-alloc.class.items in
    let into = c.pass.new.into in
    let back = c.pass.new.back in
    let pointers = c.pass.ensures.pointers in
    let long = pointers.long in
    let old_long = c.loop-alloc.invariant.classes.long in
    let ok = c.loop-alloc.class.ok in
    let kept : into ≡ class = MatchBool-at_false _ _ c.loop-alloc-test.false c.pass.ensures.kept ∙ c.deref_mut.ensures.value in
    let is : take c.loop-alloc.class.len (into ++ drop (length into) class) ≡ class = take_at into (drop (length into) class) c.loop-alloc.class.len (omega (arith, ok.0)) ∙ kept in
    let marks = pointers.marked.long in
    let old_marks = c.loop-alloc.invariant.marked.long in
    let back_ok = c.loop-alloc.back.ok in
    let back_is : take c.loop-alloc.back.len (back ++ drop (length back) c.loop-alloc.back.items) ≡ back = take_at back (drop (length back) c.loop-alloc.back.items) c.loop-alloc.back.len (omega (arith, back_ok.0)) in
    let R : List ℕ → Type 0 = λ ls. ArePointers g ls back in
    let P : List ℕ → Type 0 = λ ls. AreBackEdgesMarked g ls (take c.loop-alloc.back.len (back ++ drop (length back) c.loop-alloc.back.items)) in
    let Q : List Bool → Type 0 = λ bs. AreBackEdgesMarked g class bs in
    subst P (sym is) (subst Q (sym back_is) (kept_marks c.loop-alloc.invariant.classes (subst R kept pointers)))
