use Rattle.std.proofs.Common.{◌≡◌, ◌++◌, ◌<◌, ℕ, List, Option, length, append-nil, sym, ap, ◌∙◌, subst, arith}
use Rattle.class_pool.specs.declared.class.ClassFile.{ClassFile}
use Rattle.class_lookup.specs.Hierarchy.{superclass, superclasses}
use Rattle.image_words.proofs.FillLemmas.{supers_within}
use Rattle.image_words.proofs.OrderLemmas.{chain_from, chain_more}
use Rattle.image_words.proofs.TableLemmas.{depth_from, depth_next}
use Rattle.image_words.proofs.class_order.superclass_chain.Goals as goal

pub loop-next-smaller : goal.loop-next-smaller
loop-next-smaller c =
    let cs = c.args.classes.now in
    let at = c.in-Some.at in
    let next = c.superclass-next.result in
    let step = depth_next cs (c.superclasses_stand_above.ensures cs c.is_without_cycle.ensures) at in
    let upper = ap (depth_from cs) (c.superclass-next.ensures ∙ ap (λ (ks : List ClassFile). superclass ks at) c.classes.ensures) in
    let falls : depth_from cs next < length (superclasses cs at) = omega (arith, upper, step) in
    subst (λ (o : Option ℕ). depth_from cs next < depth_from cs o) (sym c.in-Some.is) falls

pub loop-next-preserved : goal.loop-next-preserved
loop-next-preserved c =
    let cs = c.args.classes.now in
    let at = c.in-Some.at in
    let next = c.superclass-next.result in
    let chain = c.loop-next.chain.items in
    let are = c.superclasses_stand_above.ensures cs c.is_without_cycle.ensures in
    let upper = c.superclass-next.ensures ∙ ap (λ (ks : List ClassFile). superclass ks at) c.classes.ensures in
    let before = subst (λ (o : Option ℕ). chain ++ chain_from cs o ≡ superclasses cs c.args.class) c.in-Some.is c.loop-next.invariant.chain in
    record {
      inside = supers_within cs at next upper;
      chain = chain_more cs are at c.args.class next chain c.push.new.self.items upper before c.in_ok-push.ensures.items;
    }

pub returns : goal.returns
returns c =
    let cs = c.args.classes.now in
    let chain = c.loop-next.chain.items in
    sym (append-nil chain) ∙ subst (λ (o : Option ℕ). chain ++ chain_from cs o ≡ superclasses cs c.args.class) c.in_default.is c.loop-next.invariant.chain
