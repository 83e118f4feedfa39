use Rattle.std.proofs.Common.{◌≡◌, ◌+◌, false, Bool, List, [], ◌∷◌, ◌++◌, length, get_or, take, sym, ap, ◌∙◌, subst, arith}
use Rattle.std.specs.Prelude.{MatchBool}
use Rattle.std.proofs.lemmas.List.{length-take-le, take_more, with_items_is}
use Rattle.loop_nest.specs.Nest.{NaturalLoop}
use Rattle.compact_walks.specs.Charging.{AreInner, AreMarkedBut}
use Rattle.compact_walks.proofs.Marks.{inner_next}
use Rattle.compact_walks.proofs.charging.inner.Goals as goal

pub loop-i-preserved : goal.loop-i-preserved
loop-i-preserved c =
    let ls = c.args.loops.now in
    let fs = c.args.flags.now in
    let n = c.args.size in
    let i = c.loop-i.i in
    let lt = c.loop-i-test.true in
    let same = c.requires.long in
    let old = c.loop-i.marks.items in
    let now = c.mark_inner.new.marks in
    let l = c.index-loops-i.result in
    let f = get_or fs i false in
    let done : MatchBool f (AreMarkedBut l.members l.header old now) (now ≡ old) = subst (λ (ds : List Bool). MatchBool f (AreMarkedBut l.members l.header ds now) (now ≡ ds)) c.deref_mut.ensures.value c.mark_inner.ensures in
    let here : take (i + 1) ls ≡ take i ls ++ l ∷ [] = take_more ls i l lt ∙ ap (λ (z : NaturalLoop). take i ls ++ z ∷ []) (sym c.index-loops-i.is) in
    let there : take (i + 1) fs ≡ take i fs ++ f ∷ [] = take_more fs i false (omega arith) in
    let long : length (take i fs) ≡ length (take i ls) = length-take-le i fs (omega arith) ∙ sym (length-take-le i ls (omega arith)) in
    let next = inner_next (take i ls) l (take i fs) f long n old now c.loop-i.invariant done in
    let ok = c.loop-i.marks.ok in
    let size = next.long in
    let before = c.loop-i.invariant.long in
    subst (λ (ms : List Bool). AreInner (take (i + 1) ls) (take (i + 1) fs) n ms) (sym (with_items_is c.loop-i.marks now (omega (arith, ok.0))))
    (subst (λ (zs : List NaturalLoop). AreInner zs (take (i + 1) fs) n now) (sym here) (subst (λ (zs : List Bool). AreInner (take i ls ++ l ∷ []) zs n now) (sym there) next))
