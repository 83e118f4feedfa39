use Rattle.std.proofs.Common.{◌≡◌, ◌++◌, ◌∷◌, [], List, sym, ap, ◌∙◌, arith}
use Rattle.class_lookup.specs.Lookup.{Place}
use Rattle.image_words.proofs.MemberLemmas.{own_more, own_all}
use Rattle.image_words.proofs.members.add_methods.Goals as goal

pub loop-index-preserved : goal.loop-index-preserved
loop-index-preserved c =
    let i = c.loop-index.index in
    c.in_ok-push.ensures.items ∙ (ap (λ (xs : List Place). xs ++ (c.args.class, i) ∷ []) c.loop-index.invariant ∙ own_more c.args.class i c.args.places.now.items)

pub returns : goal.returns
returns c =
    let test = c.loop-index-test.false in
    let end = c.loop-index.auto.index-end in
    let same : c.loop-index.index ≡ c.method_count-index-end.result = omega (arith, test, end) in
    c.loop-index.invariant ∙ own_all c.args.classes.now c.args.class c.loop-index.index c.args.places.now.items (c.method_count-index-end.ensures ∙ sym same)
