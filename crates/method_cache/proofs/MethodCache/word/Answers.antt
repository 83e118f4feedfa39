use Rattle.std.proofs.Common.{◌≡◌, Option, Some, refl, subst, ap, sym, ◌∙◌}
use Rattle.std.specs.Prelude.{IfSome}
use Rattle.method_cache.specs.Contents.{word_of}
use Rattle.method_cache.specs.declared.blocks.Extent.{Extent}
use Rattle.method_cache.specs.declared.MethodCache.TheInside.{Inside}
use Rattle.method_cache.specs.Meaning.{IsRing}
use Rattle.method_cache.specs.Ring.{IsExtent}
use Rattle.method_cache.proofs.Lookups.{word_of-at, word_near}
use Rattle.method_cache.proofs.MethodCache.word.Goals as goal

selected : (a : Inside) → IsRing a → (e : Extent) → a.selected ≡ Some e → IsExtent a.block_words a.tags.items e
selected a ring e is =
    let P : Option Extent → Type 0 = λ o. IfSome o (IsExtent a.block_words a.tags.items) in
    subst P is ring.selected

pub word_at-requires : goal.word_at-requires
word_at-requires c =
    let a = c.self.inside in
    let e = c.in-Some.extent in
    word_near a c.self.invariant c.args.i e a.tags.items c.deref.result.now refl c.deref.ensures.value (selected a c.self.invariant e c.in-Some.is)

pub returns-in-Some : goal.returns-in-Some
returns-in-Some c =
    let a = c.self.inside in
    let e = c.in-Some.extent in
    c.word_at.ensures
    ∙ sym (word_of-at a c.self.invariant c.args.m c.args.i e a.tags.items c.deref.result.now refl c.deref.ensures.value (selected a c.self.invariant e c.in-Some.is) c.if-extent-m.true)
    ∙ ap (word_of c.args.m c.args.i) c.self.view_is
