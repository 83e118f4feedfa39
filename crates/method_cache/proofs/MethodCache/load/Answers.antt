use Rattle.std.proofs.Common.{◌≤◌, ℕ, length, ap, sym, subst, ◌∙◌, arith}
use Rattle.method_cache.specs.Contents.{Cache, blocks_for, loaded}
use Rattle.method_cache.specs.Meaning.{contents_of}
use Rattle.method_cache.proofs.Rings.{in_order, stale_at, stale_room}
use Rattle.method_cache.proofs.Loads.{is_load, IsRing-after_load, IsCache-after_load, cache_of-after_load}
use Rattle.method_cache.proofs.MethodCache.load.Goals as goal

pub store-end-requires-clause-stale : goal.store-end-requires-clause-stale
store-end-requires-clause-stale c =
    let a = c.self.inside in
    let ring = c.self.invariant in
    let most : blocks_for a.block_words (length c.args.words.now) ≤ a.blocks =
    let P : Cache → Type 0 = λ k. blocks_for k.block_words (length c.args.words.now) ≤ k.blocks in subst P (sym c.self.view_is) c.requires.most in
    rw c.deref_mut.ensures.value (stale_at a.block_words a.next _ (contents_of a) a.tags.items ring.some_words ring.holds.have_words (omega (arith, ring.tags, ring.holds.next)) (omega (arith, ring.tags, most)) (ring.in_order ∙ ap (λ (k : ℕ). in_order a.block_words k (contents_of a)) (sym ring.tags)))

pub store-end-requires-clause-stale_room : goal.store-end-requires-clause-stale_room
store-end-requires-clause-stale_room c =
    let a = c.self.inside in
    let ring = c.self.invariant in
    let most : blocks_for a.block_words (length c.args.words.now) ≤ a.blocks =
    let P : Cache → Type 0 = λ k. blocks_for k.block_words (length c.args.words.now) ≤ k.blocks in subst P (sym c.self.view_is) c.requires.most in
    rw (c.deref_mut.ensures.value, ring.in_order) (stale_room a.block_words a.blocks _ (contents_of a) ring.some_words ring.holds.have_words ring.holds.fits most)

pub invariant_of-self : goal.invariant_of-self
invariant_of-self c =
    IsRing-after_load c.self.inside _ _ c.store-end.result c.args.m c.args.words.now (is_load c.self.inside c.args.self.now c.deref_mut.result.now c.store-end.new.tags c.deref_mut-2.result.now c.store-end.new.ring c.store-end.result c.args.m c.args.words.now c.self.view_is c.self.invariant c.requires.absent c.requires.least c.requires.most c.deref_mut.ensures.value c.deref_mut-2.ensures.value (omega arith) (omega arith) c.store-end.ensures.end c.store-end.ensures.tags c.store-end.ensures.words)

pub returns-clause-after : goal.returns-clause-after
returns-clause-after c =
    cache_of-after_load c.self.inside _ _ c.store-end.result c.args.m c.args.words.now (is_load c.self.inside c.args.self.now c.deref_mut.result.now c.store-end.new.tags c.deref_mut-2.result.now c.store-end.new.ring c.store-end.result c.args.m c.args.words.now c.self.view_is c.self.invariant c.requires.absent c.requires.least c.requires.most c.deref_mut.ensures.value c.deref_mut-2.ensures.value (omega arith) (omega arith) c.store-end.ensures.end c.store-end.ensures.tags c.store-end.ensures.words)
    ∙ ap (loaded c.args.m c.args.words.now) c.self.view_is

pub returns-clause-valid : goal.returns-clause-valid
returns-clause-valid c =
    IsCache-after_load c.self.inside _ _ c.store-end.result c.args.m c.args.words.now (is_load c.self.inside c.args.self.now c.deref_mut.result.now c.store-end.new.tags c.deref_mut-2.result.now c.store-end.new.ring c.store-end.result c.args.m c.args.words.now c.self.view_is c.self.invariant c.requires.absent c.requires.least c.requires.most c.deref_mut.ensures.value c.deref_mut-2.ensures.value (omega arith) (omega arith) c.store-end.ensures.end c.store-end.ensures.tags c.store-end.ensures.words)
