use Rattle.std.proofs.Common.{◌<◌, ◌≡◌, ◌↔◌, ℕ, Option, None, Some, ap, sym, subst, ◌∙◌, arith}
use Rattle.std.proofs.lemmas.List.{get_or_read}
use Rattle.method_cache.specs.Contents.{Cache, tag_of, Occupies, IsCache}
use Rattle.method_cache.specs.Ring.{method_of}
use Rattle.method_cache.proofs.Lookups.{tag_of-cache_of}
use Rattle.method_cache.proofs.Occupied.{tag_from_occupied, occupied_from_tag}
use Rattle.method_cache.proofs.MethodCache.tag.Goals as goal

pub returns-clause-value : goal.returns-clause-value
returns-clause-value c =
    let a = c.self.inside in
    let ring = c.self.invariant in
    let P : Cache → Type 0 = λ k. c.args.block < k.blocks in
    let below : c.args.block < a.blocks = subst P (sym c.self.view_is) c.requires in
    c.method_in.ensures
    ∙ ap method_of (get_or_read a.tags.items c.args.block _ (omega (arith, ring.tags)) c.index.ensures None)
    ∙ tag_of-cache_of a ring c.args.block below
    ∙ ap (tag_of c.args.block) c.self.view_is

pub returns-clause-occupied : goal.returns-clause-occupied
returns-clause-occupied c = λ m.
    let now = c.args.self.now in
    let ring = c.self.invariant in
    let valid : IsCache now = subst IsCache c.self.view_is ring.holds in
    let P : Option ℕ → Type 0 = λ o. (o ≡ Some m) ↔ Occupies c.args.block m now in
    subst P (sym (returns-clause-value c)) (occupied_from_tag now valid c.args.block m c.requires, tag_from_occupied now valid c.args.block m c.requires)
