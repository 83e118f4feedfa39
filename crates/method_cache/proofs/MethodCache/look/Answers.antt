use Rattle.std.proofs.Common.{Bool, ◌↔◌, IsTrue, ap, sym, subst, ◌∙◌}
use Rattle.std.specs.Prelude.{Contains}
use Rattle.method_cache.specs.Contents.{is_cached, methods_of}
use Rattle.method_cache.proofs.Lookups.{is_cached-by}
use Rattle.method_cache.proofs.Occupied.{member_from_found, found_from_member}
use Rattle.method_cache.proofs.MethodCache.look.Goals as goal

pub returns-clause-value : goal.returns-clause-value
returns-clause-value c =
    c.is_some.ensures
    ∙ sym (is_cached-by c.self.inside c.self.invariant c.args.m c.find.result c.deref.result.now c.deref.ensures.value c.find.ensures.found c.find.ensures.same c.find.ensures.absent)
    ∙ ap (is_cached c.args.m) c.self.view_is

pub returns-clause-member : goal.returns-clause-member
returns-clause-member c =
    let now = c.args.self.now in
    let P : Bool → Type 0 = λ b. IsTrue b ↔ Contains (methods_of now) c.args.m in
    subst P (sym (returns-clause-value c)) (member_from_found c.args.m now.contents, found_from_member c.args.m now.contents)
