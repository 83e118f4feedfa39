use Rattle.std.proofs.Common.{ap, sym, ◌∙◌}
use Rattle.method_cache.specs.Contents.{is_cached}
use Rattle.method_cache.proofs.Lookups.{is_cached-found, is_cached-none}
use Rattle.method_cache.proofs.MethodCache.select.Goals as goal

pub returns-in-Some-clause-found : goal.returns-in-Some-clause-found
returns-in-Some-clause-found c =
    sym (is_cached-found c.self.inside c.self.invariant c.args.m c.in-Some.extent c.deref.result.now c.deref.ensures.value c.in-Some.ensures.found c.in-Some.ensures.same)
    ∙ ap (is_cached c.args.m) c.self.view_is

pub returns-in-None-clause-found : goal.returns-in-None-clause-found
returns-in-None-clause-found c =
    sym (is_cached-none c.self.inside c.self.invariant c.args.m c.deref.result.now c.deref.ensures.value c.in-None.ensures.absent)
    ∙ ap (is_cached c.args.m) c.self.view_is
