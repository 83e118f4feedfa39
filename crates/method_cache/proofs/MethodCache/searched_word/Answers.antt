use Rattle.std.proofs.Common.{ap, sym, ◌∙◌}
use Rattle.method_cache.specs.Contents.{word_of}
use Rattle.method_cache.proofs.Lookups.{word_of-none, word_of-at, word_near}
use Rattle.method_cache.proofs.MethodCache.searched_word.Goals as goal

pub word_at-requires : goal.word_at-requires
word_at-requires c =
    word_near c.self.inside c.self.invariant c.args.i c.in-Some.extent c.deref.result.now c.deref-in-Some.result.now c.deref.ensures.value c.deref-in-Some.ensures.value c.in-Some.ensures.found

pub returns-in-Some : goal.returns-in-Some
returns-in-Some c =
    c.word_at.ensures
    ∙ sym (word_of-at c.self.inside c.self.invariant c.args.m c.args.i c.in-Some.extent c.deref.result.now c.deref-in-Some.result.now c.deref.ensures.value c.deref-in-Some.ensures.value c.in-Some.ensures.found c.in-Some.ensures.same)
    ∙ ap (word_of c.args.m c.args.i) c.self.view_is

pub returns-in-None : goal.returns-in-None
returns-in-None c =
    sym (word_of-none c.self.inside c.self.invariant c.args.m c.args.i c.deref.result.now c.deref.ensures.value c.in-None.ensures.absent)
    ∙ ap (word_of c.args.m c.args.i) c.self.view_is
