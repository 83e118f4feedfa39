use Rattle.std.proofs.Common.{◌≡◌, ℕ, ◌≤◌, ◌-◌, length, take, sym, ap, ◌∙◌, subst, arith}
use Rattle.verifier_types.specs.Locals.{filled}
use Rattle.bytecode_verifier.specs.Listed.{IsListed, words_of}
use Rattle.bytecode_verifier.proofs.ListedLemmas.{chopped, starts_many, fewer_words}
use Rattle.bytecode_verifier.proofs.names.chop_locals.Goals as goal

pub returns-clause-lists : goal.returns-clause-lists
returns-clause-lists c = c.in_ok-list.ensures.lists

pub returns-clause-locals : goal.returns-clause-locals
returns-clause-locals c = λ types many h.
    let t = c.args.lists.now in
    let kept = length types - c.args.count in
    let starts = starts_many t c.args.current.now types h in
    let long = c.len.ensures in
    let few = c.saturating_sub-kept.ensures in
    let from = c.from.ensures in
    let same : c.saturating_sub-kept.result ≡ kept = omega (arith, starts, long, few, from) in
    let below : kept ≤ length types = omega arith in
    let first : c.start_of-from.result ≡ length (words_of (take kept types)) = c.start_of-from.ensures t types h (subst (λ n. n ≤ length types) (sym same) below) ∙ ap (λ n. length (words_of (take n types))) same in
    chopped t c.forget_words.new.lists c.args.current.now _ types kept below h c.in_ok-list.ensures.lists (c.truncate.ensures.items ∙ ap (λ n. take n c.args.current.now.starts.items) same) first
    (subst (λ (n : ℕ). IsListed c.forget_words.new.lists c.in_ok-list.list (filled t.max_locals (take n (words_of types)))) first (c.in_ok-list.ensures.list (words_of types) h.fits (sym h.words) (fewer_words types kept _ _ first h.words) h.list))
