use Rattle.std.proofs.Common.{◌≡◌, ◌++◌, ◌∷◌, [], ◌+◌, ℕ, List, length, append_assoc, sym, ap, ◌∙◌, arith}
use Rattle.std.specs.List.{enumerate_from}
use Rattle.std.proofs.lemmas.List.FromFn.{length-enumerate_from}
use Rattle.image_builder.proofs.ListLemmas.{flat_more, flat_whole, enumerated_first}
use Rattle.image_words.proofs.ObjectLemmas.{core_count, string_words, string_size, strings_joined}
use Rattle.image_words.proofs.objects.add_string_sizes.Goals as goal

pub loop-string-preserved : goal.loop-string-preserved
loop-string-preserved c =
    λ cs resolved.
    let strings = c.args.strings.now in
    let i = c.loop-string.string in
    let units = c.at-units.result.now in
    let old = c.loop-string.sizes.items in
    let count = c.in_ok-count.ensures in
    let sum = c.in_ok-add.ensures in
    let first : c.in_ok-add.field-0 ≡ 2 + length units = omega (arith, count, sum) in
    let pushed = c.in_ok-push-2.ensures.items ∙ (ap (λ (xs : List ℕ). xs ++ 2 ∷ []) c.in_ok-push.ensures.items
    ∙ (append_assoc old (c.in_ok-add.field-0 ∷ []) (2 ∷ [])
    ∙ (ap (λ (n : ℕ). old ++ n ∷ 2 ∷ []) first
    ∙ ap (λ (xs : List ℕ). old ++ xs) (sym (string_size cs i units (core_count cs resolved)))))) in
    flat_more (string_words cs) (enumerate_from 0 strings) i (i, units) c.args.sizes.now.items old c.push-in-loop-string.new.self.items (enumerated_first strings i units c.at-units.ensures) (c.loop-string.invariant cs resolved) pushed

pub returns : goal.returns
returns c =
    λ cs resolved.
    let strings = c.args.strings.now in
    let all = enumerate_from 0 strings in
    let test = c.loop-string-test.false in
    let end = c.loop-string.auto.string-end in
    let count = c.count-string-end.ensures.count in
    let long = length-enumerate_from 0 strings in
    flat_whole (string_words cs) all c.loop-string.string c.args.sizes.now.items c.loop-string.sizes.items (omega (arith, test, end, count, long)) (c.loop-string.invariant cs resolved)
    ∙ ap (λ (xs : List ℕ). c.args.sizes.now.items ++ xs) (strings_joined cs all)
