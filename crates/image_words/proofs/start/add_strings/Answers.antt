use Rattle.std.proofs.Common.{◌<◌, ◌++◌, ℕ, List, length, ap, ◌∙◌, arith}
use Rattle.std.specs.List.{enumerate_from, flat_map}
use Rattle.std.proofs.lemmas.List.FromFn.{length-enumerate_from}
use Rattle.program_tables.specs.Resolved.{string_objects}
use Rattle.image_words.specs.Layout.{outline_of}
use Rattle.image_words.specs.Regions.{objects_image}
use Rattle.image_builder.proofs.ListLemmas.{get_below, flat_more, flat_whole, enumerated_first}
use Rattle.image_words.proofs.StartLemmas.{string_part, string_parts}
use Rattle.image_words.proofs.start.add_strings.Goals as goal

pub loop-string-preserved : goal.loop-string-preserved
loop-string-preserved c =
    λ cs is_resolved o.
    let strings = c.args.strings.now in
    let n = c.loop-string.string in
    let test = c.loop-string-test.true in
    let count = c.count-string-end.ensures.count in
    let lt : n < length strings = omega (arith, test, count) in
    let u = get_below strings n lt in
    flat_more (string_part cs) (enumerate_from 0 strings) n (n, u.0) c.args.words.now.items c.loop-string.words.items c.add_string.new.words.items (enumerated_first strings n u.0 u.1) (c.loop-string.invariant cs is_resolved o)
    (c.in_ok-add_string.ensures cs is_resolved o u.0 u.1)

pub returns : goal.returns
returns c =
    λ cs is_resolved same o.
    let strings = c.args.strings.now in
    let before = c.args.words.now.items in
    let test = c.loop-string-test.false in
    let end = c.loop-string.auto.string-end in
    let count = c.count-string-end.ensures.count in
    let long = length-enumerate_from 0 strings in
    flat_whole (string_part cs) (enumerate_from 0 strings) c.loop-string.string before c.loop-string.words.items (omega (arith, test, end, count, long)) (c.loop-string.invariant cs is_resolved o)
    ∙ (ap (λ (ws : List ℕ). before ++ ws) (string_parts cs (enumerate_from 0 strings))
    ∙ ap (λ (ss : List (List ℕ)). before ++ objects_image cs (outline_of cs) (flat_map string_objects (enumerate_from 0 ss))) same)
