use Rattle.std.proofs.Common.{◌≡◌, ◌++◌, ◌∷◌, [], ℕ, length, map, ap, ◌∙◌, arith}
use Rattle.std.specs.List.{range_with_len}
use Rattle.program_tables.specs.Operands.{string_object}
use Rattle.program_tables.specs.Numbers.{strings_of}
use Rattle.image_words.specs.Layout.{outline_of}
use Rattle.image_words.specs.Regions.{first_place}
use Rattle.image_builder.proofs.ListLemmas.{range_more}
use Rattle.image_layout.proofs.layout.string_places.Goals as goal

pub loop-string-preserved : goal.loop-string-preserved
loop-string-preserved c =
    let cs = c.args.program.now in
    let old = c.loop-string.places.items in
    range_more (λ n. first_place cs (outline_of cs) (string_object n)) c.loop-string.string [] old c.push.new.self.items c.loop-string.invariant
    (c.in_ok-push.ensures.items ∙ ap (λ (n : ℕ). old ++ n ∷ []) (c.object_place.ensures cs c.requires))

pub returns : goal.returns
returns c =
    let cs = c.args.program.now in
    let test = c.loop-string-test.false in
    let end = c.loop-string.auto.string-end in
    let count = c.count-string-end.ensures.count in
    let long = ap length c.strings.ensures in
    let all : c.loop-string.string ≡ length (strings_of cs) = omega (arith, test, end, count, long) in
    c.loop-string.invariant ∙ ap (λ (n : ℕ). map (λ n. first_place cs (outline_of cs) (string_object n)) (range_with_len 0 n)) all
