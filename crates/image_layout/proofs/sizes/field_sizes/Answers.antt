use Rattle.std.proofs.Common.{◌≡◌, ◌++◌, [], List, Option, map, length, ap, ◌∙◌, arith}
use Rattle.std.specs.List.{filter_map, cons_option}
use Rattle.bytecode_model.specs.Types.{Declared}
use Rattle.class_lookup.specs.Lookup.{Place}
use Rattle.image_facts.specs.Words.{declared_words}
use Rattle.program_tables.specs.Numbers.{instance_fields}
use Rattle.program_tables.specs.Resolved.{declared_at}
use Rattle.image_builder.proofs.ListLemmas.{kept_more, take_whole}
use Rattle.image_layout.proofs.sizes.field_sizes.Goals as goal

pub loop-index-preserved : goal.loop-index-preserved
loop-index-preserved c =
    let cs = c.args.program.now in
    let old = c.loop-index.sizes.items in
    let pushed = c.in_ok-push_words.ensures ∙ ap (λ (o : Option Declared). old ++ map declared_words (cons_option o [])) c.field_type.ensures in
    kept_more declared_words (declared_at cs) (instance_fields cs c.args.class) c.loop-index.index c.instance_field-place.result old c.push_words.new.sizes.items c.instance_field-place.ensures c.loop-index.invariant pushed

pub returns : goal.returns
returns c =
    let cs = c.args.program.now in
    let test = c.loop-index-test.false in
    let end = c.loop-index.auto.index-end in
    let count = c.instance_field_count-index-end.ensures in
    let all : length (instance_fields cs c.args.class) ≡ c.loop-index.index = omega (arith, test, end, count) in
    c.loop-index.invariant ∙ ap (λ (fs : List Place). map declared_words (filter_map (declared_at cs) fs)) (take_whole (instance_fields cs c.args.class) c.loop-index.index all)
