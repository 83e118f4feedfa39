use Rattle.std.proofs.Common.{◌++◌, List, ap, ◌∙◌}
use Rattle.class_pool.specs.declared.class.ClassFile.{ClassFile}
use Rattle.image_words.specs.Layout.{outline_of}
use Rattle.image_words.specs.Regions.{types_region, tables_region, interfaces_region, pools_region, methods_region}
use Rattle.image_layout.proofs.LayoutLemmas.{middle_joined}
use Rattle.image_layout.proofs.layout.add_middle.Goals as goal

pub returns : goal.returns
returns c =
    let cs = c.args.program.now in
    let pl = outline_of cs in
    let old = c.args.words.now.items in
    let types = c.in_ok-add_types.ensures ∙ ap (λ (ks : List ClassFile). old ++ types_region ks (outline_of ks)) c.hierarchy.ensures in
    middle_joined c.add_methods.result old c.add_types.new.words.items c.add_tables.new.words.items c.add_interfaces.new.words.items c.add_pools.new.words.items c.add_methods.new.words.items
    (types_region cs pl) (tables_region cs pl) (interfaces_region cs pl) (pools_region cs pl) (methods_region cs pl) types c.in_ok-add_tables.ensures c.in_ok-add_interfaces.ensures c.in_ok-add_pools.ensures c.add_methods.ensures
