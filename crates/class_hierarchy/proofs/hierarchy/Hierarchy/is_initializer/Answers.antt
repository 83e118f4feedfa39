use Rattle.std.proofs.Common.{List, sym, ap, ◌∙◌, arith}
use Rattle.std.proofs.lemmas.Option.{slice_get_within}
use Rattle.class_pool.specs.declared.class.ClassFile.{ClassFile}
use Rattle.descriptors.specs.Names.{is_instance_initializer}
use Rattle.lists.proofs.Lemmas.{some_same}
use Rattle.class_lookup.specs.Symbols.{symbol, texts}
use Rattle.class_hierarchy.proofs.Naming.{symbol_below}
use Rattle.class_hierarchy.proofs.hierarchy.Hierarchy.is_initializer.Goals as goal

pub returns-then-name-symbol_count : goal.returns-then-name-symbol_count
returns-then-name-symbol_count c = λ s a.
    let cs = c.self.inside.classes in
    let at = symbol_below cs s.name c.args.name (ap (λ (x : List ClassFile). symbol x s.name) c.self.view_is ∙ a) in
    c.is_instance_initializer.ensures ∙ ap is_instance_initializer (some_same c.text.result.now at.0 (sym c.text.ensures.text ∙ at.1) ∙ sym at.2)

pub returns-else-name-symbol_count : goal.returns-else-name-symbol_count
returns-else-name-symbol_count c = λ s a.
    let cs = c.self.inside.classes in
    let at = symbol_below cs s.name c.args.name (ap (λ (x : List ClassFile). symbol x s.name) c.self.view_is ∙ a) in
    let lt = slice_get_within (texts cs) c.args.name at.0 at.1 in
    let past = c.if-name-symbol_count.false in
    let count = c.symbol_count.ensures in
    absurd (omega (arith, lt, past, count))
