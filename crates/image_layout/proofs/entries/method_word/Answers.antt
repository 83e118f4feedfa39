use Rattle.std.proofs.Common.{Option, sym, ap}
use Rattle.lists.specs.Lists.{onto}
use Rattle.class_lookup.specs.Lookup.{Place}
use Rattle.program_tables.specs.Instructions.{signature_in}
use Rattle.program_tables.specs.Operands.{class_named, method_named}
use Rattle.image_words.specs.Pools.{method_word}
use Rattle.image_builder.proofs.ListLemmas.{get_below}
use Rattle.image_layout.proofs.EntryLemmas.{class_below, method_class, method_there, method_called}
use Rattle.image_layout.proofs.entries.method_word.Goals as goal

pub slot_number-slot-requires-clause-class : goal.slot_number-slot-requires-clause-class
slot_number-slot-requires-clause-class c =
    let cs = c.args.program.now in
    let k = get_below cs c.args.class c.requires.class in
    let class = method_class cs k.0 c.args.owner c.args.member c.method_found.result c.in-Some.found (c.method_found.ensures.found k.0 k.1) c.in-Some.is in
    class_below cs k.0 c.args.owner c.in-Some.found.0 class

pub returns-in_ok-word-in-Some : goal.returns-in_ok-word-in-Some
returns-in_ok-word-in-Some c = λ k at.
    let cs = c.args.program.now in
    let found = c.in-Some.found in
    let class = method_class cs k c.args.owner c.args.member c.method_found.result found (c.method_found.ensures.found k at) c.in-Some.is in
    let there = method_there cs k c.args.owner c.args.member c.method_found.result _ (c.method_found.ensures.found k at) c.in-Some.is in
    method_called cs (class_named cs k c.args.owner) (onto (signature_in k.pool c.args.member) (method_named cs k c.args.owner)) found.0 found.1 c.in_ok-word-in-Some.word c.slot_number-slot.result class there
    c.in_ok-word-in-Some.ensures c.slot_number-slot.ensures

pub returns-in-None : goal.returns-in-None
returns-in-None c = λ k at.
    let cs = c.args.program.now in
    let none = method_there cs k c.args.owner c.args.member c.method_found.result _ (c.method_found.ensures.found k at) c.in-None.is in
    sym (ap (λ (m : Option Place). method_word cs (class_named cs k c.args.owner) m) none)
