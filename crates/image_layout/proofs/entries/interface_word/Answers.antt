use Rattle.std.proofs.Common.{ℕ, Option, sym, ap, ◌∙◌}
use Rattle.std.specs.Prelude.{unwrap_or}
use Rattle.lists.specs.Lists.{onto, index_of}
use Rattle.class_lookup.specs.Lookup.{same_place}
use Rattle.program_tables.specs.Instructions.{signature_in}
use Rattle.program_tables.specs.Operands.{method_named}
use Rattle.image_words.specs.Pools.{interface_word}
use Rattle.image_layout.proofs.EntryLemmas.{method_there, interface_called}
use Rattle.image_layout.proofs.entries.interface_word.Goals as goal

pub returns-in_ok-word-in-Some : goal.returns-in_ok-word-in-Some
returns-in_ok-word-in-Some c = λ k at.
    let cs = c.args.program.now in
    let m = c.in-Some.found.1 in
    let there = method_there cs k c.args.owner c.args.member c.method_found.result _ (c.method_found.ensures.found k at) c.in-Some.is in
    let number = c.unwrap_or.ensures ∙ ap (λ (o : Option ℕ). unwrap_or o 0) (c.index_of_place-number.ensures ∙ ap (index_of (same_place m)) (c.deref.ensures.value ∙ c.requires.outline.interface_methods)) in
    interface_called cs (onto (signature_in k.pool c.args.member) (method_named cs k c.args.owner)) m c.in_ok-word-in-Some.word c.unwrap_or.result there c.in_ok-word-in-Some.ensures number

pub returns-in-None : goal.returns-in-None
returns-in-None c = λ k at.
    let cs = c.args.program.now in
    let none = method_there cs k c.args.owner c.args.member c.method_found.result _ (c.method_found.ensures.found k at) c.in-None.is in
    sym (ap (interface_word cs) none)
