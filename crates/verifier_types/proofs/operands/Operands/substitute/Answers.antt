use Rattle.std.proofs.Common.{rules, sym, ◌∙◌, ◌≡◌, ap, map}
use Rattle.std.specs.Vec.{with_items}
use Rattle.std.proofs.lemmas.List.{with_items_is, places}
use Rattle.bytecode_typing.specs.Types.{substituted}
use Rattle.verifier_types.specs.Seen.{type_seen, types_seen}
use Rattle.verifier_types.proofs.OperandLemmas.{words_substituted, stack_substituted}
use Rattle.verifier_types.proofs.operands.Operands.substitute.Goals as goal

pub invariant_of-self : goal.invariant_of-self
invariant_of-self c =
    let is : (with_items c.args.self.now.items c.substitute.new.types).items ≡ c.substitute.new.types = with_items_is c.args.self.now.items c.substitute.new.types (search (rules, places)) in
    record {
      counted = c.args.self.now.counted ∙ sym (words_substituted c.args.old c.args.new c.args.self.now.items.items (with_items c.args.self.now.items c.substitute.new.types).items c.requires
          (ap types_seen is ∙ (c.substitute.ensures ∙ ap (λ l. map (substituted (type_seen c.args.old) (type_seen c.args.new)) (types_seen l)) c.deref_mut.ensures.value)));
    }

pub returns : goal.returns
returns c =
    let is : (with_items c.args.self.now.items c.substitute.new.types).items ≡ c.substitute.new.types = with_items_is c.args.self.now.items c.substitute.new.types (search (rules, places)) in
    stack_substituted c.args.old c.args.new c.args.self.now.items.items (with_items c.args.self.now.items c.substitute.new.types).items
    (ap types_seen is ∙ (c.substitute.ensures ∙ ap (λ l. map (substituted (type_seen c.args.old) (type_seen c.args.new)) (types_seen l)) c.deref_mut.ensures.value))
