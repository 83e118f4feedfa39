use Rattle.std.proofs.Common.{◌≡◌, true, false, sym, ◌∙◌}
use Rattle.verifier_types.specs.Seen.{type_seen}
use Rattle.verifier_types.specs.Locals.{lists_seen, locals_seen}
use Rattle.verifier_types.proofs.NumberLemmas.{on_ok}
use Rattle.verifier_types.proofs.WrittenLemmas.{stores_long, stores_over, stores_short}
use Rattle.verifier_types.proofs.locals.Locals.store_before.Goals as goal
use Rattle.verifier_types.proofs.locals.Locals.store_before.Goals.{then-is_long, else-is_long}

pub returns-then-is_long-2-clause-stored : goal.returns-then-is_long-2-clause-stored
returns-then-is_long-2-clause-stored c =
    let before = locals_seen (lists_seen c.args.lists.now) c.args.self.now in
    let after = locals_seen (lists_seen c.store_both.new.lists) c.store_both.new.self in
    on_ok c.store_both.result _ _
    (λ h. elim c.if-is_long.branch [
      | then-is_long w ↦ stores_long before after c.args.index (type_seen c.args.item) (type_seen c.args.old) c.requires.here c.requires.behind (sym c.is_long.ensures ∙ w.if-is_long.true) h
      | else-is_long w ↦
          stores_over before after c.args.index (type_seen c.args.item) (type_seen c.args.old) c.requires.here c.requires.behind
          (sym c.is_long.ensures ∙ w.if-is_long.false) (sym w.is_long-else-is_long.ensures ∙ (sym w.value-is ∙ c.if-is_long-2.true)) h
    ])
    c.store_both.ensures.written

pub returns-else-is_long-2-clause-stored : goal.returns-else-is_long-2-clause-stored
returns-else-is_long-2-clause-stored c =
    let before = locals_seen (lists_seen c.args.lists.now) c.args.self.now in
    let after = locals_seen (lists_seen c.write.new.lists) c.write.new.self in
    on_ok c.write.result _ _
    (λ h. elim c.if-is_long.branch [
      | then-is_long w ↦ absurd (let f : true ≡ false = sym w.if-is_long.true ∙ (sym w.value-is ∙ c.if-is_long-2.false) in cc)
      | else-is_long w ↦
          stores_short before after c.args.index (type_seen c.args.item) (type_seen c.args.old) c.requires.here c.requires.behind
          (sym c.is_long.ensures ∙ w.if-is_long.false) (sym w.is_long-else-is_long.ensures ∙ (sym w.value-is ∙ c.if-is_long-2.false)) h
    ])
    c.write.ensures.written
