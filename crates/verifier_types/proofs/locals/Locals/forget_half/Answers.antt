use Rattle.std.proofs.Common.{sym, ◌∙◌}
use Rattle.verifier_types.specs.Seen.{type_seen}
use Rattle.verifier_types.specs.Locals.{lists_seen, locals_seen}
use Rattle.verifier_types.proofs.NumberLemmas.{on_ok}
use Rattle.verifier_types.proofs.TableLemmas.{is_there}
use Rattle.verifier_types.proofs.WrittenLemmas.{forgets_none, forgets, keeps, keeps_beyond}
use Rattle.verifier_types.proofs.locals.Locals.forget_half.Goals as goal

pub returns-then-index-eq0-clause-forgotten : goal.returns-then-index-eq0-clause-forgotten
returns-then-index-eq0-clause-forgotten c = forgets_none (locals_seen (lists_seen c.args.lists.now) c.args.self.now) c.args.index c.if-index-eq0.true

pub write-requires : goal.write-requires
write-requires c = is_there (locals_seen (lists_seen c.args.lists.now) c.args.self.now) _ (type_seen c.in-Some.item) c.in-Some.ensures

pub returns-in-Some-clause-forgotten : goal.returns-in-Some-clause-forgotten
returns-in-Some-clause-forgotten c =
    on_ok c.write.result _ _
    (λ h. h ∙ forgets (locals_seen (lists_seen c.args.lists.now) c.args.self.now) c.args.index (type_seen c.in-Some.item) c.if-index-eq0.false (sym c.in-Some.ensures) (sym c.is_long.ensures ∙ c.if-is_long.true))
    c.write.ensures.written

pub returns-in_default-clause-forgotten : goal.returns-in_default-clause-forgotten
returns-in_default-clause-forgotten c =
    keeps (locals_seen (lists_seen c.args.lists.now) c.args.self.now) c.args.index (type_seen c.in-Some.item) c.if-index-eq0.false (sym c.in-Some.ensures) (sym c.is_long.ensures ∙ c.if-is_long.false)

pub returns-in_default-2-clause-forgotten : goal.returns-in_default-2-clause-forgotten
returns-in_default-2-clause-forgotten c = keeps_beyond (locals_seen (lists_seen c.args.lists.now) c.args.self.now) c.args.index c.if-index-eq0.false (sym c.in_default.ensures)
