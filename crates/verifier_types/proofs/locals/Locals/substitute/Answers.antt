use Rattle.std.proofs.Common.{sym, ◌∙◌}
use Rattle.verifier_types.specs.Seen.{type_seen}
use Rattle.verifier_types.specs.Locals.{lists_seen, locals_seen}
use Rattle.verifier_types.proofs.TableLemmas.{more_lists}
use Rattle.verifier_types.proofs.SubstitutedLemmas.{all_initialized, fixed_after, substituted_after, none_left}
use Rattle.verifier_types.proofs.locals.Locals.substitute.Goals as goal

pub returns-then-is_initialized-clause-substituted : goal.returns-then-is_initialized-clause-substituted
returns-then-is_initialized-clause-substituted c = all_initialized (type_seen c.args.old) (type_seen c.args.new) (locals_seen (lists_seen c.args.lists.now) c.args.self.now) (sym c.is_initialized.ensures ∙ c.if-is_initialized.true)

pub loop-index-preserved : goal.loop-index-preserved
loop-index-preserved c =
    let before = locals_seen (lists_seen c.loop-index.lists) c.loop-index.self in
    let after = locals_seen (lists_seen c.substitute_at.new.lists) c.substitute_at.new.self in
    let h = c.in_ok-substitute_at.ensures in
    record {
      lists = more_lists c.args.lists.now c.loop-index.lists c.substitute_at.new.lists c.loop-index.invariant.lists h.lists;
      passed = fixed_after before after c.in-Some.index (type_seen c.args.old) (type_seen c.args.new) h.substituted c.loop-index.from c.loop-index.invariant.passed c.in-Some.ensures.found;
      same = substituted_after before after c.in-Some.index (type_seen c.args.old) (type_seen c.args.new) h.substituted ∙ c.loop-index.invariant.same;
    }

pub returns-clause-substituted : goal.returns-clause-substituted
returns-clause-substituted c =
    none_left (type_seen c.args.old) (type_seen c.args.new) (locals_seen (lists_seen c.args.lists.now) c.args.self.now) (locals_seen (lists_seen c.loop-index.lists) c.loop-index.self) c.loop-index.from
    c.loop-index.invariant.passed c.in_default.ensures.found c.loop-index.invariant.same
