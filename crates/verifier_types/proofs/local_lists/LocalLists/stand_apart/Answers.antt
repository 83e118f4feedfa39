use Rattle.std.proofs.Common.{◌≡◌, ap, length, subst, inl, inr, rules, arith}
use Rattle.std.specs.Prelude.{IfSome}
use Rattle.persistent_lists.specs.Answers.{difference}
use Rattle.program_tables.specs.Resolved.{resolved}
use Rattle.bytecode_typing.specs.Tests.{all_two}
use Rattle.bytecode_typing.specs.Assignable.{is_assignable}
use Rattle.verifier_types.specs.Locals.{lists_seen, types_at}
use Rattle.verifier_types.proofs.ComparedLemmas.{all_passed}
use Rattle.verifier_types.proofs.local_lists.LocalLists.stand_apart.Goals as goal

pub passes_where_unlike-requires-clause-known : goal.passes_where_unlike-requires-clause-known
passes_where_unlike-requires-clause-known c = λ k d lt i x y gx gy. elim (c.self.invariant.1 k d lt i x y gx gy) [
  | inl same ↦ inl same
  | inr stands ↦ inr (difference x y, stands)
]

pub returns-clause-answer : goal.returns-clause-answer
returns-clause-answer c =
    subst (λ t. IfSome c.passes_where_unlike.result (λ r. r ≡ all_two (is_assignable (resolved t.classes)) (types_at (lists_seen t) c.args.first) (types_at (lists_seen t) c.args.second))) c.self.view_is
    (all_passed c.self.inside.classes.now (let some = ap length c.classes.ensures in omega (arith, c.if-class_count-eq0.false, c.class_count.ensures, some)) _ c.self.inside.types.keys c.self.inside.lists c.args.first c.args.second c.self.invariant.0 (λ d r p. search rules) c.passes_where_unlike.result c.passes_where_unlike.ensures.passed)
