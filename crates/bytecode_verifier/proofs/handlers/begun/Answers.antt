use Rattle.std.proofs.Common.{rules, subst, sym, List}
use Rattle.std.specs.Prelude.{nat_le}
use Rattle.std.specs.List.Sorted.{IsPartitionPoint}
use Rattle.std.specs.Prelude.{◌≡◌, true, false}
use Rattle.std.specs.List.Sorted.{IsNonDecreasingBy}
use Rattle.std.proofs.lemmas.List.Sorted.{IsPartitionPoint-from_clause, IsPartitionedBy-leb}
use Rattle.program_tables.specs.declared.operand.Handler.{Handler}
use Rattle.bytecode_verifier.proofs.handlers.begun.Goals as goal

pub returns-clause-point : goal.returns-clause-point
returns-clause-point c =
    subst (λ (l : List Handler). IsPartitionPoint (λ h. nat_le h.start c.args.place ≡ true) (λ h. nat_le h.start c.args.place ≡ false) l c.partition_point.result) c.deref.ensures.value
    (IsPartitionPoint-from_clause (λ h. nat_le h.start c.args.place) c.deref.result.now _ c.partition_point.ensures.partitioned
    (IsPartitionedBy-leb (λ h. h.start) c.deref.result.now c.args.place (subst (λ (l : List Handler). IsNonDecreasingBy (λ h. h.start) l) (sym c.deref.ensures.value) c.args.handlers.now.rising)) (λ a r q k. search rules))
