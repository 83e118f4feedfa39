use Rattle.std.proofs.Common.{◌≡◌, ℕ, ℤ, ◌+◌, List, length, Option, sym, subst, arith}
use Rattle.program_tables.specs.Resolved.{resolved}
use Rattle.array_fields.specs.Lengths.{AreClassLengths, AreFieldLengths}
use Rattle.array_fields.proofs.Keeping.{classes_first, classes_more}
use Rattle.array_fields.proofs.lengths.class_lengths.Goals as goal

pub loop-class-init : goal.loop-class-init
loop-class-init c =
    let P = resolved c.args.program.now in
    subst (λ (xss : List (List (Option ℤ))). AreClassLengths P c.args.puts.now 0 xss) (sym c.new-lengths.ensures.items) (classes_first P c.args.puts.now)

pub loop-class-preserved : goal.loop-class-preserved
loop-class-preserved c =
    let P = resolved c.args.program.now in
    let puts = c.args.puts.now in
    let n = c.loop-class.class in
    let new = subst (λ (xs : List (Option ℤ)). AreFieldLengths P puts n xs) (sym c.new.ensures) c.in_ok-field_lengths.ensures in
    subst (λ (xss : List (List (Option ℤ))). AreClassLengths P puts (n + 1) xss) (sym c.in_ok-push.ensures.items) (classes_more P puts n _ _ c.loop-class.invariant new)

pub returns : goal.returns
returns c =
    let P = resolved c.args.program.now in
    let n = c.loop-class.class in
    let all : c.loop-class.class ≡ length c.args.program.now = (let e = c.class_count-class-end.ensures in let t = c.loop-class-test.false in let most = c.loop-class.auto.class-end in omega arith) in
    subst (λ (k : ℕ). AreClassLengths P c.args.puts.now k c.loop-class.lengths.items) all c.loop-class.invariant
