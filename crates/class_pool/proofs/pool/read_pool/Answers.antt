use Rattle.std.proofs.Common.{arith}
use Rattle.std.proofs.lemmas.Result.{err_from_is_err_and}
use Rattle.class_pool.proofs.PoolLaws.{only_fault, no_pool, shorter, is_found, is_only}
use Rattle.class_pool.proofs.pool.read_pool.Goals as goal

pub returns-in_err-pool-clause-only : goal.returns-in_err-pool-clause-only
returns-in_err-pool-clause-only c =
    let p = err_from_is_err_and c.from_residual.result c.from_residual.ensures.1 in
    λ entries rest is spelling. rw (p.1, p.2) (only_fault c.in_err-pool.field-0.0 c.args.bytes.now entries rest is spelling c.in_err-pool.ensures)

pub returns-in_err-pool-clause-bad : goal.returns-in_err-pool-clause-bad
returns-in_err-pool-clause-bad c =
    let p = err_from_is_err_and c.from_residual.result c.from_residual.ensures.1 in
    rw (p.1, p.2) (λ bad entries n is. no_pool c.in_err-pool.field-0.0 c.args.bytes.now c.in_err-pool.ensures (cc) entries n is)

pub overflow_sub-result : goal.overflow_sub-result
overflow_sub-result c = shorter c.args.bytes.now c.in_ok-pool.pool c.in_ok-pool.rest.now (λ i. omega (arith, c.type_inv.bytes i)) c.in_ok-pool.ensures

pub returns-clause-found : goal.returns-clause-found
returns-clause-found c = is_found c.args.bytes.now c.in_ok-pool.pool c.in_ok-pool.rest.now (λ i. omega (arith, c.type_inv.bytes i)) c.in_ok-pool.ensures

pub returns-clause-only : goal.returns-clause-only
returns-clause-only c = λ entries rest is spelling. is_only c.args.bytes.now c.in_ok-pool.pool c.in_ok-pool.rest.now (λ i. omega (arith, c.type_inv.bytes i)) c.in_ok-pool.ensures entries rest is spelling
