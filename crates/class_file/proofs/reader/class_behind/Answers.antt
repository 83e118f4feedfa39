use Rattle.std.proofs.Common.{◌≡◌, ℕ, List, true, false, drop, sym, subst, ◌∙◌}
use Rattle.class_pool.specs.declared.class.ClassFile.{ClassFile}
use Rattle.class_file.specs.InsideGrammar.{IsInsideOf}
use Rattle.class_rules.specs.Rules.{FollowsRules}
use Rattle.class_file.proofs.ClassLaws.{behind_found, behind_read, tail_is}
use Rattle.class_file.proofs.reader.class_behind.Goals as goal

pub returns-in-Ok-true-clause-found : goal.returns-in-Ok-true-clause-found
returns-in-Ok-true-clause-found c =
    let class : ClassFile = c.in_ok-class.class in
    let inside : IsInsideOf c.args.minor c.args.major c.in_ok-pool.pool (drop c.in_ok-pool.taken c.args.bytes.now) class =
    subst (λ (b : List ℕ). IsInsideOf c.args.minor c.args.major c.in_ok-pool.pool b class) (sym (tail_is c.in_ok-pool.taken c.args.bytes.now)) c.in_ok-class.ensures.found in
    behind_found c.args.minor c.args.major c.args.bytes.now c.in_ok-pool.pool c.in_ok-pool.taken class c.in_ok-pool.ensures.found inside (c.in-Ok-true.ensures.0 c.in-Ok-true.field-0-test)

pub returns-in-Ok-false-clause-only : goal.returns-in-Ok-false-clause-only
returns-in-Ok-false-clause-only c = λ other is.
    let there : IsInsideOf c.args.minor c.args.major c.in_ok-pool.pool (drop c.in_ok-pool.taken c.args.bytes.now) other =
    behind_read c.args.minor c.args.major c.args.bytes.now c.in_ok-pool.pool c.in_ok-pool.taken other is (c.in_ok-pool.ensures.only other.pool _ is.pool is.spelling) in
    let inside = subst (λ (b : List ℕ). IsInsideOf c.args.minor c.args.major c.in_ok-pool.pool b other) (tail_is c.in_ok-pool.taken c.args.bytes.now) there in
    let same : c.in_ok-class.class ≡ other = c.in_ok-class.ensures.only other inside in
    let follows : c.in-Ok-false.field-0 ≡ true = c.in-Ok-false.ensures.1 (subst FollowsRules (sym same) is.rules) in
    absurd (let f : true ≡ false = sym follows ∙ c.in-Ok-false.field-0-test in cc)
