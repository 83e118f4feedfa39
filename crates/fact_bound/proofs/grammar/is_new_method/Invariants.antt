use Rattle.std.proofs.Common.{ℕ, ◌<◌, get_or}
use Rattle.std.specs.Prelude.{◌≢◌}
use Rattle.certificates.specs.declared.cert.CertSection.{CertSection}
use Rattle.fact_bound.proofs.grammar.is_new_method.Given as goal

abbrev pub invariant-loop-k : goal.invariant-loop-k
invariant-loop-k l = (j : ℕ) (d : CertSection) → j < l.k → (get_or l.sections j d).method ≢ (get_or l.sections l.i d).method
