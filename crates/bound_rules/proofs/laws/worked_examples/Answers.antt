use Rattle.bound_rules.proofs.Examples.{computed, return_sections, call_sections}
use Rattle.bound_rules.proofs.Sampling.{region_sections}
use Rattle.bound_rules.proofs.Certifying.{return_certificates, refused_bounds}
use Rattle.bound_rules.proofs.laws.worked_examples.Goals as goal

pub returns : goal.returns
returns c = record { computed = computed; return_sections = return_sections; call_sections = call_sections; region_sections = region_sections; return_certificates = return_certificates; refused_bounds = refused_bounds }
