use Rattle.bound_causes.specs.Naming.{IsNamedBy}
use Rattle.analysis_commands.proofs.Bounding.{too_large}
use Rattle.analysis_commands.proofs.PricedBounding.{priced_asked}
use Rattle.analysis_commands.proofs.priced_bound.certificate_by.Goals as goal

pub priced_certificate_of-requires-clause-ready : goal.priced_certificate_of-requires-clause-ready
priced_certificate_of-requires-clause-ready c = record { ready = c.in-Ok.ensures.asked.ready; known = c.in-Ok.ensures.asked.known }

pub returns-in-Ok-clause-certificate : goal.returns-in-Ok-clause-certificate
returns-in-Ok-clause-certificate c =
    priced_asked c.args.analysis.now c.args.facts.now (IsNamedBy c.args.analysis.now.flow c.args.name.now) c.in-Ok.found c.priced_certificate_of.result c.in-Ok.ensures.asked c.priced_certificate_of.ensures.certificate

pub returns-in-Ok-clause-cause : goal.returns-in-Ok-clause-cause
returns-in-Ok-clause-cause c =
    too_large c.args.analysis.now (IsNamedBy c.args.analysis.now.flow c.args.name.now) c.in-Ok.found c.priced_certificate_of.result c.in-Ok.ensures.asked c.priced_certificate_of.ensures.cause
