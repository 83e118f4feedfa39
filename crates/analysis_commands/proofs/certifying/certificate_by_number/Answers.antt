use Rattle.std.proofs.Common.{◌≡◌}
use Rattle.analysis_commands.proofs.Bounding.{certified, too_large}
use Rattle.analysis_commands.proofs.certifying.certificate_by_number.Goals as goal

pub certificate_of_asked-requires-clause-ready : goal.certificate_of_asked-requires-clause-ready
certificate_of_asked-requires-clause-ready c = record { ready = c.in-Ok.ensures.asked.ready; known = c.in-Ok.ensures.asked.known }

pub returns-in-Ok-clause-certificate : goal.returns-in-Ok-clause-certificate
returns-in-Ok-clause-certificate c =
    certified c.args.analysis.now (λ m. m ≡ c.args.method) c.in-Ok.found c.certificate_of_asked.result c.in-Ok.ensures.asked c.certificate_of_asked.ensures.certificate

pub returns-in-Ok-clause-cause : goal.returns-in-Ok-clause-cause
returns-in-Ok-clause-cause c =
    too_large c.args.analysis.now (λ m. m ≡ c.args.method) c.in-Ok.found c.certificate_of_asked.result c.in-Ok.ensures.asked c.certificate_of_asked.ensures.cause
