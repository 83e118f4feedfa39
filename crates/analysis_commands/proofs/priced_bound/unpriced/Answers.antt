use Rattle.analysis_commands.proofs.PricedBounding.{plain_for}
use Rattle.analysis_commands.proofs.priced_bound.unpriced.Goals as goal

pub returns-in-Ok-clause-certificate : goal.returns-in-Ok-clause-certificate
returns-in-Ok-clause-certificate c facts =
    plain_for c.args.analysis.now c.args.root c.args.certificate c.in-Ok.plain facts c.requires.certificate c.in-Ok.ensures.same c.in-Ok.ensures.at_most c.in-Ok.ensures.met

pub returns-in-Ok-clause-grammar : goal.returns-in-Ok-clause-grammar
returns-in-Ok-clause-grammar c = c.in-Ok.ensures.grammar c.requires.grammar c.requires.certificate.version c.requires.certificate.kinds
