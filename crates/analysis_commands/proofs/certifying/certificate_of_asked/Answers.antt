use Rattle.analysis_commands.proofs.Bounding.{certified_for}
use Rattle.analysis_commands.proofs.certifying.certificate_of_asked.Goals as goal

pub certify-requires-clause-distinct : goal.certify-requires-clause-distinct
certify-requires-clause-distinct c = let p = c.requires.program in (c.requires.ready.ready p.0 p.1).order.methods.distinct

pub certify-requires-clause-ready : goal.certify-requires-clause-ready
certify-requires-clause-ready c P of = let ready = c.requires.ready.ready P of in record { order = ready.order; reducible = ready.reducible; lines = ready.lines }

pub returns-clause-certificate : goal.returns-clause-certificate
returns-clause-certificate c = certified_for c.args.analysis.now c.args.found.now.root c.certify.result c.certify.ensures.grammar c.certify.ensures.meets c.certify.ensures.kinds c.certify.ensures.empty c.certify.ensures.printed c.certify.ensures.kept
