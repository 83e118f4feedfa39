use Rattle.source_places.proofs.MethodsLemmas.BodyLemmas.{coded_is}
use Rattle.source_headers.proofs.ToldLemmas.{source_at_places, source_in_code}
use Rattle.source_headers.proofs.methods.source_where.Goals as goal

pub source_of-requires : goal.source_of-requires
source_of-requires c = coded_is c.methods_stand_by_number.ensures c.args.program.now c.args.number c.requires.coded

pub returns-clause-source : goal.returns-clause-source
returns-clause-source c =
    source_at_places c.methods_stand_by_number.ensures c.args.program.now c.args.number c.args.shape.now c.requires.shape c.source_of.result c.source_of.ensures

pub returns-clause-within : goal.returns-clause-within
returns-clause-within c = source_in_code c.methods_stand_by_number.ensures c.args.program.now c.args.number c.requires.coded c.source_of.result c.source_of.ensures
