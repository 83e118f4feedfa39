use Rattle.std.proofs.Common.{rules, arith}
use Rattle.class_rules.proofs.FormLemmas.{form_found}
use Rattle.class_rules.proofs.forms.form_in.Goals as goal

pub returns : goal.returns
returns c = form_found c.args.forms.now c.args.index c.from.result c.get.result (omega arith) (search rules) c.get.ensures.lookup.0 c.get.ensures.lookup.1
