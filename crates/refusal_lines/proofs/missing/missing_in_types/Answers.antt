use Rattle.std.proofs.Common.{refl}
use Rattle.program_tables.specs.Kinds.{class_in_type}
use Rattle.refusal_lines.specs.Entries.{missing}
use Rattle.refusal_lines.proofs.NamingLemmas.{still_none, found_here}
use Rattle.refusal_lines.proofs.missing.missing_in_types.Goals as goal

pub loop-of-init : goal.loop-of-init
unfolding missing
loop-of-init c = refl

pub returns-in-Some : goal.returns-in-Some
returns-in-Some c =
    found_here c.args.known.now.before.now c.args.known.now.files.now class_in_type c.args.types.now c.loop-of.of-index c.of-item.result c.of-item.result c.in-Some.name.now
    c.loop-of-test.true c.of-item.is c.loop-of.invariant c.in-Some.ensures

pub loop-of-preserved : goal.loop-of-preserved
loop-of-preserved c =
    still_none c.args.known.now.before.now c.args.known.now.files.now class_in_type c.args.types.now c.loop-of.of-index c.of-item.result c.of-item.result
    c.loop-of-test.true c.of-item.is c.loop-of.invariant c.in_default.ensures
