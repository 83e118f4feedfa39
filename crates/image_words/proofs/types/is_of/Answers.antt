use Rattle.std.proofs.Common.{◌-◌, sym, ◌∙◌, arith}
use Rattle.program_tables.specs.Resolved.{resolved}
use Rattle.image_words.proofs.BaseLemmas.{fewer_dimensions, more_dimensions}
use Rattle.image_words.proofs.types.is_of.Goals as goal

pub returns-then-kind-other : goal.returns-then-kind-other
returns-then-kind-other c = sym (fewer_dimensions (resolved c.args.classes.now) c.args.kind.base c.args.other.base c.args.kind.dimensions c.args.other.dimensions c.if-kind-other.true)

pub returns : goal.returns
returns c =
    let n = c.args.kind.dimensions in
    let m = c.args.other.dimensions in
    let test = c.if-kind-other.false in
    c.is_of_base.ensures ∙ sym (more_dimensions (resolved c.args.classes.now) c.args.kind.base c.args.other.base n m (n - m) (omega (arith, test)))
