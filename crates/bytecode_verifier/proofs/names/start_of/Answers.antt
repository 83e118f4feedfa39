use Rattle.std.proofs.Common.{◌∙◌, arith}
use Rattle.bytecode_verifier.proofs.ListedLemmas.{first_word, no_word, starts_many}
use Rattle.bytecode_verifier.proofs.names.start_of.Goals as goal

pub returns-then-index-len : goal.returns-then-index-len
returns-then-index-len c = λ t types h below.
    let many = starts_many t c.args.current.now types h in
    let inside = c.if-index-len.true in
    let long = c.len.ensures in
    c.index.ensures ∙ first_word t c.args.current.now types c.args.index _ h (omega (arith, many, inside, long))

pub returns-else-index-len : goal.returns-else-index-len
returns-else-index-len c = λ t types h below.
    let many = starts_many t c.args.current.now types h in
    let past = c.if-index-len.false in
    let long = c.len.ensures in
    no_word t c.args.current.now types c.args.index h (omega (arith, many, past, long)) below
