use Rattle.std.proofs.Common.{rules}
use Rattle.microcode_asm.proofs.state.Assembly.new.Goals as goal

pub returns-clause-entries : goal.returns-clause-entries
returns-clause-entries c = c.in_ok-vec.ensures.items_if_clones_equal (λ y h. search rules)

pub returns-clause-constants : goal.returns-clause-constants
returns-clause-constants c = c.in_ok-vec-2.ensures.items_if_clones_equal (λ y h. search rules)
