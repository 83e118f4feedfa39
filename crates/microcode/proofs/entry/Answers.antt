use Rattle.std.proofs.Common.{◌<◌, subst, sym, ℕ}
use Rattle.microcode.proofs.Entries.{entry_below}
use Rattle.microcode.proofs.entry.Goals as goal

pub returns-clause-address : goal.returns-clause-address
returns-clause-address c = subst (λ (x : ℕ). x < 2048) (sym c.entry_at.ensures) (entry_below c.args.op)
