use Rattle.std.proofs.Common.{List, sym, subst}
use Rattle.code_scan.specs.declared.scan.PushedInt.{PushedInt}
use Rattle.code_scan.specs.Lines.{ArePushed}
use Rattle.program_tables.specs.Resolved.{resolved}
use Rattle.program_sites.proofs.MadeLemmas.Growing.{all_pushed}
use Rattle.program_sites.proofs.made.methods.sites_by.Goals as goal

pub sites_at-requires-clause-pushed : goal.sites_at-requires-clause-pushed
sites_at-requires-clause-pushed c =
    let P = resolved c.args.program.now in
    subst (λ (xs : List PushedInt). ArePushed P c.args.m xs) (sym c.deref.ensures.value) (all_pushed P c.args.m c.args.places.now c.requires.places c.in_ok-pushed.pushed.items c.in_ok-pushed.ensures)
