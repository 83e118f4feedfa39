use Rattle.std.proofs.Common.{ℕ, List, sym, subst}
use Rattle.program_tables.specs.Resolved.{resolved}
use Rattle.program_sites.specs.Made.Lines.{AreLinePlaces}
use Rattle.program_sites.proofs.MadeLemmas.Places.{if_ok_as}
use Rattle.program_sites.proofs.made.methods.sites_in.Goals as goal

pub sites_by-requires-clause-places : goal.sites_by-requires-clause-places
sites_by-requires-clause-places c =
    let P = resolved c.args.program.now in
    subst (λ (ps : List ℕ). AreLinePlaces P c.args.m ps) (sym c.deref.ensures.value) (c.in_ok-places.ensures P c.args.m c.requires.method)

pub returns : goal.returns
returns c =
    let P = resolved c.args.program.now in
    let lines = subst (λ (ps : List ℕ). AreLinePlaces P c.args.m ps) (sym c.deref.ensures.value) (c.in_ok-places.ensures P c.args.m c.requires.method) in
    if_ok_as c.sites_by.result _ _ c.sites_by.ensures (λ v are. record { places = c.deref.result.now; lines = lines; are = are })
