use Rattle.std.proofs.Common.{take}
use Rattle.program_tables.specs.Resolved.{resolved}
use Rattle.program_sites.specs.Made.Lines.{AreSitesAt}
use Rattle.program_sites.proofs.made.methods.sites_at.Given as goal

abbrev pub invariant-loop-place : goal.invariant-loop-place
invariant-loop-place l = AreSitesAt (resolved l.program) l.m (take l.place-index l.places) l.sites.items
