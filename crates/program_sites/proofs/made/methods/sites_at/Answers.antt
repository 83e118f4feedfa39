use Rattle.std.proofs.Common.{ℕ, ◌+◌, List, take, sym, subst}
use Rattle.std.proofs.lemmas.List.{take_all}
use Rattle.memory_rules.specs.declared.sites.Site.{Site}
use Rattle.program_tables.specs.Resolved.{resolved}
use Rattle.program_sites.specs.Made.Lines.{AreSitesAt}
use Rattle.program_sites.proofs.MadeLemmas.Growing.{sites_more}
use Rattle.program_sites.proofs.made.methods.sites_at.Goals as goal

pub loop-place-preserved : goal.loop-place-preserved
loop-place-preserved c =
    let P = resolved c.args.program.now in
    let i = c.loop-place.place-index in
    let more = sites_more P c.args.m c.args.places.now c.requires.places c.lines_follow_one_another.ensures.one i c.loop-place-test.true c.loop-place.sites.items c.loop-place.invariant c.made_at.result c.told-makes.result c.made_at.ensures
    (c.told-makes.ensures P c.args.m c.requires.scan c.requires.pushed) in
    subst (λ (xs : List Site). AreSitesAt P c.args.m (take (i + 1) c.args.places.now) xs) (sym c.in_ok-add_site.ensures) more

pub returns : goal.returns
returns c =
    let P = resolved c.args.program.now in
    subst (λ (ps : List ℕ). AreSitesAt P c.args.m ps c.loop-place.sites.items) (take_all c.loop-place.place-index c.args.places.now c.loop-place-test.false) c.loop-place.invariant
