use Rattle.std.proofs.Common.{ℕ, ◌+◌, List, take, sym, subst}
use Rattle.std.proofs.lemmas.List.{take_all}
use Rattle.code_scan.specs.declared.scan.PushedInt.{PushedInt}
use Rattle.program_tables.specs.Resolved.{resolved}
use Rattle.program_sites.specs.Made.Lines.{ArePushedAt}
use Rattle.program_sites.proofs.MadeLemmas.Growing.{pushed_more}
use Rattle.program_sites.proofs.made.methods.pushed_ints.Goals as goal

pub loop-place-preserved : goal.loop-place-preserved
loop-place-preserved c =
    let P = resolved c.args.program.now in
    let i = c.loop-place.place-index in
    let more = pushed_more P c.args.m c.args.places.now c.requires.places c.lines_follow_one_another.ensures.one i c.loop-place-test.true c.loop-place.pushed.items c.loop-place.invariant c.pushed_at.result c.pushed_at.ensures in
    subst (λ (xs : List PushedInt). ArePushedAt P c.args.m (take (i + 1) c.args.places.now) xs) (sym c.in_ok-add_pushed.ensures) more

pub returns : goal.returns
returns c =
    let P = resolved c.args.program.now in
    subst (λ (ps : List ℕ). ArePushedAt P c.args.m ps c.loop-place.pushed.items) (take_all c.loop-place.place-index c.args.places.now c.loop-place-test.false) c.loop-place.invariant
