use Rattle.std.proofs.Common.{ℕ, ℤ, List, [], ◌∷◌, ◌++◌, take, take_all, get_or, Option, refl, sym, ap, ◌∙◌, subst}
use Rattle.std.proofs.lemmas.List.{take_more}
use Rattle.lists.specs.Members.{contains_at}
use Rattle.program_tables.specs.Resolved.{resolved}
use Rattle.program_sites.specs.Ints.Places.{AreLeft, without}
use Rattle.program_sites.specs.Ints.Rows.{put_at}
use Rattle.program_sites.proofs.IntsLemmas.Filling.{left_more}
use Rattle.program_sites.proofs.ints.sites.take_written.Goals as goal

pub put_at-requires-clause-inside : goal.put_at-requires-clause-inside
put_at-requires-clause-inside c =
    let i = c.loop-place.place-index in
    let p = get_or c.args.starts.now i 0 in
    c.requires.within p (contains_at c.args.starts.now i p c.loop-place-test.true refl)

pub loop-place-preserved : goal.loop-place-preserved
loop-place-preserved c =
    let f = put_at (resolved c.args.program.now) c.args.method in
    let starts = c.args.starts.now in
    let i = c.loop-place.place-index in
    let p = get_or c.args.starts.now i 0 in
    let old = c.args.constants.now.items in
    let xs = c.loop-place.constants.items in
    let more = left_more f old (take i starts) xs p c.loop-place.invariant in
    let same = c.take_away.ensures ∙ ap (λ (o : Option ℕ). without xs o) c.put_at.ensures in
    subst (λ (ps : List ℕ). AreLeft f ps old c.take_away.new.constants.items) (sym (take_more starts i 0 c.loop-place-test.true))
    (subst (λ (ys : List (Option ℤ)). AreLeft f (take i starts ++ p ∷ []) old ys) (sym same) more)

pub returns : goal.returns
returns c =
    let f = put_at (resolved c.args.program.now) c.args.method in
    subst (λ (ps : List ℕ). AreLeft f ps c.args.constants.now.items c.loop-place.constants.items) (take_all c.loop-place.place-index c.args.starts.now c.loop-place-test.false) c.loop-place.invariant
