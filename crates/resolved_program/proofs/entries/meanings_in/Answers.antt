use Rattle.std.proofs.Common.{◌≡◌, ◌<◌, List, length, get_or, subst}
use Rattle.class_pool.specs.declared.entry.Entry.{Entry}
use Rattle.program_tables.proofs.TableLemmas.{meanings_more}
use Rattle.resolved_program.proofs.entries.meanings_in.Goals as goal

pub loop-place-preserved : goal.loop-place-preserved
loop-place-preserved c =
    let i = c.loop-place.place in
    let e = c.entry-item.result in
    let same = c.entries-entry-items.ensures in
    let lt = subst (λ (xs : List Entry). i < length xs) same c.loop-place-test.true in
    let is = subst (λ (xs : List Entry). e ≡ get_or xs i e) same c.entry-item.is in
    meanings_more c.args.tables.now.classes.now c.args.current c.args.class.now i c.loop-place.made.items c.push.new.self.items c.entry_meaning.result e c.loop-place.invariant
    c.in_ok-push.ensures.items lt is c.entry_meaning.ensures
