use Rattle.std.proofs.Common.{get_or, refl, sym}
use Rattle.lists.proofs.FirstLemmas.{found_here, still_none, none_first}
use Rattle.unresolved_names.specs.Causes.{refused_frame_class}
use Rattle.unresolved_names.proofs.mentions.first_in_frames.Goals as goal

pub returns-in-Some : goal.returns-in-Some
returns-in-Some c =
    let namer = c.args.namer.now in
    let xs = c.args.indexes.now in
    let i = c.loop-index.index-index in
    sym (found_here (refused_frame_class namer.texts.now namer.class.now) xs i (get_or xs i 0) 0 c.in-Some.found c.loop-index-test.true refl c.loop-index.invariant (sym c.in-Some.ensures))

pub loop-index-preserved : goal.loop-index-preserved
loop-index-preserved c =
    let namer = c.args.namer.now in
    let xs = c.args.indexes.now in
    let i = c.loop-index.index-index in
    still_none (refused_frame_class namer.texts.now namer.class.now) xs i (get_or xs i 0) 0 c.loop-index-test.true refl c.loop-index.invariant (sym c.in_default.ensures)

pub returns : goal.returns
returns c =
    let namer = c.args.namer.now in
    sym (none_first (refused_frame_class namer.texts.now namer.class.now) c.args.indexes.now c.loop-index.index-index c.loop-index-test.false c.loop-index.invariant)
