use Rattle.std.proofs.Common.{◌<◌, length, arith, sym, ◌∙◌}
use Rattle.std.proofs.lemmas.Option.{slice_get_read}
use Rattle.source_headers.proofs.FoundLemmas.{later_methods}
use Rattle.source_headers.proofs.GatherLemmas.{boot_gathered, method_gathered}
use Rattle.source_headers.proofs.gathering.add_methods.Goals as goal

pub loop-number-preserved-then-number-boot : goal.loop-number-preserved-then-number-boot
loop-number-preserved-then-number-boot c =
    let n = c.loop-number.number in
    let found = c.args.loops.now.counted.items in
    let inv = c.loop-number.invariant in
    let less = c.from_place-left.ensures.left in
    let same = later_methods found c.loop-number.left.now c.from_place-left.result.now n less inv.same in
    record {
      gathered = boot_gathered c.args.program.now c.args.notes.now found n c.loop-number.gathered inv.gathered (c.if-number-boot.true ∙ c.boot.ensures.boot ∙ c.requires.flow.boot);
      rising = less.rising inv.rising;
      same = λ m p le. same m p (omega (arith, le));
    }

pub loops_of-requires-clause-headers : goal.loops_of-requires-clause-headers
loops_of-requires-clause-headers c =
    let n = c.loop-number.number in
    let count = c.method_count-number-end.ensures.count in
    let lt : n < length c.args.flow.now.methods = omega arith in
    c.requires.headers.each n c.index.result.now (slice_get_read c.args.loops.now.headers.items (length c.args.flow.now.methods) n c.index.result.now (sym c.requires.headers.long) lt c.index.ensures)

pub loop-number-preserved : goal.loop-number-preserved
loop-number-preserved c =
    let n = c.loop-number.number in
    let cs = c.args.program.now in
    let found = c.args.loops.now.counted.items in
    let left = c.from_place-left.result.now in
    let inv = c.loop-number.invariant in
    let less = c.from_place-left.ensures.left in
    let same = later_methods found c.loop-number.left.now left n less inv.same in
    let count = c.method_count-number-end.ensures.count in
    let lt : n < length c.args.flow.now.methods = omega arith in
    let named = c.name-name.ensures ∙ c.requires.names n c.method.result.now c.method.ensures in
    record {
      gathered =
          method_gathered cs c.args.notes.now found n c.loop-number.gathered c.add.new.self left c.name-name.result.now c.in_ok-told.told inv.gathered c.in_ok-add.ensures c.in_ok-told.ensures named
          ((c.requires.flow.coded n).1 lt, λ e. c.if-number-boot.false (e ∙ sym (c.boot.ensures.boot ∙ c.requires.flow.boot))) (λ p. same n p (omega arith));
      rising = less.rising inv.rising;
      same = λ m p le. same m p (omega (arith, le));
    }
