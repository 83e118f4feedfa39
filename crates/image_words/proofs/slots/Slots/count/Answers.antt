use Rattle.std.proofs.Common.{length, length-append, ap, arith}
use Rattle.image_words.specs.Tables.{above_slots}
use Rattle.image_words.proofs.SlotLemmas.{read_slots}
use Rattle.image_words.proofs.slots.Slots.count.Goals as goal

pub returns-then-class-len : goal.returns-then-class-len
returns-then-class-len c = λ cs are below.
    let s = c.index-slots.result.now in
    let got = read_slots cs c.args.self.now are c.args.class s below c.index-slots.ensures in
    let all = ap length got.slots in
    let both = length-append (above_slots cs c.args.class) s.added.items in
    let start = got.so_far.start in
    let len = c.len-then-class-len.ensures in
    omega (arith, all, both, start, len)

pub returns-else-class-len : goal.returns-else-class-len
returns-else-class-len c = λ cs are below.
    let long = are.long in
    let len = c.len.ensures in
    let test = c.if-class-len.false in
    absurd (omega (arith, below, long, len, test))
