use Rattle.std.proofs.Common.{◌≡◌, ◌*◌, ◌/◌, sym, arith}
use Rattle.memory_bound.specs.Setting.{bounds_in, lengths_in}
use Rattle.memory_bound.proofs.Wording.{place_words, raise_words}
use Rattle.memory_bound.proofs.words.node_words.Goals as goal

pub returns-then-node-eq0 : goal.returns-then-node-eq0
returns-then-node-eq0 c = λ P flow sites starts known.
    let s = c.args.task.now in
    let u = c.args.node in
    let half : 2 * (c.args.node / 2) ≡ c.args.node = omega arith in
    place_words P (bounds_in s) (lengths_in s) c.args.m u c.place_words.result (sym half) (c.place_words.ensures P flow sites (starts (u / 2) half) known)

pub returns-else-node-eq0 : goal.returns-else-node-eq0
returns-else-node-eq0 c = λ P flow sites starts known.
    let s = c.args.task.now in
    raise_words P (bounds_in s) (lengths_in s) c.args.m c.args.node (λ even. omega arith)
