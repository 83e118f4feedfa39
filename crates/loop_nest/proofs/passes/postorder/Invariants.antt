use Rattle.std.proofs.Common.{◌≡◌, ◌<◌, length, All}
use Rattle.loop_nest.specs.declared.passes.Visit.{Visit}
use Rattle.loop_nest.proofs.passes.postorder.Given as goal

abbrev pub invariant-loop : goal.invariant-loop
invariant-loop l = record {
  seen : length l.seen ≡ length l.fn.seen;
  stack : All (λ (s : Visit). s.node < length l.fn.seen) l.stack.items;
  order : All (λ x. x < length l.fn.seen) l.order.items;
}
