use Rattle.std.proofs.Common.{◌≡◌, ◌++◌, ◌<◌, length}
use Rattle.std.specs.Prelude.{IfSome}
use Rattle.class_lookup.specs.Hierarchy.{superclasses}
use Rattle.image_words.proofs.OrderLemmas.{chain_from}
use Rattle.image_words.proofs.TableLemmas.{depth_from}
use Rattle.image_words.proofs.class_order.superclass_chain.Given as goal

abbrev pub invariant-loop-next : goal.invariant-loop-next
invariant-loop-next l = record {
  inside : IfSome l.next (λ s. s < length l.classes);
  chain : l.chain.items ++ chain_from l.classes l.next ≡ superclasses l.classes l.class;
}

abbrev pub decreases-loop-next : goal.decreases-loop-next
decreases-loop-next l = depth_from l.classes l.next
