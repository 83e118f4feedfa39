use Rattle.std.proofs.Common.{◌≡◌, true, take}
use Rattle.std.specs.List.{list_all}
use Rattle.class_pool.specs.Grammar.{entry_at, is_utf8}
use Rattle.class_rules.proofs.attributes.all_have_names.Given as goal

abbrev pub invariant-loop-a : goal.invariant-loop-a
invariant-loop-a l = list_all (λ a. is_utf8 (entry_at l.pool a.0)) (take l.a-index l.attributes) ≡ true
