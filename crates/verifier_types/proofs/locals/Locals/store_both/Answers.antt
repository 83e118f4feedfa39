use Rattle.std.proofs.Common.{set, ap, ◌∙◌, arith}
use Rattle.verifier_types.specs.Seen.{type_seen}
use Rattle.verifier_types.proofs.NumberLemmas.{on_ok}
use Rattle.verifier_types.proofs.TableLemmas.{more_lists, still_there}
use Rattle.verifier_types.proofs.locals.Locals.store_both.Goals as goal

pub write-requires-2 : goal.write-requires-2
write-requires-2 c = still_there _ _ _ _ _ c.in_ok-write.ensures.written (omega (arith, c.requires.behind))

pub returns-clause-lists : goal.returns-clause-lists
returns-clause-lists c = on_ok c.write-2.result _ _ (more_lists c.args.lists.now c.write.new.lists c.write-2.new.lists c.in_ok-write.ensures.lists) c.write-2.ensures.lists

pub returns-clause-written : goal.returns-clause-written
returns-clause-written c = on_ok c.write-2.result _ _ (λ h. h ∙ ap (λ l. set l c.args.index (type_seen c.args.item)) c.in_ok-write.ensures.written) c.write-2.ensures.written
