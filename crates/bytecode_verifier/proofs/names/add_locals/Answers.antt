use Rattle.std.proofs.Common.{◌≤◌, ◌+◌, ◌++◌, ℕ, List, length, map, take, sym, subst}
use Rattle.std.proofs.lemmas.List.{append-nil}
use Rattle.frame_types.specs.Steps.{named}
use Rattle.frame_types.specs.declared.steps.EntryType.{EntryType}
use Rattle.bytecode_typing.specs.Types.{VarType}
use Rattle.verifier_types.specs.Seen.{type_seen}
use Rattle.bytecode_verifier.specs.Listed.{HasLocals, words_of, types_by}
use Rattle.bytecode_verifier.proofs.ListedLemmas.{lists_again, lists_after, one_longer, front_fits, taken_entries}
use Rattle.bytecode_verifier.proofs.names.add_locals.Goals as goal

pub loop-entry-init : goal.loop-entry-init
loop-entry-init c = (
  lists_again c.args.lists.now,
  λ k types at fits h. subst (λ (ts : List VarType). HasLocals c.args.lists.now c.args.current.now ts) (sym (append-nil types)) h,
)

pub loop-entry-preserved : goal.loop-entry-preserved
loop-entry-preserved c =
    let inv = c.loop-entry.invariant in
    let i = c.loop-entry.entry-index in
    let cs = c.args.of.now.program.now in
    let es = c.args.entries.now in (
      lists_after _ _ _ inv.0 c.in_ok-add_local.ensures.lists,
      λ k types at fits h.
          let front = types ++ types_by cs (map (named k.pool) (take i es)) in
          let longer = one_longer cs k.pool types es i _ c.loop-entry-test.true (type_seen c.type_of_entry.result) (c.type_of_entry.ensures k at) in
          let room = inv.0.room in
          subst (λ (ts : List VarType). HasLocals c.add_local.new.lists c.add_local.new.current ts) longer
          (c.in_ok-add_local.ensures.locals front
          (subst (λ (ts : List VarType). length (words_of ts) ≤ c.loop-entry.lists.max_locals) (sym longer) (subst (λ (n : ℕ). length (words_of (types ++ types_by cs (map (named k.pool) (take (i + 1) es)))) ≤ n) (sym room) (front_fits cs k.pool types es (i + 1) _ fits)))
          (inv.1 k types at fits h)),
    )

pub returns-clause-lists : goal.returns-clause-lists
returns-clause-lists c = c.loop-entry.invariant.0

pub returns-clause-locals : goal.returns-clause-locals
returns-clause-locals c = λ k types at fits h.
    subst (λ (es : List EntryType). HasLocals c.loop-entry.lists c.loop-entry.current (types ++ types_by c.args.of.now.program.now (map (named k.pool) es))) (taken_entries c.args.entries.now c.loop-entry.entry-index c.loop-entry-test.false) (c.loop-entry.invariant.1 k types at fits h)
