use Rattle.std.proofs.Common.{ℕ, List, Contains, ◌∙◌, subst}
use Rattle.std.proofs.lemmas.Result.{on_ok_weaker}
use Rattle.program_tables.specs.Resolved.{resolved}
use Rattle.array_fields.specs.Puts.{HasPutsAt}
use Rattle.array_fields.proofs.puts.add_puts_in.Goals as goal

pub add_puts-requires-clause-within : goal.add_puts-requires-clause-within
add_puts-requires-clause-within c p has =
    (c.starts_follow_one_another.ensures c.args.code.now).within_code p (subst (λ (ps : List ℕ). Contains ps p) (c.deref.ensures.value ∙ c.in_ok-starts.ensures) has)

pub returns : goal.returns
returns c =
    on_ok_weaker c.add_puts.result
    (λ puts. subst (λ (ps : List ℕ). HasPutsAt (resolved c.args.program.now) c.args.tables.now c.args.method ps c.args.puts.now.items c.add_puts.new.puts.items) (c.deref.ensures.value ∙ c.in_ok-starts.ensures) puts) c.add_puts.ensures
