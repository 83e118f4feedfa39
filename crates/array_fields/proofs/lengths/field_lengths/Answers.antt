use Rattle.std.proofs.Common.{ℤ, List, Option, sym, ◌∙◌, subst}
use Rattle.program_tables.specs.Resolved.{resolved}
use Rattle.array_fields.specs.Lengths.{AreFieldLengths}
use Rattle.array_fields.proofs.Keeping.{no_lengths}
use Rattle.array_fields.proofs.lengths.field_lengths.Goals as goal

pub returns-then-has_first_object : goal.returns-then-has_first_object
returns-then-has_first_object c =
    let cs = c.args.program.now in
    subst (λ (xs : List (Option ℤ)). AreFieldLengths (resolved cs) c.args.puts.now c.args.class xs) (sym c.new.ensures.items)
    (no_lengths cs c.args.puts.now c.args.class c.is_resolved.ensures (sym c.has_first_object.ensures ∙ c.if-has_first_object.true))
