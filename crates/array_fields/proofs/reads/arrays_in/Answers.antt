use Rattle.std.proofs.Common.{◌≡◌, ℕ, ℤ, List, Contains, Option, sym, ap, ◌∙◌, subst}
use Rattle.lists.proofs.Lemmas.{some_is}
use Rattle.opcodes.specs.Start.{starts_of}
use Rattle.bytecode_model.specs.Program.{Body, body_of}
use Rattle.program_tables.specs.Resolved.{resolved}
use Rattle.loop_rules.specs.Further.Arrays.{AreArraysRead}
use Rattle.array_fields.specs.Lengths.{AreIntsOf, array_read, known_by}
use Rattle.array_fields.proofs.Arranging.{arrays_of_method}
use Rattle.array_fields.proofs.reads.arrays_in.Goals as goal

pub arrays_at-requires-clause-within : goal.arrays_at-requires-clause-within
arrays_at-requires-clause-within c p has =
    (c.starts_follow_one_another.ensures c.args.code.now).within_code p (subst (λ (ps : List ℕ). Contains ps p) (c.deref.ensures.value ∙ c.in_ok-starts.ensures) has)

pub returns : goal.returns
returns c constants =
    let P = resolved c.args.program.now in
    let m = c.args.method in
    let a = c.args.arrays.now in
    let b = some_is (body_of P m) (λ (x : Body). x.code ≡ c.args.code.now) c.requires.code in
    let starts = c.deref.ensures.value ∙ c.in_ok-starts.ensures ∙ ap starts_of (sym b.2) in
    let read = subst (λ (ps : List ℕ). AreIntsOf (array_read P a m) ps c.in_ok-lengths.lengths.items) starts c.in_ok-lengths.ensures in
    subst (λ (xs : List (Option ℤ)). AreArraysRead P (known_by constants a) m xs) (sym c.new.ensures) (arrays_of_method P m b.0 b.1 a c.in_ok-lengths.lengths.items read constants)
