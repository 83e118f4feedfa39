use Rattle.std.proofs.Common.{◌≡◌, ℤ, ◌+◌, ◌≤◌, List, length, Option, sym, ap, ◌∙◌, subst, arith}
use Rattle.std.specs.Option.{option_copied}
use Rattle.lists.proofs.Lemmas.{some_in}
use Rattle.bytecode_model.specs.Program.{Body, body_of}
use Rattle.program_tables.specs.Numbers.{methods_by_number}
use Rattle.program_tables.specs.Resolved.{resolved}
use Rattle.array_fields.specs.Lengths.{AreArraysBelow, known_by}
use Rattle.array_fields.proofs.Coding.{body_of_code, none_past}
use Rattle.array_fields.proofs.Arranging.{is_there, no_arrays, more_arrays, all_arrays}
use Rattle.array_fields.proofs.reads.arrays_read.Goals as goal

pub loop-number-init : goal.loop-number-init
loop-number-init c constants =
    let P = resolved c.args.program.now in
    let known = known_by constants c.args.arrays.now in
    subst (λ (xss : List (List (Option ℤ))). AreArraysBelow P known 0 xss) (sym c.new-methods.ensures.items) (no_arrays P known)

pub arrays_in-requires-clause-code : goal.arrays_in-requires-clause-code
arrays_in-requires-clause-code c =
    let cs = c.args.program.now in
    let n = c.loop-number.number in
    let b = body_of_code c.methods_stand_by_number.ensures cs n c.in-Some.code.now (sym c.code.ensures.code ∙ ap option_copied c.in-Some.is) in
    some_in (body_of (resolved cs) n) b.body (λ (x : Body). x.code ≡ c.as_slice.result.now) b.is_body (b.code ∙ sym c.as_slice.ensures)

pub loop-number-preserved : goal.loop-number-preserved
loop-number-preserved c constants =
    let cs = c.args.program.now in
    let n = c.loop-number.number in
    let known = known_by constants c.args.arrays.now in
    let b = body_of_code c.methods_stand_by_number.ensures cs n c.in-Some.code.now (sym c.code.ensures.code ∙ ap option_copied c.in-Some.is) in
    subst (λ (xss : List (List (Option ℤ))). AreArraysBelow (resolved cs) known (n + 1) xss) (sym c.in_ok-push.ensures.items)
    (more_arrays (resolved cs) known n _ _ (c.loop-number.invariant constants) (is_there (body_of (resolved cs) n) b.body b.is_body) (c.in_ok-arrays_in.ensures constants))

pub returns-in_default : goal.returns-in_default
returns-in_default c constants =
    all_arrays c.methods_stand_by_number.ensures c.args.program.now (known_by constants c.args.arrays.now) c.loop-number.number _ (sym c.code.ensures.code ∙ ap option_copied c.in_default.is) (c.loop-number.invariant constants)

pub returns : goal.returns
returns c constants =
    let cs = c.args.program.now in
    let n = c.loop-number.number in
    let past : length (methods_by_number c.args.program.now) ≤ c.loop-number.number = (let e = c.method_count-number-end.ensures in let t = c.loop-number-test.false in omega arith) in
    all_arrays c.methods_stand_by_number.ensures cs (known_by constants c.args.arrays.now) n _ (none_past cs n past) (c.loop-number.invariant constants)
