use Rattle.std.proofs.Common.{◌≡◌, ℕ, ◌≤◌, List, length, sym, ap, ◌∙◌, subst, arith}
use Rattle.std.specs.Option.{option_copied}
use Rattle.lists.proofs.Lemmas.{some_in}
use Rattle.bytecode_model.specs.Program.{Body, body_of}
use Rattle.opcodes.specs.Start.{starts_of}
use Rattle.program_tables.specs.Numbers.{methods_by_number}
use Rattle.program_tables.specs.Resolved.{resolved}
use Rattle.array_fields.specs.declared.puts.Put.{Put}
use Rattle.array_fields.specs.Puts.{ArePutsBelow, HasPutsAt}
use Rattle.array_fields.proofs.Coding.{body_of_code, none_past}
use Rattle.array_fields.proofs.Collecting.{no_puts, more_puts, all_puts}
use Rattle.array_fields.proofs.puts.puts_of.Goals as goal

pub loop-number-init : goal.loop-number-init
loop-number-init c =
    let cs = c.args.program.now in
    let ts = c.args.tables.now in
    subst (λ (xs : List Put). ArePutsBelow (resolved cs) ts 0 xs) (sym c.new-puts.ensures.items) (no_puts c.methods_stand_by_number.ensures cs ts)

pub add_puts_in-requires-clause-code : goal.add_puts_in-requires-clause-code
add_puts_in-requires-clause-code c =
    let cs = c.args.program.now in
    let n = c.loop-number.number in
    let b = body_of_code c.methods_stand_by_number.ensures cs n c.in-Some.code.now (sym c.code.ensures.code ∙ ap option_copied c.in-Some.is) in
    some_in (body_of (resolved cs) n) b.body (λ (x : Body). x.code ≡ c.as_slice.result.now) b.is_body (b.code ∙ sym c.as_slice.ensures)

pub loop-number-preserved : goal.loop-number-preserved
loop-number-preserved c =
    let cs = c.args.program.now in
    let n = c.loop-number.number in
    let old = c.loop-number.puts.items in
    let new = c.add_puts_in.new.puts.items in
    let puts = subst (λ (ps : List ℕ). HasPutsAt (resolved cs) c.args.tables.now n (starts_of ps) old new) c.as_slice.ensures c.in_ok-add_puts_in.ensures in
    more_puts c.methods_stand_by_number.ensures cs c.args.tables.now n c.in-Some.code.now old new (sym c.code.ensures.code ∙ ap option_copied c.in-Some.is) c.loop-number.invariant puts

pub returns-in_default : goal.returns-in_default
returns-in_default c =
    all_puts c.methods_stand_by_number.ensures c.args.program.now c.args.tables.now c.loop-number.number c.loop-number.puts.items (sym c.code.ensures.code ∙ ap option_copied c.in_default.is) c.loop-number.invariant

pub returns : goal.returns
returns c =
    let cs = c.args.program.now in
    let n = c.loop-number.number in
    let past : length (methods_by_number c.args.program.now) ≤ c.loop-number.number = (let e = c.method_count-number-end.ensures in let t = c.loop-number-test.false in omega arith) in
    all_puts c.methods_stand_by_number.ensures cs c.args.tables.now n c.loop-number.puts.items (none_past cs n past) c.loop-number.invariant
