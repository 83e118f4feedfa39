use Rattle.std.proofs.Common.{◌≡◌, ℕ, List, Option, sym, ap, arith}
use Rattle.std.specs.Option.{option_map}
use Rattle.std.proofs.lemmas.Bool.{false≢true}
use Rattle.opcodes.specs.Bytes.{u1}
use Rattle.lists.proofs.Lemmas.{some_is}
use Rattle.bytecode_model.specs.Program.{Body, body_of}
use Rattle.program_tables.specs.Resolved.{resolved}
use Rattle.flow_table.specs.declared.invokes.Invoked.{Invoked}
use Rattle.flow_table.specs.Invokes.{call_of}
use Rattle.flow_table.proofs.Invoking.{no_invoke}
use Rattle.flow_table.proofs.invokes.call_at.Goals as goal

pub returns-then-not-is_invoke : goal.returns-then-not-is_invoke
returns-then-not-is_invoke c =
    let P = resolved c.args.program.now in
    let m = c.args.method in
    let p = c.args.place in
    let b = some_is (body_of P m) (λ (b : Body). b.code ≡ c.args.code.now) c.requires.code in
    let byte : u1 b.0.code p ≡ u1 c.args.code.now p = ap (λ (xs : List ℕ). u1 xs p) b.2 in
    let none = no_invoke c.calls_are_invokes.ensures P m p b.0 b.1
    (λ from to. false≢true (c.if-not-is_invoke.ensures.1 (omega arith, omega arith))) in
    sym (ap (λ (o : Option Invoked). option_map (call_of c.args.coded p) o) none)
