use Rattle.std.proofs.Common.{◌≡◌, ◌<◌, ◌≤◌, ◌+◌, ◌++◌, ℕ, List, [], Some, length, get_or, map, take, take_all, refl, sym, ap, ◌∙◌, subst, arith}
use Rattle.std.specs.Prelude.{IfSome, slice_get}
use Rattle.std.specs.List.{flat_map, range_with_len}
use Rattle.std.proofs.lemmas.Option.{slice_get-get_or}
use Rattle.lists.proofs.Lemmas.{some_same}
use Rattle.class_pool.specs.Found.{code_of}
use Rattle.class_pool.specs.declared.class.Member.{Member}
use Rattle.class_pool.specs.declared.class.ClassFile.{ClassFile}
use Rattle.opcodes.specs.declared.instruction.Instr.{Instr}
use Rattle.program_tables.specs.Instructions as definitions
use Rattle.program_tables.proofs.TableLemmas.{all_at}
use Rattle.image_layout.specs.Uses.{instr_of, use_of}
use Rattle.image_layout.proofs.EntryLemmas.{methods_more}
use Rattle.image_layout.proofs.UseLemmas.{bounded}
use Rattle.image_layout.proofs.uses.uses_of.Goals as goal

pub loop-method-init : goal.loop-method-init
loop-method-init c =
    λ k at.
    let cs = c.args.program.now in
    let same = some_same c.class-class.result.now k (sym c.class-class.ensures ∙ at) in
    let pool = ap length (c.entries.ensures ∙ ap (λ (k : ClassFile). k.pool) same) in
    let many : length c.entries.result.now + 1 ≡ 1 + length k.pool = omega (arith, pool) in
    c.in_ok-uses.ensures cs c.args.number k ∙ ap (λ (n : ℕ). map (use_of cs c.args.number k []) (range_with_len 0 n)) many

pub note_method-requires-clause-small : goal.note_method-requires-clause-small
note_method-requires-clause-small c =
    let k = c.class-class.result.now in
    let i = c.loop-method.method-index in
    let m = c.method-item.result in
    let lt = subst (λ (xs : List Member). i < length xs) c.as_slice-method-items.ensures c.loop-method-test.true in
    let is = subst (λ (xs : List Member). m ≡ get_or xs i m) c.as_slice-method-items.ensures c.method-item.is in
    all_at (λ (m : Member). IfSome (code_of m) (λ k. length k.code ≤ 33554432)) k.methods i m (bounded c.args.program.now c.args.number k c.is_within_bounds.ensures c.class-class.ensures).code
    (slice_get-get_or k.methods i m lt ∙ ap Some (sym is))

pub loop-method-preserved : goal.loop-method-preserved
loop-method-preserved c =
    λ k at.
    let cs = c.args.program.now in
    let n = c.args.number in
    let same = some_same c.class-class.result.now k (sym c.class-class.ensures ∙ at) in
    let i = c.loop-method.method-index in
    let m = c.method-item.result in
    let items = c.as_slice-method-items.ensures ∙ ap (λ (k : ClassFile). k.methods) same in
    let lt = subst (λ (xs : List Member). i < length xs) items c.loop-method-test.true in
    let is = subst (λ (xs : List Member). m ≡ get_or xs i m) items c.method-item.is in
    let here : slice_get k.methods i ≡ Some m = slice_get-get_or k.methods i m lt ∙ ap Some (sym is) in
    let old = map instr_of (flat_map definitions.instructions_of (take i k.methods)) in
    c.in_ok-note_method.ensures k old (1 + length k.pool) at (c.loop-method.invariant k at)
    ∙ ap (λ (is : List Instr). map (use_of cs n k is) (range_with_len 0 (1 + length k.pool))) (methods_more k.methods i m old (old ++ map instr_of (definitions.instructions_of m)) here refl refl)

pub returns : goal.returns
returns c =
    λ k at.
    let same = some_same c.class-class.result.now k (sym c.class-class.ensures ∙ at) in
    let items = c.as_slice-method-items.ensures ∙ ap (λ (k : ClassFile). k.methods) same in
    let end = subst (λ (xs : List Member). length xs ≤ c.loop-method.method-index) items c.loop-method-test.false in
    c.loop-method.invariant k at
    ∙ ap (λ (ms : List Member). map (use_of c.args.program.now c.args.number k (map instr_of (flat_map definitions.instructions_of ms))) (range_with_len 0 (1 + length k.pool))) (take_all c.loop-method.method-index k.methods end)
