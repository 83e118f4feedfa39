use Rattle.std.proofs.Common.{◌≡◌, ◌<◌, ◌≤◌, ℕ, Option, true, false, length, get_or, set, sym, ap, ◌∙◌, arith, rules}
use Rattle.std.specs.Prelude.{is_some, unsigned_abs}
use Rattle.std.proofs.lemmas.List.FromFn.{length-map-range_with_len}
use Rattle.class_pool.specs.declared.class.ClassFile.{ClassFile}
use Rattle.lists.proofs.Lemmas.{some_same}
use Rattle.program_tables.specs.Instructions.{index_of_entry, named_in}
use Rattle.image_layout.specs.Uses.{use_of, again}
use Rattle.image_layout.proofs.UseLemmas.{bounded, unnamed, past_named, use_passed, use_noted}
use Rattle.image_layout.proofs.uses.note_use.Goals as goal

pub is_named-requires : goal.is_named-requires
is_named-requires c = (bounded c.args.program.now c.args.number c.class.result.now c.is_within_bounds.ensures c.class.ensures).pool

pub returns-then-not-is_named : goal.returns-then-not-is_named
returns-then-not-is_named c =
    λ k before many at old.
    let x = c.args.instr.now in
    let same = some_same c.class.result.now k (sym c.class.ensures ∙ at) in
    let none : is_some (named_in k x) ≡ false = ap (λ (k : ClassFile). is_some (named_in k x)) (sym same) ∙ (sym c.is_named.ensures ∙ c.if-not-is_named.true) in
    use_passed c.args.program.now c.args.number k before x many c.args.uses.now.items old (λ i less. unnamed k x i none)

pub returns-then-index-len : goal.returns-then-index-len
returns-then-index-len c =
    λ k before many at old.
    let x = c.args.instr.now in
    let long = ap length old ∙ length-map-range_with_len (use_of c.args.program.now c.args.number k before) 0 many in
    let items = c.args.uses.now.ok.0 in
    let len = c.len.ensures in
    let test = c.if-index-len.true in
    let abs : c.unsigned_abs-index.result ≡ unsigned_abs x.first = search rules in
    let value : c.unsigned_abs-index.result ≡ index_of_entry x = abs in
    let past : many ≤ index_of_entry x = omega (arith, long, items, len, test, value) in
    use_passed c.args.program.now c.args.number k before x many c.args.uses.now.items old (λ i less. past_named k x many i past less)

pub returns : goal.returns
returns c =
    λ k before many at old.
    let cs = c.args.program.now in
    let x = c.args.instr.now in
    let uses = c.args.uses.now.items in
    let d = c.index.result.now in
    let v = c.used_again.result in
    let same = some_same c.class.result.now k (sym c.class.ensures ∙ at) in
    let named : is_some (named_in k x) ≡ true = ap (λ (k : ClassFile). is_some (named_in k x)) (sym same) ∙ (sym c.is_named.ensures ∙ c.if-not-is_named.false) in
    let abs : c.unsigned_abs-index.result ≡ unsigned_abs x.first = search rules in
    let index : c.unsigned_abs-index.result ≡ index_of_entry x = abs in
    let items = c.args.uses.now.ok.0 in
    let len = c.len.ensures in
    let test = c.if-index-len.false in
    let lt : index_of_entry x < length uses = omega (arith, items, len, test, index) in
    let is = c.index.ensures ∙ ap (λ (j : ℕ). get_or uses j d) index in
    let made = c.used_again.ensures ∙ ap (λ (f : Option ℕ). again d f) (c.fixed_place-fixed.ensures k at) in
    ap (λ (j : ℕ). set uses j v) index ∙ use_noted cs c.args.number k before x many uses d v old named lt is made
