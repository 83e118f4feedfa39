use Rattle.std.proofs.Common.{◌≡◌, ℕ, ◌<◌, sym, ◌∙◌, ap, subst, arith, ℤ, to_z, of_z, FitsSigned, w32}
use Rattle.std.proofs.Math.Facts.{to_z-of_z}
use Rattle.opcodes.specs.Bytes.{u1}
use Rattle.opcodes.specs.Form.{LookupSwitch}
use Rattle.opcodes.specs.Row.{row_of}
use Rattle.opcodes.proofs.SwitchLemmas.{lookup_is, table_is, index_fits, key_is, sum_is, word_is, not_lookup}
use Rattle.opcodes.proofs.place.case.Goals as goal

pub signed_word-requires : goal.signed_word-requires
signed_word-requires c =
    let h = (lookup_is c.args.code.now c.args.pc c.args.index c.args.instr.now c.requires.decoded c.requires.one (sym c.in-LookupSwitch.ensures)).inside in omega (arith, h)

pub signed_word-requires-in-LookupSwitch : goal.signed_word-requires-in-LookupSwitch
signed_word-requires-in-LookupSwitch c = (lookup_is c.args.code.now c.args.pc c.args.index c.args.instr.now c.requires.decoded c.requires.one (sym c.in-LookupSwitch.ensures)).inside

pub overflow_cast-result : goal.overflow_cast-result
overflow_cast-result c =
    index_fits c.args.code.now c.args.pc c.args.index c.args.instr.now c.requires.decoded c.requires.one
    (λ same. not_lookup c.form_of.result c.in_default.not-LookupSwitch (c.form_of.ensures ∙ same)) c.requires.small

pub overflow_add-result : goal.overflow_add-result
overflow_add-result c =
    let other : (row_of c.args.instr.now.op).form ≡ LookupSwitch → ⊥ = λ same. not_lookup c.form_of.result c.in_default.not-LookupSwitch (c.form_of.ensures ∙ same) in
    let bytes : (k : ℕ) → u1 c.args.code.now k < 256 = λ k. (c.type_inv.code k).fits in
    subst (FitsSigned w32)
    (sym (sum_is c.args.code.now c.args.pc c.args.index c.args.instr.now c.requires.decoded c.requires.one other c.requires.small bytes))
    (key_is c.args.code.now c.args.pc c.args.index c.args.instr.now c.requires.decoded c.requires.one other bytes)

pub signed_word-requires-in_default : goal.signed_word-requires-in_default
signed_word-requires-in_default c =
    (table_is c.args.code.now c.args.pc c.args.index c.args.instr.now c.requires.decoded c.requires.one
    (λ same. not_lookup c.form_of.result c.in_default.not-LookupSwitch (c.form_of.ensures ∙ same))).inside

pub returns-in-LookupSwitch : goal.returns-in-LookupSwitch
returns-in-LookupSwitch c =
    let is = (lookup_is c.args.code.now c.args.pc c.args.index c.args.instr.now c.requires.decoded c.requires.one (sym c.in-LookupSwitch.ensures)).is in
    let key = word_is c.signed_word.result c.signed_word.type_inv ∙ c.signed_word.ensures in
    let offset = word_is c.signed_word-in-LookupSwitch.result c.signed_word-in-LookupSwitch.type_inv ∙ c.signed_word-in-LookupSwitch.ensures in
    cc

pub returns-in_default : goal.returns-in_default
returns-in_default c =
    let other : (row_of c.args.instr.now.op).form ≡ LookupSwitch → ⊥ = λ same. not_lookup c.form_of.result c.in_default.not-LookupSwitch (c.form_of.ensures ∙ same) in
    let bytes : (k : ℕ) → u1 c.args.code.now k < 256 = λ k. (c.type_inv.code k).fits in
    let is = (table_is c.args.code.now c.args.pc c.args.index c.args.instr.now c.requires.decoded c.requires.one other).is in
    let sum = sum_is c.args.code.now c.args.pc c.args.index c.args.instr.now c.requires.decoded c.requires.one other c.requires.small bytes in
    let key = ap (λ (z : ℤ). to_z w32 (of_z w32 z)) sum ∙ to_z-of_z (key_is c.args.code.now c.args.pc c.args.index c.args.instr.now c.requires.decoded c.requires.one other bytes) in
    let offset = word_is c.signed_word-in_default.result c.signed_word-in_default.type_inv ∙ c.signed_word-in_default.ensures in
    cc
