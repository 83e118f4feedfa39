use Rattle.std.proofs.Common.{◌≡◌, ◌<◌, ◌+◌, ◌*◌, ◌^◌, ◌∷◌, [], ◌++◌, ℕ, List, Some, length, map, sym, ap, ◌∙◌, subst}
use Rattle.std.specs.Prelude.{slice_get}
use Rattle.std.specs.List.{flat_map}
use Rattle.std.proofs.lemmas.Option.{slice_get_within}
use Rattle.std.proofs.lemmas.Result.{on_ok_weaker}
use Rattle.bytecode_model.specs.Program.{Method}
use Rattle.class_pool.specs.declared.class.ClassFile.{ClassFile}
use Rattle.base.specs.Packed.{words_for, words_of_bytes}
use Rattle.image_facts.specs.Says.{argument_words_of, handler_words}
use Rattle.program_tables.specs.Resolved.{handler_of, resolved, resolved_methods}
use Rattle.image_words.specs.Layout.{pool_place}
use Rattle.image_layout.proofs.SizeLemmas.{stands}
use Rattle.image_layout.proofs.MethodLemmas.{record_made}
use Rattle.image_layout.proofs.methods.add_method.Goals as goal

pub add_handlers-requires : goal.add_handlers-requires
add_handlers-requires c =
    let cs = c.args.program.now in
    let s = stands c.methods_stand_by_number.ensures c.members_are_there.ensures cs c.args.method c.method.result c.method.ensures in
    let same = ap (λ (q : ℕ × ℕ). q.0) c.class.view_is in
    subst (λ (n : ℕ). n < length cs) (sym same) (slice_get_within cs c.method.result.0 s.class s.class_at)

pub returns : goal.returns
returns c =
    let cs = c.args.program.now in
    let code = c.in-Some.code.now in
    let old = c.args.words.now.items in
    let first = c.add_sizes.new.words.items in
    let second = c.add_handlers.new.words.items in
    let same = ap (λ (q : ℕ × ℕ). q.0) c.class.view_is in
    let sizes = λ (k : Method) (at : slice_get (resolved_methods cs) c.args.method ≡ Some k).
    c.in_ok-add_sizes.ensures k at
    ∙ ap (λ (n : ℕ). old ++ (code.max_locals * 2 ^ 16 + code.max_stack) ∷ (argument_words_of k * 2 ^ 16 + words_for (length code.code)) ∷ pool_place cs n ∷ length code.handlers ∷ []) same in
    let handlers = λ (k : ClassFile) (at : slice_get cs c.method.result.0 ≡ Some k).
    c.in_ok-add_handlers.ensures k (ap (slice_get cs) same ∙ at) ∙ ap (λ es. first ++ flat_map (handler_words (resolved cs)) (map (handler_of cs k) es)) c.as_slice.ensures in
    on_ok_weaker c.add_bytes.result
    (λ made. record_made c.methods_stand_by_number.ensures c.members_are_there.ensures cs c.args.method c.method.result code c.method.ensures c.in-Some.ensures.code
    old first second c.add_bytes.new.words.items sizes handlers (made ∙ ap (λ (bs : List ℕ). second ++ words_of_bytes bs) c.as_slice-2.ensures))
    c.add_bytes.ensures
