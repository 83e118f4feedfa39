-- The frame of the method that is run.
use Rattle.std.proofs.Common.{◌≡◌, ℕ, ◌-◌, List, [], ◌∷◌, ◌++◌, length, Some, None, refl, sym, ◌∙◌, ap, arith, length-append, append_assoc}
use Rattle.std.specs.Prelude.{slice_get, unwrap_or, IsSomeAnd}
use Rattle.std.specs.Option.{option_map}
use Rattle.class_pool.specs.declared.class.Code.{Code}
use Rattle.class_pool.specs.declared.class.Member.{Member}
use Rattle.class_pool.specs.declared.class.ClassFile.{ClassFile}
use Rattle.class_pool.specs.Found.{code_of}
use Rattle.class_making.specs.Plans.{items_of, method_in, code_in, class_of}
use Rattle.core_classes.specs.Core.{core, boot, boot_plan, boot_method, boot_pieces}
use Rattle.program_resolution.specs.Linked.{calls_of, main_name, linked_classes}
use Rattle.lists.specs.Lists.{onto}
use Rattle.bytecode_model.specs.Sizes.{body_words}
use Rattle.bytecode_model.specs.Program.{Method, body_of}
use Rattle.program_tables.specs.Resolved.{body_in, boot_of, resolved_methods, resolved}
use Rattle.program_laws.proofs.Programs.{some_and}
use Rattle.program_laws.proofs.Numbering.{number_of}

last : {X : Type 0} (xs : List X) (x : X) → slice_get (xs ++ x ∷ []) (length xs) ≡ Some x
last [] x = refl
last (y ∷ ys) x = last ys x

last_there : {X : Type 0} (xs : List X) (x : X) → slice_get (xs ++ x ∷ []) (length (xs ++ x ∷ []) - 1) ≡ Some x
last_there xs x =
    let place : length (xs ++ x ∷ []) - 1 ≡ length xs = omega (arith, length-append xs (x ∷ [])) in
    ap (slice_get (xs ++ x ∷ [])) place ∙ last xs x

abbrev member : (calls : List (List ℕ)) (main : List ℕ) → Member
member calls main = method_in (items_of (boot_plan calls main)) (boot_method calls main)

abbrev code : (calls : List (List ℕ)) (main : List ℕ) → Code
code calls main = code_in (items_of (boot_plan calls main)) (record { max_stack = 1; max_locals = 0; pieces = boot_pieces calls main; stack_map = None })

member_there : (calls : List (List ℕ)) (main : List ℕ) → slice_get (boot calls main).methods 0 ≡ Some (member calls main)
unfolding boot class_of boot_plan
member_there calls main = refl

has_code : (calls : List (List ℕ)) (main : List ℕ) → code_of (member calls main) ≡ Some (code calls main)
unfolding boot_method
has_code calls main = refl

-- where this class is the last
pub boot_words : (front : List ClassFile) (calls : List (List ℕ)) (main : List ℕ) (cs : List ClassFile) → cs ≡ front ++ boot calls main ∷ []
    → IsSomeAnd (body_of (resolved cs) (resolved cs).boot) (λ b. body_words b ≡ 6)
boot_words front calls main cs is =
    let class : slice_get cs (length cs - 1) ≡ Some (boot calls main) = ap (λ (xs : List ClassFile). slice_get xs (length xs - 1)) is ∙ last_there front (boot calls main) in
    let n = number_of cs (length cs - 1, 0) (boot calls main) (member calls main) class (member_there calls main) in
    let number : boot_of cs ≡ n.0 = ap (λ o. unwrap_or o 0) n.1 in
    let body : body_of (resolved cs) (boot_of cs) ≡ Some (body_in cs (boot calls main) (code calls main)) =
    ap (λ (m : ℕ). onto (slice_get (resolved_methods cs) m) (λ (x : Method). x.body)) number
    ∙ ap (λ o. onto o (λ (x : Method). x.body)) n.2
    ∙ ap (option_map (body_in cs (boot calls main))) (has_code calls main) in
    some_and (body_of (resolved cs) (boot_of cs)) (λ b. body_words b ≡ 6) (body_in cs (boot calls main) (code calls main)) body refl

pub linked_last : (files : List ClassFile) (main : List ℕ) → linked_classes files main ≡ (core ++ files) ++ boot (calls_of files) (main_name files main) ∷ []
unfolding linked_classes
linked_last files main = sym (append_assoc core files (boot (calls_of files) (main_name files main) ∷ []))
