-- How many words fields and methods take.
use Rattle.std.proofs.Common.{◌≡◌, ℕ, zero, suc, ◌+◌, ◌*◌, ◌<◌, ◌≤◌, List, [], ◌∷◌, Option, Some, None, map, take, length, refl, sym, ap, ◌∙◌, arith}
use Rattle.std.specs.Prelude.{slice_get}
use Rattle.std.specs.Option.{option_map, option_map_or, IsSomeAnd}
use Rattle.std.proofs.lemmas.List.{length-map}
use Rattle.std.proofs.lemmas.Option.{slice_get-map}
use Rattle.class_pool.specs.declared.class.Code.{Code}
use Rattle.class_pool.specs.declared.class.Member.{Member}
use Rattle.class_pool.specs.declared.class.ClassFile.{ClassFile}
use Rattle.class_pool.specs.Found.{code_of}
use Rattle.base.specs.Packed.{words_for}
use Rattle.bytecode_model.specs.Program.{Method}
use Rattle.lists.specs.Lists.{onto}
use Rattle.class_lookup.specs.Lookup.{Place, method_at}
use Rattle.image_facts.specs.Words.{declared_words}
use Rattle.program_tables.specs.Laws.{MethodsStandByNumber, MembersAreThere}
use Rattle.program_tables.specs.Numbers.{methods_by_number}
use Rattle.program_tables.specs.Resolved.{handler_of, body_in, method_in, resolved_method, resolved_methods, resolved}
use Rattle.image_words.specs.Layout.{body_size, method_size}
use Rattle.image_builder.specs.declared.sums.Run.{Run}
use Rattle.image_builder.specs.Runs.{IsRun}
use Rattle.image_builder.proofs.ListLemmas.{get_below, take_past}

-- ---- a method that has a number

pub record Stands (cs : List ClassFile) (n : ℕ) (p : Place) : Type 0 where
  pub class : ClassFile
  pub member : Member
  pub class_at : slice_get cs p.0 ≡ Some class
  pub member_at : slice_get class.methods p.1 ≡ Some member
  pub method : slice_get (resolved_methods cs) n ≡ Some (method_in cs p.0 class member)

stands_case : MethodsStandByNumber → (cs : List ClassFile) (n : ℕ) (p : Place) → slice_get (methods_by_number cs) n ≡ Some p → (o : Option ClassFile) → slice_get cs p.0 ≡ o → IsSomeAnd o (λ c. p.1 < length c.methods) → Stands cs n p
stands_case law cs n p h None e s = absurd s
stands_case law cs n p h (Some c) e s =
    let m = get_below c.methods p.1 s in
    let at : method_at cs p ≡ Some m.0 = ap (λ o. onto o (λ c. slice_get c.methods p.1)) e ∙ m.1 in
    record {
      class = c;
      member = m.0;
      class_at = e;
      member_at = m.1;
      method =
          law cs n ∙ (ap (λ o. onto o (resolved_method cs)) h
          ∙ (ap (λ o. onto o (λ c. option_map (method_in cs p.0 c) (method_at cs p))) e ∙ ap (option_map (method_in cs p.0 c)) at));
    }

pub stands : MethodsStandByNumber → MembersAreThere → (cs : List ClassFile) (n : ℕ) (p : Place) → slice_get (methods_by_number cs) n ≡ Some p → Stands cs n p
stands law there cs n p h = stands_case law cs n p h (slice_get cs p.0) refl ((there cs n p).0 h)

-- no method has a number past these
pub methods_end : {A : Type 0} (g : Method → A) → MethodsStandByNumber → (cs : List ClassFile) (n : ℕ) → length (methods_by_number cs) ≤ n → take n (map g (resolved_methods cs)) ≡ map g (resolved_methods cs)
methods_end g law cs n past =
    let none : slice_get (methods_by_number cs) n ≡ None = past_end (methods_by_number cs) n past in
    take_past (map g (resolved_methods cs)) n (slice_get-map g (resolved_methods cs) n ∙ ap (option_map g) (law cs n ∙ ap (λ o. onto o (resolved_method cs)) none))
  where
    past_end : {B : Type 0} (xs : List B) (n : ℕ) → length xs ≤ n → slice_get xs n ≡ None
    past_end [] n le = refl
    past_end (x ∷ xs) zero le = absurd (omega (arith, le))
    past_end (x ∷ xs) (suc n) le = past_end xs n (omega (arith, le))

abbrev pub sized_code : Option Code → ℕ
sized_code o = option_map_or (λ (code : Code). 4 + (3 * length code.handlers + words_for (length code.code))) o 0

code_case : (cs : List ClassFile) (k : ClassFile) (o : Option Code) → option_map_or body_size (option_map (body_in cs k) o) 0 ≡ sized_code o
code_case cs k None = refl
code_case cs k (Some code) = ap (λ n. 4 + (3 * n + words_for (length code.code))) (length-map code.handlers (handler_of cs k))

code_size : (cs : List ClassFile) (c : ℕ) (k : ClassFile) (m : Member) (o : Option Code) → code_of m ≡ o → method_size (method_in cs c k m) ≡ sized_code o
code_size cs c k m o h = ap (λ o. option_map_or body_size (option_map (body_in cs k) o) 0) h ∙ code_case cs k o

pub method_sized : MethodsStandByNumber → MembersAreThere → (cs : List ClassFile) (n : ℕ) (p : Place) (o : Option Code) → slice_get (methods_by_number cs) n ≡ Some p
    → o ≡ onto (onto (slice_get (methods_by_number cs) n) (method_at cs)) code_of
    → slice_get (map method_size (resolved cs).methods) n ≡ Some (sized_code o)
method_sized law there cs n p o h e =
    let s = stands law there cs n p h in
    let at : method_at cs p ≡ Some s.member = ap (λ o. onto o (λ c. slice_get c.methods p.1)) s.class_at ∙ s.member_at in
    let code : code_of s.member ≡ o = sym (e ∙ (ap (λ q. onto (onto q (method_at cs)) code_of) h ∙ ap (λ q. onto q code_of) at)) in
    slice_get-map method_size (resolved_methods cs) n ∙ (ap (option_map method_size) s.method ∙ ap Some (code_size cs p.0 s.class s.member o code))

-- ---- the instance fields of each class

abbrev pub HasFields : List ClassFile → (class : ℕ) → Run → Type 0
HasFields cs c run = IsRun 1 (map declared_words ((resolved cs).fields c)) run
