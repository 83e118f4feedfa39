-- The steps of the loop over the methods, and its ends.
use Rattle.std.proofs.Common.{◌≡◌, ℕ, ◌+◌, ◌<◌, ◌≤◌, ◌^◌, List, [], ◌∷◌, ◌++◌, length, Some, None, sym, ◌∙◌, ap, ⊎_elim}
use Rattle.std.specs.Prelude.{slice_get}
use Rattle.std.proofs.lemmas.Bool.{cases_lt}
use Rattle.std.proofs.lemmas.Option.{slice_get_past}
use Rattle.lists.specs.Lists.{onto}
use Rattle.class_pool.specs.declared.class.ClassFile.{ClassFile}
use Rattle.class_pool.specs.declared.class.Code.{Code}
use Rattle.class_pool.specs.Found.{code_of}
use Rattle.class_lookup.specs.Lookup.{method_at}
use Rattle.image_facts.specs.declared.method.CodedMethod.{CodedMethod}
use Rattle.image_facts.specs.Methods.{AreMethods}
use Rattle.bytecode_model.specs.Program.{Body, body_of}
use Rattle.program_tables.specs.Laws.{MethodsStandByNumber}
use Rattle.program_tables.specs.Numbers.{methods_by_number}
use Rattle.program_tables.specs.Resolved.{resolved}
use Rattle.image_words.specs.Regions.{places_of}
use Rattle.jopizer.specs.Methods.Fitting.{MethodFits, code_blocks}
use Rattle.jopizer.specs.Methods.Placed.{ArePlaced}
use Rattle.jopizer.proofs.MethodsLemmas.Coded.{code_at, body_of_code, code_of_body, coded_first}
use Rattle.jopizer.proofs.MethodsLemmas.Filled.{AreFilled, one_more, all_filled, some_case, if_in}
use Rattle.jopizer.proofs.MethodsLemmas.Places.{has_place, place_at}

-- a method with code has a place
pub within : MethodsStandByNumber → (cs : List ClassFile) (places : List ℕ) (n : ℕ) (k : Code) → ArePlaced cs places → code_at cs n ≡ Some k → n < length places
within stand cs places n k placed h = let b = body_of_code stand cs n k h in has_place cs places n b.body placed b.is_body

pub next : MethodsStandByNumber → (cs : List ClassFile) (places : List ℕ) (items : List CodedMethod) (n : ℕ) (k : Code) (e : CodedMethod) → ArePlaced cs places → AreFilled cs items n → code_at cs n ≡ Some k
    → slice_get places n ≡ Some e.place → e.max_locals ≡ k.max_locals → e.code.now ≡ k.code → AreFilled cs (items ++ e ∷ []) (n + 1)
next stand cs places items n k e placed filled h at locals code =
    let b = body_of_code stand cs n k h in
    one_more cs items n filled b.body b.is_body e (record {
      place_is = place_at cs places n e.place b.body placed b.is_body at;
      max_locals = locals ∙ sym b.max_locals;
      code = code ∙ sym b.code;
    })

-- ---- where no method is left that has code

pub none_past : (cs : List ClassFile) (n : ℕ) → length (methods_by_number cs) ≤ n → code_at cs n ≡ None
none_past cs n past = ap (λ o. onto (onto o (method_at cs)) code_of) (slice_get_past (methods_by_number cs) n past)

before : MethodsStandByNumber → (cs : List ClassFile) (n : ℕ) → code_at cs n ≡ None → (m : ℕ) (b : Body) → body_of (resolved cs) m ≡ Some b → m < n
before stand cs n none m b h = ⊎_elim (λ lt. lt) (λ le. let k = code_of_body stand cs m b h in absurd (coded_first cs n m none le k.0 k.1)) (cases_lt m n)

pub whole : MethodsStandByNumber → (cs : List ClassFile) (items : List CodedMethod) (n : ℕ) → AreFilled cs items n → n < 2 ^ 32 → code_at cs n ≡ None → AreMethods (resolved cs) (places_of cs) items
whole stand cs items n filled few none = all_filled cs items n filled few (before stand cs n none)

pub all_fit : MethodsStandByNumber → (cs : List ClassFile) (blocks block_words n : ℕ) → ((m : ℕ) → m < n → MethodFits (resolved cs) blocks block_words m) → code_at cs n ≡ None → (m : ℕ) → MethodFits (resolved cs) blocks block_words m
all_fit stand cs blocks block_words n fit none m =
    some_case (body_of (resolved cs) m) (λ b. code_blocks block_words b ≤ blocks) (λ b h.
    if_in (body_of (resolved cs) m) b (λ b. code_blocks block_words b ≤ blocks) h (fit m (before stand cs n none m b h)))
