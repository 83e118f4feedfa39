-- The code of a method of a program, and what fails first in it.
use Rattle.std.proofs.Common.{◌≡◌, ℕ, ◌≤◌, List, length, Option, Some, None, refl, sym, ap, ◌∙◌}
use Rattle.std.specs.Prelude.{slice_get}
use Rattle.std.specs.Option.{option_map, option_map_or}
use Rattle.std.proofs.lemmas.Option.{slice_get_past}
use Rattle.class_pool.specs.declared.class.Code.{Code}
use Rattle.class_pool.specs.declared.class.Member.{Member}
use Rattle.class_pool.specs.declared.class.ClassFile.{ClassFile}
use Rattle.class_pool.specs.Found.{code_of}
use Rattle.class_rules.specs.Rules.{IsRightCode, IsRightMethod}
use Rattle.class_rules.specs.Grammar.{IsClass}
use Rattle.class_rules.specs.Found.{MethodsHaveCode}
use Rattle.class_lookup.specs.Lookup.{Place, method_at}
use Rattle.lists.specs.Lists.{onto}
use Rattle.lists.proofs.Lemmas.{none≢some, map_some, onto_some}
use Rattle.bytecode_model.specs.Program as model
use Rattle.bytecode_model.specs.Program.{Method, Body}
use Rattle.frame_types.specs.Frames.{frames_of}
use Rattle.program_tables.specs.Laws.{MethodsStandByNumber}
use Rattle.program_tables.specs.Numbers.{methods_by_number}
use Rattle.program_tables.specs.Resolved.{method_in, body_in, resolved_method, resolved}
use Rattle.program_tables.specs.Resolving.{IsResolved}
use Rattle.program_laws.proofs.Facts.{all_at}
use Rattle.bytecode_verifier.specs.Failure.{Failure, code_failure, at_code, method_failure, maps_in, maps_of}
use Rattle.bytecode_verifier.specs.Methods.{IsCodeOf, method_of, body_of}

-- the code of the method of a number, if it has some
abbrev pub code_at : List ClassFile → (number : ℕ) → Option Code
code_at cs n = onto (onto (slice_get (methods_by_number cs) n) (method_at cs)) code_of

pub code_there : (cs : List ClassFile) (n : ℕ) (k : Code) → code_at cs n ≡ Some k → IsCodeOf cs n k
code_there cs n k h =
    let m = onto_some (onto (slice_get (methods_by_number cs) n) (method_at cs)) code_of k h in
    let p = onto_some (slice_get (methods_by_number cs) n) (method_at cs) m.0 m.1 in
    let c = onto_some (slice_get cs p.0.0) (λ c. slice_get c.methods p.0.1) m.0 p.2 in
    record { place = p.0; class = c.0; member = m.0; by_number = p.1; in_classes = c.1; in_methods = c.2; has_code = m.2 }

-- what is said of it
pub said : {A : Type 0} (cs : List ClassFile) (n : ℕ) (k : Code) (h : IsCodeOf cs n k) (none : A) (say : Place → ClassFile → Member → Code → A) → at_code cs n none say ≡ say h.place h.class h.member k
said cs n k h none say =
    ap (λ o. option_map_or (λ p. elim (slice_get cs p.0) [ None ↦ none | Some c ↦ elim (slice_get c.methods p.1) [ None ↦ none | Some m ↦ elim (code_of m) [ None ↦ none | Some k ↦ say p c m k ] ] ]) o none) h.by_number
    ∙ (ap (λ o. elim o [ None ↦ none | Some c ↦ elim (slice_get c.methods h.place.1) [ None ↦ none | Some m ↦ elim (code_of m) [ None ↦ none | Some k ↦ say h.place c m k ] ] ]) h.in_classes
    ∙ (ap (λ o. elim o [ None ↦ none | Some m ↦ elim (code_of m) [ None ↦ none | Some k ↦ say h.place h.class m k ] ]) h.in_methods
    ∙ ap (λ o. elim o [ None ↦ none | Some k ↦ say h.place h.class h.member k ]) h.has_code))

pub failure_is : (cs : List ClassFile) (n : ℕ) (k : Code) (h : IsCodeOf cs n k) → method_failure cs n ≡ code_failure cs n (method_of cs n k h) (body_of cs n k h) h.class h.member k
unfolding method_failure
failure_is cs n k h = said cs n k h None (λ p c m k. code_failure cs n (method_in cs p.0 c m) (body_in cs c k) c m k)

pub maps_are : (cs : List ClassFile) (n : ℕ) (k : Code) (h : IsCodeOf cs n k) → maps_of cs n ≡ maps_in cs (frames_of h.class h.member k)
unfolding maps_of
maps_are cs n k h = said cs n k h (λ pc. None) (λ p c m k. maps_in cs (frames_of c m k))

-- without code
no_code : (o : Option Code) (say : Code → Option Failure) → o ≡ None → ◌≡◌ {A = Option Failure} (elim o [ None ↦ None | Some k ↦ say k ]) None
no_code None say h = refl
no_code (Some k) say h = absurd (none≢some k (sym h))

no_method : (o : Option Member) (say : Member → Code → Option Failure) → onto o code_of ≡ None → ◌≡◌ {A = Option Failure} (elim o [ None ↦ None | Some m ↦ elim (code_of m) [ None ↦ None | Some k ↦ say m k ] ]) None
no_method None say h = refl
no_method (Some m) say h = no_code (code_of m) (say m) h

no_class : (o : Option ClassFile) (i : ℕ) (say : ClassFile → Member → Code → Option Failure) → onto (onto o (λ c. slice_get c.methods i)) code_of ≡ None
    → ◌≡◌ {A = Option Failure} (elim o [ None ↦ None | Some c ↦ elim (slice_get c.methods i) [ None ↦ None | Some m ↦ elim (code_of m) [ None ↦ None | Some k ↦ say c m k ] ] ]) None
no_class None i say h = refl
no_class (Some c) i say h = no_method (slice_get c.methods i) (say c) h

no_place : (cs : List ClassFile) (o : Option Place) (say : Place → ClassFile → Member → Code → Option Failure) → onto (onto o (method_at cs)) code_of ≡ None
    → ◌≡◌ {A = Option Failure} (option_map_or (λ p. elim (slice_get cs p.0) [ None ↦ None | Some c ↦ elim (slice_get c.methods p.1) [ None ↦ None | Some m ↦ elim (code_of m) [ None ↦ None | Some k ↦ say p c m k ] ] ]) o None) None
no_place cs None say h = refl
no_place cs (Some p) say h = no_class (slice_get cs p.0) p.1 (say p) h

pub no_failure : (cs : List ClassFile) (n : ℕ) → code_at cs n ≡ None → method_failure cs n ≡ None
unfolding method_failure
no_failure cs n h = no_place cs (slice_get (methods_by_number cs) n) (λ p c m k. code_failure cs n (method_in cs p.0 c m) (body_in cs c k) c m k) h

-- ---- the method in the program

pub method_is : MethodsStandByNumber → (cs : List ClassFile) (n : ℕ) (k : Code) (h : IsCodeOf cs n k) → slice_get (resolved cs).methods n ≡ Some (method_of cs n k h)
method_is law cs n k h =
    law cs n
    ∙ (ap (λ o. onto o (resolved_method cs)) h.by_number
    ∙ (ap (λ o. onto o (λ c. option_map (method_in cs h.place.0 c) (method_at cs h.place))) h.in_classes
    ∙ ap (option_map (method_in cs h.place.0 h.class)) (ap (λ o. onto o (λ c. slice_get c.methods h.place.1)) h.in_classes ∙ h.in_methods)))

pub body_is : (cs : List ClassFile) (n : ℕ) (k : Code) (h : IsCodeOf cs n k) → (method_of cs n k h).body ≡ Some (body_of cs n k h)
body_is cs n k h = ap (option_map (body_in cs h.class)) h.has_code

pub body_there : MethodsStandByNumber → (cs : List ClassFile) (n : ℕ) (k : Code) (h : IsCodeOf cs n k) → model.body_of (resolved cs) n ≡ Some (body_of cs n k h)
body_there law cs n k h = ap (λ o. onto o (λ m. m.body)) (method_is law cs n k h) ∙ body_is cs n k h

-- each method of the program that has a body has code
pub record HasItsCode (cs : List ClassFile) (n : ℕ) (m : Method) (b : Body) : Type 0 where
  pub code : Code
  pub there : IsCodeOf cs n code
  pub method : method_of cs n code there ≡ m
  pub body : body_of cs n code there ≡ b

pub has_code : MethodsStandByNumber → (cs : List ClassFile) (n : ℕ) (m : Method) (b : Body) → slice_get (resolved cs).methods n ≡ Some m → m.body ≡ Some b → HasItsCode cs n m b
has_code law cs n m b e f =
    let p = onto_some (slice_get (methods_by_number cs) n) (resolved_method cs) m (sym (law cs n) ∙ e) in
    let c = onto_some (slice_get cs p.0.0) (λ c. option_map (method_in cs p.0.0 c) (method_at cs p.0)) m p.2 in
    let x = map_some (method_in cs p.0.0 c.0) (method_at cs p.0) m c.2 in
    let at : slice_get c.0.methods p.0.1 ≡ Some x.0 = ap (λ o. onto o (λ c. slice_get c.methods p.0.1)) (sym c.1) ∙ x.1 in
    let k = map_some (body_in cs c.0) (code_of x.0) b (ap (λ (m : Method). m.body) x.2 ∙ f) in
    record {
      code = k.0;
      there = record { place = p.0; class = c.0; member = x.0; by_number = p.1; in_classes = c.1; in_methods = at; has_code = k.1 };
      method = x.2;
      body = k.2;
    }

-- ---- what a class file gives of code

pub right_code : MethodsHaveCode → (cs : List ClassFile) → IsResolved cs → (n : ℕ) (k : Code) (h : IsCodeOf cs n k) → IsRightCode h.class.pool k
right_code law cs r n k h =
    let class = all_at IsClass cs h.place.0 h.class r.grammar h.in_classes in
    (law h.class h.member (all_at (IsRightMethod h.class) h.class.methods h.place.1 h.member class.rules.methods h.in_methods)).0 k h.has_code

-- what is no method's number has no failure
pub past_methods : (cs : List ClassFile) (n : ℕ) → length (methods_by_number cs) ≤ n → method_failure cs n ≡ None
past_methods cs n h = no_failure cs n (ap (λ o. onto (onto o (method_at cs)) code_of) (slice_get_past (methods_by_number cs) n h))
