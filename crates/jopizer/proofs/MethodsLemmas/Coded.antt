-- The methods with code have the first numbers.
use Rattle.std.proofs.Common.{◌≡◌, ℕ, zero, suc, ◌-◌, ◌<◌, ◌≤◌, Bool, true, false, not, List, [], ◌∷◌, ◌++◌, length, Option, Some, None, refl, sym, ◌∙◌, ap, subst, arith, cond, ⊎_elim}
use Rattle.std.specs.Prelude.{slice_get, is_some}
use Rattle.std.specs.Option.{option_map, option_map_or}
use Rattle.std.specs.List.{filter}
use Rattle.std.proofs.lemmas.Bool.{cases_lt, false≢true}
use Rattle.lists.specs.Lists.{onto}
use Rattle.lists.proofs.Lemmas.{none≢some, some_same, onto_some, map_some}
use Rattle.class_pool.specs.declared.class.ClassFile.{ClassFile}
use Rattle.class_pool.specs.declared.class.Code.{Code}
use Rattle.class_pool.specs.declared.class.Member.{Member}
use Rattle.class_pool.specs.Found.{code_of}
use Rattle.class_lookup.specs.Lookup.{Place, method_at}
use Rattle.bytecode_model.specs.Program.{Method, Body, body_of}
use Rattle.program_tables.specs.Laws.{MethodsStandByNumber}
use Rattle.program_tables.specs.Numbers.{places_of, is_coded, methods_by_number}
use Rattle.program_tables.specs.Resolved.{body_in, method_in, resolved_method, resolved_methods, resolved}

abbrev pub code_at : List ClassFile → ℕ → Option Code
code_at cs m = onto (onto (slice_get (methods_by_number cs) m) (method_at cs)) code_of

-- ---- its body

pub record HasBody (cs : List ClassFile) (m : ℕ) (k : Code) : Type 0 where
  pub body : Body
  pub is_body : body_of (resolved cs) m ≡ Some body
  pub max_locals : body.max_locals ≡ k.max_locals
  pub code : body.code ≡ k.code

pub body_of_code : MethodsStandByNumber → (cs : List ClassFile) (m : ℕ) (k : Code) → code_at cs m ≡ Some k → HasBody cs m k
body_of_code by_number cs m k h =
    let r = onto_some (onto (slice_get (methods_by_number cs) m) (method_at cs)) code_of k h in
    let p = onto_some (slice_get (methods_by_number cs) m) (method_at cs) r.0 r.1 in
    let c = onto_some (slice_get cs p.0.0) (λ c. slice_get c.methods p.0.1) r.0 p.2 in
    let method : slice_get (resolved_methods cs) m ≡ Some (method_in cs p.0.0 c.0 r.0) =
    by_number cs m ∙ ap (λ o. onto o (resolved_method cs)) p.1 ∙ ap (λ o. onto o (λ c. option_map (method_in cs p.0.0 c) (method_at cs p.0))) c.1 ∙ ap (option_map (method_in cs p.0.0 c.0)) p.2 in
    record {
      body = body_in cs c.0 k;
      is_body = ap (λ o. onto o (λ (x : Method). x.body)) method ∙ ap (option_map (body_in cs c.0)) r.2;
      max_locals = refl;
      code = refl;
    }

pub code_of_body : MethodsStandByNumber → (cs : List ClassFile) (m : ℕ) (b : Body) → body_of (resolved cs) m ≡ Some b → (k : Code) × (code_at cs m ≡ Some k)
code_of_body by_number cs m b h =
    let r = onto_some (slice_get (resolved_methods cs) m) (λ (x : Method). x.body) b h in
    let p = onto_some (slice_get (methods_by_number cs) m) (resolved_method cs) r.0 (sym (by_number cs m) ∙ r.1) in
    let c = onto_some (slice_get cs p.0.0) (λ c. option_map (method_in cs p.0.0 c) (method_at cs p.0)) r.0 p.2 in
    let k = map_some (method_in cs p.0.0 c.0) (method_at cs p.0) r.0 c.2 in
    let body : option_map (body_in cs c.0) (code_of k.0) ≡ Some b = ap (λ (x : Method). x.body) k.2 ∙ r.2 in
    let code = map_some (body_in cs c.0) (code_of k.0) b body in
    (code.0, ap (λ o. onto (onto o (method_at cs)) code_of) p.1 ∙ ap (λ o. onto o code_of) k.1 ∙ code.1)

-- ---- the numbers

filtered_case : {X : Type 0} (test : X → Bool) (y : X) (ys : List X) → ((i : ℕ) (x : X) → slice_get (filter test ys) i ≡ Some x → test x ≡ true) → (b : Bool) → test y ≡ b → (i : ℕ) (x : X)
    → slice_get (cond b (y ∷ filter test ys) (filter test ys)) i ≡ Some x → test x ≡ true
filtered_case {X} test y ys rest true e zero x h = subst (λ (z : X). test z ≡ true) (some_same y x h) e
filtered_case test y ys rest true e (suc i) x h = rest i x h
filtered_case test y ys rest false e i x h = rest i x h

filtered : {X : Type 0} (test : X → Bool) (xs : List X) (i : ℕ) (x : X) → slice_get (filter test xs) i ≡ Some x → test x ≡ true
filtered test [] i x h = absurd (none≢some x h)
filtered test (y ∷ ys) i x h = filtered_case test y ys (filtered test ys) (test y) refl i x h

in_front : {X : Type 0} (xs ys : List X) (i : ℕ) → i < length xs → slice_get (xs ++ ys) i ≡ slice_get xs i
in_front [] ys i h = absurd (omega arith)
in_front (x ∷ xs) ys zero h = refl
in_front (x ∷ xs) ys (suc i) h = in_front xs ys i (omega arith)

there : {X : Type 0} (xs : List X) (i : ℕ) → i < length xs → (x : X) × (slice_get xs i ≡ Some x)
there [] i h = absurd (omega arith)
there (x ∷ xs) zero h = (x, refl)
there (x ∷ xs) (suc i) h = there xs i (omega arith)

behind : {X : Type 0} (xs ys : List X) (i : ℕ) → length xs ≤ i → slice_get (xs ++ ys) i ≡ slice_get ys (i - length xs)
behind [] ys i h = ap (slice_get ys) (let e : i ≡ i - 0 = omega arith in e)
behind (x ∷ xs) ys zero h = absurd (omega arith)
behind (x ∷ xs) ys (suc i) h = behind xs ys i (omega arith) ∙ ap (slice_get ys) (let e : i - length xs ≡ suc i - suc (length xs) = omega arith in e)

-- a place has code exactly where it passes the test
coded_here : (cs : List ClassFile) (p : Place) → is_coded cs p ≡ true → (k : Code) × (onto (method_at cs p) code_of ≡ Some k)
coded_here cs p h = by_member (method_at cs p) h
  where
    of_code : (o : Option Code) → is_some o ≡ true → (k : Code) × (o ≡ Some k)
    of_code None h = absurd (false≢true h)
    of_code (Some k) h = (k, refl)

    by_member : (o : Option Member) → option_map_or (λ (m : Member). is_some (code_of m)) o false ≡ true → (k : Code) × (onto o code_of ≡ Some k)
    by_member None h = absurd (false≢true h)
    by_member (Some m) h = of_code (code_of m) h

not_coded : (cs : List ClassFile) (p : Place) (k : Code) → onto (method_at cs p) code_of ≡ Some k → is_coded cs p ≡ true
not_coded cs p k h =
    let r = onto_some (method_at cs p) code_of k h in
    ap (λ o. option_map_or (λ (m : Member). is_some (code_of m)) o false) r.1 ∙ ap is_some r.2

-- behind a method without code there is none with code
pub coded_first : (cs : List ClassFile) (n m : ℕ) → code_at cs n ≡ None → n ≤ m → (k : Code) → code_at cs m ≡ Some k → ⊥
unfolding methods_by_number
coded_first cs n m none le k h =
    let all = places_of (λ c. c.methods) cs in
    let with_code = filter (is_coded cs) all in
    let others = filter (λ p. not (is_coded cs p)) all in
    let r = onto_some (onto (slice_get (with_code ++ others) m) (method_at cs)) code_of k h in
    let p = onto_some (slice_get (with_code ++ others) m) (method_at cs) r.0 r.1 in
    ⊎_elim (λ inside.
    let q = there with_code n (omega (arith, le, inside)) in
    let c = coded_here cs q.0 (filtered (is_coded cs) all n q.0 q.1) in
    let found : code_at cs n ≡ Some c.0 = ap (λ o. onto (onto o (method_at cs)) code_of) (in_front with_code others n (omega (arith, le, inside)) ∙ q.1) ∙ c.1 in
    none≢some c.0 (sym none ∙ found))
    (λ past.
    let test : not (is_coded cs p.0) ≡ true = filtered (λ p. not (is_coded cs p)) all (m - length with_code) p.0 (sym (behind with_code others m past) ∙ p.1) in
    let coded : is_coded cs p.0 ≡ true = not_coded cs p.0 k (ap (λ o. onto o code_of) p.2 ∙ r.2) in
    false≢true (sym (ap not coded) ∙ test)) (cases_lt m (length with_code))
