-- The methods with code: they have the first numbers, and are those of the program that have a body.
use Rattle.std.proofs.Common.{◌≡◌, Bor, ℕ, zero, suc, ◌-◌, ◌<◌, ◌≤◌, Bool, true, false, not, List, [], ◌∷◌, ◌++◌, map, length, Option, Some, None, refl, sym, ◌∙◌, ap, ◌+◌, arith, ⊎_elim}
use Rattle.std.specs.Prelude.{slice_get, is_some}
use Rattle.std.specs.Option.{option_copied, option_map, option_map_or}
use Rattle.std.specs.List.{filter}
use Rattle.std.proofs.lemmas.Bool.{cases_lt, false≢true}
use Rattle.std.proofs.lemmas.Option.{slice_get_past}
use Rattle.lists.specs.Lists.{onto}
use Rattle.lists.proofs.Lemmas.{none≢some, onto_some, map_some}
use Rattle.class_pool.specs.declared.class.ClassFile.{ClassFile}
use Rattle.class_pool.specs.declared.class.Code.{Code}
use Rattle.class_pool.specs.declared.class.Member.{Member}
use Rattle.class_pool.specs.Found.{code_of}
use Rattle.class_lookup.specs.Lookup.{Place, method_at}
use Rattle.bytecode_model.specs.Program.{Method, Body, body_of}
use Rattle.method_flow.specs.Flow.{range_of}
use Rattle.program_tables.specs.Laws.{MethodsStandByNumber}
use Rattle.program_tables.specs.Numbers.{places_of, is_coded, methods_by_number}
use Rattle.program_tables.specs.Resolved.{body_in, handler_of, method_in, resolved_method, resolved_methods, resolved}
use Rattle.flow_table.specs.Made.{range_at}
use Rattle.flow_table.proofs.Listing.{contains_get, filter_found}

abbrev pub code_at : List ClassFile → ℕ → Option Code
code_at cs m = onto (onto (slice_get (methods_by_number cs) m) (method_at cs)) code_of

-- ---- the body

pub record HasBody (cs : List ClassFile) (m : ℕ) (k : Code) : Type 0 where
  pub body : Body
  pub is_body : body_of (resolved cs) m ≡ Some body
  pub code : body.code ≡ k.code
  pub ranges : map range_of body.handlers ≡ map range_at k.handlers

same_ranges : (cs : List ClassFile) (c : ClassFile) (hs : List (ℕ × ℕ × ℕ × ℕ)) → map range_of (map (handler_of cs c) hs) ≡ map range_at hs
same_ranges cs c [] = refl
same_ranges cs c (h ∷ hs) = ap (λ rs. range_at h ∷ rs) (same_ranges cs c hs)

pub body_of_code : MethodsStandByNumber → (cs : List ClassFile) (m : ℕ) (k : Code) → code_at cs m ≡ Some k → HasBody cs m k
body_of_code by_number cs m k h =
    let r = onto_some (onto (slice_get (methods_by_number cs) m) (method_at cs)) code_of k h in
    let p = onto_some (slice_get (methods_by_number cs) m) (method_at cs) r.0 r.1 in
    let c = onto_some (slice_get cs p.0.0) (λ c. slice_get c.methods p.0.1) r.0 p.2 in
    let method : slice_get (resolved_methods cs) m ≡ Some (method_in cs p.0.0 c.0 r.0) =
    by_number cs m ∙ ap (λ o. onto o (resolved_method cs)) p.1 ∙ ap (λ o. onto o (λ c. option_map (method_in cs p.0.0 c) (method_at cs p.0))) c.1 ∙ ap (option_map (method_in cs p.0.0 c.0)) p.2 in
    record {
      body = body_in cs c.0 k;
      is_body = ap (λ o. onto o (λ (x : Method). x.body)) method ∙ ap (option_map (body_in cs c.0)) r.2;
      code = refl;
      ranges = same_ranges cs c.0 k.handlers;
    }

pub code_of_body : MethodsStandByNumber → (cs : List ClassFile) (m : ℕ) (b : Body) → body_of (resolved cs) m ≡ Some b → (k : Code) × (code_at cs m ≡ Some k)
code_of_body by_number cs m b h =
    let r = onto_some (slice_get (resolved_methods cs) m) (λ (x : Method). x.body) b h in
    let p = onto_some (slice_get (methods_by_number cs) m) (resolved_method cs) r.0 (sym (by_number cs m) ∙ r.1) in
    let c = onto_some (slice_get cs p.0.0) (λ c. option_map (method_in cs p.0.0 c) (method_at cs p.0)) r.0 p.2 in
    let k = map_some (method_in cs p.0.0 c.0) (method_at cs p.0) r.0 c.2 in
    let body : option_map (body_in cs c.0) (code_of k.0) ≡ Some b = ap (λ (x : Method). x.body) k.2 ∙ r.2 in
    let code = map_some (body_in cs c.0) (code_of k.0) b body in
    (code.0, ap (λ o. onto (onto o (method_at cs)) code_of) p.1 ∙ ap (λ o. onto o code_of) k.1 ∙ code.1)

-- ---- the numbers

in_front : {X : Type 0} (xs ys : List X) (i : ℕ) → i < length xs → slice_get (xs ++ ys) i ≡ slice_get xs i
in_front [] ys i h = absurd (omega arith)
in_front (x ∷ xs) ys zero h = refl
in_front (x ∷ xs) ys (suc i) h = in_front xs ys i (omega arith)

there : {X : Type 0} (xs : List X) (i : ℕ) → i < length xs → (x : X) × (slice_get xs i ≡ Some x)
there [] i h = absurd (omega arith)
there (x ∷ xs) zero h = (x, refl)
there (x ∷ xs) (suc i) h = there xs i (omega arith)

behind : {X : Type 0} (xs ys : List X) (i : ℕ) → length xs ≤ i → slice_get (xs ++ ys) i ≡ slice_get ys (i - length xs)
behind [] ys i h = ap (slice_get ys) (let e : i ≡ i - 0 = omega arith in e)
behind (x ∷ xs) ys zero h = absurd (omega arith)
behind (x ∷ xs) ys (suc i) h = behind xs ys i (omega arith) ∙ ap (slice_get ys) (let e : i - length xs ≡ suc i - suc (length xs) = omega arith in e)

-- a place has code exactly where it passes the test
coded_here : (cs : List ClassFile) (p : Place) → is_coded cs p ≡ true → (k : Code) × (onto (method_at cs p) code_of ≡ Some k)
coded_here cs p h = by_member (method_at cs p) h
  where
    of_code : (o : Option Code) → is_some o ≡ true → (k : Code) × (o ≡ Some k)
    of_code None h = absurd (false≢true h)
    of_code (Some k) h = (k, refl)

    by_member : (o : Option Member) → option_map_or (λ (m : Member). is_some (code_of m)) o false ≡ true → (k : Code) × (onto o code_of ≡ Some k)
    by_member None h = absurd (false≢true h)
    by_member (Some m) h = of_code (code_of m) h

not_coded : (cs : List ClassFile) (p : Place) (k : Code) → onto (method_at cs p) code_of ≡ Some k → is_coded cs p ≡ true
not_coded cs p k h =
    let r = onto_some (method_at cs p) code_of k h in
    ap (λ o. option_map_or (λ (m : Member). is_some (code_of m)) o false) r.1 ∙ ap is_some r.2

passes : {X : Type 0} (test : X → Bool) (xs : List X) (i : ℕ) (x : X) → slice_get (filter test xs) i ≡ Some x → test x ≡ true
passes test xs i x h = (filter_found test xs x (contains_get (filter test xs) i x h)).1

-- behind a method without code there is none with code
pub coded_first : (cs : List ClassFile) (n m : ℕ) → code_at cs n ≡ None → n ≤ m → (k : Code) → code_at cs m ≡ Some k → ⊥
unfolding methods_by_number
coded_first cs n m none le k h =
    let all = places_of (λ c. c.methods) cs in
    let with_code = filter (is_coded cs) all in
    let others = filter (λ p. not (is_coded cs p)) all in
    let r = onto_some (onto (slice_get (with_code ++ others) m) (method_at cs)) code_of k h in
    let p = onto_some (slice_get (with_code ++ others) m) (method_at cs) r.0 r.1 in
    ⊎_elim (λ inside.
    let q = there with_code n (omega (arith, le, inside)) in
    let c = coded_here cs q.0 (passes (is_coded cs) all n q.0 q.1) in
    let found : code_at cs n ≡ Some c.0 = ap (λ o. onto (onto o (method_at cs)) code_of) (in_front with_code others n (omega (arith, le, inside)) ∙ q.1) ∙ c.1 in
    none≢some c.0 (sym none ∙ found))
    (λ past.
    let test : not (is_coded cs p.0) ≡ true = passes (λ p. not (is_coded cs p)) all (m - length with_code) p.0 (sym (behind with_code others m past) ∙ p.1) in
    let coded : is_coded cs p.0 ≡ true = not_coded cs p.0 k (ap (λ o. onto o code_of) p.2 ∙ r.2) in
    false≢true (sym (ap not coded) ∙ test)) (cases_lt m (length with_code))

-- ---- how many there are

pub none_past : (cs : List ClassFile) (n : ℕ) → length (methods_by_number cs) ≤ n → code_at cs n ≡ None
none_past cs n past = ap (λ o. onto (onto o (method_at cs)) code_of) (slice_get_past (methods_by_number cs) n past)

-- so far each method has code
abbrev pub AllCoded : List ClassFile → ℕ → Type 0
AllCoded cs n = (m : ℕ) → m < n → is_some (body_of (resolved cs) m) ≡ true

pub none_coded : (cs : List ClassFile) → AllCoded cs 0
none_coded cs m lt = absurd (omega (arith, lt))

pub one_coded : MethodsStandByNumber → (cs : List ClassFile) (n : ℕ) (k : Code) → AllCoded cs n → code_at cs n ≡ Some k → AllCoded cs (n + 1)
one_coded stand cs n k h is m lt =
    ⊎_elim (λ less. h m less)
    (λ ge.
    let same : n ≡ m = omega (arith, lt, ge) in
    let b = body_of_code stand cs n k is in
    ap (λ (j : ℕ). is_some (body_of (resolved cs) j)) (sym same) ∙ ap is_some b.is_body) (cases_lt m n)

pub there_is : {A : Type 0} (o : Option A) → is_some o ≡ true → (x : A) × (o ≡ Some x)
there_is None h = absurd (false≢true h)
there_is (Some x) h = (x, refl)

pub copied_none : {T : Type 0} (o : Option (Bor T)) → is_some o ≡ false → option_copied o ≡ None
copied_none None h = refl
copied_none (Some x) h = absurd (false≢true (sym h))

pub copied_some : {T : Type 0} (o : Option (Bor T)) → is_some o ≡ true → (x : T) × (option_copied o ≡ Some x)
copied_some None h = absurd (false≢true h)
copied_some (Some x) h = (x.now, refl)

-- where no method is left that has code
pub just_coded : MethodsStandByNumber → (cs : List ClassFile) (n : ℕ) → AllCoded cs n → code_at cs n ≡ None → (m : ℕ) → ((is_some (body_of (resolved cs) m) ≡ true) → m < n) × (m < n → is_some (body_of (resolved cs) m) ≡ true)
just_coded stand cs n h none m = (
  λ has. ⊎_elim (λ lt. lt) (λ le. let b = there_is (body_of (resolved cs) m) has in let k = code_of_body stand cs m b.0 b.1 in absurd (coded_first cs n m none le k.0 k.1)) (cases_lt m n),
  λ lt. h m lt,
)
