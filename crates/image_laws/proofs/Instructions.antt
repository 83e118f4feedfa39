-- The instructions of a class whose classes are resolved: what each names is resolved.
use Rattle.std.proofs.Common.{◌≡◌, ℕ, zero, suc, ◌≤◌, Bool, true, false, List, [], ◌∷◌, ◌++◌, Option, Some, None, map, length, refl, sym, ap, ◌∙◌, subst, arith}
use Rattle.std.specs.Prelude.{slice_get, Ok, if◌then◌else◌}
use Rattle.std.specs.Option.{option_map, option_map_or}
use Rattle.std.specs.List.{filter, filter_map, cons_option, find, flat_map, AllByRecursion}
use Rattle.std.proofs.lemmas.Bool.{false≢true}
use Rattle.std.proofs.lemmas.Option.{slice_get-get_or, slice_get_within}
use Rattle.program_laws.proofs.Rows.{left_all, mapped, right_all}
use Rattle.program_laws.proofs.Objects.{left_get}
use Rattle.class_pool.specs.declared.entry.Entry.{Entry}
use Rattle.class_pool.specs.Grammar.{entry_at}
use Rattle.class_pool.specs.Found.{code_of}
use Rattle.class_pool.specs.declared.class.Code.{Code}
use Rattle.class_pool.specs.declared.class.Member.{Member}
use Rattle.class_pool.specs.declared.class.ClassFile.{ClassFile}
use Rattle.opcodes.specs.declared.instruction.Instr.{Instr}
use Rattle.opcodes.specs.Instruction.{decoded}
use Rattle.opcodes.specs.Start.{starts_of, IsStart}
use Rattle.bytecode_model.specs.Program.{as_instr}
use Rattle.lists.proofs.Lemmas.{none≢some, some_same}
use Rattle.class_lookup.specs.Parts.{Signature, signature_of}
use Rattle.program_tables.specs.Instructions.{Placed, placed_at, instructions_in as code_instructions, instructions_of, named_in}
use Rattle.program_tables.specs.Resolved.{resolved}
use Rattle.program_tables.specs.Unresolved.{Mention, FieldDescriptor, AtInstruction, mentions_in_code, mentions_in_method, why, why_named}
use Rattle.program_tables.specs.Resolving.{IsResolved}
use Rattle.image_words.specs.Pools.{instructions_in}

-- ---- lists

right_get : {A : Type 0} (xs ys : List A) (i : ℕ) (y : A) → slice_get ys i ≡ Some y → (n : ℕ) × (slice_get (xs ++ ys) n ≡ Some y)
right_get [] ys i y h = (i, h)
right_get (x ∷ xs) ys i y h = let r = right_get xs ys i y h in (suc r.0, r.1)

pub flat_get : {A B : Type 0} (f : A → List B) (xs : List A) (i : ℕ) (x : A) (j : ℕ) (y : B) → slice_get xs i ≡ Some x → slice_get (f x) j ≡ Some y → (n : ℕ) × (slice_get (flat_map f xs) n ≡ Some y)
flat_get f [] i x j y h e = absurd (none≢some x h)
flat_get f (z ∷ xs) zero x j y h e = (j, left_get (f z) (flat_map f xs) j y (ap (λ w. slice_get (f w) j) (some_same z x h) ∙ e))
flat_get f (z ∷ xs) (suc i) x j y h e = let r = flat_get f xs i x j y h e in right_get (f z) (flat_map f xs) r.0 y r.1

pub join_all : {A : Type 0} (P : A → Type 0) (xs ys : List A) → AllByRecursion P xs → AllByRecursion P ys → AllByRecursion P (xs ++ ys)
join_all P [] ys a b = b
join_all P (x ∷ xs) ys a b = (a.0, join_all P xs ys a.1 b)

pub map_all : {A B : Type 0} (P : B → Type 0) (f : A → B) (xs : List A) → AllByRecursion P (map f xs) → AllByRecursion (λ x. P (f x)) xs
map_all P f [] a = tt
map_all P f (x ∷ xs) a = (a.0, map_all P f xs a.1)

pub weaker_all : {A : Type 0} (P Q : A → Type 0) (xs : List A) → ((x : A) → P x → Q x) → AllByRecursion P xs → AllByRecursion Q xs
weaker_all P Q [] w a = tt
weaker_all P Q (x ∷ xs) w a = (w x a.0, weaker_all P Q xs w a.1)

pub flat_all : {A B C : Type 0} (P : B → Type 0) (Q : C → Type 0) (f : A → List B) (g : A → List C) → ((x : A) → AllByRecursion P (f x) → AllByRecursion Q (g x)) → (xs : List A) → AllByRecursion P (flat_map f xs) → AllByRecursion Q (flat_map g xs)
flat_all P Q f g h [] a = tt
flat_all P Q f g h (x ∷ xs) a = join_all Q (g x) (flat_map g xs) (h x (left_all P (f x) (flat_map f xs) a)) (flat_all P Q f g h xs (right_all P (f x) (flat_map f xs) a))

-- ---- the instructions of a method

later_case : {B : Type 0} (o : Option B) (ys : List B) (j : ℕ) (y : B) → slice_get ys j ≡ Some y → (k : ℕ) × (slice_get (cons_option o ys) k ≡ Some y)
later_case None ys j y h = (j, h)
later_case (Some z) ys j y h = (suc j, h)

abbrev pub placed : ℕ → Instr → Placed
placed pc i = record { pc = pc; instr = i }

pub among_instructions : (m : Member) (k : Code) (pc : ℕ) (i : Instr) → code_of m ≡ Some k → IsStart k.code pc → decoded k.code pc ≡ Ok i → (j : ℕ) × (slice_get (instructions_of m) j ≡ Some (placed pc i))
unfolding code_instructions
among_instructions m k pc i h s d =
    let at : (n : ℕ) × (slice_get (starts_of k.code) n ≡ Some pc) = (s.0, slice_get-get_or (starts_of k.code) s.0 pc s.1 ∙ ap Some s.2) in
    let one : placed_at k.code pc ≡ Some (placed pc i) = ap (λ x. option_map (λ i. placed pc i) (as_instr x)) d in
    let r = mapped (placed_at k.code) (starts_of k.code) at.0 pc (placed pc i) at.1 one in
    (r.0, ap (λ o. slice_get (option_map_or (λ k. filter_map (placed_at k.code) (starts_of k.code)) o []) r.0) h ∙ r.1)

-- ---- what they name is resolved

-- as an instruction of a method with this name and descriptor
pub record IsLinked (cs : List ClassFile) (c : ℕ) (k : ClassFile) (p : Placed) : Type 0 where
  pub method : Signature
  pub resolved : why_named cs c k method p.instr.op (named_in k p.instr) ≡ None

code_case : (cs : List ClassFile) (c : ℕ) (k : ClassFile) (m : Member) (o : Option Code) → code_of m ≡ o → AllByRecursion (λ x. why cs c k x ≡ None) (option_map_or (mentions_in_code k m) o []) → AllByRecursion (IsLinked cs c k) (instructions_of m)
code_case cs c k m None e a = subst (λ o. AllByRecursion (IsLinked cs c k) (option_map_or (λ (x : Code). code_instructions x.code) o [])) (sym e) tt
code_case cs c k m (Some code) e a =
    let P : Mention → Type 0 = λ x. why cs c k x ≡ None in
    let all = map_all P (AtInstruction m) (instructions_of m) (left_all P (map (AtInstruction m) (instructions_of m)) _ a) in
    weaker_all (λ p. P (AtInstruction m p)) (IsLinked cs c k) (instructions_of m) (λ p h. record { method = signature_of k m; resolved = h }) all

pub all_linked : (cs : List ClassFile) → IsResolved cs → (c : ℕ) (k : ClassFile) → slice_get cs c ≡ Some k → AllByRecursion (IsLinked cs c k) (instructions_in k)
all_linked cs r c k h =
    let P : Mention → Type 0 = λ x. why cs c k x ≡ None in
    let all = (r.linkable c k h).mentions.1 in
    flat_all P (IsLinked cs c k) (mentions_in_method k) instructions_of (λ m a. code_case cs c k m (code_of m) refl a.1) k.methods
    (right_all P (map FieldDescriptor k.fields) (flat_map (mentions_in_method k) k.methods) all)

-- ---- what is found among them

kept_case : (test : Placed → Bool) (P : Placed → Type 0) (x : Placed) (xs : List Placed) (b : Bool) → test x ≡ b → P x → AllByRecursion (λ y. (test y ≡ true) × P y) (filter test xs) → AllByRecursion (λ y. (test y ≡ true) × P y) (if b then x ∷ filter test xs else filter test xs)
kept_case test P x xs true e p later = ((e, p), later)
kept_case test P x xs false e p later = later

pub kept_all : (test : Placed → Bool) (P : Placed → Type 0) (xs : List Placed) → AllByRecursion P xs → AllByRecursion (λ y. (test y ≡ true) × P y) (filter test xs)
kept_all test P [] a = tt
kept_all test P (x ∷ xs) a = kept_case test P x xs (test x) refl a.0 (kept_all test P xs a.1)

kept_get_case : (test : Placed → Bool) (x : Placed) (xs : List Placed) (p : Placed) (b : Bool) → (n : ℕ) × (slice_get (filter test xs) n ≡ Some p) → (n : ℕ) × (slice_get (if b then x ∷ filter test xs else filter test xs) n ≡ Some p)
kept_get_case test x xs p true later = (suc later.0, later.1)
kept_get_case test x xs p false later = later

kept_get_first : (test : Placed → Bool) (x : Placed) (xs : List Placed) (b : Bool) → b ≡ true → (n : ℕ) × (slice_get (if b then x ∷ filter test xs else filter test xs) n ≡ Some x)
kept_get_first test x xs true h = (0, refl)
kept_get_first test x xs false h = absurd (false≢true h)

pub kept_get : (test : Placed → Bool) (xs : List Placed) (i : ℕ) (p : Placed) → slice_get xs i ≡ Some p → test p ≡ true → (n : ℕ) × (slice_get (filter test xs) n ≡ Some p)
kept_get test [] i p h t = absurd (none≢some p h)
kept_get test (x ∷ xs) zero p h t =
    let r = kept_get_first test x xs (test x) (ap test (some_same x p h) ∙ t) in
    (r.0, r.1 ∙ h)
kept_get test (x ∷ xs) (suc i) p h t = kept_get_case test x xs p (test x) (kept_get test xs i p h t)

-- the first that passes a test, where one does
abbrev pub FindsOne : (test : Placed → Bool) (P : Placed → Type 0) → Option Placed → Type 0
FindsOne test P o = (q : Placed) × (o ≡ Some q) × (test q ≡ true) × P q

find_case : (test : Placed → Bool) (P : Placed → Type 0) (x : Placed) (xs : List Placed) (b : Bool) → test x ≡ b → P x → FindsOne test P (find test xs) → FindsOne test P (if b then Some x else find test xs)
find_case test P x xs true e p later = (x, refl, e, p)
find_case test P x xs false e p later = later

find_first : (test : Placed → Bool) (P : Placed → Type 0) (x : Placed) (xs : List Placed) (b : Bool) → test x ≡ b → b ≡ true → P x → FindsOne test P (if b then Some x else find test xs)
find_first test P x xs true e t p = (x, refl, e, p)
find_first test P x xs false e t p = absurd (false≢true t)

pub find_get : (test : Placed → Bool) (P : Placed → Type 0) (xs : List Placed) (i : ℕ) (p : Placed) → slice_get xs i ≡ Some p → test p ≡ true → AllByRecursion P xs → FindsOne test P (find test xs)
find_get test P [] i p h t a = absurd (none≢some p h)
find_get test P (x ∷ xs) zero p h t a = find_first test P x xs (test x) refl (ap test (some_same x p h) ∙ t) a.0
find_get test P (x ∷ xs) (suc i) p h t a = find_case test P x xs (test x) refl a.0 (find_get test P xs i p h t a.1)

-- ---- entries of a pool

pub entry_within : (pool : List Entry) (index : ℕ) (e : Entry) → entry_at pool index ≡ Some e → index ≤ length pool
entry_within pool zero e h = absurd (none≢some e h)
entry_within pool (suc place) e h = let lt = slice_get_within pool place e h in omega (arith, lt)
