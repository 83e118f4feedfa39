-- The bytes of a method, from its copy in the cache.
use Rattle.std.proofs.Common.{◌≡◌, ℕ, suc, ◌/◌, ◌%◌, Bool, true, false, ◌==◌, List, [], ◌∷◌, Option, Some, refl, sym, ◌∙◌, ap, subst, arith}
use Rattle.std.specs.Prelude.{slice_index, All, IsSome, IfSome, if◌then◌else◌, is_some, unwrap_or}
use Rattle.std.proofs.lemmas.Bool.Decides.{nat_tests}
use Rattle.lists.proofs.Lemmas.{some_same}
use Rattle.base.specs.Packed.{byte_of, words_of_bytes, PackedHasBytes}
use Rattle.method_cache.specs.Contents.{Entry, Cache, find_words, is_cached, word_of}
use Rattle.opcodes.specs.Bytes.{u1}
use Rattle.bytecode_model.specs.Program.{Program, Body, body_of}
use Rattle.image_facts.specs.Places.{Places}
use Rattle.image_facts.specs.Says.{Says, IsCode}
use Rattle.machine_stands.specs.StandsFor.{IsCopy}
use Rattle.machine_stands.proofs.Counting.{some_is}

-- the words that are found are those of an entry of the method
abbrev Found : ℕ → List Entry → (Entry → Type 0) → Type 0
Found m es Q = (e : Entry) × (find_words m es ≡ Some e.words) × (e.method ≡ m) × Q e

first_or : (m : ℕ) (e : Entry) (es : List Entry) (Q : Entry → Type 0) → Q e → (is_some (find_words m es) ≡ true → Found m es Q) → (b : Bool) → e.method == m ≡ b
    → is_some (find_words m (e ∷ es)) ≡ true → Found m (e ∷ es) Q
first_or m e es Q h rest true t c = (e, ap (λ (b : Bool). if b then Some e.words else find_words m es) t, grind (arith, nat_tests, t), h)
first_or m e es Q h rest false t c =
    let r = rest (sym (ap (λ (b : Bool). is_some (if b then Some e.words else find_words m es)) t) ∙ c) in
    (r.0, ap (λ (b : Bool). if b then Some e.words else find_words m es) t ∙ r.1, r.2, r.3)

found : (m : ℕ) (es : List Entry) (Q : Entry → Type 0) → All Q es → is_some (find_words m es) ≡ true → Found m es Q
found m [] Q h c = absurd (cc)
found m (e ∷ es) Q h c = first_or m e es Q (h 0 e (omega arith)) (λ d. found m es Q (λ k x l. h (suc k) x (omega (arith, l))) d) (e.method == m) refl c

-- a cached method has the words of its code
pub copy_is : (P : Program) (pl : Places) (c : Cache) (method : ℕ) (b : Body) → Says P pl → All (IsCopy P pl) c.contents → body_of P method ≡ Some b → is_cached (pl.method method) c ≡ true
    → find_words (pl.method method) c.contents ≡ Some (words_of_bytes b.code)
copy_is P pl c method b says copies is cached =
    let e = found (pl.method method) c.contents (IsCopy P pl) copies cached in
    let copy = e.3 in
    let code = some_is (body_of P copy.method) (λ (u : Body). e.0.words ≡ words_of_bytes u.code) copy.words in
    let same : copy.method ≡ method = says.apart copy.method method (there (body_of P copy.method) code.0 code.1) (there (body_of P method) b is) (sym copy.place ∙ e.2) in
    let body : code.0 ≡ b = some_same code.0 b (sym code.1 ∙ ap (body_of P) same ∙ is) in
    e.1 ∙ ap (λ (ws : List ℕ). Some ws) (code.2 ∙ ap (λ (u : Body). words_of_bytes u.code) body)
  where
    there : (o : Option Body) (x : Body) → o ≡ Some x → IsSome o
    there o x h = ap is_some h

pub byte_is : (P : Program) (pl : Places) (c : Cache) (method : ℕ) (b : Body) (place : ℕ) → PackedHasBytes → Says P pl → All (IsCopy P pl) c.contents → body_of P method ≡ Some b
    → is_cached (pl.method method) c ≡ true → byte_of (word_of (pl.method method) (place / 4) c) (place % 4) ≡ u1 b.code place
byte_is P pl c method b place law says copies is cached =
    let code = subst (λ o. IfSome o (λ (u : Body). IsCode u.code)) is (says.codes method) in
    ap (λ o. byte_of (slice_index (unwrap_or o []) (place / 4)) (place % 4)) (copy_is P pl c method b says copies is cached) ∙ law b.code code.bytes place
