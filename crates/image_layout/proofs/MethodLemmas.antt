-- The records of methods.
use Rattle.std.proofs.Common.{◌≡◌, ℕ, ◌+◌, ◌*◌, ◌^◌, ◌<◌, ◌≤◌, List, [], ◌∷◌, ◌++◌, Bool, true, false, Option, Some, None, map, take, length, get_or, append_assoc, append-nil, refl, sym, ap, ◌∙◌, subst, arith}
use Rattle.std.specs.Prelude.{slice_get, sum_by, if◌then◌else◌}
use Rattle.std.specs.Option.{option_map, option_map_or, IsSomeAnd}
use Rattle.std.specs.List.{flat_map}
use Rattle.std.proofs.lemmas.List.{length-map, map-append, take_more}
use Rattle.std.proofs.lemmas.List.Sums.{sum_by-cons, sum_by_push}
use Rattle.std.proofs.lemmas.Option.{slice_get_past}
use Rattle.class_pool.specs.declared.class.Code.{Code}
use Rattle.class_pool.specs.declared.class.Member.{Member}
use Rattle.class_pool.specs.declared.class.ClassFile.{ClassFile}
use Rattle.class_pool.specs.Found.{code_of}
use Rattle.base.specs.Packed.{words_for, words_of_bytes}
use Rattle.bytecode_model.specs.Program.{Method, Handler}
use Rattle.bytecode_model.specs.Types as model
use Rattle.image_facts.specs.Words.{declared_words}
use Rattle.program_tables.specs.declared.operand.Declared.{Declared}
use Rattle.program_tables.specs.declared.operand.MethodShape.{MethodShape}
use Rattle.program_tables.specs.Meanings.{declared_seen, HasShape}
use Rattle.image_facts.specs.Places.{Places}
use Rattle.image_facts.specs.Says.{argument_words_of, handler_words, method_words}
use Rattle.lists.specs.Lists.{onto}
use Rattle.lists.proofs.Lemmas.{some_same}
use Rattle.class_lookup.specs.Lookup.{Place, method_at}
use Rattle.program_tables.specs.Laws.{MethodsStandByNumber, MembersAreThere}
use Rattle.program_tables.specs.Numbers.{methods_by_number}
use Rattle.program_tables.specs.Resolved.{handler_of, body_in, method_in, resolved_method, resolved_methods, resolved}
use Rattle.image_words.specs.Layout.{pool_place, outline_of}
use Rattle.image_words.specs.Regions.{method_image}
use Rattle.image_builder.proofs.ListLemmas.{take_past}
use Rattle.image_layout.proofs.SizeLemmas.{Stands, stands}

pub methods_taken : MethodsStandByNumber → (cs : List ClassFile) (n : ℕ) → length (methods_by_number cs) ≤ n → take n (resolved_methods cs) ≡ resolved_methods cs
methods_taken law cs n past =
    take_past (resolved_methods cs) n (law cs n ∙ ap (λ o. onto o (resolved_method cs)) (slice_get_past (methods_by_number cs) n past))

pub handlers_joined : {A : Type 0} (f : Handler → List ℕ) (g : A → Handler) (xs : List A) → flat_map (λ x. f (g x)) xs ≡ flat_map f (map g xs)
handlers_joined f g [] = refl
handlers_joined f g (x ∷ xs) = ap (λ ys. f (g x) ++ ys) (handlers_joined f g xs)

-- ---- what the method of a place is

body_case : (cs : List ClassFile) (pl : Places) (c : ℕ) (k : ClassFile) (m : Member) (o : Option Code) → code_of m ≡ o
    → method_image cs pl (method_in cs c k m) ≡ option_map_or (λ (code : Code). method_words (resolved cs) pl (method_in cs c k m) (body_in cs k code)) o []
body_case cs pl c k m o h = ap (λ o. option_map_or (method_words (resolved cs) pl (method_in cs c k m)) (option_map (body_in cs k) o) []) h ∙ by_code o
  where
    by_code : (o : Option Code) → option_map_or (method_words (resolved cs) pl (method_in cs c k m)) (option_map (body_in cs k) o) []
        ≡ option_map_or (λ (code : Code). method_words (resolved cs) pl (method_in cs c k m) (body_in cs k code)) o []
    by_code None = refl
    by_code (Some code) = refl

code_here : (cs : List ClassFile) (n : ℕ) (p : Place) (s : Stands cs n p) (o : Option Code) → slice_get (methods_by_number cs) n ≡ Some p → o ≡ onto (onto (slice_get (methods_by_number cs) n) (method_at cs)) code_of → code_of s.member ≡ o
code_here cs n p s o h e =
    let at : method_at cs p ≡ Some s.member = ap (λ o. onto o (λ c. slice_get c.methods p.1)) s.class_at ∙ s.member_at in
    sym (e ∙ (ap (λ q. onto (onto q (method_at cs)) code_of) h ∙ ap (λ q. onto q code_of) at))

pub no_record : MethodsStandByNumber → MembersAreThere → (cs : List ClassFile) (n : ℕ) (p : Place) → slice_get (methods_by_number cs) n ≡ Some p → None ≡ onto (onto (slice_get (methods_by_number cs) n) (method_at cs)) code_of
    → (old : List ℕ) (k : Method) → slice_get (resolved_methods cs) n ≡ Some k → old ≡ old ++ method_image cs (outline_of cs) k
no_record law there cs n p h e old k at =
    let s = stands law there cs n p h in
    let is = some_same (method_in cs p.0 s.class s.member) k (sym s.method ∙ at) in
    sym (ap (λ (k : Method). old ++ method_image cs (outline_of cs) k) (sym is)
    ∙ (ap (λ (ws : List ℕ). old ++ ws) (body_case cs (outline_of cs) p.0 s.class s.member None (code_here cs n p s None h e)) ∙ append-nil old))

joined : (old front table bytes : List ℕ) → ((old ++ front) ++ table) ++ bytes ≡ old ++ (front ++ (table ++ bytes))
joined old front table bytes = append_assoc (old ++ front) table bytes ∙ append_assoc old front (table ++ bytes)

pub record_made : MethodsStandByNumber → MembersAreThere → (cs : List ClassFile) (n : ℕ) (p : Place) (code : Code) → slice_get (methods_by_number cs) n ≡ Some p
    → Some code ≡ onto (onto (slice_get (methods_by_number cs) n) (method_at cs)) code_of
    → (old first second new : List ℕ)
    → ((k : Method) → slice_get (resolved_methods cs) n ≡ Some k
    → first ≡ old ++ (code.max_locals * 2 ^ 16 + code.max_stack) ∷ (argument_words_of k * 2 ^ 16 + words_for (length code.code)) ∷ pool_place cs p.0 ∷ length code.handlers ∷ [])
    → ((k : ClassFile) → slice_get cs p.0 ≡ Some k → second ≡ first ++ flat_map (handler_words (resolved cs)) (map (handler_of cs k) code.handlers)) → new ≡ second ++ words_of_bytes code.code
    → (k : Method) → slice_get (resolved_methods cs) n ≡ Some k → new ≡ old ++ method_image cs (outline_of cs) k
record_made law there cs n p code h e old first second new e1 e2 e3 k at =
    let s = stands law there cs n p h in
    let own = method_in cs p.0 s.class s.member in
    let is = some_same own k (sym s.method ∙ at) in
    let table = flat_map (handler_words (resolved cs)) (map (handler_of cs s.class) code.handlers) in
    let bytes = words_of_bytes code.code in
    let front : ℕ → List ℕ = λ many. (code.max_locals * 2 ^ 16 + code.max_stack) ∷ (argument_words_of own * 2 ^ 16 + words_for (length code.code)) ∷ pool_place cs p.0 ∷ many ∷ [] in
    let made : new ≡ old ++ method_words (resolved cs) (outline_of cs) own (body_in cs s.class code) =
    e3 ∙ (ap (λ (ws : List ℕ). ws ++ bytes) (e2 s.class s.class_at ∙ ap (λ (ws : List ℕ). ws ++ table) (e1 own s.method))
    ∙ (joined old (front (length code.handlers)) table bytes
    ∙ ap (λ (many : ℕ). old ++ (front many ++ (table ++ bytes))) (sym (length-map code.handlers (handler_of cs s.class))))) in
    made ∙ (ap (λ (ws : List ℕ). old ++ ws) (sym (body_case cs (outline_of cs) p.0 s.class s.member (Some code) (code_here cs n p s (Some code) h e)))
    ∙ ap (λ (k : Method). old ++ method_image cs (outline_of cs) k) is)

-- ---- arguments

pub words_more : (types : List Declared) (i : ℕ) (d : Declared) (old new : ℕ) → i < length types → old ≡ sum_by declared_words (map declared_seen (take i types)) → new ≡ old + declared_words (declared_seen (get_or types i d))
    → new ≡ sum_by declared_words (map declared_seen (take (i + 1) types))
words_more types i d old new lt h e =
    let last = declared_seen (get_or types i d) in
    let done = map declared_seen (take i types) in
    e ∙ (ap (λ (n : ℕ). n + declared_words last) h
    ∙ sym (ap (λ ds. sum_by declared_words (map declared_seen ds)) (take_more types i d lt) ∙ (ap (sum_by declared_words) (map-append declared_seen (take i types) (get_or types i d ∷ [])) ∙ sum_by_push declared_words done last)))

shape_is : {A : Type 0} (P : A → Type 0) (o : Option A) (x : A) → IsSomeAnd o P → o ≡ Some x → P x
shape_is P None x h e = absurd h
shape_is P (Some y) x h e = subst P (some_same y x e) h

taken_by : (b : Bool) (owner : ℕ) (ps : List model.Declared) → ℕ
taken_by b owner ps = sum_by declared_words (if b then model.Reference (model.OfClass owner) ∷ ps else ps)

pub with_receiver : (cs : List ClassFile) (n : ℕ) (s : MethodShape) (words all : ℕ) → IsSomeAnd (slice_get (resolved_methods cs) n) (HasShape s) → words ≡ sum_by declared_words (map declared_seen s.parameters) → s.has_this ≡ true → all ≡ words + 1
    → (k : Method) → slice_get (resolved_methods cs) n ≡ Some k → all ≡ argument_words_of k
unfolding taken_by
with_receiver cs n s words all shape h t e k at =
    let is = shape_is (HasShape s) (slice_get (resolved_methods cs) n) k shape at in
    let this : k.has_this ≡ true = is.has_this ∙ t in
    let first = sum_by-cons declared_words (model.Reference (model.OfClass k.owner)) k.parameters in
    let same = ap (sum_by declared_words) is.parameters in
    let made = ap (λ (b : Bool). taken_by b k.owner k.parameters) this in
    let sum : all ≡ 1 + sum_by declared_words k.parameters = omega (arith, h, e, same) in
    sum ∙ (sym first ∙ sym made)

pub without_receiver : (cs : List ClassFile) (n : ℕ) (s : MethodShape) (words : ℕ) → IsSomeAnd (slice_get (resolved_methods cs) n) (HasShape s) → words ≡ sum_by declared_words (map declared_seen s.parameters) → s.has_this ≡ false
    → (k : Method) → slice_get (resolved_methods cs) n ≡ Some k → words ≡ argument_words_of k
unfolding taken_by
without_receiver cs n s words shape h t k at =
    let is = shape_is (HasShape s) (slice_get (resolved_methods cs) n) k shape at in
    let this : k.has_this ≡ false = is.has_this ∙ t in
    h ∙ (ap (sum_by declared_words) (sym is.parameters) ∙ sym (ap (λ (b : Bool). taken_by b k.owner k.parameters) this))
