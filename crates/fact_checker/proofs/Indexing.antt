-- The place that an index has for a key is that of the first fact of it.
use Rattle.std.proofs.Common.{◌≡◌, ◌≢◌, ℕ, suc, Bool, true, false, ◌&&◌, eqb, List, [], ◌∷◌, ◌++◌, length, Option, Some, None, refl, sym, ap, ap₂, ◌∙◌}
use Rattle.std.specs.Prelude.{is_some, if◌then◌else◌, slice_get}
use Rattle.std.specs.Option.{option_or}
use Rattle.std.specs.Map.{lookup}
use Rattle.std.proofs.lemmas.Bool.{false≢true, and_parts, and_from, eqb-true, eq-eqb}
use Rattle.lists.specs.Lists.{onto, index_of}
use Rattle.lists.proofs.Lemmas.{index_append}
use Rattle.lists.proofs.Lookups.{lookup_append}
use Rattle.flow_facts.specs.declared.facts.Scope.{Scope}
use Rattle.flow_facts.specs.declared.facts.Scope.TheVariants.{Own, Per, In}
use Rattle.flow_facts.specs.Facts.{CountFact}
use Rattle.fact_rules.specs.Pricing.{is_just, fact_at}
use Rattle.fact_checker.specs.declared.fact_index.FactKey.{FactKey}
use Rattle.fact_checker.specs.Index.{is_same_scope, is_same_key, is_fact_of, IsIndexed}

-- ---- keys

pub bool_same : (x y : Bool) → (x ≡ true → y ≡ true) → (y ≡ true → x ≡ true) → x ≡ y
bool_same true y h e = sym (h refl)
bool_same false true h e = e refl
bool_same false false h e = refl

eqb_back : (a b : ℕ) → eqb a b ≡ eqb b a
eqb_back a b = bool_same (eqb a b) (eqb b a) (λ e. eq-eqb b a (sym (eqb-true a b e))) (λ e. eq-eqb a b (sym (eqb-true b a e)))

and_moved : (a b c : Bool) → (a && (b && c)) ≡ ((a && b) && c)
and_moved true b c = refl
and_moved false b c = refl

pub scope_true : (a b : Scope) → is_same_scope a b ≡ true → a ≡ b
scope_true Own Own e = refl
scope_true Own (Per q) e = absurd (cc)
scope_true Own (In s) e = absurd (cc)
scope_true (Per p) Own e = absurd (cc)
scope_true (Per p) (Per q) e = ap (λ (x : ℕ). Per x) (eqb-true p q e)
scope_true (Per p) (In s) e = absurd (cc)
scope_true (In r) Own e = absurd (cc)
scope_true (In r) (Per q) e = absurd (cc)
scope_true (In r) (In s) e = ap (λ (x : ℕ). In x) (eqb-true r s e)

pub key_true : (k l : FactKey) → is_same_key k l ≡ true → k ≡ l
key_true k l e =
    let first = and_parts (eqb k.method l.method) (eqb k.node l.node && is_same_scope k.scope l.scope) e in
    let second = and_parts (eqb k.node l.node) (is_same_scope k.scope l.scope) first.1 in
    let K : ℕ → ℕ → Scope → FactKey = λ m u s. record { method = m; node = u; scope = s } in
    let by_method = ap (λ (m : ℕ). K m k.node k.scope) (eqb-true k.method l.method first.0) in
    let by_node = ap (λ (u : ℕ). K l.method u k.scope) (eqb-true k.node l.node second.0) in
    let by_scope = ap (λ (s : Scope). K l.method l.node s) (scope_true k.scope l.scope second.1) in
    by_method ∙ (by_node ∙ by_scope)

scope_self : (a : Scope) → is_same_scope a a ≡ true
scope_self Own = refl
scope_self (Per p) = eq-eqb p p refl
scope_self (In r) = eq-eqb r r refl

pub key_self : (k : FactKey) → is_same_key k k ≡ true
key_self k =
    and_from (eqb k.method k.method) (eqb k.node k.node && is_same_scope k.scope k.scope) (eq-eqb k.method k.method refl)
    (and_from (eqb k.node k.node) (is_same_scope k.scope k.scope) (eq-eqb k.node k.node refl) (scope_self k.scope))

-- ---- one more fact

-- the key of a fact that is of one node
abbrev pub key_of : CountFact → (node : ℕ) → FactKey
key_of f u = record { method = f.method; node = u; scope = f.scope }

key_tells : (k : FactKey) (f : CountFact) (u : ℕ) → f.nodes ≡ u ∷ [] → is_same_key k (key_of f u) ≡ is_fact_of k f
key_tells k f u one =
    let same = is_same_scope k.scope f.scope in
    ap₂ (λ (a b : Bool). a && (b && same)) (eqb_back k.method f.method) (eqb_back k.node u)
    ∙ (and_moved (eqb f.method k.method) (eqb u k.node) same ∙ ap (λ (ns : List ℕ). (eqb f.method k.method && is_just k.node ns) && same) (sym one))

-- the place of the first fact of a key, where one more stands behind the others
one_more : (k : FactKey) (fs : List CountFact) (f : CountFact) (i : ℕ) → length fs ≡ i
    → index_of (is_fact_of k) (fs ++ f ∷ []) ≡ option_or (index_of (is_fact_of k) fs) (if is_fact_of k f then Some i else None)
one_more k fs f i long =
    index_append (is_fact_of k) fs f ∙ ap (λ (n : ℕ). option_or (index_of (is_fact_of k) fs) (if is_fact_of k f then Some n else None)) long

pub indexed_new : (fs : List CountFact) (f : CountFact) (i u : ℕ) (es : List (FactKey × ℕ)) → length fs ≡ i → f.nodes ≡ u ∷ [] → IsIndexed fs es
    → IsIndexed (fs ++ f ∷ []) (es ++ (key_of f u, i) ∷ [])
indexed_new fs f i u es long one h k =
    lookup_append (is_same_key k) es (key_of f u) i
    ∙ (ap₂ (λ o b. option_or o (if b then Some i else None)) (h k) (key_tells k f u one) ∙ sym (one_more k fs f i long))

old_case : (o : Option ℕ) (b : Bool) (i : ℕ) → (b ≡ true → is_some o ≡ true) → o ≡ option_or o (if b then Some i else None)
old_case (Some k) b i h = refl
old_case None true i h = absurd (false≢true (h refl))
old_case None false i h = refl

pub indexed_old : (fs : List CountFact) (f : CountFact) (i u : ℕ) (es : List (FactKey × ℕ)) → length fs ≡ i → f.nodes ≡ u ∷ [] → IsIndexed fs es
    → is_some (lookup (is_same_key (key_of f u)) es) ≡ true → IsIndexed (fs ++ f ∷ []) es
indexed_old fs f i u es long one h there k =
    h k
    ∙ (old_case (index_of (is_fact_of k) fs) (is_fact_of k f) i
    (λ is.
    let same = key_true k (key_of f u) (key_tells k f u one ∙ is) in
    ap is_some (sym (h k)) ∙ (ap (λ (p : FactKey). is_some (lookup (is_same_key p) es)) same ∙ there))
    ∙ sym (one_more k fs f i long))

-- a fact of no node or of several is of no key
not_just : (u : ℕ) (ns : List ℕ) → length ns ≢ 1 → is_just u ns ≡ false
not_just u [] other = refl
not_just u (v ∷ []) other = absurd (other refl)
not_just u (v ∷ w ∷ ns) other = refl

and_false : (a b c : Bool) → b ≡ false → ((a && b) && c) ≡ false
and_false true true c e = absurd (cc)
and_false true false c e = refl
and_false false b c e = refl

pub indexed_no : (fs : List CountFact) (f : CountFact) (i : ℕ) (es : List (FactKey × ℕ)) → length fs ≡ i → length f.nodes ≢ 1 → IsIndexed fs es → IsIndexed (fs ++ f ∷ []) es
indexed_no fs f i es long other h k =
    let never : is_fact_of k f ≡ false = and_false (eqb f.method k.method) (is_just k.node f.nodes) (is_same_scope k.scope f.scope) (not_just k.node f.nodes other) in
    h k ∙ (old_case (index_of (is_fact_of k) fs) (is_fact_of k f) i (λ is. absurd (false≢true (sym never ∙ is))) ∙ sym (one_more k fs f i long))

-- ---- the fact at that place

shifted : (o : Option ℕ) (f : CountFact) (fs : List CountFact) → onto o (slice_get fs) ≡ onto (onto o (λ k. Some (suc k))) (slice_get (f ∷ fs))
shifted None f fs = refl
shifted (Some i) f fs = refl

fact_case : (b : Bool) (f : CountFact) (fs : List CountFact) (there : Option CountFact) (o : Option ℕ) → there ≡ onto o (slice_get fs)
    → (if b then Some f else there) ≡ onto (if b then Some 0 else onto o (λ k. Some (suc k))) (slice_get (f ∷ fs))
fact_case true f fs there o h = refl
fact_case false f fs there o h = h ∙ shifted o f fs

pub fact_there : (fs : List CountFact) (k : FactKey) → fact_at fs k.method k.node (is_same_scope k.scope) ≡ onto (index_of (is_fact_of k) fs) (slice_get fs)
fact_there [] k = refl
fact_there (f ∷ fs) k = fact_case (is_fact_of k f) f fs (fact_at fs k.method k.node (is_same_scope k.scope)) (index_of (is_fact_of k) fs) (fact_there fs k)

-- ---- scopes

fact_same_case : (b c : Bool) (f : CountFact) (one other : Option CountFact) → b ≡ c → one ≡ other → (if b then Some f else one) ≡ (if c then Some f else other)
fact_same_case b c f one other h e = ap₂ (λ (x : Bool) (y : Option CountFact). if x then Some f else y) h e

-- the same fact is found by tests that tell the same of each scope
pub fact_same : (fs : List CountFact) (m u : ℕ) (p q : Scope → Bool) → ((s : Scope) → p s ≡ q s) → fact_at fs m u p ≡ fact_at fs m u q
fact_same [] m u p q same = refl
fact_same (f ∷ fs) m u p q same =
    fact_same_case (eqb f.method m && is_just u f.nodes && p f.scope) (eqb f.method m && is_just u f.nodes && q f.scope) f (fact_at fs m u p) (fact_at fs m u q)
    (ap (λ (b : Bool). eqb f.method m && is_just u f.nodes && b) (same f.scope)) (fact_same fs m u p q same)

-- and none by one that tells no of each
never_case : (a b : Bool) (f : CountFact) (rest : Option CountFact) → b ≡ false → rest ≡ None → (if a && b then Some f else rest) ≡ None
never_case true true f rest e none = absurd (cc)
never_case true false f rest e none = none
never_case false b f rest e none = none

pub fact_never : (fs : List CountFact) (m u : ℕ) (p : Scope → Bool) → ((s : Scope) → p s ≡ false) → fact_at fs m u p ≡ None
fact_never [] m u p never = refl
fact_never (f ∷ fs) m u p never = never_case (eqb f.method m && is_just u f.nodes) (p f.scope) f (fact_at fs m u p) (never f.scope) (fact_never fs m u p never)
