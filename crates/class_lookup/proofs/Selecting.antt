-- Overriding and selection over classes without a cycle, of which none declares two methods of one name and descriptor.
use Rattle.std.proofs.Common.{◌≡◌, ℕ, zero, suc, ◌<◌, Bool, true, false, ◌&&◌, List, [], ◌∷◌, inl, inr, Option, Some, None, length, refl, sym, ap, ◌∙◌, subst, append-nil, arith}
use Rattle.std.specs.Prelude.{slice_get, slice_index}
use Rattle.std.specs.Option.{option_map, option_to_list}
use Rattle.std.specs.List.{filter_map, flat_map, cons_option, list_any}
use Rattle.std.proofs.lemmas.Bool.{or_cases, or_right, and_parts, and_from, false≢true, false_from_ne_true}
use Rattle.class_pool.specs.declared.class.Member.{Member}
use Rattle.class_pool.specs.declared.class.ClassFile.{ClassFile}
use Rattle.lists.specs.Lists.{onto}
pub use Rattle.lists.proofs.Lemmas.{index_there}
use Rattle.class_lookup.specs.Parts.{Signature, signature_of, same_signature}
use Rattle.class_lookup.specs.Hierarchy.{superclass, superclasses, is_among, is_subclass, IsAcyclic}
use Rattle.class_lookup.specs.Lookup.{Place, method_at, same_place, declared_in, declared_method}
use Rattle.class_lookup.specs.Selection.{signature_at, is_virtual, is_open_to, MayOverride, Overrides, directly, through, upwards, overrides_directly, overriding}
pub use Rattle.class_lookup.specs.Laws.{IsMethod}
use Rattle.class_lookup.specs.Laws.{DeclareMethodsOnce, IsOrOverrides, MethodsLaw}
use Rattle.class_lookup.proofs.Hierarchies.{IsUpward, upward_step, upward_way, upward_rank, subclass_of, subclass_from, subclass_through, subclass_upward, super_is_above}
use Rattle.class_lookup.proofs.Searches.{some_same, onto_some, index_found, signature_same, same_is_signature}
use Rattle.class_lookup.proofs.Lookups.{declared_is}
use Rattle.class_lookup.proofs.Overriding.{has, place_same, any_place, place_any, has_mapped, mapped_has, overriding_cases, overriding_joined, overriding_more, overriding_among, overriding_self, NoRepeat, overriding_through}

-- ---- declared methods

pub method_is : (cs : List ClassFile) (m : Place) (s : Signature) → signature_at cs m ≡ Some s → IsMethod cs m s
method_is cs m s h =
    let c = onto_some (slice_get cs m.0) (λ c. onto (method_at cs m) (λ k. Some (signature_of c k))) s h in
    let k = onto_some (method_at cs m) (λ k. Some (signature_of c.0 k)) s c.2 in
    let d = onto_some (slice_get cs m.0) (λ c. slice_get c.methods m.1) k.0 k.1 in
    record {
      owner = c.0;
      class = c.1;
      member = k.0;
      there = subst (λ (x : ClassFile). slice_get x.methods m.1 ≡ Some k.0) (some_same d.0 c.0 (sym d.1 ∙ c.1)) d.2;
      signature = some_same (signature_of c.0 k.0) s k.2;
    }

pub is_method : (cs : List ClassFile) (m : Place) (s : Signature) → IsMethod cs m s → signature_at cs m ≡ Some s
is_method cs m s d =
    ap (λ o. onto o (λ c. onto (method_at cs m) (λ k. Some (signature_of c k)))) d.class
    ∙ (ap (λ o. onto o (λ k. Some (signature_of d.owner k))) (ap (λ o. onto o (λ c. slice_get c.methods m.1)) d.class ∙ d.there)
    ∙ ap Some d.signature)

pub declared_signature : (cs : List ClassFile) (s : Signature) (c : ℕ) (m : Place) → declared_method cs s c ≡ Some m → signature_at cs m ≡ Some s
declared_signature cs s c m h =
    let d = declared_is (λ k. k.methods) cs s c m h in
    is_method cs m s (record { owner = d.owner; class = ap (slice_get cs) d.own ∙ d.class; member = d.member; there = d.there; signature = d.signature })

pub method_declared : (cs : List ClassFile) → DeclareMethodsOnce cs → (m : Place) (s : Signature) → signature_at cs m ≡ Some s → declared_method cs s m.0 ≡ Some m
method_declared cs d m s h =
    let r = method_is cs m s h in
    let test : Member → Bool = λ x. same_signature (signature_of r.owner x) s in
    let i = index_there test r.owner.methods m.1 r.member r.there (same_is_signature (signature_of r.owner r.member) s r.signature) in
    let f = index_found test r.owner.methods i.0 i.1 in
    let same = d m.0 i.0 m.1 r.owner f.0 r.member r.class f.1 r.there (signature_same (signature_of r.owner f.0) s f.2 ∙ sym r.signature) in
    ap (λ o. onto o (λ k. option_map (λ i. (m.0, i)) (declared_in (λ k. k.methods) s k))) r.class
    ∙ (ap (option_map (λ (i : ℕ). (m.0, i))) i.1 ∙ ap (λ (i : ℕ). Some (m.0, i)) same)

-- ---- the methods from a class upwards

up_none : (cs : List ClassFile) → IsAcyclic cs → (s : Signature) (c : ℕ) → superclass cs c ≡ None → upwards cs s c ≡ cons_option (declared_method cs s c) []
up_none cs a s c h =
    ap (filter_map (declared_method cs s)) (upward_step cs a c ∙ ap (λ o. c ∷ flat_map (superclasses cs) (option_to_list o)) h)

up_some : (cs : List ClassFile) → IsAcyclic cs → (s : Signature) (c d : ℕ) → superclass cs c ≡ Some d → upwards cs s c ≡ cons_option (declared_method cs s c) (upwards cs s d)
up_some cs a s c d h =
    ap (filter_map (declared_method cs s)) (upward_step cs a c ∙ (ap (λ o. c ∷ flat_map (superclasses cs) (option_to_list o)) h ∙ ap (λ xs. c ∷ xs) (append-nil (superclasses cs d))))

-- by going up
up_case : (cs : List ClassFile) (a : IsAcyclic cs) (s : Signature) (P : ℕ → List Place → Type 0)
    → ((c : ℕ) → superclass cs c ≡ None → P c (cons_option (declared_method cs s c) []))
    → ((c d : ℕ) → superclass cs c ≡ Some d → P d (upwards cs s d) → P c (cons_option (declared_method cs s c) (upwards cs s d)))
    → (c : ℕ) (o : Option ℕ) → superclass cs c ≡ o → ((d : ℕ) → superclass cs c ≡ Some d → P d (upwards cs s d)) → P c (upwards cs s c)
up_case cs a s P base step c None h later = subst (P c) (sym (up_none cs a s c h)) (base c h)
up_case cs a s P base step c (Some d) h later = subst (P c) (sym (up_some cs a s c d h)) (step c d h (later d h))

up_below : (cs : List ClassFile) (a : IsAcyclic cs) (s : Signature) (P : ℕ → List Place → Type 0)
    → ((c : ℕ) → superclass cs c ≡ None → P c (cons_option (declared_method cs s c) []))
    → ((c d : ℕ) → superclass cs c ≡ Some d → P d (upwards cs s d) → P c (cons_option (declared_method cs s c) (upwards cs s d)))
    → (n c : ℕ) → slice_index a.ranks c < n → P c (upwards cs s c)
up_below cs a s P base step zero c lt = absurd (omega (arith, lt))
up_below cs a s P base step (suc n) c lt =
    up_case cs a s P base step c (superclass cs c) refl (λ d h. let lower = a.ranked.falls c d (super_is_above cs c d h) in up_below cs a s P base step n d (omega (arith, lower, lt)))

pub up : (cs : List ClassFile) (a : IsAcyclic cs) (s : Signature) (P : ℕ → List Place → Type 0)
    → ((c : ℕ) → superclass cs c ≡ None → P c (cons_option (declared_method cs s c) []))
    → ((c d : ℕ) → superclass cs c ≡ Some d → P d (upwards cs s d) → P c (cons_option (declared_method cs s c) (upwards cs s d)))
    → (c : ℕ) → P c (upwards cs s c)
up cs a s P base step c = up_below cs a s P base step (length cs) c (a.ranked.bounded c)

pub up_has : (cs : List ClassFile) (s : Signature) (c : ℕ) (m : Place) → has (upwards cs s c) m ≡ true → (declared_method cs s m.0 ≡ Some m) × IsUpward cs c m.0
up_has cs s c m h =
    let r = has_mapped (declared_method cs s) (superclasses cs c) m h in
    let own = (declared_is (λ k. k.methods) cs s r.0 m r.2).own in
    (ap (declared_method cs s) own ∙ r.2, ap (is_among (superclasses cs c)) own ∙ r.1)

pub has_up : (cs : List ClassFile) (s : Signature) (c : ℕ) (m : Place) → IsUpward cs c m.0 → declared_method cs s m.0 ≡ Some m → has (upwards cs s c) m ≡ true
has_up cs s c m u h = mapped_has (declared_method cs s) (superclasses cs c) m.0 m u h

pub methods : MethodsLaw
methods cs = record {
  at = λ m s. (method_is cs m s, is_method cs m s);
  declared = λ s c m h. ((declared_is (λ k. k.methods) cs s c m h).own, method_is cs m s (declared_signature cs s c m h));
  upwards = λ s c m h. let u = up_has cs s c m h in (u.1, method_is cs m s (declared_signature cs s m.0 m u.0));
}

-- no method stands twice among them
no_repeat_cons : (cs : List ClassFile) (a : IsAcyclic cs) (s : Signature) (c d : ℕ) → superclass cs c ≡ Some d → NoRepeat (upwards cs s d) → (o : Option Place) → declared_method cs s c ≡ o → NoRepeat (cons_option o (upwards cs s d))
no_repeat_cons cs a s c d h n None e = n
no_repeat_cons cs a s c d h n (Some m) e = (
  false_from_ne_true (has (upwards cs s d) m) (λ t.
      let own = (declared_is (λ k. k.methods) cs s c m e).own in
      let lower = a.ranked.falls c d (super_is_above cs c d h) in
      let back = upward_rank cs a d m.0 (up_has cs s d m t).1 in
      let same = ap (slice_index a.ranks) own in
      absurd (omega (arith, lower, back, same))),
  n,
)

no_repeat_alone : (o : Option Place) → NoRepeat (cons_option o [])
no_repeat_alone None = tt
no_repeat_alone (Some m) = (refl, tt)

pub no_repeat : (cs : List ClassFile) (a : IsAcyclic cs) (s : Signature) (c : ℕ) → NoRepeat (upwards cs s c)
no_repeat cs a s c =
    up cs a s (λ c ms. NoRepeat ms) (λ c h. no_repeat_alone (declared_method cs s c)) (λ c d h n. no_repeat_cons cs a s c d h n (declared_method cs s c) refl) c

-- ---- what the list has overrides

pub may_of : {cs : List ClassFile} {m a : Place} → Overrides cs m a → MayOverride cs m a
may_of (directly may free) = may
may_of (through may mb ba) = may

three : (x y z : Bool) → (x && y && z) ≡ true → (x ≡ true) × (y ≡ true) × (z ≡ true)
three true true true h = (refl, refl, refl)
three true true false h = absurd (false≢true h)
three true false z h = absurd (false≢true h)
three false y z h = absurd (false≢true h)

and3 : (x y z : Bool) → x ≡ true → y ≡ true → z ≡ true → (x && y && z) ≡ true
and3 true true true a b c = refl
and3 true true false a b c = absurd (false≢true c)
and3 true false z a b c = absurd (false≢true b)
and3 false y z a b c = absurd (false≢true a)

-- a method of the class with one above it that is a or overrides it
overrides_above : (cs : List ClassFile) → IsAcyclic cs → (s : Signature) (c d : ℕ) (a m y : Place) → superclass cs c ≡ Some d → declared_method cs s c ≡ Some m → signature_at cs a ≡ Some s
    → has (upwards cs s d) y ≡ true → overrides_directly cs m y ≡ true → IsOrOverrides cs y a → Overrides cs m a
overrides_above cs ac s c d a m y h dm sa hy o w =
    let own = (declared_is (λ k. k.methods) cs s c m dm).own in
    let parts = three (is_virtual cs m) (is_virtual cs y) (is_open_to cs y m) o in
    let u = up_has cs s d y hy in
    let below = ap (λ k. is_subclass cs k y.0) own ∙ subclass_from cs c d y.0 h u.1 in
    let sm = declared_signature cs s c m dm in
    let may : MayOverride cs m y = record {
      signature = s;
      has = sm;
      same = declared_signature cs s y.0 y u.0;
      virtual = and_from (is_virtual cs m) (is_virtual cs y) parts.0 parts.1;
      below = below;
    } in
    elim w [
      | inl e ↦ subst (Overrides cs m) e (directly may parts.2)
      | inr ya ↦
          let over = may_of ya in
          let virtual = and_parts (is_virtual cs y) (is_virtual cs a) over.virtual in
          let far : MayOverride cs m a = record {
            signature = s;
            has = sm;
            same = sa;
            virtual = and_from (is_virtual cs m) (is_virtual cs a) parts.0 virtual.1;
            below = subclass_through cs ac m.0 y.0 a.0 below (subclass_upward cs ac y.0 a.0 over.below);
          } in
          through far (directly may parts.2) ya
    ]

abbrev AllOverride : List ClassFile → Place → List Place → Type 0
AllOverride cs a ms = (t : Place) → has (overriding cs a ms) t ≡ true → IsOrOverrides cs t a

alone_overrides : (cs : List ClassFile) (a : Place) (o : Option Place) → AllOverride cs a (cons_option o [])
alone_overrides cs a None t h = absurd (false≢true h)
alone_overrides cs a (Some m) t h =
    elim (overriding_cases cs a m [] t h) [
      | inl e ↦ elim (or_cases (same_place m a) false e.1) [ inl s ↦ inl (e.0 ∙ place_same m a s) | inr s ↦ absurd (false≢true s) ]
      | inr e ↦ absurd (false≢true e)
    ]

cons_overrides : (cs : List ClassFile) → IsAcyclic cs → (s : Signature) (a : Place) → signature_at cs a ≡ Some s → (c d : ℕ) → superclass cs c ≡ Some d → AllOverride cs a (upwards cs s d) → (o : Option Place) → declared_method cs s c ≡ o → AllOverride cs a (cons_option o (upwards cs s d))
cons_overrides cs ac s a sa c d h later None e t i = later t i
cons_overrides cs ac s a sa c d h later (Some m) e t i =
    elim (overriding_cases cs a m (upwards cs s d) t i) [
      | inl r ↦ elim (or_cases (same_place m a) (list_any (overrides_directly cs m) (overriding cs a (upwards cs s d))) r.1) [
        | inl q ↦ inl (r.0 ∙ place_same m a q)
        | inr q ↦
            let y = any_place (overrides_directly cs m) (overriding cs a (upwards cs s d)) q in
            inr (subst (λ k. Overrides cs k a) (sym r.0)
            (overrides_above cs ac s c d a m y.0 h e sa (overriding_among cs a (upwards cs s d) y.0 y.1) y.2 (later y.0 y.1)))
      ]
      | inr r ↦ later t r
    ]

pub all_override : (cs : List ClassFile) → IsAcyclic cs → (s : Signature) (a : Place) → signature_at cs a ≡ Some s → (c : ℕ) (t : Place) → has (overriding cs a (upwards cs s c)) t ≡ true → IsOrOverrides cs t a
all_override cs ac s a sa c =
    up cs ac s (λ c ms. AllOverride cs a ms) (λ c h. alone_overrides cs a (declared_method cs s c)) (λ c d h later. cons_overrides cs ac s a sa c d h later (declared_method cs s c) refl) c

-- ---- what overrides is in the list

more_option : (cs : List ClassFile) (a : Place) (o : Option Place) (ms : List Place) (t : Place) → has (overriding cs a ms) t ≡ true → has (overriding cs a (cons_option o ms)) t ≡ true
more_option cs a None ms t h = h
more_option cs a (Some m) ms t h = overriding_more cs a m ms t h

-- also from a class further below
lower_below : (cs : List ClassFile) (ac : IsAcyclic cs) (s : Signature) (a t : Place) (d : ℕ) → has (overriding cs a (upwards cs s d)) t ≡ true → (n c : ℕ) → slice_index ac.ranks c < n → IsUpward cs c d → has (overriding cs a (upwards cs s c)) t ≡ true
lower_below cs ac s a t d h zero c lt u = absurd (omega (arith, lt))
lower_below cs ac s a t d h (suc n) c lt u =
    elim (upward_way cs ac c d u) [
      | inl e ↦ subst (λ k. has (overriding cs a (upwards cs s k)) t ≡ true) (sym e) h
      | inr w ↦
          let lower = ac.ranked.falls c w.0 (super_is_above cs c w.0 w.1) in
          ap (λ ms. has (overriding cs a ms) t) (up_some cs ac s c w.0 w.1)
          ∙ more_option cs a (declared_method cs s c) (upwards cs s w.0) t (lower_below cs ac s a t d h n w.0 (omega (arith, lower, lt)) w.2)
    ]

pub lower_has : (cs : List ClassFile) → IsAcyclic cs → (s : Signature) (a t : Place) (c d : ℕ) → IsUpward cs c d → has (overriding cs a (upwards cs s d)) t ≡ true → has (overriding cs a (upwards cs s c)) t ≡ true
lower_has cs ac s a t c d u h = lower_below cs ac s a t d h (length cs) c (ac.ranked.bounded c) u

direct_in : (cs : List ClassFile) → IsAcyclic cs → DeclareMethodsOnce cs → (s : Signature) (m a : Place) → signature_at cs m ≡ Some s → MayOverride cs m a → is_open_to cs a m ≡ true → has (overriding cs a (upwards cs s m.0)) m ≡ true
direct_in cs ac ds s m a sm may free =
    let w = subclass_of cs m.0 a.0 may.below in
    let sa = may.same ∙ (sym may.has ∙ sm) in
    let above = overriding_self cs a (upwards cs s w.0) (has_up cs s w.0 a w.2 (method_declared cs ds a s sa)) in
    let virtual = and_parts (is_virtual cs m) (is_virtual cs a) may.virtual in
    let direct : overrides_directly cs m a ≡ true = and3 (is_virtual cs m) (is_virtual cs a) (is_open_to cs a m) virtual.0 virtual.1 free in
    ap (λ ms. has (overriding cs a ms) m) (up_some cs ac s m.0 w.0 w.1 ∙ ap (λ o. cons_option o (upwards cs s w.0)) (method_declared cs ds m s sm))
    ∙ overriding_joined cs a m (upwards cs s w.0)
    (or_right (same_place m a) (list_any (overrides_directly cs m) (overriding cs a (upwards cs s w.0))) (place_any (overrides_directly cs m) (overriding cs a (upwards cs s w.0)) a above direct))

pub overrides_in : (cs : List ClassFile) → IsAcyclic cs → DeclareMethodsOnce cs → (s : Signature) (m a : Place) → signature_at cs m ≡ Some s → Overrides cs m a → has (overriding cs a (upwards cs s m.0)) m ≡ true
overrides_in cs ac ds s m a sm (directly may free) = direct_in cs ac ds s m a sm may free
overrides_in cs ac ds s m a sm (through {b} may mb ba) =
    let over = may_of mb in
    let sb = over.same ∙ (sym over.has ∙ sm) in
    let far = lower_has cs ac s a b m.0 b.0 (subclass_upward cs ac m.0 b.0 over.below) (overrides_in cs ac ds s b a sb ba) in
    overriding_through cs a b (upwards cs s m.0) m (no_repeat cs ac s m.0) (overrides_in cs ac ds s m b sm mb) far
