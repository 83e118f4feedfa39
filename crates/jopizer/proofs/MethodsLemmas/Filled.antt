-- The list as far as it is made.
use Rattle.std.proofs.Common.{◌≡◌, ℕ, zero, suc, ◌+◌, ◌<◌, ◌^◌, List, [], ◌∷◌, ◌++◌, length, get_or, Option, Some, None, refl, sym, ◌∙◌, ap, subst, arith, ⊎_elim, length-append}
use Rattle.std.specs.Prelude.{slice_get, IfSome, IsSomeAnd}
use Rattle.std.specs.Option.{option_map_or}
use Rattle.std.proofs.lemmas.Bool.{cases_lt}
use Rattle.std.proofs.lemmas.List.{get_or-map, length-map}
use Rattle.std.proofs.lemmas.List.Sums.{sum_by_more}
use Rattle.std.proofs.lemmas.Option.{slice_get_within, get_or_from_slice_get}
use Rattle.lists.proofs.Lemmas.{some_same, onto_some, some_in}
use Rattle.image_facts.specs.declared.method.CodedMethod.{CodedMethod}
use Rattle.image_facts.specs.Methods.{IsMethodRecord, AreMethods, places}
use Rattle.class_pool.specs.declared.class.ClassFile.{ClassFile}
use Rattle.bytecode_model.specs.Program.{Method, Body, body_of}
use Rattle.program_tables.specs.Resolved.{resolved, resolved_methods}
use Rattle.image_words.specs.Layout.{body_size, method_size, method_place}
use Rattle.image_words.specs.Regions.{places_of}
use Rattle.jopizer.specs.Methods.Placed.{AreOnly}

-- a method with code, and what the list has of it
pub record IsEntry (cs : List ClassFile) (items : List CodedMethod) (k : ℕ) : Type 0 where
  pub body : Body
  pub is_body : body_of (resolved cs) k ≡ Some body
  pub entry : CodedMethod
  pub at : slice_get items k ≡ Some entry
  pub is : IsMethodRecord (method_place cs k) body entry

pub record AreFilled (cs : List ClassFile) (items : List CodedMethod) (n : ℕ) : Type 0 where
  pub count : length items ≡ n
  pub each : (k : ℕ) → k < n → IsEntry cs items k

pub none_filled : (cs : List ClassFile) → AreFilled cs [] 0
none_filled cs = record { count = refl; each = λ k h. absurd (omega (arith, h)) }

in_front : (xs ys : List CodedMethod) (k : ℕ) (e : CodedMethod) → slice_get xs k ≡ Some e → slice_get (xs ++ ys) k ≡ Some e
in_front [] ys k e h = absurd (cc)
in_front (x ∷ xs) ys zero e h = h
in_front (x ∷ xs) ys (suc k) e h = in_front xs ys k e h

last : (xs : List CodedMethod) (e : CodedMethod) → slice_get (xs ++ e ∷ []) (length xs) ≡ Some e
last [] e = refl
last (x ∷ xs) e = last xs e

pub one_more : (cs : List ClassFile) (items : List CodedMethod) (n : ℕ) → AreFilled cs items n → (b : Body) → body_of (resolved cs) n ≡ Some b → (e : CodedMethod) → IsMethodRecord (method_place cs n) b e
    → AreFilled cs (items ++ e ∷ []) (n + 1)
one_more cs items n h b is e known = record {
  count = length-append items (e ∷ []) ∙ ap (λ k. k + 1) h.count;
  each = λ k lt. ⊎_elim (λ less. let x = h.each k less in record { body = x.body; is_body = x.is_body; entry = x.entry; at = in_front items (e ∷ []) k x.entry x.at; is = x.is })
      (λ ge.
      let same : n ≡ k = omega (arith, lt, ge) in
      subst (IsEntry cs (items ++ e ∷ [])) same (record { body = b; is_body = is; entry = e; at = ap (slice_get (items ++ e ∷ [])) (sym h.count) ∙ last items e; is = known })) (cases_lt k n);
}

pub place_is : (cs : List ClassFile) (m : ℕ) → (places_of cs).method m ≡ method_place cs m
unfolding places_of
place_is cs m = refl

-- the record of the next method lies behind that of a method with code
further : (cs : List ClassFile) (k : ℕ) (b : Body) → body_of (resolved cs) k ≡ Some b → method_place cs k < method_place cs (k + 1)
further cs k b h =
    let r = onto_some (slice_get (resolved_methods cs) k) (λ (x : Method). x.body) b h in
    let within = slice_get_within (resolved_methods cs) k r.0 r.1 in
    let size : method_size r.0 ≡ body_size b = ap (λ o. option_map_or body_size o 0) r.2 in
    let here : method_size (get_or (resolved_methods cs) k r.0) ≡ method_size r.0 = ap method_size (get_or_from_slice_get (resolved_methods cs) k r.0 r.0 r.1) in
    omega (arith, sum_by_more method_size (resolved_methods cs) k r.0 within, size, here)

pub some_case : {A : Type 0} (o : Option A) (K : A → Type 0) → ((x : A) → o ≡ Some x → K x) → IfSome o K
some_case None K h = tt
some_case (Some x) K h = h x refl

pub if_in : {A : Type 0} (o : Option A) (x : A) (K : A → Type 0) → o ≡ Some x → IfSome o K → K x
if_in o x K e h = subst (λ o. IfSome o K) e h

-- and there are no others
pub only_filled : (cs : List ClassFile) (items : List CodedMethod) (n : ℕ) → AreFilled cs items n → AreOnly cs items
only_filled cs items n h m = some_case (slice_get items m) (λ e. IsSomeAnd (body_of (resolved cs) m) (λ b. IsMethodRecord ((places_of cs).method m) b e)) (λ e at.
    let x = h.each m (omega (arith, h.count, slice_get_within items m e at)) in
    let same : x.entry ≡ e = some_same x.entry e (sym x.at ∙ at) in
    some_in (body_of (resolved cs) m) x.body (λ b. IsMethodRecord ((places_of cs).method m) b e) x.is_body
    (subst (λ place. IsMethodRecord place x.body e) (sym (place_is cs m)) (subst (IsMethodRecord (method_place cs m) x.body) same x.is)))

-- where no later method has code, the list is whole
pub all_filled : (cs : List ClassFile) (items : List CodedMethod) (n : ℕ) → AreFilled cs items n → n < 2 ^ 32 → ((m : ℕ) (b : Body) → body_of (resolved cs) m ≡ Some b → m < n)
    → AreMethods (resolved cs) (places_of cs) items
all_filled cs items n h few none_behind = record {
  known = λ m. some_case (body_of (resolved cs) m) (λ b. IsSomeAnd (slice_get items m) (IsMethodRecord ((places_of cs).method m) b)) (λ b is.
      let x = h.each m (none_behind m b is) in
      let same : x.body ≡ b = some_same x.body b (sym x.is_body ∙ is) in
      some_in (slice_get items m) x.entry (IsMethodRecord ((places_of cs).method m) b) x.at
      (subst (λ place. IsMethodRecord place b x.entry) (sym (place_is cs m)) (subst (λ (c : Body). IsMethodRecord (method_place cs m) c x.entry) same x.is)));
  rising = λ k lt.
      let count : length (places items) ≡ n = length-map items (λ (e : CodedMethod). e.place) ∙ h.count in
      let x = h.each k (omega (arith, lt, count)) in
      let y = h.each (k + 1) (omega (arith, lt, count)) in
      let first : get_or (places items) k 0 ≡ method_place cs k = place_at k x in
      let second : get_or (places items) (k + 1) 0 ≡ method_place cs (k + 1) = place_at (k + 1) y in
      omega (arith, first, second, further cs k x.body x.is_body);
  few = omega (arith, h.count, few);
}
  where
    place_at : (k : ℕ) (x : IsEntry cs items k) → get_or (places items) k 0 ≡ method_place cs k
    place_at k x =
        get_or-map (λ (e : CodedMethod). e.place) items k x.entry 0 (slice_get_within items k x.entry x.at)
        ∙ ap (λ (e : CodedMethod). e.place) (get_or_from_slice_get items k x.entry x.entry x.at) ∙ x.is.place_is
