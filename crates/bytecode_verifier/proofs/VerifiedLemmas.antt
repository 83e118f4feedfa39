-- No rule fails in a program just where its methods have typings, and what fails first is the first failure of a typing.
use Rattle.std.proofs.Common.{◌≡◌, ℕ, ◌≤◌, Bool, true, false, List, [], ◌∷◌, ◌⊎◌, map, Contains, Option, Some, None, Result, Ok, Err, refl, sym, ap, ◌∙◌, subst, inl, inr, arith}
use Rattle.std.specs.Prelude.{min, if◌then◌else◌, IsOk}
use Rattle.std.specs.Option.{option_map, IsSomeAnd}
use Rattle.std.specs.List.{filter}
use Rattle.opcodes.specs.Start.{first_bad}
use Rattle.class_pool.specs.declared.class.Code.{Code}
use Rattle.class_pool.specs.declared.class.ClassFile.{ClassFile}
use Rattle.class_pool.specs.Found.{otherwise}
use Rattle.class_rules.specs.Found.{MethodsHaveCode}
use Rattle.lists.proofs.Lemmas.{none≢some, some_same, some_is, some_in}
use Rattle.lists.specs.Members.{at_head, in_tail, cons_cases, nil_contains}
use Rattle.bytecode_model.specs.Program.{Method, Body}
use Rattle.frame_types.specs.declared.types.Frames.{Frames}
use Rattle.frame_types.specs.Frames.{frames_of}
use Rattle.frame_types.specs.Laws.{FramesLaw}
use Rattle.program_tables.specs.Laws.{MethodsStandByNumber}
use Rattle.program_tables.specs.Resolved.{resolved}
use Rattle.program_tables.specs.Resolving.{IsResolved}
use Rattle.bytecode_typing.specs.Types.{TypeFrame}
use Rattle.bytecode_typing.specs.Walk as walk
use Rattle.bytecode_typing.specs.Walk.{Walked, first_types, walked}
use Rattle.bytecode_typing.specs.Typings as typings
use Rattle.bytecode_typing.specs.Laws.{TheWalkFindsATyping}
use Rattle.bytecode_verifier.specs.Failure.{Broken, Opcode, Table, Map, Walk, Failure, opcode_failure, is_bad_entry, lesser, least, table_failure, walk_failure, maps_in, frames_failure, types_failure, method_failure, maps_of, IsVerified, FailsFirst}
use Rattle.bytecode_verifier.specs.Methods.{IsCodeOf, method_of, body_of}
use Rattle.bytecode_verifier.specs.Laws.{IsTableOf, HasForm, HasTyping, VerifiedMeansTyped, IsLeastBadStart, BreaksAt, BreaksFirst, FirstFailureMeansFirst}
use Rattle.bytecode_verifier.proofs.TableLemmas.{Entry, least_start}
use Rattle.bytecode_verifier.proofs.MethodLemmas.{code_at, code_there, failure_is, maps_are, no_failure, method_is, body_is}
use Rattle.bytecode_verifier.proofs.TypingLemmas.{neither, walked_case, code_typing, typings as all_typings}

-- ---- exception tables

lesser_some : (n : ℕ) (o : Option ℕ) → lesser (Some n) o ≡ None → ⊥
lesser_some n None h = none≢some n (sym h)
lesser_some n (Some m) h = none≢some (min n m) (sym h)

module _ (code : List ℕ) where
  abbrev bad : Entry → Bool
  bad e = is_bad_entry code e

  -- the least start of the entries behind one, and of it too if it is bad
  abbrev among : Bool → Entry → List Entry → Option ℕ
  among b e es = least (map (λ h. h.0) (if b then e ∷ filter bad es else filter bad es))

  pub good_table : (es : List Entry) → least_start bad es ≡ None → IsTableOf code es
  good_table [] h = tt
  good_table (e ∷ es) h = by (bad e) refl h (λ later. good_table es later)
    where
      by : (b : Bool) → bad e ≡ b → among b e es ≡ None → (least_start bad es ≡ None → IsTableOf code es) → (bad e ≡ false) × IsTableOf code es
      by true f h rec = absurd (lesser_some e.0 (least_start bad es) h)
      by false f h rec = (f, rec h)

  pub no_bad : (es : List Entry) → IsTableOf code es → least_start bad es ≡ None
  no_bad [] h = refl
  no_bad (e ∷ es) h = ap (λ b. among b e es) h.0 ∙ no_bad es h.1

  table_at : (es : List Entry) (x : Entry) → IsTableOf code es → Contains es x → bad x ≡ false
  table_at [] x h c = absurd (nil_contains x c)
  table_at (e ∷ es) x h c = by (cons_cases e x es c) (λ d. table_at es x h.1 d)
    where
      by : (e ≡ x) ⊎ Contains es x → (Contains es x → bad x ≡ false) → bad x ≡ false
      by (inl f) later = ap bad (sym f) ∙ h.0
      by (inr d) later = later d

  both_ways : (x : Entry) → bad x ≡ true → bad x ≡ false → ⊥
  both_ways x t f = let g : true ≡ false = sym t ∙ f in cc

  -- the entry at the head is good: the least is among the others
  behind_good : (e : Entry) (es : List Entry) (n : ℕ) → bad e ≡ false → IsLeastBadStart code es n → IsLeastBadStart code (e ∷ es) n
  behind_good e es n f r = record {
    entry = r.entry;
    there = in_tail e r.entry es r.there;
    bad = r.bad;
    here = r.here;
    least = λ x c t. by x t (cons_cases e x es c);
  }
    where
      by : (x : Entry) → bad x ≡ true → (e ≡ x) ⊎ Contains es x → n ≤ x.0
      by x t (inl g) = absurd (both_ways x t (ap bad (sym g) ∙ f))
      by x t (inr d) = r.least x d t

  -- it is bad, and none behind it is, or none begins before it
  head_least : (e : Entry) (es : List Entry) → bad e ≡ true → ((x : Entry) → Contains es x → bad x ≡ true → e.0 ≤ x.0) → IsLeastBadStart code (e ∷ es) e.0
  head_least e es f later = record {
    entry = e;
    there = at_head e es;
    bad = f;
    here = refl;
    least = λ x c t. by x t (cons_cases e x es c);
  }
    where
      by : (x : Entry) → bad x ≡ true → (e ≡ x) ⊎ Contains es x → e.0 ≤ x.0
      by x t (inl g) = let s = ap (λ (y : Entry). y.0) g in omega (arith, s)
      by x t (inr d) = later x d t

  -- it is bad, and one behind it begins before it
  tail_least : (e : Entry) (es : List Entry) (n : ℕ) → n ≤ e.0 → IsLeastBadStart code es n → IsLeastBadStart code (e ∷ es) n
  tail_least e es n l r = record {
    entry = r.entry;
    there = in_tail e r.entry es r.there;
    bad = r.bad;
    here = r.here;
    least = λ x c t. by x t (cons_cases e x es c);
  }
    where
      by : (x : Entry) → bad x ≡ true → (e ≡ x) ⊎ Contains es x → n ≤ x.0
      by x t (inl g) = let s = ap (λ (y : Entry). y.0) g in omega (arith, s, l)
      by x t (inr d) = r.least x d t

  with_bad : (e : Entry) (es : List Entry) (n : ℕ) (o : Option ℕ) → bad e ≡ true → least_start bad es ≡ o → lesser (Some e.0) o ≡ Some n → ((m : ℕ) → least_start bad es ≡ Some m → IsLeastBadStart code es m) → IsLeastBadStart code (e ∷ es) n
  with_bad e es n None f eo h rec =
      let table = good_table es eo in
      subst (IsLeastBadStart code (e ∷ es)) (some_same e.0 n h) (head_least e es f (λ x c t. absurd (both_ways x t (table_at es x table c))))
  with_bad e es n (Some m) f eo h rec = by (nat_cases e.0 m)
    where
      nat_cases : (a b : ℕ) → (a ≤ b) ⊎ (b ≤ a)
      nat_cases a b = grind arith

      is : min e.0 m ≡ n
      is = some_same (min e.0 m) n h

      by : (e.0 ≤ m) ⊎ (m ≤ e.0) → IsLeastBadStart code (e ∷ es) n
      by (inl l) =
          let r = rec m eo in
          let same : e.0 ≡ n = omega (arith, is, l) in
          subst (IsLeastBadStart code (e ∷ es)) same (head_least e es f (λ x c t. let g = r.least x c t in omega (arith, g, l)))
      by (inr l) = let same : m ≡ n = omega (arith, is, l) in subst (IsLeastBadStart code (e ∷ es)) same (tail_least e es m l (rec m eo))

  pub least_found : (es : List Entry) (n : ℕ) → least_start bad es ≡ Some n → IsLeastBadStart code es n
  least_found [] n h = absurd (none≢some n h)
  least_found (e ∷ es) n h = by (bad e) refl h (λ m g. least_found es m g)
    where
      by : (b : Bool) → bad e ≡ b → among b e es ≡ Some n → ((m : ℕ) → least_start bad es ≡ Some m → IsLeastBadStart code es m) → IsLeastBadStart code (e ∷ es) n
      by true f h rec = with_bad e es n (least_start bad es) f refl h rec
      by false f h rec = behind_good e es n f (rec n h)

  pub least_back : (es : List Entry) (n : ℕ) → IsLeastBadStart code es n → least_start bad es ≡ Some n
  least_back es n r = by (least_start bad es) refl
    where
      by : (o : Option ℕ) → least_start bad es ≡ o → least_start bad es ≡ Some n
      by None e = absurd (both_ways r.entry r.bad (table_at es r.entry (good_table es e) r.there))
      by (Some m) e =
          let s = least_found es m e in
          let a : m ≤ n = (let g = s.least r.entry r.there r.bad in let f = r.here in omega (arith, g, f)) in
          let b : n ≤ m = (let g = r.least s.entry s.there s.bad in let f = s.here in omega (arith, g, f)) in
          let same : m ≡ n = omega (arith, a, b) in e ∙ ap Some same

-- ---- options and results

map_none : {A B : Type 0} (f : A → B) (o : Option A) → option_map f o ≡ None → o ≡ None
map_none f None h = refl
map_none f (Some x) h = absurd (none≢some (f x) (sym h))

ok_found : (r : Result Frames ℕ) → IsOk r → (fs : Frames) × (r ≡ Ok fs)
ok_found (Ok fs) h = (fs, refl)
ok_found (Err place) h = absurd (let g : false ≡ true = h in cc)

ok_is : (r : Result Frames ℕ) (fs : Frames) → r ≡ Ok fs → IsOk r
ok_is r fs e = subst (λ x. IsOk x) (sym e) refl

-- ---- a method

module _ (walks : TheWalkFindsATyping) (frames : FramesLaw) (codes : MethodsHaveCode) (cs : List ClassFile) (n : ℕ) (k : Code) (h : IsCodeOf cs n k) where
  abbrev m : Method
  m = method_of cs n k h

  abbrev b : Body
  b = body_of cs n k h

  abbrev found : Result Frames ℕ
  found = frames_of h.class h.member k

  abbrev by_opcode : Option ℕ → Option Failure
  by_opcode o = otherwise (option_map (λ pc. (pc, Opcode)) o) (otherwise (table_failure k.code k.handlers) (types_failure cs n m b (first_types m b) found))

  abbrev by_table : Option ℕ → Option Failure
  by_table o = otherwise (option_map (λ pc. (pc, Table)) o) (types_failure cs n m b (first_types m b) found)

  pub form_of : IsResolved cs → method_failure cs n ≡ None → HasForm h.class h.member k × HasTyping cs n k h
  form_of r e =
      let parts = neither (opcode_failure k.code) _ (sym (failure_is cs n k h) ∙ e) in
      let rest = neither (table_failure k.code k.handlers) (types_failure cs n m b (first_types m b) found) parts.1 in
      let w = walked_case cs n m b (first_types m b) found refl rest.1 in (
        record {
          instructions = map_none (λ pc. (pc, Opcode)) (first_bad k.code) parts.0;
          table = good_table k.code k.handlers (map_none (λ pc. (pc, Table)) (least_start (is_bad_entry k.code) k.handlers) rest.0);
          frames = ok_is found w.named w.named_are;
        },
        code_typing walks frames codes cs r n k h e,
      )

  -- up to the walk the rules hold
  to_types : first_bad k.code ≡ None → IsTableOf k.code k.handlers → method_failure cs n ≡ types_failure cs n m b (first_types m b) found
  to_types whole table = failure_is cs n k h ∙ (ap by_opcode whole ∙ ap by_table (no_bad k.code k.handlers table))

  to_walk : (f : TypeFrame) (fs : Frames) → first_types m b ≡ Some f → found ≡ Ok fs → types_failure cs n m b (first_types m b) found ≡ walk_failure (walked (resolved cs) n m b (maps_of cs n))
  to_walk f fs ef es =
      ap (λ o. types_failure cs n m b o found) ef
      ∙ (ap (λ x. frames_failure cs n m b x) es
      ∙ ap (λ (g : ℕ → Option TypeFrame). walk_failure (walked (resolved cs) n m b g)) (sym (maps_are cs n k h ∙ ap (maps_in cs) es)))

  pub none_fails : HasForm h.class h.member k → HasTyping cs n k h → method_failure cs n ≡ None
  none_fails form typing =
      let first = some_is (first_types m b) (λ f. Unit {0}) typing.0.first in
      let named = ok_found found form.frames in
      to_types form.instructions form.table
      ∙ (to_walk first.0 named.0 first.1 named.1 ∙ ap walk_failure (((walks (resolved cs) n m b (maps_of cs n)).0 typing.1.0).1 typing.1.1))

  -- ---- what fails

  abbrev At : Failure → Type 0
  At x = BreaksAt cs n k h x.0 x.1

  walk_breaks : (f : TypeFrame) (fs : Frames) (x : Failure) (w : Walked) → first_bad k.code ≡ None → IsTableOf k.code k.handlers → first_types m b ≡ Some f → found ≡ Ok fs → walked (resolved cs) n m b (maps_in cs (Ok fs)) ≡ w → walk_failure w ≡ Some x → At x
  walk_breaks f fs x (walk.Frames ts) whole table ef es ew e = absurd (none≢some x e)
  walk_breaks f fs x (walk.Failed q s) whole table ef es ew e =
      let maps = maps_are cs n k h ∙ ap (maps_in cs) es in
      let fails = ((walks (resolved cs) n m b (maps_in cs (Ok fs))).1 q s).0 ew in
      subst At (some_same (q, Walk s) x e) (
        record { instructions = whole; table = table; frames = ok_is found fs es },
        some_in (first_types m b) f (λ f. Unit {0}) ef tt,
        subst (λ (g : ℕ → Option TypeFrame). typings.BreaksOffAt (resolved cs) n m b g q s) (sym maps) fails,
      )

  frames_break : (f : TypeFrame) (x : Failure) (r : Result Frames ℕ) → first_bad k.code ≡ None → IsTableOf k.code k.handlers → first_types m b ≡ Some f → found ≡ r → frames_failure cs n m b r ≡ Some x → At x
  frames_break f x (Err place) whole table ef er e = subst At (some_same (place, Map) x e) (whole, table, inr (some_in (first_types m b) f (λ f. Unit {0}) ef tt, er))
  frames_break f x (Ok fs) whole table ef er e = walk_breaks f fs x (walked (resolved cs) n m b (maps_in cs (Ok fs))) whole table ef er refl e

  types_break : (x : Failure) (o : Option TypeFrame) → first_bad k.code ≡ None → IsTableOf k.code k.handlers → first_types m b ≡ o → types_failure cs n m b o found ≡ Some x → At x
  types_break x None whole table ef e = subst At (some_same (0, Map) x e) (whole, table, inl (ef, refl))
  types_break x (Some f) whole table ef e = frames_break f x found whole table ef refl e

  table_breaks : (x : Failure) (o : Option ℕ) → first_bad k.code ≡ None → least_start (is_bad_entry k.code) k.handlers ≡ o → by_table o ≡ Some x → At x
  table_breaks x (Some q) whole et e = subst At (some_same (q, Table) x e) (whole, least_found k.code k.handlers q et)
  table_breaks x None whole et e = types_break x (first_types m b) whole (good_table k.code k.handlers et) refl e

  code_breaks : (x : Failure) (o : Option ℕ) → first_bad k.code ≡ o → by_opcode o ≡ Some x → At x
  code_breaks x (Some q) eo e = subst At (some_same (q, Opcode) x e) eo
  code_breaks x None eo e = table_breaks x (least_start (is_bad_entry k.code) k.handlers) eo refl e

  pub breaks_at : (pc : ℕ) (r : Broken) → method_failure cs n ≡ Some (pc, r) → BreaksAt cs n k h pc r
  breaks_at pc r e = code_breaks (pc, r) (first_bad k.code) refl (sym (failure_is cs n k h) ∙ e)

  map_fails : (pc : ℕ) → first_bad k.code ≡ None → IsTableOf k.code k.handlers → ((first_types m b ≡ None) × (pc ≡ 0)) ⊎ (IsSomeAnd (first_types m b) (λ f. Unit {0}) × (found ≡ Err pc)) → method_failure cs n ≡ Some (pc, Map)
  map_fails pc whole table (inl x) = to_types whole table ∙ (ap (λ o. types_failure cs n m b o found) x.0 ∙ ap (λ (q : ℕ). Some (q, Map)) (sym x.1))
  map_fails pc whole table (inr x) =
      let first = some_is (first_types m b) (λ f. Unit {0}) x.0 in
      to_types whole table ∙ (ap (λ o. types_failure cs n m b o found) first.1 ∙ ap (λ y. frames_failure cs n m b y) x.1)

  pub fails_at : (pc : ℕ) (r : Broken) → BreaksAt cs n k h pc r → method_failure cs n ≡ Some (pc, r)
  fails_at pc Opcode x = failure_is cs n k h ∙ ap by_opcode x
  fails_at pc Table x = failure_is cs n k h ∙ (ap by_opcode x.0 ∙ ap by_table (least_back k.code k.handlers pc x.1))
  fails_at pc Map x = map_fails pc x.0 x.1 x.2
  fails_at pc (Walk r) x =
      let first = some_is (first_types m b) (λ f. Unit {0}) x.1 in
      let named = ok_found found x.0.frames in
      to_types x.0.instructions x.0.table
      ∙ (to_walk first.0 named.0 first.1 named.1 ∙ ap walk_failure (((walks (resolved cs) n m b (maps_of cs n)).1 pc r).1 x.2))

-- ---- a program

module _ (walks : TheWalkFindsATyping) (frames : FramesLaw) (codes : MethodsHaveCode) (stand : MethodsStandByNumber) where
  -- where each code has its form and a typing, nothing fails
  clear : (cs : List ClassFile) (n : ℕ) → ((k : Code) (h : IsCodeOf cs n k) → HasForm h.class h.member k × HasTyping cs n k h) → method_failure cs n ≡ None
  clear cs n all = by (code_at cs n) refl
    where
      by : (o : Option Code) → code_at cs n ≡ o → method_failure cs n ≡ None
      by None e = no_failure cs n e
      by (Some k) e = let h = code_there cs n k e in let x = all k h in none_fails walks frames codes cs n k h x.0 x.1

  pub verified_typed : VerifiedMeansTyped
  unfolding IsVerified
  verified_typed cs r = (
    λ v. (λ n k h. (form_of walks frames codes cs n k h r (v n)).0, all_typings walks frames codes stand cs r v),
    λ x n. clear cs n (λ k h. (x.0 n k h, x.1 n (method_of cs n k h) (body_of cs n k h) (method_is stand cs n k h) (body_is cs n k h))),
  )

  pub first_first : FirstFailureMeansFirst
  first_first cs r n pc rule = (
    λ f. by (code_at cs n) refl f,
    λ x. record {
      fails = fails_at walks frames codes cs n x.code x.there pc rule x.breaks;
      before = λ i l. clear cs i (λ k h. x.before i l k h);
    },
  )
    where
      by : (o : Option Code) → code_at cs n ≡ o → FailsFirst cs n pc rule → BreaksFirst cs n pc rule
      by None e f = absurd (none≢some (pc, rule) (sym (no_failure cs n e) ∙ f.fails))
      by (Some k) e f =
          let h = code_there cs n k e in record {
            code = k;
            there = h;
            breaks = breaks_at walks frames codes cs n k h pc rule f.fails;
            before = λ i l k h. form_of walks frames codes cs i k h r (f.before i l);
          }
