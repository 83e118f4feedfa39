-- The methods and the lists, one after another.
use Rattle.std.proofs.Common.{◌≡◌, ◌↔◌, ◌⊎◌, ℕ, Bool, true, false, Result, Ok, Err, zero, suc, ◌+◌, ◌-◌, ◌<◌, ◌≤◌, ◌^◌, List, [], ◌∷◌, ◌++◌, map, length, get_or, Contains, Option, Some, None, refl, sym, ap, ◌∙◌, subst, inl, inr, arith, length-append}
use Rattle.std.specs.Prelude.{slice_get, IfOk, IfSome, IsSome}
use Rattle.std.specs.List.{range_with_len}
use Rattle.std.proofs.lemmas.Bool.{cases_lt}
use Rattle.std.proofs.lemmas.List.{length-map}
use Rattle.std.proofs.lemmas.List.FromFn.{length-map-range_with_len, get_or-map-range_with_len}
use Rattle.std.proofs.lemmas.Option.{slice_get_within, slice_get-get_or, get_or_from_slice_get}
use Rattle.opcodes.specs.Start.{IsStart, AreStarts}
use Rattle.lists.proofs.Lemmas.{none≢some, some_same, onto_some, some_is, some_in, holds_at}
use Rattle.class_pool.specs.declared.class.ClassFile.{ClassFile}
use Rattle.class_pool.specs.declared.class.Code.{Code}
use Rattle.class_rules.specs.Found.{MethodsHaveCode}
use Rattle.class_lookup.specs.Lookup.{Place}
use Rattle.bytecode_model.specs.Program.{Program, Method, Body, body_of}
use Rattle.bytecode_typing.specs.Lawful.{Lawful}
use Rattle.bytecode_typing.specs.PlacedLaws.{ControlStays}
use Rattle.bytecode_typing.specs.WellPlaced.{WellPlaced}
use Rattle.method_flow.specs.declared.flow.HandlerRange.{HandlerRange}
use Rattle.method_flow.specs.declared.flow.Call.{Call}
use Rattle.method_flow.specs.Flow.{Coded, IsCoded, range_of}
use Rattle.method_flow.specs.Kinds.{RowsAreOfTheirKinds}
use Rattle.program_tables.specs.Laws.{MethodsStandByNumber, MembersAreThere}
use Rattle.program_tables.specs.Numbers.{methods_by_number}
use Rattle.name_laws.specs.Written.{written_name}
use Rattle.program_tables.specs.Resolved.{resolved_method, resolved_methods, resolved}
use Rattle.program_tables.specs.Resolving.{IsResolved}
use Rattle.flow_table.specs.Invokes.{IsCodeOf, invoked_at, list_number, calls_in}
use Rattle.flow_table.specs.Made.{range_at, HasCode, AreCoded, IsMade, AreMade}
use Rattle.flow_table.specs.Receivers.{IsReceiver, AreBelow}
use Rattle.flow_table.specs.Targets.{IsNamedByInvoke, IsSelectedList, AreReceivers, AreSelected, AreTargets}
use Rattle.flow_table.specs.Marks.{HasMarks}
use Rattle.flow_table.proofs.Selecting.{wanted_by}
use Rattle.flow_table.proofs.Bounds.{code_bounds}
use Rattle.flow_table.proofs.Listing.{in_front, last}
use Rattle.flow_table.proofs.Codes.{is_coded}
use Rattle.flow_table.proofs.Coding.{code_at, body_of_code, code_of_body, there_is}
use Rattle.flow_table.proofs.Flowing.{few_numbers}

-- ---- lists that grow

pub get_left : {X : Type 0} (xs ys : List X) (k : ℕ) (d : X) → k < length xs → get_or (xs ++ ys) k d ≡ get_or xs k d
get_left [] ys k d h = absurd (omega (arith, h))
get_left (x ∷ xs) ys zero d h = refl
get_left (x ∷ xs) ys (suc k) d h = get_left xs ys k d (omega (arith, h))

pub get_right : {X : Type 0} (xs ys : List X) (k : ℕ) (d : X) → get_or (xs ++ ys) (length xs + k) d ≡ get_or ys k d
get_right [] ys k d = let e : 0 + k ≡ k = omega arith in ap (λ (j : ℕ). get_or ys j d) e
get_right (x ∷ xs) ys k d = let e : suc (length xs) + k ≡ suc (length xs + k) = omega arith in ap (λ (j : ℕ). get_or (x ∷ (xs ++ ys)) j d) e ∙ get_right xs ys k d

pub each_if : {A : Type 0} (o : Option A) (Q : A → Type 0) → ((x : A) → o ≡ Some x → Q x) → IfSome o Q
each_if None Q h = tt
each_if (Some x) Q h = h x refl

-- ---- one method

module _ (stand : MethodsStandByNumber) (cs : List ClassFile) (coded m : ℕ) (k : Code) (is : HasCode cs m k) where
  abbrev P : Program
  P = resolved cs

  pub code_in : (code : List ℕ) → code ≡ k.code → IsCodeOf P m code
  code_in code same =
      let b = body_of_code stand cs m k is in
      some_in (body_of P m) b.body (λ (x : Body). x.code ≡ code) b.is_body (b.code ∙ sym same)

  pub few_in : WellPlaced P → Lawful P → AreCoded cs coded → (code : List ℕ) → code ≡ k.code → (p : ℕ) → IsStart code p → IfSome (invoked_at P m p) (λ i. list_number coded i < 2 ^ 32)
  few_in w lawful are code same p start =
      let b = body_of_code stand cs m k is in
      each_if (invoked_at P m p) (λ i. list_number coded i < 2 ^ 32)
      (λ i e. few_numbers stand cs w lawful coded are m b.body b.is_body p (subst (λ (xs : List ℕ). IsStart xs p) (same ∙ sym b.code) start) i e)

  pub few_bytes : MethodsHaveCode → IsResolved cs → (code : List ℕ) → code ≡ k.code → length code ≤ 33554432
  few_bytes law resolved code same =
      let bounds = code_bounds law cs resolved.grammar m k is in
      let short : length code < 65536 = subst (λ (xs : List ℕ). length xs < 65536) (sym same) bounds.code in
      omega arith

  module _ (name code : List ℕ) (ranges : List HandlerRange) (calls : List Call) (ec : code ≡ k.code) (er : ranges ≡ map range_at k.handlers) (el : calls ≡ calls_in P coded m code) where
    pub form : ControlStays → ((code : List ℕ) → AreStarts code) → RowsAreOfTheirKinds → MethodsHaveCode → IsResolved cs → WellPlaced P → IsCoded (record { name = name; code = code; ranges = ranges; calls = calls })
    form stays starts kinds law resolved w =
        let b = body_of_code stand cs m k is in
        let bounds = code_bounds law cs resolved.grammar m k is in
        let short : length code < 65536 = subst (λ (xs : List ℕ). length xs < 65536) (sym ec) bounds.code in
        let long : length ranges ≡ length k.handlers = ap length er ∙ length-map k.handlers range_at in
        let handlers = bounds.handlers in
        is_coded stays starts kinds P w m b.body b.is_body coded name code ranges calls (b.code ∙ sym ec) (b.ranges ∙ sym er) el short (omega arith)

    pub made : (r : Coded) → name ≡ written_name cs m → r ≡ record { name = name; code = code; ranges = ranges; calls = calls } → IsMade cs coded m r
    made r en e =
        let b = body_of_code stand cs m k is in
        let here : IsMade cs coded m (record { name = name; code = code; ranges = ranges; calls = calls }) = record {
          name = en;
          body = some_in (body_of P m) b.body (λ (x : Body). (x.code ≡ code) × (map range_of x.handlers ≡ ranges)) b.is_body (b.code ∙ sym ec, b.ranges ∙ sym er);
          calls = el;
        } in
        subst (λ (x : Coded). IsMade cs coded m x) (sym e) here

-- ---- all methods

pub none_made : (cs : List ClassFile) (coded : ℕ) → AreMade cs coded 0 []
none_made cs coded = record { long = refl; each = λ m k h. absurd (none≢some k h) }

pub made_more : (cs : List ClassFile) (coded n : ℕ) (ks ls : List Coded) (k : Coded) → AreMade cs coded n ks → IsMade cs coded n k → ls ≡ ks ++ k ∷ [] → AreMade cs coded (n + 1) ls
made_more cs coded n ks ls k are is e = subst (λ (xs : List Coded). AreMade cs coded (n + 1) xs) (sym e) (record {
  long = length-append ks (k ∷ []) ∙ ap (λ (j : ℕ). j + 1) are.long;
  each = λ m x h. by m x h (cases_lt m n);
})
  where
    by : (m : ℕ) (x : Coded) → slice_get (ks ++ k ∷ []) m ≡ Some x → (m < n) ⊎ (n ≤ m) → IsMade cs coded m x
    by m x h (inl less) = let long = are.long in are.each m x (sym (in_front ks (k ∷ []) m (omega arith)) ∙ h)
    by m x h (inr ge) =
        let long = are.long in
        let within = slice_get_within (ks ++ k ∷ []) m x h in
        let size = length-append ks (k ∷ []) in
        let same : n ≡ m = omega arith in
        let at : slice_get (ks ++ k ∷ []) m ≡ Some k = ap (slice_get (ks ++ k ∷ [])) (sym same ∙ sym long) ∙ last ks k in
        subst (λ (y : Coded). IsMade cs coded m y) (some_same k x (sym at ∙ h)) (subst (λ (j : ℕ). IsMade cs coded j k) same is)

-- a method with code has code
pub has_code : MethodsStandByNumber → (cs : List ClassFile) (coded m : ℕ) → AreCoded cs coded → m < coded → code_at cs m ≡ None → ⊥
has_code stand cs coded m are lt none =
    let b = there_is (body_of (resolved cs) m) (are.all m lt) in
    let k = code_of_body stand cs m b.0 b.1 in
    none≢some k.0 (sym none ∙ k.1)

pub coded_within : MethodsStandByNumber → (cs : List ClassFile) (coded m : ℕ) → AreCoded cs coded → m < coded → m < length (methods_by_number cs)
coded_within stand cs coded m are lt =
    let b = there_is (body_of (resolved cs) m) (are.all m lt) in
    let k = onto_some (slice_get (resolved_methods cs) m) (λ (k : Method). k.body) b.0 b.1 in
    let p = onto_some (slice_get (methods_by_number cs) m) (resolved_method cs) k.0 (sym (stand cs m) ∙ k.1) in
    slice_get_within (methods_by_number cs) m p.0 p.1

-- ---- the lists

pub none_selected_yet : (P : Program) (marks : List Bool) → AreSelected P marks 0 []
none_selected_yet P marks = record { long = refl; each = λ m lt. absurd (omega (arith, lt)) }

pub selected_more : (P : Program) (marks : List Bool) (n : ℕ) (ls ms : List (List ℕ)) (ts : List ℕ) → AreSelected P marks n ls → IsSelectedList P n (get_or marks n false ≡ true) ts → ms ≡ ls ++ ts ∷ [] → AreSelected P marks (n + 1) ms
selected_more P marks n ls ms ts are is e = subst (λ (xs : List (List ℕ)). AreSelected P marks (n + 1) xs) (sym e) (record {
  long = length-append ls (ts ∷ []) ∙ ap (λ (j : ℕ). j + 1) are.long;
  each = λ m lt. by m lt (cases_lt m n);
})
  where
    by : (m : ℕ) → m < n + 1 → (m < n) ⊎ (n ≤ m) → IsSelectedList P m (get_or marks m false ≡ true) (get_or (ls ++ ts ∷ []) m [])
    by m lt (inl less) = let long = are.long in subst (λ (xs : List ℕ). IsSelectedList P m (get_or marks m false ≡ true) xs) (sym (get_left ls (ts ∷ []) m [] (omega arith))) (are.each m less)
    by m lt (inr ge) =
        let long = are.long in
        let same : n ≡ m = omega arith in
        let place : m ≡ length ls + 0 = omega arith in
        subst (λ (xs : List ℕ). IsSelectedList P m (get_or marks m false ≡ true) xs) (sym (ap (λ (j : ℕ). get_or (ls ++ ts ∷ []) j []) place ∙ get_right ls (ts ∷ []) 0 []))
        (subst (λ (j : ℕ). IsSelectedList P j (get_or marks j false ≡ true) ts) same is)

pub are_targets : (cs : List ClassFile) (coded count : ℕ) (ks : List Coded) (marks : List Bool) (xs ys zs : List (List ℕ)) → xs ≡ map (λ t. t ∷ []) (range_with_len 0 coded) → count ≡ length (methods_by_number cs)
    → HasMarks coded count ks marks → AreSelected (resolved cs) marks count ys → zs ≡ xs ++ ys → AreTargets cs coded ks zs
are_targets cs coded count ks marks xs ys zs alone many marked are e = subst (λ (ls : List (List ℕ)). AreTargets cs coded ks ls) (sym e) (record {
  long = length-append xs ys ∙ (let size = are.long in let first = long in omega arith);
  alone = λ t lt. get_left xs ys t [] (let first = long in omega arith) ∙ (ap (λ (ls : List (List ℕ)). get_or ls t []) alone ∙ get_or-map-range_with_len (λ (t : ℕ). t ∷ []) 0 coded t t [] lt (omega arith));
  selected = λ m lt.
      let there = are.each m (omega arith) in
      let wanted = wanted_by (resolved cs) m (get_or marks m false ≡ true) (IsNamedByInvoke coded ks m) (get_or ys m []) (marked.named m) there in
      subst (λ (ts : List ℕ). IsSelectedList (resolved cs) m (IsNamedByInvoke coded ks m) ts) (sym (ap (λ (j : ℕ). get_or (xs ++ ys) (j + m) []) (sym long) ∙ get_right xs ys m [])) wanted;
})
  where
    long : length xs ≡ coded
    long = ap length alone ∙ length-map-range_with_len (λ (t : ℕ). t ∷ []) 0 coded

pub if_ok : {T E : Type 0} (r : Result T E) (A B : T → Type 0) → ((x : T) → A x → B x) → IfOk r A → IfOk r B
if_ok (Ok x) A B to h = to x h
if_ok (Err e) A B to h = tt

-- ---- receivers

pub receivers_within : (cs : List ClassFile) (m : ℕ) (p : Place) (rs : List ℕ) → slice_get (methods_by_number cs) m ≡ Some p → AreReceivers cs m rs → (i : ℕ) → i < length rs → get_or rs i 0 < length cs
receivers_within cs m p rs at are i lt =
    let each = holds_at (slice_get (methods_by_number cs) m) p (λ (p : Place). (c : ℕ) → Contains rs c ↔ ((c < length cs) × IsReceiver cs p.0 c)) at are in
    ((each (get_or rs i 0)).0 (i, lt, get_or_from_slice_get rs i (get_or rs i 0) (get_or rs i 0) (slice_get-get_or rs i 0 lt))).0

pub owner_within : MembersAreThere → (cs : List ClassFile) (m : ℕ) (p : Place) → slice_get (methods_by_number cs) m ≡ Some p → p.0 < length cs
owner_within law cs m p at =
    let c = some_is (slice_get cs p.0) (λ (c : ClassFile). p.1 < length c.methods) ((law cs m p).0 at) in
    slice_get_within cs p.0 c.0 c.1

pub are_receivers : MembersAreThere → (cs : List ClassFile) (m : ℕ) (p : Place) (lists : List (List ℕ)) (rs : List ℕ) → slice_get (methods_by_number cs) m ≡ Some p → AreBelow cs (length cs) lists → rs ≡ get_or lists p.0 []
    → AreReceivers cs m rs
are_receivers law cs m p lists rs at below is =
    some_in (slice_get (methods_by_number cs) m) p (λ (p : Place). (c : ℕ) → Contains rs c ↔ ((c < length cs) × IsReceiver cs p.0 c)) at
    (λ c. subst (λ (xs : List ℕ). Contains xs c ↔ ((c < length cs) × IsReceiver cs p.0 c)) (sym is) (below.each p.0 c (owner_within law cs m p at)))

-- ---- numbers

pub are_coded : (cs : List ClassFile) (coded count : ℕ) → ((m : ℕ) → IsSome (body_of (resolved cs) m) ↔ (m < coded)) → count ≡ length (methods_by_number cs) → count ≤ 4294967295 - coded → coded < 4294967296 → AreCoded cs coded
are_coded cs coded count each many most few = record {
  all = λ m lt. (each m).1 lt;
  no_others = λ m h. (each m).0 h;
  few = omega arith;
}
