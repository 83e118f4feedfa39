-- The methods and the lists are the table of the program.
use Rattle.std.proofs.Common.{◌≡◌, ◌↔◌, ◌⊎◌, ℕ, zero, suc, ◌+◌, ◌-◌, ◌<◌, ◌≤◌, ◌^◌, true, false, List, [], ◌∷◌, map, length, get_or, Contains, Option, Some, None, refl, sym, ap, ◌∙◌, subst, inl, inr, arith}
use Rattle.std.specs.Prelude.{slice_get, is_some, IsSomeAnd, All}
use Rattle.std.specs.Option.{option_map_or}
use Rattle.std.specs.List.Sorted.{IsStrictlyIncreasing}
use Rattle.std.proofs.lemmas.Bool.{cases_lt}
use Rattle.std.proofs.lemmas.Option.{slice_get_within, slice_get-get_or, get_or_from_slice_get}
use Rattle.opcodes.specs.Start.{starts_of, IsStart}
use Rattle.lists.specs.Lists.{onto}
use Rattle.lists.proofs.Lemmas.{none≢some, some_same, onto_some, map_some, some_is, some_in, if_at}
use Rattle.class_pool.specs.declared.class.ClassFile.{ClassFile}
use Rattle.bytecode_model.specs.Program.{Program, Method, Body, body_of}
use Rattle.bytecode_model.specs.Rows as rows
use Rattle.bytecode_model.specs.Rows.{Row}
use Rattle.bytecode_model.specs.Steps.{row_in}
use Rattle.bytecode_typing.specs.Lawful.{Lawful, IsThere, IsStaticCall, IsSpecialCall, IsVirtualCall, IsInterfaceCall, IsResolvedRow}
use Rattle.bytecode_typing.specs.WellPlaced.{WellPlaced}
use Rattle.method_flow.specs.declared.flow.Call.{Call}
use Rattle.method_flow.specs.Calls.{selected_for, targets_of_row, targets_of}
use Rattle.method_flow.specs.Flow.{Coded, Flow, targets_of_call, range_of, IsFlow, IsCodedOf, IsFlowOf}
use Rattle.program_tables.specs.Laws.{MethodsStandByNumber}
use Rattle.program_tables.specs.Numbers.{methods_by_number}
use Rattle.program_tables.specs.Resolved.{resolved_method, resolved_methods, resolved}
use Rattle.flow_table.specs.declared.invokes.Invoked.{Invoked}
use Rattle.flow_table.specs.declared.invokes.Invoked.TheVariants.{Fixed, Resolved}
use Rattle.flow_table.specs.Invokes.{invoked_by, invoked_at, list_number, call_of, call_at}
use Rattle.flow_table.specs.Made.{AreCoded, AreMade}
use Rattle.flow_table.specs.Targets.{IsNamedByInvoke, IsVirtual, IsSelectedList, AreTargets}
use Rattle.flow_table.proofs.Listing.{filter_map_found}
use Rattle.flow_table.proofs.Selecting.{coded_by}

-- ---- what an invoke may run

-- it runs the method that it names, which has code, or one that is selected for it
abbrev pub MayRun : Program → Invoked → List ℕ → Type 0
MayRun P (Fixed t) ts = (is_some (body_of P t) ≡ true) × (ts ≡ t ∷ [])
MayRun P (Resolved t) ts = IsVirtual P t × (ts ≡ selected_for P t)

fixed_runs : (P : Program) (t : ℕ) (i : Invoked) (Is : Method → Type 0) → ((k : Method) → Is k → IsThere k.body) → IsSomeAnd (slice_get P.methods t) Is → Some (Fixed t) ≡ Some i → MayRun P i (t ∷ [])
fixed_runs P t i Is code there e =
    let k = some_is (slice_get P.methods t) Is there in
    subst (λ (j : Invoked). MayRun P j (t ∷ [])) (some_same (Fixed t) i e) (coded_by P t k.0 k.1 (code k.0 k.2), refl)

resolved_runs : (P : Program) (t : ℕ) (i : Invoked) (Is : Method → Type 0) → ((k : Method) → Is k → (k.has_this ≡ true) × (k.is_init ≡ false)) → IsSomeAnd (slice_get P.methods t) Is → Some (Resolved t) ≡ Some i
    → MayRun P i (selected_for P t)
resolved_runs P t i Is virtual there e =
    let k = some_is (slice_get P.methods t) Is there in
    let is : IsVirtual P t = some_in (slice_get P.methods t) k.0 (λ (k : Method). (k.has_this ≡ true) × (k.is_init ≡ false)) k.1 (virtual k.0 k.2) in
    subst (λ (j : Invoked). MayRun P j (selected_for P t)) (some_same (Resolved t) i e) (is, refl)

row_runs : (P : Program) (method : Method) (r : Row) (i : Invoked) → IsResolvedRow P method r → invoked_by r ≡ Some i → MayRun P i (targets_of_row P r)
row_runs P method (rows.CallStatic t) i is e = fixed_runs P t i IsStaticCall (λ k c. c.code) is e
row_runs P method (rows.CallSpecial named t) i is e = fixed_runs P t i (IsSpecialCall P method named) (λ k c. c.code) is e
row_runs P method (rows.CallVirtual named t) i is e = resolved_runs P t i (IsVirtualCall P named) (λ k c. (c.instance, c.other)) is e
row_runs P method (rows.CallInterface named t) i is e = resolved_runs P t i IsInterfaceCall (λ k c. (c.instance, c.other)) is e
row_runs P method r i is e = absurd (none≢some i e)

pub runs_at : (P : Program) → WellPlaced P → Lawful P → (m : ℕ) (b : Body) → body_of P m ≡ Some b → (p : ℕ) → IsStart b.code p → (i : Invoked) → invoked_at P m p ≡ Some i → MayRun P i (targets_of P m p)
runs_at P w lawful m b eb p start i e =
    let a = (w m b eb).instructions p start in
    let k = onto_some (slice_get P.methods m) (λ (k : Method). k.body) b eb in
    let is : IsResolvedRow P k.0 a.row = if_at (row_in P m p) (p + a.instr.length, a.row) (λ (x : ℕ × Row). IsResolvedRow P k.0 x.1) a.has_row (lawful.rows m k.0 b k.1 k.2 p start) in
    let invokes : invoked_by a.row ≡ Some i = sym (ap (λ o. onto o (λ (x : ℕ × Row). invoked_by x.1)) a.has_row) ∙ e in
    subst (λ (ts : List ℕ). MayRun P i ts) (sym (ap (λ o. option_map_or (λ (x : ℕ × Row). targets_of_row P x.1) o []) a.has_row)) (row_runs P k.0 a.row i is invokes)

-- the number of a method is below their number
method_within : MethodsStandByNumber → (cs : List ClassFile) (t : ℕ) → IsVirtual (resolved cs) t → t < length (methods_by_number cs)
method_within stand cs t virtual =
    let k = some_is (slice_get (resolved_methods cs) t) (λ (k : Method). (k.has_this ≡ true) × (k.is_init ≡ false)) virtual in
    let p = onto_some (slice_get (methods_by_number cs) t) (resolved_method cs) k.0 (sym (stand cs t) ∙ k.1) in
    slice_get_within (methods_by_number cs) t p.0 p.1

-- ---- numbers of lists

pub number_within : MethodsStandByNumber → (cs : List ClassFile) (coded : ℕ) → AreCoded cs coded → (i : Invoked) (ts : List ℕ) → MayRun (resolved cs) i ts → list_number coded i < coded + length (methods_by_number cs)
number_within stand cs coded are (Fixed t) ts runs = let below = are.no_others t runs.0 in omega arith
number_within stand cs coded are (Resolved t) ts runs = let below = method_within stand cs t runs.0 in omega arith

module _ (stand : MethodsStandByNumber) (cs : List ClassFile) (w : WellPlaced (resolved cs)) (lawful : Lawful (resolved cs)) (coded : ℕ) (are : AreCoded cs coded) where
  abbrev P : Program
  P = resolved cs

  pub few_numbers : (m : ℕ) (b : Body) → body_of P m ≡ Some b → (p : ℕ) → IsStart b.code p → (i : Invoked) → invoked_at P m p ≡ Some i → list_number coded i < 2 ^ 32
  few_numbers m b eb p start i e =
      let below = number_within stand cs coded are i (targets_of P m p) (runs_at P w lawful m b eb p start i e) in
      let few = are.few in
      omega arith

  module _ (ks : List Coded) (made : AreMade cs coded coded ks) where
    -- what stands behind a call of a method
    record IsCallOf (m : ℕ) (c : Call) : Type 0 where
      body : Body
      is_body : body_of P m ≡ Some body
      start : IsStart body.code c.place
      invoked : Invoked
      is : invoked_at P m c.place ≡ Some invoked
      number : c.targets ≡ list_number coded invoked

    call_is : (m : ℕ) (k : Coded) → slice_get ks m ≡ Some k → (c : Call) → Contains k.calls c → IsCallOf m c
    call_is m k at c has =
        let is = made.each m k at in
        let b = some_is (body_of P m) (λ (b : Body). (b.code ≡ k.code) × (map range_of b.handlers ≡ k.ranges)) is.body in
        let p = filter_map_found (call_at P coded m) (starts_of k.code) c (subst (λ (cs : List Call). Contains cs c) is.calls has) in
        let i = map_some (call_of coded p.0) (invoked_at P m p.0) c p.2 in
        let place : p.0 ≡ c.place = ap (λ (x : Call). x.place) i.2 in
        record {
          body = b.0;
          is_body = b.1;
          start = subst (λ (q : ℕ). IsStart b.0.code q) place (subst (λ (xs : List ℕ). IsStart xs p.0) (sym b.2.0) p.1);
          invoked = i.0;
          is = ap (λ (q : ℕ). invoked_at P m q) (sym place) ∙ i.1;
          number = sym (ap (λ (x : Call). x.targets) i.2);
        }

    runs : (m : ℕ) (c : Call) (x : IsCallOf m c) → MayRun P x.invoked (targets_of P m c.place)
    runs m c x = runs_at P w lawful m x.body x.is_body c.place x.start x.invoked x.is

    pub calls_fit : (m : ℕ) (k : Coded) (c : Call) → slice_get ks m ≡ Some k → Contains k.calls c → c.targets < coded + length (methods_by_number cs)
    calls_fit m k c at has =
        let x = call_is m k at c has in
        let below = number_within stand cs coded are x.invoked (targets_of P m c.place) (runs m c x) in
        let number = x.number in
        omega arith

  module _ (f : Flow) (made : AreMade cs coded coded f.methods) (targets : AreTargets cs coded f.methods f.targets) (boot : f.boot ≡ P.boot) where
    -- ---- the lists

    lists_hold : (Q : List ℕ → Type 0) → ((t : ℕ) → t < coded → Q (t ∷ [])) → ((m : ℕ) (Wanted : Type 0) (ts : List ℕ) → IsSelectedList P m Wanted ts → Q ts) → All Q f.targets
    lists_hold Q alone selected n d lt =
        let long = targets.long in
        subst Q (sym (get_or_from_slice_get f.targets n (get_or f.targets n []) d (slice_get-get_or f.targets n [] lt)))
        (by n (get_or f.targets n []) refl (cases_lt n coded) lt)
      where
        by : (n : ℕ) (ts : List ℕ) → get_or f.targets n [] ≡ ts → (n < coded) ⊎ (coded ≤ n) → n < length f.targets → Q ts
        by n ts e (inl less) lt = subst Q (sym (targets.alone n less) ∙ e) (alone n less)
        by n ts e (inr ge) lt =
            let long = targets.long in
            let same : coded + (n - coded) ≡ n = omega arith in
            selected (n - coded) (IsNamedByInvoke coded f.methods (n - coded)) ts (subst (λ (xs : List ℕ). IsSelectedList P (n - coded) (IsNamedByInvoke coded f.methods (n - coded)) xs) (ap (λ (k : ℕ). get_or f.targets k []) same ∙ e) (targets.selected (n - coded) (omega arith)))

    alone_rises : (t : ℕ) → IsStrictlyIncreasing (t ∷ [])
    alone_rises t k lt = absurd (omega arith)

    alone_within : (t n : ℕ) → t < n → All (λ u. u < n) (t ∷ [])
    alone_within t n lt zero d below = lt
    alone_within t n lt (suc k) d below = absurd (omega arith)

    selected_within : (m : ℕ) (Wanted : Type 0) (ts : List ℕ) → IsSelectedList P m Wanted ts → All (λ u. u < length f.methods) ts
    selected_within m Wanted ts h k d lt =
        let long = made.long in
        let below = are.no_others (get_or ts k d) (h.coded (get_or ts k d) (k, lt, get_or_from_slice_get ts k (get_or ts k d) (get_or ts k d) (slice_get-get_or ts k d lt))) in
        omega arith

    calls_within : All (λ (k : Coded). All (λ (c : Call). c.targets < length f.targets) k.calls) f.methods
    calls_within m d lt j e less =
        let k = get_or f.methods m d in
        let c = get_or k.calls j e in
        let below = calls_fit f.methods made m k c (slice_get-get_or f.methods m d lt) (j, less, get_or_from_slice_get k.calls j c c (slice_get-get_or k.calls j e less)) in
        let long = targets.long in
        omega arith

    boot_within : f.boot < length f.methods
    boot_within =
        let k = some_is (slice_get P.methods P.boot) (λ (k : Method). (k.has_this ≡ false) × (k.result ≡ None) × IsThere k.body) lawful.boot in
        let below = are.no_others P.boot (coded_by P P.boot k.0 k.1 k.2.2) in
        let long = made.long in
        omega arith

    pub is_flow : IsFlow f
    is_flow = record {
      few = let long = made.long in let few = are.few in omega arith;
      boot = boot_within;
      rising = lists_hold IsStrictlyIncreasing (λ t lt. alone_rises t) (λ m Wanted ts h. h.rising);
      within = lists_hold (All (λ t. t < length f.methods)) (λ t lt. let long = made.long in alone_within t (length f.methods) (omega arith)) selected_within;
      lists = calls_within;
    }

    -- ---- the program's

    target_is : (m : ℕ) (c : Call) (i : Invoked) (ts : List ℕ) → c.targets ≡ list_number coded i → ((n : ℕ) → c.targets ≡ coded + n → IsNamedByInvoke coded f.methods n) → MayRun P i ts → (t : ℕ) → Contains (targets_of_call f c) t ↔ Contains ts t
    target_is m c (Fixed n) ts number named runs t =
        let same : targets_of_call f c ≡ ts = ap (λ (k : ℕ). get_or f.targets k []) number ∙ targets.alone n (are.no_others n runs.0) ∙ sym runs.1 in
        (λ h. subst (λ (xs : List ℕ). Contains xs t) same h, λ h. subst (λ (xs : List ℕ). Contains xs t) (sym same) h)
    target_is m c (Resolved n) ts number named runs t =
        let list = targets.selected n (method_within stand cs n runs.0) in
        let at : targets_of_call f c ≡ get_or f.targets (coded + n) [] = ap (λ (k : ℕ). get_or f.targets k []) number in (
          λ h. subst (λ (xs : List ℕ). Contains xs t) (sym runs.1) ((list.selected (named n number) runs.0 t).0 (subst (λ (xs : List ℕ). Contains xs t) at h)),
          λ h. subst (λ (xs : List ℕ). Contains xs t) (sym at) ((list.selected (named n number) runs.0 t).1 (subst (λ (xs : List ℕ). Contains xs t) runs.1 h)),
        )

    coded_of : (m : ℕ) (k : Coded) → slice_get f.methods m ≡ Some k → IsCodedOf P m k
    coded_of m k at =
        let is = made.each m k at in
        let b = some_is (body_of P m) (λ (b : Body). (b.code ≡ k.code) × (map range_of b.handlers ≡ k.ranges)) is.body in
        record {
          body = is.body;
          rows = λ p start. ap (λ (o : Option (ℕ × Row)). is_some o) ((w m b.0 b.1).instructions p (subst (λ (xs : List ℕ). IsStart xs p) (sym b.2.0) start)).has_row;
        }

    pub is_flow_of : IsFlowOf P f
    is_flow_of = record {
      coded = λ m. let long = made.long in (λ h. (let below = are.no_others m h in omega arith), λ lt. are.all m (omega arith));
      methods = coded_of;
      targets = λ m k c at has t.
          let x = call_is f.methods made m k at c has in
          target_is m c x.invoked (targets_of P m c.place) x.number (λ n number. record { caller = m; method = k; at = at; call = c; among = has; number = number }) (runs f.methods made m c x) t;
      boot = boot;
    }
