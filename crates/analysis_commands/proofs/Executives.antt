-- The methods that the slots of an executive call, by the table of a program, and what is answered of their bounds.
use Rattle.std.proofs.Common.{◌≡◌, ℕ, ◌<◌, Bool, true, false, List, [], ◌∷◌, length, All, Contains}
use Rattle.std.proofs.Common.{Option, Some, None, refl, sym, ◌∙◌, ap, subst, inl, inr, eq-eqb, arith}
use Rattle.std.specs.Prelude.{◌↔◌, ◌==◌, cond, IsSomeAnd, IfSome, MatchOption, find, slice_get}
use Rattle.std.specs.List.Sorted.{IsStrictlyIncreasing}
use Rattle.std.proofs.Math.Path.{fun_ext}
use Rattle.std.proofs.lemmas.Bool.{true≢false, cases_order, eqb-true}
use Rattle.std.proofs.lemmas.List.Elements.{All-get_or, All-contains}
use Rattle.std.proofs.lemmas.Option.{slice_get_within, get_or_from_slice_get}
use Rattle.lists.proofs.Lemmas.{none≢some, some_same, some_is, holds_at, some_in}
use Rattle.lists.specs.Members.{at_head, in_tail, cons_cases, nil_contains, map_contains}
use Rattle.class_pool.specs.declared.class.ClassFile.{ClassFile}
use Rattle.program_tables.specs.Resolved.{resolved}
use Rattle.section_check.specs.Least.{IsLeast}
use Rattle.section_check.proofs.LeastLemmas.{least_same}
use Rattle.slot_table.specs.Executive.{call_place}
use Rattle.bytecode_model.specs.Program.{Program, Body, body_of}
use Rattle.method_flow.specs.declared.flow.Call.{Call}
use Rattle.method_flow.specs.Calls.{IsTarget}
use Rattle.method_flow.specs.Flow.{Coded, Flow, IsFlow, IsFlowOf, IsCoded, IsInvokeStart, places_of, targets_of_call}
use Rattle.bound_causes.specs.Naming.{IsNamedBy}
use Rattle.analysis_commands.specs.Analysis.{number_text, named_or_number}
use Rattle.analysis_commands.specs.Answers.{table_name}
use Rattle.analysis_commands.specs.Executive.{executive_name, IsCyclicMain, CallsOnly}
use Rattle.analysis_commands.specs.ExecutiveAnswers.{only_of, CallsOnlyIn, CallsNoneIn, IsFlowWithNames, IsExecutiveIn, IsSlotMethodIn, HasNoMethodIn}
use Rattle.analysis_commands.proofs.Lifting.{there, named}

-- ---- names

name_or : List ℕ → Option Coded → List ℕ
name_or number o = elim o [ None ↦ number | Some k ↦ k.name ]

has_name : (number name : List ℕ) (o : Option Coded) → IsSomeAnd o (λ k. k.name ≡ name) → name_or number o ≡ name
unfolding name_or
has_name number name None h = absurd h
has_name number name (Some k) h = h

by_name : (xs : List Coded) (m : ℕ) (number name : List ℕ) (o : Option Coded) → slice_get xs m ≡ o → m < length xs → name_or number o ≡ name → IsSomeAnd o (λ k. k.name ≡ name)
unfolding name_or
by_name xs m number name None e below h = absurd (there xs m e below)
by_name xs m number name (Some k) e below h = h

-- a method of the table
pub within : (xs : List Coded) (m : ℕ) (Q : Coded → Type 0) → IsSomeAnd (slice_get xs m) Q → m < length xs
within xs m Q h = let found = some_is (slice_get xs m) Q h in slice_get_within xs m found.0 found.1

-- ---- the executive

main_in : (P : Program) (f : Flow) → IsFlowOf P f → (m : ℕ) → IsNamedBy f executive_name m → IsCyclicMain P (table_name f) m
unfolding name_or
main_in P f of m h = record {
  coded = (of.coded m).1 (within f.methods m (λ k. k.name ≡ executive_name) h);
  is_named = has_name (number_text m) executive_name (slice_get f.methods m) h;
}

main_out : (P : Program) (f : Flow) → IsFlowOf P f → (m : ℕ) → IsCyclicMain P (table_name f) m → IsNamedBy f executive_name m
unfolding name_or
main_out P f of m h = by_name f.methods m (number_text m) executive_name (slice_get f.methods m) refl ((of.coded m).0 h.coded) h.is_named

-- the first of the table is the program's
pub executive_in : (P : Program) (f : Flow) → IsFlowOf P f → (o : Option ℕ) → IsExecutiveIn f o → IsLeast (IsCyclicMain P (table_name f)) o
executive_in P f of o h = least_same (IsNamedBy f executive_name) (IsCyclicMain P (table_name f)) o (main_in P f of) (main_out P f of) h

pub executive_of_program : (cs : List ClassFile) (f : Flow) (o : Option ℕ) → IsExecutiveIn f o → IsFlowWithNames cs f → IsLeast (IsCyclicMain (resolved cs) (named_or_number cs)) o
executive_of_program cs f o h table =
    let N : (ℕ → List ℕ) → Type 0 = λ name. IsLeast (IsCyclicMain (resolved cs) name) o in
    subst N (fun_ext (named cs f table.flow table.names)) (executive_in (resolved cs) f table.flow o h)

one_least : (A : ℕ → Type 0) (m n : ℕ) → IsLeast A (Some m) → IsLeast A (Some n) → m ≡ n
one_least A m n h k =
    elim (cases_order m n) [
      | inl same ↦ same
      | inr (inl less) ↦ absurd (k.1 m less h.0)
      | inr (inr more) ↦ absurd (h.1 n more k.0)
    ]

-- ---- calls

-- the first of them, or a later one
call_case : (p : ℕ) (x : Call) (calls : List Call) (c : Call) (b : Bool) → (x.place == p) ≡ b → (find (λ y. y.place == p) calls ≡ Some c → Contains calls c × (c.place ≡ p)) → cond b (Some x) (find (λ y. y.place == p) calls) ≡ Some c
    → Contains (x ∷ calls) c × (c.place ≡ p)
call_case p x calls c true same_place later e =
    let same : x ≡ c = some_same x c e in
    let P : Call → Type 0 = λ y. Contains (x ∷ calls) y × (y.place ≡ p) in
    let here : P x = (at_head x calls, eqb-true x.place p same_place) in
    subst P same here
call_case p x calls c false other later e = let behind = later e in (in_tail x c calls behind.0, behind.1)

pub found_call : (p : ℕ) (calls : List Call) (c : Call) → find (λ x. x.place == p) calls ≡ Some c → Contains calls c × (c.place ≡ p)
found_call p [] c e = absurd (none≢some c e)
found_call p (x ∷ calls) c e = call_case p x calls c (x.place == p) refl (found_call p calls c) e

none_case : (p : ℕ) (x : Call) (calls : List Call) (b : Bool) → (x.place == p) ≡ b → (find (λ y. y.place == p) calls ≡ None → Contains (places_of calls) p → ⊥) → cond b (Some x) (find (λ y. y.place == p) calls) ≡ None
    → Contains (places_of (x ∷ calls)) p → ⊥
none_case p x calls true same_place later e has = none≢some x (sym e)
none_case p x calls false other later e has =
    elim (cons_cases x.place p (places_of calls) has) [
      | inl same ↦ true≢false (sym (eq-eqb x.place p same) ∙ other)
      | inr behind ↦ later e behind
    ]

pub no_call : (p : ℕ) (calls : List Call) → find (λ x. x.place == p) calls ≡ None → Contains (places_of calls) p → ⊥
no_call p [] e has = nil_contains p has
no_call p (x ∷ calls) e has = none_case p x calls (x.place == p) refl (no_call p calls) e has

-- ---- one target

one_of : (t x : ℕ) → Contains (t ∷ []) x ↔ (x ≡ t)
one_of t x = (
  λ has. elim (cons_cases t x [] has) [ inl same ↦ sym same | inr later ↦ absurd (nil_contains x later) ],
  λ same. let P : ℕ → Type 0 = λ y. Contains (t ∷ []) y in subst P (sym same) (at_head t []),
)

only_some : (xs : List ℕ) (t : ℕ) → only_of xs ≡ Some t → xs ≡ t ∷ []
only_some [] t e = absurd (none≢some t e)
only_some (x ∷ []) t e = ap (λ (y : ℕ). y ∷ []) (some_same x t e)
only_some (x ∷ y ∷ xs) t e = absurd (none≢some t e)

-- a list that rises and has one number alone is of length one
only_none : (xs : List ℕ) (m : ℕ) → IsStrictlyIncreasing xs → only_of xs ≡ None → ((x : ℕ) → Contains xs x ↔ (x ≡ m)) → ⊥
only_none [] m rising e each = nil_contains m ((each m).1 refl)
only_none (x ∷ []) m rising e each = none≢some x (sym e)
only_none (x ∷ y ∷ xs) m rising e each =
    let first : x ≡ m = (each x).0 (at_head x (y ∷ xs)) in
    let second : y ≡ m = (each y).0 (in_tail x y (y ∷ xs) (at_head y xs)) in
    let less : x < y = rising 0 (omega arith) in
    omega arith

-- ---- what a caller's code calls at a place

module _ (P : Program) (f : Flow) (of : IsFlowOf P f) (e : ℕ) (k : Coded) (at : slice_get f.methods e ≡ Some k) (coded : IsCoded k) (p : ℕ) where
  -- the program's code is the table's
  begun : (m : ℕ) → CallsOnly P e p m → Contains (places_of k.calls) p
  begun m only =
      let body = some_is (body_of P e) _ (of.methods e k at).body in
      let here : IsInvokeStart body.0.code p = holds_at (body_of P e) body.0 (λ (b : Body). IsInvokeStart b.code p) body.1 only.begins in
      (coded.calls p).1 (subst (λ (code : List ℕ). IsInvokeStart code p) body.2.0 here)

  begins : Contains (places_of k.calls) p → IsSomeAnd (body_of P e) (λ b. IsInvokeStart b.code p)
  begins has =
      let body = some_is (body_of P e) _ (of.methods e k at).body in
      some_in (body_of P e) body.0 (λ (b : Body). IsInvokeStart b.code p) body.1 (subst (λ (code : List ℕ). IsInvokeStart code p) (sym body.2.0) ((coded.calls p).0 has))

  pub calls_none : find (λ c. c.place == p) k.calls ≡ None → (m : ℕ) → ¬ CallsOnly P e p m
  calls_none absent m only = no_call p k.calls absent (begun m only)

  module _ (c : Call) (found : find (λ x. x.place == p) k.calls ≡ Some c) where
    -- the targets of the call are those of the program
    targets : (m : ℕ) → Contains (targets_of_call f c) m ↔ IsTarget P e p m
    targets m =
        let here = found_call p k.calls c found in
        let T : ℕ → Type 0 = λ q. Contains (targets_of_call f c) m ↔ IsTarget P e q m in
        subst T here.1 (of.targets e k c at here.0 m)

    pub calls_only : (t : ℕ) → only_of (targets_of_call f c) ≡ Some t → CallsOnly P e p t
    calls_only t only =
        let here = found_call p k.calls c found in
        let place : Contains (places_of k.calls) p = let R : ℕ → Type 0 = λ q. Contains (places_of k.calls) q in subst R here.1 (map_contains (λ (x : Call). x.place) k.calls c here.0) in
        let same : targets_of_call f c ≡ t ∷ [] = only_some (targets_of_call f c) t only in
        record {
          begins = begins place;
          runs = λ m. (
            λ target. (one_of t m).0 (subst (λ (xs : List ℕ). Contains xs m) same ((targets m).1 target)),
            λ is. (targets m).0 (subst (λ (xs : List ℕ). Contains xs m) (sym same) ((one_of t m).1 is)),
          );
        }

    pub calls_no_one : IsStrictlyIncreasing (targets_of_call f c) → only_of (targets_of_call f c) ≡ None → (m : ℕ) → ¬ CallsOnly P e p m
    calls_no_one rising none m only = only_none (targets_of_call f c) m rising none (λ x. (λ has. (only.runs x).0 ((targets x).0 has), λ same. (targets x).1 ((only.runs x).1 same)))

-- the call names a list of the table, which rises and has methods of the table
pub call_lists : (f : Flow) (e : ℕ) (k : Coded) (c : Call) → IsFlow f → slice_get f.methods e ≡ Some k → Contains k.calls c → c.targets < length f.targets
call_lists f e k c form at has =
    let L : Coded → Type 0 = λ x. All (λ d. d.targets < length f.targets) x.calls in
    let lists : L k = subst L (get_or_from_slice_get f.methods e k k at) (form.lists e k (slice_get_within f.methods e k at)) in
    All-contains (λ (d : Call). d.targets < length f.targets) k.calls c lists has

pub call_rises : (f : Flow) (c : Call) → IsFlow f → c.targets < length f.targets → IsStrictlyIncreasing (targets_of_call f c)
call_rises f c form below = All-get_or IsStrictlyIncreasing f.targets c.targets [] below form.rising

pub target_below : (f : Flow) (c : Call) (t : ℕ) → IsFlow f → c.targets < length f.targets → only_of (targets_of_call f c) ≡ Some t → t < length f.methods
target_below f c t form below only =
    let B : ℕ → Type 0 = λ x. x < length f.methods in
    let each : All B (targets_of_call f c) = All-get_or (λ (xs : List ℕ). All B xs) f.targets c.targets [] below form.within in
    All-contains B (targets_of_call f c) t each (let Q : List ℕ → Type 0 = λ xs. Contains xs t in subst Q (sym (only_some (targets_of_call f c) t only)) (at_head t []))

pub targets_ok : (f : Flow) (e p : ℕ) (k : Coded) (c : Call) (o : Option ℕ) → IsFlow f → IsCoded k → slice_get f.methods e ≡ Some k → find (λ x. x.place == p) k.calls ≡ Some c → o ≡ only_of (targets_of_call f c)
    → MatchOption o (CallsNoneIn f e p) (CallsOnlyIn f e p)
targets_ok f e p k c (Some t) form coded at found is = λ P of. calls_only P f of e k at coded p c found t (sym is)
targets_ok f e p k c None form coded at found is =
    λ P of. calls_no_one P f of e k at coded p c found (call_rises f c form (call_lists f e k c form at (found_call p k.calls c found).0)) (sym is)

pub targets_known : (f : Flow) (e p : ℕ) (k : Coded) (c : Call) (o : Option ℕ) → IsFlow f → slice_get f.methods e ≡ Some k → find (λ x. x.place == p) k.calls ≡ Some c → o ≡ only_of (targets_of_call f c) → IfSome o (λ m. m < length f.methods)
targets_known f e p k c (Some t) form at found is = target_below f c t form (call_lists f e k c form at (found_call p k.calls c found).0) (sym is)
targets_known f e p k c None form at found is = tt

-- ---- the method of a slot

pub slot_ok : (f : Flow) (e slot p : ℕ) (o : Option ℕ) → IsExecutiveIn f (Some e) → p ≡ call_place slot → MatchOption o (CallsNoneIn f e p) (CallsOnlyIn f e p) → MatchOption o (HasNoMethodIn f slot) (IsSlotMethodIn f slot)
slot_ok f e slot p (Some t) first place h =
    λ P of. record { executive = e; is_executive = executive_in P f of (Some e) first; calls = let C : ℕ → Type 0 = λ q. CallsOnly P e q t in subst C place (h P of) }
slot_ok f e slot p None first place h =
    λ P of m is.
    let same : is.executive ≡ e = one_least (IsCyclicMain P (table_name f)) is.executive e is.is_executive (executive_in P f of (Some e) first) in
    let C : ℕ → Type 0 = λ x. CallsOnly P x (call_place slot) m in
    let D : ℕ → Type 0 = λ q. CallsOnly P e q m in
    h P of m (subst D (sym place) (subst C same is.calls))

pub no_executive : (f : Flow) (slot : ℕ) → IsExecutiveIn f None → HasNoMethodIn f slot
no_executive f slot first = λ P of m is. executive_in P f of None first is.executive is.is_executive.0

-- there is no call at the place
pub targets_absent : (f : Flow) (e p : ℕ) (k : Coded) (o : Option ℕ) → IsCoded k → slice_get f.methods e ≡ Some k → find (λ x. x.place == p) k.calls ≡ None → o ≡ None → MatchOption o (CallsNoneIn f e p) (CallsOnlyIn f e p)
targets_absent f e p k (Some t) coded at absent is = absurd (none≢some t (sym is))
targets_absent f e p k None coded at absent is = λ P of. calls_none P f of e k at coded p absent
