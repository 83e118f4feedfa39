-- Each step of a state has a shape.
use Rattle.std.proofs.Common.{◌≡◌, ℕ, ◌+◌, Bool, true, false, List, [], ◌∷◌, length, Contains, Option, Some, None, slice_get, refl, sym, ap, ◌∙◌, subst, inl, inr, IsSomeAnd, arith, nat_le, nat_lt, suc, leb-true}
use Rattle.std.proofs.lemmas.Bool.Decides.{leb_tells}
use Rattle.std.proofs.lemmas.List.Sums.{sum_by-cons}
use Rattle.std.specs.Prelude.{if◌then◌else◌, ◌&&◌}
use Rattle.std.specs.Option.{option_map_or}
use Rattle.opcodes.specs.declared.instruction.Instr.{Instr}
use Rattle.bytecode_model.specs.declared.Value.{Value}
use Rattle.bytecode_model.specs.declared.Value.TheVariants.{Ref}
use Rattle.bytecode_model.specs.declared.Ending.{Ending}
use Rattle.bytecode_model.specs.declared.Ending.TheVariants.{Running, Raising, Ended, Uncaught}
use Rattle.bytecode_model.specs.Lists.{onto, replaced}
use Rattle.bytecode_model.specs.Types.{Kind}
use Rattle.bytecode_model.specs.State.{Frame, State}
use Rattle.bytecode_model.specs.Program.{Program, Limits, Method, Body, Handler, body_of, instr_at, kind_of}
use Rattle.bytecode_model.specs.Rows as rows
use Rattle.bytecode_model.specs.Rows.{Row}
use Rattle.bytecode_model.specs.Sizes.{body_words, frame_words, frames_words}
use Rattle.bytecode_model.specs.Effects.{Effect, Stuck, Go, Make, WritePart, WriteStatic, Take, Give, Call, Leave, Raise, StackOverflowError, fault_object, effect}
use Rattle.bytecode_model.specs.Steps.{taken_types, all_suit, first_frame, with_top, raising, called, resumed, left, written, applied, row_at, catches, handler_for, class_of, unwound, step_in, step}
use Rattle.bytecode_model.specs.WellFormed.{is_call}
use Rattle.bytecode_model.specs.Raises.{OnlyMarkedOnesRaise}
use Rattle.lists.proofs.Lemmas.{onto_some, some_same}
use Rattle.lists.specs.Members.{at_head, in_tail}
use Rattle.method_flow.specs.Nodes.{At, LeadsTo, IsReturn, OnRow, MayRaise, IsHandled, IsEdge}
use Rattle.method_flow.specs.Calls.{targets_of_row}
use Rattle.method_flow.specs.Live.{IsReturning}
use Rattle.method_flow.specs.Shapes.{node_of, IsGoingOn, FramesStep, AreConcrete, NamesAbove, StepsHaveShapes}
use Rattle.method_flow.specs.Shapes.FramesStep.{moves, enters, returns, drops, stops}
use Rattle.method_flow.proofs.Leading.{Leads, effect_leads, above_named}

-- the first frame of a method is one of it, at its first instruction
module _ (m : ℕ) (args : List Value) where
  padded_is : (b : Bool) (o : Option (List Value)) (g : Frame) → (if b then onto o (λ ls. Some (record { method = m; pc = 0; locals = ls; operands = [] })) else None) ≡ Some g → (g.method ≡ m) × (g.pc ≡ 0)
  padded_is false o g e = absurd (cc)
  padded_is true o g e =
      let found = onto_some o (λ ls. Some (record { method = m; pc = 0; locals = ls; operands = [] })) g e in
      let fresh : Frame = record { method = m; pc = 0; locals = found.0; operands = [] } in
      let same : fresh ≡ g = some_same fresh g found.2 in
      (ap (λ (x : Frame). x.method) (sym same), ap (λ (x : Frame). x.pc) (sym same))

  first_is : (P : Program) (g : Frame) → first_frame P m args ≡ Some g → (g.method ≡ m) × (g.pc ≡ 0)
  first_is P g e =
      let method = onto_some (slice_get P.methods m) _ g e in
      let body = onto_some method.0.body _ g method.2 in
      padded_is (all_suit (taken_types method.0) args) _ g body.2

-- ---- from a running state

module _ (P : Program) (limits : Limits) (answer : Option ℕ) (s t : State) (f : Frame) (callers : List Frame) (next : ℕ) (r : Row) (row : row_at P f ≡ Some (next, r)) where
  on_row : (K : ℕ → Row → Type 0) → K next r → OnRow P f.method f.pc K
  on_row K h = subst (λ (z : Option (ℕ × Row)). IsSomeAnd z (λ x. K x.0 x.1)) (sym row) h

  is_row : (K : ℕ → Row → Type 0) → OnRow P f.method f.pc K → K next r
  is_row K h = subst (λ (z : Option (ℕ × Row)). IsSomeAnd z (λ x. K x.0 x.1)) row h

  -- the next state has this top frame in the same method
  moved : (u : State) (pc : ℕ) (ls ops : List Value) → u.frames ≡ record f { pc = pc; locals = ls; operands = ops } ∷ callers → u.mode ≡ Running → ◌≡◌ {A = Option State} (Some u) (Some t)
      → LeadsTo f.pc next r pc → is_call r ≡ false → FramesStep P Running f callers t
  moved u pc ls ops frames mode e leads plain =
      let same : u ≡ t = some_same u t e in
      let Q : State → Type 0 = λ z. FramesStep P Running f callers z in
      subst Q same (moves (record {
        top = record f { pc = pc; locals = ls; operands = ops };
        frames = frames;
        same = refl;
        going = subst IsGoingOn (sym mode) tt;
        edge = subst (λ (z : Ending). IsEdge P f.method (At f.pc) (node_of z (record f { pc = pc; locals = ls; operands = ops }))) (sym mode) (on_row (λ n q. LeadsTo f.pc n q pc) leads);
        free = subst (λ (z : Ending). IsReturning P f.method (At f.pc) (node_of z (record f { pc = pc; locals = ls; operands = ops })) → ⊥) (sym mode) (λ c. let yes = is_row (λ n q. is_call q ≡ true) c in cc);
      }))

  -- the frame raises
  raised : (g : Frame) → g.method ≡ f.method → g.pc ≡ f.pc → (u : State) → u.frames ≡ g ∷ callers → (p : ℕ) → u.mode ≡ Raising p → ◌≡◌ {A = Option State} (Some u) (Some t)
      → MayRaise P f.method f.pc → FramesStep P Running f callers t
  raised g method pc u frames p mode e may =
      let same : u ≡ t = some_same u t e in
      let Q : State → Type 0 = λ z. FramesStep P Running f callers z in
      subst Q same (moves (record {
        top = g;
        frames = frames;
        same = method;
        going = subst IsGoingOn (sym mode) tt;
        edge = subst (λ (z : Ending). IsEdge P f.method (At f.pc) (node_of z g)) (sym mode) (pc, may);
        free = subst (λ (z : Ending). IsReturning P f.method (At f.pc) (node_of z g) → ⊥) (sym mode) (λ c. c);
      }))

  entered : ((p : ℕ) → t.mode ≡ Raising p → MayRaise P f.method f.pc) → MayRaise P f.method f.pc → (m : ℕ) (args ops : List Value) → is_call r ≡ true → Contains (targets_of_row P r) m
      → (g : Frame) → (g.method ≡ m) × (g.pc ≡ 0) → (b : Bool)
      → ◌≡◌ {A = Option State} (Some (if b then with_top s (record f { operands = ops } ∷ callers) g else raising s (record f { operands = ops }) callers (fault_object StackOverflowError))) (Some t) → FramesStep P Running f callers t
  entered may crowded m args ops is among g first true e =
      let u = with_top s (record f { operands = ops } ∷ callers) g in
      let same : u ≡ t = some_same u t e in
      let Q : State → Type 0 = λ z. FramesStep P Running f callers z in
      let T : Option (ℕ × Row) → Type 0 = λ z. Contains (option_map_or (λ x. targets_of_row P x.1) z []) g.method in
      subst Q same (enters (record {
        top = g;
        waiting = record f { operands = ops };
        frames = refl;
        running = refl;
        still = refl;
        same = refl;
        place = refl;
        first = first.1;
        call = on_row (λ n q. is_call q ≡ true) is;
        may_raise = crowded;
        target = subst T (sym row) (subst (λ (x : ℕ). Contains (targets_of_row P r) x) (sym first.0) among);
      }))
  entered may crowded m args ops is among g first false e =
      let u = raising s (record f { operands = ops }) callers (fault_object StackOverflowError) in
      let same : u ≡ t = some_same u t e in
      raised (record f { operands = [] }) refl refl u refl (fault_object StackOverflowError) refl e (may (fault_object StackOverflowError) (ap (λ (x : State). x.mode) (sym same)))

  back : IsReturn r → (c : Frame) (others : List Frame) → callers ≡ c ∷ others → (result : Option Value) → onto (resumed P c result) (λ d. Some (with_top s others d)) ≡ Some t → FramesStep P Running f callers t
  back is c others callers_are result e =
      let found = onto_some (resumed P c result) (λ d. Some (with_top s others d)) t e in
      let d = found.0 in
      let instr = onto_some (instr_at P c.method c.pc) _ d found.1 in
      let i = instr.0 in
      let u = with_top s others d in
      let same : u ≡ t = some_same u t found.2 in
      let made = record c { pc = c.pc + i.length; operands = _ } in
      let is_d = some_same made d instr.2 in
      returns (record {
        caller = c;
        others = others;
        callers_are = callers_are;
        top = d;
        frames = ap (λ (x : State). x.frames) (sym same);
        running = refl;
        still = ap (λ (x : State). x.mode) (sym same);
        same = ap (λ (x : Frame). x.method) (sym is_d);
        place = subst (λ (z : Option Instr). IsSomeAnd z (λ j. d.pc ≡ c.pc + j.length)) (sym instr.1) (ap (λ (x : Frame). x.pc) (sym is_d));
        exit = on_row (λ n q. IsReturn q) is;
      })

  stopped : callers ≡ [] → (u : State) → u.mode ≡ Ended → ◌≡◌ {A = Option State} (Some u) (Some t) → FramesStep P Running f callers t
  stopped none u mode e = let same : u ≡ t = some_same u t e in stops none (subst (λ (z : Ending). IsGoingOn z → ⊥) (sym mode ∙ ap (λ (x : State). x.mode) same) (λ h. h))

  left_by : IsReturn r → (result : Option Value) (cs : List Frame) → callers ≡ cs → left P s f result cs ≡ Some t → FramesStep P Running f callers t
  left_by is None [] none e = stopped none (record s { frames = f ∷ []; mode = Ended }) refl e
  left_by is (Some v) [] none e = absurd (cc)
  left_by is None (c ∷ others) callers_are e = back is c others callers_are None e
  left_by is (Some v) (c ∷ others) callers_are e = back is c others callers_are (Some v) e

  by_effect : ((p : ℕ) → t.mode ≡ Raising p → MayRaise P f.method f.pc) → (is_call r ≡ true → (m : ℕ) (args ops : List Value) (g : Frame) → effect P limits s f next r ≡ Call m args ops → first_frame P m args ≡ Some g → MayRaise P f.method f.pc) → (x : Effect) → effect P limits s f next r ≡ x → Leads P f.pc next r x → applied P limits answer s f callers x ≡ Some t → FramesStep P Running f callers t
  by_effect may crowded Stuck is_x h e = absurd (cc)
  by_effect may crowded (Go pc ls ops) is_x h e = moved (with_top s callers (record f { pc = pc; locals = ls; operands = ops })) pc ls ops refl refl e h.0 h.1
  by_effect may crowded (Make o pc ls ops) is_x h e = moved _ pc ls (Ref (length s.objects) ∷ ops) refl refl e h.0 h.1
  by_effect may crowded (WritePart p k v pc ls ops) is_x h e =
      let found = onto_some (written s.objects p k v) _ t e in
      moved _ pc ls ops refl refl found.2 h.0 h.1
  by_effect may crowded (WriteStatic k v pc ls ops) is_x h e =
      let found = onto_some (replaced s.statics k v) _ t e in
      moved _ pc ls ops refl refl found.2 h.0 h.1
  by_effect may crowded (Take pc ls ops) is_x h e = moved _ pc ls _ refl refl e h.0 h.1
  by_effect may crowded (Give byte pc ls ops) is_x h e = moved _ pc ls ops refl refl e h.0 h.1
  by_effect may crowded (Call m args ops) is_x h e =
      let found = onto_some (first_frame P m args) _ t e in
      entered may (crowded h.0 m args ops found.0 is_x found.1) m args ops h.0 h.1 found.0 (first_is m args P found.0 found.1) (nat_le (frames_words P (found.0 ∷ record f { operands = ops } ∷ callers)) limits.frames) found.2
  by_effect may crowded (Leave result) is_x h e = left_by h result callers refl e
  by_effect may crowded (Raise p) is_x h e =
      let u = raising s f callers p in
      let same : u ≡ t = some_same u t e in
      raised (record f { operands = [] }) refl refl u refl p refl e (may p (ap (λ (x : State). x.mode) (sym same)))

named_above : (P : Program) (f : Frame) (next : ℕ) (r : Row) → row_at P f ≡ Some (next, r) → NamesAbove P f → above_named P r
named_above P f next (rows.CallVirtual named m) row h = λ k has c below. h next named m k row has c below
named_above P f next rows.Nothing row h = tt
named_above P f next (rows.Push v) row h = tt
named_above P f next (rows.Compute a b c) row h = tt
named_above P f next (rows.Branch a b c) row h = tt
named_above P f next (rows.BranchSame a b) row h = tt
named_above P f next (rows.BranchNull a b) row h = tt
named_above P f next (rows.Jump a) row h = tt
named_above P f next (rows.Switch a b) row h = tt
named_above P f next (rows.Load a b) row h = tt
named_above P f next (rows.Store a b) row h = tt
named_above P f next (rows.Increment a b) row h = tt
named_above P f next (rows.Shuffle a b c) row h = tt
named_above P f next (rows.GetStatic k) row h = tt
named_above P f next (rows.PutStatic k) row h = tt
named_above P f next (rows.GetField a b c) row h = tt
named_above P f next (rows.PutField a b c) row h = tt
named_above P f next (rows.New c) row h = tt
named_above P f next (rows.NewNumbers c) row h = tt
named_above P f next (rows.NewReferences k) row h = tt
named_above P f next rows.Length row h = tt
named_above P f next (rows.LoadNumber a b) row h = tt
named_above P f next (rows.StoreNumber a b c) row h = tt
named_above P f next rows.LoadReference row h = tt
named_above P f next rows.StoreReference row h = tt
named_above P f next (rows.Cast k) row h = tt
named_above P f next (rows.Test k) row h = tt
named_above P f next rows.Monitor row h = tt
named_above P f next rows.Throw row h = tt
named_above P f next (rows.CallStatic m) row h = tt
named_above P f next (rows.CallSpecial a b) row h = tt
named_above P f next (rows.CallInterface a b) row h = tt
named_above P f next (rows.Return a) row h = tt
named_above P f next rows.Read row h = tt
named_above P f next rows.Write row h = tt

-- ---- a call might find no room for its frame

abbrev crowded : Limits → Limits
crowded limits = record limits { frames = 0 }

same_effect : (P : Program) (limits : Limits) (s : State) (f : Frame) (next : ℕ) (r : Row) → is_call r ≡ true → effect P (crowded limits) s f next r ≡ effect P limits s f next r
same_effect P limits s f next (rows.CallStatic m) is = refl
same_effect P limits s f next (rows.CallSpecial named m) is = refl
same_effect P limits s f next (rows.CallVirtual named m) is = refl
same_effect P limits s f next (rows.CallInterface named m) is = refl
same_effect P limits s f next rows.Nothing is = absurd (cc)
same_effect P limits s f next (rows.Push v) is = absurd (cc)
same_effect P limits s f next (rows.Compute a b c) is = absurd (cc)
same_effect P limits s f next (rows.Branch a b c) is = absurd (cc)
same_effect P limits s f next (rows.BranchSame a b) is = absurd (cc)
same_effect P limits s f next (rows.BranchNull a b) is = absurd (cc)
same_effect P limits s f next (rows.Jump a) is = absurd (cc)
same_effect P limits s f next (rows.Switch a b) is = absurd (cc)
same_effect P limits s f next (rows.Load a b) is = absurd (cc)
same_effect P limits s f next (rows.Store a b) is = absurd (cc)
same_effect P limits s f next (rows.Increment a b) is = absurd (cc)
same_effect P limits s f next (rows.Shuffle a b c) is = absurd (cc)
same_effect P limits s f next (rows.GetStatic k) is = absurd (cc)
same_effect P limits s f next (rows.PutStatic k) is = absurd (cc)
same_effect P limits s f next (rows.GetField a b c) is = absurd (cc)
same_effect P limits s f next (rows.PutField a b c) is = absurd (cc)
same_effect P limits s f next (rows.New c) is = absurd (cc)
same_effect P limits s f next (rows.NewNumbers c) is = absurd (cc)
same_effect P limits s f next (rows.NewReferences k) is = absurd (cc)
same_effect P limits s f next rows.Length is = absurd (cc)
same_effect P limits s f next (rows.LoadNumber a b) is = absurd (cc)
same_effect P limits s f next (rows.StoreNumber a b c) is = absurd (cc)
same_effect P limits s f next rows.LoadReference is = absurd (cc)
same_effect P limits s f next rows.StoreReference is = absurd (cc)
same_effect P limits s f next (rows.Cast k) is = absurd (cc)
same_effect P limits s f next (rows.Test k) is = absurd (cc)
same_effect P limits s f next rows.Monitor is = absurd (cc)
same_effect P limits s f next rows.Throw is = absurd (cc)
same_effect P limits s f next (rows.Return a) is = absurd (cc)
same_effect P limits s f next rows.Read is = absurd (cc)
same_effect P limits s f next rows.Write is = absurd (cc)

-- a frame takes some words
has_words : (P : Program) (m : ℕ) (args : List Value) (g : Frame) (rest : List Frame) → first_frame P m args ≡ Some g → nat_le (frames_words P (g ∷ rest)) 0 ≡ false
has_words P m args g rest e =
    let method = onto_some (slice_get P.methods m) _ g e in
    let body = onto_some method.0.body _ g method.2 in
    let is = first_is m args P g e in
    let has : body_of P g.method ≡ Some body.0 = ap (λ (x : ℕ). body_of P x) is.0 ∙ (ap (λ (x : Option Method). onto x (λ (k : Method). k.body)) method.1 ∙ body.1) in
    let words : frame_words P g ≡ body_words body.0 = ap (λ (z : Option Body). elim z [ None ↦ 0 | Some b ↦ body_words b ]) has in
    let sum = sum_by-cons (frame_words P) g rest in
    elim (leb_tells (frames_words P (g ∷ rest)) 0) [ inl small ↦ let s = small.1 in absurd (omega arith) | inr large ↦ large.0 ]

no_room : OnlyMarkedOnesRaise → (P : Program) (limits : Limits) (answer : Option ℕ) (s : State) (f : Frame) (callers : List Frame) → s.frames ≡ f ∷ callers → s.mode ≡ Running → (next : ℕ) (r : Row) → row_at P f ≡ Some (next, r)
    → is_call r ≡ true → (m : ℕ) (args ops : List Value) (g : Frame) → effect P limits s f next r ≡ Call m args ops → first_frame P m args ≡ Some g → MayRaise P f.method f.pc
no_room only P limits answer s f callers frames mode next r row is m args ops g effect_is first =
    let none = crowded limits in
    let u = raising s (record f { operands = ops }) callers (fault_object StackOverflowError) in
    let waiting = record f { operands = ops } in
    let e1 : step_in P none answer s (f ∷ callers) Running ≡ applied P none answer s f callers (effect P none s f next r) = ap (λ (z : Option (ℕ × Row)). onto z (λ x. applied P none answer s f callers (effect P none s f x.0 x.1))) row in
    let e2 : applied P none answer s f callers (effect P none s f next r) ≡ applied P none answer s f callers (Call m args ops) = ap (applied P none answer s f callers) (same_effect P limits s f next r is ∙ effect_is) in
    let e3 : applied P none answer s f callers (Call m args ops) ≡ Some (called P none s waiting callers g) = ap (λ (z : Option Frame). onto z (λ h. Some (called P none s waiting callers h))) first in
    let e4 : called P none s waiting callers g ≡ u = ap (λ (b : Bool). if b then with_top s (waiting ∷ callers) g else u) (has_words P m args g (waiting ∷ callers) first) in
    let whole : step P none answer s ≡ Some u = ap (λ (fs : List Frame). step_in P none answer s fs s.mode) frames ∙ (ap (λ (z : Ending). step_in P none answer s (f ∷ callers) z) mode ∙ (e1 ∙ (e2 ∙ (e3 ∙ ap (λ (x : State). Some x) e4)))) in
    only P none answer s u f callers (fault_object StackOverflowError) frames mode whole refl

from_running : OnlyMarkedOnesRaise → (P : Program) (limits : Limits) (answer : Option ℕ) (s t : State) (f : Frame) (callers : List Frame) → s.frames ≡ f ∷ callers → s.mode ≡ Running → AreConcrete P s.objects → NamesAbove P f
    → step P limits answer s ≡ Some t → step_in P limits answer s (f ∷ callers) Running ≡ Some t → FramesStep P Running f callers t
from_running only P limits answer s t f callers frames mode concrete above whole e =
    let outer = onto_some (row_at P f) _ t e in
    let x = outer.0 in
    let may : (p : ℕ) → t.mode ≡ Raising p → MayRaise P f.method f.pc = λ p raises. only P limits answer s t f callers p frames mode whole raises in
    by_effect P limits answer s t f callers x.0 x.1 outer.1 may (no_room only P limits answer s f callers frames mode x.0 x.1 outer.1) (effect P limits s f x.0 x.1) refl (effect_leads P limits s f x.0 concrete x.1 (named_above P f x.0 x.1 outer.1 above)) outer.2

-- ---- from a raising one

covers_is : (a b c : Bool) → (a && b && c) ≡ true → (a ≡ true) × (b ≡ true)
covers_is true true c e = (refl, refl)
covers_is true false c e = absurd (cc)
covers_is false b c e = absurd (cc)

handled : (P : Program) (k : Kind) (pc : ℕ) (hs : List Handler) (q : ℕ) → handler_for P k pc hs ≡ Some q → IsHandled hs pc q
handled P k pc [] q e = absurd (cc)
handled P k pc (h ∷ hs) q e = by (catches P k pc h) refl e (handled P k pc hs q)
  where
    by : (b : Bool) → catches P k pc h ≡ b → (if b then Some h.target else handler_for P k pc hs) ≡ Some q → (handler_for P k pc hs ≡ Some q → IsHandled hs pc q) → IsHandled (h ∷ hs) pc q
    by true is e' later =
        let c = covers_is (nat_le h.start pc) (nat_lt pc h.end) _ is in
        record { entry = h; among = at_head h hs; from = leb-true h.start pc c.0; to = leb-true (suc pc) h.end c.1; handler = some_same h.target q e' }
    by false is e' later = let x = later e' in record { entry = x.entry; among = in_tail h x.entry hs x.among; from = x.from; to = x.to; handler = x.handler }

from_raising : (P : Program) (limits : Limits) (answer : Option ℕ) (s t : State) (f : Frame) (callers : List Frame) (p : ℕ) → step_in P limits answer s (f ∷ callers) (Raising p) ≡ Some t → FramesStep P (Raising p) f callers t
from_raising P limits answer s t f callers p e =
    let body = onto_some (body_of P f.method) _ t e in
    let object = onto_some (slice_get s.objects p) _ t body.2 in
    let kind = onto_some (kind_of P object.0) _ t object.2 in
    by_handler body.0 body.1 kind.0 (handler_for P kind.0 f.pc body.0.handlers) refl callers refl kind.2
  where
    by_handler : (b : Body) → body_of P f.method ≡ Some b → (k : Kind) (o : Option ℕ) → handler_for P k f.pc b.handlers ≡ o → (cs : List Frame) → callers ≡ cs → unwound s p k f cs o ≡ Some t → FramesStep P (Raising p) f callers t
    by_handler b is k (Some target) found cs callers_are e' =
        let u = with_top s cs (record f { pc = target; operands = Ref p ∷ [] }) in
        let same : u ≡ t = some_same u t e' in
        let Q : State → Type 0 = λ z. FramesStep P (Raising p) f callers z in
        subst Q same (moves (record {
          top = record f { pc = target; operands = Ref p ∷ [] };
          frames = ap (λ (x : List Frame). record f { pc = target; operands = Ref p ∷ [] } ∷ x) (sym callers_are);
          same = refl;
          going = tt;
          edge = subst (λ (z : Option Body). IsSomeAnd z (λ bb. IsHandled bb.handlers f.pc target)) (sym is) (handled P k f.pc b.handlers target found);
          free = λ c. c;
        }))
    by_handler b is k None found (c ∷ others) callers_are e' =
        let u = raising s c others p in
        let same : u ≡ t = some_same u t e' in
        drops (record {
          caller = c;
          others = others;
          callers_are = callers_are;
          top = record c { operands = [] };
          frames = ap (λ (x : State). x.frames) (sym same);
          object = p;
          raising = refl;
          still = ap (λ (x : State). x.mode) (sym same);
          same = refl;
          place = refl;
        })
    by_handler b is k None found [] callers_are e' =
        let class = onto_some (class_of k) _ t e' in
        let u = record s { frames = f ∷ []; mode = Uncaught class.0 } in
        let same : u ≡ t = some_same u t class.2 in
        stops callers_are (subst (λ (z : Ending). IsGoingOn z → ⊥) (ap (λ (x : State). x.mode) same) (λ h. h))

-- ---- both

pub steps_have_shapes : OnlyMarkedOnesRaise → StepsHaveShapes
steps_have_shapes only P limits answer s t f callers frames concrete above e =
    by s.mode refl (ap (λ (fs : List Frame). step_in P limits answer s fs s.mode) (sym frames) ∙ e)
  where
    by : (mode : Ending) → s.mode ≡ mode → step_in P limits answer s (f ∷ callers) s.mode ≡ Some t → FramesStep P s.mode f callers t
    by Running is e' =
        let Q : Ending → Type 0 = λ z. FramesStep P z f callers t in
        subst Q (sym is) (from_running only P limits answer s t f callers frames is concrete above e (ap (λ (z : Ending). step_in P limits answer s (f ∷ callers) z) (sym is) ∙ e'))
    by (Raising p) is e' =
        let Q : Ending → Type 0 = λ z. FramesStep P z f callers t in
        subst Q (sym is) (from_raising P limits answer s t f callers p (ap (λ (z : Ending). step_in P limits answer s (f ∷ callers) z) (sym is) ∙ e'))
    by Ended is e' = let bad : ◌≡◌ {A = Option State} None (Some t) = ap (λ (z : Ending). step_in P limits answer s (f ∷ callers) z) (sym is) ∙ e' in absurd (cc)
    by (Uncaught c) is e' = let bad : ◌≡◌ {A = Option State} None (Some t) = ap (λ (z : Ending). step_in P limits answer s (f ∷ callers) z) (sym is) ∙ e' in absurd (cc)
