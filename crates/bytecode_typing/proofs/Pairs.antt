-- What is taken off the operands has the types that are taken off the stack: each step of an instruction beside the step of its check.
use Rattle.std.proofs.Common.{◌≡◌, ℕ, ◌+◌, ◌≤◌, Bool, true, false, List, [], ◌∷◌, ◌++◌, Option, Some, None, refl, sym, subst, length}
use Rattle.std.specs.Prelude.{◌&&◌, slice_get, ℤ}
use Rattle.std.specs.Option.{IsSomeAnd}
use Rattle.bytecode_model.specs.declared.Value.{Value}
use Rattle.bytecode_model.specs.declared.Value.TheVariants.{Int, Long, Ref}
use Rattle.bytecode_model.specs.Lists.{replaced}
use Rattle.bytecode_model.specs.Types.{NumberType, IntType, LongType, Declared}
use Rattle.bytecode_model.specs.State.{Object, Frame, State}
use Rattle.bytecode_model.specs.Program.{Program, Limits, Method, Body, kind_of}
use Rattle.bytecode_model.specs.Rows.{FunctionOf}
use Rattle.bytecode_model.specs.Sizes.{value_words, object_words, made_words}
use Rattle.bytecode_model.specs.Effects.{Effect, Stuck, Go, Make, WritePart, WriteStatic, Take, Give, Call, Leave, Raise, StackOverflowError, fault_object, on, only_if, on_top, on_number, on_numbers, on_values}
use Rattle.bytecode_model.specs.Steps.{first_frame, answered}
use Rattle.bytecode_model.specs.WellFormed.{AreSpaced, IsInput}
use Rattle.bytecode_typing.specs.Tests.{Holds, AllTwo, all_two}
use Rattle.bytecode_typing.specs.Types.{VarType, Integer, LongInteger, TypeFrame, is_reference_type, type_of}
use Rattle.bytecode_typing.specs.Assignable.{is_assignable, is_assignable_item, keeps_flag, flows_to}
use Rattle.bytecode_typing.specs.Rules as rule
use Rattle.bytecode_typing.specs.Rules.{Rule, Checked, need, found, on_type, is_number_type, on_number_types, on_argument_types}
use Rattle.bytecode_typing.specs.Checks.{seen}
use Rattle.bytecode_typing.specs.Typed.{Typing, IsChecked}
use Rattle.bytecode_typing.specs.Fits.{Has, HasItem, HasDeclared, HasResult, PartsFit, ObjectFits, numbers_of, IsThrowable, TopFits, Waits}
use Rattle.bytecode_typing.specs.Lawful.{Lawful}
use Rattle.bytecode_typing.proofs.Relations.{both_left, both_right, OptTwo}
use Rattle.bytecode_typing.proofs.Values.{widen_item, all_widen, all_widen_item, to_declared, item_seen, declared_suits}

-- ---- checks

pub need_checked : (K : Option TypeFrame → Type 0) (b : Bool) (r : Rule) (c : Checked) → IsChecked (need b r c) K → Holds b × IsChecked c K
need_checked K true r c h = (tt, h)
need_checked K false r c h = absurd h

pub found_checked : {A : Type 0} (K : Option TypeFrame → Type 0) (o : Option A) (r : Rule) (go : A → Checked) → IsChecked (found o r go) K → (a : A) × (o ≡ Some a) × IsChecked (go a) K
found_checked K None r go h = absurd h
found_checked K (Some a) r go h = (a, refl, h)

-- ---- where an instruction goes on

-- local variables and operands have the types before a place
pub record IsGoing (P : Program) (types : Typing) (n : ℕ) (m : Method) (b : Body) (ks : List ℕ) (pc : ℕ) (ls ops : List Value) : Type 0 where
  pub frame : TypeFrame
  pub at_place : types n pc ≡ Some frame
  pub count : length ls ≡ b.max_locals
  pub spaced : AreSpaced ls
  pub locals : AllTwo (Has P n m ks) frame.locals ls
  pub operands : AllTwo (HasItem P n m ks) frame.stack ops

-- a part of an object is written by a value of its type
pub record IsWrite (P : Program) (os : List Object) (p k : ℕ) (v : Value) : Type 0 where
  pub object : Object
  pub at_object : slice_get os p ≡ Some object
  pub old : Value
  pub at_part : slice_get object.parts k ≡ Some old
  pub words : value_words old ≡ value_words v
  pub parts : List Value
  pub put : replaced object.parts k v ≡ Some parts
  pub fits : IsSomeAnd (kind_of P object) (λ kind. PartsFit P (numbers_of os) kind parts)

-- the first frame of a method that is called fits
pub record Begins (P : Program) (types : Typing) (ks : List ℕ) (c : ℕ) (args : List Value) : Type 0 where
  pub frame : Frame
  pub is_first : first_frame P c args ≡ Some frame
  pub is_of_method : frame.method ≡ c
  pub fits : TopFits P types ks frame

abbrev pub EffectFits : (P : Program) → Typing → Limits → State → Method → Body → Frame → Effect → Type 0
EffectFits P types limits s m b f Stuck = ⊥
EffectFits P types limits s m b f (Go pc ls ops) = IsGoing P types f.method m b (numbers_of s.objects) pc ls ops
EffectFits P types limits s m b f (Make o pc ls ops) =
    ObjectFits P (numbers_of s.objects ++ o.kind ∷ []) o × (made_words P s + object_words P o ≤ limits.heap) × IsGoing P types f.method m b (numbers_of s.objects ++ o.kind ∷ []) pc ls (Ref (length s.objects) ∷ ops)
EffectFits P types limits s m b f (WritePart p k v pc ls ops) = IsWrite P s.objects p k v × IsGoing P types f.method m b (numbers_of s.objects) pc ls ops
EffectFits P types limits s m b f (WriteStatic k v pc ls ops) =
    IsSomeAnd (slice_get P.statics k) (λ d. HasDeclared P (numbers_of s.objects) d v) × IsGoing P types f.method m b (numbers_of s.objects) pc ls ops
EffectFits P types limits s m b f (Take pc ls ops) =
    (answer : Option ℕ) → IsInput answer → IsGoing P types f.method m b (numbers_of s.objects) pc ls (answered answer ∷ ops)
EffectFits P types limits s m b f (Give byte pc ls ops) = IsGoing P types f.method m b (numbers_of s.objects) pc ls ops
EffectFits P types limits s m b f (Call c args ops) =
    Begins P types (numbers_of s.objects) c args × Waits P types (numbers_of s.objects) c (record f { operands = ops }) × IsThrowable P (numbers_of s.objects) (fault_object StackOverflowError)
EffectFits P types limits s m b f (Leave r) = HasResult P (numbers_of s.objects) m.result r
EffectFits P types limits s m b f (Raise p) = IsThrowable P (numbers_of s.objects) p

-- the arguments come out in order
abbrev pub pour : List Declared → List Declared → List Declared
pour [] acc = acc
pour (d ∷ ds) acc = pour ds (d ∷ acc)

module _ (P : Program) (types : Typing) (law : Lawful P) (n : ℕ) (m : Method) (b : Body) (ks : List ℕ) where
  arrive_at : (o : Option TypeFrame) (pc : ℕ) (g : TypeFrame) (ls ops : List Value) → types n pc ≡ o → Holds (flows_to P g o) → length ls ≡ b.max_locals → AreSpaced ls → AllTwo (Has P n m ks) g.locals ls → AllTwo (HasItem P n m ks) g.stack ops → IsGoing P types n m b ks pc ls ops
  arrive_at None pc g ls ops e fl c sp h k = absurd fl
  arrive_at (Some t) pc g ls ops e fl c sp h k =
      let both = both_left (all_two (is_assignable P) g.locals t.locals && all_two (is_assignable_item P) g.stack t.stack) (keeps_flag g.flag t.flag) fl in
      record {
        frame = t;
        at_place = e;
        count = c;
        spaced = sp;
        locals = all_widen P n m law ks g.locals t.locals ls (both_left (all_two (is_assignable P) g.locals t.locals) _ both) h;
        operands = all_widen_item P n m law ks g.stack t.stack ops (both_right (all_two (is_assignable P) g.locals t.locals) _ both) k;
      }

  pub arrive : (pc : ℕ) (g : TypeFrame) (ls ops : List Value) → Holds (flows_to P g (types n pc)) → length ls ≡ b.max_locals → AreSpaced ls → AllTwo (Has P n m ks) g.locals ls → AllTwo (HasItem P n m ks) g.stack ops → IsGoing P types n m b ks pc ls ops
  arrive pc g ls ops fl c sp h k = arrive_at (types n pc) pc g ls ops refl fl c sp h k

  -- a step of an instruction that fits, where the rest does
  module _ (G : Effect → Type 0) (K : Option TypeFrame → Type 0) where
    pub top_fits : (go : VarType → List VarType → Checked) (ts : List VarType) (vs : List Value) (then_ : Value → List Value → Effect) → AllTwo (HasItem P n m ks) ts vs → IsChecked (on_type ts go) K
        → ((t : VarType) (v : Value) (rest : List VarType) (ops : List Value) → HasItem P n m ks t v → AllTwo (HasItem P n m ks) rest ops → IsChecked (go t rest) K → G (then_ v ops)) → G (on_top vs then_)
    top_fits go [] vs then_ h c next = absurd c
    top_fits go (t ∷ ts) [] then_ h c next = absurd h
    top_fits go (t ∷ ts) (v ∷ vs) then_ h c next = next t v ts vs h.0 h.1 c

    -- the same with the operands as they are, for what looks at them itself
    pub item_fits : (go : VarType → List VarType → Checked) (ts : List VarType) (vs : List Value) (then_ : List Value → Effect) → AllTwo (HasItem P n m ks) ts vs → IsChecked (on_type ts go) K
        → ((t : VarType) (v : Value) (rest : List VarType) (ops : List Value) → HasItem P n m ks t v → AllTwo (HasItem P n m ks) rest ops → IsChecked (go t rest) K → G (then_ (v ∷ ops))) → G (then_ vs)
    item_fits go [] vs then_ h c next = absurd c
    item_fits go (t ∷ ts) [] then_ h c next = absurd h
    item_fits go (t ∷ ts) (v ∷ vs) then_ h c next = next t v ts vs h.0 h.1 c

    reference_needs : (go : VarType → List VarType → Checked) (t : VarType) (rest : List VarType) → IsChecked (need (is_reference_type t) rule.Stack (go t rest)) K → Holds (is_reference_type t) × IsChecked (go t rest) K
    reference_needs go t rest c = need_checked K (is_reference_type t) rule.Stack (go t rest) c

    number_one : (t : NumberType) (u : VarType) (v : Value) (rest : List Value) (then_ : ℤ → List Value → Effect) → Holds (is_number_type t u) → HasItem P n m ks u v → ((x : ℤ) → G (then_ x rest)) → G (on_number t (v ∷ rest) then_)
    number_one IntType Integer (Int i) rest then_ a h next = next i
    number_one IntType Integer v rest then_ a h next = absurd h.0
    number_one LongType LongInteger (Long i) rest then_ a h next = next i
    number_one LongType LongInteger v rest then_ a h next = absurd h.0
    number_one IntType u v rest then_ a h next = absurd a
    number_one LongType u v rest then_ a h next = absurd a

    pub number_fits : (t : NumberType) (c : List VarType → Checked) (ts : List VarType) (vs : List Value) (then_ : ℤ → List Value → Effect) → AllTwo (HasItem P n m ks) ts vs → IsChecked (on_number_types (t ∷ []) ts c) K
        → ((x : ℤ) (rest : List VarType) (ops : List Value) → AllTwo (HasItem P n m ks) rest ops → IsChecked (c rest) K → G (then_ x ops)) → G (on_number t vs then_)
    number_fits t c [] vs then_ h k next = absurd k
    number_fits t c (u ∷ ts) [] then_ h k next = absurd h
    number_fits t c (u ∷ ts) (v ∷ vs) then_ h k next =
        let (a, l) = need_checked K (is_number_type t u) rule.Stack (c ts) k in number_one t u v vs then_ a h.0 (λ x. next x ts vs h.1 l)

    -- a function of numbers; W holds of it and of what is left of it
    pub numbers_fit : (R : Type 0) (W : (ns : List NumberType) → FunctionOf ns R → Type 0) → ((t : NumberType) (ns : List NumberType) (g : FunctionOf (t ∷ ns) R) (x : ℤ) → W (t ∷ ns) g → W ns (g x)) → (ns : List NumberType) (g : FunctionOf ns R) (c : List VarType → Checked) (ts : List VarType) (vs : List Value) (then_ : R → List Value → Effect) → W ns g → AllTwo (HasItem P n m ks) ts vs → IsChecked (on_number_types ns ts c) K
        → ((r : R) (rest : List VarType) (ops : List Value) → W [] r → AllTwo (HasItem P n m ks) rest ops → IsChecked (c rest) K → G (then_ r ops)) → G (on_numbers R ns g vs then_)
    numbers_fit R W step [] g c ts vs then_ w h k next = next g ts vs w h k
    numbers_fit R W step (t ∷ ns) g c [] vs then_ w h k next = absurd k
    numbers_fit R W step (t ∷ ns) g c (u ∷ ts) [] then_ w h k next = absurd h
    numbers_fit R W step (t ∷ ns) g c (u ∷ ts) (v ∷ vs) then_ w h k next =
        let (a, l) = need_checked K (is_number_type t u) rule.Stack (on_number_types ns ts c) k in
        number_one t u v vs _ a h.0 (λ x. numbers_fit R W step ns (g x) c ts vs then_ (step t ns g x w) h.1 l next)

    pub values_fit : (go : List VarType → List VarType → Checked) (ds : List Declared) (ts : List VarType) (vs : List Value) (es : List Declared) (taken : List Value) (then_ : List Value → List Value → Effect) → AllTwo (HasItem P n m ks) ts vs → IsChecked (on_argument_types P (seen P n m) ds ts go) K → AllTwo (HasDeclared P ks) es taken
        → ((args : List Value) (types_ rest : List VarType) (ops : List Value) → AllTwo (HasDeclared P ks) (pour ds es) args → AllTwo (HasItem P n m ks) rest ops → IsChecked (go types_ rest) K → G (then_ args ops)) → G (on_values ds vs taken then_)
    values_fit go [] ts vs es taken then_ h c a next = next taken [] ts vs a h c
    values_fit go (d ∷ ds) [] vs es taken then_ h c a next = absurd c
    values_fit go (d ∷ ds) (t ∷ ts) [] es taken then_ h c a next = absurd h
    values_fit go (d ∷ ds) (t ∷ ts) (v ∷ vs) es taken then_ h c a next =
        let (q, l) = need_checked K (is_assignable_item P (seen P n m t) (type_of d)) rule.Stack (on_argument_types P (seen P n m) ds ts (λ types_ rest2. go (t ∷ types_) rest2)) c in
        let w : HasDeclared P ks d v = to_declared P n m ks d v (widen_item P n m law ks (seen P n m t) (type_of d) v q (item_seen P n m law ks t v h.0)).0 in
        subst (λ x. G (only_if x (on_values ds vs (v ∷ taken) then_))) (sym (declared_suits P ks d v w))
        (values_fit (λ types_ rest. go (t ∷ types_) rest) ds ts vs (d ∷ es) (v ∷ taken) then_ h.1 l (w, a) (λ args types_ rest ops x y z. next args (t ∷ types_) rest ops x y z))

    pub on_two : {A B : Type 0} (R : A → B → Type 0) (o : Option A) (p : Option B) (r : Rule) (go : A → Checked) (then_ : B → Effect) → OptTwo R o p → IsChecked (found o r go) K → ((x : A) (y : B) → o ≡ Some x → p ≡ Some y → R x y → IsChecked (go x) K → G (then_ y)) → G (on p then_)
    on_two R None p r go then_ h c next = absurd c
    on_two R (Some x) None r go then_ h c next = absurd h
    on_two R (Some x) (Some y) r go then_ h c next = next x y refl refl h c
