-- The arguments of a call, which are taken off the operands, and the frame that they make.
use Rattle.std.proofs.Common.{◌≡◌, ℕ, zero, suc, ◌+◌, ◌≤◌, Bool, true, false, List, [], ◌∷◌, ◌++◌, Option, Some, None, length, reverse, if◌then◌else◌, refl, sym, ap, ◌∙◌, arith, append-nil}
use Rattle.std.specs.Prelude.{slice_get}
use Rattle.std.specs.List.{sum_by}
use Rattle.std.proofs.lemmas.Bool.{and_parts}
use Rattle.std.proofs.lemmas.Option.{none-some}
use Rattle.std.proofs.lemmas.List.Sums.{sum_by-cons}
use Rattle.machine_stands.proofs.Defined.{only_if_defined}
use Rattle.lists.proofs.Lemmas.{onto_some, some_same}
use mathlib.Core.List.{reverse_aux, reverse_aux-eq}
use Rattle.bytecode_model.specs.declared.Value.{Value}
use Rattle.bytecode_model.specs.declared.Value.TheVariants.{Int, Long, Ref, Null, Unset}
use Rattle.bytecode_model.specs.Lists.{onto}
use Rattle.bytecode_model.specs.Types.{IntType, LongType, Declared, Numeric, Reference, suits, is_long}
use Rattle.bytecode_model.specs.State.{Frame, State}
use Rattle.bytecode_model.specs.Program.{Program, Limits, Method, Body}
use Rattle.bytecode_model.specs.Sizes.{value_words}
use Rattle.bytecode_model.specs.Effects.{Effect, Call, on_values}
use Rattle.bytecode_model.specs.Slots.{spread, padded}
use Rattle.bytecode_model.specs.Steps.{applied, first_frame, called, taken_types, all_suit}
use Rattle.image_facts.specs.Words.{declared_words}

-- ---- what is taken

-- the topmost operands are taken, and come out in the opposite order
pub values_taken : (P : Program) (limits : Limits) (answer : Option ℕ) (s : State) (f : Frame) (callers : List Frame) (s' : State) (ds : List Declared) (ops done : List Value) (go : List Value → List Value → Effect)
    → applied P limits answer s f callers (on_values ds ops done go) ≡ Some s'
    → (upper : List Value) × (rest : List Value) × (ops ≡ upper ++ rest) × (applied P limits answer s f callers (go (reverse_aux upper done) rest) ≡ Some s')
values_taken P limits answer s f callers s' [] ops done go h = ([], ops, refl, h)
values_taken P limits answer s f callers s' (d ∷ ds) [] done go h = absurd (none-some s' h)
values_taken P limits answer s f callers s' (d ∷ ds) (v ∷ ops) done go h =
    let g = (only_if_defined P limits answer s f callers s' (suits d v) (on_values ds ops (v ∷ done) go) h).1 in
    let r = values_taken P limits answer s f callers s' ds ops (v ∷ done) go g in
    (v ∷ r.0, r.1, ap (λ (vs : List Value). v ∷ vs) r.2, r.3)

-- ---- the frame

-- the frame with which a method begins, and the state after the call
pub record Entered (P : Program) (limits : Limits) (s : State) (f : Frame) (callers : List Frame) (s' : State) (t : ℕ) (args rest : List Value) : Type 0 where
  pub method : Method
  pub is_method : slice_get P.methods t ≡ Some method
  pub body : Body
  pub is_body : method.body ≡ Some body
  pub suit : all_suit (taken_types method) args ≡ true
  pub locals : List Value
  pub are_locals : padded Unset body.max_locals (spread is_long Unset args) ≡ Some locals
  pub next : s' ≡ called P limits s (record f { operands = rest }) callers (record { method = t; pc = 0; locals = locals; operands = [] })

if_defined : {A : Type 0} (b : Bool) (o : Option A) (x : A) → (if b then o else None) ≡ Some x → (b ≡ true) × (o ≡ Some x)
if_defined true o x h = (refl, h)
if_defined false o x h = absurd (none-some x h)

pub entered : (P : Program) (limits : Limits) (answer : Option ℕ) (s : State) (f : Frame) (callers : List Frame) (s' : State) (t : ℕ) (args rest : List Value)
    → applied P limits answer s f callers (Call t args rest) ≡ Some s' → Entered P limits s f callers s' t args rest
entered P limits answer s f callers s' t args rest h =
    let g = onto_some (first_frame P t args) (λ g. Some (called P limits s (record f { operands = rest }) callers g)) s' h in
    let k = onto_some (slice_get P.methods t) (λ k. onto k.body (λ b.
    if all_suit (taken_types k) args then onto (padded Unset b.max_locals (spread is_long Unset args)) (λ ls. Some (record { method = t; pc = 0; locals = ls; operands = [] })) else None)) g.0 g.1 in
    let b = onto_some k.0.body (λ b.
    if all_suit (taken_types k.0) args then onto (padded Unset b.max_locals (spread is_long Unset args)) (λ ls. Some (record { method = t; pc = 0; locals = ls; operands = [] })) else None) g.0 k.2 in
    let c = if_defined (all_suit (taken_types k.0) args) (onto (padded Unset b.0.max_locals (spread is_long Unset args)) (λ ls. Some (record { method = t; pc = 0; locals = ls; operands = [] }))) g.0 b.2 in
    let l = onto_some (padded Unset b.0.max_locals (spread is_long Unset args)) (λ ls. Some (record { method = t; pc = 0; locals = ls; operands = [] })) g.0 c.1 in
    record {
      method = k.0;
      is_method = k.1;
      body = b.0;
      is_body = b.1;
      suit = c.0;
      locals = l.0;
      are_locals = l.1;
      next = sym (some_same (called P limits s (record f { operands = rest }) callers g.0) s' g.2)
          ∙ ap (λ (u : Frame). called P limits s (record f { operands = rest }) callers u) (sym (some_same (record { method = t; pc = 0; locals = l.0; operands = [] }) g.0 l.2));
    }

-- ---- how many words

suits_words : (d : Declared) (v : Value) → suits d v ≡ true → value_words v ≡ declared_words d
suits_words (Numeric IntType) (Int n) h = refl
suits_words (Numeric IntType) (Long n) h = absurd (cc)
suits_words (Numeric IntType) (Ref p) h = absurd (cc)
suits_words (Numeric IntType) Null h = absurd (cc)
suits_words (Numeric IntType) Unset h = absurd (cc)
suits_words (Numeric LongType) (Int n) h = absurd (cc)
suits_words (Numeric LongType) (Long n) h = refl
suits_words (Numeric LongType) (Ref p) h = absurd (cc)
suits_words (Numeric LongType) Null h = absurd (cc)
suits_words (Numeric LongType) Unset h = absurd (cc)
suits_words (Reference k) (Int n) h = absurd (cc)
suits_words (Reference k) (Long n) h = absurd (cc)
suits_words (Reference k) (Ref p) h = refl
suits_words (Reference k) Null h = refl
suits_words (Reference k) Unset h = absurd (cc)

pub arguments_words : (ds : List Declared) (vs : List Value) → all_suit ds vs ≡ true → sum_by value_words vs ≡ sum_by declared_words ds
arguments_words [] [] h = refl
arguments_words [] (v ∷ vs) h = absurd (cc)
arguments_words (d ∷ ds) [] h = absurd (cc)
arguments_words (d ∷ ds) (v ∷ vs) h =
    let parts = and_parts (suits d v) (all_suit ds vs) h in
    omega (arith, suits_words d v parts.0, arguments_words ds vs parts.1, sum_by-cons value_words v vs, sum_by-cons declared_words d ds)

pub turned_words : (vs done : List Value) → sum_by value_words (reverse_aux vs done) ≡ sum_by value_words vs + sum_by value_words done
turned_words [] done = omega arith
turned_words (v ∷ vs) done = omega (arith, turned_words vs (v ∷ done), sum_by-cons value_words v vs, sum_by-cons value_words v done)

-- as local variables they take as many places as words
spread_long : (vs : List Value) → length (spread is_long Unset vs) ≡ sum_by value_words vs
spread_long [] = refl
spread_long (Int n ∷ vs) = omega (arith, spread_long vs, sum_by-cons value_words (Int n) vs)
spread_long (Long n ∷ vs) = omega (arith, spread_long vs, sum_by-cons value_words (Long n) vs)
spread_long (Ref p ∷ vs) = omega (arith, spread_long vs, sum_by-cons value_words (Ref p) vs)
spread_long (Null ∷ vs) = omega (arith, spread_long vs, sum_by-cons value_words Null vs)
spread_long (Unset ∷ vs) = omega (arith, spread_long vs, sum_by-cons value_words Unset vs)

padded_fits : (n : ℕ) (vs ls : List Value) → padded Unset n vs ≡ Some ls → length vs ≤ n
padded_fits zero [] ls h = omega arith
padded_fits zero (v ∷ vs) ls h = absurd (none-some ls h)
padded_fits (suc n) [] ls h = omega arith
padded_fits (suc n) (v ∷ vs) ls h = let r = onto_some (padded Unset n vs) (λ ws. Some (v ∷ ws)) ls h in omega (arith, padded_fits n vs r.0 r.1)

pub arguments_fit : (n : ℕ) (vs ls : List Value) → padded Unset n (spread is_long Unset vs) ≡ Some ls → sum_by value_words vs ≤ n
arguments_fit n vs ls h = omega (arith, padded_fits n (spread is_long Unset vs) ls h, spread_long vs)

pub reversed : (vs : List Value) → reverse_aux vs [] ≡ reverse vs
reversed vs = reverse_aux-eq vs [] ∙ append-nil (reverse vs)
