-- Local variables that are spread and padded.
use Rattle.std.proofs.Common.{◌≡◌, ℕ, zero, suc, Bool, true, false, List, [], ◌∷◌, ◌++◌, Option, Some, None, refl, sym, ap, ◌∙◌}
use Rattle.std.specs.Prelude.{if◌then◌else◌, slice_get}
use Rattle.lists.specs.Lists.{onto}
use Rattle.bytecode_model.specs.Program.{Method, Body}
use Rattle.bytecode_typing.specs.Types.{VarType, Top, TypeFrame}
use Rattle.bytecode_typing.specs.Walk.{begins_uninitialized, first_types}
use Rattle.verifier_types.specs.Locals.{LocalTable, types_at}
use Rattle.bytecode_model.specs.Slots.{spread, padded}
use Rattle.bytecode_verifier.specs.Begun.{first_kinds}
use Rattle.bytecode_verifier.specs.Listed.{words_of}

spread_case : {A : Type 0} (long : A → Bool) (unset v : A) (vs ws : List A) (b : Bool) → spread long unset (vs ++ ws) ≡ spread long unset vs ++ spread long unset ws
    → (if b then v ∷ unset ∷ spread long unset (vs ++ ws) else v ∷ spread long unset (vs ++ ws)) ≡ (if b then v ∷ unset ∷ spread long unset vs else v ∷ spread long unset vs) ++ spread long unset ws
spread_case long unset v vs ws true h = ap (λ l. v ∷ unset ∷ l) h
spread_case long unset v vs ws false h = ap (λ l. v ∷ l) h

pub spread_append : {A : Type 0} (long : A → Bool) (unset : A) (vs ws : List A) → spread long unset (vs ++ ws) ≡ spread long unset vs ++ spread long unset ws
spread_append long unset [] ws = refl
spread_append long unset (v ∷ vs) ws = spread_case long unset v vs ws (long v) (spread_append long unset vs ws)

-- the list of a number, where there is one
pub list_got : (ls : List (List VarType)) (n : ℕ) (types : List VarType) → slice_get ls n ≡ Some types → types_at ls n ≡ types
list_got [] n types e = cc
list_got (l ∷ ls) zero types e = cc
list_got (l ∷ ls) (suc n) types e = list_got ls n types e

-- the first frame as the code has it
pub first_seen : (ls : List (List VarType)) (n : ℕ) (o : Option (List VarType)) (types locals stack : List VarType) (flag other : Bool) → o ≡ Some types → slice_get ls n ≡ Some types → locals ≡ types_at ls n → stack ≡ [] → flag ≡ other
    → Some (record { locals = locals; stack = stack; flag = flag }) ≡ onto o (λ l. Some (let f : TypeFrame = record { locals = l; stack = []; flag = other } in f))
first_seen ls n o types locals stack flag other e got at empty same =
    let here : locals ≡ types = at ∙ list_got ls n types got in
    ap (λ (l : List VarType). Some (let f : TypeFrame = record { locals = l; stack = stack; flag = flag } in f)) here
    ∙ (ap (λ (st : List VarType). Some (let f : TypeFrame = record { locals = types; stack = st; flag = flag } in f)) empty
    ∙ (ap (λ (x : Bool). Some (let f : TypeFrame = record { locals = types; stack = []; flag = x } in f)) same
    ∙ ap (λ (p : Option (List VarType)). onto p (λ l. Some (let f : TypeFrame = record { locals = l; stack = []; flag = other } in f))) (sym e)))

-- there is none
pub none_first : (t : LocalTable) (m : Method) (b : Body) → b.max_locals ≡ t.max_locals → padded Top t.max_locals (words_of (first_kinds m)) ≡ None → None ≡ first_types m b
none_first t m b room none =
    ap (λ (o : Option (List VarType)). onto o (λ ls. Some (let f : TypeFrame = record { locals = ls; stack = []; flag = begins_uninitialized m } in f))) (sym (ap (λ n. padded Top n (words_of (first_kinds m))) room ∙ none))
