-- Tables of lists of types of local variables, to which lists are added.
use Rattle.std.proofs.Common.{◌≡◌, ℕ, zero, suc, ◌<◌, List, [], ◌∷◌, ◌++◌, length, set, Some, append_assoc, refl, sym, ap, ◌∙◌, arith}
use Rattle.std.specs.Prelude.{slice_get}
use Rattle.std.specs.Option.{option_map_or}
use Rattle.std.proofs.Math.Seq.{get_or-append_seam}
use Rattle.std.proofs.lemmas.List.{length-set}
use Rattle.std.proofs.lemmas.Option.{slice_get_within}
use Rattle.bytecode_typing.specs.Types.{VarType}
use Rattle.verifier_types.specs.Locals.{LocalTable, HasListsOf, with_types, filled, types_at, changed_types}

pub more_lists : (a b c : LocalTable) → HasListsOf a b → HasListsOf b c → HasListsOf a c
more_lists a b c h k = record { classes = k.classes ∙ h.classes; room = k.room ∙ h.room; others = h.others ++ k.others; lists = k.lists ∙ (ap (λ l. l ++ k.others) h.lists ∙ append_assoc a.lists h.others k.others) }

there : (ls : List (List VarType)) (n i : ℕ) → i < length (types_at ls n) → slice_get ls n ≡ Some (types_at ls n)
there [] n i lt = absurd (omega (arith, lt))
there (l ∷ ls) zero i lt = refl
there (l ∷ ls) (suc n) i lt = there ls n i lt

-- the list that is added for a write
pub list_written : (t u : LocalTable) (n m i : ℕ) (x : VarType) → u ≡ with_types t (changed_types t n i x) → m ≡ length t.lists → i < length (types_at t.lists n) → types_at u.lists m ≡ set (types_at t.lists n) i x
list_written t u n m i x e number lt =
    ap (λ v. types_at v.lists m) e
    ∙ (ap (types_at (t.lists ++ changed_types t n i x ∷ [])) number
    ∙ (get_or-append_seam t.lists (changed_types t n i x) [] [] ∙ ap (λ o. option_map_or (λ ts. set ts i x) o (filled t.max_locals [])) (there t.lists n i lt)))

-- a local variable whose type is known is there
pub is_there : (ts : List VarType) (i : ℕ) (x : VarType) → Some x ≡ slice_get ts i → i < length ts
is_there ts i x e = slice_get_within ts i x (sym e)

-- so it is where another one was written
pub still_there : (ts us : List VarType) (i j : ℕ) (x : VarType) → us ≡ set ts j x → i < length ts → i < length us
still_there ts us i j x e lt = omega (arith, lt, ap length e, length-set ts j x)
