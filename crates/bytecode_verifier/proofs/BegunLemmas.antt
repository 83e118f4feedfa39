-- The local variables with which a method begins, by the names of classes and as the code has them.
use Rattle.std.proofs.Common.{◌≡◌, ℕ, Bool, List, [], ◌∷◌, map, Some, refl, sym, ap, ap₂, ◌∙◌}
use Rattle.std.specs.Prelude.{if◌then◌else◌}
use Rattle.class_pool.specs.declared.class.ClassFile.{ClassFile}
use Rattle.class_pool.specs.declared.class.Code.{Code}
use Rattle.lists.proofs.Lemmas.{some_same}
use Rattle.frame_types.specs.declared.types.VarType as names
use Rattle.frame_types.specs.declared.steps.FirstLocal.{FirstLocal}
use Rattle.frame_types.specs.Locals.{first_locals}
use Rattle.frame_types.specs.Steps.{first_local, BeginsWith}
use Rattle.bytecode_verifier.specs.Beginnings.{BeginsAlike}
use Rattle.bytecode_verifier.specs.Begun.{asked_of, first_kinds}
use Rattle.bytecode_verifier.specs.Listed.{types_by}
use Rattle.bytecode_verifier.specs.Methods.{IsCodeOf, method_of}
use Rattle.bytecode_verifier.specs.Named.{type_by}
use Rattle.bytecode_verifier.proofs.SteppedLemmas.{long_by, this_by}

asked_by : (cs : List ClassFile) (t : names.VarType) → asked_of (type_by cs t) ≡ first_local t
asked_by cs t = ap₂ (λ (long this : Bool). let f : FirstLocal = record { words = if long then 2 else 1; this = this } in f) (long_by cs t) (this_by cs t)

all_asked : (cs : List ClassFile) (ts : List names.VarType) → map first_local ts ≡ map asked_of (types_by cs ts)
all_asked cs [] = refl
all_asked cs (t ∷ ts) = ap₂ (λ (x : FirstLocal) (xs : List FirstLocal). x ∷ xs) (sym (asked_by cs t)) (all_asked cs ts)

module _ (cs : List ClassFile) (n : ℕ) (k : Code) (h : IsCodeOf cs n k) (alike : BeginsAlike cs n k h) where
  pub begins_with : (first : List FirstLocal) → first ≡ map asked_of (first_kinds (method_of cs n k h)) → BeginsWith h.class h.member first
  begins_with first e = (alike.locals, alike.locals_are, all_asked cs alike.locals ∙ (ap (map asked_of) alike.types ∙ sym e))

  pub kinds_by : (ls : List names.VarType) → first_locals h.class h.member ≡ Some ls → first_kinds (method_of cs n k h) ≡ types_by cs ls
  kinds_by ls e = sym alike.types ∙ ap (types_by cs) (some_same alike.locals ls (sym alike.locals_are ∙ e))
