-- The opcodes of the family, one by one.
use Rattle.std.proofs.Common.{◌≡◌, ◌⊎◌, ℕ, ◌==◌, ◌||◌, Bool, true, false, List, [], ◌∷◌, inl, inr, ⊎_elim, refl, sym, ◌∙◌, subst, eqb-true}
use Rattle.std.specs.Prelude.{IsTrue}
use Rattle.std.specs.List.{list_any}
use Rattle.lists.specs.Tests.{either}
use Rattle.bytecode_model.specs.Program.{Program}
use Rattle.machine_stands.specs.Simulates.{Simulates, is_bare}
use Rattle.opcode_steps.specs.Heap.Family.{field_opcodes, is_of_field}
use Rattle.opcode_steps.proofs.HeapLemmas.FieldScenes.{Laws, Scene, Comes}
use Rattle.opcode_steps.proofs.HeapLemmas.Statics.{getstatic_comes, putstatic_comes}
use Rattle.opcode_steps.proofs.HeapLemmas.Getting.{getfield_comes}
use Rattle.opcode_steps.proofs.HeapLemmas.Putting.{putfield_comes}

-- ---- a property of each opcode of a list

abbrev EachOf : (ℕ → Type 0) → List ℕ → Type 0
EachOf Q [] = Unit {0}
EachOf Q (k ∷ ks) = Q k × EachOf Q ks

one_of : (Q : ℕ → Type 0) (op : ℕ) (ks : List ℕ) → IsTrue (list_any (λ k. k == op) ks) → EachOf Q ks → Q op
one_of Q op [] h each = absurd (cc)
one_of Q op (k ∷ ks) h each = ⊎_elim (λ e. subst Q (eqb-true k op e) each.0) (λ rest. one_of Q op ks rest each.1) (either (k == op) (list_any (λ k. k == op) ks) h)

-- ---- no bare image has them

abbrev IsNotBare : ℕ → Type 0
IsNotBare k = is_bare k ≡ false

none_bare : EachOf IsNotBare field_opcodes
none_bare = (refl, (refl, (refl, (refl, tt))))

must_be_linked : (P : Program) (k : ℕ) → IsNotBare k → (P.linked ≡ true) ⊎ IsTrue (is_bare k) → P.linked ≡ true
must_be_linked P k none linked = ⊎_elim (λ e. e) (λ bare. let clash : false ≡ true = sym none ∙ bare in absurd (cc)) linked

-- ---- all of them

abbrev Line : ℕ → Type 0
Line op = (g : Scene op) → Comes op g

lines : Laws → EachOf Line field_opcodes
lines laws = (getstatic_comes laws, (putstatic_comes laws, (getfield_comes laws, (putfield_comes laws, tt))))

pub simulates : Laws → Simulates is_of_field
simulates laws P pl n size m answer s s' h mode family linked =
    let op = m.opcode in
    let bare = one_of IsNotBare op field_opcodes family none_bare in
    one_of Line op field_opcodes family (lines laws) (record {
      P = P;
      pl = pl;
      n = n;
      size = size;
      m = m;
      answer = answer;
      s = s;
      s' = s';
      h = h;
      mode = mode;
      linked = must_be_linked P op bare linked;
      opcode = refl;
    })
