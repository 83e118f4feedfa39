-- What is read of the words of the image that nothing writes.
use Rattle.std.proofs.Common.{◌≡◌, ℕ, ◌+◌, ◌*◌, ◌<◌, Bool, true, false, List, [], ◌∷◌, ◌++◌, length, Option, Some, None, refl, sym, ◌∙◌, ap, subst, arith, length-append}
use Rattle.std.specs.Prelude.{slice_index, slice_get}
use Rattle.lists.proofs.Lemmas.{holds_at, onto_some}
use Rattle.bytecode_model.specs.State.{Frame}
use Rattle.bytecode_model.specs.Program.{Program, Method, Operand, NoOperand, AnInt, ALong, AString, AStatic, AField, AMethod, AType, body_of}
use Rattle.bytecode_model.specs.Effects.{Fault, fault_object, ArithmeticException, ArrayIndexOutOfBoundsException, ArrayStoreException, ClassCastException, IncompatibleClassChangeError, NegativeArraySizeException, NullPointerException, OutOfMemoryError, StackOverflowError}
use Rattle.bytecode_model.specs.WellFormed as formed
use Rattle.image_facts.specs.Within.{LieAt}
use Rattle.image_facts.specs.Places.{Places, object_place, pool_of, words_with}
use Rattle.image_facts.specs.Says.{Says, SaysAll, SaysLinked, SaysEntry, SaysOperand}
use Rattle.image_facts.specs.Laws.{WordsAreRead, ListsGoOn, FixedWordsLie, FirstObjectsStay}
use Rattle.machine_stands.specs.StandsFor.{memory_of, limits_of}
use Rattle.machine_stands.specs.Fixed.{FixedWordsAreRead, RaiseListIsRead, PoolsAreRead}
use Rattle.machine_stands.proofs.Memory.{lie_padded}

pub record FixedLaws : Type 0 where
  pub read : WordsAreRead
  pub ahead : ListsGoOn
  pub fixed : FixedWordsLie

pub within_lie : (whole : List ℕ) (place : ℕ) (words : List ℕ) (k : ℕ) → LieAt whole place words → k < length words → place + k < length whole
within_lie whole place words k l h = omega (arith, ap length l.split, length-append l.before (words ++ l.after), length-append words l.after, l.place_is, h)

pub fixed_read : FixedLaws → FixedWordsAreRead
fixed_read laws P pl n size m s place words k st well is less =
    let lie = lie_padded size (words_with P pl s.statics s.objects) place words laws.ahead (laws.fixed P pl s.statics s.objects place words well.statics is) in (
      omega (arith, within_lie (memory_of P pl size s) place words k lie less, ap (λ (ws : List ℕ). length ws) st.memory, st.sizes.memory),
      ap (λ (ws : List ℕ). slice_index ws (place + k)) st.memory ∙ laws.read (memory_of P pl size s) place words k lie less,
    )

-- ---- of a program that comes of class files

linked_says : (P : Program) (pl : Places) → Says P pl → P.linked ≡ true → SaysLinked P pl
linked_says P pl says is = subst (λ (b : Bool). SaysAll b P pl) is says.all

few_faults : (f : Fault) → fault_object f < 9
few_faults ArithmeticException = omega arith
few_faults ArrayIndexOutOfBoundsException = omega arith
few_faults ArrayStoreException = omega arith
few_faults ClassCastException = omega arith
few_faults IncompatibleClassChangeError = omega arith
few_faults NegativeArraySizeException = omega arith
few_faults NullPointerException = omega arith
few_faults OutOfMemoryError = omega arith
few_faults StackOverflowError = omega arith

pub raise_list_read : FixedLaws → FirstObjectsStay → RaiseListIsRead
raise_list_read laws stay P pl n size m answer s s' h f linked =
    let says = linked_says P pl h.says linked in
    let k = fault_object f in
    let place = pl.raise_list + k in
    let read = fixed_read laws P pl n size m s place (object_place P pl P.first_objects k ∷ []) 0 h.stands h.well_formed (says.raise_list f) (omega arith) in
    let at : place + 0 ≡ place = omega arith in
    (omega (arith, read.0), ap (slice_index m.port.words) (sym at) ∙ read.1 ∙ sym (stay P pl (limits_of P pl n size) s k h.says.first h.well_formed (omega (arith, few_faults f, says.raise_objects))))

-- ---- the pools

-- a bare image names nothing
pub names_in_linked : (P : Program) (pl : Places) (b : Bool) (method pc : ℕ) → (P.operand method pc ≡ NoOperand → ⊥) → SaysAll b P pl → SaysLinked P pl
names_in_linked P pl true method pc named says = says
names_in_linked P pl false method pc named says = absurd (named (says method pc))

entry_there : (P : Program) (pl : Places) (op place : ℕ) (o : Operand) → (o ≡ NoOperand → ⊥) → SaysOperand P pl op place o → SaysEntry P pl op place o
entry_there P pl op place NoOperand named says = absurd (named refl)
entry_there P pl op place (AnInt k) named says = says
entry_there P pl op place (ALong k) named says = says
entry_there P pl op place (AString p) named says = says
entry_there P pl op place (AStatic f) named says = says
entry_there P pl op place (AField c o k) named says = says
entry_there P pl op place (AMethod c k) named says = says
entry_there P pl op place (AType k) named says = says

pub pool_read : FixedLaws → PoolsAreRead
pool_read laws P pl n size m answer s s' h i r index mode row first named =
    let st = h.stands in
    let says = names_in_linked P pl P.linked st.top.method st.top.pc named h.says.all in
    let frames = subst (λ (fs : List Frame). formed.AreFrames P (length s.objects) fs) st.frames h.well_formed.frames in
    let frame = holds_at (body_of P st.top.method) st.body (formed.IsFrame P (length s.objects) st.top) st.is_body frames.0 in
    let method = onto_some (slice_get P.methods st.top.method) (λ k. k.body) st.body st.is_body in
    let place = pl.pool method.0.owner + 2 * index in
    let entry = entry_there P pl i.op place (P.operand st.top.method st.top.pc) named (says.operands st.top.method st.top.pc index method.0 st.body i method.1 method.2 frame.start row.at first) in
    let pool : pool_of P pl st.top.method ≡ pl.pool method.0.owner = ap (λ (o : Option Method). elim o [ None ↦ 0 | Some k ↦ pl.pool k.owner ]) method.1 in
    let words : List ℕ = entry.first ∷ entry.second ∷ [] in
    let one = fixed_read laws P pl n size m s place words 0 st h.well_formed entry.words (omega arith) in
    let two = fixed_read laws P pl n size m s place words 1 st h.well_formed entry.words (omega arith) in
    let at : pool_of P pl st.top.method + 2 * index ≡ place + 0 = omega (arith, pool) in
    let next : pool_of P pl st.top.method + 2 * index + 1 ≡ place + 1 = omega (arith, pool) in
    record {
      first = entry.first;
      second = entry.second;
      within = omega (arith, two.0, next);
      first_is = ap (slice_index m.port.words) at ∙ one.1;
      second_is = ap (slice_index m.port.words) next ∙ two.1;
      means = entry.means;
    }
