-- Loads of elements, from the step to where the machine stands for the next state.
use Rattle.std.proofs.Common.{◌≡◌, ℕ, ◌+◌, ◌%◌, ◌^◌, ◌≤◌, Bool, true, false, ℤ, List, [], ◌∷◌, ◌++◌, Some, length, refl, sym, ◌∙◌, ap, subst, arith}
use Rattle.std.specs.Prelude.{slice_get, slice_index}
use Rattle.std.specs.Int.{w32}
use Rattle.std.specs.Int.RustNames.{FitsSigned}
use Rattle.machine_stands.proofs.Defined.{long_is}
use Rattle.lists.specs.Members.{heads, tails}
use Rattle.lists.proofs.Lemmas.{some_same}
use Rattle.opcodes.specs.Form.{one, Absent}
use Rattle.opcodes.specs.Row as opcodes
use Rattle.opcodes.specs.Reading.{plain_instr}
use Rattle.micro_sketch.specs.Sketch.{Sketch}
use Rattle.micro_sketch.specs.Row as row
use Rattle.bytecode_model.specs.declared.Value.{Value}
use Rattle.bytecode_model.specs.declared.Value.TheVariants.{Int, Long, Ref, Null}
use Rattle.bytecode_model.specs.Types.{IntType, LongType, is_long, t_boolean, t_char, t_byte, t_short, t_int, t_long}
use Rattle.bytecode_model.specs.State.{Object}
use Rattle.bytecode_model.specs.Program.{Operand, kind_of}
use Rattle.bytecode_model.specs.Rows as bytecode
use Rattle.bytecode_model.specs.Rows.{LoadNumber, LoadReference}
use Rattle.bytecode_model.specs.Table.{row_of}
use Rattle.bytecode_model.specs.Effects.{Effect, Go, ArrayIndexOutOfBoundsException, NullPointerException, fault, on, only_if, on_number, on_object, on_element, is_array_of, component_of}
use Rattle.bytecode_model.specs.Steps.{applied}
use Rattle.bytecode_model.specs.WellFormed.{AreValues}
use Rattle.image_facts.specs.Words.{int_word, high_word, low_word}
use Rattle.image_facts.specs.Laws.{part_place}
use Rattle.machine_stands.specs.Frames.{IsWordOf, AreOperands}
use Rattle.machine_stands.specs.Reading.{operands_of}
use Rattle.opcode_steps.proofs.HeapLemmas.ArrayRows.{element_at, long_at, load_null, load_outside, load_inside, loads_word, loads_long, LoadRows, iaload, laload, aaload, baload, caload, saload}
use Rattle.opcode_steps.proofs.HeapLemmas.ArrayDefined.{on_defined, only_if_defined, on_int_defined, on_object_defined, on_element_defined, IsOutside, IsArray, HaveWidth, numbers, references}
use Rattle.opcode_steps.proofs.HeapLemmas.ArrayScenes.{Laws, Scene, Comes, limits, top, code, x, place, saved, operands, At, effect_of, operand_values, goes_by, raises_by, one_on_top, words_are, null_test}
use Rattle.opcode_steps.proofs.HeapLemmas.Elements.{next_is, outside, inside, word_at, double_at}

-- ---- what a row of a load does

module _ (op : ℕ) (g : Scene op) where
  abbrev pushes : List Value → ℕ → Value → Effect
  pushes rest k v = Go ((top op g).pc + 1) (top op g).locals (v ∷ rest)

  abbrev from_array : (Object → Effect → Effect) → ℤ → ℕ → Object → List Value → Effect
  from_array guard i p o rest = guard o (on_element o i (pushes rest))

  abbrev from_index : (Object → Effect → Effect) → ℤ → List Value → Effect
  from_index guard i rest = on_object g.s.objects rest (from_array guard i)

  abbrev Leads : Effect → Type 0
  Leads e = applied g.P (limits op g) g.answer g.s (top op g) g.h.stands.callers e ≡ Some g.s'

  -- where the array is of the row's kind
  pub record Guarded (guard : Object → Effect → Effect) (wide : Bool) (o : Object) (e : Effect) : Type 0 where
    pub array : IsArray g.P o wide
    pub same : guard o e ≡ e
    pub leads : Leads e

-- a row of a load: what it asks of the array, and how its three ways go
pub record Load (op : ℕ) (g : Scene op) (wide : Bool) (f : Sketch → row.Effect) : Type 0 where
  pub r : bytecode.Row
  pub at : At op g r
  pub guard : Object → Effect → Effect
  pub form : effect_of op g r ≡ on_number IntType (top op g).operands (from_index op g guard)
  pub guarded : (o : Object) (e : Effect) → Leads op g (guard o e) → Guarded op g guard wide o e
  pub rows : LoadRows op f

module _ (laws : Laws) (op : ℕ) (g : Scene op) (wide : Bool) (f : Sketch → row.Effect) (t : Load op g wide f) where
  -- the index and the reference below it
  record Indexed (i : ℤ) (v : Value) (rest : List Value) : Type 0 where
    fits : FitsSigned w32 i
    index_is : (x op g).top ≡ int_word i
    array : ℕ
    is : IsWordOf (place op g) v array
    array_is : (x op g).next ≡ array
    others : List ℕ
    stay : AreOperands (place op g) rest others
    few : length others ≤ length (operands op g)
    under_is : (x op g).under ≡ others ++ saved op g

  indexed : (i : ℤ) (below : List Value) (v : Value) (rest : List Value) → (top op g).operands ≡ Int i ∷ below → below ≡ v ∷ rest → is_long v ≡ false → Indexed i v rest
  indexed i below v rest ops under short =
      let y = x op g in
      let a = one_on_top laws op g (Int i) below (top op g).operands (operands op g) g.h.stands.are_frames.0.operands ops refl in
      let b = one_on_top laws op g v rest below a.others a.stay under short in
      let split : operands op g ≡ a.word ∷ b.word ∷ b.others = a.split ∙ ap (λ (ws : List ℕ). a.word ∷ ws) b.split in
      let stack = words_are laws op g (a.word ∷ b.word ∷ b.others) split in
      let tail = tails y.top a.word (y.next ∷ y.under) (b.word ∷ b.others ++ saved op g) stack in
      let many = ap (λ (ws : List ℕ). length ws) split in
      record {
        fits = (subst (λ (vs : List Value). AreValues (length g.s.objects) vs) ops (operand_values op g)).0;
        index_is = heads y.top a.word (y.next ∷ y.under) (b.word ∷ b.others ++ saved op g) stack ∙ a.is;
        array = b.word;
        is = b.is;
        array_is = heads y.next b.word y.under (b.others ++ saved op g) tail;
        others = b.others;
        stay = b.stay;
        few = omega (arith, many);
        under_is = tails y.next b.word y.under (b.others ++ saved op g) tail;
      }

  null_comes : (i : ℤ) (rest : List Value) → Indexed i Null rest → effect_of op g t.r ≡ fault NullPointerException → Comes op g
  null_comes i rest w raises = raises_by laws op g t.r NullPointerException (λ y. y.under) load_null w.others t.rows.null (null_test (x op g).next true (w.array_is ∙ w.is) refl) t.at raises w.under_is w.few

  outside_comes : (i : ℤ) (p : ℕ) (o : Object) (rest : List Value) → Indexed i (Ref p) rest → slice_get g.s.objects p ≡ Some o → IsArray g.P o wide → IsOutside i (length o.parts)
      → effect_of op g t.r ≡ fault ArrayIndexOutOfBoundsException → Comes op g
  outside_comes i p o rest w object kind out raises =
      raises_by laws op g t.r ArrayIndexOutOfBoundsException (λ y. y.under) load_outside w.others t.rows.outside
      (outside laws op g p o object (x op g).next (w.array_is ∙ w.is) wide kind i (x op g).top w.index_is w.fits out) t.at raises w.under_is w.few

  -- an element that is there
  pub record Loaded : Type 0 where
    pub p : ℕ
    pub o : Object
    pub object : slice_get g.s.objects p ≡ Some o
    pub kind : IsArray g.P o wide
    pub k : ℕ
    pub v : Value
    pub part : slice_get o.parts k ≡ Some v
    pub rest : List Value
    pub goes : effect_of op g t.r ≡ pushes op g rest k v
    pub index_is : (x op g).top ≡ k
    pub array_is : (x op g).next ≡ place op g p
    pub others : List ℕ
    pub stay : AreOperands (place op g) rest others
    pub under_is : (x op g).under ≡ others ++ saved op g

  pub load_comes : (Loaded → Comes op g) → Comes op g
  load_comes ends =
      let f = top op g in
      let callers = g.h.stands.callers in
      let limit = limits op g in
      let start : Leads op g (on_number IntType f.operands (from_index op g t.guard)) = subst (λ (e : Effect). Leads op g e) t.form t.at.step in
      let i = on_int_defined g.P limit g.answer g.s f callers g.s' f.operands (from_index op g t.guard) start in
      on_object_defined g.P limit g.answer g.s f callers g.s' g.s.objects i.1 (from_array op g t.guard i.0) (Comes op g) i.4
      (λ rest below raises. null_comes i.0 rest (indexed i.0 i.1 Null rest i.2 below refl) (t.form ∙ i.3 ∙ raises))
      (λ p o rest below object same leads.
      let w = indexed i.0 i.1 (Ref p) rest i.2 below refl in
      let q = t.guarded o (on_element o i.0 (pushes op g rest)) leads in
      on_element_defined g.P limit g.answer g.s f callers g.s' o i.0 (pushes op g rest) (Comes op g) q.leads
      (λ out raises. outside_comes i.0 p o rest w object q.array out (t.form ∙ i.3 ∙ same ∙ q.same ∙ raises))
      (λ k v is part goes more. ends (record {
        p = p;
        o = o;
        object = object;
        kind = q.array;
        k = k;
        v = v;
        part = part;
        rest = rest;
        goes = t.form ∙ i.3 ∙ same ∙ q.same ∙ goes;
        index_is = w.index_is ∙ ap int_word is;
        array_is = w.array_is ∙ w.is;
        others = w.others;
        stay = w.stay;
        under_is = w.under_is;
      })))

-- ---- an element of one word

word_comes : (laws : Laws) (op : ℕ) (g : Scene op) (t : Load op g false loads_word) → Loaded laws op g false loads_word t → Comes op g
word_comes laws op g t u =
    let y = x op g in
    let wide = laws.widths g.P (limits op g) g.s u.p u.o u.kind.kind u.k u.v g.h.well_formed u.object u.kind.kind_is u.kind.array u.part in
    let short = wide.width ∙ u.kind.longs in
    let r = laws.parts g.P g.pl g.n g.size g.m g.s u.p u.o u.k u.v g.h.stands g.h.well_formed u.object u.part short in
    let at = word_at laws op g u.p u.o u.object y.next u.array_is false u.kind u.k u.v u.part y.top u.index_is refl r.within in
    let word = slice_index y.memory (element_at y.next y.top) in
    let is : IsWordOf (place op g) u.v word = subst (λ (a : ℕ). IsWordOf (place op g) u.v (slice_index g.m.port.words a)) (sym at) r.word_is in
    goes_by laws op g t.r (λ z. slice_index z.memory (element_at z.next z.top) ∷ z.under) load_inside (u.v ∷ u.rest) (word ∷ u.others) t.rows.inside
    (inside laws op g u.p u.o u.object y.next u.array_is false u.kind u.k u.v u.part y.top u.index_is) t.at u.goes (laws.pushed (place op g) u.v u.rest word u.others short is u.stay)
    (ap (λ (ws : List ℕ). word ∷ ws) u.under_is)

-- ---- a long

long_comes : (laws : Laws) (op : ℕ) (g : Scene op) (t : Load op g true loads_long) → Loaded laws op g true loads_long t → Comes op g
long_comes laws op g t u =
    let y = x op g in
    let wide = laws.widths g.P (limits op g) g.s u.p u.o u.kind.kind u.k u.v g.h.well_formed u.object u.kind.kind_is u.kind.array u.part in
    let v = long_is u.v (wide.width ∙ u.kind.longs) in
    let place_is = part_place g.P g.pl g.s.objects u.p u.o u.k in
    let r = laws.long_parts g.P g.pl g.n g.size g.m g.s u.p u.o u.k v.0 g.h.stands g.h.well_formed u.object (u.part ∙ ap (λ q. Some q) v.1) in
    let at = double_at laws op g u.p u.o u.object y.next u.array_is true u.kind u.k u.v u.part y.top u.index_is refl r.high.within in
    let a = long_at y.next y.top in
    let high = slice_index y.memory a in
    let low = slice_index y.memory ((a + 1) % 2 ^ 32) in
    let is_high : high ≡ high_word v.0 = ap (slice_index g.m.port.words) at ∙ r.high.word_is in
    let is_low : low ≡ low_word v.0 = ap (slice_index g.m.port.words) (next_is a place_is g.size at r.low.within g.h.stands.sizes.small) ∙ r.low.word_is in
    goes_by laws op g t.r (λ z. slice_index z.memory ((long_at z.next z.top + 1) % 2 ^ 32) ∷ slice_index z.memory (long_at z.next z.top) ∷ z.under) load_inside (Long v.0 ∷ u.rest) (low ∷ high ∷ u.others) t.rows.inside
    (inside laws op g u.p u.o u.object y.next u.array_is true u.kind u.k u.v u.part y.top u.index_is) t.at (u.goes ∙ ap (λ (q : Value). pushes op g u.rest u.k q) v.1)
    (is_low, is_high, u.stay) (ap (λ (ws : List ℕ). low ∷ high ∷ ws) u.under_is)

-- ---- the rows

abbrev of_codes : (op : ℕ) (g : Scene op) → List ℕ → Object → Effect → Effect
of_codes op g codes o e = only_if (is_array_of codes (kind_of g.P o)) e

codes_guarded : (op : ℕ) (g : Scene op) (codes : List ℕ) (wide : Bool) → HaveWidth wide codes → (o : Object) (e : Effect) → Leads op g (of_codes op g codes o e) → Guarded op g (of_codes op g codes) wide o e
codes_guarded op g codes wide each o e leads =
    let b = only_if_defined g.P (limits op g) g.answer g.s (top op g) g.h.stands.callers g.s' (is_array_of codes (kind_of g.P o)) e leads in
    record { array = numbers g.P o wide codes b.0 each; same = b.1; leads = b.2 }

abbrev of_references : (op : ℕ) (g : Scene op) → Object → Effect → Effect
of_references op g o e = on (component_of (kind_of g.P o)) (λ k. e)

references_guarded : (op : ℕ) (g : Scene op) (o : Object) (e : Effect) → Leads op g (of_references op g o e) → Guarded op g (of_references op g) false o e
references_guarded op g o e leads =
    let k = on_defined g.P (limits op g) g.answer g.s (top op g) g.h.stands.callers g.s' (component_of (kind_of g.P o)) (λ k. e) leads in
    record { array = references g.P o k.0 k.1; same = k.2; leads = k.3 }

-- the instruction of the opcode has the row
abbrev pub IsRow : (op : ℕ) → bytecode.Row → Type 0
IsRow op r = (code : List ℕ) (pc : ℕ) (o : Operand) → row_of code (plain_instr op code pc (one Absent)) o ≡ Some r

pub at_row : Laws → (op : ℕ) (g : Scene op) (r : bytecode.Row) → operands_of (opcodes.row_of op).form ≡ Some (one Absent) → IsRow op r → At op g r
at_row laws op g r form is =
    let read = laws.plain g.P g.pl g.n g.size g.m g.answer g.s g.s' g.h op (one Absent) g.mode g.opcode form in
    subst (λ (q : bytecode.Row). At op g q) (some_same read.0 r (sym read.1.is_row ∙ is (code op g) (top op g).pc (g.P.operand (top op g).method (top op g).pc))) read.1

numbers_load : Laws → (op : ℕ) (g : Scene op) (codes : List ℕ) → operands_of (opcodes.row_of op).form ≡ Some (one Absent) → IsRow op (LoadNumber IntType codes) → HaveWidth false codes → LoadRows op loads_word → Comes op g
numbers_load laws op g codes form is each rows =
    let t : Load op g false loads_word = record {
      r = LoadNumber IntType codes;
      at = at_row laws op g (LoadNumber IntType codes) form is;
      guard = of_codes op g codes;
      form = refl;
      guarded = codes_guarded op g codes false each;
      rows = rows;
    } in
    load_comes laws op g false loads_word t (word_comes laws op g t)

pub iaload_comes : Laws → (g : Scene 46) → Comes 46 g
unfolding opcodes.row_of row_of
iaload_comes laws g = numbers_load laws 46 g (t_int ∷ []) refl (λ code pc o. refl) (refl, tt) iaload

pub baload_comes : Laws → (g : Scene 51) → Comes 51 g
unfolding opcodes.row_of row_of
baload_comes laws g = numbers_load laws 51 g (t_byte ∷ t_boolean ∷ []) refl (λ code pc o. refl) (refl, (refl, tt)) baload

pub caload_comes : Laws → (g : Scene 52) → Comes 52 g
unfolding opcodes.row_of row_of
caload_comes laws g = numbers_load laws 52 g (t_char ∷ []) refl (λ code pc o. refl) (refl, tt) caload

pub saload_comes : Laws → (g : Scene 53) → Comes 53 g
unfolding opcodes.row_of row_of
saload_comes laws g = numbers_load laws 53 g (t_short ∷ []) refl (λ code pc o. refl) (refl, tt) saload

pub laload_comes : Laws → (g : Scene 47) → Comes 47 g
unfolding opcodes.row_of row_of
laload_comes laws g =
    let t : Load 47 g true loads_long = record {
      r = LoadNumber LongType (t_long ∷ []);
      at = at_row laws 47 g (LoadNumber LongType (t_long ∷ [])) refl (λ code pc o. refl);
      guard = of_codes 47 g (t_long ∷ []);
      form = refl;
      guarded = codes_guarded 47 g (t_long ∷ []) true (refl, tt);
      rows = laload;
    } in
    load_comes laws 47 g true loads_long t (long_comes laws 47 g t)

pub aaload_comes : Laws → (g : Scene 50) → Comes 50 g
unfolding opcodes.row_of row_of
aaload_comes laws g =
    let t : Load 50 g false loads_word = record {
      r = LoadReference;
      at = at_row laws 50 g LoadReference refl (λ code pc o. refl);
      guard = of_references 50 g;
      form = refl;
      guarded = references_guarded 50 g;
      rows = aaload;
    } in
    load_comes laws 50 g false loads_word t (word_comes laws 50 g t)
