-- The exception table of a method and the type of an object, in the memory of a machine that stands for a state.
use Rattle.std.proofs.Common.{◌≡◌, ◌⊎◌, ℕ, zero, suc, ◌+◌, ◌-◌, ◌*◌, ◌/◌, ◌%◌, ◌^◌, ◌<◌, ◌≤◌, ◌==◌, ◌&&◌, ◌||◌, Bool, true, false, nat_lt, nat_le, if◌then◌else◌, List, [], ◌∷◌, ◌++◌, Option, Some, None, length, map, refl, sym, ap, ◌∙◌, subst, arith, add-zero, length-append, ⊎_elim, eqb-true, lt-ltb}
use Rattle.std.specs.Prelude.{slice_get, slice_index, All, IfSome, IsSome, Ok}
use Rattle.std.specs.List.{flat_map}
use Rattle.std.specs.Int.{div_ceil}
use Rattle.std.proofs.lemmas.Option.{none-some}
use Rattle.std.proofs.lemmas.List.{get_or-drop}
use Rattle.std.proofs.lemmas.Bool.Decides.{nat_tests}
use Rattle.lists.proofs.Lemmas.{onto_some, some_same}
use Rattle.opcodes.specs.declared.instruction.Instr.{Instr}
use Rattle.opcodes.specs.Instruction.{decoded}
use Rattle.opcodes.specs.Start.{IsStart}
use Rattle.base.specs.Packed.{words_of_bytes}
use Rattle.jop_core.specs.State as machine
use Rattle.machine_memory.specs.Timing.Port.{padded}
use Rattle.bytecode_model.specs.Lists.{onto, index_of}
use Rattle.bytecode_model.specs.Types.{Kind, OfClass, OfNumbers, OfReferences, same_kind}
use Rattle.bytecode_model.specs.State.{Object, State}
use Rattle.bytecode_model.specs.Program.{Program, Method, Body, Handler, type_number, is_of}
use Rattle.bytecode_model.specs.Effects.{component_of}
use Rattle.bytecode_model.specs.Steps as steps
use Rattle.bytecode_model.specs.WellFormed.{IsWellFormed}
use Rattle.image_facts.specs.Within.{LieAt}
use Rattle.image_facts.specs.Words.{object_image}
use Rattle.image_facts.specs.Places.{Places, object_place, words_with}
use Rattle.image_facts.specs.Says.{SaysLinked, SaysMethod, SaysType, IsEntry, IsBetween, bit_of, counted_type, instance_words, handler_words, method_words}
use Rattle.image_facts.specs.Laws.{WordsAreRead, ListsGoOn, ObjectsLie}
use Rattle.machine_stands.specs.StandsFor.{StandsFor, limits_of}
use Rattle.machine_stands.specs.Fixed.{FixedWordsAreRead}
use Rattle.call_steps.specs.Raise as table
use Rattle.call_steps.specs.Raise.{Entry, is_supertype, target_for, AreEntries}

pub record TableLaws : Type 0 where
  pub fixed : FixedWordsAreRead
  pub objects : ObjectsLie
  pub ahead : ListsGoOn
  pub read : WordsAreRead

-- ---- options

pub is_there : {A : Type 0} (o : Option A) → IsSome o → (x : A) × (o ≡ Some x)
is_there None h = absurd (cc)
is_there (Some x) h = (x, refl)

holds_for : {A : Type 0} (o : Option A) (x : A) (Q : A → Type 0) → o ≡ Some x → IfSome o Q → Q x
holds_for o x Q e h = subst (λ o. IfSome o Q) e h

-- ---- the type of the object

lie_padded : ListsGoOn → (size : ℕ) (whole : List ℕ) (place : ℕ) (words : List ℕ) → LieAt whole place words → LieAt (padded whole size) place words
lie_padded ahead size whole place words l =
    let d = ahead whole whole _ place words words (record { before = l.before; after = l.after; split = l.split; changed = l.split; place_is = l.place_is }) in
    record { before = d.before; after = d.after; split = d.split; place_is = d.place_is }

-- the first word of an object is the place of its type
pub type_read : TableLaws → (P : Program) (pl : Places) (n size : ℕ) (m : machine.MachineState) (s : State) (p : ℕ) (o : Object) → StandsFor P pl n size m s → IsWellFormed P (limits_of P pl n size) s
    → slice_get s.objects p ≡ Some o → slice_index m.port.words (object_place P pl s.objects p) ≡ pl.type o.kind
type_read laws P pl n size m s p o st well is =
    let place = object_place P pl s.objects in
    let words = object_image P pl.type place o in
    let lies = lie_padded laws.ahead size (words_with P pl s.statics s.objects) (place p) words (laws.objects P pl s.statics s.objects p o well.statics is) in
    let some : 0 < length words = omega arith in
    ap (λ (ws : List ℕ). slice_index ws (place p)) st.memory ∙ ap (λ (k : ℕ). slice_index (padded (words_with P pl s.statics s.objects) size) k) (sym (add-zero (place p)))
    ∙ laws.read (padded (words_with P pl s.statics s.objects) size) (place p) words 0 lies some

-- ---- the number of a type

kind_same : (k l : Kind) → same_kind k l ≡ true → k ≡ l
kind_same (OfClass c) (OfClass d) h = ap (λ (i : ℕ). OfClass i) (eqb-true c d h)
kind_same (OfNumbers a) (OfNumbers b) h = ap (λ (i : ℕ). OfNumbers i) (eqb-true a b h)
kind_same (OfReferences k) (OfReferences l) h = ap (λ (i : Kind). OfReferences i) (kind_same k l h)
kind_same (OfClass c) (OfNumbers b) h = absurd (cc)
kind_same (OfClass c) (OfReferences l) h = absurd (cc)
kind_same (OfNumbers a) (OfClass d) h = absurd (cc)
kind_same (OfNumbers a) (OfReferences l) h = absurd (cc)
kind_same (OfReferences k) (OfClass d) h = absurd (cc)
kind_same (OfReferences k) (OfNumbers b) h = absurd (cc)

-- the type with the number of a kind is the kind
number_of_kind : (types : List Kind) (k : Kind) (t : ℕ) → index_of (same_kind k) types ≡ Some t → (slice_get types t ≡ Some k) × (t < length types)
number_of_kind [] k t h = absurd (none-some t h)
number_of_kind (l ∷ types) k t h = by (λ j e. number_of_kind types k j e) (same_kind k l) refl h
  where
    first : (t : ℕ) → same_kind k l ≡ true → Some 0 ≡ Some t → (slice_get (l ∷ types) t ≡ Some k) × (t < length (l ∷ types))
    first zero e g = (ap (λ (i : Kind). Some i) (sym (kind_same k l e)), omega arith)
    first (suc t) e g = absurd (omega (arith, some_same 0 (suc t) g))

    by : ((j : ℕ) → index_of (same_kind k) types ≡ Some j → (slice_get types j ≡ Some k) × (j < length types)) → (b : Bool) → same_kind k l ≡ b → (if b then Some 0 else onto (index_of (same_kind k) types) (λ j. Some (suc j))) ≡ Some t → (slice_get (l ∷ types) t ≡ Some k) × (t < length (l ∷ types))
    by others true e g = first t e g
    by others false e g =
        let j = onto_some (index_of (same_kind k) types) (λ j. Some (suc j)) t g in
        let rest = others j.0 j.1 in
        let same : suc j.0 ≡ t = some_same (suc j.0) t j.2 in
        (subst (λ (i : ℕ). slice_get (l ∷ types) i ≡ Some k) same rest.0, subst (λ (i : ℕ). i < length (l ∷ types)) same (omega (arith, rest.1)))

-- ---- an entry

-- an entry of the exception table, as it lies in memory
abbrev pub entry_of : Program → Handler → Entry
entry_of P h = record { range = h.start * 2 ^ 16 + h.end; target = h.target; type = counted_type P h.caught }

abbrev pub entries_of : Program → List Handler → List Entry
entries_of P hs = map (entry_of P) hs

high_half : (a b : ℕ) → b < 2 ^ 16 → (a * 2 ^ 16 + b) / 2 ^ 16 ≡ a
high_half a b h = omega arith

low_half : (a b : ℕ) → b < 2 ^ 16 → (a * 2 ^ 16 + b) % 2 ^ 16 ≡ b
low_half a b h = omega arith

-- the record of the object's type, whose words lie in the memory
pub record HasType (P : Program) (memory : List ℕ) (type : ℕ) (k : Kind) : Type 0 where
  pub few : length P.types < 2 ^ 31
  -- the bit of each type is there, and says whether it is the kind or above it
  pub bits : (u : ℕ) (l : Kind) → slice_get P.types u ≡ Some l → (slice_index memory (type + 5 + u / 32) / 2 ^ (u % 32) % 2 ≡ bit_of (is_of P k l)) × (type + 5 + u / 32 < 2 ^ 32)

ceiling : (u n : ℕ) → u < n → u / 32 < div_ceil n 32
ceiling u n h = omega arith

pub has_type : TableLaws → (P : Program) (pl : Places) (n size : ℕ) (m : machine.MachineState) (s : State) (t : ℕ) (k : Kind) → StandsFor P pl n size m s → IsWellFormed P (limits_of P pl n size) s → SaysLinked P pl
    → slice_get P.types t ≡ Some k → HasType P m.port.words (pl.type t) k
has_type laws P pl n size m s t k st well says is =
    let said = holds_for (slice_get P.types t) k (SaysType P pl t) is (says.types t) in
    let words = t ∷ instance_words P k ∷ counted_type P (component_of (Some k)) ∷ pl.method_table t ∷ pl.interface_table t ∷ said.supertypes in
    record {
      few = says.few_types;
      bits = λ u l e.
          let bound = within P.types u l e in
          let many : u / 32 < length said.supertypes = omega (arith, said.count, ceiling u (length P.types) bound) in
          let read = laws.fixed P pl n size m s (pl.type t) words (5 + u / 32) st well said.words (omega (arith, many)) in
          let place : pl.type t + 5 + u / 32 ≡ pl.type t + (5 + u / 32) = omega arith in
          let word : slice_index m.port.words (pl.type t + 5 + u / 32) ≡ slice_index said.supertypes (u / 32) = ap (λ (i : ℕ). slice_index m.port.words i) place ∙ read.1 ∙ sym (get_or-drop 5 words (u / 32) 0) in (
            ap (λ (w : ℕ). w / 2 ^ (u % 32) % 2) word ∙ holds_for (slice_get P.types u) l (λ l. slice_index said.supertypes (u / 32) / 2 ^ (u % 32) % 2 ≡ bit_of (is_of P k l)) e (said.bits u),
            omega (arith, read.0, st.sizes.small),
          );
    }
  where
    within : (types : List Kind) (u : ℕ) (l : Kind) → slice_get types u ≡ Some l → u < length types
    within [] u l e = absurd (none-some l e)
    within (x ∷ xs) zero l e = omega arith
    within (x ∷ xs) (suc u) l e = omega (arith, within xs u l e)

one_bit : (b : Bool) → nat_lt 0 (bit_of b) ≡ b
one_bit true = refl
one_bit false = refl

-- what is caught, as the machine tests it
type_test : (P : Program) (memory : List ℕ) (type : ℕ) (k : Kind) → HasType P memory type k → (caught : Option Kind) → IfSome caught (λ l. IsSome (type_number P l))
    → (counted_type P caught == 0 || is_supertype memory type (counted_type P caught - 1)) ≡ elim caught [ None ↦ true | Some l ↦ is_of P k l ]
type_test P memory type k has None there = refl
type_test P memory type k has (Some l) there =
    let t = is_there (type_number P l) there in
    let number = number_of_kind P.types l t.0 t.1 in
    let bit = has.bits t.0 l number.0 in
    let counted : counted_type P (Some l) ≡ t.0 + 1 = ap (λ o. elim o [ None ↦ 0 | Some u ↦ u + 1 ]) t.1 in
    let back : t.0 + 1 - 1 ≡ t.0 = omega arith in
    ap (λ (i : ℕ). i == 0 || is_supertype memory type (i - 1)) counted ∙ ap (λ (b : Bool). b || is_supertype memory type (t.0 + 1 - 1)) (above t.0)
    ∙ ap (λ (i : ℕ). is_supertype memory type i) back ∙ ap (λ (i : ℕ). nat_lt 0 i) bit.0 ∙ one_bit (is_of P k l)
  where
    above : (t : ℕ) → (t + 1 == 0) ≡ false
    above t = grind (arith, nat_tests)

-- an instruction that begins at pc, with a place within it or behind it
pub record Inside (code : List ℕ) (pc jpc : ℕ) : Type 0 where
  pub instr : Instr
  pub start : IsStart code pc
  pub whole : decoded code pc ≡ Ok instr
  pub from : pc < jpc
  pub to : jpc ≤ pc + instr.length

begins_before : (code : List ℕ) (pc jpc place : ℕ) → Inside code pc jpc → IsBetween code place → nat_lt place jpc ≡ nat_le place pc
begins_before code pc jpc place i between = ⊎_elim
    (λ (l : place ≤ pc). less place jpc (omega (arith, l, i.from)) ∙ sym (most place pc l))
    (λ (r : pc + i.instr.length ≤ place). not_less place jpc (omega (arith, r, i.to)) ∙ sym (not_most place pc (omega (arith, r, i.from, i.to))))
    (between pc i.instr i.start i.whole)
  where
    less : (a b : ℕ) → a < b → nat_lt a b ≡ true
    less a b h = lt-ltb a b h

    most : (a b : ℕ) → a ≤ b → nat_le a b ≡ true
    most a b h = grind (arith, nat_tests, h)

    not_less : (a b : ℕ) → b ≤ a → nat_lt a b ≡ false
    not_less a b h = grind (arith, nat_tests, h)

    not_most : (a b : ℕ) → b < a → nat_le a b ≡ false
    not_most a b h = grind (arith, nat_tests, h)

ends_behind : (code : List ℕ) (pc jpc place : ℕ) → Inside code pc jpc → IsBetween code place → nat_le jpc place ≡ nat_lt pc place
ends_behind code pc jpc place i between = ⊎_elim
    (λ (l : place ≤ pc). not_most jpc place (omega (arith, l, i.from)) ∙ sym (not_less pc place l))
    (λ (r : pc + i.instr.length ≤ place). most jpc place (omega (arith, r, i.to)) ∙ sym (less pc place (omega (arith, r, i.from, i.to))))
    (between pc i.instr i.start i.whole)
  where
    less : (a b : ℕ) → a < b → nat_lt a b ≡ true
    less a b h = lt-ltb a b h

    most : (a b : ℕ) → a ≤ b → nat_le a b ≡ true
    most a b h = grind (arith, nat_tests, h)

    not_less : (a b : ℕ) → b ≤ a → nat_lt a b ≡ false
    not_less a b h = grind (arith, nat_tests, h)

    not_most : (a b : ℕ) → b < a → nat_le a b ≡ false
    not_most a b h = grind (arith, nat_tests, h)

-- the machine's test of an entry is that of the definition
entry_test : (P : Program) (code memory : List ℕ) (type : ℕ) (k : Kind) (pc jpc : ℕ) (h : Handler) → HasType P memory type k → Inside code pc jpc → IsEntry P code h
    → table.catches memory type jpc (entry_of P h) ≡ steps.catches P k pc h
entry_test P code memory type k pc jpc h has inside e =
    let start : nat_lt ((h.start * 2 ^ 16 + h.end) / 2 ^ 16) jpc ≡ nat_le h.start pc = ap (λ (i : ℕ). nat_lt i jpc) (high_half h.start h.end e.end) ∙ begins_before code pc jpc h.start inside e.begins in
    let end : nat_le jpc ((h.start * 2 ^ 16 + h.end) % 2 ^ 16) ≡ nat_lt pc h.end = ap (λ (i : ℕ). nat_le jpc i) (low_half h.start h.end e.end) ∙ ends_behind code pc jpc h.end inside e.ends in
    let caught = type_test P memory type k has h.caught e.caught in
    let test : Bool → Bool → Bool → Bool = λ a b c. a && (b && c) in
    (λ i. test (start i) (end i) (caught i)) ∙ grouped (nat_le h.start pc) (nat_lt pc h.end) (elim h.caught [ None ↦ true | Some l ↦ is_of P k l ])
  where
    grouped : (a b c : Bool) → (a && (b && c)) ≡ ((a && b) && c)
    grouped true b c = refl
    grouped false b c = refl

-- so the first entry that catches the object is the first handler that does
pub handler_is : (P : Program) (code memory : List ℕ) (type : ℕ) (k : Kind) (pc jpc : ℕ) (hs : List Handler) → HasType P memory type k → Inside code pc jpc → All (IsEntry P code) hs
    → target_for memory type jpc (entries_of P hs) ≡ steps.handler_for P k pc hs
handler_is P code memory type k pc jpc [] has inside all = refl
handler_is P code memory type k pc jpc (h ∷ hs) has inside all =
    let first = entry_test P code memory type k pc jpc h has inside (all 0 h (omega arith)) in
    let rest = handler_is P code memory type k pc jpc hs has inside (λ j d l. all (suc j) d (omega (arith, l))) in
    let pick : Bool → Option ℕ → Option ℕ = λ b o. if b then Some h.target else o in
    λ i. pick (first i) (rest i)

-- ---- the table in memory

-- the words from a place on are those of the entries
pub entries_are : (P : Program) (code memory : List ℕ) (type : ℕ) (k : Kind) (place : ℕ) (hs : List Handler) (rest : List ℕ) → HasType P memory type k → All (IsEntry P code) hs
    → ((j : ℕ) → j < 3 * length hs → slice_index memory (place + j) ≡ slice_index (flat_map (handler_words P) hs ++ rest) j) → AreEntries memory type place (entries_of P hs)
entries_are P code memory type k place [] rest has all read = tt
entries_are P code memory type k place (h ∷ hs) rest has all read =
    let e = all 0 h (omega arith) in
    let start = e.start in
    let end = e.end in
    let r0 = read 0 (omega arith) in
    let r1 = read 1 (omega arith) in
    let r2 = read 2 (omega arith) in (
      record {
        range = ap (λ (i : ℕ). slice_index memory i) (sym (add-zero place)) ∙ r0;
        target = r1;
        type_is = r2;
        small = omega arith;
        number = (numbered h.caught e.caught).0;
        bit = (numbered h.caught e.caught).1;
      },
      entries_are P code memory type k (place + 3) hs rest has (λ j d l. all (suc j) d (omega (arith, l)))
          (λ j l. let at : place + 3 + j ≡ place + (3 + j) = omega arith in
          ap (λ (i : ℕ). slice_index memory i) at ∙ read (3 + j) (omega (arith, l)) ∙ sym (get_or-drop 3 (flat_map (handler_words P) (h ∷ hs) ++ rest) j 0)),
    )
  where
    numbered : (caught : Option Kind) → IfSome caught (λ l. IsSome (type_number P l)) → (counted_type P caught < 2 ^ 32) × (0 < counted_type P caught → type + 5 + (counted_type P caught - 1) / 32 < 2 ^ 32)
    numbered None there = (omega arith, λ some. absurd (omega (arith, some)))
    numbered (Some l) there =
        let t = is_there (type_number P l) there in
        let number = number_of_kind P.types l t.0 t.1 in
        let bit = has.bits t.0 l number.0 in
        let few = has.few in
        let counted : counted_type P (Some l) ≡ t.0 + 1 = ap (λ o. elim o [ None ↦ 0 | Some u ↦ u + 1 ]) t.1 in
        let back : counted_type P (Some l) - 1 ≡ t.0 = omega (arith, counted) in
        (omega (arith, counted, number.1, few), λ some. subst (λ (i : ℕ). type + 5 + i / 32 < 2 ^ 32) (sym back) bit.1)

-- ---- the record of the method

-- what is read of the method's exception table
pub record HasHandlers (P : Program) (memory : List ℕ) (method type : ℕ) (b : Body) : Type 0 where
  pub count : slice_index memory (method + 3) ≡ length b.handlers
  pub are : AreEntries memory type (method + 4) (entries_of P b.handlers)
  pub small : method + 4 + 3 * length b.handlers < 2 ^ 32

handlers_long : (P : Program) (hs : List Handler) → length (flat_map (handler_words P) hs) ≡ 3 * length hs
handlers_long P [] = refl
handlers_long P (h ∷ hs) = omega (arith, length-append (handler_words P h) (flat_map (handler_words P) hs), handlers_long P hs)

pub has_handlers : TableLaws → (P : Program) (pl : Places) (n size : ℕ) (m : machine.MachineState) (s : State) (j : ℕ) (k : Method) (b : Body) (type : ℕ) (kind : Kind) → StandsFor P pl n size m s
    → IsWellFormed P (limits_of P pl n size) s → SaysMethod P pl j k b → HasType P m.port.words type kind → 0 < length b.code → HasHandlers P m.port.words (pl.method j) type b
has_handlers laws P pl n size m s j k b type kind st well said has some =
    let words = method_words P pl k b in
    let hs = flat_map (handler_words P) b.handlers in
    let many = handlers_long P b.handlers in
    let long : length words ≡ 4 + (length hs + length (words_of_bytes b.code)) = omega (arith, length-append hs (words_of_bytes b.code)) in
    let read = λ (i : ℕ) (within : i < length words). laws.fixed P pl n size m s (pl.method j) words i st well said.words within in
    let three = read 3 (omega (arith, long)) in
    let small = st.sizes.small in
    record {
      count = three.1;
      are = entries_are P b.code m.port.words type kind (pl.method j + 4) b.handlers (words_of_bytes b.code) has said.entries
          (λ i l. let at : pl.method j + 4 + i ≡ pl.method j + (4 + i) = omega arith in
          ap (λ (w : ℕ). slice_index m.port.words w) at ∙ (read (4 + i) (omega (arith, long, many, l))).1 ∙ sym (get_or-drop 4 words i 0));
      small = last b.handlers refl;
    }
  where
    last : (hs : List Handler) → b.handlers ≡ hs → pl.method j + 4 + 3 * length b.handlers < 2 ^ 32
    last [] e = let words = method_words P pl k b in
        let long : length words ≡ 4 + (length (flat_map (handler_words P) b.handlers) + length (words_of_bytes b.code)) = omega (arith, length-append (flat_map (handler_words P) b.handlers) (words_of_bytes b.code)) in
        let read = laws.fixed P pl n size m s (pl.method j) words 3 st well said.words (omega (arith, long)) in
        omega (arith, read.0, st.sizes.small, ap (λ (hs : List Handler). length hs) e)
    last (h ∷ hs) e = let words = method_words P pl k b in
        let long : length words ≡ 4 + (length (flat_map (handler_words P) b.handlers) + length (words_of_bytes b.code)) = omega (arith, length-append (flat_map (handler_words P) b.handlers) (words_of_bytes b.code)) in
        let many = handlers_long P b.handlers in
        let some : length b.handlers ≡ suc (length hs) = ap (λ (hs : List Handler). length hs) e in
        let read = laws.fixed P pl n size m s (pl.method j) words (3 + 3 * length b.handlers) st well said.words (omega (arith, long, many, some)) in
        omega (arith, read.0, st.sizes.small)
