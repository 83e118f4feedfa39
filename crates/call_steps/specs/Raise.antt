-- What a step of the raise routine makes of the words of the top frame (JVM Specification SE 8, 2.10 and 4.7.3).
use Rattle.std.specs.Prelude.{ℕ, ◌≡◌, ◌+◌, ◌-◌, ◌*◌, ◌/◌, ◌%◌, ◌^◌, ◌<◌, ◌≤◌, ◌==◌, ◌&&◌, ◌||◌, Bool, true, false, nat_lt, nat_le, if◌then◌else◌, List, []}
use Rattle.std.specs.Prelude.{◌∷◌, ◌++◌, length, reverse, drop, Option, Some, None, slice_index}
use Rattle.microcode.specs.declared.TheConstants.{RAISE}
use Rattle.microcode.specs.declared.addresses.TheConstants.{HANDLER_FOUND, END}
use Rattle.jop_core.specs.declared.halt.Halt.TheVariants.{Running, Uncaught}
use Rattle.jop_core.specs.declared.places.TheConstants.{METHOD, FRAME_SUM, RAISED, STACK}
use Rattle.micro_sketch.specs.Sketch.{Sketch, can_find}
use Rattle.micro_sketch.specs.Stands.{Env, Shaped, Reaches, IsDone}
use Rattle.micro_sketch.specs.Row.{words_of}
use Rattle.micro_sketch.specs.Rows.{Switch, Switches, Halts}
use Rattle.call_steps.specs.Method.{max_locals, frame_words, with_method, looked_up, as_it_stands}
use Rattle.call_steps.specs.Returns.{Saved, saved_words}

-- ---- the exception table

-- an entry as it lies in memory: the two halves of its range, its handler, and the number of the type that it catches and one, or 0 for any
pub record Entry : Type 0 where
  pub range : ℕ
  pub target : ℕ
  pub type : ℕ

-- whether the type of this number is one that the type at a place is, or a supertype of it
abbrev pub is_supertype : (memory : List ℕ) → (type number : ℕ) → Bool
is_supertype memory type number = nat_lt 0 (slice_index memory (type + 5 + number / 32) / 2 ^ (number % 32) % 2)

-- The entry covers the byte before jpc, and catches objects of the type at a place.
abbrev pub catches : (memory : List ℕ) → (type jpc : ℕ) → Entry → Bool
catches memory type jpc e = nat_lt (e.range / 2 ^ 16) jpc && (nat_le jpc (e.range % 2 ^ 16) && (e.type == 0 || is_supertype memory type (e.type - 1)))

-- the handler of the first entry that does
abbrev pub target_for : (memory : List ℕ) → (type jpc : ℕ) → List Entry → Option ℕ
target_for memory type jpc [] = None
target_for memory type jpc (e ∷ es) = if catches memory type jpc e then Some e.target else target_for memory type jpc es

-- what is read of an entry: its type's bit lies at the place of a word
pub record IsEntry (memory : List ℕ) (type place : ℕ) (e : Entry) : Type 0 where
  pub range : slice_index memory place ≡ e.range
  pub target : slice_index memory (place + 1) ≡ e.target
  pub type_is : slice_index memory (place + 2) ≡ e.type
  pub small : e.range < 2 ^ 32
  pub number : e.type < 2 ^ 32
  pub bit : 0 < e.type → type + 5 + (e.type - 1) / 32 < 2 ^ 32

-- the entries lie one behind another, three words each
abbrev pub AreEntries : (memory : List ℕ) → (type place : ℕ) → List Entry → Type 0
AreEntries memory type place [] = Unit {0}
AreEntries memory type place (e ∷ es) = IsEntry memory type place e × AreEntries memory type (place + 3) es

-- ---- where the routine begins

-- the sketch is at the raise routine, with nothing under way and room on its stack
pub record IsRaising (n : ℕ) (x : Sketch) (e : Env) : Type 0 where
  pub shape : Shaped n x
  pub mpc : x.mpc ≡ RAISE
  pub going : x.done ≡ false
  pub running : x.halt ≡ Running
  pub fine : x.fine ≡ true
  pub free : x.busy ≡ false
  pub idle : e.port ≡ 0
  pub loads : x.loads ≡ 0
  pub loaded : x.words ≡ 0
  pub silent : x.output ≡ []
  pub above : 3 ≤ length x.above

-- the place of the current method, and that of the object's type
abbrev pub method_of : Sketch → ℕ
method_of x = slice_index x.low METHOD

abbrev pub type_of : Sketch → ℕ
type_of x = slice_index x.memory (slice_index x.low RAISED)

-- the exception table of the method, which may be gone through
pub record HasTable (x : Sketch) : Type 0 where
  pub entries : List Entry
  pub count : slice_index x.memory (method_of x + 3) ≡ length entries
  pub are : AreEntries x.memory (type_of x) (method_of x + 4) entries
  pub small : method_of x + 4 + 3 * length entries < 2 ^ 32
  pub jpc : x.jpc < 2 ^ 16
  pub turns : length entries ≤ x.left (HANDLER_FOUND - 1)

abbrev pub handler_of : (x : Sketch) → HasTable x → Option ℕ
handler_of x t = target_for x.memory (type_of x) x.jpc t.entries

-- ---- a handler

-- what the frame has below its operands: local variables, and the five words that it saves
pub record HasFrame (n : ℕ) (x : Sketch) : Type 0 where
  pub below : List ℕ
  pub locals : List ℕ
  pub left : List ℕ
  pub saved : Saved
  pub deep : x.deep ≡ below ++ locals
  pub stack : words_of x ≡ left ++ saved_words saved
  pub vp : x.vp ≡ STACK + length below
  pub locals_count : length locals ≡ max_locals x.memory (method_of x)
  pub place : x.vp + length locals + 4 < 2 ^ 32
  pub found : can_find x (method_of x) ≡ true

-- the method goes on at its handler, with the object alone on its stack
abbrev pub handle : (n : ℕ) (x : Sketch) (target : ℕ) → HasFrame n x → Switch
handle n x target c = looked_up x (method_of x) (record (as_it_stands x) { words = slice_index x.low RAISED ∷ saved_words c.saved; jpc = target })

pub record Handled (n : ℕ) (x : Sketch) (e : Env) (target : ℕ) (c : HasFrame n x) : Type 0 where
  pub after : Sketch
  pub reaches : Reaches n x after e
  pub done : IsDone after
  pub switches : Switches (handle n x target c) x after

abbrev pub HandlersRun : Type 0
HandlersRun = (n : ℕ) (x : Sketch) (e : Env) (target : ℕ) → IsRaising n x e → (t : HasTable x) → (c : HasFrame n x) → handler_of x t ≡ Some target
    → target < 2 ^ 16 → Handled n x e target c

-- ---- none

-- The caller's frame has these words on its stack, the top one first, and these below them.
pub record HasCaller (n : ℕ) (x : Sketch) (c : HasFrame n x) : Type 0 where
  pub lower : List ℕ
  pub words : List ℕ
  pub is : c.below ≡ lower ++ reverse words
  pub some : 5 ≤ length words
  pub saved_sp : c.saved.sp + 3 ≡ x.vp
  pub saved_jpc : c.saved.jpc < 2 ^ 16
  pub from : STACK ≤ c.saved.vp
  pub to : c.saved.vp ≤ STACK + length lower
  pub sum : frame_words x.memory (method_of x) ≤ slice_index x.low FRAME_SUM
  pub sums : slice_index x.low FRAME_SUM < 2 ^ 32
  pub turn : 0 < x.left (END - 1)

-- y is x at the raise routine again, where the caller's frame is the top one
pub record Drops (n : ℕ) (x : Sketch) (c : HasFrame n x) (d : HasCaller n x c) (y : Sketch) : Type 0 where
  pub mpc : y.mpc ≡ RAISE
  pub running : y.halt ≡ Running
  pub words : words_of y ≡ d.words
  pub deep : y.deep ≡ d.lower
  pub low : drop 24 y.low ≡ with_method c.saved.pool c.saved.method (slice_index x.low FRAME_SUM - frame_words x.memory (method_of x)) (drop 24 x.low)
  pub memory : y.memory ≡ x.memory
  pub vp : y.vp ≡ c.saved.vp
  pub jpc : y.jpc ≡ c.saved.jpc
  pub cache : y.cache ≡ x.cache
  pub hits : y.hits ≡ x.hits
  pub misses : y.misses ≡ x.misses
  pub loads : y.loads ≡ 0
  pub loaded : y.words ≡ 0
  pub answers : y.answers ≡ x.answers
  pub output : y.output ≡ []

pub record Dropped (n : ℕ) (x : Sketch) (e : Env) (c : HasFrame n x) (d : HasCaller n x c) : Type 0 where
  pub after : Sketch
  pub reaches : Reaches n x after e
  pub done : IsDone after
  pub drops : Drops n x c d after

abbrev pub FramesDrop : Type 0
FramesDrop = (n : ℕ) (x : Sketch) (e : Env) → IsRaising n x e → (t : HasTable x) → (c : HasFrame n x) → (d : HasCaller n x c) → handler_of x t ≡ None
    → Dropped n x e c d

-- boot's frame is the last one, and the machine halts
pub record Stopped (n : ℕ) (x : Sketch) (e : Env) : Type 0 where
  pub after : Sketch
  pub reaches : Reaches n x after e
  pub done : IsDone after
  pub halts : Halts Uncaught x after

abbrev pub LastStops : Type 0
LastStops = (n : ℕ) (x : Sketch) (e : Env) → IsRaising n x e → (t : HasTable x) → x.vp ≡ STACK → handler_of x t ≡ None → Stopped n x e
