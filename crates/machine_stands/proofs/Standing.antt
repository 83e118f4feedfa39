-- A machine stands again, after a row that stays in its frame.
use Rattle.std.proofs.Common.{◌≡◌, ℕ, ◌+◌, ◌-◌, ◌/◌, ◌%◌, ◌^◌, ◌<◌, ◌≤◌, true, List, [], ◌∷◌, ◌++◌, Option, Some, length, take, drop, reverse, refl, sym, ◌∙◌, ap, subst, arith, append_assoc, length-append, ⊎_elim}
use Rattle.std.specs.Prelude.{slice_index, IfSome, All}
use mathlib.Core.List.{reverse_aux, reverse_aux-eq}
use Rattle.std.proofs.Math.Nat.{mod-eq_of_lt, mod-lt}
use Rattle.std.proofs.Math.Seq.{take-append-add, drop-append_seam, take-append_seam}
use Rattle.std.proofs.lemmas.List.{reverse-append, reverse-reverse, length-reverse}
use Rattle.lists.proofs.Lemmas.{holds_at}
use Rattle.machine_memory.specs.Stack.Size.{IsSize}
use Rattle.microcode.specs.declared.TheConstants.{CONSTANTS as NUMBERS}
use Rattle.machine_memory.specs.declared.timing.TheConstants.{MAX_MEMORY}
use Rattle.base.specs.Packed.{PackedHasBytes}
use Rattle.method_cache.specs.Contents.{Cache, IsCache, is_cached, word_of}
use Rattle.micro_flow.specs.declared.CostParams.{CostParams}
use Rattle.opcodes.specs.Start.{AreStarts}
use Rattle.jop_core.specs.declared.places.TheConstants.{CONSTANTS, STACK}
use Rattle.jop_core.specs.State as machine
use Rattle.jop_core.specs.Cycle.{byte_of}
use Rattle.micro_sketch.specs.Sketch.{Sketch}
use Rattle.micro_sketch.specs.Stands.{Env, Shaped, conc, stack_of, sp_of, constants}
use Rattle.micro_sketch.specs.View.{env_of}
use Rattle.micro_sketch.specs.Row.{Effect, DidRow, words_of}
use Rattle.micro_sketch.specs.RowLaws.{StackHasWords}
use Rattle.bytecode_model.specs.declared.Ending.{Ending}
use Rattle.bytecode_model.specs.declared.Ending.TheVariants.{Running}
use Rattle.bytecode_model.specs.State.{Frame, State}
use Rattle.bytecode_model.specs.Program.{Program, Body, body_of}
use Rattle.bytecode_model.specs.WellFormed as formed
use Rattle.bytecode_model.specs.WellFormed.{IsWellFormed}
use Rattle.image_facts.specs.Places.{Places, object_place}
use Rattle.image_facts.specs.Says.{Says, IsCode}
use Rattle.machine_stands.specs.Frames.{FrameWords, stacked, vp_over, AreWordsOfFrames, Saves}
use Rattle.machine_stands.specs.StandsFor.{StandsFor, HasRoom, HasRegisters, AreLeftWords, IsAt, IsAtInstruction, IsCopy, limits_of, stack_words, memory_of}
use Rattle.machine_stands.specs.Seen.{seen}
use Rattle.machine_stands.specs.Again.{GoesOn, registers_of}
use Rattle.machine_stands.proofs.Seeing.{at_instruction}
use Rattle.machine_stands.proofs.Copies.{byte_is}
use Rattle.machine_stands.proofs.Registers.{low_at}

-- ---- what holds of starts, packed bytes and sketches

pub record StandingLaws : Type 0 where
  pub starts : (code : List ℕ) → AreStarts code
  pub bytes : PackedHasBytes
  pub words : StackHasWords

-- ---- the stack of a sketch

pub least_size : (n : ℕ) → IsSize n → 256 ≤ n
least_size n h = ⊎_elim (λ is. omega (arith, is)) (λ larger. ⊎_elim (λ is. omega (arith, is)) (λ is. omega (arith, is)) larger) h

pub greatest_size : (n : ℕ) → IsSize n → n ≤ 1024
greatest_size n h = ⊎_elim (λ is. omega (arith, is)) (λ larger. ⊎_elim (λ is. omega (arith, is)) (λ is. omega (arith, is)) larger) h

length_constants : length constants ≡ 32
unfolding constants
length_constants = refl

numbers : constants ≡ NUMBERS
unfolding constants
numbers = refl

above_constants : (low deep rest : List ℕ) → length low ≡ 32 → drop 64 ((low ++ (constants ++ deep)) ++ rest) ≡ deep ++ rest
above_constants low deep rest h =
    let front : length (low ++ constants) ≡ 64 = omega (arith, length-append low constants, length_constants, h) in
    ap (drop 64) (append_assoc low (constants ++ deep) rest ∙ ap (λ (ws : List ℕ). low ++ ws) (append_assoc constants deep rest) ∙ sym (append_assoc low constants (deep ++ rest)))
    ∙ ap (λ (k : ℕ). drop k ((low ++ constants) ++ (deep ++ rest))) (sym front) ∙ drop-append_seam (low ++ constants) (deep ++ rest)

constants_there : (low deep rest : List ℕ) → length low ≡ 32 → take 32 (drop CONSTANTS ((low ++ (constants ++ deep)) ++ rest)) ≡ NUMBERS
constants_there low deep rest h =
    ap (λ (ws : List ℕ). take 32 (drop 32 ws)) (append_assoc low (constants ++ deep) rest)
    ∙ ap (λ (k : ℕ). take 32 (drop k (low ++ ((constants ++ deep) ++ rest)))) (sym h)
    ∙ ap (take 32) (drop-append_seam low ((constants ++ deep) ++ rest) ∙ append_assoc constants deep rest)
    ∙ ap (λ (k : ℕ). take k (constants ++ (deep ++ rest))) (sym length_constants) ∙ take-append_seam constants (deep ++ rest) ∙ numbers

-- the words of the stack are those of the sketch
pub stack_is : (n : ℕ) (x : Sketch) (e : Env) → Shaped n x → stack_words (conc n x e) ≡ x.deep ++ reverse (words_of x)
stack_is n x e h =
    let up = reverse_aux x.under x.above in
    let rest : up ≡ reverse x.under ++ x.above = reverse_aux-eq x.under x.above in
    let k : sp_of x + 1 - STACK ≡ length x.deep + length x.under = omega arith in
    let taken : take (sp_of x + 1 - STACK) (drop STACK (stack_of x)) ≡ x.deep ++ reverse x.under =
    ap (λ (ws : List ℕ). take (sp_of x + 1 - STACK) ws) (above_constants x.low x.deep up h.low)
    ∙ ap (λ (j : ℕ). take j (x.deep ++ up)) k ∙ take-append-add x.deep up (length x.under)
    ∙ ap (λ (ws : List ℕ). x.deep ++ take (length x.under) ws) rest
    ∙ ap (λ (j : ℕ). x.deep ++ take j (reverse x.under ++ x.above)) (sym (length-reverse x.under))
    ∙ ap (λ (ws : List ℕ). x.deep ++ ws) (take-append_seam (reverse x.under) x.above) in
    ap (λ (ws : List ℕ). ws ++ x.next ∷ x.top ∷ []) taken ∙ append_assoc x.deep (reverse x.under) (x.next ∷ x.top ∷ [])
    ∙ ap (λ (ws : List ℕ). x.deep ++ ws) (sym (reverse-append (x.top ∷ x.next ∷ []) x.under))

-- ---- its registers

-- the words of a list, one by one
eighth : (xs : List ℕ) (a b c d e f g h : ℕ) → xs ≡ a ∷ b ∷ c ∷ d ∷ e ∷ f ∷ g ∷ h ∷ [] → (k : ℕ) → slice_index xs k ≡ slice_index (a ∷ b ∷ c ∷ d ∷ e ∷ f ∷ g ∷ h ∷ []) k
eighth xs a b c d e f g h is k = ap (λ (ws : List ℕ). slice_index ws k) is

pub registers_are : (P : Program) (pl : Places) (n size : ℕ) (x : Sketch) (e : Env) (s : State) (f : Frame) (raised : ℕ) → Shaped n x → drop 24 x.low ≡ registers_of P pl n size s f raised
    → HasRegisters P pl n size (conc n x e) s f
registers_are P pl n size x e s f raised h low =
    let back = (constants ++ x.deep) ++ reverse_aux x.under x.above in
    let list = registers_of P pl n size s f raised in
    let whole : stack_of x ≡ x.low ++ back = append_assoc x.low (constants ++ x.deep) (reverse_aux x.under x.above) in
    let word : (k : ℕ) → k < 8 → slice_index (stack_of x) (24 + k) ≡ slice_index list k =
    λ k l. ap (λ (ws : List ℕ). slice_index ws (24 + k)) whole ∙ low_at x.low back k h.low l ∙ ap (λ (ws : List ℕ). slice_index ws k) low in
    record {
      pool = word 0 (omega arith);
      method = word 1 (omega arith);
      next_free = word 2 (omega arith);
      memory_end = word 3 (omega arith);
      frame_sum = word 4 (omega arith);
      frame_limit = word 5 (omega arith);
      raise_list = word 6 (omega arith);
      constants = constants_there x.low x.deep (reverse_aux x.under x.above) h.low;
    }

-- ---- all of it

-- what a sketch has to be, so that its machine stands for s'
pub record Pieces (P : Program) (pl : Places) (n size : ℕ) (s : State) (x : Sketch) (e : Env) : Type 0 where
  pub is_size : IsSize n
  pub shape : Shaped n x
  pub as_many : length x.memory ≡ size
  pub small : size < 2 ^ 32
  pub most : size ≤ MAX_MEMORY
  pub room : HasRoom P pl size x.cache
  pub idle : e.port ≡ 0
  pub top : Frame
  pub callers : List Frame
  pub frames : s.frames ≡ top ∷ callers
  pub body : Body
  pub is_body : body_of P top.method ≡ Some body
  pub words : FrameWords
  pub below : List FrameWords
  pub left : List ℕ
  pub are_frames : AreWordsOfFrames P pl (object_place P pl s.objects) (top ∷ callers) (words ∷ below)
  pub are_left : AreLeftWords s.mode body left
  pub stack : x.deep ++ reverse (words_of x) ≡ stacked (words ∷ below) ++ left
  pub vp : x.vp ≡ vp_over below
  pub raised : ℕ
  pub low : drop 24 x.low ≡ registers_of P pl n size s top raised
  pub memory : x.memory ≡ memory_of P pl size s
  pub cache : IsCache x.cache
  pub copies : All (IsCopy P pl) x.cache.contents
  pub at : IsAt P pl (conc n x e) s top body s.mode

pub stand_there : StackHasWords → (P : Program) (pl : Places) (n size : ℕ) (s : State) (x : Sketch) (e : Env) → Pieces P pl n size s x e → StandsFor P pl n size (conc n x e) s
stand_there count P pl n size s x e h = record {
  sizes = record { is_size = h.is_size; stack = count n x h.shape; ar = mod-lt x.ar (omega (arith, least_size n h.is_size)); memory = h.as_many; small = h.small; most = h.most };
  room = h.room;
  stall = refl;
  idle = h.idle;
  top = h.top;
  callers = h.callers;
  frames = h.frames;
  body = h.body;
  is_body = h.is_body;
  words = h.words;
  below = h.below;
  left = h.left;
  are_frames = h.are_frames;
  are_left = h.are_left;
  stack = stack_is n x e h.shape ∙ h.stack;
  vp = h.vp;
  registers = registers_are P pl n size x e s h.top h.raised h.shape h.low;
  memory = h.memory;
  cache = h.cache;
  copies = h.copies;
  at = h.at;
}

-- the cache of the machine, as another that is the same
abbrev pub HasCache : Program → Places → (size : ℕ) → Cache → Type 0
HasCache P pl size c = HasRoom P pl size c × IsCache c × All (IsCopy P pl) c.contents

pub same_cache : (P : Program) (pl : Places) (n size : ℕ) (m : machine.MachineState) (s : State) (c : Cache) → StandsFor P pl n size m s → c ≡ m.cache → HasCache P pl size c
same_cache P pl n size m s c st e = subst (λ (d : Cache). HasCache P pl size d) (sym e) (st.room, st.cache, st.copies)

-- the words of the stack, in the order of the frame, of which these are left
pub in_order : (lower locals saved operands left deep words : List ℕ) → deep ≡ lower ++ locals → words ≡ (left ++ operands) ++ reverse saved
    → deep ++ reverse words ≡ (lower ++ (locals ++ (saved ++ reverse operands))) ++ reverse left
in_order lower locals saved operands left deep words d w =
    ap (λ (ws : List ℕ). ws ++ reverse words) d ∙ ap (λ (ws : List ℕ). (lower ++ locals) ++ reverse ws) w
    ∙ ap (λ (ws : List ℕ). (lower ++ locals) ++ ws) (reverse-append (left ++ operands) (reverse saved) ∙ ap (λ (ws : List ℕ). ws ++ reverse (left ++ operands)) (reverse-reverse saved)
    ∙ ap (λ (ws : List ℕ). saved ++ ws) (reverse-append left operands))
    ∙ append_assoc lower locals (saved ++ (reverse operands ++ reverse left))
    ∙ ap (λ (ws : List ℕ). lower ++ (locals ++ ws)) (sym (append_assoc saved (reverse operands) (reverse left)))
    ∙ ap (λ (ws : List ℕ). lower ++ ws) (sym (append_assoc locals (saved ++ reverse operands) (reverse left)))
    ∙ sym (append_assoc lower (locals ++ (saved ++ reverse operands)) (reverse left))

pub stands_again : StandingLaws → (P : Program) (pl : Places) (n size : ℕ) (m new : machine.MachineState) (s s' : State) (st : StandsFor P pl n size m s) (p : CostParams) (answers : List (Option ℕ)) (f : Effect) (cycles : ℕ)
    → Says P pl → IsWellFormed P (limits_of P pl n size) s' → s.mode ≡ Running → GoesOn P pl n size m s s' st f
    → DidRow n p m.opcode f (seen p answers m st.words st.below) (env_of m) cycles new → StandsFor P pl n size new s'
stands_again laws P pl n size m new s s' st p answers f cycles says well mode g d =
    let x = d.after in
    let e = d.env in
    let here = at_instruction P pl m s st.top st.body s.mode mode st.at in
    let cache : x.cache ≡ m.cache = d.follows.kept.cache in
    let has = same_cache P pl n size m s x.cache st cache in
    let is_body : body_of P g.top.method ≡ Some st.body = ap (body_of P) g.method ∙ st.is_body in
    let frames = subst (λ (fs : List Frame). formed.AreFrames P (length s'.objects) fs) g.frames well.frames in
    let frame = holds_at (body_of P g.top.method) st.body (formed.IsFrame P (length s'.objects) g.top) is_body frames.0 in
    let within = (laws.starts st.body.code).within_code g.top.pc frame.start in
    let code = subst (λ o. IfSome o (λ (u : Body). IsCode u.code)) st.is_body (says.codes st.top.method) in
    let kept : is_cached (pl.method st.top.method) m.cache ≡ true = subst (λ (k : ℕ). is_cached k m.cache ≡ true) here.method here.cached in
    let at : IsAtInstruction pl (conc n x e) g.top st.body = record {
      running = d.follows.running;
      opcode = d.follows.opcode ∙ ap (λ (k : ℕ). byte_of (word_of m.method (k / 4) m.cache) (k % 4)) g.jpc
          ∙ ap (λ (k : ℕ). byte_of (word_of k (g.top.pc / 4) m.cache) (g.top.pc % 4)) here.method
          ∙ byte_is P pl m.cache st.top.method st.body g.top.pc laws.bytes says st.copies st.is_body kept;
      mpc = d.follows.mpc;
      jpc = d.follows.jpc ∙ ap (λ (k : ℕ). (k + 1) % 2 ^ 16) g.jpc ∙ mod-eq_of_lt (omega (arith, within, code.short));
      operand = d.follows.operand;
      method = d.follows.kept.method ∙ here.method ∙ ap pl.method (sym g.method);
      cached = ap (λ (k : ℕ). is_cached k x.cache) d.follows.kept.method ∙ ap (λ (c : Cache). is_cached m.method c) cache ∙ here.cached;
    } in
    subst (λ (y : machine.MachineState). StandsFor P pl n size y s') (sym d.same) (stand_there laws.words P pl n size s' x e (record {
      is_size = st.sizes.is_size;
      shape = d.shape;
      as_many = ap length d.follows.memory ∙ g.as_many ∙ st.sizes.memory;
      small = st.sizes.small;
      most = st.sizes.most;
      room = has.0;
      idle = d.idle;
      top = g.top;
      callers = st.callers;
      frames = g.frames;
      body = st.body;
      is_body = is_body;
      words = g.words;
      below = st.below;
      left = [];
      are_frames = (
        record {
          locals = g.locals;
          saved = subst (λ (ws : List ℕ). Saves P pl st.callers st.below ws) (sym g.saved) st.are_frames.0.saved;
          operands = g.operands;
        },
        g.callers,
      );
      are_left = subst (λ (md : Ending). AreLeftWords md st.body []) (sym g.mode) refl;
      stack = in_order (stacked st.below) g.words.locals g.words.saved g.words.operands [] x.deep (words_of x) (d.follows.deep ∙ g.deep) (d.follows.words ∙ g.stack);
      vp = d.follows.kept.vp ∙ st.vp;
      raised = g.raised;
      low = d.follows.low ∙ g.low;
      memory = d.follows.memory ∙ g.memory;
      cache = has.1;
      copies = has.2;
      at = subst (λ (md : Ending). IsAt P pl (conc n x e) s' g.top st.body md) (sym g.mode) at;
    }))
