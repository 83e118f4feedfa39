-- A machine that stands for a running state, seen as a sketch.
use Rattle.std.proofs.Common.{◌≡◌, ℕ, ◌+◌, ◌-◌, ◌≤◌, List, [], ◌∷◌, ◌++◌, length, take, drop, reverse, min, refl, sym, ◌∙◌, ap, subst, arith, append_assoc, length-append, length-take, length-drop, take-add, drop-drop}
use Rattle.std.specs.declared.option.Option.{Option}
use Rattle.std.proofs.lemmas.List.{append-nil, reverse-append, reverse-reverse}
use Rattle.micro_flow.specs.declared.CostParams.{CostParams}
use Rattle.microcode.specs.declared.TheConstants.{CONSTANTS as NUMBERS}
use Rattle.jop_core.specs.declared.places.TheConstants.{CONSTANTS, STACK}
use Rattle.jop_core.specs.State as machine
use Rattle.micro_sketch.specs.Stands.{constants}
use Rattle.micro_sketch.specs.View.{moving}
use Rattle.micro_sketch.specs.Row.{SeenAtOpcode}
use Rattle.bytecode_model.specs.declared.Ending.{Ending}
use Rattle.bytecode_model.specs.declared.Ending.TheVariants.{Running}
use Rattle.bytecode_model.specs.State.{Frame, State}
use Rattle.bytecode_model.specs.Program.{Program, Body}
use Rattle.bytecode_model.specs.Sizes.{frames_words}
use Rattle.bytecode_model.specs.WellFormed as formed
use Rattle.bytecode_model.specs.WellFormed.{IsWellFormed}
use Rattle.image_facts.specs.Places.{Places, object_place}
use Rattle.machine_stands.specs.Frames.{stacked}
use Rattle.machine_stands.specs.StandsFor.{StandsFor, AreLeftWords, IsAt, IsAtInstruction, limits_of, stack_words}
use Rattle.machine_stands.specs.Seen.{IsSeen}
use Rattle.machine_stands.proofs.Counting.{saved_count, frame_count, frames_count}

-- ---- lists

pub parts_same : (xs us ys vs : List ℕ) → xs ++ ys ≡ us ++ vs → length xs ≡ length us → (xs ≡ us) × (ys ≡ vs)
parts_same [] [] ys vs e h = (refl, e)
parts_same [] (u ∷ us) ys vs e h = absurd (omega (arith, h))
parts_same (x ∷ xs) [] ys vs e h = absurd (omega (arith, h))
parts_same (x ∷ xs) (u ∷ us) ys vs e h =
    let r = parts_same xs us ys vs (tails x u (xs ++ ys) (us ++ vs) e) (omega (arith, h)) in
    (ap (λ (z : ℕ). z ∷ xs) (heads x u (xs ++ ys) (us ++ vs) e) ∙ ap (λ (zs : List ℕ). u ∷ zs) r.0, r.1)
  where
    heads : (x u : ℕ) (xs us : List ℕ) → x ∷ xs ≡ u ∷ us → x ≡ u
    heads x u xs us e = cc

    tails : (x u : ℕ) (xs us : List ℕ) → x ∷ xs ≡ u ∷ us → xs ≡ us
    tails x u xs us e = cc

-- the words of a stack, of which the lower ones are these
pub stack_split : (words lower upper : List ℕ) (b a d u : ℕ) → take (d + u) words ++ b ∷ a ∷ [] ≡ lower ++ upper → length lower ≡ d → d + u ≤ length words
    → (take d words ≡ lower) × (take u (drop d words) ++ b ∷ a ∷ [] ≡ upper)
stack_split words lower upper b a d u e h room =
    let count : length (take d words) ≡ length lower = simp length-take (omega (arith, h)) in
    parts_same (take d words) lower (take u (drop d words) ++ b ∷ a ∷ []) upper
    (sym (append_assoc (take d words) (take u (drop d words)) (b ∷ a ∷ [])) ∙ ap (λ (ws : List ℕ). ws ++ b ∷ a ∷ []) (sym (take-add d u words)) ∙ e) count

-- ---- the stack

pub none_left : (mode : Ending) (b : Body) (left : List ℕ) → mode ≡ Running → AreLeftWords mode b left → left ≡ []
none_left mode b left e h = subst (λ x. AreLeftWords x b left) e h

pub at_instruction : (P : Program) (pl : Places) (m : machine.MachineState) (s : State) (f : Frame) (b : Body) (mode : Ending) → mode ≡ Running → IsAt P pl m s f b mode → IsAtInstruction pl m f b
at_instruction P pl m s f b mode e h = subst (λ x. IsAt P pl m s f b x) e h

-- how many words the stack has
pub record Sized (P : Program) (pl : Places) (n size : ℕ) (m : machine.MachineState) (s : State) (st : StandsFor P pl n size m s) : Type 0 where
  pub most : length (stacked (st.words ∷ st.below)) ≤ n - 80
  pub count : length (stacked (st.words ∷ st.below)) ≡ length (stacked st.below) + length st.words.locals + 5 + length st.words.operands

pub sized : (P : Program) (pl : Places) (n size : ℕ) (m : machine.MachineState) (s : State) (st : StandsFor P pl n size m s) → IsWellFormed P (limits_of P pl n size) s → Sized P pl n size m s st
sized P pl n size m s st h =
    let all = frames_count P pl (object_place P pl s.objects) (length s.objects) (st.top ∷ st.callers) (st.words ∷ st.below) st.are_frames
    (subst (λ (fs : List Frame). formed.AreFrames P (length s.objects) fs) st.frames h.frames) in
    record {
      most = omega (arith, all, ap (frames_words P) st.frames, h.frame_sum);
      count = frame_count st.words st.below (saved_count P pl st.callers st.below st.words.saved st.are_frames.0.saved);
    }

-- SP, where the words of the stack are these
pub sp_is : (m : machine.MachineState) (n : ℕ) (words : List ℕ) → stack_words m ≡ words → length m.stack ≡ n → 5 ≤ length words → length words ≤ n - 80 → m.sp ≡ length words + 61
sp_is m n words e h low high =
    let count : length (take (m.sp + 1 - STACK) (drop STACK m.stack)) + 2 ≡ length words = omega (arith, length-append (take (m.sp + 1 - STACK) (drop STACK m.stack)) (m.b ∷ m.a ∷ []), ap length e) in
    let taken : length (take (m.sp + 1 - STACK) (drop STACK m.stack)) ≡ min (m.sp + 1 - STACK) (n - STACK) =
    length-take (m.sp + 1 - STACK) (drop STACK m.stack) ∙ ap (λ (k : ℕ). min (m.sp + 1 - STACK) k) (length-drop STACK m.stack ∙ ap (λ (k : ℕ). k - STACK) h) in
    omega (arith, count, taken, low, high)

-- ---- the machine as a sketch

constants_are : (stack : List ℕ) → take 32 (drop CONSTANTS stack) ≡ NUMBERS → take 32 (drop 32 stack) ≡ constants
unfolding constants
constants_are stack h = h

moving_is : (m : machine.MachineState) → moving m ≡ drop STACK m.stack
moving_is m = drop-drop 32 32 m.stack

-- the words from A down, of a stack that ends so
topmost : (words saved operands : List ℕ) (b a : ℕ) → words ++ b ∷ a ∷ [] ≡ saved ++ reverse operands → a ∷ b ∷ reverse words ≡ operands ++ reverse saved
topmost words saved operands b a e =
    sym (reverse-append words (b ∷ a ∷ [])) ∙ ap reverse e ∙ reverse-append saved (reverse operands) ∙ ap (λ (ws : List ℕ). ws ++ reverse saved) (reverse-reverse operands)

pub machine_is_seen : SeenAtOpcode → (P : Program) (pl : Places) (n size : ℕ) (m : machine.MachineState) (s : State) (p : CostParams) (answers : List (Option ℕ)) (st : StandsFor P pl n size m s)
    → IsWellFormed P (limits_of P pl n size) s → s.mode ≡ Running → p.r ≡ m.port.read → p.w ≡ m.port.write → IsSeen n p answers m st.words st.below
machine_is_seen law P pl n size m s p answers st h mode r w =
    let words = stacked (st.words ∷ st.below) in
    let lower = stacked st.below ++ st.words.locals in
    let upper = st.words.saved ++ reverse st.words.operands in
    let d = length (stacked st.below) + length st.words.locals in
    let u = length st.words.operands + 3 in
    let here = sized P pl n size m s st h in
    let at = at_instruction P pl m s st.top st.body s.mode mode st.at in
    let stack : stack_words m ≡ words = st.stack ∙ ap (λ (ws : List ℕ). words ++ ws) (none_left s.mode st.body st.left mode st.are_left) ∙ append-nil words in
    let count = here.count in
    let most = here.most in
    let sp : m.sp ≡ length words + 61 = sp_is m n words stack st.sizes.stack (omega (arith, count)) most in
    let split : take (d + u) (moving m) ++ m.b ∷ m.a ∷ [] ≡ lower ++ upper =
    ap (λ (ws : List ℕ). take (d + u) ws ++ m.b ∷ m.a ∷ []) (moving_is m)
    ∙ ap (λ (k : ℕ). take k (drop STACK m.stack) ++ m.b ∷ m.a ∷ []) (let k : d + u ≡ m.sp + 1 - STACK = omega (arith, count, sp) in k)
    ∙ stack ∙ sym (append_assoc (stacked st.below) st.words.locals upper) in
    let long : length (moving m) ≡ n - 64 = ap length (moving_is m) ∙ length-drop STACK m.stack ∙ ap (λ (k : ℕ). k - 64) st.sizes.stack in
    let parts = stack_split (moving m) lower upper m.b m.a d u split (length-append (stacked st.below) st.words.locals) (omega (arith, count, most, long)) in
    record {
      stands = law n d u p m.opcode answers m (record {
        viewable = record {
          words = st.sizes.stack;
          room = omega (arith, count, most);
          sp = omega (arith, count, sp);
          stall = st.stall;
          ar = st.sizes.ar;
          constants_in = constants_are m.stack st.registers.constants;
        };
        under = omega arith;
        above = omega (arith, count, most);
        opcode = refl;
        mpc = at.mpc;
        operand = at.operand;
        running = at.running;
        idle = st.idle;
        read = r;
        write = w;
      });
      words = topmost (take u (drop d (moving m))) st.words.saved st.words.operands m.b m.a parts.1;
      deep = parts.0;
    }
