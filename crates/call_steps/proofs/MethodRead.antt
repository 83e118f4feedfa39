-- The record of a method, in the memory of a machine that stands for a state.
use Rattle.std.proofs.Common.{◌≡◌, ℕ, ◌+◌, ◌*◌, ◌/◌, ◌%◌, ◌^◌, ◌<◌, ◌≤◌, ◌&&◌, Bool, true, List, [], ◌∷◌, ◌++◌, Option, Some, length, nat_le, refl, sym, ap, ◌∙◌, subst, arith, append-nil, length-append, add-zero}
use Rattle.std.specs.Prelude.{slice_get, slice_index, slice_range, IfSome, IsTrue}
use Rattle.std.specs.List.{flat_map}
use Rattle.std.proofs.lemmas.Bool.Decides.{nat_tests}
use Rattle.base.specs.Packed.{words_for, words_of_bytes, PackedHasWords}
use Rattle.method_cache.specs.Contents.{Cache, can_load}
use Rattle.jop_core.specs.State as machine
use Rattle.jop_core.specs.Operations.{code_words, code_place}
use Rattle.micro_sketch.specs.Sketch.{Sketch}
use Rattle.bytecode_model.specs.Lists.{onto}
use Rattle.bytecode_model.specs.State.{State}
use Rattle.bytecode_model.specs.Program.{Program, Method, Body, Handler, body_of}
use Rattle.bytecode_model.specs.WellFormed.{IsWellFormed}
use Rattle.image_facts.specs.Within.{LieAt}
use Rattle.image_facts.specs.Places.{Places, words_with}
use Rattle.image_facts.specs.Says as says
use Rattle.image_facts.specs.Says.{Says, SaysAll, SaysLinked, IsCode, method_words, handler_words}
use Rattle.image_facts.specs.Laws.{FixedWordsLie, ListsGoOn, LieThrough, RangesAreRead}
use Rattle.machine_memory.specs.Timing.Port.{padded}
use Rattle.machine_stands.specs.StandsFor.{StandsFor, limits_of}
use Rattle.machine_stands.specs.Fixed.{FixedWordsAreRead}
use Rattle.call_steps.specs.Coming.{IsRead, MethodsAreRead}

pub record ReadLaws : Type 0 where
  pub words : FixedWordsAreRead
  pub fixed : FixedWordsLie
  pub ahead : ListsGoOn
  pub through : LieThrough
  pub ranges : RangesAreRead
  pub packed : PackedHasWords

-- ---- numbers

high_half : (a b : ℕ) → b < 2 ^ 16 → (a * 2 ^ 16 + b) / 2 ^ 16 ≡ a
high_half a b h = omega arith

low_half : (a b : ℕ) → b < 2 ^ 16 → (a * 2 ^ 16 + b) % 2 ^ 16 ≡ b
low_half a b h = omega arith

both_halves : (a b : ℕ) → a < 2 ^ 16 → b < 2 ^ 16 → a * 2 ^ 16 + b < 2 ^ 32
both_halves a b h l = omega arith

few_words : (n : ℕ) → n < 2 ^ 16 → words_for n < 2 ^ 16
few_words n h = omega arith

at_most : (a b : ℕ) → a ≤ b → nat_le a b ≡ true
at_most a b h = grind (arith, nat_tests, h)

-- ---- words among others

handlers_long : (P : Program) (hs : List Handler) → length (flat_map (handler_words P) hs) ≡ 3 * length hs
handlers_long P [] = refl
handlers_long P (h ∷ hs) = omega (arith, length-append (handler_words P h) (flat_map (handler_words P) hs), handlers_long P hs)

code_lies : (w0 w1 w2 w3 : ℕ) (hs code : List ℕ) → LieAt (w0 ∷ w1 ∷ w2 ∷ w3 ∷ (hs ++ code)) (4 + length hs) code
code_lies w0 w1 w2 w3 hs code = record {
  before = w0 ∷ w1 ∷ w2 ∷ w3 ∷ hs;
  after = [];
  split = ap (λ (ws : List ℕ). w0 ∷ w1 ∷ w2 ∷ w3 ∷ (hs ++ ws)) (sym (append-nil code));
  place_is = omega arith;
}

ends_within : (whole : List ℕ) (place : ℕ) (words : List ℕ) → LieAt whole place words → place + length words ≤ length whole
ends_within whole place words l = omega (arith, ap length l.split, length-append l.before (words ++ l.after), length-append words l.after, l.place_is)

lie_padded : ListsGoOn → (size : ℕ) (whole : List ℕ) (place : ℕ) (words : List ℕ) → LieAt whole place words → LieAt (padded whole size) place words
lie_padded ahead size whole place words l =
    let d = ahead whole whole _ place words words (record { before = l.before; after = l.after; split = l.split; changed = l.split; place_is = l.place_is }) in
    record { before = d.before; after = d.after; split = d.split; place_is = d.place_is }

holds_for : {A : Type 0} (o : Option A) (x : A) (Q : A → Type 0) → o ≡ Some x → IfSome o Q → Q x
holds_for o x Q e h = subst (λ o. IfSome o Q) e h

both_tests : (a b : Bool) → a ≡ true → b ≡ true → (a && b) ≡ true
both_tests a b e h = ap (λ (t : Bool). t && b) e ∙ h

-- ---- the record

-- on a sketch with the memory and the cache of the machine
read_here : ReadLaws → (P : Program) (pl : Places) (n size : ℕ) (m : machine.MachineState) (s : State) (st : StandsFor P pl n size m s) (y : Sketch) → IsWellFormed P (limits_of P pl n size) s
    → Says P pl → SaysLinked P pl → (j : ℕ) (k : Method) (b : Body) → slice_get P.methods j ≡ Some k → k.body ≡ Some b → body_of P j ≡ Some b
    → IsRead P pl (record y { memory = m.port.words; cache = m.cache }) k b (pl.method j)
read_here laws P pl n size m s st y well says_all linked j k b method body body_is =
    let memory = m.port.words in
    let place = pl.method j in
    let said = linked.methods j k b method body in
    let code = holds_for (body_of P j) b (λ (u : Body). IsCode u.code) body_is (says_all.codes j) in
    let hs = flat_map (handler_words P) b.handlers in
    let cs = words_of_bytes b.code in
    let ws = method_words P pl k b in
    let read = λ (i : ℕ) (within : i < length ws). laws.words P pl n size m s place ws i st well said.words within in
    let r0 = read 0 (omega arith) in
    let r1 = read 1 (omega arith) in
    let r2 = read 2 (omega arith) in
    let r3 = read 3 (omega arith) in
    let first : slice_index memory place ≡ b.max_locals * 2 ^ 16 + b.max_stack = ap (λ (i : ℕ). slice_index memory i) (sym (add-zero place)) ∙ r0.1 in
    let few : words_for (length b.code) < 2 ^ 16 = few_words (length b.code) code.short in
    let count : code_words memory place ≡ length cs = ap (λ (w : ℕ). w % 2 ^ 16) r1.1 ∙ low_half (says.argument_words_of k) (words_for (length b.code)) few ∙ sym (laws.packed b.code) in
    let lies : LieAt memory place ws =
    subst (λ (zs : List ℕ). LieAt zs place ws) (sym st.memory)
    (lie_padded laws.ahead size (words_with P pl s.statics s.objects) place ws (laws.fixed P pl s.statics s.objects place ws well.statics said.words)) in
    let there : LieAt memory (place + (4 + length hs)) cs = laws.through memory place ws (4 + length hs) cs lies (code_lies _ _ _ _ hs cs) in
    let at : code_place memory place ≡ place + (4 + length hs) = ap (λ (w : ℕ). place + 4 + 3 * w) r3.1 ∙ omega (arith, handlers_long P b.handlers) in
    let fits : nat_le (code_place memory place + code_words memory place) (length memory) ≡ true = at_most _ _ (omega (arith, at, count, ends_within memory (place + (4 + length hs)) cs there)) in
    let can : can_load (code_words memory place) m.cache ≡ true =
    ap (λ (w : ℕ). can_load w m.cache) (count ∙ laws.packed b.code) ∙ holds_for (body_of P j) b (λ (u : Body). IsTrue (can_load (words_for (length u.code)) m.cache)) body_is (st.room.methods j) in
    let small = st.sizes.small in
    record {
      locals = ap (λ (w : ℕ). w / 2 ^ 16) first ∙ high_half b.max_locals b.max_stack said.max_stack;
      stack = ap (λ (w : ℕ). w % 2 ^ 16) first ∙ low_half b.max_locals b.max_stack said.max_stack;
      few_locals = said.max_locals;
      few_operands = said.max_stack;
      arguments = ap (λ (w : ℕ). w / 2 ^ 16) r1.1 ∙ high_half (says.argument_words_of k) (words_for (length b.code)) few;
      pool_is = r2.1;
      is_method = record { limits = omega (arith, first, both_halves b.max_locals b.max_stack said.max_locals said.max_stack); place = omega (arith, r2.0, small); found = both_tests _ _ can fits };
      code = ap (λ (i : ℕ). slice_range memory i (i + code_words memory place)) at
          ∙ ap (λ (i : ℕ). slice_range memory (place + (4 + length hs)) (place + (4 + length hs) + i)) count ∙ laws.ranges memory (place + (4 + length hs)) cs there;
      code_count = count;
    }

pub method_read : ReadLaws → MethodsAreRead
method_read laws P pl n size m s st x j k b well says_all linked method body memory cache =
    let body_is : body_of P j ≡ Some b = ap (λ o. onto o (λ (u : Method). u.body)) method ∙ body in
    let said : SaysLinked P pl = subst (λ t. SaysAll t P pl) linked says_all.all in
    let at : List ℕ → Cache → Sketch = λ words c. record x { memory = words; cache = c } in
    let same : at m.port.words m.cache ≡ x = λ i. at (sym memory i) (sym cache i) in
    subst (λ (y : Sketch). IsRead P pl y k b (pl.method j)) same (read_here laws P pl n size m s st x well says_all said j k b method body body_is)
