-- The words of a linked program's image, as a machine begins with them.
use Rattle.std.proofs.Common.{◌≡◌, ℕ, ◌+◌, ◌-◌, ◌*◌, ◌/◌, ◌%◌, ◌^◌, ◌<◌, ◌≤◌, Bool, true, false, if◌then◌else◌, List, [], ◌∷◌, ◌++◌, Option, Some, None, map, length, refl, sym, ◌∙◌, ap, subst, arith, add-zero, append-nil, length-append}
use Rattle.std.specs.Prelude.{slice_get, slice_index, slice_range, IsTrue}
use Rattle.std.specs.List.{flat_map}
use Rattle.lists.proofs.Lemmas.{onto_some}
use Rattle.base.specs.Packed.{words_for, words_of_bytes, PackedHasBytes, PackedHasWords}
use Rattle.method_cache.specs.Contents.{empty, can_load}
use Rattle.jop_core.specs.Operations.{code_place, code_words}
use Rattle.jop_core.specs.Reset.{Start, linked_start, linked_reset, reset_of}
use Rattle.bytecode_model.specs.declared.Value.{Value}
use Rattle.bytecode_model.specs.declared.Value.TheVariants.{Unset}
use Rattle.bytecode_model.specs.declared.Ending.TheVariants.{Running}
use Rattle.bytecode_model.specs.Lists.{onto}
use Rattle.bytecode_model.specs.Types.{default, is_long}
use Rattle.bytecode_model.specs.Slots as slots
use Rattle.bytecode_model.specs.Slots.{spread}
use Rattle.bytecode_model.specs.Sizes.{body_words}
use Rattle.bytecode_model.specs.State.{Frame, State}
use Rattle.bytecode_model.specs.Program.{Program, Method, Body, Handler, body_of}
use Rattle.bytecode_model.specs.Steps.{boot_state, first_frame, taken_types, all_suit}
use Rattle.bytecode_model.specs.WellFormed.{AreAlike}
use Rattle.bytecode_typing.specs.Fits.{Fits}
use Rattle.bytecode_typing.specs.Laws.{FittingStatesAreWellFormed, TheBootStateFits}
use Rattle.image_facts.specs.Within.{LieAt}
use Rattle.image_facts.specs.Laws.{WordsAreRead, RangesAreRead, LieThrough, FixedWordsLie, WordsEnd}
use Rattle.image_facts.specs.Places.{Places, image_of, image_words, object_place}
use Rattle.image_facts.specs.Says.{IsCode, SaysAll, SaysLinked, argument_words_of, handler_words, header_words, method_words}
use Rattle.machine_stands.specs.StandsFor.{StandsFor}
use Rattle.boundary.specs.Linked.{LinkedRunsBegin}
use Rattle.boundary.specs.Setting.{limits}
use Rattle.boundary.proofs.Resetting.{start_of, first_of, begun, HasPlace, reset_stands, zeros_there}
use Rattle.boundary.proofs.Stages.{some_is, if_at}

pub record LinkLaws : Type 0 where
  pub boots : TheBootStateFits
  pub well : FittingStatesAreWellFormed
  pub packed : PackedHasWords
  pub bytes : PackedHasBytes
  pub read : WordsAreRead
  pub ranges : RangesAreRead
  pub through : LieThrough
  pub fixed : FixedWordsLie
  pub ends : WordsEnd

-- ---- the boot state

-- what the boot state is made of
pub record Booted (P : Program) (s : State) : Type 0 where
  pub method : Method
  pub is_method : slice_get P.methods P.boot ≡ Some method
  pub body : Body
  pub is_body : method.body ≡ Some body
  pub locals : List Value
  pub are_locals : slots.padded Unset body.max_locals (spread is_long Unset (map default method.parameters)) ≡ Some locals
  pub is : begun P locals ≡ s

some_state : (u t : State) → ◌≡◌ {A = Option State} (Some u) (Some t) → u ≡ t
some_state u t h = cc

some_frame : (u t : Frame) → ◌≡◌ {A = Option Frame} (Some u) (Some t) → u ≡ t
some_frame u t h = cc

same_method : (P : Program) (k j : Method) (n : ℕ) → slice_get P.methods n ≡ Some k → slice_get P.methods n ≡ Some j → j ≡ k
same_method P k j n is other = some_method j k (sym other ∙ is)
  where
    some_method : (u t : Method) → ◌≡◌ {A = Option Method} (Some u) (Some t) → u ≡ t
    some_method u t h = cc

booted : (P : Program) (s : State) → boot_state P ≡ Some s → Booted P s
booted P s h =
    let made : Frame → Option State = λ f. Some (record { frames = f ∷ []; objects = P.first_objects; statics = P.first_statics; answers = []; output = []; mode = Running }) in
    let (k, is_method, from_method) = onto_some (slice_get P.methods P.boot) (λ k. onto (first_frame P P.boot (map default k.parameters)) made) s h in
    let args = map default k.parameters in
    let frame : List Value → Option Frame = λ ls. Some (record { method = P.boot; pc = 0; locals = ls; operands = [] }) in
    let start : Method → Body → Option Frame = λ j b. if all_suit (taken_types j) args then onto (slots.padded Unset b.max_locals (spread is_long Unset args)) frame else None in
    let (f, is_frame, gives) = onto_some (first_frame P P.boot args) made s from_method in
    let (j, is_again, with_method) = onto_some (slice_get P.methods P.boot) (λ j. onto j.body (λ b. start j b)) f is_frame in
    let (b, is_body, with_body) = onto_some j.body (λ b. start j b) f with_method in
    let (ls, are, is_first) = suited (all_suit (taken_types j) args) (slots.padded Unset b.max_locals (spread is_long Unset args)) frame f with_body in
    record {
      method = k;
      is_method = is_method;
      body = b;
      is_body = ap (λ (u : Method). u.body) (sym (same_method P k j P.boot is_method is_again)) ∙ is_body;
      locals = ls;
      are_locals = are;
      is = ap (λ (f : Frame). record { frames = f ∷ []; objects = P.first_objects; statics = P.first_statics; answers = []; output = []; mode = Running }) (some_frame (first_of P ls) f is_first) ∙ some_state (record { frames = f ∷ []; objects = P.first_objects; statics = P.first_statics; answers = []; output = []; mode = Running }) s gives;
    }
  where
    suited : (b : Bool) (o : Option (List Value)) (frame : List Value → Option Frame) (f : Frame) → (if b then onto o frame else None) ≡ Some f → (ls : List Value) × (o ≡ Some ls) × (frame ls ≡ Some f)
    suited true o frame f h = onto_some o frame f h
    suited false o frame f h = absurd (cc)

-- ---- the words

handlers_count : (P : Program) (hs : List Handler) → length (flat_map (handler_words P) hs) ≡ 3 * length hs
handlers_count P [] = refl
handlers_count P (h ∷ hs) = omega (arith, handlers_count P hs, length-append (handler_words P h) (flat_map (handler_words P) hs))

within : (whole : List ℕ) (place : ℕ) (words : List ℕ) → LieAt whole place words → place + length words ≤ length whole
within whole place words l = omega (arith, ap length l.split, length-append l.before (words ++ l.after), length-append words l.after, l.place_is)

halves : (a b : ℕ) → b < 2 ^ 16 → ((a * 2 ^ 16 + b) / 2 ^ 16 ≡ a) × ((a * 2 ^ 16 + b) % 2 ^ 16 ≡ b)
halves a b h = (omega (arith, h), omega (arith, h))

-- what is read of the image of a program whose boot method is this
pub record Starts (P : Program) (pl : Places) (b : Body) : Type 0 where
  pub is : linked_start (image_of P pl) ≡ start_of P pl b
  pub header : 16 ≤ length (image_of P pl)
  pub count : code_words (image_of P pl) (slice_index (image_of P pl) 1) ≡ words_for (length b.code)
  pub inside : code_place (image_of P pl) (slice_index (image_of P pl) 1) + code_words (image_of P pl) (slice_index (image_of P pl) 1) ≤ length (image_of P pl)

start_same : (image : List ℕ) (boot boot' locals locals' frame frame' : ℕ) (code code' : List ℕ) (pool pool' list list' : ℕ) → boot ≡ boot' → locals ≡ locals' → frame ≡ frame' → code ≡ code' → pool ≡ pool' → list ≡ list'
    → ◌≡◌ {A = Start} (record { image = image; boot = boot; max_locals = locals; frame = frame; code = code; pool = pool; raise_list = list }) (record { image = image; boot = boot'; max_locals = locals'; frame = frame'; code = code'; pool = pool'; raise_list = list' })
start_same image boot boot' locals locals' frame frame' code code' pool pool' list list' b l f c p r =
    ap (λ (k : ℕ). let s : Start = record { image = image; boot = k; max_locals = locals; frame = frame; code = code; pool = pool; raise_list = list } in s) b
    ∙ ap (λ (k : ℕ). let s : Start = record { image = image; boot = boot'; max_locals = k; frame = frame; code = code; pool = pool; raise_list = list } in s) l
    ∙ ap (λ (k : ℕ). let s : Start = record { image = image; boot = boot'; max_locals = locals'; frame = k; code = code; pool = pool; raise_list = list } in s) f
    ∙ ap (λ (k : List ℕ). let s : Start = record { image = image; boot = boot'; max_locals = locals'; frame = frame'; code = k; pool = pool; raise_list = list } in s) c
    ∙ ap (λ (k : ℕ). let s : Start = record { image = image; boot = boot'; max_locals = locals'; frame = frame'; code = code'; pool = k; raise_list = list } in s) p
    ∙ ap (λ (k : ℕ). let s : Start = record { image = image; boot = boot'; max_locals = locals'; frame = frame'; code = code'; pool = pool'; raise_list = k } in s) r

starts : LinkLaws → (P : Program) (pl : Places) (k : Method) (b : Body) → SaysLinked P pl → slice_get P.methods P.boot ≡ Some k → k.body ≡ Some b → IsCode b.code → AreAlike P.first_statics (map default P.statics) → Starts P pl b
starts laws P pl k b says is_method is_body code alike =
    let image = image_of P pl in
    let header = header_words P pl in
    let top = laws.fixed P pl P.first_statics P.first_objects 0 header alike says.header in
    let head = λ (j : ℕ) (h : j < length header). laws.read image 0 header j top h in
    let boot : slice_index image 1 ≡ pl.method P.boot = head 1 (omega arith) in
    let said = says.methods P.boot k b is_method is_body in
    let words = method_words P pl k b in
    let place = pl.method P.boot in
    let lies = laws.fixed P pl P.first_statics P.first_objects place words alike said.words in
    let hs = flat_map (handler_words P) b.handlers in
    let cs = words_of_bytes b.code in
    let long : length words ≡ 4 + (length hs + length cs) = omega (arith, length-append hs cs) in
    let word = λ (j : ℕ) (h : j < length words). laws.read image place words j lies h in
    let limits : slice_index image place ≡ b.max_locals * 2 ^ 16 + b.max_stack = ap (λ (j : ℕ). slice_index image j) (sym (add-zero place)) ∙ word 0 (omega (arith, long)) in
    let counts : slice_index image (place + 1) ≡ argument_words_of k * 2 ^ 16 + words_for (length b.code) = word 1 (omega (arith, long)) in
    let entries : slice_index image (place + 3) ≡ length b.handlers = word 3 (omega (arith, long)) in
    let few : words_for (length b.code) < 2 ^ 16 = omega (arith, code.short) in
    let lower = halves b.max_locals b.max_stack said.max_stack in
    let count : code_words image (slice_index image 1) ≡ words_for (length b.code) =
    ap (λ (j : ℕ). slice_index image (j + 1) % 2 ^ 16) boot ∙ ap (λ (j : ℕ). j % 2 ^ 16) counts ∙ (halves (argument_words_of k) (words_for (length b.code)) few).1 in
    let behind : code_place image (slice_index image 1) ≡ place + (4 + length hs) =
    ap (λ (j : ℕ). j + 4 + 3 * slice_index image (j + 3)) boot ∙ omega (arith, entries, handlers_count P b.handlers) in
    let part : LieAt words (4 + length hs) cs = record {
      before = (b.max_locals * 2 ^ 16 + b.max_stack) ∷ (argument_words_of k * 2 ^ 16 + words_for (length b.code)) ∷ pl.pool k.owner ∷ length b.handlers ∷ hs;
      after = [];
      split = ap (λ (ws : List ℕ). (b.max_locals * 2 ^ 16 + b.max_stack) ∷ (argument_words_of k * 2 ^ 16 + words_for (length b.code)) ∷ pl.pool k.owner ∷ length b.handlers ∷ (hs ++ ws)) (sym (append-nil cs));
      place_is = omega arith;
    } in
    let code_lies = laws.through image place words (4 + length hs) cs lies part in
    let up : code_place image (slice_index image 1) + code_words image (slice_index image 1) ≡ place + (4 + length hs) + length cs = omega (arith, behind, count, laws.packed b.code) in
    let codes : slice_range image (code_place image (slice_index image 1)) (code_place image (slice_index image 1) + code_words image (slice_index image 1)) ≡ cs =
    ap (λ (j : ℕ). slice_range image (code_place image (slice_index image 1)) j) up ∙ ap (λ (j : ℕ). slice_range image j (place + (4 + length hs) + length cs)) behind ∙ laws.ranges image (place + (4 + length hs)) cs code_lies in
    let first : slice_index image (slice_index image 1) ≡ b.max_locals * 2 ^ 16 + b.max_stack = ap (λ (j : ℕ). slice_index image j) boot ∙ limits in
    let locals : slice_index image (slice_index image 1) / 2 ^ 16 ≡ b.max_locals = ap (λ (j : ℕ). j / 2 ^ 16) first ∙ lower.0 in
    let stack : slice_index image (slice_index image 1) % 2 ^ 16 ≡ b.max_stack = ap (λ (j : ℕ). j % 2 ^ 16) first ∙ lower.1 in
    record {
      is = start_same image _ _ _ _ _ _ _ _ _ _ _ _ boot locals (ap (λ (j : ℕ). j + 5 + slice_index image (slice_index image 1) % 2 ^ 16) locals ∙ ap (λ (j : ℕ). b.max_locals + 5 + j) stack) codes (head 2 (omega arith)) (head 4 (omega arith));
      header = omega (arith, within image 0 header top);
      count = count;
      inside = omega (arith, up, within image (place + (4 + length hs)) cs code_lies);
    }

-- ---- all of it

pub runs_begin : LinkLaws → LinkedRunsBegin
runs_begin laws g config held =
    let P = g.program in
    let pl = g.places in
    let setting = held.is_setting in
    let says : SaysLinked P pl = subst (λ l. SaysAll l P pl) held.linked setting.says.all in
    let (s, is_boot, fits) = some_is (boot_state P) (Fits P g.types (limits g)) (laws.boots P g.types (limits g) setting.lawful setting.typed held.boot) in
    let boot = booted P s is_boot in
    let b = boot.body in
    let formed = laws.well P g.types (limits g) setting.typed s fits in
    let alike : AreAlike P.first_statics (map default P.statics) = subst (λ (t : State). AreAlike t.statics (map default P.statics)) (sym boot.is) formed.statics in
    let body_is : body_of P P.boot ≡ Some b = ap (λ o. onto o (λ (k : Method). k.body)) boot.is_method ∙ boot.is_body in
    let code = if_at (body_of P P.boot) b (λ b. IsCode b.code) body_is (setting.says.codes P.boot) in
    let start = starts laws P pl boot.method b says boot.is_method boot.is_body code alike in
    let loads = if_at (body_of P P.boot) b (λ b. IsTrue (can_load (words_for (length b.code)) (empty config.blocks config.block_words))) body_is (held.methods P.boot) in
    let count : length (image_of P pl) ≡ image_words P pl = laws.ends P pl P.first_statics P.first_objects alike in
    let has : HasPlace P pl g.chip config b = record {
      size = held.size;
      is_body = body_is;
      code = code;
      frame = if_at (body_of P P.boot) b (λ b. body_words b ≤ g.chip - 80) body_is held.boot;
      count = count;
      image = held.image;
      methods = held.methods;
      fits = loads;
    } in
    let stands = reset_stands laws.packed laws.bytes P pl g.chip config b boot.locals has (zeros_there (object_place P pl P.first_objects) boot.method.parameters b.max_locals boot.locals boot.are_locals) in
    let of_state = subst (λ (t : State). StandsFor P pl g.chip config.memory (reset_of g.chip (start_of P pl b) config) t) boot.is stands in
    let of_machine = subst (λ (z : Start). StandsFor P pl g.chip config.memory (reset_of g.chip z config) s) (sym start.is) of_state in
    let of_memory = subst (λ (j : ℕ). StandsFor P pl g.chip j (linked_reset g.chip (image_of P pl) config) s) (sym held.memory) of_machine in (
      record {
        header = start.header;
        memory = omega (arith, count, held.image);
        boot = start.inside;
        blocks = subst (λ (j : ℕ). IsTrue (can_load j (empty config.blocks config.block_words))) (sym start.count) loads;
      },
      record { boot = s; is_boot = is_boot; stands = record { stands = of_memory; fits = fits } },
    )
