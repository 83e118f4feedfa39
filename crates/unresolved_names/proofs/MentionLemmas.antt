-- What a class names, part by part.
use Rattle.std.proofs.Common.{◌≡◌, ℕ, Bool, true, false, not, ◌==◌, List, [], ◌∷◌, ◌++◌, map, Option, Some, None, Ok, refl, sym, ap, ap₂, ◌∙◌}
use Rattle.std.specs.Prelude.{if◌then◌else◌}
use Rattle.std.specs.Option.{option_map, option_map_or}
use Rattle.std.specs.List.{filter, flat_map}
use Rattle.lists.specs.Lists.{first}
use Rattle.lists.proofs.FirstLemmas.{flat_map-append, first-before, first-behind}
use Rattle.class_pool.specs.declared.class.Code.{Code}
use Rattle.class_pool.specs.declared.class.Member.{Member}
use Rattle.class_pool.specs.declared.class.ClassFile.{ClassFile}
use Rattle.class_pool.specs.Found.{code_of}
use Rattle.opcodes.specs.declared.instruction.Instr.{Instr}
use Rattle.opcodes.specs.Instruction.{decoded}
use Rattle.bytecode_model.specs.Program.{as_instr}
use Rattle.program_tables.specs.Instructions.{Placed, placed_at, instructions_in, index_of_entry, named_in}
use Rattle.program_tables.specs.Naming.{NamesNothingAt}
use Rattle.program_tables.proofs.NamingLemmas.{nothing_there}
use Rattle.program_tables.specs.FrameClasses.{classes_in_frames}
use Rattle.program_tables.specs.declared.refusal.Why.{Why}
use Rattle.program_tables.specs.declared.refusal.Why.TheVariants as reasons
use Rattle.program_tables.specs.Kinds.{classes_in_method_descriptor}
use Rattle.class_lookup.specs.Parts.{signature_of}
use Rattle.class_pool.specs.Grammar.{text_at}
use Rattle.program_tables.specs.Unresolved.{ThisClass, FieldDescriptor, MethodDescriptor, AtInstruction, AtHandler, InFrame, unless, are_there, implements_all, mentions_in_code, mentions_in_method, why_named}
use Rattle.unresolved_names.specs.Causes.{refused_entry, refused_class, refused_catch, refused_frame_class, refused_instruction, refused_mention, unresolved_mentions}

-- ---- at a place of a code

pub of_placed : {A : Type 0} (f : Placed → List A) (code : List ℕ) (pc : ℕ) (instr : Instr) → decoded code pc ≡ Ok instr → first (option_map_or f (placed_at code pc) []) ≡ first (f (record { pc = pc; instr = instr }))
of_placed f code pc instr e = ap (λ r. first (option_map_or f (option_map (λ i. record { pc = pc; instr = i }) (as_instr r)) [])) e

pub of_nothing : (cs : List ClassFile) (c : ℕ) (k : ClassFile) (m : Member) (code : List ℕ) (pc : ℕ) → NamesNothingAt code pc → None ≡ first (option_map_or (refused_instruction cs c k m) (placed_at code pc) [])
unfolding refused_instruction
of_nothing cs c k m code pc none =
    let f = refused_instruction cs c k m in
    let nothing = λ (p : Placed) (h : named_in k p.instr ≡ None). ap (λ n. refused_entry (index_of_entry p.instr) (why_named cs c k (signature_of k m) p.instr.op n)) h in
    ap first (sym (nothing_there f k nothing code pc none))

-- ---- parts of parts

pub flat_map-map : {X Y Z : Type 0} (g : Y → List Z) (f : X → Y) (xs : List X) → flat_map g (map f xs) ≡ flat_map (λ x. g (f x)) xs
flat_map-map g f [] = refl
flat_map-map g f (x ∷ xs) = ap (λ ys. g (f x) ++ ys) (flat_map-map g f xs)

pub flat_map-parts : {X Y Z : Type 0} (g : Y → List Z) (f : X → List Y) (xs : List X) → flat_map g (flat_map f xs) ≡ flat_map (λ x. flat_map g (f x)) xs
flat_map-parts g f [] = refl
flat_map-parts g f (x ∷ xs) = flat_map-append g (f x) (flat_map f xs) ∙ ap (λ ys. flat_map g (f x) ++ ys) (flat_map-parts g f xs)

-- ---- exception tables

abbrev TableEntry : Type 0
TableEntry = ℕ × ℕ × ℕ × ℕ

catch_case : (cs : List ClassFile) (c : ℕ) (k : ClassFile) (h : TableEntry) (hs : List TableEntry) (b : Bool) → (h.3 == 0) ≡ b
    → flat_map (refused_mention cs c k) (map (λ (x : TableEntry). AtHandler x.3) (filter (λ x. not (x.3 == 0)) hs)) ≡ flat_map (λ (x : TableEntry). refused_catch cs c k x.3) hs
    → flat_map (refused_mention cs c k) (map (λ (x : TableEntry). AtHandler x.3) (if not b then h ∷ filter (λ x. not (x.3 == 0)) hs else filter (λ x. not (x.3 == 0)) hs))
    ≡ (if b then [] else refused_class cs c k h.3) ++ flat_map (λ (x : TableEntry). refused_catch cs c k x.3) hs
unfolding refused_mention refused_class
catch_case cs c k h hs true e later = later
catch_case cs c k h hs false e later = ap (λ ys. refused_class cs c k h.3 ++ ys) later

pub caught : (cs : List ClassFile) (c : ℕ) (k : ClassFile) (hs : List TableEntry)
    → flat_map (refused_mention cs c k) (map (λ (x : TableEntry). AtHandler x.3) (filter (λ x. not (x.3 == 0)) hs)) ≡ flat_map (λ (x : TableEntry). refused_catch cs c k x.3) hs
caught cs c k [] = refl
caught cs c k (h ∷ hs) = catch_case cs c k h hs (h.3 == 0) refl (caught cs c k hs)

-- ---- code

pub instructions_are : (m : Member) (code : Code) → code_of m ≡ Some code → option_map_or (λ (x : Code). instructions_in x.code) (code_of m) [] ≡ instructions_in code.code
instructions_are m code e = ap (λ o. option_map_or (λ (x : Code). instructions_in x.code) o []) e

pub in_code : (cs : List ClassFile) (c : ℕ) (k : ClassFile) (m : Member) (code : Code) → code_of m ≡ Some code
    → flat_map (refused_mention cs c k) (mentions_in_code k m code)
    ≡ flat_map (refused_instruction cs c k m) (instructions_in code.code)
    ++ (flat_map (λ (x : TableEntry). refused_catch cs c k x.3) code.handlers
    ++ flat_map (refused_frame_class cs k) (classes_in_frames k.pool code))
unfolding refused_mention refused_instruction refused_frame_class
in_code cs c k m code e =
    let g = refused_mention cs c k in
    let ps = option_map_or (λ (x : Code). instructions_in x.code) (code_of m) [] in
    let hs = map (λ (x : TableEntry). AtHandler x.3) (filter (λ x. not (x.3 == 0)) code.handlers) in
    let is = classes_in_frames k.pool code in
    flat_map-append g (map (AtInstruction m) ps) (hs ++ map InFrame is)
    ∙ ap₂ (λ xs ys. xs ++ ys)
    (flat_map-map g (AtInstruction m) ps ∙ ap (flat_map (refused_instruction cs c k m)) (instructions_are m code e))
    (flat_map-append g hs (map InFrame is) ∙ ap₂ (λ xs ys. xs ++ ys) (caught cs c k code.handlers) (flat_map-map g InFrame is))

abbrev Found : Type 0
Found = ℕ × Why

-- the first of three parts, told from where it is found
three-first : {A : Type 0} (all xs ys zs : List A) (y : A) → all ≡ xs ++ (ys ++ zs) → first xs ≡ Some y → Some y ≡ first all
three-first all xs ys zs y e h = sym (ap first e ∙ first-before xs (ys ++ zs) y h)

three-second : {A : Type 0} (all xs ys zs : List A) (y : A) → all ≡ xs ++ (ys ++ zs) → first xs ≡ None → first ys ≡ Some y → Some y ≡ first all
three-second all xs ys zs y e none h = sym (ap first e ∙ (first-behind xs (ys ++ zs) none ∙ first-before ys zs y h))

three-third : {A : Type 0} (all xs ys zs : List A) → all ≡ xs ++ (ys ++ zs) → first xs ≡ None → first ys ≡ None → first zs ≡ first all
three-third all xs ys zs e none none_too = sym (ap first e ∙ (first-behind xs (ys ++ zs) none ∙ first-behind ys zs none_too))

pub at_instructions : (cs : List ClassFile) (c : ℕ) (k : ClassFile) (m : Member) (code : Code) (y : Found) → code_of m ≡ Some code
    → first (flat_map (refused_instruction cs c k m) (instructions_in code.code)) ≡ Some y
    → Some y ≡ first (flat_map (refused_mention cs c k) (mentions_in_code k m code))
at_instructions cs c k m code y e h =
    three-first (flat_map (refused_mention cs c k) (mentions_in_code k m code)) (flat_map (refused_instruction cs c k m) (instructions_in code.code)) (flat_map (λ (x : TableEntry). refused_catch cs c k x.3) code.handlers) (flat_map (refused_frame_class cs k) (classes_in_frames k.pool code)) y (in_code cs c k m code e) h

pub at_handlers : (cs : List ClassFile) (c : ℕ) (k : ClassFile) (m : Member) (code : Code) (y : Found) → code_of m ≡ Some code
    → first (flat_map (refused_instruction cs c k m) (instructions_in code.code)) ≡ None
    → first (flat_map (λ (x : TableEntry). refused_catch cs c k x.3) code.handlers) ≡ Some y
    → Some y ≡ first (flat_map (refused_mention cs c k) (mentions_in_code k m code))
at_handlers cs c k m code y e none h =
    three-second (flat_map (refused_mention cs c k) (mentions_in_code k m code)) (flat_map (refused_instruction cs c k m) (instructions_in code.code)) (flat_map (λ (x : TableEntry). refused_catch cs c k x.3) code.handlers) (flat_map (refused_frame_class cs k) (classes_in_frames k.pool code)) y (in_code cs c k m code e) none h

pub at_frames : (cs : List ClassFile) (c : ℕ) (k : ClassFile) (m : Member) (code : Code) → code_of m ≡ Some code
    → first (flat_map (refused_instruction cs c k m) (instructions_in code.code)) ≡ None
    → first (flat_map (λ (x : TableEntry). refused_catch cs c k x.3) code.handlers) ≡ None
    → first (flat_map (refused_frame_class cs k) (classes_in_frames k.pool code)) ≡ first (flat_map (refused_mention cs c k) (mentions_in_code k m code))
at_frames cs c k m code e none none_too =
    three-third (flat_map (refused_mention cs c k) (mentions_in_code k m code)) (flat_map (refused_instruction cs c k m) (instructions_in code.code)) (flat_map (λ (x : TableEntry). refused_catch cs c k x.3) code.handlers) (flat_map (refused_frame_class cs k) (classes_in_frames k.pool code)) (in_code cs c k m code e) none none_too

-- ---- a method

descriptor_case : (d : ℕ) (reason : Why) (b : Bool) (rest : List Found) → b ≡ false → Some (d, reason) ≡ first (refused_entry d (unless b reason) ++ rest)
descriptor_case d reason true rest e = absurd (let f : true ≡ false = e in cc)
descriptor_case d reason false rest e = refl

nothing_case : (d : ℕ) (reason : Why) (b : Bool) → b ≡ true → refused_entry d (unless b reason) ≡ []
nothing_case d reason true e = refl
nothing_case d reason false e = absurd (let f : false ≡ true = e in cc)

pub at_descriptor : (cs : List ClassFile) (c : ℕ) (k : ClassFile) (m : Member) → are_there cs (classes_in_method_descriptor (text_at k.pool m.descriptor)) ≡ false
    → Some (m.descriptor, reasons.NoClass) ≡ first (flat_map (refused_mention cs c k) (mentions_in_method k m))
unfolding refused_mention
at_descriptor cs c k m e =
    descriptor_case m.descriptor reasons.NoClass (are_there cs (classes_in_method_descriptor (text_at k.pool m.descriptor))) (flat_map (refused_mention cs c k) (option_map_or (mentions_in_code k m) (code_of m) [])) e

nothing_at_descriptor : (cs : List ClassFile) (c : ℕ) (k : ClassFile) (m : Member) → are_there cs (classes_in_method_descriptor (text_at k.pool m.descriptor)) ≡ true
    → refused_mention cs c k (MethodDescriptor m) ≡ []
unfolding refused_mention
nothing_at_descriptor cs c k m e = nothing_case m.descriptor reasons.NoClass (are_there cs (classes_in_method_descriptor (text_at k.pool m.descriptor))) e

behind_descriptor : (cs : List ClassFile) (c : ℕ) (k : ClassFile) (m : Member) (o : Option Code) → code_of m ≡ o → are_there cs (classes_in_method_descriptor (text_at k.pool m.descriptor)) ≡ true
    → flat_map (refused_mention cs c k) (option_map_or (mentions_in_code k m) o []) ≡ flat_map (refused_mention cs c k) (mentions_in_method k m)
behind_descriptor cs c k m o code e =
    let g = refused_mention cs c k in
    ap (λ (x : Option Code). flat_map g (option_map_or (mentions_in_code k m) x [])) (sym code)
    ∙ ap (λ (xs : List Found). xs ++ flat_map g (option_map_or (mentions_in_code k m) (code_of m) [])) (sym (nothing_at_descriptor cs c k m e))

pub at_code : (cs : List ClassFile) (c : ℕ) (k : ClassFile) (m : Member) (code : Code) → code_of m ≡ Some code → are_there cs (classes_in_method_descriptor (text_at k.pool m.descriptor)) ≡ true
    → first (flat_map (refused_mention cs c k) (mentions_in_code k m code)) ≡ first (flat_map (refused_mention cs c k) (mentions_in_method k m))
at_code cs c k m code is e = ap first (behind_descriptor cs c k m (Some code) is e)

pub without_code : (cs : List ClassFile) (c : ℕ) (k : ClassFile) (m : Member) → code_of m ≡ None → are_there cs (classes_in_method_descriptor (text_at k.pool m.descriptor)) ≡ true
    → None ≡ first (flat_map (refused_mention cs c k) (mentions_in_method k m))
without_code cs c k m is e = ap first (behind_descriptor cs c k m None is e)

-- ---- a class

pub in_class : (cs : List ClassFile) (c : ℕ) (k : ClassFile)
    → unresolved_mentions cs c k
    ≡ refused_mention cs c k ThisClass
    ++ (flat_map (λ f. refused_mention cs c k (FieldDescriptor f)) k.fields ++ flat_map (λ m. flat_map (refused_mention cs c k) (mentions_in_method k m)) k.methods)
unfolding unresolved_mentions
in_class cs c k =
    let g = refused_mention cs c k in
    ap (λ ys. g ThisClass ++ ys)
    (flat_map-append g (map FieldDescriptor k.fields) (flat_map (mentions_in_method k) k.methods)
    ∙ ap₂ (λ xs ys. xs ++ ys) (flat_map-map g FieldDescriptor k.fields) (flat_map-parts g (mentions_in_method k) k.methods))

nothing_at_class : (cs : List ClassFile) (c : ℕ) (k : ClassFile) → implements_all cs c ≡ true → refused_mention cs c k ThisClass ≡ []
unfolding refused_mention
nothing_at_class cs c k e = nothing_case k.this_class reasons.NotImplemented (implements_all cs c) e

pub at_class : (cs : List ClassFile) (c : ℕ) (k : ClassFile) → implements_all cs c ≡ false → Some (k.this_class, reasons.NotImplemented) ≡ first (unresolved_mentions cs c k)
unfolding unresolved_mentions refused_mention
at_class cs c k e =
    descriptor_case k.this_class reasons.NotImplemented (implements_all cs c) (flat_map (refused_mention cs c k) (map FieldDescriptor k.fields ++ flat_map (mentions_in_method k) k.methods)) e

pub at_fields : (cs : List ClassFile) (c : ℕ) (k : ClassFile) (y : Found) → implements_all cs c ≡ true
    → first (flat_map (λ f. refused_mention cs c k (FieldDescriptor f)) k.fields) ≡ Some y → Some y ≡ first (unresolved_mentions cs c k)
at_fields cs c k y e h =
    three-second (unresolved_mentions cs c k) (refused_mention cs c k ThisClass) (flat_map (λ f. refused_mention cs c k (FieldDescriptor f)) k.fields)
    (flat_map (λ m. flat_map (refused_mention cs c k) (mentions_in_method k m)) k.methods) y (in_class cs c k) (ap first (nothing_at_class cs c k e)) h

pub at_methods : (cs : List ClassFile) (c : ℕ) (k : ClassFile) → implements_all cs c ≡ true
    → first (flat_map (λ f. refused_mention cs c k (FieldDescriptor f)) k.fields) ≡ None
    → first (flat_map (λ m. flat_map (refused_mention cs c k) (mentions_in_method k m)) k.methods) ≡ first (unresolved_mentions cs c k)
at_methods cs c k e none =
    three-third (unresolved_mentions cs c k) (refused_mention cs c k ThisClass) (flat_map (λ f. refused_mention cs c k (FieldDescriptor f)) k.fields)
    (flat_map (λ m. flat_map (refused_mention cs c k) (mentions_in_method k m)) k.methods) (in_class cs c k) (ap first (nothing_at_class cs c k e)) none
