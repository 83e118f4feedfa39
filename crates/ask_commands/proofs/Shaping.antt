-- What is found of a method in each shape of the method cache.
use Rattle.std.proofs.Common.{◌≡◌, ℕ, ◌+◌, ◌*◌, ◌<◌, ◌≤◌, List, [], ◌∷◌, ◌++◌, length, take}
use Rattle.std.proofs.Common.{map, get_or, append-nil, append_assoc, Option, Some, None, refl, sym, ◌∙◌, ap, subst, arith}
use Rattle.std.specs.Prelude.{All, IfSome, IsSomeAnd, Result, Ok, Err, IfOk, IfErr, OnOk, Vec}
use Rattle.std.specs.declared.alloc.Global.{Global}
use Rattle.std.specs.Int.{div_ceil}
use Rattle.std.specs.List.{AllZip, AllByRecursion, flat_map}
use Rattle.std.proofs.Math.Nat.{mul-le-mul_left}
use Rattle.std.proofs.lemmas.List.{take_more}
use Rattle.std.proofs.lemmas.Grind.{div_ceil_times}
use Rattle.std.proofs.lemmas.List.Elements.{All-nil, All-cons, All-append}
use Rattle.lists.proofs.Lemmas.{none≢some, some_same}
use Rattle.base.specs.Packed.{words_for}
use Rattle.class_pool.specs.declared.class.ClassFile.{ClassFile}
use Rattle.program_tables.specs.Resolved.{resolved}
use Rattle.bytecode_model.specs.Program.{Program, Body, body_of}
use Rattle.jopizer.specs.Methods.Fitting.{IsFirst, code_blocks}
use Rattle.command_line.specs.declared.command.Settings.{Settings}
use Rattle.command_line.specs.Range.{AreSettings}
use Rattle.method_flow.specs.declared.timing.Timing.{Timing}
use Rattle.method_flow.specs.Keeping.{BoundOf}
use Rattle.bound_rules.specs.declared.faults.BoundRefusal.{BoundRefusal}
use Rattle.bound_rules.specs.declared.faults.BoundRefusal.TheVariants.{NoMethod, Recursion, Irreducible, MissingBound, TooLarge, NoMemory}
use Rattle.bound_rules.specs.Bounding.{IsCause}
use Rattle.answer_lines.specs.declared.bound.BoundCause.{BoundCause}
use Rattle.answer_lines.specs.declared.bound.BoundCause.TheVariants as causes
use Rattle.answer_lines.specs.declared.analysis.AnalysisFault.{AnalysisFault}
use Rattle.answer_lines.specs.declared.analysis.AnalysisFault.TheVariants as faults
use Rattle.analysis_commands.specs.declared.bound.NotBounded.{NotBounded}
use Rattle.analysis_commands.specs.declared.bound.NotBounded.TheVariants as refusals
use Rattle.ask_commands.specs.declared.shapes.Shape.{Shape}
use Rattle.ask_commands.specs.declared.shapes.ShapeBound.{ShapeBound}
use Rattle.ask_commands.specs.declared.shapes.ShapeBound.TheVariants as found
use Rattle.analysis_commands.specs.Analysis.{EachFits, timing_of, bounds_of, IsAnalysisFault}
use Rattle.analysis_commands.specs.Bounding.{MethodHasName, cause_of, IsForbidden, IsNotBounded}
use Rattle.ask_commands.specs.Shapes.{IsSettingsShape, with_shape, shape_with, widest, block_sizes, block_counts}
use Rattle.ask_commands.specs.Shapes.{all_shapes, shape_line, shape_lines, of_shape, IsShapeBound, AreLinesOfShapes, IsShapeRefusal}

-- ---- settings

pub shaped : (s : Settings) (shape : Shape) → AreSettings s → IsSettingsShape shape → AreSettings (with_shape s shape)
shaped s shape are is = record {
  cycles = are.cycles;
  stack = are.stack;
  memory_least = are.memory_least;
  memory_most = are.memory_most;
  blocks_least = is.blocks_least;
  blocks_most = is.blocks_most;
  block_words_least = is.words_least;
  block_words_most = is.words_most;
  read_most = are.read_most;
  write_most = are.write_most;
}

-- ---- the shapes

abbrev IsSize : (most size : ℕ) → Type 0
IsSize most size = (1 ≤ size) × (size ≤ most)

row : (size : ℕ) (counts : List ℕ) → IsSize 1024 size → AllByRecursion (IsSize 256) counts → All IsSettingsShape (map (shape_with size) counts)
row size [] is are = All-nil IsSettingsShape
row size (n ∷ counts) is are =
    let here : IsSettingsShape (shape_with size n) = record { blocks_least = are.0.0; blocks_most = are.0.1; words_least = is.0; words_most = is.1 } in
    All-cons IsSettingsShape (shape_with size n) (map (shape_with size) counts) here (row size counts is are.1)

rows : (sizes counts : List ℕ) → AllByRecursion (IsSize 1024) sizes → AllByRecursion (IsSize 256) counts → All IsSettingsShape (flat_map (λ size. map (shape_with size) counts) sizes)
rows [] counts are each = All-nil IsSettingsShape
rows (size ∷ sizes) counts are each =
    All-append IsSettingsShape (map (shape_with size) counts) (flat_map (λ size. map (shape_with size) counts) sizes) (row size counts are.0 each) (rows sizes counts are.1 each)

pub in_range : All IsSettingsShape all_shapes
in_range =
    let sizes : AllByRecursion (IsSize 1024) block_sizes = ((omega arith, omega arith), ((omega arith, omega arith), ((omega arith, omega arith), ((omega arith, omega arith), ((omega arith, omega arith), ((omega arith, omega arith), ((omega arith, omega arith), ((omega arith, omega arith), ((omega arith, omega arith), ((omega arith, omega arith), ((omega arith, omega arith), tt))))))))))) in
    let counts : AllByRecursion (IsSize 256) block_counts = ((omega arith, omega arith), ((omega arith, omega arith), ((omega arith, omega arith), ((omega arith, omega arith), ((omega arith, omega arith), ((omega arith, omega arith), ((omega arith, omega arith), ((omega arith, omega arith), ((omega arith, omega arith), tt))))))))) in
    rows block_sizes block_counts sizes counts

-- ---- codes that fit

most_words : (n taken block_words : ℕ) → n ≤ taken * block_words → taken ≤ 256 → block_words ≤ 1024 → n ≤ 262144
most_words n taken block_words room few most =
    let times : block_words * taken ≤ block_words * 256 = mul-le-mul_left block_words few in
    omega (arith, room, times, most)

most_blocks : (n taken : ℕ) → taken * 1024 < n + 1024 → n ≤ 262144 → taken ≤ 256
most_blocks n taken room most = omega (arith, room, most)

-- what fits some blocks fits 256 of 1,024 words
fits_widest : (n block_words blocks : ℕ) → 1 ≤ block_words → block_words ≤ 1024 → blocks ≤ 256 → div_ceil n block_words ≤ blocks → div_ceil n 1024 ≤ 256
fits_widest n block_words blocks some most few fits =
    let here = div_ceil_times n block_words (omega (arith, some)) in
    let there = div_ceil_times n 1024 (omega arith) in
    most_blocks n (div_ceil n 1024) there.1 (most_words n (div_ceil n block_words) block_words here.0 (omega (arith, fits, few)) most)

each_of : (o : Option Body) (Q R : Body → Type 0) → ((b : Body) → Q b → R b) → IfSome o Q → IfSome o R
each_of None Q R h is = tt
each_of (Some b) Q R h is = h b is

fit_widest : (cs : List ClassFile) (s : Settings) (shape : Shape) → IsSettingsShape shape → EachFits (with_shape s shape) cs → EachFits (with_shape s widest) cs
fit_widest cs s shape is fits =
    λ m.
    each_of (body_of (resolved cs) m) (λ (b : Body). code_blocks shape.block_words b ≤ shape.blocks) (λ (b : Body). code_blocks 1024 b ≤ 256)
    (λ b here. fits_widest (words_for (length b.code)) shape.block_words shape.blocks is.words_least is.words_most is.blocks_most here) (fits m)

clash : (o : Option Body) (f : Body → ℕ) (x y : ℕ) → IsSomeAnd o (λ b. x ≡ f b) → y < x → IfSome o (λ b. f b ≤ y) → ⊥
clash None f x y is more fits = is
clash (Some b) f x y is more fits = omega (arith, is, more, fits)

-- a method doesn't fit
one_unfit : (cs : List ClassFile) (s : Settings) (m blocks : ℕ) → IsFirst (resolved cs) s.blocks s.block_words (record { method = m; blocks = blocks }) → ¬ EachFits s cs
one_unfit cs s m blocks first = λ fits. clash (body_of (resolved cs) m) (code_blocks s.block_words) blocks s.blocks first.code first.more (fits m)

-- ---- what a refusal says of the shape

pub said : (cs : List ClassFile) (s : Settings) (text name : List ℕ) (r : NotBounded) (bound : ShapeBound) → of_shape r ≡ Some bound → IsNotBounded cs s text name r → IsShapeBound cs s text name bound
said cs s text name (refusals.NoAnalysis (faults.MethodTooLong m n blocks)) bound e is = subst (λ (x : ShapeBound). IsShapeBound cs s text name x) (some_same found.TooLong bound e) (one_unfit cs s m blocks is.0)
said cs s text name (refusals.NoAnalysis (faults.BadBounds line)) bound e is = absurd (none≢some bound e)
said cs s text name (refusals.NoAnalysis (faults.TwiceBound line)) bound e is = absurd (none≢some bound e)
said cs s text name (refusals.NoAnalysis faults.NoMemory) bound e is = absurd (none≢some bound e)
said cs s text name (refusals.Forbidden (causes.TooLarge m) subject) bound e is =
    subst (λ (x : ShapeBound). IsShapeBound cs s text name x) (some_same found.TooLarge bound e) (m, subject.items, is)
said cs s text name (refusals.Forbidden causes.NoMethod subject) bound e is = absurd (none≢some bound e)
said cs s text name (refusals.Forbidden causes.Recursion subject) bound e is = absurd (none≢some bound e)
said cs s text name (refusals.Forbidden (causes.Irreducible m) subject) bound e is = absurd (none≢some bound e)
said cs s text name (refusals.Forbidden (causes.MissingBound m p) subject) bound e is = absurd (none≢some bound e)
said cs s text name refusals.NoMemory bound e is = absurd (none≢some bound e)

-- ---- what a refusal says of each shape

-- a cause that is no size depends on no timing
keeps : (P : Program) (t u : Timing) (b : BoundOf) (named : ℕ → Type 0) (r : BoundRefusal) (cause : BoundCause) (subject : Vec ℕ Global) → cause_of r ≡ Some cause → of_shape (refusals.Forbidden cause subject) ≡ None
    → IsCause P t b named r → IsCause P u b named r
keeps P t u b named NoMethod cause subject e none h = h
keeps P t u b named (Recursion cycle) cause subject e none h = h
keeps P t u b named (Irreducible m nodes) cause subject e none h = h
keeps P t u b named (MissingBound m p) cause subject e none h = h
keeps P t u b named (TooLarge m) cause subject e none h =
    let other : of_shape (refusals.Forbidden (causes.TooLarge m) subject) ≡ None = subst (λ (c : BoundCause). of_shape (refusals.Forbidden c subject) ≡ None) (sym (some_same (causes.TooLarge m) cause e)) none in
    absurd (none≢some found.TooLarge (sym other))
keeps P t u b named NoMemory cause subject e none h = tt

module _ (cs : List ClassFile) (s : Settings) (text name : List ℕ) (shape : Shape) (is : IsSettingsShape shape) where
  forbidden : (cause : BoundCause) (subject : Vec ℕ Global) → of_shape (refusals.Forbidden cause subject) ≡ None → IsForbidden cs (with_shape s shape) text name cause subject.items → IsForbidden cs (with_shape s widest) text name cause subject.items
  forbidden cause subject none h = record {
    codes_fit = fit_widest cs s shape is h.codes_fit;
    bounds = h.bounds;
    bounds_read = h.bounds_read;
    refusal = h.refusal;
    is = keeps (resolved cs) (timing_of (with_shape s shape)) (timing_of (with_shape s widest)) (bounds_of cs h.bounds) (MethodHasName cs name) h.refusal cause subject h.cause_is none h.is;
    cause_is = h.cause_is;
    subject_is = h.subject_is;
  }

  unanalysed : (fault : AnalysisFault) → of_shape (refusals.NoAnalysis fault) ≡ None → IsAnalysisFault cs (with_shape s shape) text fault → IsAnalysisFault cs (with_shape s widest) text fault
  unanalysed (faults.MethodTooLong m n blocks) none h = absurd (none≢some found.TooLong (sym none))
  unanalysed (faults.BadBounds line) none h = (fit_widest cs s shape is h.0, h.1)
  unanalysed (faults.TwiceBound line) none h = (fit_widest cs s shape is h.0, h.1)
  unanalysed faults.NoMemory none h = tt

  pub refused : (r : NotBounded) → of_shape r ≡ None → IsNotBounded cs (with_shape s shape) text name r → IsShapeRefusal cs s text name r
  refused (refusals.NoAnalysis fault) none h = (none, unanalysed fault none h)
  refused (refusals.Forbidden cause subject) none h = (none, forbidden cause subject none h)
  refused refusals.NoMemory none h = (none, tt)

module _ (cs : List ClassFile) (s : Settings) (text name : List ℕ) where
  -- with settings that have a shape
  pub refused_by : (shape : Shape) (u : Settings) → IsSettingsShape shape → u ≡ with_shape s shape → (r : NotBounded) → of_shape r ≡ None → IsNotBounded cs u text name r → IsShapeRefusal cs s text name r
  refused_by shape u is e r none h = refused cs s text name shape is r none (subst (λ (v : Settings). IsNotBounded cs v text name r) e h)

  spent : (r : NotBounded) → r ≡ refusals.NoMemory → IsShapeRefusal cs s text name r
  spent r e = subst (λ (x : NotBounded). IsShapeRefusal cs s text name x) (sym e) (refl, tt)

  pub spent_err : {T : Type 0} (r : Result T NotBounded) → IfErr r (λ x. x ≡ refusals.NoMemory) → IfErr r (IsShapeRefusal cs s text name)
  spent_err (Ok x) h = tt
  spent_err (Err r) h = spent r h

-- ---- texts that are put one behind another

pub on_ok : {T E : Type 0} (r : Result T E) (p q : Type 0) → (p → q) → OnOk r p → OnOk r q
on_ok (Ok x) p q f h = f h
on_ok (Err e) p q f h = tt

-- ---- the lines

lines_joined : (xs ys : List Shape) (bs cs : List ShapeBound) (R : Shape → ShapeBound → Type 0) → AllZip R xs bs → shape_lines (xs ++ ys) (bs ++ cs) ≡ shape_lines xs bs ++ shape_lines ys cs
lines_joined [] ys [] cs R zip = refl
lines_joined [] ys (b ∷ bs) cs R zip = absurd zip
lines_joined (x ∷ xs) ys [] cs R zip = absurd zip
lines_joined (x ∷ xs) ys (b ∷ bs) cs R zip = ap (λ (l : List ℕ). shape_line x b ++ l) (lines_joined xs ys bs cs R zip.1) ∙ sym (append_assoc (shape_line x b) (shape_lines xs bs) (shape_lines ys cs))

zipped : (xs ys : List Shape) (bs cs : List ShapeBound) (R : Shape → ShapeBound → Type 0) → AllZip R xs bs → AllZip R ys cs → AllZip R (xs ++ ys) (bs ++ cs)
zipped [] ys [] cs R zip more = more
zipped [] ys (b ∷ bs) cs R zip more = absurd zip
zipped (x ∷ xs) ys [] cs R zip more = absurd zip
zipped (x ∷ xs) ys (b ∷ bs) cs R zip more = (zip.0, zipped xs ys bs cs R zip.1 more)

module _ (cs : List ClassFile) (s : Settings) (text name : List ℕ) where
  pub none_yet : AreLinesOfShapes cs s text name [] []
  none_yet = record { bounds = []; each = tt; text_is = refl }

  pub one : (shape : Shape) (bound : ShapeBound) (line : List ℕ) → IsShapeBound cs (with_shape s shape) text name bound → line ≡ shape_line shape bound → AreLinesOfShapes cs s text name (shape ∷ []) line
  one shape bound line is e = record { bounds = bound ∷ []; each = (is, tt); text_is = e ∙ sym (append-nil (shape_line shape bound)) }

  pub joined : (xs ys : List Shape) (front back all : List ℕ) → AreLinesOfShapes cs s text name xs front → AreLinesOfShapes cs s text name ys back → all ≡ front ++ back → AreLinesOfShapes cs s text name (xs ++ ys) all
  joined xs ys front back all first later e =
      let R : Shape → ShapeBound → Type 0 = λ shape bound. IsShapeBound cs (with_shape s shape) text name bound in
      record {
        bounds = first.bounds ++ later.bounds;
        each = zipped xs ys first.bounds later.bounds R first.each later.each;
        text_is = e ∙ ap (λ (l : List ℕ). l ++ back) first.text_is ∙ ap (λ (l : List ℕ). shape_lines xs first.bounds ++ l) later.text_is ∙ sym (lines_joined xs ys first.bounds later.bounds R first.each);
      }

  -- one line more
  pub longer : (xs : List Shape) (k : ℕ) (other : Shape) (front line all : List ℕ) → k < length xs → AreLinesOfShapes cs s text name (take k xs) front → AreLinesOfShapes cs s text name (get_or xs k other ∷ []) line → all ≡ front ++ line
      → AreLinesOfShapes cs s text name (take (k + 1) xs) all
  longer xs k other front line all below first later e =
      let P : List Shape → Type 0 = λ ys. AreLinesOfShapes cs s text name ys all in
      subst P (sym (take_more xs k other below)) (joined (take k xs) (get_or xs k other ∷ []) front line all first later e)

  pub line_ok : (shape : Shape) (u : Settings) (bound : ShapeBound) (r : Result (Vec ℕ Global) NotBounded) → u ≡ with_shape s shape → IsShapeBound cs u text name bound → IfOk r (λ line. line.items ≡ shape_line shape bound)
      → IfOk r (λ line. AreLinesOfShapes cs s text name (shape ∷ []) line.items)
  line_ok shape u bound (Ok line) e is h = one shape bound line.items (subst (λ (v : Settings). IsShapeBound cs v text name bound) e is) h
  line_ok shape u bound (Err r) e is h = tt
