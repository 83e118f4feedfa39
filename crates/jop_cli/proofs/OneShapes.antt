-- The lines of all shapes of the method cache are one text.
use Rattle.std.proofs.Common.{◌≡◌, ℕ, List, [], ◌∷◌, Option, Some, refl, sym, ◌∙◌, ap, ap₂, subst}
use Rattle.std.specs.List.{AllZip}
use Rattle.lists.proofs.Lemmas.{none≢some}
use Rattle.class_pool.specs.declared.class.ClassFile.{ClassFile}
use Rattle.program_tables.specs.Resolved.{resolved}
use Rattle.program_tables.specs.Resolving.{IsResolved}
use Rattle.name_laws.specs.Written.{written_name}
use Rattle.bytecode_model.specs.Program.{Program}
use Rattle.bound_texts.specs.Loops.Bounds.{LoopBound}
use Rattle.bound_texts.specs.Loops.Laws.{GivesOne}
use Rattle.method_flow.specs.Keeping.{BoundOf}
use Rattle.method_flow.specs.declared.timing.Timing.{Timing}
use Rattle.method_runs.specs.TypedGraphs.Laws.{TypedMethodsReachStarts}
use Rattle.activations.specs.Setting.{IsSetting}
use Rattle.bound_rules.specs.declared.faults.BoundRefusal.{BoundRefusal}
use Rattle.bound_rules.specs.declared.faults.BoundRefusal.TheVariants as forbids
use Rattle.bound_rules.specs.Bounding.{IsCause}
use Rattle.bound_rules.specs.Laws.{MethodsHaveCode, PrintedIsOne}
use Rattle.bound_rules.specs.Numbers.{IsPrinted}
use Rattle.bound_laws.specs.Causes.{IsForbidding, PrintedIsNotForbidden}
use Rattle.bound_laws.specs.Existing.{CallsEndWithoutRecursion}
use Rattle.answer_lines.specs.declared.bound.BoundCause.{BoundCause}
use Rattle.analysis_commands.specs.Analysis.{timing_of, bounds_of}
use Rattle.analysis_commands.specs.Bounding.{MethodHasName, IsBoundBy, IsBoundNumber, cause_of}
use Rattle.command_line.specs.declared.command.Settings.{Settings}
use Rattle.endings.specs.Settings.{linked_setting}
use Rattle.ask_commands.specs.declared.shapes.Shape.{Shape}
use Rattle.ask_commands.specs.declared.shapes.ShapeBound.{ShapeBound}
use Rattle.ask_commands.specs.declared.shapes.ShapeBound.TheVariants.{Number, TooLong, TooLarge}
use Rattle.ask_commands.specs.Shapes.{with_shape, all_shapes, shape_lines, IsShapeBound}
use Rattle.jop_cli.specs.promises.Bound.{NamesTellMethods}
use Rattle.jop_cli.specs.promises.AllBounds.{ShapesAreOne}
use Rattle.jop_cli.proofs.OnePlan.{one_printed}

-- what has a cause forbids a bound
forbidding : (P : Program) (t : Timing) (bound_of : BoundOf) (named : ℕ → Type 0) (refusal : BoundRefusal) (cause : BoundCause) → cause_of refusal ≡ Some cause
    → IsCause P t bound_of named refusal → IsForbidding P t bound_of named refusal
forbidding P t bound_of named forbids.NoMethod cause is h = h
forbidding P t bound_of named (forbids.Recursion cycle) cause is h = h
forbidding P t bound_of named (forbids.Irreducible m nodes) cause is h = h
forbidding P t bound_of named (forbids.MissingBound m p) cause is h = h
forbidding P t bound_of named (forbids.TooLarge m) cause is h = h
forbidding P t bound_of named forbids.NoMemory cause is h = absurd (none≢some cause is)

one_zip : (R : Shape → ShapeBound → Type 0) → ((x : Shape) (u v : ShapeBound) → R x u → R x v → u ≡ v) → (xs : List Shape) (us vs : List ShapeBound)
    → AllZip R xs us → AllZip R xs vs → us ≡ vs
one_zip R one [] [] [] a b = refl
one_zip R one [] [] (v ∷ vs) a b = absurd b
one_zip R one [] (u ∷ us) vs a b = absurd a
one_zip R one (x ∷ xs) [] vs a b = absurd a
one_zip R one (x ∷ xs) (u ∷ us) [] a b = absurd b
one_zip R one (x ∷ xs) (u ∷ us) (v ∷ vs) a b = ap₂ (λ (w : ShapeBound) (ws : List ShapeBound). w ∷ ws) (one x u v a.0 b.0) (one_zip R one xs us vs a.1 b.1)

module _ (gives : GivesOne) (printed : PrintedIsOne) (end : CallsEndWithoutRecursion) (have_code : MethodsHaveCode) (reach : TypedMethodsReachStarts)
    (none : PrintedIsNotForbidden) (names : NamesTellMethods) (cs : List ClassFile) (are : IsResolved cs) (setting : IsSetting (linked_setting cs 0 0))
    (bounds_text name : List ℕ) where
  module _ (s : Settings) where
    one_number : (a b : Option ℕ) → IsBoundNumber cs s bounds_text name a → IsBoundNumber cs s bounds_text name b → a ≡ b
    one_number a b h k =
        let same : h.bounds ≡ k.bounds = gives bounds_text h.bounds k.bounds h.bounds_read k.bounds_read in
        let moved : IsBoundBy (resolved cs) (timing_of s) (bounds_of cs k.bounds) (MethodHasName cs name) h.certificate =
        subst (λ (bs : List LoopBound). IsBoundBy (resolved cs) (timing_of s) (bounds_of cs bs) (MethodHasName cs name) h.certificate) same h.is in
        let root : k.certificate.root ≡ h.certificate.root =
        names cs are k.certificate.root h.certificate.root k.is.asked.coded moved.asked.coded (k.is.asked.is_named ∙ sym moved.asked.is_named) in
        let other : IsPrinted (resolved cs) (timing_of s) (bounds_of cs k.bounds) h.certificate.root k.certificate.bound =
        subst (λ (m : ℕ). IsPrinted (resolved cs) (timing_of s) (bounds_of cs k.bounds) m k.certificate.bound) root k.is.printed in
        let bound : h.certificate.bound ≡ k.certificate.bound =
        one_printed printed end have_code reach (resolved cs) (linked_setting cs 0 0).types setting.typed setting.lawful (timing_of s) (bounds_of cs k.bounds) h.certificate.root
        moved.asked.coded moved.no_cause.calls h.certificate.bound k.certificate.bound moved.printed other in
        h.bound_is ∙ (bound ∙ sym k.bound_is)

    not_large : (a : Option ℕ) → IsBoundNumber cs s bounds_text name a → IsShapeBound cs s bounds_text name TooLarge → ⊥
    not_large a h large =
        let f = large.2 in
        let same : h.bounds ≡ f.bounds = gives bounds_text h.bounds f.bounds h.bounds_read f.bounds_read in
        let moved : IsBoundBy (resolved cs) (timing_of s) (bounds_of cs f.bounds) (MethodHasName cs name) h.certificate =
        subst (λ (bs : List LoopBound). IsBoundBy (resolved cs) (timing_of s) (bounds_of cs bs) (MethodHasName cs name) h.certificate) same h.is in
        none (resolved cs) (timing_of s) (bounds_of cs f.bounds) (written_name cs) name h.certificate.root h.certificate.bound f.refusal (names cs are) moved.asked moved.no_cause
        moved.printed
        (forbidding (resolved cs) (timing_of s) (bounds_of cs f.bounds) (MethodHasName cs name) f.refusal _ f.cause_is f.is)

    one_shape : (a b : ShapeBound) → IsShapeBound cs s bounds_text name a → IsShapeBound cs s bounds_text name b → a ≡ b
    one_shape (Number a) (Number b) h k = ap Number (one_number a b h k)
    one_shape (Number a) TooLong h k = absurd (k h.codes_fit)
    one_shape (Number a) TooLarge h k = absurd (not_large a h k)
    one_shape TooLong (Number b) h k = absurd (h k.codes_fit)
    one_shape TooLong TooLong h k = refl
    one_shape TooLong TooLarge h k = absurd (h k.2.codes_fit)
    one_shape TooLarge (Number b) h k = absurd (not_large b k h)
    one_shape TooLarge TooLong h k = absurd (k h.2.codes_fit)
    one_shape TooLarge TooLarge h k = refl

pub shapes_are_one : GivesOne → PrintedIsOne → CallsEndWithoutRecursion → MethodsHaveCode → TypedMethodsReachStarts → PrintedIsNotForbidden → NamesTellMethods → ShapesAreOne
shapes_are_one gives printed end have_code reach none names cs are setting s bounds_text name text other a b =
    let same : a.bounds ≡ b.bounds =
    one_zip (λ (x : Shape) (bound : ShapeBound). IsShapeBound cs (with_shape s x) bounds_text name bound)
    (λ x. one_shape gives printed end have_code reach none names cs are setting bounds_text name (with_shape s x)) all_shapes a.bounds b.bounds a.each b.each in
    a.text_is ∙ (ap (shape_lines all_shapes) same ∙ sym b.text_is)
