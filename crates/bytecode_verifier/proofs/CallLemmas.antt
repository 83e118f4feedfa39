-- Calls, once their arguments are taken.
use Rattle.std.proofs.Common.{◌≡◌, ℕ, Bool, true, false, not, ◌&&◌, ◌||◌, ◌==◌, [], ◌∷◌, List, map, reverse, ◌++◌, Option, Some, None, refl, sym, ap, ◌∙◌}
use Rattle.std.specs.Prelude.{if◌then◌else◌}
use Rattle.std.proofs.lemmas.Bool.{false≢true}
use Rattle.std.specs.Option.{option_map}
use Rattle.std.specs.List.{list_all}
use Rattle.bytecode_model.specs.Types as model
use Rattle.bytecode_model.specs.Types.{OfClass}
use Rattle.bytecode_model.specs.Program.{Method}
use Rattle.bytecode_typing.specs.Types.{VarType, TypeFrame, is_reference_type, is_initialized, result_types}
use Rattle.bytecode_typing.specs.Rules as rule
use Rattle.bytecode_typing.specs.Rules.{Checked, Fails, Leaves, need, found, on_type, on_argument_types}
use Rattle.bytecode_typing.specs.Checks as checks
use Rattle.bytecode_typing.specs.Checks.{seen, is_own_class}
use Rattle.program_tables.specs.Resolved.{resolved}
use Rattle.bytecode_verifier.specs.declared.around.Around.{Around}
use Rattle.bytecode_verifier.specs.Around.{StandsAt}
use Rattle.verifier_types.specs.Laws.{TakingLaw}
use Rattle.verifier_types.specs.Site.{Site}
use Rattle.verifier_types.specs.Taken.{arguments_taken}
use Rattle.bytecode_typing.specs.Types.{type_of}
use Rattle.bytecode_verifier.specs.Calls.{init_left, super_left}
use Rattle.bytecode_verifier.specs.Arguments.{all_taken, arguments_found}

by_found : (o : Option (List VarType × List VarType)) (b : Bool) (rest : List VarType) (go : Bool → List VarType → Checked) → Some (b, rest) ≡ option_map all_taken o
    → found o rule.Stack (λ x. go (list_all is_initialized x.0) x.1) ≡ go b rest
by_found None b rest go h = cc
by_found (Some x) b rest go h = ap (λ o. found o rule.Stack (λ y. go y.0 y.1)) (sym h)

by_lost : (o : Option (List VarType × List VarType)) (go : List VarType → List VarType → Checked) → None ≡ option_map all_taken o → found o rule.Stack (λ x. go x.0 x.1) ≡ Fails rule.Stack
by_lost None go h = refl
by_lost (Some x) go h = cc

pub arguments_there : TakingLaw → (s : Site) (ps ds : List model.Declared) (st : List VarType) (b : Bool) (rest : List VarType) (go : Bool → List VarType → Checked) → ps ≡ ds
    → Some (b, rest) ≡ arguments_found s (reverse ds) st
    → on_argument_types s.program (seen s.program s.number s.method) (reverse ps) st (λ taken rest2. go (list_all is_initialized taken) rest2) ≡ go b rest
arguments_there law s ps ds st b rest go e h =
    ap (λ qs. on_argument_types s.program (seen s.program s.number s.method) (reverse qs) st (λ taken rest2. go (list_all is_initialized taken) rest2)) e
    ∙ (law.arguments s.program (seen s.program s.number s.method) (reverse ds) st (λ taken rest2. go (list_all is_initialized taken) rest2)
    ∙ by_found (arguments_taken s.program (seen s.program s.number s.method) (map type_of (reverse ds)) st) b rest go h)

pub arguments_lost : TakingLaw → (s : Site) (ps ds : List model.Declared) (st : List VarType) (go : List VarType → List VarType → Checked) → ps ≡ ds → None ≡ arguments_found s (reverse ds) st
    → on_argument_types s.program (seen s.program s.number s.method) (reverse ps) st go ≡ Fails rule.Stack
arguments_lost law s ps ds st go e h =
    ap (λ qs. on_argument_types s.program (seen s.program s.number s.method) (reverse qs) st go) e
    ∙ (law.arguments s.program (seen s.program s.number s.method) (reverse ds) st go ∙ by_lost (arguments_taken s.program (seen s.program s.number s.method) (map type_of (reverse ds)) st) go h)

-- ---- the current class

pub own_class : (s : Site) (a : Around) (named : ℕ) → StandsAt a s
    → is_own_class s.program s.method named ≡ (named == a.owner || ((resolved a.classes.now).extends a.owner named && not ((resolved a.classes.now).is_interface named)))
own_class s a named st =
    ap (λ P. is_own_class P s.method named) st.program
    ∙ ap (λ o. named == o || ((resolved a.classes.now).extends o named && not ((resolved a.classes.now).is_interface named))) st.owner

-- ---- frames

pub leaves_frame : (ls ls2 st st2 : List VarType) (fl fl2 i i2 : Bool) → ls ≡ ls2 → st ≡ st2 → fl ≡ fl2 → i ≡ i2
    → Leaves (Some (record { locals = ls; stack = st; flag = fl })) true i true ≡ Leaves (Some (record { locals = ls2; stack = st2; flag = fl2 })) true i2 true
leaves_frame ls ls2 st st2 fl fl2 i i2 a b c d = cc

-- ---- invokespecial, once its arguments are taken

abbrev pub checks_special : Site → TypeFrame → (named : ℕ) → (all : Bool) → Method → (stack : List VarType) → Checked
checks_special s f named all k stack =
    on_type stack (λ t rest. if k.is_init
    then need (is_reference_type t) rule.Stack
    (Leaves (Some (checks.begun s.program s.number s.method s.body s.maps s.place f t rest)) true (all && checks.may_begin s.program s.number s.method s.body s.maps s.place f named t) true)
    else need (is_own_class s.program s.method named && checks.is_seen_as s.program s.number s.method s.body s.maps s.place f (OfClass s.method.owner) t) rule.Stack
    (Leaves (Some (record f { stack = result_types k.result ++ rest })) (checks.may_access s.program s.number s.method s.body s.maps s.place f t) (is_initialized t && all) true))

pub if_init : (s : Site) (f : TypeFrame) (named : ℕ) (all : Bool) (k : Method) (stack : List VarType) → k.is_init ≡ true → init_left s f named all stack ≡ checks_special s f named all k stack
if_init s f named all k [] h = refl
if_init s f named all k (t ∷ rest) h = sym (picked k.is_init _ _ h)
  where
    picked : {A : Type 0} (b : Bool) (x y : A) → b ≡ true → (if b then x else y) ≡ x
    picked true x y h = refl
    picked false x y h = absurd (false≢true h)

pub if_other : (s : Site) (f : TypeFrame) (named : ℕ) (all : Bool) (k : Method) (stack : List VarType) → k.is_init ≡ false → super_left s f named all k stack ≡ checks_special s f named all k stack
if_other s f named all k [] h = refl
if_other s f named all k (t ∷ rest) h = sym (picked k.is_init _ _ h)
  where
    picked : {A : Type 0} (b : Bool) (x y : A) → b ≡ false → (if b then x else y) ≡ y
    picked true x y h = absurd (false≢true (sym h))
    picked false x y h = refl
