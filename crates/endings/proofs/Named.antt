-- The names of methods.
use Rattle.std.proofs.Common.{◌≡◌, ℕ, ◌+◌, ◌<◌, ◌≤◌, List, [], ◌∷◌, ◌++◌, length, map, take, Option, sym, ◌∙◌, ap, subst, arith}
use Rattle.std.specs.Prelude.{IfSome, IsSomeAnd, Vec}
use Rattle.std.specs.Option.{option_map_or}
use Rattle.std.specs.declared.alloc.Global.{Global}
use Rattle.std.proofs.lemmas.Option.{slice_get-get_or}
use Rattle.std.proofs.lemmas.List.{length-map, map_more, map-append}
use Rattle.class_pool.specs.declared.class.ClassFile.{ClassFile}
use Rattle.image_facts.specs.declared.method.CodedMethod.{CodedMethod}
use Rattle.image_facts.specs.Methods.{IsMethodRecord}
use Rattle.jopizer.specs.Methods.Placed.{AreOnly}
use Rattle.class_lookup.specs.Lookup.{Place}
use Rattle.program_tables.specs.Laws.{MethodsStandByNumber}
use Rattle.program_tables.specs.Numbers.{methods_by_number, method_text}
use Rattle.program_tables.specs.Resolved.{resolved, at_method}
use Rattle.name_laws.specs.Written.{written}
use Rattle.image_words.specs.Regions.{places_of}
use Rattle.bytecode_model.specs.Program.{body_of}
use Rattle.endings.specs.declared.show.Show.{Show}
use Rattle.endings.specs.declared.show.Show.TheVariants as shows
use Rattle.boundary.specs.Traces.{texts}
use Rattle.endings.specs.Show.{Shown, HaveNamesToShow, linked_shown}
use Rattle.endings.proofs.Endings.{method_there}

pub named_by : (shown : Shown) (methods others : List CodedMethod) → others ≡ methods → HaveNamesToShow shown methods → HaveNamesToShow shown others
named_by shown methods others same named = subst (HaveNamesToShow shown) (sym same) named

-- ---- by number

-- so many names
abbrev pub AreFirst : List ClassFile → (n : ℕ) → List (Vec ℕ Global) → Type 0
AreFirst cs n names = texts names ≡ map (λ m. written (method_text cs m)) (take n (methods_by_number cs))

-- with each number comes one name more
pub one_more : (cs : List ClassFile) (n : ℕ) (names : List (Vec ℕ Global)) (name : Vec ℕ Global) → n < length (methods_by_number cs) → AreFirst cs n names → name.items ≡ written (at_method cs n [] (method_text cs)) → AreFirst cs (n + 1) (names ++ name ∷ [])
one_more cs n names name within before is =
    let f : Place → List ℕ = λ m. written (method_text cs m) in
    let ms = methods_by_number cs in
    map-append (λ (x : Vec ℕ Global). x.items) names (name ∷ [])
    ∙ ap (λ ys. ys ++ name.items ∷ []) before
    ∙ ap (λ y. map f (take n ms) ++ y ∷ []) (is ∙ ap (λ (o : Option Place). written (option_map_or (method_text cs) o [])) (slice_get-get_or ms n (0, 0) within))
    ∙ sym (map_more f ms n (0, 0) within)

-- there are no more methods with code than methods
few : MethodsStandByNumber → (cs : List ClassFile) (methods : List CodedMethod) → AreOnly cs methods → length methods ≤ length (methods_by_number cs)
few by_number cs [] only = omega arith
few by_number cs (e ∷ es) only =
    let Q : ℕ → CodedMethod → Type 0 = λ m x. IsSomeAnd (body_of (resolved cs) m) (λ b. IsMethodRecord ((places_of cs).method m) b x) in
    let last = slice_get-get_or (e ∷ es) (length es) e (omega arith) in
    let has = subst (λ (o : Option CodedMethod). IfSome o (Q (length es))) last (only (length es)) in
    omega (arith, method_there by_number cs (length es) _ has)

pub named : MethodsStandByNumber → (cs : List ClassFile) (show : Show) (methods : List CodedMethod) → AreOnly cs methods → HaveNamesToShow (linked_shown cs show) methods
named by_number cs shows.Output methods only = tt
named by_number cs (shows.Trace cycles) methods only = omega (arith, few by_number cs methods only, length-map (methods_by_number cs) (λ (m : Place). written (method_text cs m)))
