-- What is told of a method is of it.
use Rattle.std.proofs.Common.{◌≡◌, ◌≢◌, ℕ, ◌*◌, ◌<◌, List, [], ◌∷◌, length, map, Contains, refl, sym, ◌∙◌, ap, subst, arith, Option, Some, None, true, false, inl, inr}
use Rattle.std.specs.Prelude.{slice_get, IsSome, Result, Ok, Err, IfOk}
use Rattle.std.proofs.lemmas.Bool.{cases_lt, eqb-true}
use Rattle.std.proofs.lemmas.List.Elements.{All-contains}
use Rattle.std.proofs.lemmas.Option.{slice_get_within, get_or_from_slice_get}
use Rattle.lists.proofs.Lemmas.{none≢some, some_is}
use Rattle.lists.specs.Members.{nil_contains}
use Rattle.class_pool.specs.declared.class.ClassFile.{ClassFile}
use Rattle.class_pool.specs.declared.class.Code.{Code}
use Rattle.loop_nest.specs.Digraph.{Digraph}
use Rattle.loop_nest.specs.Reduction.{IsReducible, Leaves}
use Rattle.bytecode_model.specs.Program.{Program, Body, body_of}
use Rattle.program_tables.specs.Laws.{MethodsStandByNumber}
use Rattle.program_tables.specs.Resolved.{resolved}
use Rattle.method_flow.specs.Compact.{IsCompact}
use Rattle.compact_walks.specs.Laws.{GraphsAreMoved, PartsAreSound, EndsAreOne}
use Rattle.bound_rules.specs.Bounding.{IsLeftWith}
use Rattle.bound_rules.specs.Laws.{GraphsAreOne}
use Rattle.bound_causes.specs.Headers.{HeadsLoop}
use Rattle.bound_causes.specs.Shapes.{IsShape}
use Rattle.bound_causes.specs.declared.shapes.Shape.{Shape}
use Rattle.bound_causes.specs.declared.shapes.Shape.TheVariants.{Irreducible, Reducible}
use Rattle.source_places.specs.declared.methods.sources.MethodSource.{MethodSource}
use Rattle.source_places.specs.Methods.Sources.{code_in, source_at}
use Rattle.source_places.specs.Methods.Told.{source_by, IsSourceOf}
use Rattle.source_places.proofs.MethodsLemmas.BodyLemmas.{body_is}
use Rattle.bound_report.specs.Contents.Rows.{IsCodePlace}
use Rattle.source_headers.specs.Straying.{IsHeaderAt}
use Rattle.source_headers.specs.Told.{headed_places, has_no_loops, IsToldPlace}

pub contains_got : {X : Type 0} (xs : List X) (i : ℕ) (x : X) → slice_get xs i ≡ Some x → Contains xs x
contains_got xs i x h = (i, slice_get_within xs i x h, get_or_from_slice_get xs i x x h)

-- ---- the method with a code

-- the header of a loop is within the code
header_within : (P : Program) (m p : ℕ) → HeadsLoop P m p → IsCodePlace P m p
header_within P m p h =
    let b = some_is (body_of P m) (λ (b : Body). h.graph.nodes ≡ 2 * length b.code) h.is_graph.size in
    let ends = All-contains (λ (e : ℕ × ℕ). (e.0 < h.graph.nodes) × (e.1 < h.graph.nodes)) h.graph.edges (h.header.0, 2 * p) h.is_graph.digraph.edges.ends h.header.1.edge in
    (b.0, b.1, omega (arith, ends.1, b.2))

told_within : (P : Program) (m : ℕ) (shape : Shape) → IsShape P m shape → (p : ℕ) → IsToldPlace P m shape p → IsCodePlace P m p
told_within P m (Irreducible nodes) h p within = within
told_within P m (Reducible places) h p c = header_within P m p ((h.1.each p).0 c)

-- a place that is within a code
pub record IsPlaceIn (cs : List ClassFile) (m p : ℕ) : Type 0 where
  pub code : Code
  pub code_is : code_in cs m ≡ Some code
  pub within : p < length code.code

place_in : MethodsStandByNumber → (cs : List ClassFile) (m p : ℕ) → IsCodePlace (resolved cs) m p → IsPlaceIn cs m p
place_in by_number cs m p h =
    let body = body_is by_number cs m h.0 h.1 in
    record { code = body.code; code_is = body.code_is; within = subst (λ (bytes : List ℕ). p < length bytes) body.same h.2 }

pub header_in : MethodsStandByNumber → (cs : List ClassFile) (m : ℕ) (shape : Shape) → IsShape (resolved cs) m shape → (p : ℕ) → Contains (headed_places shape) p → IsPlaceIn cs m p
header_in by_number cs m (Irreducible nodes) h p c = absurd (nil_contains p c)
header_in by_number cs m (Reducible places) h p c = place_in by_number cs m p (header_within (resolved cs) m p ((h.1.each p).0 c))

-- ---- its source

pub source_at_places : {E : Type 0} → MethodsStandByNumber → (cs : List ClassFile) (m : ℕ) (shape : Shape) → IsShape (resolved cs) m shape → (r : Result (Option MethodSource) E) → IfOk r (IsSourceOf cs m)
    → IfOk r (λ source. (p : ℕ) → IsToldPlace (resolved cs) m shape p → source_by source p ≡ source_at cs m p)
source_at_places by_number cs m shape h (Ok source) is = λ p told.
    let at = place_in by_number cs m p (told_within (resolved cs) m shape h p told) in is.lines at.code at.code_is p at.within
source_at_places by_number cs m shape h (Err e) is = tt

body_there : (o : Option Body) → IsSome o → (b : Body) × (o ≡ Some b)
body_there None h = absurd (let f : false ≡ true = h in cc)
body_there (Some b) h = (b, refl)

source_within : MethodsStandByNumber → (cs : List ClassFile) (m : ℕ) → IsSome (body_of (resolved cs) m) → (source : Option MethodSource) → IsSourceOf cs m source → (p : ℕ) (s : List ℕ × ℕ)
    → source_by source p ≡ Some s → IsCodePlace (resolved cs) m p
source_within by_number cs m coded source is p s told =
    let b = body_there (body_of (resolved cs) m) coded in
    let body = body_is by_number cs m b.0 b.1 in
    elim (cases_lt p (length body.code.code)) [
      | inl lt ↦ (b.0, b.1, subst (λ (bytes : List ℕ). p < length bytes) (sym body.same) lt)
      | inr ge ↦ absurd (none≢some s (sym (is.beyond body.code body.code_is p ge) ∙ told))
    ]

pub source_in_code : {E : Type 0} → MethodsStandByNumber → (cs : List ClassFile) (m : ℕ) → IsSome (body_of (resolved cs) m) → (r : Result (Option MethodSource) E) → IfOk r (IsSourceOf cs m)
    → IfOk r (λ source. (p : ℕ) (s : List ℕ × ℕ) → source_by source p ≡ Some s → IsCodePlace (resolved cs) m p)
source_in_code by_number cs m coded (Ok source) is = source_within by_number cs m coded source is
source_in_code by_number cs m coded (Err e) is = tt

-- a method of no loops has no such places
pub told_nowhere : (P : Program) (m : ℕ) (shape : Shape) → has_no_loops shape ≡ true → (p : ℕ) → IsToldPlace P m shape p → ⊥
told_nowhere P m (Irreducible nodes) none p told = absurd (let f : false ≡ true = none in cc)
told_nowhere P m (Reducible places) none p told =
    let empty : length places.items ≡ 0 = eqb-true (length places.items) 0 none in
    let below = told.1 in
    omega arith

-- ---- all headers

map_nil : (f : ℕ → ℕ) (xs : List ℕ) → [] ≡ map f xs → xs ≡ []
map_nil f [] e = refl
map_nil f (x ∷ xs) e = let bad : ⊥ = cc in absurd bad

-- the reduction of a method's graph doesn't leave nodes and none
pub not_both : GraphsAreMoved → PartsAreSound → EndsAreOne → GraphsAreOne → (P : Program) (m : ℕ) (nodes : List ℕ) → IsLeftWith P m nodes → nodes ≢ [] → IsLeftWith P m [] → ⊥
not_both moves sound ends one P m nodes h some k =
    let same : k.graph ≡ h.graph = one P m k.graph h.graph k.is_graph h.is_graph in
    let compact : IsCompact h.graph k.compact k.node = subst (λ (g : Digraph). IsCompact g k.compact k.node) same k.is_compact in
    let whole = moves P m h.graph k.compact k.node (inl h.is_graph) compact in
    let part = moves P m h.graph h.compact h.node (inl h.is_graph) h.is_compact in
    let none : k.left ≡ [] = map_nil k.node k.left k.nodes_are in
    let reducible : IsReducible k.compact = subst (λ (us : List ℕ). Leaves k.compact us) none k.leaves in
    let also = (sound h.graph h.graph k.compact h.compact k.node h.node whole part (λ u v e. e) reducible).reducible in
    let left : h.left ≡ [] = ends h.graph h.compact h.node h.is_compact h.left [] h.leaves also in
    some (h.nodes_are ∙ ap (map h.node) left)

pub all_headed : GraphsAreMoved → PartsAreSound → EndsAreOne → GraphsAreOne → (P : Program) (m : ℕ) (shape : Shape) → IsShape P m shape → (p : ℕ) → IsHeaderAt P m p → Contains (headed_places shape) p
all_headed moves sound ends one P m (Irreducible nodes) h p at = absurd (not_both moves sound ends one P m nodes.items h.0 h.1 at.single)
all_headed moves sound ends one P m (Reducible places) h p at = (h.1.each p).1 ((at.are.each p).0 at.among)
