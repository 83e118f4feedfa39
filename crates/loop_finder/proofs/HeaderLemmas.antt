-- Where the loops of a method are headed, and that a method without loops has none that count.
use Rattle.std.proofs.Common.{◌≡◌, ◌≢◌, ◌↔◌, ◌⊎◌, ℕ, ◌/◌, zero, suc, ◌+◌, ◌<◌, List, [], ◌∷◌, ◌++◌, length, map, get_or, All, Contains, Some, refl, sym, ap, ◌∙◌, subst, inl, inr, arith}
use Rattle.std.specs.Prelude.{slice_get, slice_index}
use Rattle.std.specs.List.{range_with_len}
use Rattle.std.proofs.lemmas.List.{length-append}
use Rattle.std.proofs.lemmas.List.Elements.{All-contains_itself, All-filter, All-tail, All-weaker}
use Rattle.lists.proofs.Lemmas.{none≢some, some_same}
use Rattle.lists.specs.Members.{nil_contains}
use Rattle.bytecode_model.specs.Program.{Program}
use Rattle.loop_nest.specs.Digraph.{Digraph, IsDigraph}
use Rattle.loop_nest.specs.Walks.{IsHeader}
use Rattle.loop_nest.specs.Nest.{NaturalLoop, headers_of, IsNest}
use Rattle.loop_nest.specs.Reduction.{Quotient, Reduces, Leaves}
use Rattle.loop_nest.specs.Reduction.Reduces.{done, drops, merges}
use Rattle.loop_nest.proofs.Elements.{from_range}
use Rattle.loop_nest.proofs.Ends.{ends_within}
use Rattle.method_flow.specs.Graphs.{IsGraphOf}
use Rattle.method_flow.specs.Nodes.{At, number_of}
use Rattle.flow_graph.specs.Numbering.{IsCompactOf}
use Rattle.flow_graph.specs.declared.numbering.Compact.{Compact}
use Rattle.bound_rules.specs.Laws.{GraphsAreOne}
use Rattle.compact_walks.specs.Moving.{IsMoved}
use Rattle.compact_walks.specs.Laws.{MovedHeaders}
use Rattle.loop_acts.specs.Rules.{Rules}
use Rattle.loop_finder.specs.Counted.{CountsWith, IsCountedWith}
use Rattle.loop_finder.specs.declared.headers.LoopHeaders.{LoopHeaders}
use Rattle.loop_finder.specs.declared.headers.LoopHeaders.TheVariants.{Irreducible, Reducible}
use Rattle.loop_finder.specs.Headers.{AreHeadersOf, AreLeftIn, AreMethodHeaders, ArePlacesOf}
use Rattle.loop_finder.specs.Methods.{AreMethodBounds}

-- ---- nodes that are left are nodes

within_whole : (n : ℕ) → All (λ u. u < n) (range_with_len 0 n)
within_whole n = All-weaker (Contains (range_with_len 0 n)) (λ (u : ℕ). u < n) (from_range n) (range_with_len 0 n) (All-contains_itself (range_with_len 0 n))

left_within : (n : ℕ) {s t : Quotient} → Reduces s t → All (λ (u : ℕ). u < n) s.nodes → All (λ (u : ℕ). u < n) t.nodes
left_within n done h = h
left_within n (drops {s} {t} {u} p step more) h = let Q : List ℕ → Type 0 = λ xs. All (λ (u : ℕ). u < n) xs in left_within n more (subst Q (sym step.nodes) h)
left_within n (merges {s} {t} {u} x p step more) h =
    let Q : List ℕ → Type 0 = λ xs. All (λ (u : ℕ). u < n) xs in
    left_within n more (subst Q (sym step.nodes) (All-filter _ (λ (u : ℕ). u < n) s.nodes h))

pub leaves_nodes : (d : Digraph) (left : List ℕ) → Leaves d left → All (λ u. u < d.nodes) left
leaves_nodes d left l =
    let Q : List ℕ → Type 0 = λ xs. All (λ (u : ℕ). u < d.nodes) xs in
    All-tail (λ (u : ℕ). u < d.nodes) 0 left (subst Q l.nodes (left_within d.nodes l.steps (within_whole d.nodes)))

pub heads_low : (nodes : List ℕ) (d : Digraph) → IsDigraph d → length nodes ≡ d.nodes → (ls : List NaturalLoop) → IsNest d ls → All (λ l. l.header < length nodes) ls
heads_low nodes d wf long ls nest k e lt =
    let l = nest.loops k e lt in
    let below : (get_or ls k e).header < d.nodes = (ends_within wf l.header.0 (get_or ls k e).header l.header.1.edge).1 in
    omega arith

-- ---- one method

module _ (P : Program) (m : ℕ) (g : Digraph) (is : IsGraphOf P m g) (c : Compact) (compact : IsCompactOf g c) where
  pub headed_is : (ls : List NaturalLoop) → Leaves c.graph [] → IsNest c.graph ls → (numbers : List ℕ) → numbers ≡ c.nodes → (x : LoopHeaders) → ArePlacesOf ls numbers x → AreHeadersOf P m x
  headed_is ls leaves nest numbers same (Irreducible nodes) are = absurd are
  headed_is ls leaves nest numbers same (Reducible places) are = record {
    graph = g;
    is_graph = is;
    compact = c;
    is_compact = compact;
    are = record { leaves = leaves; loops = ls; nest = nest; are = subst (λ (ns : List ℕ). places.items ≡ map (λ h. slice_index ns h / 2) (headers_of ls)) same are };
  }

  pub left_is : (left : List ℕ) → Leaves c.graph left → left ≢ [] → (nodes : List ℕ) → nodes ≡ map (slice_index c.nodes) left → AreLeftIn c nodes
  left_is left leaves some nodes are = record { left = left; leaves = leaves; some = some; are = are }

-- no loop counts where there are none
pub none_unless_headed : GraphsAreOne → MovedHeaders → (P : Program) (rules : Rules) (m : ℕ) (g : Digraph) → IsGraphOf P m g → (d : Digraph) (node : ℕ → ℕ) → IsMoved g d node → (ls : List NaturalLoop) → IsNest d ls → ls ≡ []
    → (bounds : List (ℕ × ℕ)) → bounds ≡ [] → AreMethodBounds P rules m bounds
none_unless_headed graphs headers P rules m g is d node moved ls nest none bounds empty = subst (λ (xs : List (ℕ × ℕ)). AreMethodBounds P rules m xs) (sym empty) (record { rising = λ k lt. absurd (omega arith); each = each })
  where
    no_header : (x : ℕ) → IsHeader g x → ⊥
    no_header x header =
        let r = (headers g d node moved x).0 header in
        nil_contains r.0 (subst (λ (ks : List NaturalLoop). Contains (headers_of ks) r.0) none (nest.complete r.0 r.2))

    each : (p n : ℕ) → Contains {X = ℕ × ℕ} [] (p, n) ↔ IsCountedWith P rules (record { method = m; place = p; bound = n })
    each p n = (
      λ has. absurd (nil_contains (p, n) has),
      λ l.
          let same = graphs P m l.graph g l.is_graph is in
          let counts = subst (λ (f : Digraph). CountsWith P rules m f p n) same l.counts in
          absurd (no_header (number_of (At p)) counts.each_step.member.0),
    )

-- ---- method by method

got_cases : {X : Type 0} (xs : List X) (y z : X) (m : ℕ) → slice_get (xs ++ y ∷ []) m ≡ Some z → (slice_get xs m ≡ Some z) ⊎ ((m ≡ length xs) × (y ≡ z))
got_cases [] y z zero h = inr (refl, some_same y z h)
got_cases [] y z (suc m) h = absurd (none≢some z h)
got_cases (x ∷ xs) y z zero h = inl h
got_cases (x ∷ xs) y z (suc m) h = elim (got_cases xs y z m h) [ inl old ↦ inl old | inr new ↦ inr (ap suc new.0, new.1) ]

pub no_headers : (P : Program) (xs : List LoopHeaders) → xs ≡ [] → AreMethodHeaders P 0 xs
no_headers P xs none = subst (λ (ys : List LoopHeaders). AreMethodHeaders P 0 ys) (sym none) (record { long = refl; each = λ m x is. absurd (none≢some x is) })

pub headers_more : (P : Program) (n : ℕ) (xs new : List LoopHeaders) (x : LoopHeaders) → AreMethodHeaders P n xs → AreHeadersOf P n x → new ≡ xs ++ x ∷ [] → AreMethodHeaders P (n + 1) new
headers_more P n xs new x h here more = subst (λ (ys : List LoopHeaders). AreMethodHeaders P (n + 1) ys) (sym more) (record { long = long; each = each })
  where
    long : length (xs ++ x ∷ []) ≡ n + 1
    long = let l = length-append xs (x ∷ []) in let k = h.long in omega arith

    each : (m : ℕ) (y : LoopHeaders) → slice_get (xs ++ x ∷ []) m ≡ Some y → AreHeadersOf P m y
    each m y is = elim (got_cases xs x y m is) [
      | inl old ↦ h.each m y old
      | inr new ↦ subst (λ (k : ℕ). AreHeadersOf P k y) (sym (new.0 ∙ h.long)) (subst (λ (z : LoopHeaders). AreHeadersOf P n z) new.1 here)
    ]

pub all_headers : (P : Program) (n count : ℕ) (xs : List LoopHeaders) → AreMethodHeaders P n xs → n ≡ count → AreMethodHeaders P count xs
all_headers P n count xs h same = subst (λ (k : ℕ). AreMethodHeaders P k xs) same h
