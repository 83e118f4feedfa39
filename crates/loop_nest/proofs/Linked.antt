-- Links of a graph, chains of them, and blocks.
use Rattle.std.proofs.Common.{◌≡◌, ◌≢◌, ℕ, zero, suc, ◌+◌, ◌-◌, ◌<◌, ◌≤◌, ◌⊎◌, Bool, true, eqb, ◌||◌, List, [], ◌∷◌, ◌++◌, length, get_or, map, filter, All, Contains, refl, sym, ap, ◌∙◌, subst, inl, inr, arith}
use Rattle.std.specs.List.{list_any}
use Rattle.std.specs.List.Sorted.{IsStrictlyIncreasing}
use Rattle.std.proofs.lemmas.Bool.{cases_eq, cases_lt, cases_Bool, eq-eqb, ne_eqb, eqb-true}
use Rattle.std.proofs.lemmas.List.{get_or_append_left, get_or_push, length_push, map-append, length-map, get_or_default}
use Rattle.std.proofs.lemmas.List.Elements.{All-push, All-map, All-weaker, All-contains, Contains-append_left, Contains-push, Contains-get_or}
use Rattle.std.proofs.lemmas.Map.Keys.{IsDistinct-from_apart}
use Rattle.std.proofs.lemmas.Map.Steps.{length-le_from_distinct_below}
use Rattle.lists.specs.Members.{at_head, in_tail, cons_cases, nil_contains, map_contains}
use Rattle.loop_nest.specs.Digraph.{Digraph, Edge, IsDigraph, sources_of, AreSources, targets_of, turned}
use Rattle.loop_nest.specs.Walks.{Walk}
use Rattle.loop_nest.specs.Walks.Walk.{stay, along}
use Rattle.loop_nest.specs.Chains.{IsLink, IsChain, IsBlock, firsts_of, AreBlocks, IsChainFrom, IsLater, AreBlocksBelow}
use Rattle.loop_nest.proofs.Elements.{from_map, filter_contains, from_filter, kept_at, dropped_at, filter_at_most}
use Rattle.loop_nest.proofs.Searching.{sources_has, from_sources}
use Rattle.loop_nest.proofs.Ends.{ends_within}
use Rattle.loop_nest.proofs.Rising.{rising_push}

-- edges turned around have targets for sources
pub sources_of-turned : (es : List (ℕ × ℕ)) (u : ℕ) → sources_of (turned es) u ≡ targets_of es u
sources_of-turned [] u = refl
sources_of-turned (e ∷ es) u =
    let rest = sources_of-turned es u in
    let p : ℕ × ℕ → Bool = λ x. eqb x.1 u in
    let q : ℕ × ℕ → Bool = λ x. eqb x.0 u in
    let turn : ℕ × ℕ → ℕ × ℕ = λ x. (x.1, x.0) in
    let e' : ℕ × ℕ = (e.1, e.0) in
    let around : List (ℕ × ℕ) = map turn es in
    elim (cases_Bool (eqb e.0 u)) [
      | inl yes' ↦
          let a : filter p (e' ∷ around) ≡ e' ∷ filter p around = kept_at p e' around yes' in
          let b : filter q (e ∷ es) ≡ e ∷ filter q es = kept_at q e es yes' in
          let c : sources_of (e' ∷ around) u ≡ e.1 ∷ sources_of around u = ap (λ (xs : List (ℕ × ℕ)). map (λ (x : ℕ × ℕ). x.0) xs) a in
          let d : targets_of (e ∷ es) u ≡ e.1 ∷ targets_of es u = ap (λ (xs : List (ℕ × ℕ)). map (λ (x : ℕ × ℕ). x.1) xs) b in
          c ∙ ap (λ (ns : List ℕ). e.1 ∷ ns) rest ∙ sym d
      | inr no' ↦
          let a : filter p (e' ∷ around) ≡ filter p around = dropped_at p e' around no' in
          let b : filter q (e ∷ es) ≡ filter q es = dropped_at q e es no' in
          let c : sources_of (e' ∷ around) u ≡ sources_of around u = ap (λ (xs : List (ℕ × ℕ)). map (λ (x : ℕ × ℕ). x.0) xs) a in
          let d : targets_of (e ∷ es) u ≡ targets_of es u = ap (λ (xs : List (ℕ × ℕ)). map (λ (x : ℕ × ℕ). x.1) xs) b in
          c ∙ rest ∙ sym d
    ]

pub few_targets : (es : List (ℕ × ℕ)) (u : ℕ) → length (targets_of es u) ≤ length es
few_targets es u =
    let e = length-map (filter (λ (e : ℕ × ℕ). eqb e.0 u) es) (λ e. e.1) in
    let f = filter_at_most (λ (e : ℕ × ℕ). eqb e.0 u) es in
    omega arith

pub from_targets : (es : List (ℕ × ℕ)) (u v : ℕ) → Contains (targets_of es u) v → Contains es (u, v)
from_targets es u v has =
    let r = from_map (λ (e : ℕ × ℕ). e.1) (filter (λ e. eqb e.0 u) es) v has in
    let k = from_filter (λ (e : ℕ × ℕ). eqb e.0 u) es r.0 r.1 in
    let P : ℕ → Type 0 = λ z. Contains es (r.0.0, z) in
    let Q : ℕ → Type 0 = λ z. Contains es (z, v) in
    subst Q (eqb-true r.0.0 u k.1) (subst P r.2 k.0)

pub targets_has : (es : List (ℕ × ℕ)) (u v : ℕ) → Contains es (u, v) → Contains (targets_of es u) v
targets_has es u v has =
    map_contains (λ (e : ℕ × ℕ). e.1) (filter (λ e. eqb e.0 u) es) (u, v) (filter_contains (λ (e : ℕ × ℕ). eqb e.0 u) es (u, v) (eq-eqb u u refl) has)

-- a list of one element
pub the_one : (xs : List ℕ) (x : ℕ) → length xs ≡ 1 → Contains xs x → xs ≡ x ∷ []
the_one [] x e has = absurd (nil_contains x has)
the_one (y ∷ []) x e has = elim (cons_cases y x [] has) [ inl same ↦ ap (λ (z : ℕ). z ∷ []) same | inr there ↦ absurd (nil_contains x there) ]
the_one (y ∷ (z ∷ zs)) x e has = absurd (omega arith)

pub one_of : (xs : List ℕ) (x y : ℕ) → xs ≡ x ∷ [] → Contains xs y → y ≡ x
one_of xs x y is has =
    let P : List ℕ → Type 0 = λ zs. Contains zs y in
    elim (cons_cases x y [] (subst P is has)) [ inl same ↦ sym same | inr there ↦ absurd (nil_contains y there) ]

pub link_edge : {g : Digraph} {u v : ℕ} → IsLink g u v → Edge g u v
link_edge {g} {u} {v} l =
    let P : List ℕ → Type 0 = λ zs. Contains zs v in
    from_targets g.edges u v (subst P (sym l.successor) (at_head v []))

-- chains go back alike from the same node
goes_back : (g : Digraph) (ns : List ℕ) → IsChain g ns → ((w : ℕ) → IsLink g w (get_or ns 0 0) → ⊥) → (i d : ℕ) → i + suc d < length ns → get_or ns i 0 ≡ get_or ns (i + suc d) 0 → ⊥
goes_back g ns chain first zero d lt same =
    let l = chain d (omega arith) in
    let e : 0 + suc d ≡ d + 1 = omega arith in
    let P : ℕ → Type 0 = λ z. IsLink g (get_or ns d 0) z in
    first (get_or ns d 0) (subst P (sym (same ∙ ap (λ (k : ℕ). get_or ns k 0) e)) l)
goes_back g ns chain first (suc i) d lt same =
    let a = chain i (omega arith) in
    let b = chain (i + suc d) (omega arith) in
    let e : suc i ≡ i + 1 = omega arith in
    let f : suc i + suc d ≡ (i + suc d) + 1 = omega arith in
    let joined : get_or ns (i + 1) 0 ≡ get_or ns ((i + suc d) + 1) 0 =
    ap (λ (k : ℕ). get_or ns k 0) (sym e) ∙ same ∙ ap (λ (k : ℕ). get_or ns k 0) f in
    let before : get_or ns i 0 ∷ [] ≡ get_or ns (i + suc d) 0 ∷ [] =
    sym a.predecessor ∙ ap (λ (k : ℕ). sources_of g.edges k) joined ∙ b.predecessor in
    goes_back g ns chain first i d (omega arith) (ap (λ (ks : List ℕ). get_or ks 0 0) before)

apart_nodes : (g : Digraph) (ns : List ℕ) → IsChain g ns → ((w : ℕ) → IsLink g w (get_or ns 0 0) → ⊥) → (i j : ℕ) → i < j → j < length ns → get_or ns i 0 ≡ get_or ns j 0 → ⊥
apart_nodes g ns chain first i j less lt same =
    let d = j - suc i in
    let e : j ≡ i + suc d = omega arith in
    goes_back g ns chain first i d (omega arith) (same ∙ ap (λ (k : ℕ). get_or ns k 0) e)

any_contains : (xs : List ℕ) (q : ℕ) → list_any (eqb q) xs ≡ true → Contains xs q
any_contains [] q h = let bad : ⊥ = cc in absurd bad
any_contains (x ∷ xs) q h =
    elim (cases_eq q x) [
      | inl same ↦ let P : ℕ → Type 0 = λ z. Contains (x ∷ xs) z in subst P (sym same) (at_head x xs)
      | inr other ↦
          in_tail x q xs (any_contains xs q (ap (λ b. b || list_any (eqb q) xs) (sym (ne_eqb q x other)) ∙ h))
    ]

pub chain_short : (g : Digraph) (first last : ℕ) (ns : List ℕ) → (IsLater g first → ⊥) → IsChainFrom g first last ns → length ns ≤ g.nodes
chain_short g first last ns begins c =
    let P : ℕ → Type 0 = λ z. (w : ℕ) → IsLink g w z → ⊥ in
    let none : (w : ℕ) → IsLink g w (get_or ns 0 0) → ⊥ = subst P (sym c.begins) (λ w l. begins (w, l)) in
    length-le_from_distinct_below ns g.nodes (IsDistinct-from_apart eqb ns (λ i j d less lt.
    ne_eqb (get_or ns i d) (get_or ns j d) (λ e.
    apart_nodes g ns c.chain none i j less lt (get_or_default ns i 0 d (omega arith) ∙ e ∙ get_or_default ns j d 0 lt)))) (λ q has.
    All-contains (λ u. u < g.nodes) ns q c.within (any_contains ns q has))

pub chain_more : (g : Digraph) (first last v : ℕ) (ns : List ℕ) → IsDigraph g → IsLink g last v → IsChainFrom g first last ns → IsChainFrom g first v (ns ++ v ∷ [])
chain_more g first last v ns wf link c =
    let long = length_push ns v in
    let some = c.some in
    let zs = ns ++ v ∷ [] in
    record {
      some = omega arith;
      begins = get_or_append_left ns (v ∷ []) 0 0 some ∙ c.begins;
      ends = get_or_push ns v 0 (length zs - 1) (omega arith);
      chain = λ k lt.
          let P : ℕ → Type 0 = λ z. IsLink g z (get_or zs (k + 1) 0) in
          let Q : ℕ → Type 0 = λ z. IsLink g (get_or ns k 0) z in
          let at_k : get_or zs k 0 ≡ get_or ns k 0 = get_or_append_left ns (v ∷ []) 0 k (omega arith) in
          subst P (sym at_k) (
          elim (cases_lt (k + 1) (length ns)) [
            | inl inside ↦ subst Q (sym (get_or_append_left ns (v ∷ []) 0 (k + 1) inside)) (c.chain k inside)
            | inr end' ↦
                let at : k ≡ length ns - 1 = omega arith in
                let R : ℕ → Type 0 = λ z. IsLink g z v in
                subst Q (sym (get_or_push ns v 0 (k + 1) (omega arith))) (subst R (sym (ap (λ (j : ℕ). get_or ns j 0) at ∙ c.ends)) link)
          ]);
      within = All-push (λ u. u < g.nodes) ns v c.within (ends_within wf last v (link_edge link)).1;
    }

-- the one target of u is linked to it, where it has one source and is not node 0
pub linked : (g : Digraph) (u v : ℕ) → length (targets_of g.edges u) ≡ 1 → v ≡ get_or (targets_of g.edges u) 0 v → v ≢ 0 → length (sources_of g.edges v) ≡ 1 → IsLink g u v
linked g u v one is inner alone =
    let ts = targets_of g.edges u in
    let P : ℕ → Type 0 = λ z. Contains ts z in
    let has : Contains ts v = subst P (sym is) (Contains-get_or ts 0 v (omega arith)) in
    record {
      successor = the_one ts v one has;
      predecessor = the_one (sources_of g.edges v) u alone (sources_has g.edges u v (from_targets g.edges u v has));
      later = inner;
    }

pub not_linked_many : (g : Digraph) (u : ℕ) → (length (targets_of g.edges u) ≡ 1 → ⊥) → (v : ℕ) → IsLink g u v → ⊥
not_linked_many g u many v l = many (ap length l.successor)

pub not_linked_to : (g : Digraph) (u v : ℕ) → length (targets_of g.edges u) ≡ 1 → v ≡ get_or (targets_of g.edges u) 0 v → (v ≡ 0) ⊎ (length (sources_of g.edges v) ≡ 1 → ⊥) → (w : ℕ) → IsLink g u w → ⊥
not_linked_to g u v one is why w l =
    let ts = targets_of g.edges u in
    let P : ℕ → Type 0 = λ z. Contains ts z in
    let has : Contains ts v = subst P (sym is) (Contains-get_or ts 0 v (omega arith)) in
    let same : v ≡ w = one_of ts w v l.successor has in
    elim why [
      | inl at_entry ↦ l.later (sym same ∙ at_entry)
      | inr many ↦ many (ap (λ (z : ℕ). length (sources_of g.edges z)) same ∙ ap length l.predecessor)
    ]

pub linked_back : (g : Digraph) (u v : ℕ) → v ≢ 0 → length (sources_of g.edges v) ≡ 1 → u ≡ get_or (sources_of g.edges v) 0 u → length (targets_of g.edges u) ≡ 1 → IsLink g u v
linked_back g u v inner alone is one =
    let ss = sources_of g.edges v in
    let P : ℕ → Type 0 = λ z. Contains ss z in
    let has : Contains ss u = subst P (sym is) (Contains-get_or ss 0 u (omega arith)) in
    record {
      successor = the_one (targets_of g.edges u) v one (targets_has g.edges u v (from_sources g.edges u v has));
      predecessor = the_one ss u alone has;
      later = inner;
    }

pub not_later : (g : Digraph) (v : ℕ) → (v ≡ 0) ⊎ (length (sources_of g.edges v) ≡ 1 → ⊥) → IsLater g v → ⊥
not_later g v why l =
    elim why [
      | inl at_entry ↦ let k = l.1 in k.later at_entry
      | inr many ↦ let k = l.1 in many (ap length k.predecessor)
    ]

pub not_later_from : (g : Digraph) (u v : ℕ) → length (sources_of g.edges v) ≡ 1 → u ≡ get_or (sources_of g.edges v) 0 u → (length (targets_of g.edges u) ≡ 1 → ⊥) → IsLater g v → ⊥
not_later_from g u v alone is many l =
    let k = l.1 in
    let ss = sources_of g.edges v in
    let P : ℕ → Type 0 = λ z. Contains ss z in
    let same : u ≡ l.0 = one_of ss l.0 u k.predecessor (subst P (sym is) (Contains-get_or ss 0 u (omega arith))) in
    many (ap (λ (z : ℕ). length (targets_of g.edges z)) same ∙ ap length k.successor)

firsts-push : (bs : List (List ℕ)) (ns : List ℕ) (u : ℕ) → get_or ns 0 0 ≡ u → firsts_of (bs ++ ns ∷ []) ≡ firsts_of bs ++ u ∷ []
firsts-push bs ns u is = map-append (λ (zs : List ℕ). get_or zs 0 0) bs (ns ∷ []) ∙ ap (λ (z : ℕ). firsts_of bs ++ z ∷ []) is

pub blocks_more : (g : Digraph) (u : ℕ) (bs : List (List ℕ)) (ns : List ℕ) → IsBlock g ns → get_or ns 0 0 ≡ u → AreBlocksBelow g u bs → AreBlocksBelow g (u + 1) (bs ++ ns ∷ [])
blocks_more g u bs ns block is h =
    let firsts = firsts-push bs ns u is in
    let P : List ℕ → Type 0 = λ zs. IsStrictlyIncreasing zs in
    let Q : List ℕ → Type 0 = λ zs. All (λ z. z < u + 1) zs in
    record {
      blocks = All-push (IsBlock g) bs ns h.blocks block;
      rising = subst P (sym firsts) (rising_push (firsts_of bs) u h.rising h.below);
      below = subst Q (sym firsts) (All-push (λ z. z < u + 1) (firsts_of bs) u (All-weaker (λ z. z < u) (λ z. z < u + 1) (λ z lt. omega arith) (firsts_of bs) h.below) (omega arith));
      complete = λ k lt begins.
          let R : List ℕ → Type 0 = λ zs. Contains zs k in
          subst R (sym firsts) (
          elim (cases_lt k u) [
            | inl less ↦ Contains-append_left (firsts_of bs) (u ∷ []) k (h.complete k less begins)
            | inr not_less ↦
                let same : u ≡ k = omega arith in
                let S : ℕ → Type 0 = λ z. Contains (firsts_of bs ++ u ∷ []) z in
                subst S same (Contains-push (firsts_of bs) u)
          ]);
    }

pub blocks_same : (g : Digraph) (u : ℕ) (bs : List (List ℕ)) → IsLater g u → AreBlocksBelow g u bs → AreBlocksBelow g (u + 1) bs
blocks_same g u bs later h = record {
  blocks = h.blocks;
  rising = h.rising;
  below = All-weaker (λ z. z < u) (λ z. z < u + 1) (λ z lt. omega arith) (firsts_of bs) h.below;
  complete = λ k lt begins.
      elim (cases_lt k u) [
        | inl less ↦ h.complete k less begins
        | inr not_less ↦
            let same : u ≡ k = omega arith in
            let P : ℕ → Type 0 = λ z. IsLater g z in
            absurd (begins (subst P same later))
      ];
}

-- whether a node is linked to v
later_or_not : (g : Digraph) (v : ℕ) → IsLater g v ⊎ (IsLater g v → ⊥)
later_or_not g v =
    elim (cases_eq v 0) [
      | inl at_entry ↦ inr (not_later g v (inl at_entry))
      | inr inner ↦
          elim (cases_eq (length (sources_of g.edges v)) 1) [
            | inr many ↦ inr (not_later g v (inr many))
            | inl alone ↦
                let u = get_or (sources_of g.edges v) 0 0 in
                let is : u ≡ get_or (sources_of g.edges v) 0 u = get_or_default (sources_of g.edges v) 0 0 u (omega arith) in
                elim (cases_eq (length (targets_of g.edges u)) 1) [
                  | inl one ↦ inl (u, linked_back g u v inner alone is one)
                  | inr many ↦ inr (not_later_from g u v alone is many)
                ]
          ]
    ]

abbrev InBlock : List (List ℕ) → ℕ → Type 0
InBlock bs u = (ns : List ℕ) × Contains bs ns × Contains ns u

first_in_block : (g : Digraph) (bs : List (List ℕ)) (u : ℕ) → All (IsBlock g) bs → Contains (firsts_of bs) u → InBlock bs u
first_in_block g bs u blocks has =
    let r = from_map (λ (zs : List ℕ). get_or zs 0 0) bs u has in
    let b = All-contains (IsBlock g) bs r.0 blocks r.1 in
    let P : ℕ → Type 0 = λ z. Contains r.0 z in
    (r.0, r.1, subst P r.2 (Contains-get_or r.0 0 0 b.some))

next_in_block : (g : Digraph) (bs : List (List ℕ)) (u v : ℕ) → IsDigraph g → AreBlocksBelow g g.nodes bs → Edge g u v → InBlock bs u → InBlock bs v
next_in_block g bs u v wf h e in_u =
    elim (later_or_not g v) [
      | inr begins ↦ first_in_block g bs v h.blocks (h.complete v (ends_within wf u v e).1 begins)
      | inl later ↦
          let l = later.1 in
          let same : u ≡ later.0 = one_of (sources_of g.edges v) later.0 u l.predecessor (sources_has g.edges u v e) in
          let P : ℕ → Type 0 = λ z. IsLink g z v in
          let link : IsLink g u v = subst P (sym same) l in
          let ns = in_u.0 in
          let b = All-contains (IsBlock g) bs ns h.blocks in_u.1 in
          let k = in_u.2.0 in
          let lt = in_u.2.1 in
          let at : get_or ns k 0 ≡ u = get_or_default ns k 0 u lt ∙ in_u.2.2 in
          elim (cases_lt (k + 1) (length ns)) [
            | inl inside ↦
                let next = b.chain k inside in
                let there : v ≡ get_or ns (k + 1) 0 =
                one_of (targets_of g.edges (get_or ns k 0)) (get_or ns (k + 1) 0) v next.successor (
                let Q : ℕ → Type 0 = λ z. Contains (targets_of g.edges z) v in subst Q (sym at) (targets_has g.edges u v e)) in
                let R : ℕ → Type 0 = λ z. Contains ns z in
                (ns, in_u.1, subst R (sym there) (Contains-get_or ns (k + 1) 0 inside))
            | inr end' ↦
                let last : k ≡ length ns - 1 = omega arith in
                let S : ℕ → Type 0 = λ z. IsLink g z v in
                absurd (b.last v (subst S (sym at ∙ ap (λ (j : ℕ). get_or ns j 0) last) link))
          ]
    ]

on_walk : (g : Digraph) (bs : List (List ℕ)) {u v : ℕ} {ns : List ℕ} → IsDigraph g → AreBlocksBelow g g.nodes bs → Walk g u v ns → InBlock bs u → InBlock bs v
on_walk g bs wf h stay b = b
on_walk g bs wf h (along {u} {v} {w} {ns} e t) b = on_walk g bs wf h t (next_in_block g bs u v wf h e b)

pub are_blocks : (g : Digraph) (bs : List (List ℕ)) → IsDigraph g → AreBlocksBelow g g.nodes bs → AreBlocks g bs
are_blocks g bs wf h = record {
  blocks = h.blocks;
  rising = h.rising;
  within = h.below;
  complete = h.complete;
  each = λ reached u lt.
      let entry = first_in_block g bs 0 h.blocks (h.complete 0 wf.entry (not_later g 0 (inl refl))) in
      on_walk g bs wf h (reached u lt).1 entry;
}

-- what is read at a node of the lists of targets
pub read_targets : (es : List (ℕ × ℕ)) (n u : ℕ) (ss : List (List ℕ)) → AreSources (turned es) n ss → u < n → get_or ss u [] ≡ targets_of es u
read_targets es n u ss h lt = h.each u lt ∙ sources_of-turned es u

pub target_within : (g : Digraph) (u v : ℕ) → IsDigraph g → length (targets_of g.edges u) ≡ 1 → v ≡ get_or (targets_of g.edges u) 0 v → v < g.nodes
target_within g u v wf one is =
    let ts = targets_of g.edges u in
    let P : ℕ → Type 0 = λ z. Contains ts z in
    (ends_within wf u v (from_targets g.edges u v (subst P (sym is) (Contains-get_or ts 0 v (omega arith))))).1

pub source_within : (g : Digraph) (u v : ℕ) → IsDigraph g → length (sources_of g.edges v) ≡ 1 → u ≡ get_or (sources_of g.edges v) 0 u → u < g.nodes
source_within g u v wf one is =
    let ss = sources_of g.edges v in
    let P : ℕ → Type 0 = λ z. Contains ss z in
    (ends_within wf u v (from_sources g.edges u v (subst P (sym is) (Contains-get_or ss 0 u (omega arith))))).0

pub turned_within : (g : Digraph) → IsDigraph g → All (λ (e : ℕ × ℕ). e.1 < g.nodes) (turned g.edges)
turned_within g wf = All-map (λ (e : ℕ × ℕ). e.1 < g.nodes) (λ (e : ℕ × ℕ). (e.1, e.0)) g.edges (All-weaker (λ (e : ℕ × ℕ). (e.0 < g.nodes) × (e.1 < g.nodes)) (λ (e : ℕ × ℕ). e.0 < g.nodes) (λ e h. h.0) g.edges wf.edges.ends)
