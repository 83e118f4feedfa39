-- Where each cycle takes a back edge, each lies in the loop of one of its nodes.
use Rattle.std.proofs.Common.{◌≡◌, ℕ, zero, suc, ◌≤◌, ◌⊎◌, List, [], ◌∷◌, ◌++◌, length, Contains, refl, sym, ap, ◌∙◌, subst, inl, inr, arith, append_assoc, length-append}
use Rattle.std.proofs.lemmas.List.Elements.{Contains-append_left, Contains-append_right, Contains-append_cases}
use Rattle.lists.specs.Members.{at_head, in_tail, cons_cases, nil_contains, has_or_not}
use Rattle.loop_nest.specs.Digraph.{Digraph, Edge}
use Rattle.loop_nest.specs.Walks.{Walk, IsReachable, IsBackEdge, ReachesBackEdge}
use Rattle.loop_nest.specs.Walks.Walk.{stay, along}
use Rattle.loop_nest.specs.Laws.{LoopsAreNested}
use Rattle.loop_nest.proofs.SimpleWalks.{begins, walk_until, walk_from}
use Rattle.bound_laws.specs.Walking.{LeadsFromReached, TakesBackEdges, LiesInLoop}
use Rattle.bound_laws.proofs.Lists.{parts_at}

-- two walks with an edge between them
pub joined : {g : Digraph} {a b c d : ℕ} {xs ys : List ℕ} → Walk g a b xs → Edge g b c → Walk g c d ys → Walk g a d (xs ++ ys)
joined (stay {u}) e w = along e w
joined (along {u} {v} e t) f w = along e (joined t f w)

-- a walk of several nodes begins with an edge
pub goes_on : {g : Digraph} {u w : ℕ} {ns : List ℕ} → Walk g u w ns → (rest : List ℕ) → ns ≡ u ∷ rest → (rest ≡ [] → ⊥) → (v : ℕ) × Edge g u v × Walk g v w rest
goes_on (stay {u}) rest is some = absurd (some (let e : rest ≡ [] = cc in e))
goes_on {g} (along {u} {v} {w} {ns} e t) rest is some = let same : ns ≡ rest = cc in (v, e, subst (λ (zs : List ℕ). Walk g v w zs) same t)

pub pushed_not_empty : (xs : List ℕ) (x : ℕ) → xs ++ x ∷ [] ≡ [] → ⊥
pushed_not_empty xs x e = let long = length-append xs (x ∷ []) in let k = ap (λ (zs : List ℕ). length zs) e in omega arith

module _ (nested : LoopsAreNested) (g : Digraph) (reached : LeadsFromReached g) (takes : TakesBackEdges g) where
  -- where the header of a back edge is met once, its source is reached from each other node without it
  once : (h a : ℕ) (rest : List ℕ) → IsBackEdge g a h → Walk g h a (h ∷ rest) → (Contains rest h → ⊥) → LiesInLoop g (h ∷ rest)
  once h a rest back walk never = record {
    header = h;
    visited = at_head h rest;
    members = λ x has. ((a, back), elim (cons_cases h x rest has) [ inl same ↦ inl (sym same) | inr there ↦ inr (from x there) ]);
  }
    where
      from : (x : ℕ) → Contains rest x → ReachesBackEdge g h x
      from x there =
          let r = parts_at rest x there in
          let whole : h ∷ rest ≡ (h ∷ r.0) ++ x ∷ r.1 = ap (λ (zs : List ℕ). h ∷ zs) r.2 in
          record {
            source = a;
            back_edge = back;
            leads = (x ∷ r.1, walk_from walk (h ∷ r.0) x r.1 whole, λ has. never (subst (λ (zs : List ℕ). Contains zs h) (sym r.2) (Contains-append_right r.0 (x ∷ r.1) h has)));
          }

  -- two parts that have a node in common, and each of which lies in a loop, lie in one
  wider : (h : ℕ) (xs ys zs : List ℕ) → IsReachable g h → LiesInLoop g xs → LiesInLoop g ys → Contains xs h → Contains ys h → ((z : ℕ) → Contains zs z → Contains xs z ⊎ Contains ys z) → ((z : ℕ) → Contains xs z → Contains zs z)
      → ((z : ℕ) → Contains ys z → Contains zs z) → LiesInLoop g zs
  wider h xs ys zs at a b in_a in_b of from_x from_y =
      elim (nested g a.header b.header h at (a.members h in_a) (b.members h in_b)) [
        | inl up ↦ record { header = b.header; visited = from_y b.header b.visited; members = λ z has. elim (of z has) [ inl x ↦ up z (a.members z x) | inr y ↦ b.members z y ] }
        | inr down ↦ record { header = a.header; visited = from_x a.header a.visited; members = λ z has. elim (of z has) [ inl x ↦ a.members z x | inr y ↦ down z (b.members z y) ] }
      ]

  abbrev ShorterLie : ℕ → Type 0
  ShorterLie n = (u v : ℕ) (ns : List ℕ) → length ns ≤ n → Edge g u v → Walk g v u ns → LiesInLoop g ns

  again : (n : ℕ) → ShorterLie n → (h a : ℕ) (rest : List ℕ) → suc (length rest) ≤ suc n → IsBackEdge g a h → Walk g h a (h ∷ rest) → Contains rest h → LiesInLoop g (h ∷ rest)
  again n shorter h a rest short back walk has =
      let r = parts_at rest h has in
      let whole : h ∷ rest ≡ (h ∷ r.0) ++ h ∷ r.1 = ap (λ (zs : List ℕ). h ∷ zs) r.2 in
      let round : Walk g h h ((h ∷ r.0) ++ h ∷ []) = walk_until walk (h ∷ r.0) h r.1 whole in
      let behind : Walk g h a (h ∷ r.1) = walk_from walk (h ∷ r.0) h r.1 whole in
      let step = goes_on round (r.0 ++ h ∷ []) refl (pushed_not_empty r.0 h) in
      let long = length-append r.0 (h ∷ r.1) in
      let long' = length-append r.0 (h ∷ []) in
      let k = ap (λ (zs : List ℕ). length zs) r.2 in
      let x = shorter h step.0 (r.0 ++ h ∷ []) (omega arith) step.1 step.2 in
      let y = shorter a h (h ∷ r.1) (omega arith) back.edge behind in
      wider h (r.0 ++ h ∷ []) (h ∷ r.1) (h ∷ rest) (reached h step.0 step.1) x y (Contains-append_right r.0 (h ∷ []) h (at_head h [])) (at_head h r.1)
      (λ z c. elim (cons_cases h z rest c) [
        | inl same ↦ inr (subst (λ (w : ℕ). Contains (h ∷ r.1) w) same (at_head h r.1))
        | inr there ↦
            elim (Contains-append_cases r.0 (h ∷ r.1) z (subst (λ (zs : List ℕ). Contains zs z) r.2 there)) [
              | inl front ↦ inl (Contains-append_left r.0 (h ∷ []) z front)
              | inr back' ↦ inr back'
            ]
      ])
      (λ z c. elim (Contains-append_cases r.0 (h ∷ []) z c) [
        | inl front ↦ in_tail h z rest (subst (λ (zs : List ℕ). Contains zs z) (sym r.2) (Contains-append_left r.0 (h ∷ r.1) z front))
        | inr last ↦ elim (cons_cases h z [] last) [ inl same ↦ subst (λ (w : ℕ). Contains (h ∷ rest) w) same (at_head h rest) | inr none ↦ absurd (nil_contains z none) ]
      ])
      (λ z c. in_tail h z rest (subst (λ (zs : List ℕ). Contains zs z) (sym r.2) (Contains-append_right r.0 (h ∷ r.1) z c)))

  from_back : (n : ℕ) → ShorterLie n → (h a : ℕ) (ws : List ℕ) → length ws ≤ suc n → IsBackEdge g a h → Walk g h a ws → LiesInLoop g ws
  from_back n shorter h a ws short back walk =
      let b = begins walk in
      let k = ap (λ (zs : List ℕ). length zs) b.1 in
      let walk' : Walk g h a (h ∷ b.0) = subst (λ (zs : List ℕ). Walk g h a zs) b.1 walk in
      subst (λ (zs : List ℕ). LiesInLoop g zs) (sym b.1) (elim (has_or_not b.0 h) [
        | inl has ↦ again n shorter h a b.0 (omega arith) back walk' has
        | inr never ↦ once h a b.0 back walk' never
      ])

  -- a cycle is turned so that it begins behind a back edge
  turned : (n : ℕ) → ShorterLie n → (u v : ℕ) (ns : List ℕ) → length ns ≤ suc n → Edge g u v → Walk g v u ns → (a h : ℕ) (before after : List ℕ) → u ∷ ns ≡ before ++ a ∷ h ∷ after → IsBackEdge g a h → LiesInLoop g ns
  turned n shorter u v ns short e w a h [] after is back =
      let b = begins w in
      let same_a : u ≡ a = cc in
      let same_h : v ≡ h = cc (b.1, is) in
      from_back n shorter h a ns short back (subst (λ (x : ℕ). Walk g x a ns) same_h (subst (λ (y : ℕ). Walk g v y ns) same_a w))
  turned n shorter u v ns short e w a h (x ∷ before) after is back =
      let tail : ns ≡ before ++ a ∷ h ∷ after = cc in
      let until : Walk g v a (before ++ a ∷ []) = walk_until w before a (h ∷ after) tail in
      let more : ns ≡ (before ++ a ∷ []) ++ h ∷ after = tail ∙ sym (append_assoc before (a ∷ []) (h ∷ after)) in
      let from : Walk g h u (h ∷ after) = walk_from w (before ++ a ∷ []) h after more in
      let round : Walk g h a ((h ∷ after) ++ (before ++ a ∷ [])) = joined from e until in
      let long = length-append (before ++ a ∷ []) (h ∷ after) in
      let long' = length-append (h ∷ after) (before ++ a ∷ []) in
      let k = ap (λ (zs : List ℕ). length zs) more in
      let r = from_back n shorter h a ((h ∷ after) ++ (before ++ a ∷ [])) (omega arith) back round in
      record {
        header = r.header;
        visited = to r.header r.visited more;
        members = λ z has. r.members z (back_to z has more);
      }
    where
      to : (z : ℕ) → Contains ((h ∷ after) ++ (before ++ a ∷ [])) z → ns ≡ (before ++ a ∷ []) ++ h ∷ after → Contains ns z
      to z has more =
          subst (λ (zs : List ℕ). Contains zs z) (sym more) (elim (Contains-append_cases (h ∷ after) (before ++ a ∷ []) z has) [
            | inl front ↦ Contains-append_right (before ++ a ∷ []) (h ∷ after) z front
            | inr behind ↦ Contains-append_left (before ++ a ∷ []) (h ∷ after) z behind
          ])

      back_to : (z : ℕ) → Contains ns z → ns ≡ (before ++ a ∷ []) ++ h ∷ after → Contains ((h ∷ after) ++ (before ++ a ∷ [])) z
      back_to z has more =
          elim (Contains-append_cases (before ++ a ∷ []) (h ∷ after) z (subst (λ (zs : List ℕ). Contains zs z) more has)) [
            | inl front ↦ Contains-append_right (h ∷ after) (before ++ a ∷ []) z front
            | inr behind ↦ Contains-append_left (h ∷ after) (before ++ a ∷ []) z behind
          ]

  lies_within : (n : ℕ) → ShorterLie n
  lies_within zero u v ns short e w = let b = begins w in let k = ap (λ (zs : List ℕ). length zs) b.1 in absurd (omega arith)
  lies_within (suc n) u v ns short e w =
      let t = takes u v ns e w in
      turned n (lies_within n) u v ns short e w t.0 t.1 t.2.0 t.2.1 t.2.2 t.3

  pub lies_in_loop : (u v : ℕ) (ns : List ℕ) → Edge g u v → Walk g v u ns → LiesInLoop g ns
  lies_in_loop u v ns e w = lies_within (length ns) u v ns (omega arith) e w
