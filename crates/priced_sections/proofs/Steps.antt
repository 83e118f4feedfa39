-- Along a walk that keeps its bounds, what it has cost less what its visits gave back, and what its node and its loops cost at most, never rises.
use Rattle.std.proofs.Common.{◌≡◌, ℕ, ◌+◌, ◌-◌, ◌*◌, ◌≤◌, ℤ, pos, Bool, true, false, cond, eqb, List, [], ◌∷◌, ◌++◌, map, slice_index, sum_by, All, Contains, Option, Some, None, MatchOption, refl, sym, ap, ◌∙◌, subst, inl, inr, arith}
use Rattle.std.specs.Prelude.{◌+ℤ◌, ◌≤ℤ◌}
use Rattle.std.proofs.lemmas.Bool.{cases_eq, cases_Bool, eq-eqb, ne_eqb, cond-true, cond-false, false≢true}
use Rattle.std.proofs.lemmas.Int.{ints}
use Rattle.std.proofs.lemmas.List.Sums.{sum_by-cons}
use Rattle.std.proofs.lemmas.List.Elements.{All-cons, All-contains, All-nil}
use Rattle.lists.specs.Members.{heads, has_or_not, map_contains}
use Rattle.loop_nest.specs.Digraph.{Digraph, Edge}
use Rattle.loop_nest.specs.Walks.{Walk, back_edges_to}
use Rattle.loop_nest.specs.Walks.Walk.{stay, along}
use Rattle.loop_nest.proofs.SimpleWalks.{begins}
use Rattle.section_check.specs.Bounded.{BoundedLoop, holds, entries_from, entries, cost_of_nodes, cost_of_entries, cost_of, IsKept, IsBoundedWalk}
use Rattle.section_check.specs.Section.{Certified, PricedLoop, bounded, fee, headed_by, headed_fee, entry_fee, potential, with_fee, start_value}
use Rattle.section_check.proofs.Elements.{contains_from_holds, holds_from_contains}
use Rattle.section_check.proofs.Sums.{sum_by-plus, sum_by-zero, load_of, left_after, reserve_before, reserve_after, paid, credit, debit, reserve_falls}
use Rattle.priced_sections.specs.Paid.{PaysTo, Pays, PaysFrom, EdgesPay, ExitPays, ExitsPay, CoversWith}
use Rattle.priced_sections.proofs.Sound.{AreSound}

-- from here on the walk keeps the loop's bound, where so many iterations are left of the stay in which it is
pub record IsKeptFrom (ns : List ℕ) (l : PricedLoop) (left : ℕ) : Type 0 where
  pub now : (in_loop after : List ℕ) → ns ≡ in_loop ++ after → All (Contains l.certified.members) in_loop → back_edges_to l.certified.header in_loop ≤ left
  pub later : IsKept ns (bounded l)

abbrev is_header : PricedLoop → ℕ → ℕ
is_header l x = cond (eqb x l.certified.header) 1 0

back_edges_to-cons : (l : PricedLoop) (u x : ℕ) (s : List ℕ) → back_edges_to l.certified.header (u ∷ x ∷ s) ≡ is_header l x + back_edges_to l.certified.header (x ∷ s)
back_edges_to-cons l u x s = sum_by-cons (is_header l) x s

counted : (l : PricedLoop) (x : ℕ) → x ≡ l.certified.header → is_header l x ≡ 1
counted l x same = cond-true (eqb x l.certified.header) 1 0 (eq-eqb x l.certified.header same)

abbrev inside_of : ℕ → PricedLoop → Bool
inside_of u l = holds l.certified.members u

left_bound : (inside : PricedLoop → Bool) (left : PricedLoop → ℕ) (v : ℕ) (l : PricedLoop) → inside l ≡ false → left_after inside left v l ≡ l.bound
left_bound inside left v l out = cond-false (inside l) (cond (eqb l.certified.header v) (left l - 1) (left l)) l.bound out

left_iterated : (inside : PricedLoop → Bool) (left : PricedLoop → ℕ) (v : ℕ) (l : PricedLoop) → inside l ≡ true → l.certified.header ≡ v → left_after inside left v l ≡ left l - 1
left_iterated inside left v l in' same =
    cond-true (inside l) (cond (eqb l.certified.header v) (left l - 1) (left l)) l.bound in' ∙ cond-true (eqb l.certified.header v) (left l - 1) (left l) (eq-eqb l.certified.header v same)

left_same : (inside : PricedLoop → Bool) (left : PricedLoop → ℕ) (v : ℕ) (l : PricedLoop) → inside l ≡ true → (l.certified.header ≡ v → ⊥) → left_after inside left v l ≡ left l
left_same inside left v l in' other =
    cond-true (inside l) (cond (eqb l.certified.header v) (left l - 1) (left l)) l.bound in' ∙ cond-false (eqb l.certified.header v) (left l - 1) (left l) (ne_eqb l.certified.header v other)

kept_now : (u v : ℕ) (rest : List ℕ) (l : PricedLoop) (left : PricedLoop → ℕ) → IsKeptFrom (u ∷ v ∷ rest) l (left l) → (in_loop after : List ℕ) → v ∷ rest ≡ in_loop ++ after → All (Contains l.certified.members) in_loop
    → back_edges_to l.certified.header in_loop ≤ left_after (inside_of u) left v l
kept_now u v rest l left kept [] after e all = omega arith
kept_now u v rest l left kept (x ∷ s) after e all =
    let head : v ≡ x = heads v x rest (s ++ after) e in
    let grown : u ∷ v ∷ rest ≡ u ∷ x ∷ (s ++ after) = ap (λ (zs : List ℕ). u ∷ zs) e in
    elim (cases_Bool (inside_of u l)) [
      | inl in' ↦
          let all' = All-cons (Contains l.certified.members) u (x ∷ s) (contains_from_holds l.certified.members u in') all in
          let most = kept.now (u ∷ x ∷ s) after grown all' in
          let t = back_edges_to-cons l u x s in
          elim (cases_eq l.certified.header v) [
            | inl same ↦ let one = counted l x (sym head ∙ sym same) in omega (arith, left_iterated (inside_of u) left v l in' same)
            | inr other ↦ omega (arith, left_same (inside_of u) left v l in' other)
          ]
      | inr out ↦ let most = kept.later (u ∷ []) (x ∷ s) after grown all in omega (arith, left_bound (inside_of u) left v l out)
    ]

kept_on : (u v : ℕ) (rest : List ℕ) (l : PricedLoop) (left : PricedLoop → ℕ) → IsKeptFrom (u ∷ v ∷ rest) l (left l) → IsKeptFrom (v ∷ rest) l (left_after (inside_of u) left v l)
kept_on u v rest l left kept = record {
  now = kept_now u v rest l left kept;
  later = λ before in_loop after e all. kept.later (u ∷ before) in_loop after (ap (λ (zs : List ℕ). u ∷ zs) e) all;
}

-- a back edge uses an iteration that is left
one_left : (u v : ℕ) (rest : List ℕ) (l : PricedLoop) (left : ℕ) → IsKeptFrom (u ∷ v ∷ rest) l left → l.certified.header ≡ v → Contains l.certified.members v → inside_of u l ≡ true → 1 ≤ left
one_left u v rest l left kept same held in' =
    let members = Contains l.certified.members in
    let all = All-cons members u (v ∷ []) (contains_from_holds l.certified.members u in') (All-cons members v [] held (All-nil members)) in
    let most = kept.now (u ∷ v ∷ []) rest refl all in
    let one = counted l v (sym same) in
    let t = back_edges_to-cons l u v [] in
    omega arith

-- the condition of an edge, with the iteration or the fee, and with what a visit gives back
pays_by : (inside : PricedLoop → Bool) (cost back u : ℕ) (p q : ℤ) (o : Option PricedLoop) → ((l : PricedLoop) → inside l ≡ holds l.certified.members u) → Pays o cost back u p q
    → ((pos cost +ℤ q) +ℤ pos (debit inside o)) ≤ℤ ((p +ℤ pos back) +ℤ pos (credit inside o))
pays_by inside cost back u p q None is h = omega (arith, ints)
pays_by inside cost back u p q (Some l) is h =
    let P : Bool → Type 0 = λ b. PaysTo b l cost back p q → ((pos cost +ℤ q) +ℤ pos (cond b 0 (fee l))) ≤ℤ ((p +ℤ pos back) +ℤ pos (cond b l.certified.iteration_cost 0)) in
    let go : (b : Bool) → P b = elim [ true ↦ λ k. omega (arith, ints) | false ↦ λ k. omega (arith, ints) ] in
    let Q : Bool → Type 0 = λ b. ((pos cost +ℤ q) +ℤ pos (cond b 0 (fee l))) ≤ℤ ((p +ℤ pos back) +ℤ pos (cond b l.certified.iteration_cost 0)) in
    subst Q (sym (is l)) (go (holds l.certified.members u) h)

abbrev entered_later : ℕ → List ℕ → PricedLoop → ℕ
entered_later u rest l = load_of l * entries_from (inside_of u l) l.certified.members rest

-- the rest of a walk costs no more than the potential of its node, what its visits give back, and the iterations that are left of the loops around it
record IsCovered (costs : List ℕ) (back : ℕ → ℕ) (c : Certified) (ls : List PricedLoop) (u : ℕ) (rest : List ℕ) (left : PricedLoop → ℕ) : Type 0 where
  potential_of : ℤ
  listed : potential c.nodes u ≡ Some potential_of
  most : pos (cost_of_nodes costs (u ∷ rest) + sum_by (entered_later u rest) ls) ≤ℤ ((potential_of +ℤ pos (sum_by back (u ∷ rest))) +ℤ pos (sum_by (reserve_before (inside_of u) left) ls))

source_listed : (o : Option PricedLoop) (cost back u : ℕ) (a b : Option ℤ) (q : ℤ) → b ≡ Some q → PaysFrom o cost back u a b → (p : ℤ) × (a ≡ Some p) × Pays o cost back u p q
source_listed o cost back u a b q is h =
    let P : Option ℤ → Type 0 = λ z. PaysFrom o cost back u a z in
    let go : (z : Option ℤ) → PaysFrom o cost back u z (Some q) → (p : ℤ) × (z ≡ Some p) × Pays o cost back u p q = elim [ None ↦ λ k. absurd k | Some p ↦ λ k. (p, refl, k) ] in
    go a (subst P is h)

no_entries : (u : ℕ) (ls : List PricedLoop) → sum_by (entered_later u []) ls ≡ 0
no_entries u [] = refl
no_entries u (l ∷ ls) = omega (arith, sum_by-cons (entered_later u []) l ls, no_entries u ls)

more_entries : (u v : ℕ) (rest : List ℕ) (ls : List PricedLoop) → sum_by (entered_later u (v ∷ rest)) ls ≡ sum_by (paid (inside_of u) v) ls + sum_by (entered_later v rest) ls
more_entries u v rest [] = refl
more_entries u v rest (l ∷ ls) =
    omega (arith, sum_by-cons (entered_later u (v ∷ rest)) l ls, sum_by-cons (paid (inside_of u) v) l ls, sum_by-cons (entered_later v rest) l ls, more_entries u v rest ls)

module _ (g : Digraph) (costs : List ℕ) (back : ℕ → ℕ) (c : Certified) (ls : List PricedLoop) (sound : AreSound g ls) (edges : EdgesPay g costs back c ls) where
  -- the loops that hold u, or that hold v and are headed by it, are all that an edge from u to v meets
  enters_only : (u v : ℕ) → Edge g u v → (l : PricedLoop) → Contains ls l → (l.certified.header ≡ v → ⊥) → holds l.certified.members v ≡ true → inside_of u l ≡ true
  enters_only u v e l has other held =
      elim (has_or_not l.certified.members u) [
        | inl in' ↦ holds_from_contains l.certified.members u in'
        | inr out ↦ absurd (other (sym (sound.entered l u v has e (contains_from_holds l.certified.members v held) out)))
      ]

  held_by_own : (v : ℕ) (l : PricedLoop) → Contains ls l → l.certified.header ≡ v → Contains l.certified.members v
  held_by_own v l has same = let P : ℕ → Type 0 = λ x. Contains l.certified.members x in subst P same (sound.own l has)

  covered_along : (u v : ℕ) (rest : List ℕ) (left : PricedLoop → ℕ) → Edge g u v → ((l : PricedLoop) → Contains ls l → IsKeptFrom (u ∷ v ∷ rest) l (left l))
      → IsCovered costs back c ls v rest (left_after (inside_of u) left v) → IsCovered costs back c ls u (v ∷ rest) left
  covered_along u v rest left e kept ih =
      let cost = slice_index costs u in
      let from = source_listed (headed_by v ls) cost (back u) u (potential c.nodes u) (potential c.nodes v) ih.potential_of ih.listed (edges u v e) in
      let down = pays_by (inside_of u) cost (back u) u from.0 ih.potential_of (headed_by v ls) (λ l. refl) from.2 in
      let falls =
      reserve_falls (inside_of u) left v ls sound.apart (enters_only u v e) (λ l has same. holds_from_contains l.certified.members v (held_by_own v l has same))
      (λ l has same in'. one_left u v rest l (left l) (kept l has) same (held_by_own v l has same) in')
      in
      let rest_most = ih.most in
      let a = sum_by-plus (reserve_after (inside_of u) left v) (paid (inside_of u) v) ls in
      let b = more_entries u v rest ls in
      let d = sum_by-cons (λ (x : ℕ). slice_index costs x) u (v ∷ rest) in
      let f = sum_by-cons back u (v ∷ rest) in
      record { potential_of = from.0; listed = from.1; most = omega (arith, ints) }

  covered_at_end : (u : ℕ) → ExitPays costs back c u → (left : PricedLoop → ℕ) → IsCovered costs back c ls u [] left
  covered_at_end u end left =
      let cost = slice_index costs u in
      let a = no_entries u ls in
      let b = sum_by-cons (λ (x : ℕ). slice_index costs x) u [] in
      let d = sum_by-cons back u [] in
      let P : Option ℤ → Type 0 = λ o. potential c.nodes u ≡ o → CoversWith cost (back u) o → IsCovered costs back c ls u [] left in
      let go : (o : Option ℤ) → P o = elim [ None ↦ λ is h. absurd h | Some z ↦ λ is h. record { potential_of = z; listed = is; most = omega (arith, ints) } ] in
      go (potential c.nodes u) refl end

  covered : {u x : ℕ} {ns : List ℕ} → Walk g u x ns → ExitPays costs back c x → (rest : List ℕ) → ns ≡ u ∷ rest → (left : PricedLoop → ℕ) → ((l : PricedLoop) → Contains ls l → IsKeptFrom ns l (left l)) → IsCovered costs back c ls u rest left
  covered (stay {u}) end rest is left kept = let P : List ℕ → Type 0 = λ zs. IsCovered costs back c ls u zs left in let e : [] ≡ rest = cc in subst P e (covered_at_end u end left)
  covered (along {u} {v} {w} {ns} e t) end rest is left kept =
      let b = begins t in
      let P : List ℕ → Type 0 = λ zs.
      ((iterations_left : PricedLoop → ℕ) → ((l : PricedLoop) → Contains ls l → IsKeptFrom zs l (iterations_left l)) → IsCovered costs back c ls v b.0 iterations_left)
      → ((l : PricedLoop) → Contains ls l → IsKeptFrom (u ∷ zs) l (left l)) → IsCovered costs back c ls u (v ∷ b.0) left
      in
      let go : P (v ∷ b.0) = λ ih k. covered_along u v b.0 left e k (ih (left_after (inside_of u) left v) (λ l has. kept_on u v b.0 l left (k l has))) in
      let r = subst P (sym b.1) go (λ iterations_left k. covered t end b.0 b.1 iterations_left k) kept in
      let Q : List ℕ → Type 0 = λ zs. IsCovered costs back c ls u zs left in
      let tail : v ∷ b.0 ≡ rest = cc (b.1, is) in
      subst Q tail r

debit_start : (o : Option PricedLoop) → debit (λ l. false) o ≡ headed_fee o
debit_start None = refl
debit_start (Some l) = refl

first_entries : (rest : List ℕ) (ls : List PricedLoop) → cost_of_entries (map bounded ls) (0 ∷ rest) ≡ sum_by (paid (λ l. false) 0) ls + sum_by (entered_later 0 rest) ls
first_entries rest [] = refl
first_entries rest (l ∷ ls) =
    let entering : BoundedLoop → ℕ = λ b. b.load * entries b.members (0 ∷ rest) in
    omega (arith, sum_by-cons entering (bounded l) (map bounded ls), sum_by-cons (paid (λ l. false) 0) l ls, sum_by-cons (entered_later 0 rest) l ls, first_entries rest ls)

-- the start's value with what visits gave back bounds a walk that keeps the bounds
pub start_bounds : (g : Digraph) (costs : List ℕ) (back : ℕ → ℕ) (c : Certified) (ls : List PricedLoop) → AreSound g ls → EdgesPay g costs back c ls → ExitsPay g costs back c → (ns : List ℕ) → IsBoundedWalk g (map bounded ls) ns
    → MatchOption (start_value c ls) ⊥ (λ z. pos (cost_of costs (map bounded ls) ns) ≤ℤ (z +ℤ pos (sum_by back ns)))
start_bounds g costs back c ls sound edges exits ns bounded_walk =
    let b = begins bounded_walk.walk in
    let bound : PricedLoop → ℕ = λ l. l.bound in
    let out : PricedLoop → Bool = λ l. false in
    let kept : (l : PricedLoop) → Contains ls l → IsKeptFrom ns l (bound l) = λ l has.
    let keeps = All-contains (IsKept ns) (map bounded ls) (bounded l) bounded_walk.kept (map_contains bounded ls l has) in
    record { now = λ in_loop after e all. keeps [] in_loop after e all; later = keeps }
    in
    let all = covered g costs back c ls sound edges bounded_walk.walk (exits bounded_walk.last bounded_walk.exit) b.0 b.1 bound kept in
    let falls =
    reserve_falls out bound 0 ls sound.apart (λ l has other held. absurd (other (sound.entry l has (contains_from_holds l.certified.members 0 held))))
    (λ l has same. holds_from_contains l.certified.members 0 (let P : ℕ → Type 0 = λ x. Contains l.certified.members x in subst P same (sound.own l has))) (λ l has same t. absurd (false≢true t))
    in
    let a = sum_by-plus (reserve_after out bound 0) (paid out 0) ls in
    let d = sum_by-zero ls in
    let f = debit_start (headed_by 0 ls) in
    let e = first_entries b.0 ls in
    let most = all.most in
    let fees = entry_fee ls 0 in
    let cost = cost_of costs (map bounded ls) (0 ∷ b.0) in
    let enough : pos cost ≤ℤ ((all.potential_of +ℤ pos fees) +ℤ pos (sum_by back (0 ∷ b.0))) = omega (arith, ints) in
    let P : Option ℤ → Type 0 = λ o. MatchOption (with_fee o fees) ⊥ (λ z. pos cost ≤ℤ (z +ℤ pos (sum_by back (0 ∷ b.0)))) in
    let Q : List ℕ → Type 0 = λ zs. MatchOption (start_value c ls) ⊥ (λ z. pos (cost_of costs (map bounded ls) zs) ≤ℤ (z +ℤ pos (sum_by back zs))) in
    subst Q (sym b.1) (subst P (sym all.listed) enough)
