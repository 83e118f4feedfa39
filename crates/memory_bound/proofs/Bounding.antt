-- The loops of a compact graph with bounds, one by one, and what walks are charged that pay no loads.
use Rattle.std.proofs.Common.{◌≡◌, ℕ, zero, suc, ◌*◌, ◌/◌, ◌%◌, ◌<◌, ◌==◌, List, [], ◌∷◌, length, get_or, sum_by, Contains, None, refl, sym, ap, ◌∙◌, inl, inr, arith, eq-eqb}
use Rattle.std.proofs.lemmas.Bool.{cond-true}
use Rattle.std.specs.Prelude.{replicate}
use Rattle.std.proofs.lemmas.List.Sums.{sum_by-cons}
use Rattle.lists.specs.Members.{at_head, in_tail, cons_cases, nil_contains}
use Rattle.loop_nest.specs.Nest.{NaturalLoop, header_at, members_at}
use Rattle.section_check.specs.Bounded.{BoundedLoop, entries, cost_of_entries, cost_of}
use Rattle.path_solver.specs.Longest.{bounded_loops}
use Rattle.method_flow.specs.Keeping.{BoundOf}
use Rattle.bound_rules.specs.Fitting.{header_bound}

-- it is loop i of the nest, with its bound
pub record IsBoundedAt (nest : List NaturalLoop) (bounds : List ℕ) (l : BoundedLoop) : Type 0 where
  pub index : ℕ
  pub below : index < length nest
  pub header : l.header ≡ header_at nest index
  pub members : l.members ≡ members_at nest index
  pub bound : l.bound ≡ get_or bounds index 0

pub bounded_at : (nest : List NaturalLoop) (bounds loads : List ℕ) (l : BoundedLoop) → Contains (bounded_loops nest bounds loads) l → IsBoundedAt nest bounds l
bounded_at [] bounds loads l has = absurd (nil_contains l has)
bounded_at (k ∷ ks) [] loads l has = absurd (nil_contains l has)
bounded_at (k ∷ ks) (b ∷ bs) [] l has = absurd (nil_contains l has)
bounded_at (k ∷ ks) (b ∷ bs) (c ∷ cs) l has =
    elim (cons_cases (record { header = k.header; members = k.members; bound = b; load = c }) l (bounded_loops ks bs cs) has) [
      | inl same ↦ record {
        index = 0;
        below = omega arith;
        header = ap (λ (j : BoundedLoop). j.header) (sym same);
        members = ap (λ (j : BoundedLoop). j.members) (sym same);
        bound = ap (λ (j : BoundedLoop). j.bound) (sym same);
      }
      | inr later ↦
          let r = bounded_at ks bs cs l later in
          let below = r.below in
          record { index = suc r.index; below = omega arith; header = r.header; members = r.members; bound = r.bound }
    ]

-- each loop of the nest is there
pub record HasBounded (nest : List NaturalLoop) (bounds loads : List ℕ) (i : ℕ) : Type 0 where
  pub loop : BoundedLoop
  pub among : Contains (bounded_loops nest bounds loads) loop
  pub header : loop.header ≡ header_at nest i
  pub members : loop.members ≡ members_at nest i
  pub bound : loop.bound ≡ get_or bounds i 0

pub has_bounded : (nest : List NaturalLoop) (bounds loads : List ℕ) → length bounds ≡ length nest → length loads ≡ length nest → (i : ℕ) → i < length nest
    → HasBounded nest bounds loads i
has_bounded [] bounds loads lb ll i lt = absurd (omega arith)
has_bounded (k ∷ ks) [] loads lb ll i lt = absurd (omega arith)
has_bounded (k ∷ ks) (b ∷ bs) [] lb ll i lt = absurd (omega arith)
has_bounded (k ∷ ks) (b ∷ bs) (c ∷ cs) lb ll zero lt = record {
  loop = record { header = k.header; members = k.members; bound = b; load = c };
  among = at_head (record { header = k.header; members = k.members; bound = b; load = c }) (bounded_loops ks bs cs);
  header = refl;
  members = refl;
  bound = refl;
}
has_bounded (k ∷ ks) (b ∷ bs) (c ∷ cs) lb ll (suc i) lt =
    let r = has_bounded ks bs cs (omega arith) (omega arith) i (omega arith) in
    record {
      loop = r.loop;
      among = in_tail (record { header = k.header; members = k.members; bound = b; load = c }) r.loop (bounded_loops ks bs cs) r.among;
      header = r.header;
      members = r.members;
      bound = r.bound;
    }

-- ---- without loads

pub zeros_long : (n : ℕ) → length {A = ℕ} (replicate n 0) ≡ n
zeros_long zero = refl
zeros_long (suc n) = ap suc (zeros_long n)

no_entries : (nest : List NaturalLoop) (bounds : List ℕ) (ns : List ℕ) → cost_of_entries (bounded_loops nest bounds (replicate (length nest) 0)) ns ≡ 0
no_entries [] bounds ns = refl
no_entries (k ∷ ks) [] ns = refl
no_entries (k ∷ ks) (b ∷ bs) ns =
    let f : BoundedLoop → ℕ = λ l. l.load * entries l.members ns in
    let first : BoundedLoop = record { header = k.header; members = k.members; bound = b; load = 0 } in
    let e = sum_by-cons f first (bounded_loops ks bs (replicate (length ks) 0)) in
    let rest = no_entries ks bs ns in
    let none : 0 * entries k.members ns ≡ 0 = omega arith in
    omega arith

-- a walk costs what its nodes cost
pub nodes_alone : (costs : List ℕ) (nest : List NaturalLoop) (bounds : List ℕ) (ns : List ℕ)
    → cost_of costs (bounded_loops nest bounds (replicate (length nest) 0)) ns ≡ sum_by (λ u. get_or costs u 0) ns
nodes_alone costs nest bounds ns = let e = no_entries nest bounds ns in omega arith

-- ---- bounds of headers

pub header_bound_at : (bound_of : BoundOf) (m p : ℕ) → header_bound bound_of m (2 * p) ≡ bound_of m p
header_bound_at bound_of m p =
    let even : (2 * p) % 2 ≡ 0 = omega arith in
    let half : (2 * p) / 2 ≡ p = omega arith in
    cond-true ((2 * p) % 2 == 0) (bound_of m ((2 * p) / 2)) None (eq-eqb ((2 * p) % 2) 0 even) ∙ ap (bound_of m) half
