-- The places and kinds of numbered nodes.
use Rattle.std.proofs.Common.{◌≡◌, ◌≢◌, ℕ, ◌/◌, ◌%◌, Bool, true, false, List, length, get_or, map, refl, sym, ap, ◌∙◌, subst, inl, inr, arith}
use Rattle.std.specs.Prelude.{Result, Ok, Err, IfOk, ◌==◌, if◌then◌else◌}
use Rattle.std.proofs.lemmas.Bool.{cases_lt, both_ways, eq-eqb, eqb-true}
use Rattle.std.proofs.lemmas.List.{get_or-map, get_or_past, length-map}
use Rattle.loop_nest.specs.Digraph.{Digraph}
use Rattle.method_flow.specs.Compact.{IsCompact}
use Rattle.method_flow.specs.Nodes.{At, RaiseAt, number_of}
use Rattle.flow_graph.specs.MethodGraphs.{node_of, number_at}

-- a number is that of the node whose place is half of it, a raise step where it is odd
parity : (x : ℕ) (b : Bool) → (x % 2 == 1) ≡ b → number_of (if b then RaiseAt (x / 2) else At (x / 2)) ≡ x
parity x true e = let r = eqb-true (x % 2) 1 e in omega arith
parity x false e = let r : x % 2 ≢ 1 = λ h. both_ways (x % 2 == 1) e (eq-eqb (x % 2) 1 h) in omega arith

abbrev pub place_of_number : ℕ → ℕ × Bool
place_of_number x = (x / 2, x % 2 == 1)

number_again : (x : ℕ) → number_of (node_of (place_of_number x)) ≡ x
number_again x = parity x (x % 2 == 1) refl

pub same_number : (nodes : List ℕ) (u : ℕ) → get_or nodes u 0 ≡ number_at (map place_of_number nodes) u
same_number nodes u =
    elim (cases_lt u (length nodes)) [
      | inl below ↦ sym (ap (λ (n : ℕ × Bool). number_of (node_of n)) (get_or-map place_of_number nodes u 0 (0, false) below) ∙ number_again (get_or nodes u 0))
      | inr past ↦
          let size = length-map nodes place_of_number in
          let none : get_or (map place_of_number nodes) u (0, false) ≡ (0, false) = get_or_past (map place_of_number nodes) u (0, false) (omega arith) in
          get_or_past nodes u 0 past ∙ sym (ap (λ (n : ℕ × Bool). number_of (node_of n)) none)
    ]

-- the compact graph by places
pub by_places : (g d e : Digraph) (nodes : List ℕ) (places : List (ℕ × Bool)) → IsCompact g d (λ u. get_or nodes u 0) → e ≡ d → places ≡ map place_of_number nodes → IsCompact g e (number_at places)
by_places g d e nodes places is same are =
    let old : ℕ → ℕ = λ u. get_or nodes u 0 in
    let new' : ℕ → ℕ = λ u. number_at (map place_of_number nodes) u in
    let path : old ≡ new' = λ i u. same_number nodes u i in
    let P : Digraph → Type 0 = λ x. IsCompact g x (number_at places) in
    let Q : List (ℕ × Bool) → Type 0 = λ ps. IsCompact g d (number_at ps) in
    let R : (ℕ → ℕ) → Type 0 = λ f. IsCompact g d f in
    subst P (sym same) (subst Q (sym are) (subst R path is))

pub ok_both : {X Y : Type 0} (r : Result X Y) (P Q : X → Type 0) → IfOk r P → IfOk r Q → IfOk r (λ x. P x × Q x)
ok_both (Ok x) P Q p q = (p, q)
ok_both (Err e) P Q p q = tt
