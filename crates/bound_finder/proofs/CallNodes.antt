-- The nodes of a method's invokes, as marks of nodes.
use Rattle.std.proofs.Common.{◌≡◌, ℕ, ◌*◌, ◌<◌, Bool, false, List, [], length, map, get_or, Contains, Some, sym, ap, ◌∙◌, subst, inl, inr}
use Rattle.std.specs.Prelude.{slice_get}
use Rattle.std.proofs.lemmas.Bool.{both_ways}
use Rattle.std.proofs.lemmas.List.Elements.{Contains-get_or}
use Rattle.std.proofs.lemmas.Option.{slice_get-get_or}
use Rattle.lists.proofs.Lemmas.{holds_at, some_in}
use Rattle.lists.specs.Members.{map_contains, place_of}
use Rattle.loop_nest.proofs.Elements.{from_map}
use Rattle.opcodes.specs.Start.{IsStart, AreStarts}
use Rattle.bytecode_model.specs.Program.{Program, body_of}
use Rattle.method_flow.specs.declared.flow.Call.{Call}
use Rattle.method_flow.specs.Flow.{Coded, IsCoded, IsCodedOf, IsFlowOf, places_of}
use Rattle.method_flow.specs.Kinds.{RowsAreOfTheirKinds}
use Rattle.path_solver.specs.Reaching.{IsFlagged}
use Rattle.flow_graph.proofs.Starting.{call_at, among_at, body, call_listed, listed_calls}
use Rattle.bound_rules.specs.Numbers.{HasCall}
use Rattle.compact_walks.specs.Charging.{AreMarked}
use Rattle.bound_finder.specs.Known.{BoundSetting}
use Rattle.bound_finder.specs.Prepared.{IsCallAt, AreCallNodes, AreCallNodesOf}

-- ---- marks

-- where none was set before, those of the calls are set
pub marked_calls : (calls : List Call) (old new : List Bool) → ((u : ℕ) → get_or old u false ≡ false) → AreMarked (map (λ (c : Call). 2 * c.place) calls) old new → AreCallNodes calls new
marked_calls calls old new none m = λ u. (
  λ f. elim ((m.each u).0 f) [ inl before ↦ absurd (both_ways (get_or old u false) (none u) before) | inr has ↦ has ],
  λ has. (m.each u).1 (inr has),
)

-- ---- calls among members

pub call_found : (calls : List Call) (flags : List Bool) (members : List ℕ) (u : ℕ) → AreCallNodes calls flags → Contains members u → IsFlagged flags u → IsCallAt calls members
call_found calls flags members u are has flagged =
    let r = from_map (λ (c : Call). 2 * c.place) calls u ((are u).0 flagged) in
    (r.0, r.1, subst (λ (v : ℕ). Contains members v) (sym r.2) has)

pub none_found : (calls : List Call) (flags : List Bool) (members : List ℕ) → AreCallNodes calls flags → ((i : ℕ) → i < length members → get_or flags (get_or members i 0) false ≡ false) → IsCallAt calls members → ⊥
none_found calls flags members are none x =
    let p = place_of members (2 * x.0.place) x.2 in
    let flagged = (are (2 * x.0.place)).1 (map_contains (λ (c : Call). 2 * c.place) calls x.0 x.1) in
    both_ways (get_or flags (2 * x.0.place) false) (ap (λ (v : ℕ). get_or flags v false) (sym p.2) ∙ none p.0 p.1) flagged

-- ---- calls of a program

module _ (starts : (code : List ℕ) → AreStarts code) (kinds : RowsAreOfTheirKinds) (P : Program) (n : ℕ) (k : Coded) (c : IsCoded k) (of : IsCodedOf P n k) (members : List ℕ) where
  pub call_to : IsCallAt k.calls members → HasCall P n members
  call_to x =
      let p = x.0.place in
      let among : Contains (places_of k.calls) p = map_contains (λ (d : Call). d.place) k.calls x.0 x.1 in
      let start = ((c.calls p).0 among).start in
      let b = body starts kinds P n k c of in
      let at = some_in (body_of P n) b.0 (λ z. IsStart z.code p) b.1 (subst (λ (xs : List ℕ). IsStart xs p) (sym b.2.0) start) in
      (p, x.2, at, listed_calls starts kinds P n k c of p among)

  pub call_back : HasCall P n members → IsCallAt k.calls members
  call_back x =
      let b = body starts kinds P n k c of in
      let start = subst (λ (xs : List ℕ). IsStart xs x.0) b.2.0 (holds_at (body_of P n) b.0 (λ z. IsStart z.code x.0) b.1 x.2) in
      let d = call_at k.calls x.0 (call_listed starts kinds P n k c of x.0 start x.3) in
      (d.1, among_at k.calls d.0 d.1 d.2, subst (λ (a : ℕ). Contains members (2 * a)) (sym d.3) x.1)

-- each call is at an instruction of the code
pub call_inside : ((code : List ℕ) → AreStarts code) → (k : Coded) → IsCoded k → (calls : List Call) → calls ≡ k.calls → (i : ℕ) (d : Call) → i < length calls → (get_or calls i d).place < length k.code
call_inside starts k c calls same i d lt =
    let e = get_or calls i d in
    let has : Contains k.calls e = subst (λ (cs : List Call). Contains cs e) same (Contains-get_or calls i d lt) in
    let among : Contains (places_of k.calls) e.place = map_contains (λ (x : Call). x.place) k.calls e has in
    (starts k.code).within_code e.place ((c.calls e.place).0 among).start

-- ---- calls of a method of the table

no_code : Coded
no_code = record { name = []; code = []; ranges = []; calls = [] }

module _ (starts : (code : List ℕ) → AreStarts code) (kinds : RowsAreOfTheirKinds) (set : BoundSetting) (m : ℕ) (flags : List Bool) (members : List ℕ) (lt : m < length set.flow.methods) (are : AreCallNodesOf set m flags) (P : Program)
    (of : IsFlowOf P set.flow) where
  method : (k : Coded) × (slice_get set.flow.methods m ≡ Some k)
  method = (get_or set.flow.methods m no_code, slice_get-get_or set.flow.methods m no_code lt)

  pub is_among : ((calls : List Call) → AreCallNodes calls flags → IsCallAt calls members) → HasCall P m members
  is_among at =
      let k = method in
      let a = are k.0 k.1 in
      call_to starts kinds P m k.0 a.0 (of.methods m k.0 k.1) members (at k.0.calls a.1)

  pub not_among : ((calls : List Call) → AreCallNodes calls flags → IsCallAt calls members → ⊥) → HasCall P m members → ⊥
  not_among never has =
      let k = method in
      let a = are k.0 k.1 in
      never k.0.calls a.1 (call_back starts kinds P m k.0 a.0 (of.methods m k.0 k.1) members has)
