-- The costs that a method is prepared with are those of its nodes under each family of numbers that agrees on all that it may call, limited.
use Rattle.std.proofs.Common.{◌≡◌, ℕ, ◌+◌, ◌*◌, ◌<◌, Bool, true, false, List, Option, slice_index, refl, sym, ap, ◌∙◌, subst, inl, inr, arith}
use Rattle.std.specs.Prelude.{unwrap_or, if◌then◌else◌}
use Rattle.std.proofs.lemmas.Bool.{cases_Bool}
use Rattle.std.proofs.lemmas.List.Elements.{All-contains}
use Rattle.lists.proofs.Lemmas.{some_in}
use Rattle.opcodes.specs.Start.{IsStart, AreStarts}
use Rattle.bytecode_model.specs.Program.{Program, body_of}
use Rattle.method_flow.specs.Calls.{IsTarget, targets_of}
use Rattle.method_flow.specs.Costs.{IsOwnCost}
use Rattle.method_flow.specs.Flow.{Coded, IsCoded, IsCodedOf}
use Rattle.method_flow.specs.Keeping.{BoundOf}
use Rattle.method_flow.specs.Kinds.{RowsAreOfTheirKinds}
use Rattle.method_flow.specs.Live.{IsLiveEdge}
use Rattle.method_flow.specs.Nodes.{Node, At, RaiseAt, number_of, IsReached}
use Rattle.method_flow.specs.Recursion.{MayCall}
use Rattle.method_flow.specs.Regions.{load}
use Rattle.method_flow.specs.declared.timing.Timing.{Timing}
use Rattle.loop_nest.specs.Digraph.{Digraph}
use Rattle.loop_nest.specs.Nest.{NaturalLoop}
use Rattle.flow_graph.proofs.Joining.{reached_alike}
use Rattle.flow_graph.proofs.Starting.{IsPlaced, body, first_placed, next_placed, target_calls}
use Rattle.bound_rules.specs.Costs.{added, added_at, greatest_of, AreCosts}
use Rattle.bound_rules.specs.Fitting.{RegionFits}
use Rattle.bound_rules.specs.Laws.{CalledFit}
use Rattle.bound_rules.specs.Numbers.{Numbers, AreCharged, is_in_charged, full_and_back, loops_adds}
use Rattle.bound_rules.proofs.Numbering.{in_charged}
use Rattle.bound_rules.proofs.Owning.{same_own}
use Rattle.compact_walks.specs.Limited.{cycles_limit, limited, AreSmallAt}
use Rattle.bound_finder.specs.declared.known.Known.{Known}
use Rattle.bound_finder.specs.declared.prepared.Prepared.{Prepared}
use Rattle.bound_finder.specs.Known.{known_at, CalleesAreKnown, Agrees}
use Rattle.bound_finder.specs.Telling.{with_back}
use Rattle.bound_finder.specs.Prepared.{adds_by, is_without, IsPreparedFor}
use Rattle.bound_finder.proofs.Parts.{loop_called_fit}
use Rattle.bound_finder.proofs.Limiting.{limited_below, small_is, limited_sum, greatest_limited, number_limited, back_limited}
use Rattle.bound_finder.proofs.Measuring.{AreWalkLaws, OwnAreSmall, in_nodes}
use Rattle.bound_finder.proofs.Valuing.{AreLimitedOf}

-- ---- what is added

module _ (starts : (code : List ℕ) → AreStarts code) (kinds : RowsAreOfTheirKinds) (called : CalledFit) (P : Program) (t : Timing) (m : ℕ) (k : Coded) (c : IsCoded k) (of : IsCodedOf P m k) (table : List Known) (ends : CalleesAreKnown P t table m)
    (N : Numbers) (agrees : (x : ℕ) → MayCall P m x → Agrees P t N x (known_at table x)) where
  -- control stays at instructions
  placed : {u : Node} → IsReached (IsLiveEdge P m) u → IsPlaced k u
  placed r = (reached_alike (IsLiveEdge P m) (IsLiveEdge P m) (IsPlaced k) (first_placed starts kinds P m k c of) (λ a b here e. (e, next_placed starts kinds P m k c of a b here e.edge)) r).1

  may_call : (q x : ℕ) → IsReached (IsLiveEdge P m) (At q) → IsTarget P m q x → MayCall P m x
  may_call q x reached target =
      let b = body starts kinds P m k c of in
      let start : IsStart k.code q = placed reached in
      record { place = q; start = some_in (body_of P m) b.0 (λ z. IsStart z.code q) b.1 (subst (λ (xs : List ℕ). IsStart xs q) (sym b.2.0) start); call = target_calls P m q x target; is_target = target }

  -- of what is told it is decided whether it fits
  fits_since : (x : ℕ) → MayCall P m x → ((RegionFits P t x → ⊥) → ⊥) → RegionFits P t x
  fits_since x call some =
      let told = (ends x call).fits in
      elim (cases_Bool (known_at table x).fits) [
        | inl fits ↦ told.0 fits
        | inr other ↦ absurd (some (λ fit. let fits = told.1 fit in let bad : false ≡ true = sym other ∙ fits in cc))
      ]

  inside_told : (q : ℕ) → IsReached (IsLiveEdge P m) (At q) → ((x : ℕ) → MayCall P m x → IsTarget P m q x → (RegionFits P t x → ⊥) → ⊥) → adds_by P t table m true q ≡ limited (added P m q N.inside)
  inside_told q reached fit =
      ap (λ (o : Option ℕ). unwrap_or o 0) (greatest_limited (λ x. (known_at table x).asked) N.inside (targets_of P m q)
      (λ x target. let call = may_call q x reached target in (agrees x call).inside (fits_since x call (fit x call target))))
      ∙ number_limited (greatest_of N.inside (targets_of P m q))

  full_told : (q : ℕ) → IsReached (IsLiveEdge P m) (At q) → adds_by P t table m false q ≡ limited (added P m q (full_and_back P t N m))
  full_told q reached =
      ap (λ (o : Option ℕ). unwrap_or o 0) (greatest_limited (λ x. with_back (load P t.read m) (known_at table x).full) (full_and_back P t N m) (targets_of P m q)
      (λ x target. ap (with_back (load P t.read m)) (agrees x (may_call q x reached target)).full ∙ back_limited (load P t.read m) (N.full x)))
      ∙ number_limited (greatest_of (full_and_back P t N m) (targets_of P m q))

  -- where all that may run fits the cache together
  pub region_told : RegionFits P t m → (q : ℕ) → IsReached (IsLiveEdge P m) (At q) → adds_by P t table m true q ≡ limited (added P m q N.inside)
  region_told fit q reached = inside_told q reached (λ x call target. called P t m x fit call)

  -- where loops are charged
  pub loops_told : (nest : List NaturalLoop) (flags : List Bool) → AreCharged P t m nest flags → (q : ℕ) → IsReached (IsLiveEdge P m) (At q)
      → adds_by P t table m (is_in_charged nest flags (2 * q)) q ≡ limited (loops_adds P t N m nest flags q)
  unfolding may_call
  loops_told nest flags charged q reached = by (is_in_charged nest flags (2 * q)) refl
    where
      by : (b : Bool) → is_in_charged nest flags (2 * q) ≡ b → adds_by P t table m b q ≡ limited (if b then added P m q N.inside else added P m q (full_and_back P t N m))
      by true is =
          let r = in_charged nest flags (2 * q) is in
          let fit = ((charged.each r.place r.loop r.at).0 r.flagged).fits in
          inside_told q reached (λ x call target. loop_called_fit P t m q x r.loop.members fit r.has (may_call q x reached target).start (target_calls P m q x target) target)
      by false is = full_told q reached

-- ---- costs

module _ (laws : AreWalkLaws) (P : Program) (t : Timing) (bound_of : BoundOf) (table : List Known) (m : ℕ) (p : Prepared) (h : IsPreparedFor P t bound_of table m p) (small : OwnAreSmall P t m) (adds : ℕ → ℕ)
    (told : (q : ℕ) → IsReached (IsLiveEdge P m) (At q) → adds_by P t table m (is_without p.fits p.shape p.charges.flags.items q) q ≡ limited (adds q)) where
  abbrev adds_in : ℕ → ℕ
  adds_in q = adds_by P t table m (is_without p.fits p.shape p.charges.flags.items q) q

  told_at : (u : Node) → IsReached (IsLiveEdge P m) u → added_at adds_in u ≡ limited (added_at adds u)
  told_at (At q) reached = told q reached
  told_at (RaiseAt q) reached = sym (limited_below 0 (omega arith))

  -- the costs with what this family adds, limited
  pub limited_costs : (g : Digraph) (costs : List ℕ) → AreCosts P t m (IsLiveEdge P m) adds g costs → AreLimitedOf laws P t bound_of table m p h small costs
  limited_costs g costs are u reached =
      let a = h.costs.each u reached in
      let b = are.each u reached in
      let own : a.0 ≡ b.0 = same_own P t m u a.0 b.0 a.1 b.1 in
      a.2 ∙ (ap (λ (n : ℕ). limited (a.0 + n)) (told_at u reached) ∙ (limited_sum a.0 (added_at adds u) ∙ (ap (λ (n : ℕ). limited (n + added_at adds u)) own ∙ ap limited (sym b.2))))

  -- within 64 bits they are the costs with what the family adds
  pub exact_costs : AreSmallAt p.shape.nodes p.costs.items → AreCosts P t m (IsLiveEdge P m) adds h.graph p.costs.items
  exact_costs few = record { long = h.costs.long; each = each }
    where
      each : (u : Node) → IsReached (IsLiveEdge P m) u → (own : ℕ) × IsOwnCost P t m u own × (slice_index p.costs.items (number_of u) ≡ own + added_at adds u)
      each u reached =
          let a = h.costs.each u reached in
          let below = All-contains (λ x. slice_index p.costs.items x < cycles_limit) p.shape.nodes (number_of u) few (in_nodes laws P t bound_of table m p h small u reached) in
          let is : slice_index p.costs.items (number_of u) ≡ limited (a.0 + added_at adds u) = a.2 ∙ (ap (λ (n : ℕ). limited (a.0 + n)) (told_at u reached) ∙ limited_sum a.0 (added_at adds u)) in
          (a.0, a.1, is ∙ small_is (a.0 + added_at adds u) (omega arith))
