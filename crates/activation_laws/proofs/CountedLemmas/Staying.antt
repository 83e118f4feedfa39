-- The frames of a stay have visits of their nodes.
use Rattle.std.proofs.Common.{◌≡◌, ◌⊎◌, ℕ, suc, ◌<◌, ◌≤◌, Bool, true, false, List, [], ◌∷◌, ◌++◌, length, drop, Option, Some, None, refl, sym, ap, ◌∙◌, subst, inl, inr, append-nil, append_assoc, arith}
use Rattle.std.specs.Prelude.{nat_lt, if◌then◌else◌}
use Rattle.std.proofs.lemmas.Bool.Decides.{nat_tests}
use Rattle.bytecode_model.specs.declared.Ending.{Ending}
use Rattle.bytecode_model.specs.declared.Ending.TheVariants.{Running, Raising, Ended, Uncaught}
use Rattle.bytecode_model.specs.State.{Frame, State}
use Rattle.bytecode_model.specs.Program.{Program}
use Rattle.bytecode_typing.specs.Fits.{IsGoing}
use Rattle.bytecode_typing.specs.Laws.{FittingStatesAreWellFormed}
use Rattle.method_flow.specs.Nodes.{number_of}
use Rattle.method_flow.specs.Kinds.{RowsAreOfTheirKinds}
use Rattle.method_flow.specs.Shapes.{node_of, Returns, Drops}
use Rattle.method_runs.specs.Runs.{Walks, nodes_now, with_nodes, on_top, followed, walks_after}
use Rattle.method_runs.specs.Standing.{Standing}
use Rattle.method_runs.specs.Laws.{StepsFollowWalks}
use Rattle.loop_rules.specs.Further.Known.{Known}
use Rattle.counted_laws.specs.Paths.{HoldConstants, HoldArrays, HoldKnown}
use Rattle.counted_laws.proofs.Fields.{constants_stay}
use Rattle.counted_laws.proofs.Following.{Here as HasVisits, done, going, step_on as visits_on}
use Rattle.activations.specs.Setting.{Setting, IsSetting, limits}
use Rattle.activations.specs.Activations.{Stage, Follows}
use Rattle.activations.specs.Stays.{IsTop, Stay}
use Rattle.activations.specs.Stays.Stay.{leaves, goes, calls}

now_by : (mode : Ending) (f : Frame) (fs : List Frame) → IsGoing mode → nodes_now mode (f ∷ fs) ≡ number_of (node_of mode f) ∷ []
now_by Running f fs on = refl
now_by (Raising p) f fs on = refl
now_by Ended f fs on = absurd on
now_by (Uncaught c) f fs on = absurd on

-- ---- walks

with_none : (w : Option (List ℕ)) → with_nodes [] w ≡ w
with_none None = refl
with_none (Some ns) = ap Some (append-nil ns)

with_both : (us vs : List ℕ) (w : Option (List ℕ)) → with_nodes vs (with_nodes us w) ≡ with_nodes (us ++ vs) w
with_both us vs None = refl
with_both us vs (Some ns) = ap Some (append_assoc ns us vs)

by_tests : (ns : List ℕ) (ws : Walks) (more fewer b c : Bool) → more ≡ b → fewer ≡ c → (if more then Some ns ∷ ws else if fewer then on_top ns (drop 1 ws) else on_top ns ws) ≡ (if b then Some ns ∷ ws else if c then on_top ns (drop 1 ws) else on_top ns ws)
by_tests ns ws more fewer b c e f = ap (λ (x : Bool). if x then Some ns ∷ ws else if fewer then on_top ns (drop 1 ws) else on_top ns ws) e ∙ ap (λ (x : Bool). if b then Some ns ∷ ws else if x then on_top ns (drop 1 ws) else on_top ns ws) f

below : (a b : ℕ) → a < b → nat_lt a b ≡ true
below a b h = grind (arith, nat_tests)

not_below : (a b : ℕ) → b ≤ a → nat_lt a b ≡ false
not_below a b h = grind (arith, nat_tests)

-- where a frame was made, was left, and neither
pub entered : (a b : ℕ) (ns : List ℕ) (ws : Walks) → b ≡ suc a → followed a b ns ws ≡ Some ns ∷ ws
entered a b ns ws e = by_tests ns ws (nat_lt a b) (nat_lt b a) true (nat_lt b a) (below a b (omega arith)) refl

left_by : (a b : ℕ) (ns : List ℕ) (ws : Walks) → a ≡ suc b → followed a b ns ws ≡ on_top ns (drop 1 ws)
left_by a b ns ws e = by_tests ns ws (nat_lt a b) (nat_lt b a) false true (not_below a b (omega arith)) (below b a (omega arith))

stayed : (a b : ℕ) (ns : List ℕ) (ws : Walks) → a ≡ b → followed a b ns ws ≡ on_top ns ws
stayed a b ns ws e = by_tests ns ws (nat_lt a b) (nat_lt b a) false false (not_below a b (omega arith)) (not_below b a (omega arith))

-- ---- one step

-- the frames of a state stand at the ends of their walks, of which they have visits, and fields hold what is known of them
pub record Here (P : Program) (known : Known) (s : State) (ws : Walks) : Type 0 where
  pub standing : Standing P s.mode s.frames ws
  pub visits : HasVisits P known s ws

-- where fields hold the arrays that are known of them in each state of some kind, and steps lead to such states
module _ (follow : StepsFollowWalks) (kinds : RowsAreOfTheirKinds) (fitting : FittingStatesAreWellFormed) (g : Setting) (is : IsSetting g) (known : Known)
    (Good : State → Type 0) (on_good : (a b : Stage) → Follows g a b → Good a.state → Good b.state) (arrays : (s : State) → Good s → HoldArrays g.program known s) where
  module _ (a b : Stage) (follows : Follows g a b) (f : Frame) (callers : List Frame) (frames : a.state.frames ≡ f ∷ callers) where
    pub on : IsGoing a.state.mode
    on = going fitting kinds g.program g.types (limits g) known is.lawful is.typed follows.answer a.state b.state f callers frames follows.stands.fits follows.is_next

    pub still_hold : HoldConstants g.program known.constants a.state → Good a.state → HoldConstants g.program known.constants b.state
    still_hold hold good =
        let holds : HoldKnown g.program known a.state = record { constants = hold; arrays = arrays a.state good } in
        let d = done fitting kinds g.program g.types (limits g) known is.lawful is.typed follows.answer a.state b.state f callers frames follows.stands.fits follows.is_next holds in
        constants_stay g.program known.constants a.state.mode a.state f b.state d.1 hold

    pub step_on : (ws : Walks) → Good a.state → Here g.program known a.state ws → Here g.program known b.state (walks_after a.state b.state ws)
    step_on ws good h =
        let x = follow g.program g.types (limits g) follows.answer a.state b.state f callers ws is.lawful is.typed follows.stands.fits frames follows.is_next h.standing in
        record {
          standing = x.1;
          visits = visits_on fitting kinds g.program g.types (limits g) known is.lawful is.typed follows.answer a.state b.state f callers frames follows.stands.fits follows.is_next ws (walks_after a.state b.state ws) h.standing x.0 h.visits
              (arrays b.state (on_good a b follows good));
        }

  -- ---- a stay

  -- what is so at the last boundary of a stay, and behind it
  pub record Left (callers : List Frame) (m : ℕ) (a b : Stage) (nodes : List ℕ) (w : Option (List ℕ)) (lower : Walks) : Type 0 where
    pub rest : List ℕ
    pub nodes_are : nodes ≡ nodes_now a.state.mode a.state.frames ++ rest
    pub last : Stage
    pub node : ℕ
    pub top : IsTop callers m last node
    pub here : Here g.program known last.state (with_nodes rest w ∷ lower)
    pub left : Here g.program known b.state (on_top (nodes_now b.state.mode b.state.frames) lower)
    pub good : Good b.state

  now_is : {callers : List Frame} {m : ℕ} {a : Stage} {u : ℕ} (b : Stage) (top : IsTop callers m a u) → Follows g a b → nodes_now a.state.mode a.state.frames ≡ u ∷ []
  now_is {callers} {m} {a} {u} b top follows =
      ap (λ (fs : List Frame). nodes_now a.state.mode fs) top.frames ∙ now_by a.state.mode top.frame callers (on a b follows top.frame callers top.frames) ∙ ap (λ (x : ℕ). x ∷ []) (sym top.node)

  longer : {xs ys : List Frame} → xs ≡ ys → length xs ≡ length ys
  longer e = ap (λ (zs : List Frame). length zs) e

  same_walks : {s : State} {ws vs : Walks} → ws ≡ vs → Here g.program known s ws → Here g.program known s vs
  same_walks {s} e h = subst (λ (us : Walks). Here g.program known s us) e h

  shorter : {mode : Ending} {f : Frame} {callers : List Frame} {t : State} → Returns g.program mode f callers t ⊎ Drops g.program mode f callers t → length callers ≡ length t.frames
  shorter (inl r) = longer r.callers_are ∙ sym (longer r.frames)
  shorter (inr r) = longer r.callers_are ∙ sym (longer r.frames)

  pub stay_on : {callers : List Frame} {m : ℕ} {a b : Stage} {between : List Stage} {nodes : List ℕ} → Stay g callers m a b between nodes → (w : Option (List ℕ)) (lower : Walks)
      → Good a.state → Here g.program known a.state (w ∷ lower) → Left callers m a b nodes w lower
  stay_on (leaves {callers} {m} {a} {b} {u} top follows gone) w lower good h =
      let after = step_on a b follows top.frame callers top.frames (w ∷ lower) good h in
      let long = longer top.frames in
      let less = shorter gone in
      record {
        rest = [];
        nodes_are = sym (now_is b top follows) ∙ sym (append-nil (nodes_now a.state.mode a.state.frames));
        last = a;
        node = u;
        top = top;
        here = same_walks (ap (λ (x : Option (List ℕ)). x ∷ lower) (sym (with_none w))) h;
        left = same_walks (left_by (length a.state.frames) (length b.state.frames) (nodes_now b.state.mode b.state.frames) (w ∷ lower) (omega arith)) after;
        good = on_good a b follows good;
      }
  stay_on (goes {callers} {m} {a} {b} {c} {u} {cs} {us} top follows moves more) w lower good h =
      let after = step_on a b follows top.frame callers top.frames (w ∷ lower) good h in
      let long = longer top.frames in
      let same = longer moves.frames in
      let ns = nodes_now b.state.mode b.state.frames in
      let l = stay_on more (with_nodes ns w) lower (on_good a b follows good) (same_walks (stayed (length a.state.frames) (length b.state.frames) ns (w ∷ lower) (omega arith)) after) in
      record {
        rest = us;
        nodes_are = ap (λ (xs : List ℕ). xs ++ us) (sym (now_is b top follows));
        last = l.last;
        node = l.node;
        top = l.top;
        here = same_walks (ap (λ (x : Option (List ℕ)). x ∷ lower) (with_both ns l.rest w ∙ ap (λ (xs : List ℕ). with_nodes xs w) (sym l.nodes_are))) l.here;
        left = l.left;
        good = l.good;
      }
  stay_on (calls {callers} {m} {a} {b} {c} {d} {u} {bs} {cs} {us} {vs} top follows enters child more) w lower good h =
      let after = step_on a b follows top.frame callers top.frames (w ∷ lower) good h in
      let long = longer top.frames in
      let deeper = longer enters.frames in
      let ns = nodes_now b.state.mode b.state.frames in
      let inner = stay_on child (Some ns) (w ∷ lower) (on_good a b follows good) (same_walks (entered (length a.state.frames) (length b.state.frames) ns (w ∷ lower) (omega arith)) after) in
      let ms = nodes_now c.state.mode c.state.frames in
      let l = stay_on more (with_nodes ms w) lower inner.good inner.left in
      record {
        rest = us;
        nodes_are = ap (λ (xs : List ℕ). xs ++ us) (sym (now_is b top follows));
        last = l.last;
        node = l.node;
        top = l.top;
        here = same_walks (ap (λ (x : Option (List ℕ)). x ∷ lower) (with_both ms l.rest w ∙ ap (λ (xs : List ℕ). with_nodes xs w) (sym l.nodes_are))) l.here;
        left = l.left;
        good = l.good;
      }
