-- What holds of an activation's own walk and of those of all activations within it holds of the walks of all stays within its own.
use Rattle.std.proofs.Common.{◌≡◌, ℕ, suc, List, [], ◌∷◌, ◌++◌, length, sym, ap, ◌∙◌, subst, arith}
use Rattle.std.proofs.lemmas.List.{append_assoc, append-nil}
use Rattle.std.specs.List.{flat_map}
use Rattle.bytecode_model.specs.State.{Frame}
use Rattle.machine_stands.specs.Comes.{top_method}
use Rattle.method_flow.specs.Shapes.{Enters}
use Rattle.activations.specs.Setting.{Setting}
use Rattle.activations.specs.Activations.{Stage, Follows, depth, StaysAbove, IsActivation}
use Rattle.activations.specs.Stays.{IsTop, Stay}
use Rattle.activations.specs.Stays.Stay.{leaves, goes, calls}
use Rattle.activations.specs.Keeping.{node_at, stages_of, walk_of, LiesAmong}
use Rattle.activations.proofs.Staying.{left_of, left_depth, depth_is}
use Rattle.activations.proofs.Nodes.{path_of, nodes_of}
use Rattle.fact_keeping.specs.Children.{ChildrenKeepBy, KeepsBy}

-- the call of a stay is an activation
abbrev activation_of : {g : Setting} {callers : List Frame} {m : ℕ} {a b c : Stage} {u : ℕ} {bs : List Stage} {vs : List ℕ} (top : IsTop callers m a u) → Follows g a b
    → (enters : Enters g.program a.state.mode top.frame callers b.state) → Stay g (enters.waiting ∷ callers) enters.top.method b c bs vs → IsActivation g enters.top.method a c
activation_of {g} {callers} {m} {a} {b} {c} {u} {bs} top follows enters child =
    let d : depth a ≡ suc (length callers) = depth_is a (top.frame ∷ callers) top.frames in
    let e : depth b ≡ suc (suc (length callers)) = depth_is b (enters.top ∷ enters.waiting ∷ callers) enters.frames in
    record {
      running = enters.running;
      first = b;
      begins = follows;
      deeper = omega arith;
      of_method = ap top_method enters.frames;
      between = bs;
      stays = subst (λ (n : ℕ). StaysAbove g n b bs c) (sym d) (path_of child);
      ends = left_depth (left_of child) ∙ sym d;
    }

-- and the nodes of the stay are its walk
walk_is : {g : Setting} {callers : List Frame} {m : ℕ} {a b c : Stage} {u : ℕ} {bs : List Stage} {vs : List ℕ} (top : IsTop callers m a u) (follows : Follows g a b)
    (enters : Enters g.program a.state.mode top.frame callers b.state) (child : Stay g (enters.waiting ∷ callers) enters.top.method b c bs vs) → walk_of (activation_of top follows enters child) ≡ vs
walk_is {g} {callers} {m} {a} {b} {c} {u} {bs} top follows enters child =
    let d : depth a ≡ suc (length callers) = depth_is a (top.frame ∷ callers) top.frames in
    ap (λ (n : ℕ). flat_map (node_at (suc n)) (b ∷ bs)) d ∙ nodes_of child

module _ {g : Setting} (Keep : ℕ → List ℕ → Type 0) (outer : List Stage) (inner : (m : ℕ) (a b : Stage) (h : IsActivation g m a b) → LiesAmong h outer → Keep m (walk_of h)) where
  -- the boundaries of a stay, its first one included, stand among those of the activation
  pub all_keep : {callers : List Frame} {m : ℕ} {a b : Stage} {cs : List Stage} {us : List ℕ} (stay : Stay g callers m a b cs us) → (before after : List Stage)
      → outer ≡ before ++ (a ∷ (cs ++ after)) → ChildrenKeepBy Keep stay
  all_keep (leaves top follows h) before after are = tt
  all_keep (goes {callers} {m} {a} {b} {c} {u} {cs} {us} top follows h more) before after are =
      all_keep more (before ++ a ∷ []) after (are ∙ sym (append_assoc before (a ∷ []) (b ∷ (cs ++ after))))
  all_keep (calls {callers} {m} {a} {b} {c} {d} {u} {bs} {cs} {us} {vs} top follows h child more) before after are =
      -- the boundaries from c on stand behind those of the call
      let behind = c ∷ (cs ++ after) in
      let split : outer ≡ before ++ (a ∷ b ∷ (bs ++ behind)) = are ∙ ap (λ (xs : List Stage). before ++ (a ∷ b ∷ xs)) (append_assoc bs (c ∷ cs) after) in
      let activation = activation_of top follows h child in
      let among : LiesAmong activation outer = record { before = before; after = cs ++ after; split = split } in
      let kept : Keep h.top.method vs = subst (Keep h.top.method) (walk_is top follows h child) (inner h.top.method a c activation among) in
      let in_call : outer ≡ (before ++ a ∷ []) ++ (b ∷ (bs ++ behind)) = split ∙ sym (append_assoc before (a ∷ []) (b ∷ (bs ++ behind))) in
      let after_call : outer ≡ (before ++ a ∷ b ∷ bs) ++ behind = split ∙ sym (append_assoc before (a ∷ b ∷ bs) behind) in
      (kept, all_keep child (before ++ a ∷ []) behind in_call, all_keep more (before ++ a ∷ b ∷ bs) after after_call)

-- whatever is asked of walks
pub stays_keep_by : (Keep : ℕ → List ℕ → Type 0) (g : Setting) (m : ℕ) (a b : Stage) (h : IsActivation g m a b) → Keep m (walk_of h)
    → ((m' : ℕ) (a' b' : Stage) (h' : IsActivation g m' a' b') → LiesAmong h' (stages_of h) → Keep m' (walk_of h')) → KeepsBy Keep h
stays_keep_by Keep g m a b h own inner callers nodes stay =
    let d : length callers ≡ depth a = sym (left_depth (left_of stay)) ∙ h.ends in
    let walk : walk_of h ≡ nodes = ap (λ (n : ℕ). flat_map (node_at (suc n)) (h.first ∷ h.between)) (sym d) ∙ nodes_of stay in
    let are : stages_of h ≡ [] ++ (h.first ∷ (h.between ++ [])) = ap (λ (xs : List Stage). h.first ∷ xs) (sym (append-nil h.between)) in
    (subst (Keep m) walk own, all_keep Keep (stages_of h) inner stay [] [] are)
