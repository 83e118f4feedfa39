-- A run that stays above so many frames is the stay of the frame on top.
use Rattle.std.proofs.Common.{◌≡◌, ℕ, zero, suc, ◌<◌, ◌≤◌, List, [], ◌∷◌, ◌++◌, length, refl, sym, ap, ◌∙◌, subst, inl, inr, arith}
use Rattle.std.proofs.lemmas.List.{append_assoc, length-append}
use Rattle.bytecode_model.specs.State.{Frame}
use Rattle.lists.specs.Members.{heads, tails}
use Rattle.method_flow.specs.Nodes.{number_of}
use Rattle.method_flow.specs.Shapes.{node_of, Enters, FramesStep}
use Rattle.method_flow.specs.Shapes.FramesStep.{moves, enters, returns, drops, stops}
use Rattle.activations.specs.Setting.{Setting}
use Rattle.activations.specs.Activations.{Stage, Follows, depth, StaysAbove}
use Rattle.activations.specs.Stays.{IsTop, Stay}
use Rattle.activations.specs.Stays.Stay.{leaves, goes, calls}

-- each step of a run in the setting has a shape
abbrev pub HasShapes : Setting → Type 0
HasShapes g = (a b : Stage) (f : Frame) (callers : List Frame) → Follows g a b → a.state.frames ≡ f ∷ callers → FramesStep g.program a.state.mode f callers b.state

pub depth_is : (a : Stage) (fs : List Frame) → a.state.frames ≡ fs → depth a ≡ length fs
depth_is a fs e = ap (λ (xs : List Frame). length xs) e

-- ---- where a stay ends, the caller is on top

pub record IsLeft (callers : List Frame) (c : Stage) : Type 0 where
  pub caller : Frame
  pub others : List Frame
  pub callers_are : callers ≡ caller ∷ others
  pub top : Frame
  pub frames : c.state.frames ≡ top ∷ others
  pub method : top.method ≡ caller.method

pub left_of : {g : Setting} {callers : List Frame} {m : ℕ} {a b : Stage} {cs : List Stage} {us : List ℕ} → Stay g callers m a b cs us → IsLeft callers b
left_of (leaves top follows (inl h)) = record { caller = h.caller; others = h.others; callers_are = h.callers_are; top = h.top; frames = h.frames; method = h.same }
left_of (leaves top follows (inr h)) = record { caller = h.caller; others = h.others; callers_are = h.callers_are; top = h.top; frames = h.frames; method = h.same }
left_of (goes top follows h more) = left_of more
left_of (calls top follows h child more) = left_of more

-- there are as many frames as callers
pub left_depth : {callers : List Frame} {c : Stage} → IsLeft callers c → depth c ≡ length callers
left_depth {callers} {c} left = depth_is c (left.top ∷ left.others) left.frames ∙ ap (λ (xs : List Frame). length xs) (sym left.callers_are)

-- the caller is the frame that waited
pub record IsBack (waiting : Frame) (callers : List Frame) (c : Stage) : Type 0 where
  pub top : Frame
  pub frames : c.state.frames ≡ top ∷ callers
  pub method : top.method ≡ waiting.method

pub back_of : (waiting : Frame) (callers : List Frame) (c : Stage) → IsLeft (waiting ∷ callers) c → IsBack waiting callers c
back_of waiting callers c left =
    let head : waiting ≡ left.caller = heads waiting left.caller callers left.others left.callers_are in
    let tail : callers ≡ left.others = tails waiting left.caller callers left.others left.callers_are in
    record {
      top = left.top;
      frames = left.frames ∙ ap (λ (xs : List Frame). left.top ∷ xs) (sym tail);
      method = left.method ∙ ap (λ (f : Frame). f.method) (sym head);
    }

-- ---- the stay of the frame on top

module _ (g : Setting) (shapes : HasShapes g) (d : ℕ) (some : 1 ≤ d) (b : Stage) (ends : depth b ≡ d) where
  -- it ends at b, or earlier, from where the run goes on
  data Split (callers : List Frame) (m : ℕ) (a : Stage) (cs : List Stage) : Type 0 where
    whole : {us : List ℕ} → Stay g callers m a b cs us → Split callers m a cs
    part : {c : Stage} {us : List ℕ} (es ds : List Stage) → Stay g callers m a c es us → cs ≡ es ++ c ∷ ds → StaysAbove g d c ds b → d < depth c → Split callers m a cs

  abbrev top_of : (a : Stage) (f : Frame) (callers : List Frame) (m : ℕ) → a.state.frames ≡ f ∷ callers → f.method ≡ m → IsTop callers m a (number_of (node_of a.state.mode f))
  top_of a f callers m frames method = record { frame = f; frames = frames; method = method; node = refl }

  -- a step, with the boundaries up to x, before more of the same frame
  then_on : (callers : List Frame) (m : ℕ) (a x : Stage) (before ds es : List Stage) → es ≡ before ++ ds
      → ((c : Stage) (cs : List Stage) (us : List ℕ) → Stay g callers m x c cs us → (vs : List ℕ) × Stay g callers m a c (before ++ cs) vs) → Split callers m x ds → Split callers m a es
  then_on callers m a x before ds es are step (whole {us} s) =
      let t = step b ds us s in
      whole (subst (λ (xs : List Stage). Stay g callers m a b xs t.0) (sym are) t.1)
  then_on callers m a x before ds es are step (part {c} {us} fs rest s split path above) =
      let t = step c fs us s in
      part (before ++ fs) rest t.1 (are ∙ (ap (λ (xs : List Stage). before ++ xs) split ∙ sym (append_assoc before fs (c ∷ rest)))) path above

  -- what is known of shorter runs
  abbrev Shorter : ℕ → Type 0
  Shorter n = (a : Stage) (cs : List Stage) → length cs ≤ n → (f : Frame) (callers : List Frame) (m : ℕ) → a.state.frames ≡ f ∷ callers → f.method ≡ m → d ≤ length callers → StaysAbove g d a cs b
      → Split callers m a cs

  on_last : (a : Stage) (f : Frame) (callers : List Frame) (m : ℕ) → (frames : a.state.frames ≡ f ∷ callers) → (method : f.method ≡ m) → d ≤ length callers → Follows g a b
      → FramesStep g.program a.state.mode f callers b.state → Split callers m a []
  on_last a f callers m frames method deep follows (moves h) = let e = depth_is b _ h.frames in absurd (omega arith)
  on_last a f callers m frames method deep follows (enters h) = let e = depth_is b _ h.frames in absurd (omega arith)
  on_last a f callers m frames method deep follows (returns h) = whole (leaves (top_of a f callers m frames method) follows (inl h))
  on_last a f callers m frames method deep follows (drops h) = whole (leaves (top_of a f callers m frames method) follows (inr h))
  on_last a f callers m frames method deep follows (stops none halted) = let e = ap (λ (xs : List Frame). length xs) none in absurd (omega arith)

  -- behind a call that has come back
  called : (n : ℕ) → Shorter n → (a x : Stage) (ds : List Stage) → length ds ≤ n → (f : Frame) (callers : List Frame) (m : ℕ) → (frames : a.state.frames ≡ f ∷ callers) → (method : f.method ≡ m)
      → d ≤ length callers → Follows g a x → (h : Enters g.program a.state.mode f callers x.state) → Split (h.waiting ∷ callers) h.top.method x ds → Split callers m a (x ∷ ds)
  called n shorter a x ds few f callers m frames method deep follows h (whole child) =
      let e = left_depth (left_of child) in
      absurd (omega arith)
  called n shorter a x ds few f callers m frames method deep follows h (part {c} {us} es rest child split path above) =
      let back = back_of h.waiting callers c (left_of child) in
      let l = ap (λ (xs : List Stage). length xs) split ∙ length-append es (c ∷ rest) in
      let more = shorter c rest (omega arith) back.top callers m back.frames (back.method ∙ (h.same ∙ method)) deep path in
      let before = x ∷ (es ++ c ∷ []) in
      let joined : (cs : List Stage) → before ++ cs ≡ x ∷ (es ++ c ∷ cs) = λ cs. ap (λ (xs : List Stage). x ∷ xs) (append_assoc es (c ∷ []) cs) in
      let are : x ∷ ds ≡ before ++ rest = ap (λ (xs : List Stage). x ∷ xs) split ∙ sym (joined rest) in
      let u = number_of (node_of a.state.mode f) in
      then_on callers m a c before rest (x ∷ ds) are
      (λ e cs vs s. (u ∷ vs, subst (λ (xs : List Stage). Stay g callers m a e xs (u ∷ vs)) (sym (joined cs)) (calls (top_of a f callers m frames method) follows h child s))) more

  on_first : (n : ℕ) → Shorter n → (a x : Stage) (ds : List Stage) → length ds ≤ n → (f : Frame) (callers : List Frame) (m : ℕ) → (frames : a.state.frames ≡ f ∷ callers) → (method : f.method ≡ m)
      → d ≤ length callers → d < depth x → Follows g a x → StaysAbove g d x ds b → FramesStep g.program a.state.mode f callers x.state → Split callers m a (x ∷ ds)
  on_first n shorter a x ds few f callers m frames method deep above follows path (moves h) =
      let more = shorter x ds few h.top callers m h.frames (h.same ∙ method) deep path in
      then_on callers m a x (x ∷ []) ds (x ∷ ds) refl (λ e cs vs s. (_, goes (top_of a f callers m frames method) follows h s)) more
  on_first n shorter a x ds few f callers m frames method deep above follows path (enters h) =
      called n shorter a x ds few f callers m frames method deep follows h (shorter x ds few h.top (h.waiting ∷ callers) h.top.method h.frames refl (omega arith) path)
  on_first n shorter a x ds few f callers m frames method deep above follows path (returns h) = part [] ds (leaves (top_of a f callers m frames method) follows (inl h)) refl path above
  on_first n shorter a x ds few f callers m frames method deep above follows path (drops h) = part [] ds (leaves (top_of a f callers m frames method) follows (inr h)) refl path above
  on_first n shorter a x ds few f callers m frames method deep above follows path (stops none halted) = let e = ap (λ (xs : List Frame). length xs) none in absurd (omega arith)

  split_run : (n : ℕ) → Shorter n
  split_run n a [] few f callers m frames method deep follows = on_last a f callers m frames method deep follows (shapes a b f callers follows frames)
  split_run zero a (x ∷ ds) few f callers m frames method deep path = absurd (omega arith)
  split_run (suc n) a (x ∷ ds) few f callers m frames method deep path = on_first n (split_run n) a x ds (omega arith) f callers m frames method deep path.0 path.1 path.2 (shapes a x f callers path.1 frames)

  -- where the frame's callers are so many, the run ends with its stay
  pub all_of : (a : Stage) (cs : List Stage) (f : Frame) (callers : List Frame) → a.state.frames ≡ f ∷ callers → d ≡ length callers → StaysAbove g d a cs b → (us : List ℕ) × Stay g callers f.method a b cs us
  all_of a cs f callers frames deep path = by (split_run (length cs) a cs (omega arith) f callers f.method frames refl (omega arith) path)
    where
      by : Split callers f.method a cs → (us : List ℕ) × Stay g callers f.method a b cs us
      by (whole {us} s) = (us, s)
      by (part {c} {us} es ds s split path' above) = let e = left_depth (left_of s) in absurd (omega arith)
