-- Each machine in its range is what its sketch stands for.
use Rattle.std.proofs.Common.{◌≡◌, ℕ, ◌+◌, ◌-◌, ◌%◌, List, ◌++◌, length, take, drop, reverse, sym, ap, ◌∙◌, arith, length-drop, length-take, Option}
use mathlib.Core.List.{reverse_aux, reverse_aux-eq}
use Rattle.std.proofs.lemmas.List.{take-append-drop, reverse-reverse, length-reverse}
use Rattle.std.proofs.Math.Nat.{mod-eq_of_lt}
use Rattle.jop_core.specs.State.{MachineState}
use Rattle.jop_core.specs.Scene.{begun}
use Rattle.micro_sketch.specs.Sketch.{Sketch}
use Rattle.micro_sketch.specs.Stands.{Shaped, conc, scene, stack_of, constants, sp_of}
use Rattle.micro_sketch.specs.View.{moving, sketch_of, env_of, Viewable}
use Rattle.micro_sketch.proofs.Frames.{regroup}

pub split_four : (d u : ℕ) (c : List ℕ) → take 32 (drop 32 c) ≡ constants → let r = drop 32 (drop 32 c) in
    c ≡ (take 32 c ++ (constants ++ take d r)) ++ reverse_aux (reverse (take u (drop d r))) (drop u (drop d r))
split_four d u c h =
    let r = drop 32 (drop 32 c) in
    let t = drop d r in
    let last : reverse_aux (reverse (take u t)) (drop u t) ≡ t = reverse_aux-eq (reverse (take u t)) (drop u t) ∙ ap (λ v. v ++ drop u t) (reverse-reverse (take u t)) ∙ take-append-drop u t in
    let mid : drop 32 c ≡ constants ++ r = sym (take-append-drop 32 (drop 32 c)) ∙ ap (λ v. v ++ r) h in
    sym (take-append-drop 32 c) ∙ ap (λ v. take 32 c ++ v) mid ∙ ap (λ v. take 32 c ++ (constants ++ v)) (sym (take-append-drop d r))
    ∙ sym (regroup (take 32 c) constants (take d r) t) ∙ ap (λ v. (take 32 c ++ (constants ++ take d r)) ++ v) (sym last)

pub lengths : (n d u : ℕ) (s : MachineState) → Viewable n d u s → (length (take 32 s.stack) ≡ 32) × (length (take d (moving s)) ≡ d) × (length (reverse (take u (drop d (moving s)))) ≡ u)
lengths n d u s h =
    let w = h.words in let r = h.room in
    (simp length-take (omega arith), simp (length-take, length-drop) (omega arith), simp (length-reverse, length-take, length-drop) (omega arith))

pub stands : (n d u : ℕ) (answers : List (Option ℕ)) (s : MachineState) → Viewable n d u s → s ≡ conc n (sketch_of d u answers s) (env_of s)
stands n d u answers s h =
    let x = sketch_of d u answers s in
    let l = lengths n d u s h in
    let stack : s.stack ≡ stack_of x = split_four d u s.stack h.constants_in in
    let sp : s.sp ≡ sp_of x = h.sp ∙ (let e : d + 63 + u ≡ length x.deep + 63 + length x.under = omega arith in e) in
    let ar : s.ar ≡ s.ar % n = sym (mod-eq_of_lt h.ar) in
    ap (λ (v : List ℕ). record s { stack = v }) stack
    ∙ ap (λ (k : ℕ). record s { stack = stack_of x; sp = k }) sp
    ∙ ap (λ (k : ℕ). record s { stack = stack_of x; sp = sp_of x; ar = k }) ar
    ∙ ap (λ (k : ℕ). record s { stack = stack_of x; sp = sp_of x; ar = s.ar % n; stall = k }) h.stall

pub view_shape : (n d u : ℕ) (answers : List (Option ℕ)) (s : MachineState) → Viewable n d u s → Shaped n (sketch_of d u answers s)
view_shape n d u answers s h =
    let w = h.words in let r = h.room in
    let l = lengths n d u s h in
    record { low = l.0; total = let a : length (drop u (drop d (moving s))) ≡ n - 64 - d - u = simp length-drop (omega arith) in omega arith }

pub views : (n d u : ℕ) (answers : List (Option ℕ)) (s : MachineState) → Viewable n d u s → (s ≡ conc n (sketch_of d u answers s) (env_of s)) × Shaped n (sketch_of d u answers s)
views n d u answers s h = (stands n d u answers s h, view_shape n d u answers s h)

-- a machine that begins is what its sketch stands for, whichever turns its branches may take
pub begins : (left : ℕ → ℕ) (n d u : ℕ) (answers : List (Option ℕ)) (s : MachineState) → Viewable n d u s → let x : Sketch = record (sketch_of d u answers s) { left = left } in
    (begun s answers ≡ scene n x (env_of s)) × Shaped n x
begins left n d u answers s h =
    let g = view_shape n d u answers s h in
    (ap (λ (t : MachineState). begun t answers) (stands n d u answers s h), record { low = g.low; total = g.total })
