-- Rows that raise an object of the raise list.
use Rattle.std.proofs.Common.{◌≡◌, ℕ, suc, ◌+◌, ◌%◌, ◌^◌, Bool, List, [], ◌∷◌, None, refl, sym, ◌∙◌, ap, subst, arith}
use Rattle.std.specs.Prelude.{slice_index}
use Rattle.std.proofs.lemmas.List.{get_or-drop}
use Rattle.std.proofs.Math.Nat.{mod-eq_of_lt}
use Rattle.micro_sketch.proofs.RowSteps.{no_stalls}
use Rattle.micro_sketch.specs.Sketch.{Sketch, exec}
use Rattle.micro_sketch.specs.Stands.{PortFits, Reaches, stalls}
use Rattle.micro_sketch.specs.Laws.{MachineFollows, CostsHold}
use Rattle.bytecode_model.specs.Effects.{fault_object}
use Rattle.machine_stands.specs.Comes.{params}
use Rattle.machine_stands.specs.Seen.{seen}
use Rattle.machine_stands.specs.Shown.{SketchesShow}
use Rattle.machine_stands.specs.Going.{LeavesFrame, FramesRaise}
use Rattle.machine_stands.specs.Fixed.{RaiseListIsRead}
use Rattle.opcode_steps.specs.Heap.Raising.{MadeRaisesRun, FaultsAreRaised, raised_by}

pub made_raises_run : MachineFollows → CostsHold → MadeRaisesRun
made_raises_run follows costs n p op f x e m h g =
    let y : Sketch = exec (suc g.words) g.guesses x in
    let fits : PortFits x.busy e = subst (λ (b : Bool). PortFits b e) (sym h.idle) h.entry.idle in
    let r : Reaches n x y e = follows g.words g.guesses n x e h.shape fits g.done.fine in
    let none : stalls y p.r ≡ 0 = no_stalls y p.r g.raises.kept.loads g.raises.kept.loaded in
    record { after = y; reaches = r; done = g.done; raises = g.raises; cost = λ c is. omega (arith, costs p op c n x y e h.entry r g.done is, none) }

pub faults_raised : SketchesShow → FramesRaise → RaiseListIsRead → FaultsAreRaised
faults_raised shown raise list P pl n size m answer s s' h i r f words left jpc mode linked row is stack few from to runs =
    let st = h.stands in
    let x = seen (params m i.count 0) (None ∷ []) m st.words st.below in
    let shows = shown P pl n size m answer s s' h (params m i.count 0) (None ∷ []) mode refl refl in
    let k = fault_object f in
    let read = list P pl n size m answer s s' h f linked in
    let small = st.sizes.small in
    let register : slice_index x.low 30 ≡ pl.raise_list = sym (get_or-drop 24 x.low 6 0) ∙ ap (λ (ws : List ℕ). slice_index ws 6) shows.low in
    let order : k + pl.raise_list ≡ pl.raise_list + k = omega arith in
    let place : (k + slice_index x.low 30) % 2 ^ 32 ≡ pl.raise_list + k =
    ap (λ (a : ℕ). (k + a) % 2 ^ 32) register ∙ ap (λ (a : ℕ). a % 2 ^ 32) order ∙ mod-eq_of_lt {n = pl.raise_list + k} {m = 2 ^ 32} (omega (arith, read.0, small)) in
    let leaves : LeavesFrame P pl n size m s st i k (raised_by f words jpc x) = record {
      left = left;
      few = omega (arith, few, shows.depth);
      stack = stack;
      from = from;
      to = to;
      place = ap (λ (a : ℕ). slice_index m.port.words a) place ∙ read.1;
    } in
    raise P pl n size m answer s s' h i r k (raised_by f words jpc x) mode row is leaves runs
