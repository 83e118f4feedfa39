-- What the sketch of a machine shows of the top frame.
use Rattle.std.proofs.Common.{◌≡◌, ℕ, zero, suc, ◌+◌, ◌/◌, ◌%◌, ◌^◌, ◌<◌, ◌≤◌, true, List, length, sym, ◌∙◌, ap, subst, arith, add-zero}
use Rattle.std.specs.Prelude.{IfSome, slice_index}
use Rattle.std.proofs.Math.Nat.{mod-eq_of_lt}
use Rattle.lists.proofs.Lemmas.{holds_at}
use Rattle.base.specs.Packed.{byte_of, PackedHasBytes}
use Rattle.method_cache.specs.Contents.{is_cached, word_of}
use Rattle.opcodes.specs.Bytes.{u1}
use Rattle.jop_core.specs.declared.places.TheConstants.{RAISED}
use Rattle.micro_sketch.specs.Sketch.{Sketch, abyte}
use Rattle.bytecode_model.specs.State.{Frame}
use Rattle.bytecode_model.specs.Program.{Body, body_of}
use Rattle.bytecode_model.specs.WellFormed as formed
use Rattle.image_facts.specs.Places.{object_place}
use Rattle.image_facts.specs.Says.{IsCode}
use Rattle.machine_stands.specs.Seen.{seen, MachinesAreSeen}
use Rattle.machine_stands.specs.Shown.{advanced, SketchesShow}
use Rattle.machine_stands.proofs.Counting.{locals_count, operands_count, saved_count}
use Rattle.machine_stands.proofs.Seeing.{at_instruction, sized}
use Rattle.machine_stands.proofs.Copies.{byte_is}
use Rattle.machine_stands.proofs.Registers.{registers_listed}
use Rattle.machine_stands.proofs.Standing.{least_size, greatest_size}

at_jpc : (k : ℕ) (x : Sketch) (pc : ℕ) → x.jpc ≡ pc → pc + k < 2 ^ 16 → advanced k x ≡ record x { jpc = pc + k }
at_jpc zero x pc is low = ap (λ (j : ℕ). let y : Sketch = record x { jpc = j } in y) (is ∙ sym (add-zero pc))
at_jpc (suc k) x pc is low =
    at_jpc k (record x { jpc = (x.jpc + 1) % 2 ^ 16 }) (pc + 1) (ap (λ (j : ℕ). (j + 1) % 2 ^ 16) is ∙ mod-eq_of_lt (omega (arith, low))) (omega (arith, low))
    ∙ ap (λ (j : ℕ). let y : Sketch = record x { jpc = j } in y) (let same : pc + 1 + k ≡ pc + suc k = omega arith in same)

pub sketch_shows : PackedHasBytes → MachinesAreSeen → SketchesShow
sketch_shows packed are_seen P pl n size m answer s s' h p answers mode r w =
    let st = h.stands in
    let x = seen p answers m st.words st.below in
    let sees = are_seen P pl n size m s p answers st h.well_formed mode r w in
    let here = at_instruction P pl m s st.top st.body s.mode mode st.at in
    let code = subst (λ o. IfSome o (λ (u : Body). IsCode u.code)) st.is_body (h.says.codes st.top.method) in
    let frames = subst (λ (fs : List Frame). formed.AreFrames P (length s.objects) fs) st.frames h.well_formed.frames in
    let frame = holds_at (body_of P st.top.method) st.body (formed.IsFrame P (length s.objects) st.top) st.is_body frames.0 in
    let count = sized P pl n size m s st h.well_formed in
    let long : 64 ≤ length m.stack = omega (arith, st.sizes.stack, least_size n st.sizes.is_size) in
    let words = operands_count (object_place P pl s.objects) st.top.operands st.words.operands st.are_frames.0.operands in
    let byte : (place : ℕ) → place < length st.body.code → abyte (record x { jpc = place }) ≡ u1 st.body.code place =
    λ place l. ap (λ (k : ℕ). byte_of (word_of k (place / 4) m.cache) (place % 4)) here.method
    ∙ byte_is P pl m.cache st.top.method st.body place packed h.says st.copies st.is_body (subst (λ (k : ℕ). is_cached k m.cache ≡ true) here.method here.cached) in
    let behind : (k : ℕ) → st.top.pc + 1 + k ≡ st.top.pc + (1 + k) = λ k. omega arith in
    record {
      stands = sees.stands;
      words = sees.words;
      saved = saved_count P pl st.callers st.below st.words.saved st.are_frames.0.saved;
      depth = omega (arith, words, frame.depth);
      deep = sees.deep;
      vp = st.vp;
      locals = locals_count (object_place P pl s.objects) st.top.locals st.words.locals st.are_frames.0.locals;
      small = omega (arith, st.vp, count.count, count.most, greatest_size n st.sizes.is_size);
      code = code.short;
      jpc = λ k l. ap (λ (y : Sketch). y.jpc) (at_jpc k x (st.top.pc + 1) here.jpc (omega (arith, l, code.short))) ∙ behind k;
      bytes = λ k l. ap abyte (at_jpc k x (st.top.pc + 1) here.jpc (omega (arith, l, code.short)) ∙ ap (λ (j : ℕ). let y : Sketch = record x { jpc = j } in y) (behind k)) ∙ byte (st.top.pc + (1 + k)) l;
      byte_at = byte;
      raised = slice_index m.stack RAISED;
      low = registers_listed P pl n size m s st.top long st.registers;
    }
