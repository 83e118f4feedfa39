-- A call that fits, from the common part to the first instruction of the method.
use Rattle.std.proofs.Common.{◌≡◌, ℕ, ◌+◌, ◌-◌, ◌%◌, ◌^◌, ◌<◌, ◌≤◌, ◌&&◌, Bool, true, false, List, [], ◌∷◌, ◌++◌, length, reverse, bit_and, refl, sym, ap, ◌∙◌, arith, append_assoc, length-append, zero-add}
use Rattle.std.proofs.lemmas.List.{length-reverse}
use mathlib.Core.List.{reverse_aux}
use Rattle.microcode.specs.declared.addresses.TheConstants.{INVOKE}
use Rattle.micro_sketch.specs.Sketch.{Sketch, exec, can_find}
use Rattle.micro_sketch.specs.Stands.{Env, Shaped, Reaches, IsDone}
use Rattle.micro_sketch.specs.Rows.{Switches}
use Rattle.call_steps.specs.Method.{max_locals}
use Rattle.call_steps.specs.Entry.{CanEnter, fits_at, enter}
use Rattle.call_steps.proofs.Parts.{PartLaws, Low, at, computed, followed_by, to_split, Off, off, Last, last_two}
use Rattle.call_steps.proofs.InvokeRows.{low_invoking, invoking, limits, Reads, low_with, read_by, at_place, reads, at_cut, cuts, at_saving, entering, enters}
use Rattle.call_steps.proofs.Invoking.{clean_reads, reads_are, turned}

-- what a call comes to
pub record EntryMade (n : ℕ) (x : Sketch) (e : Env) (m behind : ℕ) (arguments others : List ℕ) : Type 0 where
  pub more : List ℕ
  pub count : length arguments + length more ≡ max_locals x.memory m
  pub after : Sketch
  pub reaches : Reaches n x after e
  pub done : IsDone after
  pub switches : Switches (enter x m behind arguments others more) x after

-- ---- the parts

-- the sketches between them

abbrev below_of : Sketch → (others : List ℕ) → ℕ
below_of f others = length f.deep + length others

abbrev clean : Sketch → Low → (m : ℕ) → (others : List ℕ) → Reads
clean f v m others = clean_reads f v m (below_of f others)

abbrev low_at : Sketch → Low → (m : ℕ) → (others : List ℕ) → Low
low_at f v m others = low_invoking f v m (below_of f others)

abbrev at_frame : Sketch → Low → (m t u k : ℕ) → (us js others : List ℕ) → Sketch
at_frame f v m t u k us js others = at_place f (low_at f v m others) t u k us js (clean f v m others)

abbrev with_place : Sketch → Low → (m : ℕ) → (others : List ℕ) → Sketch
with_place f v m others = let r = clean f v m others in record (read_by f r) { vp = r.place }

abbrev low_read : Sketch → Low → (m : ℕ) → (others : List ℕ) → Low
low_read f v m others = low_with f (low_at f v m others) (clean f v m others)

abbrev framed_here : Sketch → Low → (m t u k : ℕ) → (us js others : List ℕ) → Sketch
framed_here f v m t u k us js others = at (INVOKE + 38) (with_place f v m others) (low_read f v m others) t u us (u ∷ t ∷ k ∷ js)

abbrev last_place : Sketch → Low → (m : ℕ) → (others : List ℕ) → ℕ
last_place f v m others = let r = clean f v m others in r.place + r.locals - 1

abbrev low_cut : Sketch → Low → (m : ℕ) → (others : List ℕ) → Low
low_cut f v m others = record (low_read f v m others) { s15 = last_place f v m others }

abbrev begins_at : Sketch → Low → (m t u j1 j2 j3 : ℕ) → (us js others : List ℕ) → Sketch
begins_at f v m t u j1 j2 j3 us js others = invoking f v m (below_of f others) t u j1 j2 j3 us js

to_place : PartLaws → (n : ℕ) (f : Sketch) (v : Low) (m t u j1 j2 j3 : ℕ) (us js arguments others : List ℕ) (e : Env) → let x = begins_at f v m t u j1 j2 j3 us js others in CanEnter n x m arguments others → fits_at x m ≡ true
    → Shaped n x → e.port ≡ 0 → Reaches n x (at_frame f v m t u (bit_and (limits f m) 65535) us js others) e
to_place laws n f v m t u j1 j2 j3 us js arguments others e c fit h port =
    let k = bit_and (limits f m) 65535 in
    let x = begins_at f v m t u j1 j2 j3 us js others in
    computed laws n 36 (false ∷ []) x (at_frame f v m t u k us js others) e h port
    (reads f v m (below_of f others) t u j1 j2 j3 us js ∙ ap (λ (r : Reads). at_place f (low_at f v m others) t u k us js r) (reads_are n f v m t u j1 j2 j3 us js arguments others c fit)) refl

to_frame : PartLaws → (n : ℕ) (f : Sketch) (v : Low) (m t u k : ℕ) (us js others : List ℕ) (e : Env) → Shaped n (at_frame f v m t u k us js others) → e.port ≡ 0 → 64 + (length f.deep + length others) < n
    → Reaches n (at_frame f v m t u k us js others) (framed_here f v m t u k us js others) e
to_frame laws n f v m t u k us js others e h port small =
    laws.frames n (at_frame f v m t u k us js others) e false false (record { not_done = refl; running = refl }) h port (record { code = 28; word = refl; is = refl }) small refl

last_is : (a b : ℕ) → 0 < a → a + b < 2 ^ 32 → ((a + b) % 2 ^ 32 + (2 ^ 32 - 1)) % 2 ^ 32 ≡ a + b - 1
last_is a b h l = omega arith

to_cut : PartLaws → (n : ℕ) (f : Sketch) (v : Low) (m t u k : ℕ) (us js others : List ℕ) (e : Env) → Shaped n (framed_here f v m t u k us js others) → e.port ≡ 0
    → let r = clean f v m others in r.place + r.locals < 2 ^ 32
    → Reaches n (framed_here f v m t u k us js others) (at_cut (with_place f v m others) (low_read f v m others) t u us (k ∷ js) (last_place f v m others)) e
to_cut laws n f v m t u k us js others e h port small =
    let r = clean f v m others in
    computed laws n 10 [] (framed_here f v m t u k us js others) (at_cut (with_place f v m others) (low_read f v m others) t u us (k ∷ js) (last_place f v m others)) e h port
    (cuts (with_place f v m others) (low_read f v m others) t u u t us (k ∷ js)
    ∙ ap (λ (i : ℕ). at_cut (with_place f v m others) (low_read f v m others) t u us (k ∷ js) i) (last_is r.place r.locals (omega arith) small)) refl

to_saving : PartLaws → (n : ℕ) (f : Sketch) (v : Low) (t u last a b q1 q2 q3 q4 : ℕ) (us js deep rest : List ℕ) (e : Env) → Shaped n (at_cut f v t u us js last) → e.port ≡ 0
    → f.deep ++ reverse_aux us (u ∷ t ∷ js) ≡ deep ++ (a ∷ b ∷ q1 ∷ q2 ∷ q3 ∷ q4 ∷ rest) → last ≡ length deep + 63 + 2
    → Reaches n (at_cut f v t u us js last) (at_saving (record f { deep = deep }) (record v { s15 = last }) t u a b q1 q2 q3 q4 rest) e
to_saving laws n f v t u last a b q1 q2 q3 q4 us js deep rest e h port same place =
    laws.moves n (at_cut f v t u us js last) e false false deep (b ∷ a ∷ []) (q1 ∷ q2 ∷ q3 ∷ q4 ∷ rest) (record { not_done = refl; running = refl }) h port (record { code = 30; word = refl; is = refl }) same place refl

to_method : PartLaws → (n : ℕ) (f : Sketch) (v : Low) (t u a b q1 q2 q3 q4 : ℕ) (rest : List ℕ) (e : Env) → Shaped n (at_saving f v t u a b q1 q2 q3 q4 rest) → e.port ≡ 0 → can_find f v.s0 ≡ true
    → Reaches n (at_saving f v t u a b q1 q2 q3 q4 rest) (entering f v a b (exec 15 [] (at_saving f v t u a b q1 q2 q3 q4 rest)).above true) e
to_method laws n f v t u a b q1 q2 q3 q4 rest e h port can =
    let x = at_saving f v t u a b q1 q2 q3 q4 rest in
    let above = (exec 15 [] x).above in
    computed laws n 14 [] x (entering f v a b above true) e h port
    (enters f v t u a b q1 q2 q3 q4 rest ∙ ap (λ (ok : Bool). entering f v a b above ok) (ap (λ (ok : Bool). (ok && true) && true) can)) refl

-- ---- the words of the stack, with more local variables

-- where the stack and the words past it are split
pub record Placed (f : Sketch) (us js : List ℕ) (t u k : ℕ) (arguments others : List ℕ) (locals : ℕ) : Type 0 where
  pub past : Off (locals - length arguments) (k ∷ js)
  pub last : Last (f.deep ++ (reverse others ++ (reverse arguments ++ past.first)))
  pub same : f.deep ++ reverse_aux us (u ∷ t ∷ k ∷ js) ≡ last.first ++ (last.a ∷ last.b ∷ past.a ∷ past.b ∷ past.c ∷ past.d ∷ past.rest)
  pub count : length last.first + 2 ≡ length f.deep + length others + locals

joined : (deep words other past same : List ℕ) {whole : List ℕ} → words ≡ other → past ≡ same → deep ++ reverse_aux other same ≡ whole → deep ++ reverse_aux words past ≡ whole
joined deep words other past same e g h = ap (λ (ws : List ℕ). deep ++ reverse_aux ws past) e ∙ ap (λ (ws : List ℕ). deep ++ reverse_aux other ws) g ∙ h

placed : (f : Sketch) (us js : List ℕ) (t u k : ℕ) (arguments others : List ℕ) (locals : ℕ) → t ∷ u ∷ us ≡ arguments ++ others → length arguments ≤ locals → locals - length arguments + 4 ≤ length js + 1
    → 2 ≤ length f.deep + length others + locals → Placed f us js t u k arguments others locals
placed f us js t u k arguments others locals split most room some =
    let long_enough : locals - length arguments + 4 ≤ length (k ∷ js) = omega (arith, room) in
    let o = off (locals - length arguments) (k ∷ js) long_enough in
    let whole = f.deep ++ (reverse others ++ (reverse arguments ++ o.first)) in
    let count = o.count in
    let long : length whole ≡ length f.deep + length others + locals =
    omega (arith, length-append f.deep (reverse others ++ (reverse arguments ++ o.first)), length-append (reverse others) (reverse arguments ++ o.first), length-append (reverse arguments) o.first, length-reverse others, length-reverse arguments) in
    let l = last_two whole (omega arith) in
    let q = o.a ∷ o.b ∷ o.c ∷ o.d ∷ o.rest in
    record {
      past = o;
      last = l;
      same = joined f.deep (t ∷ u ∷ us) (arguments ++ others) (k ∷ js) (o.first ++ q) split o.same (turned f.deep arguments others o.first q ∙ ap (λ (ws : List ℕ). ws ++ q) l.same ∙ append_assoc l.first (l.a ∷ l.b ∷ []) q);
      count = omega (arith, ap (λ (ws : List ℕ). length ws) l.same, length-append l.first (l.a ∷ l.b ∷ []));
    }

-- ---- all of it

pub entry_made : PartLaws → (n : ℕ) (f : Sketch) (v : Low) (m t u j1 j2 j3 : ℕ) (us js arguments others : List ℕ) (e : Env) → let x = begins_at f v m t u j1 j2 j3 us js others in CanEnter n x m arguments others → fits_at x m ≡ true
    → Shaped n x → e.port ≡ 0 → EntryMade n x e m f.jpc arguments others
entry_made laws n f v m t u j1 j2 j3 us js arguments others e c fit h port =
    let x = begins_at f v m t u j1 j2 j3 us js others in
    let k = bit_and (limits f m) 65535 in
    let r = clean f v m others in
    let room = c.room fit in
    let size = c.size in
    let most = c.most in
    let total = h.total in
    let split : length us + 2 ≡ length arguments + length others = omega (arith, ap (λ (ws : List ℕ). length ws) c.split, length-append arguments others) in
    let s = placed f us js t u k arguments others r.locals c.split most (omega arith) (omega arith) in
    let d = s.last in
    let o = s.past in
    let f2 = record (with_place f v m others) { deep = d.first } in
    let v2 = low_cut f v m others in
    let above = (exec 15 [] (at_saving f2 v2 t u d.a d.b o.a o.b o.c o.d o.rest)).above in
    let y1 = at_frame f v m t u k us js others in
    let y2 = framed_here f v m t u k us js others in
    let y3 = at_cut (with_place f v m others) (low_read f v m others) t u us (k ∷ js) (last_place f v m others) in
    let y4 = at_saving f2 v2 t u d.a d.b o.a o.b o.c o.d o.rest in
    let y5 = entering f2 v2 d.a d.b above true in
    let r1 = to_place laws n f v m t u j1 j2 j3 us js arguments others e c fit h port in
    let r2 = to_frame laws n f v m t u k us js others r1.env r1.shape r1.port (omega arith) in
    let r3 = to_cut laws n f v m t u k us js others r2.env r2.shape r2.port (omega arith) in
    let count = s.count in
    let r4 = to_saving laws n (with_place f v m others) (low_read f v m others) t u (last_place f v m others) d.a d.b o.a o.b o.c o.d us (k ∷ js) d.first o.rest r3.env r3.shape r3.port s.same (omega arith) in
    let r5 = to_method laws n f2 v2 t u d.a d.b o.a o.b o.c o.d o.rest r4.env r4.shape r4.port c.method.found in
    let run = followed_by laws n x y1 y5 e r1 (followed_by laws n y1 y2 y5 r1.env r2 (followed_by laws n y2 y3 y5 r2.env r3 (followed_by laws n y3 y4 y5 r3.env r4 r5 refl) refl) refl) refl in
    let deep = f.deep ++ (reverse others ++ (reverse arguments ++ o.first)) in
    let sp : ℕ = 64 + below_of f others - 3 in
    let under = f.vp ∷ f.jpc ∷ sp ∷ [] in
    let together : d.first ++ reverse_aux (f.vp ∷ f.jpc ∷ sp ∷ d.b ∷ d.a ∷ []) above ≡ deep ++ reverse_aux under above =
    sym (append_assoc d.first (d.a ∷ d.b ∷ []) (sp ∷ f.jpc ∷ f.vp ∷ above)) ∙ ap (λ (ws : List ℕ). ws ++ (sp ∷ f.jpc ∷ f.vp ∷ above)) (sym d.same) in
    let reached = to_split laws n x y5 e deep under above run together (omega (arith, ap (λ (ws : List ℕ). length ws) d.same, length-append d.first (d.a ∷ d.b ∷ []))) in
    let some = o.count in
    record {
      more = o.first;
      count = omega arith;
      after = _;
      reaches = reached;
      done = record { fine = refl; done = refl; idle = refl };
      switches = record {
        words = refl;
        deep = refl;
        low = refl;
        memory = refl;
        vp = refl;
        method = refl;
        cache = refl;
        hits = refl;
        misses = refl;
        loads = zero-add _;
        loaded = zero-add _;
        answers = refl;
        output = refl;
        opcode = refl;
        jpc = refl;
        mpc = refl;
        operand = refl;
        running = refl;
      };
    }
