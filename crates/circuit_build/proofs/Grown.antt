-- Well-formed logic, and a further wire that is well formed.
use Rattle.std.proofs.Common.{◌≡◌, ℕ, zero, suc, List, [], ◌∷◌, ◌++◌, map, length, refl, sym, ◌∙◌, subst, Some, false, ◌<◌, ◌^◌, arith}
use Rattle.std.specs.Prelude.{slice_get}
use Rattle.std.proofs.lemmas.List.{append-nil, append_assoc, map-append, length-map}
use Rattle.netlist.specs.declared.net.Driver.{Driver}
use Rattle.netlist.specs.declared.net.Driver.TheVariants.{Constant, Input, Register, ReadOut, Wire}
use Rattle.netlist.specs.declared.net.Net.{Net}
use Rattle.netlist.specs.declared.net.BinaryOperator.TheVariants.{Equal, Or}
use Rattle.netlist.specs.declared.net.Expression.{Expression}
use Rattle.netlist.specs.declared.net.Expression.TheVariants.{Binary}
use Rattle.netlist.specs.WellFormed.{Widths, width_of, Drives, IsWidth, IsNet, IsExpression, AreWires}
use Rattle.circuit_build.specs.Parts.{constant_net}
use Rattle.circuit_build.specs.Wiring.{Wiring, Adds}
use Rattle.circuit_build.specs.Laws.{widths_with, IsLogic, Grows, StaysWell, WellFormedGrows}

-- with the widths of further wires
abbrev with_more : Widths → List ℕ → Widths
with_more ws more = record ws { wires = ws.wires ++ more }

none_less : (ws : Widths) (e : Expression) → IsExpression (with_more ws []) e → IsExpression ws e
none_less ws e h = subst (λ l. IsExpression (record ws { wires = l }) e) (append-nil ws.wires) h

one_more : (ws : Widths) (x : Expression) (xs : List Expression) → (ws.wires ++ width_of x ∷ []) ++ map width_of xs ≡ ws.wires ++ map width_of (x ∷ xs)
one_more ws x xs = append_assoc ws.wires (width_of x ∷ []) (map width_of xs)

push : (ws : Widths) (es : List Expression) (e : Expression) → AreWires ws es → IsExpression (with_more ws (map width_of es)) e → AreWires ws (es ++ e ∷ [])
push ws [] e a h = (none_less ws e h, tt)
push ws (x ∷ xs) e a h = (
  a.0,
  push (with_more ws (width_of x ∷ [])) xs e a.1 (subst (λ l. IsExpression (record ws { wires = l }) e) (sym (one_more ws x xs)) h),
)

before : (ws : List ℕ) (v k w : ℕ) → slice_get ws k ≡ Some w → slice_get (ws ++ v ∷ []) k ≡ Some w
before [] v k w h = cc
before (x ∷ xs) v zero w h = h
before (x ∷ xs) v (suc k) w h = before xs v k w h

behind : (ws : List ℕ) (v : ℕ) → slice_get (ws ++ v ∷ []) (length ws) ≡ Some v
behind [] v = refl
behind (x ∷ xs) v = behind xs v

still_drives : (parts : Widths) (ws : List ℕ) (v : ℕ) (d : Driver) (w : ℕ) → Drives (record parts { wires = ws }) d w
    → Drives (record parts { wires = ws ++ v ∷ [] }) d w
still_drives parts ws v (Constant word) w h = h
still_drives parts ws v (Input k) w h = h
still_drives parts ws v (Register k) w h = h
still_drives parts ws v (ReadOut k) w h = h
still_drives parts ws v (Wire k) w h = before ws v k w h

still_net : (parts : Widths) (ws : List ℕ) (v : ℕ) (net : Net) → IsNet (record parts { wires = ws }) net → IsNet (record parts { wires = ws ++ v ∷ [] }) net
still_net parts ws v net h = record { width = h.width; driver = still_drives parts ws v net.driver net.width h.driver }

new_net : (parts : Widths) (es : List Expression) (e : Expression) (net : Net) → net.driver ≡ Wire (length es) → net.width ≡ width_of e → IsWidth net.width
    → IsNet (record parts { wires = map width_of es ++ width_of e ∷ [] }) net
new_net parts es e net d w h = record {
  width = h;
  driver =
      let many : length (map width_of es) ≡ length es = length-map es width_of in
      let at : slice_get (map width_of es ++ width_of e ∷ []) (length es) ≡ Some (width_of e) =
      subst (λ k. slice_get (map width_of es ++ width_of e ∷ []) k ≡ Some (width_of e)) many (behind (map width_of es) (width_of e)) in
      let wide : slice_get (map width_of es ++ width_of e ∷ []) (length es) ≡ Some net.width =
      subst (λ v. slice_get (map width_of es ++ width_of e ∷ []) (length es) ≡ Some v) (sym w) at in
      subst (λ x. Drives (record parts { wires = map width_of es ++ width_of e ∷ [] }) x net.width) (sym d) wide;
}

-- the same wires, whether widths are taken of all or of those before and the new one
grown_widths : (es : List Expression) (e : Expression) → map width_of es ++ width_of e ∷ [] ≡ map width_of (es ++ e ∷ [])
grown_widths es e = sym (map-append width_of es (e ∷ []))

stays : (parts : Widths) (old : Wiring) (net : Net) (e : Expression) → net.driver ≡ Wire (length old.wires) → IsLogic parts old
    → IsExpression (widths_with parts old) e → StaysWell parts old (record old { wires = old.wires ++ e ∷ [] }) net e
stays parts old net e d a h = record {
  logic = push (record parts { wires = [] }) old.wires e a h;
  net = λ same is.
      subst (λ (l : List ℕ). IsNet (record parts { wires = l }) net) (grown_widths old.wires e) (new_net parts old.wires e net d same is);
  others = λ other it.
      subst (λ (l : List ℕ). IsNet (record parts { wires = l }) other) (grown_widths old.wires e)
      (still_net parts (map width_of old.wires) (width_of e) other it);
}

pub well_formed_grows : WellFormedGrows
well_formed_grows parts old new net e a whole well h =
    subst (λ (l : Wiring). StaysWell parts old l net e) (sym (a.wires whole)) (stays parts old net e a.driver well h)

-- ---- a net compared with a word, and the bit joined to another one

pub not_lacking : (old new : Wiring) (net : Net) (e : Expression) → Adds old new net e → new.lacks ≡ false → old.lacks ≡ false
not_lacking old new net e a h = subst (λ (l : Wiring). l.lacks ≡ false) (a.wires h) h

one_wide : IsWidth 1
one_wide = (omega arith, omega arith)

pub begins : (parts : Widths) (a : Wiring) (net : Net) → net ≡ constant_net 1 0 → IsLogic parts a → Grows parts a a net
begins parts a net is well = record {
  logic = well;
  net = subst (λ n. IsNet (widths_with parts a) n) (sym is) (record { width = one_wide; driver = omega arith });
  others = λ other h. h;
}

pub grows_on : (parts : Widths) (a b c d : Wiring) (x any bit or : Net) (word : ℕ) → Adds b c bit (Binary Equal x (constant_net x.width word))
    → bit.width ≡ 1 → Adds c d or (Binary Or any bit) → or.width ≡ any.width → any.width ≡ 1 → d.lacks ≡ false → word < 2 ^ x.width
    → IsNet (widths_with parts a) x → Grows parts a b any → Grows parts a d or
grows_on parts a b c d x any bit or word first wide second same one whole lt there g =
    let whole_c : c.lacks ≡ false = not_lacking c d or (Binary Or any bit) second whole in
    let at_b : IsNet (widths_with parts b) x = g.others x there in
    let constant : IsNet (widths_with parts b) (constant_net x.width word) = record { width = at_b.width; driver = lt } in
    let f = well_formed_grows parts b c bit (Binary Equal x (constant_net x.width word)) first whole_c g.logic (at_b, constant, refl) in
    let bit_there : IsNet (widths_with parts c) bit = f.net wide (subst IsWidth (sym wide) one_wide) in
    let h = well_formed_grows parts c d or (Binary Or any bit) second whole f.logic (f.others any g.net, bit_there, one ∙ sym wide) in
    record {
      logic = h.logic;
      net = h.net same (subst IsWidth (sym (same ∙ one)) one_wide);
      others = λ other o. h.others other (f.others other (g.others other o));
    }
