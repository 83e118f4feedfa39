-- The words of a well-formed netlist, wire after wire.
use Rattle.std.proofs.Common.{◌≡◌, ℕ, zero, suc, ◌+◌, ◌<◌, ◌*◌, ◌/◌, ◌%◌, ◌^◌, ◌-◌, List, [], ◌∷◌, ◌++◌, length, refl, sym, ap, ◌∙◌, arith, Some}
use Rattle.std.specs.Prelude.{slice_get, slice_index, ◌==◌, if◌then◌else◌}
use Rattle.std.proofs.lemmas.List.{length-append}
use Rattle.lists.proofs.Lemmas.{some_same}
use Rattle.netlist.specs.declared.net.Driver.{Driver}
use Rattle.netlist.specs.declared.net.Driver.TheVariants.{Constant, Input, Register, ReadOut, Wire}
use Rattle.netlist.specs.declared.net.Net.{Net}
use Rattle.netlist.specs.declared.net.Expression.{Expression}
use Rattle.netlist.specs.declared.net.Expression.TheVariants.{Not, Binary, Part, Join, Choose, Table}
use Rattle.netlist.specs.Meaning.{Words, computed, result_of, word_on, driven, with_wires, words_of}
use Rattle.netlist.specs.Evaluation.{words_with}
use Rattle.netlist.specs.WellFormed.{Widths, width_of, widths_before, Drives, IsNet, IsExpression, AreWires}
use Rattle.circuit_build.specs.Laws.{LogicSettles}

pub index_before : (xs ys : List ℕ) (k : ℕ) → k < length xs → slice_index (xs ++ ys) k ≡ slice_index xs k
index_before [] ys k h = absurd (omega (arith, h))
index_before (x ∷ xs) ys zero h = refl
index_before (x ∷ xs) ys (suc k) h = index_before xs ys k (omega (arith, h))

pub index_at : (xs : List ℕ) (y : ℕ) → slice_index (xs ++ y ∷ []) (length xs) ≡ y
index_at [] y = refl
index_at (x ∷ xs) y = index_at xs y

there : (ws : List ℕ) (k w : ℕ) → slice_get ws k ≡ Some w → k < length ws
there [] k w h = cc
there (x ∷ xs) zero w h = omega arith
there (x ∷ xs) (suc k) w h = let lt = there xs k w h in omega (arith, lt)

-- words with further wires
record Further (ws xs : Words) : Type 0 where
  inputs : xs.inputs ≡ ws.inputs
  registers : xs.registers ≡ ws.registers
  read_outs : xs.read_outs ≡ ws.read_outs
  wires : (k : ℕ) → k < length ws.wires → slice_index xs.wires k ≡ slice_index ws.wires k

abbrev with_word : Words → ℕ → Words
with_word ws word = record ws { wires = ws.wires ++ word ∷ [] }

one_longer : (ws : List ℕ) (word : ℕ) → length (ws ++ word ∷ []) ≡ length ws + 1
one_longer ws word = length-append ws (word ∷ [])

further : (ws : Words) (es : List Expression) → Further ws (with_wires ws es)
further ws [] = record { inputs = refl; registers = refl; read_outs = refl; wires = λ k h. refl }
further ws (e ∷ es) =
    let next : Further (with_word ws (result_of ws e)) (with_wires (with_word ws (result_of ws e)) es) = further (with_word ws (result_of ws e)) es in
    let longer = one_longer ws.wires (result_of ws e) in
    record {
      inputs = next.inputs;
      registers = next.registers;
      read_outs = next.read_outs;
      wires = λ k h. next.wires k (omega (arith, h, longer)) ∙ index_before ws.wires (result_of ws e ∷ []) k h;
    }

same_driven : (vs : Widths) (ws xs : Words) (d : Driver) (w : ℕ) → Further ws xs → length ws.wires ≡ length vs.wires → Drives vs d w → driven xs d ≡ driven ws d
same_driven vs ws xs (Constant word) w f many h = refl
same_driven vs ws xs (Input k) w f many h = ap (λ l. slice_index l k) f.inputs
same_driven vs ws xs (Register k) w f many h = ap (λ l. slice_index l k) f.registers
same_driven vs ws xs (ReadOut k) w f many h = ap (λ l. slice_index l k) f.read_outs
same_driven vs ws xs (Wire k) w f many h = let lt = there vs.wires k w h in f.wires k (omega (arith, lt, many))

same_word : (vs : Widths) (ws xs : Words) (net : Net) → Further ws xs → length ws.wires ≡ length vs.wires → IsNet vs net → word_on xs net ≡ word_on ws net
same_word vs ws xs net f many h = same_driven vs ws xs net.driver net.width f many h.driver

-- what stands before it makes an expression's word
same_result : (vs : Widths) (ws xs : Words) (e : Expression) → Further ws xs → length ws.wires ≡ length vs.wires → IsExpression vs e
    → result_of xs e ≡ result_of ws e
same_result vs ws xs (Not x) f many h = ap (λ n. 2 ^ x.width - 1 - n) (same_word vs ws xs x f many h)
same_result vs ws xs (Binary o x y) f many h =
    ap (λ n. computed o x.width n (word_on xs y)) (same_word vs ws xs x f many h.0)
    ∙ ap (λ n. computed o x.width (word_on ws x) n) (same_word vs ws xs y f many h.1)
same_result vs ws xs (Part x low width) f many h = ap (λ n. n / 2 ^ low % 2 ^ width) (same_word vs ws xs x f many h.0)
same_result vs ws xs (Join x y) f many h =
    ap (λ n. n * 2 ^ y.width + word_on xs y) (same_word vs ws xs x f many h.0)
    ∙ ap (λ n. word_on ws x * 2 ^ y.width + n) (same_word vs ws xs y f many h.1)
same_result vs ws xs (Choose c x y) f many h =
    ap (λ n. if n == 1 then word_on xs x else word_on xs y) (same_word vs ws xs c f many h.0.is_net)
    ∙ ap (λ n. if word_on ws c == 1 then n else word_on xs y) (same_word vs ws xs x f many h.1)
    ∙ ap (λ n. if word_on ws c == 1 then word_on ws x else n) (same_word vs ws xs y f many h.2)
same_result vs ws xs (Table x width rows) f many h = ap (λ n. slice_index rows n) (same_word vs ws xs x f many h.0)

settles : (vs : Widths) (ws : Words) (es : List Expression) (k : ℕ) (e : Expression) → AreWires vs es → length ws.wires ≡ length vs.wires
    → slice_get es k ≡ Some e → slice_index (with_wires ws es).wires (length ws.wires + k) ≡ result_of (with_wires ws es) e
settles vs ws [] k e a many h = cc
settles vs ws (x ∷ es) zero e a many h =
    let is : x ≡ e = some_same x e h in
    let made = result_of ws x in
    let longer = one_longer ws.wires made in
    let next = further (with_word ws made) es in
    let up : length ws.wires + 0 ≡ length ws.wires = omega arith in
    ap (λ j. slice_index (with_wires (with_word ws made) es).wires j) up
    ∙ next.wires (length ws.wires) (omega (arith, longer)) ∙ index_at ws.wires made
    ∙ sym (same_result vs ws (with_wires ws (x ∷ es)) x (further ws (x ∷ es)) many a.0)
    ∙ ap (λ y. result_of (with_wires ws (x ∷ es)) y) is
settles vs ws (x ∷ es) (suc k) e a many h =
    let made = result_of ws x in
    let longer = one_longer ws.wires made in
    let wider = one_longer vs.wires (width_of x) in
    let up : length ws.wires + suc k ≡ length (with_word ws made).wires + k = omega (arith, longer) in
    ap (λ j. slice_index (with_wires (with_word ws made) es).wires j) up
    ∙ settles (record vs { wires = vs.wires ++ width_of x ∷ [] }) (with_word ws made) es k e a.1 (omega (arith, longer, wider, many)) h

pub logic_settles : LogicSettles
logic_settles n h inputs c = record {
  whole = refl;
  wires = λ k e at.
      let up : k ≡ 0 + k = omega arith in
      ap (λ j. slice_index (words_of n inputs c).wires j) up
      ∙ settles (widths_before 0 n) (words_with inputs c []) n.wires k e h.wires refl at;
}
