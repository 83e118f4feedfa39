-- Arguments become local variables.
use Rattle.std.proofs.Common.{◌≡◌, ℕ, zero, suc, ◌+◌, List, [], ◌∷◌, ◌++◌, Some, length, reverse, refl, ◌∙◌, ap, subst, arith}
use mathlib.Core.List.{reverse_aux, reverse_aux-eq}
use Rattle.std.proofs.lemmas.Option.{none-some}
use Rattle.std.proofs.lemmas.List.{append-nil, length-reverse}
use Rattle.lists.proofs.Lemmas.{onto_some, some_same}
use Rattle.bytecode_model.specs.declared.Value.{Value}
use Rattle.bytecode_model.specs.declared.Value.TheVariants.{Int, Long, Ref, Null, Unset}
use Rattle.bytecode_model.specs.Types.{is_long}
use Rattle.bytecode_model.specs.Slots.{spread, padded}
use Rattle.machine_stands.specs.Frames.{AreLocals, AreOperands}
use Rattle.machine_stands.specs.Calling.{Passed}
use Rattle.machine_stands.specs.Operands.{Parts}
use Rattle.machine_stands.proofs.Counting.{locals_count}

-- ---- the words of some operands, and of the others

one_more : (place : ℕ → ℕ) (v : Value) (vs rest : List Value) (w : ℕ) (ws : List ℕ) → ((us : List ℕ) → AreOperands place vs us → AreOperands place (v ∷ vs) (w ∷ us)) → Parts place vs rest ws
    → Parts place (v ∷ vs) rest (w ∷ ws)
one_more place v vs rest w ws more a = record { upper_words = w ∷ a.upper_words; lower_words = a.lower_words; split = ap (λ (us : List ℕ). w ∷ us) a.split; are_upper = more a.upper_words a.are_upper; are_lower = a.are_lower }

pub apart : (place : ℕ → ℕ) (taken rest : List Value) (words : List ℕ) → AreOperands place (taken ++ rest) words → Parts place taken rest words
apart place [] rest words h = record { upper_words = []; lower_words = words; split = refl; are_upper = tt; are_lower = h }
apart place (Int n ∷ vs) rest [] h = absurd h
apart place (Long n ∷ vs) rest [] h = absurd h
apart place (Ref p ∷ vs) rest [] h = absurd h
apart place (Null ∷ vs) rest [] h = absurd h
apart place (Unset ∷ vs) rest [] h = absurd h
apart place (Long n ∷ vs) rest (w ∷ []) h = absurd h.0
apart place (Long n ∷ vs) rest (low ∷ high ∷ ws) h =
    let a = apart place vs rest ws h.2 in
    record { upper_words = low ∷ high ∷ a.upper_words; lower_words = a.lower_words; split = ap (λ (us : List ℕ). low ∷ high ∷ us) a.split; are_upper = (h.0, h.1, a.are_upper); are_lower = a.are_lower }
apart place (Int n ∷ vs) rest (w ∷ ws) h = one_more place (Int n) vs rest w ws (λ us q. (h.0, q)) (apart place vs rest ws h.1)
apart place (Ref p ∷ vs) rest (w ∷ ws) h = one_more place (Ref p) vs rest w ws (λ us q. (h.0, q)) (apart place vs rest ws h.1)
apart place (Null ∷ vs) rest (w ∷ ws) h = one_more place Null vs rest w ws (λ us q. (h.0, q)) (apart place vs rest ws h.1)
apart place (Unset ∷ vs) rest (w ∷ ws) h = one_more place Unset vs rest w ws (λ us q. (h.0, q)) (apart place vs rest ws h.1)

-- ---- operands, in the opposite order, as local variables

turned : (place : ℕ → ℕ) (taken done : List Value) (words below : List ℕ) → AreOperands place taken words → AreLocals place (spread is_long Unset done) below
    → AreLocals place (spread is_long Unset (reverse_aux taken done)) (reverse_aux words below)
turned place [] done [] below h g = g
turned place [] done (w ∷ ws) below h g = absurd h
turned place (Int n ∷ vs) done [] below h g = absurd h
turned place (Long n ∷ vs) done [] below h g = absurd h
turned place (Ref p ∷ vs) done [] below h g = absurd h
turned place (Null ∷ vs) done [] below h g = absurd h
turned place (Unset ∷ vs) done [] below h g = absurd h
turned place (Long n ∷ vs) done (w ∷ []) below h g = absurd h.0
turned place (Long n ∷ vs) done (low ∷ high ∷ ws) below h g = turned place vs (Long n ∷ done) ws (high ∷ low ∷ below) h.2 (h.1, h.0, g)
turned place (Int n ∷ vs) done (w ∷ ws) below h g = turned place vs (Int n ∷ done) ws (w ∷ below) h.1 (h.0, g)
turned place (Ref p ∷ vs) done (w ∷ ws) below h g = turned place vs (Ref p ∷ done) ws (w ∷ below) h.1 (h.0, g)
turned place (Null ∷ vs) done (w ∷ ws) below h g = turned place vs (Null ∷ done) ws (w ∷ below) h.1 (h.0, g)
turned place (Unset ∷ vs) done (w ∷ ws) below h g = turned place vs (Unset ∷ done) ws (w ∷ below) h.1 (h.0, g)

-- ---- further local variables, which are unset

unset_ones : (place : ℕ → ℕ) (n : ℕ) (locals : List Value) (more : List ℕ) → padded Unset n [] ≡ Some locals → length more ≡ n → AreLocals place locals more
unset_ones place zero locals [] h c = subst (λ (vs : List Value). AreLocals place vs []) (some_same [] locals h) tt
unset_ones place zero locals (w ∷ ws) h c = absurd (omega (arith, c))
unset_ones place (suc n) locals [] h c = absurd (omega (arith, c))
unset_ones place (suc n) locals (w ∷ ws) h c =
    let r = onto_some (padded Unset n []) (λ vs. Some (Unset ∷ vs)) locals h in
    subst (λ (vs : List Value). AreLocals place vs (w ∷ ws)) (some_same (Unset ∷ r.0) locals r.2) (tt, unset_ones place n r.0 ws r.1 (omega (arith, c)))

-- one local variable before others
before : (place : ℕ → ℕ) (v : Value) (n : ℕ) (vs locals : List Value) (w : ℕ) (ws : List ℕ) → padded Unset (suc n) (v ∷ vs) ≡ Some locals
    → ((ls : List Value) → padded Unset n vs ≡ Some ls → AreLocals place (v ∷ ls) (w ∷ ws)) → AreLocals place locals (w ∷ ws)
before place v n vs locals w ws h go =
    let r = onto_some (padded Unset n vs) (λ us. Some (v ∷ us)) locals h in
    subst (λ (us : List Value). AreLocals place us (w ∷ ws)) (some_same (v ∷ r.0) locals r.2) (go r.0 r.1)

none_padded : (v : Value) (vs locals : List Value) → padded Unset zero (v ∷ vs) ≡ Some locals → ⊥
none_padded v vs locals h = none-some locals h

filled : (place : ℕ → ℕ) (n : ℕ) (vs locals : List Value) (words more : List ℕ) → AreLocals place vs words → padded Unset n vs ≡ Some locals → length words + length more ≡ n
    → AreLocals place locals (words ++ more)
filled place n [] locals [] more h g c = unset_ones place n locals more g (omega (arith, c))
filled place n [] locals (w ∷ ws) more h g c = absurd h
filled place zero (v ∷ vs) locals words more h g c = absurd (none_padded v vs locals g)
filled place (suc n) (v ∷ vs) locals [] more h g c = absurd (omega (arith, locals_count place (v ∷ vs) [] h))
filled place (suc n) (Int k ∷ vs) locals (w ∷ ws) more h g c = before place (Int k) n vs locals w (ws ++ more) g (λ ls q. (h.0, filled place n vs ls ws more h.1 q (omega (arith, c))))
filled place (suc n) (Ref p ∷ vs) locals (w ∷ ws) more h g c = before place (Ref p) n vs locals w (ws ++ more) g (λ ls q. (h.0, filled place n vs ls ws more h.1 q (omega (arith, c))))
filled place (suc n) (Null ∷ vs) locals (w ∷ ws) more h g c = before place Null n vs locals w (ws ++ more) g (λ ls q. (h.0, filled place n vs ls ws more h.1 q (omega (arith, c))))
filled place (suc n) (Unset ∷ vs) locals (w ∷ ws) more h g c = before place Unset n vs locals w (ws ++ more) g (λ ls q. (h.0, filled place n vs ls ws more h.1 q (omega (arith, c))))
filled place (suc n) (Long k ∷ []) locals (w ∷ ws) more h g c = absurd h.0
filled place (suc n) (Long k ∷ Int j ∷ vs) locals (w ∷ ws) more h g c = absurd h.0
filled place (suc n) (Long k ∷ Long j ∷ vs) locals (w ∷ ws) more h g c = absurd h.0
filled place (suc n) (Long k ∷ Ref j ∷ vs) locals (w ∷ ws) more h g c = absurd h.0
filled place (suc n) (Long k ∷ Null ∷ vs) locals (w ∷ ws) more h g c = absurd h.0
filled place (suc n) (Long k ∷ Unset ∷ vs) locals (w ∷ []) more h g c = absurd h.0
filled place (suc zero) (Long k ∷ Unset ∷ vs) locals (high ∷ low ∷ ws) more h g c = absurd (omega (arith, c))
filled place (suc (suc n)) (Long k ∷ Unset ∷ vs) locals (high ∷ low ∷ ws) more h g c =
    let r = onto_some (padded Unset (suc n) (Unset ∷ vs)) (λ us. Some (Long k ∷ us)) locals g in
    let t = onto_some (padded Unset n vs) (λ us. Some (Unset ∷ us)) r.0 r.1 in
    let rest = filled place n vs t.0 ws more h.2 t.1 (omega (arith, c)) in
    let is : Long k ∷ Unset ∷ t.0 ≡ locals = ap (λ (us : List Value). Long k ∷ us) (some_same (Unset ∷ t.0) r.0 t.2) ∙ some_same (Long k ∷ r.0) locals r.2 in
    subst (λ (us : List Value). AreLocals place us (high ∷ low ∷ (ws ++ more))) is (h.0, h.1, rest)

-- ---- all of it

pub arguments_passed : (place : ℕ → ℕ) (taken rest : List Value) (words : List ℕ) (size : ℕ) (locals : List Value) → AreOperands place (taken ++ rest) words
    → padded Unset size (spread is_long Unset (reverse taken)) ≡ Some locals → Passed place rest words size locals
arguments_passed place taken rest words size locals h g =
    let a = apart place taken rest words h in
    let around : reverse_aux a.upper_words [] ≡ reverse a.upper_words = reverse_aux-eq a.upper_words [] ∙ append-nil (reverse a.upper_words) in
    let values : reverse_aux taken [] ≡ reverse taken = reverse_aux-eq taken [] ∙ append-nil (reverse taken) in
    let first = subst (λ (ws : List ℕ). AreLocals place (spread is_long Unset (reverse taken)) ws) around
    (subst (λ (vs : List Value). AreLocals place (spread is_long Unset vs) (reverse_aux a.upper_words [])) values (turned place taken [] a.upper_words [] a.are_upper tt)) in
    record {
      arguments = a.upper_words;
      others = a.lower_words;
      split = a.split;
      stay = a.are_lower;
      become = λ more c. filled place size (spread is_long Unset (reverse taken)) locals (reverse a.upper_words) more first g (omega (arith, length-reverse a.upper_words, c));
    }
