-- The groups of binary operations are all of them.
use Rattle.std.proofs.Common.{◌≡◌, ℕ, ◌^◌, Bool, true, false, List, [], ◌∷◌, if◌then◌else◌, refl, nat_lt, ltb-true}
use Rattle.std.specs.Prelude.{◌&&◌, ◌==◌}
use Rattle.std.specs.List.{list_any}
use Rattle.jop_core.specs.Operations.{combined}
use Rattle.microcode.specs.declared.isa.operation.Operation.TheVariants.{Add, Sub, And, Or, Xor, Shl, Shr, Ushr, Mul, Slt, Sltu}
use Rattle.microcode.specs.Isa.Operations.{operation_of}
use Rattle.circuit_cycles.specs.Words.{bits_of, is_binary}
use Rattle.circuit_cycles.specs.Core.{Core, top}
use Rattle.circuit_core.specs.Choices.{shifted, compared, bitwise, calculated}
use Rattle.circuit_core.specs.Decoding.{picked}
use Rattle.circuit_core.proofs.Choosing.{AllBelow, each}

-- x where the code is one of these, else y, of a word that is plain or isn't
abbrev among : (t : Bool) (k : ℕ) → List ℕ → (x y : ℕ) → ℕ
among t k codes x y = if t && list_any (λ code. k == code) codes then x else y

abbrev by_group : (t : Bool) (k b a : ℕ) → ℕ
by_group t k b a =
    among t k (8 ∷ 9 ∷ 10 ∷ []) (among t k (8 ∷ []) (combined Shl b a) (among t k (9 ∷ []) (combined Shr b a) (combined Ushr b a)))
    (among t k (12 ∷ 13 ∷ []) (among t k (12 ∷ []) (combined Slt b a) (combined Sltu b a))
    (among t k (5 ∷ 6 ∷ 7 ∷ []) (among t k (5 ∷ []) (combined And b a) (among t k (6 ∷ []) (combined Or b a) (combined Xor b a)))
    (among t k (3 ∷ 4 ∷ 11 ∷ []) (among t k (3 ∷ []) (combined Add b a) (among t k (4 ∷ []) (combined Sub b a) (combined Mul b a))) b)))

abbrev by_name : (t : Bool) (k b a : ℕ) → ℕ
by_name t k b a = if t && is_binary (operation_of k) then combined (operation_of k) b a else b

each_code : (b a : ℕ) → AllBelow (λ k. by_group true k b a ≡ by_name true k b a) (2 ^ 6)
each_code b a = (
  refl,
  (
    refl,
    (
      refl,
      (
        refl,
        (
          refl,
          (
            refl,
            (
              refl,
              (
                refl,
                (
                  refl,
                  (
                    refl,
                    (
                      refl,
                      (
                        refl,
                        (
                          refl,
                          (
                            refl,
                            (
                              refl,
                              (
                                refl,
                                (
                                  refl,
                                  (
                                    refl,
                                    (
                                      refl,
                                      (
                                        refl,
                                        (
                                          refl,
                                          (
                                            refl,
                                            (
                                              refl,
                                              (
                                                refl,
                                                (
                                                  refl,
                                                  (
                                                    refl,
                                                    (
                                                      refl,
                                                      (
                                                        refl,
                                                        (
                                                          refl,
                                                          (
                                                            refl,
                                                            (
                                                              refl,
                                                              (
                                                                refl,
                                                                (
                                                                  refl,
                                                                  (
                                                                    refl,
                                                                    (
                                                                      refl,
                                                                      (
                                                                        refl,
                                                                        (
                                                                          refl,
                                                                          (
                                                                            refl,
                                                                            (
                                                                              refl,
                                                                              (
                                                                                refl,
                                                                                (
                                                                                  refl,
                                                                                  (
                                                                                    refl,
                                                                                    (
                                                                                      refl,
                                                                                      (
                                                                                        refl,
                                                                                        (
                                                                                          refl,
                                                                                          (
                                                                                            refl,
                                                                                            (
                                                                                              refl,
                                                                                              (
                                                                                                refl,
                                                                                                (
                                                                                                  refl,
                                                                                                  (
                                                                                                    refl,
                                                                                                    (
                                                                                                      refl,
                                                                                                      (
                                                                                                        refl,
                                                                                                        (
                                                                                                          refl,
                                                                                                          (
                                                                                                            refl,
                                                                                                            (
                                                                                                              refl,
                                                                                                              (
                                                                                                                refl,
                                                                                                                (
                                                                                                                  refl,
                                                                                                                  (
                                                                                                                    refl,
                                                                                                                    (
                                                                                                                      refl,
                                                                                                                      (
                                                                                                                        refl,
                                                                                                                        (refl, (refl, (refl, (refl, tt)))),
                                                                                                                      ),
                                                                                                                    ),
                                                                                                                  ),
                                                                                                                ),
                                                                                                              ),
                                                                                                            ),
                                                                                                          ),
                                                                                                        ),
                                                                                                      ),
                                                                                                    ),
                                                                                                  ),
                                                                                                ),
                                                                                              ),
                                                                                            ),
                                                                                          ),
                                                                                        ),
                                                                                      ),
                                                                                    ),
                                                                                  ),
                                                                                ),
                                                                              ),
                                                                            ),
                                                                          ),
                                                                        ),
                                                                      ),
                                                                    ),
                                                                  ),
                                                                ),
                                                              ),
                                                            ),
                                                          ),
                                                        ),
                                                      ),
                                                    ),
                                                  ),
                                                ),
                                              ),
                                            ),
                                          ),
                                        ),
                                      ),
                                    ),
                                  ),
                                ),
                              ),
                            ),
                          ),
                        ),
                      ),
                    ),
                  ),
                ),
              ),
            ),
          ),
        ),
      ),
    ),
  ),
)

same : (k b a : ℕ) (t : Bool) → nat_lt k (2 ^ 6) ≡ t → by_group t k b a ≡ by_name t k b a
same k b a true h = each (λ j. by_group true j b a ≡ by_name true j b a) (2 ^ 6) (each_code b a) k (ltb-true k (2 ^ 6) h)
same k b a false h = refl

pub combines : (c : Core) → picked (8 ∷ 9 ∷ 10 ∷ []) c.word (shifted c) (picked (12 ∷ 13 ∷ []) c.word (compared c)
    (picked (5 ∷ 6 ∷ 7 ∷ []) c.word (bitwise c) (picked (3 ∷ 4 ∷ 11 ∷ []) c.word (calculated c) c.b))) ≡ top c
combines c = same (bits_of c.word) c.b c.a (nat_lt (bits_of c.word) (2 ^ 6)) refl
